-- `fourth` meets its contract: the fourth power of 16 bits fits 64.
use Rattle.std.proofs.Common.{◌≤◌, arith, lit<}
use native.Mathlib.Nat.{lt_of_le_of_lt, pow-le-pow_left}
use Rattle.difference.proofs.root.fourth.Goals as goal

pub pow-requires : goal.pow-requires
pow-requires c =
    let small : c.args.q ≤ 65535 = omega arith in
    lt_of_le_of_lt (pow-le-pow_left small 4) (lit< tt)
