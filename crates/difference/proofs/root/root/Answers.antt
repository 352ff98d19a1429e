-- `root` meets its contract: after the first loop the fourth power is within the bound, and after the second the next one is not.
use Rattle.std.proofs.Common.{◌+◌, ◌^◌, ◌≤◌, ◌<◌, ℕ, arith, subst, add-one}
use Rattle.difference.specs.Difference.{rooted}
use Rattle.difference.proofs.Largest.{unique}
use Rattle.difference.proofs.Fourth.{root_small, root_right}
use Rattle.difference.proofs.root.root.Goals as goal

pub loop-q-2-init : goal.loop-q-2-init
loop-q-2-init c =
    let within : c.loop-q.q ^ 4 ≤ rooted c.args.m = omega arith in
    record { within = within; small = root_small _ _ c.requires within }

pub returns : goal.returns
returns c =
    let above : rooted c.args.m < (c.loop-q-2.q + 1) ^ 4 = omega arith in
    unique 4 (rooted c.args.m)
    (record { within = c.loop-q-2.invariant.within; next = subst (λ (n : ℕ). rooted c.args.m < n ^ 4) (add-one c.loop-q-2.q) above })
    (root_right c.args.m c.requires)
