-- The numbers at a place of a list: those at the start of what stands from there on; and signed ones, as std casts them. Assumes nothing.
use Prim.Native.Nat.{ℕ, ◌^◌, ◌<◌, min}
use mathlib.Core.Path.{◌≡◌, sym, ap, ◌∙◌}
use mathlib.Core.List.{List}
use mathlib.Core.Logic.{⊎_elim}
use native.Mathlib.Nat.{add-zero}
use native.Mathlib.Omega.{arith}
use borrow.Author.Tests.{leb-true, leb-false}
use lib.Dec.{leb}
use lib.ListN.{length, drop, drop_of_length-le}
use lib.Seq.{get_or-drop}
use mir.Syntax.{w16, w32}
use mir.Val.{to_z}
use Rattle.laws.proofs.Bools.{either}
use Rattle.digits.specs.Numbers.{one_at, two_at, four_at}
use Rattle.digits.specs.Signed.{half, signed_by}
use Rattle.digits.proofs.LibraryLaws.{signed_is}

pub drop_least : (bytes : List ℕ) (i : ℕ) → drop (min i (length bytes)) bytes ≡ drop i bytes
drop_least bytes i =
    ⊎_elim (λ t. let e : min i (length bytes) ≡ i = omega (arith, leb-true i (length bytes) t) in ap (λ (n : ℕ). drop n bytes) e)
    (λ t.
    let past = leb-false i (length bytes) t in
    drop_of_length-le bytes (omega arith) ∙ sym (drop_of_length-le bytes (omega arith)))
    (either (leb i (length bytes)))

module _ (bytes : List ℕ) (i : ℕ) where
  first : one_at (drop i bytes) 0 ≡ one_at bytes i
  first = get_or-drop i bytes 0 0 ∙ ap (one_at bytes) (add-zero i)

  pub two_from : two_at (drop i bytes) 0 ≡ two_at bytes i
  two_from = rw (first, get_or-drop i bytes 1 0)

  pub four_from : four_at (drop i bytes) 0 ≡ four_at bytes i
  four_from = rw (first, get_or-drop i bytes 1 0, get_or-drop i bytes 2 0, get_or-drop i bytes 3 0)

pub signed_two : (n : ℕ) → n < 2 ^ 16 → to_z w16 n ≡ signed_by (half 2) n
signed_two = signed_is w16

pub signed_four : (n : ℕ) → n < 2 ^ 32 → to_z w32 n ≡ signed_by (half 4) n
signed_four = signed_is w32
