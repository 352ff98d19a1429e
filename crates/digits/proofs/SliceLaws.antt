-- What is answered of digits and bytes, and what the lent slice then holds, case by case. Assumes nothing.
use Prim.Native.Nat.{ℕ, ◌*◌, ◌<◌, ◌≤◌}
use mathlib.Core.Path.{◌≡◌, sym, ap, ◌∙◌}
use mathlib.Core.Bool.{Bool, true, false, cond}
use mathlib.Core.List.{List, ◌++◌}
use native.Mathlib.Omega.{arith}
use borrow.Author.Tests.{le-leb, lt-leb, eq-eqb}
use lib.ListN.{length, drop}
use lib.Seq.{take_all}
use Rattle.digits.specs.Digits.{are_digits, bytes_of, digits_of}
use Rattle.digits.specs.Slices.{readable, bytes_after, has_room, digits_after}
use Rattle.digits.proofs.LoopLaws.{written_to}

-- ---- reading

module _ (digits bytes : List ℕ) where
  by_readable : (b : Bool) → readable digits bytes ≡ b → (b ≡ readable digits bytes) × (cond b (bytes_of digits) bytes ≡ bytes_after digits bytes)
  unfolding bytes_after
  by_readable b e = (sym e, ap (λ (r : Bool). cond r (bytes_of digits) bytes) (sym e))

  pub no_digits : length digits ≡ 2 * length bytes → are_digits digits ≡ false → (false ≡ readable digits bytes) × (bytes ≡ bytes_after digits bytes)
  unfolding readable
  no_digits l e = by_readable false (rw (eq-eqb (length digits) (2 * length bytes) l, e))

  pub all_digits : length digits ≡ 2 * length bytes → are_digits digits ≡ true → (true ≡ readable digits bytes) × (bytes_of digits ≡ bytes_after digits bytes)
  unfolding readable
  all_digits l e = by_readable true (rw (eq-eqb (length digits) (2 * length bytes) l, e))

-- ---- for who calls: what was answered says what the slice holds

module _ (digits bytes : List ℕ) where
  pub readable_digits : length digits ≡ 2 * length bytes → readable digits bytes ≡ are_digits digits
  unfolding readable
  readable_digits l = rw (eq-eqb (length digits) (2 * length bytes) l)

  pub read_bytes : readable digits bytes ≡ true → bytes_after digits bytes ≡ bytes_of digits
  unfolding bytes_after
  read_bytes e = rw e

-- ---- writing

module _ (bytes buffer : List ℕ) where
  by_room : (b : Bool) → has_room bytes buffer ≡ b → (b ≡ has_room bytes buffer) × (cond b (digits_of bytes ++ drop (2 * length bytes) buffer) buffer ≡ digits_after bytes buffer)
  unfolding digits_after
  by_room b e = (sym e, ap (λ (r : Bool). cond r (digits_of bytes ++ drop (2 * length bytes) buffer) buffer) (sym e))

  pub no_room : length buffer < 2 * length bytes → (false ≡ has_room bytes buffer) × (buffer ≡ digits_after bytes buffer)
  unfolding has_room
  no_room h = by_room false (lt-leb (2 * length bytes) (length buffer) h)

  pub written_digits : 2 * length bytes ≤ length buffer → digits_after bytes buffer ≡ digits_of bytes ++ drop (2 * length bytes) buffer
  unfolding has_room digits_after
  written_digits h = rw (le-leb (2 * length bytes) (length buffer) h)

  pub written_all : (i : ℕ) (after : List ℕ) → i ≡ length bytes → 2 * length bytes ≤ length buffer → after ≡ written_to bytes buffer i
      → (true ≡ has_room bytes buffer) × (after ≡ digits_after bytes buffer)
  unfolding has_room
  written_all i after e h w =
      let p = by_room true (le-leb (2 * length bytes) (length buffer) h) in
      (p.0, w ∙ ap (written_to bytes buffer) e ∙ ap (λ (l : List ℕ). digits_of l ++ drop (2 * length bytes) buffer) (take_all (length bytes) bytes (omega arith)) ∙ p.1)
