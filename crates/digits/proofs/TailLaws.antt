-- A tail of fewer than eight characters filled up with the digit 0: the fill is of digits, and what it writes comes after what the tail writes.
-- Assumes nothing.
use Prim.Native.Nat.{ℕ, zero, suc, ◌-◌, ◌*◌}
use mathlib.Core.Path.{◌≡◌, refl, sym, ap, ◌∙◌}
use mathlib.Core.Bool.{Bool, true, ◌&&◌, and-true}
use mathlib.Core.List.{List, ◌++◌}
use lib.ListN.{length, take, replicate}
use lib.Seq.{take-append_seam}
use Rattle.digits.specs.Digits.{ZERO, is_digit, are_digits, bytes_of}
use Rattle.digits.specs.Word.{CHARACTERS}
use Rattle.digits.specs.bounds.Loaded.{filled}
use Rattle.digits.proofs.ByteLaws.{length_bytes_of}
use Rattle.digits.proofs.LoopLaws.{parts, bytes_of_append}

fill_digits : (n : ℕ) → are_digits (replicate n ZERO) ≡ true
unfolding are_digits is_digit
fill_digits zero = refl
fill_digits (suc n) = fill_digits n

pub filled_digits : (tail : List ℕ) → are_digits (filled tail) ≡ are_digits tail
filled_digits tail =
    parts tail (replicate (CHARACTERS - length tail) ZERO)
    ∙ ap (λ (t : Bool). are_digits tail && t) (fill_digits (CHARACTERS - length tail))
    ∙ and-true (are_digits tail)

pub filled_bytes : (tail : List ℕ) (n : ℕ) → length tail ≡ 2 * n → take n (bytes_of (filled tail)) ≡ bytes_of tail
filled_bytes tail n e =
    let fill = bytes_of (replicate (CHARACTERS - length tail) ZERO) in
    ap (take n) (bytes_of_append n tail (replicate (CHARACTERS - length tail) ZERO) e)
    ∙ ap (λ (i : ℕ). take i (bytes_of tail ++ fill)) (sym (length_bytes_of tail n e))
    ∙ take-append_seam (bytes_of tail) fill
