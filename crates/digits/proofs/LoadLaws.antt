-- A word as it is loaded, and with its characters in the other order. Assumes nothing.
use mathlib.Core.Path.{◌≡◌, refl, sym, ap, ◌∙◌}
use mathlib.Core.Bool.{Bool, true, ◌&&◌, and-true, and_assoc, and_comm}
use mathlib.Core.List.{List, [], ◌∷◌, map, reverse, reverse_aux}
use Prim.Native.Nat.{ℕ, ◌^◌, ◌<◌}
use lib.ListN.{length, get_or}
use mir.Syntax.{w8, w64}
use mir.Val.{Fits}
use Rattle.std.specs.Int.{to_le_bytes, swap_bytes}
use Rattle.laws.proofs.Lists.{tabulate, tabulated}
use Rattle.digits.specs.Digits.{is_digit, digit_value, are_digits}
use Rattle.digits.specs.Numbers.{AreBytes, number_of}
use Rattle.digits.specs.Word.{CHARACTERS, characters_in}
use Rattle.digits.specs.bounds.Found.{value_in, each_in}
use Rattle.digits.specs.bounds.Loaded.{loaded_in}
use Rattle.digits.proofs.LibraryLaws.{from_bytes, to_bytes}
use Rattle.digits.proofs.NumberLaws.{number_back, number_bytes_are}
use Rattle.digits.proofs.WordDigits.{values, values_are}
use Rattle.digits.proofs.WordLaws.{characters_of}

are_turned : (xs ys : List ℕ) → AreBytes xs → AreBytes ys → AreBytes (reverse_aux xs ys)
are_turned [] ys A B = B
are_turned (x ∷ xs) ys A B = are_turned xs (x ∷ ys) A.1 (A.0, B)

-- ---- turned

pub turned : (w : ℕ) → w < 2 ^ 64 → characters_in (swap_bytes w64 w) ≡ loaded_in w
unfolding characters_in
turned w h =
    ap characters_in (from_bytes w64 (to_le_bytes w64 w) refl ∙ ap (λ (bs : List ℕ). number_of (reverse bs)) (to_bytes w64 w h))
    ∙ characters_of (loaded_in w) refl (are_turned (characters_in w) [] (number_bytes_are 8 w h) tt)

-- ---- loaded

-- the number of eight bytes, the last highest
pub loaded : (cs : List ℕ) (n : ℕ) → length cs ≡ CHARACTERS → ((i : ℕ) → Fits w8 (get_or cs i 0)) → n ≡ number_of (reverse (tabulate CHARACTERS (λ i. get_or cs i 0)))
    → loaded_in n ≡ cs
unfolding characters_in
loaded cs n e fit is =
    ap loaded_in is
    ∙ ap reverse
    (characters_of (reverse (tabulate CHARACTERS (λ i. get_or cs i 0))) refl
    ((fit 7).fits, ((fit 6).fits, ((fit 5).fits, ((fit 4).fits, ((fit 3).fits, ((fit 2).fits, ((fit 1).fits, ((fit 0).fits, tt)))))))))
    ∙ sym (tabulated CHARACTERS cs e)

-- ---- digits

digits_turned : (xs ys : List ℕ) → are_digits (reverse_aux xs ys) ≡ (are_digits xs && are_digits ys)
unfolding are_digits
digits_turned [] ys = refl
digits_turned (x ∷ xs) ys =
    digits_turned xs (x ∷ ys) ∙ sym (and_assoc (are_digits xs) (is_digit x) (are_digits ys)) ∙ ap (λ (t : Bool). t && are_digits ys) (and_comm (are_digits xs) (is_digit x))

-- the test does not go by the order
pub loaded_digits : (w : ℕ) → are_digits (characters_in w) ≡ are_digits (loaded_in w)
unfolding are_digits
loaded_digits w = sym (digits_turned (characters_in w) [] ∙ and-true (are_digits (characters_in w)))

-- what the digits stand for, turned, is what they stand for in their order
pub loaded_values : (w t : ℕ) → are_digits (loaded_in w) ≡ true → characters_in t ≡ loaded_in (each_in value_in w) → t ≡ number_of (map digit_value (loaded_in w))
unfolding characters_in
loaded_values w t d e =
    sym (number_back 7 t)
    ∙ ap number_of (e ∙ ap reverse (characters_of (map value_in (characters_in w)) refl (values_are (characters_in w))) ∙ values (loaded_in w) d)
