-- The step's arithmetic, for every word: no lane is wrong exactly when all eight characters are digits, and then the joined values are the number
-- of the four bytes that they write. Assumes nothing.
use mathlib.Core.Path.{◌≡◌, refl, sym, ap, ap₂, ◌∙◌, subst}
use mathlib.Core.Bool.{true}
use mathlib.Core.List.{List, [], ◌∷◌, map, map-id}
use Prim.Native.Nat.{ℕ, ◌+◌, ◌*◌, ◌/◌, ◌^◌, ◌<◌, ◌≤◌}
use native.Mathlib.Omega.{arith}
use lib.Dec.{eqb}
use lib.ListN.{length}
use lib.Bits.{bit_and, bit_or, bit_xor, mask_lt}
use Rattle.laws.proofs.Bools.{and_both}
use Rattle.laws.proofs.Joins.{number, paired, seconds, Even, join, paired_lt}
use Rattle.laws.proofs.Lanes.{AllOf}
use Rattle.digits.specs.Digits.{is_digit, are_digits, digit_value, bytes_of}
use Rattle.digits.specs.Numbers.{AreBytes, number_of}
use Rattle.digits.specs.Word.{CHARACTERS, characters_in}
use Rattle.digits.specs.bounds.Found.{LETTER, letter_in, value_in, each_in, FourBy}
use Rattle.digits.proofs.DigitLaws.{digit_lt}
use Rattle.digits.proofs.NumberLaws.{bytes_back_at}
use Rattle.digits.proofs.WordLanes.{SECOND_BYTES, SECOND_PAIRS, SECOND_HALF, SIX_FOUR, ADDED, UPPER, number_row, each_row, word_row, characters_lt}
use Rattle.digits.proofs.WordDigits.{none_wrong, values_lt, letter_row, value_row, wrong_row, at_most, paired_bytes}

-- ---- what the code computes

-- a byte in each place of a word
abbrev everywhere : ℕ → ℕ
everywhere b = b * 0x0101_0101_0101_0101

abbrev pub wrong_of : ℕ → ℕ → ℕ → ℕ
wrong_of w l v = bit_and (bit_or (bit_xor (bit_xor w (SIX_FOUR * l)) (v + everywhere ADDED)) v) (everywhere UPPER)

-- neighbouring lanes joined: half as many, twice as wide
abbrev halved : ℕ → ℕ → ℕ → ℕ
halved c mask x = bit_and (bit_or x (x / 2 ^ c)) mask

abbrev pub four_of : ℕ → ℕ
four_of v = halved 16 SECOND_HALF (halved 8 SECOND_PAIRS (halved 4 SECOND_BYTES v))

pub four_lt : (v : ℕ) → four_of v < 2 ^ 32
four_lt v = let x = halved 8 SECOND_PAIRS (halved 4 SECOND_BYTES v) in mask_lt (bit_or x (x / 2 ^ 16)) 32

-- the values joined three times, for as many values as the masks have lanes
joins : (vs : List ℕ) → Even vs → Even (paired 4 vs) → Even (paired 8 (paired 4 vs)) → AllOf (λ v. v < 16) vs
    → halved 16 (seconds 32 0 (paired 8 (paired 4 vs))) (halved 8 (seconds 16 0 (paired 4 vs)) (halved 4 (seconds 8 0 vs) (number 8 0 vs)))
    ≡ number 64 0 (paired 16 (paired 8 (paired 4 vs)))
joins vs e₁ e₂ e₃ p =
    let p₂ = paired_lt 4 vs p in
    ap (λ (x : ℕ). halved 16 (seconds 32 0 (paired 8 (paired 4 vs))) (halved 8 (seconds 16 0 (paired 4 vs)) x)) (join 4 vs e₁ p 0 0)
    ∙ ap (λ (x : ℕ). halved 16 (seconds 32 0 (paired 8 (paired 4 vs))) x) (join 8 (paired 4 vs) e₂ p₂ 0 0)
    ∙ join 16 (paired 8 (paired 4 vs)) e₃ (paired_lt 8 (paired 4 vs) p₂) 0 0

-- ---- and what that is

module _ (w : ℕ) (h : w < 2 ^ 64) where
  abbrev cs : List ℕ
  cs = characters_in w

  pub letters_is : bit_and (w / 64) 0x0101_0101_0101_0101 ≡ each_in letter_in w
  unfolding characters_in
  letters_is = ap (λ (x : ℕ). bit_and (x / 64) 0x0101_0101_0101_0101) (word_row w) ∙ letter_row cs (characters_lt w h) ∙ sym (each_row letter_in w)

  pub letters_le : each_in letter_in w ≤ 0x0101_0101_0101_0101
  unfolding characters_in
  letters_le = rw (each_row letter_in w) (at_most cs (characters_lt w h) letter_in 1 refl)

  pub values_is : bit_and w 0x0f0f_0f0f_0f0f_0f0f + LETTER * each_in letter_in w ≡ each_in value_in w
  unfolding characters_in
  values_is =
      ap₂ (λ (x y : ℕ). bit_and x 0x0f0f_0f0f_0f0f_0f0f + LETTER * y) (word_row w) (each_row letter_in w)
      ∙ value_row cs (characters_lt w h)
      ∙ sym (each_row value_in w)

  pub values_le : each_in value_in w ≤ 0x1818_1818_1818_1818
  unfolding characters_in
  values_le = rw (each_row value_in w) (at_most cs (characters_lt w h) value_in 0x18 refl)

  pub wrong_law : eqb (wrong_of w (each_in letter_in w) (each_in value_in w)) 0 ≡ are_digits cs
  unfolding characters_in
  wrong_law =
      ap (λ (x : ℕ). eqb x 0) (wrong_row cs (characters_lt w h) w (each_in letter_in w) (each_in value_in w) (word_row w) (each_row letter_in w) (each_row value_in w))
      ∙ none_wrong cs (characters_lt w h) 0

-- ---- words of given characters

-- the characters of the number of eight bytes are these bytes
pub characters_of : (bs : List ℕ) → length bs ≡ CHARACTERS → AreBytes bs → characters_in (number_of bs) ≡ bs
unfolding characters_in
characters_of = bytes_back_at CHARACTERS

pub digits_are_bytes : (cs : List ℕ) → are_digits cs ≡ true → AreBytes cs
unfolding are_digits
digits_are_bytes [] d = tt
digits_are_bytes (c ∷ cs) d = let both = and_both (is_digit c) (are_digits cs) d in (digit_lt c both.0, digits_are_bytes cs both.1)

-- ---- the values joined

four_law : (w : ℕ) → are_digits (characters_in w) ≡ true → four_of (number_of (map digit_value (characters_in w))) ≡ number_of (bytes_of (characters_in w))
unfolding characters_in bytes_of
four_law w d =
    let cs = characters_in w in
    let vs = map digit_value cs in
    ap four_of (ap number_of (sym (map-id vs)) ∙ number_row (λ v. v) vs)
    ∙ joins vs tt tt tt (values_lt cs d)
    ∙ ap (λ (bytes : List ℕ). number 64 0 (paired 16 (paired 8 bytes))) (paired_bytes cs)
    ∙ omega arith

pub four_by_law : (v : ℕ) → FourBy v (four_of v)
four_by_law v digits l d e =
    let cs : characters_in (number_of digits) ≡ digits = characters_of digits l (digits_are_bytes digits d) in
    ap four_of e ∙ subst (λ (ds : List ℕ). four_of (number_of (map digit_value ds)) ≡ number_of (bytes_of ds)) cs (four_law (number_of digits) (ap are_digits cs ∙ d))
