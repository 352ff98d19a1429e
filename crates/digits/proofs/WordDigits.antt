-- What the step's arithmetic gives in each lane, and what that says of the character there: computed for each of the 256 bytes. Assumes nothing.
use mathlib.Core.Path.{◌≡◌, refl, sym, ap, ap₂, ◌∙◌}
use mathlib.Core.Bool.{Bool, true, false, cond, ◌&&◌, not, and-true, and_assoc}
use mathlib.Core.List.{List, [], ◌∷◌, map}
use Prim.Native.Nat.{ℕ, zero, suc, ◌+◌, ◌*◌, ◌/◌, ◌%◌, ◌<◌, ◌≤◌}
use native.Mathlib.Nat.{zero-add, le_refl}
use native.Mathlib.Omega.{arith}
use borrow.Author.Tests.{ne_eqb, eqb-true, ltb-true, leb-true}
use lib.Dec.{ltb, leb, eqb, eqb-suc-zero}
use lib.Bits.{bit_and, bit_or, bit_xor, and_block, or_block, xor_block, and_mask}
use Rattle.laws.specs.Each.{all_below}
use Rattle.laws.proofs.Bools.{and_both}
use Rattle.laws.proofs.EachLaws.{all_each}
use Rattle.laws.proofs.Joins.{paired}
use Rattle.laws.proofs.Lanes.{lanes, AllOf, all_of, row, row_sum, row_times, row_same, row_le, row_bit6}
use Rattle.digits.specs.Digits.{is_digit, digit_value, are_digits, bytes_of}
use Rattle.digits.specs.Numbers.{AreBytes}
use Rattle.digits.specs.bounds.Found.{LETTER, letter_in, value_in}
use Rattle.digits.proofs.DigitLaws.{digit_lt, value_lt}
use Rattle.digits.proofs.WordLanes.{SIX_FOUR, ADDED, UPPER}

-- ---- one lane

-- what the test finds wrong with a character: 0 exactly where it is a digit
abbrev wrong_in : ℕ → ℕ
wrong_in c = bit_and (bit_or (bit_xor (bit_xor c (SIX_FOUR * letter_in c)) (value_in c + ADDED)) (value_in c)) UPPER

-- a test of each byte, computed for all of them
of_byte : (t : ℕ → Bool) → all_below 256 t ≡ true → (b : ℕ) → b < 256 → t b ≡ true
of_byte = all_each 256

same : Bool → Bool → Bool
same true b = b
same false b = not b

same_eq : (a b : Bool) → same a b ≡ true → a ≡ b
unfolding same
same_eq true b e = sym e
same_eq false true e = e
same_eq false false e = refl

-- nothing is wrong with it exactly where it is a digit
wrong_is : (b : ℕ) → b < 256 → eqb (wrong_in b) 0 ≡ is_digit b
unfolding same is_digit
wrong_is b h = same_eq (eqb (wrong_in b) 0) (is_digit b) (of_byte (λ b. same (eqb (wrong_in b) 0) (is_digit b)) refl b h)

-- a digit's value is what is computed for it
rightly : ℕ → Bool
unfolding is_digit digit_value
rightly b = cond (is_digit b) (eqb (value_in b) (digit_value b)) true

value_is : (b : ℕ) → b < 256 → is_digit b ≡ true → value_in b ≡ digit_value b
unfolding rightly
value_is b h d = eqb-true (value_in b) (digit_value b) (rw d at (of_byte rightly refl b h))

-- ---- all lanes

-- no lane is wrong exactly when all are digits
pub none_wrong : (bs : List ℕ) → AllOf (λ b. b < 256) bs → (x : ℕ) → eqb (lanes 8 wrong_in x bs) 0 ≡ (eqb x 0 && are_digits bs)
unfolding are_digits
none_wrong [] h x = sym (and-true (eqb x 0))
none_wrong (b ∷ bs) h x =
    none_wrong bs h.1 (x * 256 + wrong_in b)
    ∙ ap (λ (t : Bool). t && are_digits bs) (neither x (wrong_in b) ∙ ap (λ (t : Bool). eqb x 0 && t) (wrong_is b h.0))
    ∙ and_assoc (eqb x 0) (is_digit b) (are_digits bs)
  where
    neither : (x r : ℕ) → eqb (x * 256 + r) 0 ≡ (eqb x 0 && eqb r 0)
    neither zero r = ap (λ (n : ℕ). eqb n 0) (zero-add r)
    neither (suc x) r = ne_eqb (suc x * 256 + r) 0 (λ e. omega arith) ∙ sym (ap (λ (t : Bool). t && eqb r 0) (eqb-suc-zero x))

-- of digits, each value is below 16, and is what is computed; and that is a byte of any character
pub values_lt : (bs : List ℕ) → are_digits bs ≡ true → AllOf (λ v. v < 16) (map digit_value bs)
unfolding are_digits
values_lt [] d = tt
values_lt (b ∷ bs) d = let both = and_both (is_digit b) (are_digits bs) d in (value_lt b both.0, values_lt bs both.1)

pub values : (bs : List ℕ) → are_digits bs ≡ true → map value_in bs ≡ map digit_value bs
unfolding are_digits
values [] d = refl
values (b ∷ bs) d = let both = and_both (is_digit b) (are_digits bs) d in ap₂ ◌∷◌ (value_is b (digit_lt b both.0) both.0) (values bs both.1)

pub values_are : (bs : List ℕ) → AreBytes (map value_in bs)
values_are [] = tt
values_are (b ∷ bs) = (omega arith, values_are bs)

-- the bytes that digits write are their values joined in pairs
pub paired_bytes : (bs : List ℕ) → paired 4 (map digit_value bs) ≡ bytes_of bs
unfolding bytes_of
paired_bytes [] = refl
paired_bytes (c ∷ []) = refl
paired_bytes (h ∷ l ∷ rest) = ap₂ ◌∷◌ (omega arith) (paired_bytes rest)

-- ---- the rows that the step's arithmetic goes through

module _ (bs : List ℕ) (h : AllOf (λ b. b < 256) bs) where
  abbrev InLanes : (ℕ → ℕ) → ℕ
  InLanes f = lanes 8 f 0 bs

  -- in each lane a byte: no lane is carried into
  abbrev Small : (ℕ → ℕ) → Type 0
  Small f = all_below 256 (λ b. ltb (f b) 256) ≡ true

  small : (f : ℕ → ℕ) → Small f → AllOf (λ b. f b < 256) bs
  small f t = all_of (λ b p. ltb-true (f b) 256 (of_byte (λ b. ltb (f b) 256) t b p)) bs h

  and_row : (f g : ℕ → ℕ) → Small f → Small g → bit_and (InLanes f) (InLanes g) ≡ InLanes (λ b. bit_and (f b) (g b))
  and_row f g F G = row bit_and and_block 8 f g bs (small f F) (small g G) 0 0

  or_row : (f g : ℕ → ℕ) → Small f → Small g → bit_or (InLanes f) (InLanes g) ≡ InLanes (λ b. bit_or (f b) (g b))
  or_row f g F G = row bit_or or_block 8 f g bs (small f F) (small g G) 0 0

  xor_row : (f g : ℕ → ℕ) → Small f → Small g → bit_xor (InLanes f) (InLanes g) ≡ InLanes (λ b. bit_xor (f b) (g b))
  xor_row f g F G = row bit_xor xor_block 8 f g bs (small f F) (small g G) 0 0

  -- at most m in each lane
  pub at_most : (f : ℕ → ℕ) (m : ℕ) → all_below 256 (λ b. leb (f b) m) ≡ true → InLanes f ≤ InLanes (λ b. m)
  at_most f m t = row_le 8 f (λ b. m) bs (all_of (λ b p. leb-true (f b) m (of_byte (λ b. leb (f b) m) t b p)) bs h) 0 0 (le_refl 0)

  pub letter_row : bit_and (InLanes (λ b. b) / 64) (InLanes (λ b. 1)) ≡ InLanes letter_in
  letter_row = row_bit6 bs h 0 0

  pub value_row : bit_and (InLanes (λ b. b)) (InLanes (λ b. 15)) + LETTER * InLanes letter_in ≡ InLanes value_in
  value_row =
      ap₂ ◌+◌ (and_row (λ b. b) (λ b. 15) refl refl ∙ row_same 8 (λ b. bit_and b 15) (λ b. b % 16) (λ b. and_mask b 4) bs 0) (row_times LETTER 8 letter_in bs 0)
      ∙ row_sum 8 (λ b. b % 16) (λ b. LETTER * letter_in b) bs 0 0

  -- the word w, and the letters l and values v that it gives
  pub wrong_row : (w l v : ℕ) → w ≡ InLanes (λ b. b) → l ≡ InLanes letter_in → v ≡ InLanes value_in
      → bit_and (bit_or (bit_xor (bit_xor w (SIX_FOUR * l)) (v + InLanes (λ b. ADDED))) v) (InLanes (λ b. UPPER)) ≡ InLanes wrong_in
  wrong_row w l v word letters values =
      let six_four : SIX_FOUR * l ≡ InLanes (λ b. SIX_FOUR * letter_in b) = ap (λ (x : ℕ). SIX_FOUR * x) letters ∙ row_times SIX_FOUR 8 letter_in bs 0 in
      let upper : bit_xor w (SIX_FOUR * l) ≡ InLanes (λ b. bit_xor b (SIX_FOUR * letter_in b)) = ap₂ bit_xor word six_four ∙ xor_row (λ b. b) (λ b. SIX_FOUR * letter_in b) refl refl in
      let added : v + InLanes (λ b. ADDED) ≡ InLanes (λ b. value_in b + ADDED) = ap (λ (x : ℕ). x + InLanes (λ b. ADDED)) values ∙ row_sum 8 value_in (λ b. ADDED) bs 0 0 in
      let apart : bit_xor (bit_xor w (SIX_FOUR * l)) (v + InLanes (λ b. ADDED)) ≡ InLanes (λ b. bit_xor (bit_xor b (SIX_FOUR * letter_in b)) (value_in b + ADDED)) =
      ap₂ bit_xor upper added ∙ xor_row (λ b. bit_xor b (SIX_FOUR * letter_in b)) (λ b. value_in b + ADDED) refl refl in
      ap (λ (x : ℕ). bit_and x (InLanes (λ b. UPPER)))
      (ap₂ bit_or apart values ∙ or_row (λ b. bit_xor (bit_xor b (SIX_FOUR * letter_in b)) (value_in b + ADDED)) value_in refl refl)
      ∙ and_row (λ b. bit_or (bit_xor (bit_xor b (SIX_FOUR * letter_in b)) (value_in b + ADDED)) (value_in b)) (λ b. UPPER) refl refl
