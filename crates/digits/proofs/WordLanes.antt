-- The characters of a word as a row of lanes of eight bits: the word is their number, and so is what is found in each of them; and the masks and
-- the other numbers of the code. Assumes nothing.
use mathlib.Core.Path.{◌≡◌, sym, ap, ◌∙◌}
use mathlib.Core.List.{List, [], ◌∷◌, map, map-id}
use Prim.Native.Nat.{ℕ, ◌+◌, ◌*◌, ◌^◌, ◌<◌}
use native.Mathlib.Nat.{add-mul, add_assoc, mul_assoc, mul_comm, pow-suc}
use native.Mathlib.Omega.{arith}
use lib.ListN.{length, length-map}
use Rattle.laws.proofs.Lanes.{lanes, AllOf}
use Rattle.digits.specs.Numbers.{BYTE, AreBytes, number_of}
use Rattle.digits.specs.Word.{characters_in}
use Rattle.digits.specs.bounds.Found.{each_in}
use Rattle.digits.proofs.NumberLaws.{number_back, number_bytes_are}

-- the masks of the code: the second of each two bytes, of each two pairs, of the two halves
abbrev pub SECOND_BYTES : ℕ
SECOND_BYTES = 0x00ff_00ff_00ff_00ff

abbrev pub SECOND_PAIRS : ℕ
SECOND_PAIRS = 0x0000_ffff_0000_ffff

abbrev pub SECOND_HALF : ℕ
SECOND_HALF = 0xffff_ffff

-- the bit in which a letter's upper half, 6, differs from 4
abbrev pub SIX_FOUR : ℕ
SIX_FOUR = 32

-- what takes a value up to 9 to an upper half of 3, and one from 10 on to 4
abbrev pub ADDED : ℕ
ADDED = 0x36

-- the upper half of a character
abbrev pub UPPER : ℕ
UPPER = 0xf0

-- a number is gathered from the first byte on, or from the last
moved : (x p v n : ℕ) → (x * BYTE + v) * p + n ≡ x * (p * BYTE) + (v * p + n)
moved x p v n =
    ap (λ (m : ℕ). m + n) (add-mul (x * BYTE) v p ∙ ap (λ (m : ℕ). m + v * p) (mul_assoc x BYTE p ∙ ap (λ (m : ℕ). x * m) (mul_comm BYTE p)))
    ∙ add_assoc (x * (p * BYTE)) (v * p) n

lanes_number : (f : ℕ → ℕ) (bs : List ℕ) (x : ℕ) → lanes 8 f x bs ≡ x * BYTE ^ length bs + number_of (map f bs)
lanes_number f [] x = omega arith
lanes_number f (b ∷ bs) x =
    lanes_number f bs (x * BYTE + f b)
    ∙ moved x (BYTE ^ length bs) (f b) (number_of (map f bs))
    ∙ rw (pow-suc BYTE (length bs), length-map bs f)

pub number_row : (f : ℕ → ℕ) (bs : List ℕ) → number_of (map f bs) ≡ lanes 8 f 0 bs
number_row f bs = omega (arith, lanes_number f bs 0)

pub each_row : (f : ℕ → ℕ) (w : ℕ) → each_in f w ≡ lanes 8 f 0 (characters_in w)
each_row f w = number_row f (characters_in w)

pub word_row : (w : ℕ) → w ≡ lanes 8 (λ b. b) 0 (characters_in w)
unfolding characters_in
word_row w = sym (number_back 7 w) ∙ ap number_of (sym (map-id (characters_in w))) ∙ each_row (λ b. b) w

are_each : (bs : List ℕ) → AreBytes bs → AllOf (λ b. b < 256) bs
are_each [] A = tt
are_each (b ∷ bs) A = (A.0, are_each bs A.1)

pub characters_lt : (w : ℕ) → w < 2 ^ 64 → AllOf (λ b. b < 256) (characters_in w)
unfolding characters_in
characters_lt w h = are_each (characters_in w) (number_bytes_are 8 w h)
