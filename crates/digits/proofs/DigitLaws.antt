-- One digit: which characters are digits, and that a digit and its value are inverse. Assumes nothing.
use Prim.Native.Nat.{ℕ, ◌+◌, ◌-◌, ◌<◌, ◌≤◌}
use mathlib.Core.Path.{◌≡◌, ◌∙◌}
use mathlib.Core.Bool.{true, ◌&&◌, and-false}
use mathlib.Core.Logic.{◌⊎◌, inl, inr, ⊎_elim}
use native.Mathlib.Omega.{arith}
use borrow.Author.Tests.{lt-ltb, le-ltb, le-leb, lt-leb, leb-true, ltb-true, ltb-false}
use lib.Dec.{leb, ltb}
use Rattle.laws.proofs.Bools.{and_both, or_either, either}
use Rattle.digits.specs.Digits.{ZERO, NINE, LETTER_A, LETTER_F, is_digit, digit_value, digit_of}
use Rattle.digits.specs.Numbers.{BYTE}

-- ---- a digit and its value are inverse

pub in_range : (c : ℕ) → is_digit c ≡ true → ((ZERO ≤ c) × (c ≤ NINE)) ⊎ ((LETTER_A ≤ c) × (c ≤ LETTER_F))
unfolding is_digit
in_range c e =
    ⊎_elim (λ p. let q = and_both (leb ZERO c) (leb c NINE) p in inl (leb-true ZERO c q.0, leb-true c NINE q.1))
    (λ p. let q = and_both (leb LETTER_A c) (leb c LETTER_F) p in inr (leb-true LETTER_A c q.0, leb-true c LETTER_F q.1))
    (or_either (leb ZERO c && leb c NINE) (leb LETTER_A c && leb c LETTER_F) e)

pub digit_lt : (c : ℕ) → is_digit c ≡ true → c < BYTE
digit_lt c e = ⊎_elim (λ (p : (ZERO ≤ c) × (c ≤ NINE)). omega arith) (λ (p : (LETTER_A ≤ c) × (c ≤ LETTER_F)). omega arith) (in_range c e)

pub low_value : (c : ℕ) → c ≤ NINE → digit_value c ≡ c - ZERO
unfolding digit_value
low_value c h = simp (le-leb c NINE h)

pub high_value : (c : ℕ) → NINE < c → digit_value c ≡ c - LETTER_A + 10
unfolding digit_value
high_value c h = simp (lt-leb c NINE h)

pub low_of : (n : ℕ) → n < 10 → digit_of n ≡ ZERO + n
unfolding digit_of
low_of n h = simp (lt-ltb n 10 h)

pub high_of : (n : ℕ) → 10 ≤ n → digit_of n ≡ LETTER_A + (n - 10)
unfolding digit_of
high_of n h = simp (le-ltb n 10 h)

pub value_lt : (c : ℕ) → is_digit c ≡ true → digit_value c < 16
value_lt c e =
    ⊎_elim (λ (p : (ZERO ≤ c) × (c ≤ NINE)). rw (low_value c p.1) (omega arith))
    (λ (p : (LETTER_A ≤ c) × (c ≤ LETTER_F)). rw (high_value c (omega arith)) (omega arith))
    (in_range c e)

pub of_value : (c : ℕ) → is_digit c ≡ true → digit_of (digit_value c) ≡ c
of_value c e =
    ⊎_elim (λ (p : (ZERO ≤ c) × (c ≤ NINE)). rw (low_value c p.1) (low_of (c - ZERO) (omega arith) ∙ omega arith))
    (λ (p : (LETTER_A ≤ c) × (c ≤ LETTER_F)). rw (high_value c (omega arith)) (high_of (c - LETTER_A + 10) (omega arith) ∙ omega arith))
    (in_range c e)

pub value_of : (n : ℕ) → n < 16 → digit_value (digit_of n) ≡ n
value_of n h =
    ⊎_elim (λ p. let l = ltb-true n 10 p in rw (low_of n l) (low_value (ZERO + n) (omega arith) ∙ omega arith))
    (λ p. let l = ltb-false n 10 p in rw (high_of n l) (high_value (LETTER_A + (n - 10)) (omega arith) ∙ omega arith))
    (either (ltb n 10))

pub of_digit : (n : ℕ) → n < 16 → is_digit (digit_of n) ≡ true
unfolding is_digit
of_digit n h =
    ⊎_elim
    (λ p.
    let l = ltb-true n 10 p in
    rw (low_of n l) (simp (le-leb ZERO (ZERO + n) (omega arith), le-leb (ZERO + n) NINE (omega arith))))
    (λ p.
    let l = ltb-false n 10 p in
    let c = LETTER_A + (n - 10) in
    rw (high_of n l) (simp (lt-leb c NINE (omega arith), le-leb LETTER_A c (omega arith), le-leb c LETTER_F (omega arith), and-false)))
    (either (ltb n 10))
