-- Laws of `each_below`, `any_below` and `all_below`: at each place, and with one place more, as a loop goes. Assumes nothing.
use Prim.Native.Nat.{ℕ, zero, suc, ◌+◌, ◌≤◌, ◌<◌}
use mathlib.Core.Path.{◌≡◌, refl, sym, ap, ap₂, ◌∙◌}
use mathlib.Core.Bool.{Bool, true, false, ◌&&◌, ◌||◌, true≢false}
use mathlib.Core.List.{List, [], ◌∷◌}
use mathlib.Core.Logic.{⊎_elim, ◌↔◌}
use native.Mathlib.Nat.{eq-or-lt_of_le, le_of_suc-le-suc, not-suc-le-zero}
use native.Mathlib.Numerals.{add-one}
use native.Mathlib.Omega.{arith}
use lib.ListN.{length, get_or, set}
use Rattle.laws.specs.Each.{each_below, any_below, all_below}
use Rattle.laws.proofs.Bools.{and_both, either, or_either, or_neither}

module _ {A : Type 0} where
  pub each_length : (n : ℕ) (f : ℕ → A → A) (xs : List A) → length (each_below n f xs) ≡ length xs
  each_length zero f xs = refl
  each_length (suc n) f [] = refl
  each_length (suc n) f (x ∷ xs) = ap suc (each_length n (λ (i : ℕ). f (suc i)) xs)

  -- a place below n is changed
  pub each_at : (n : ℕ) (f : ℕ → A → A) (xs : List A) (d : A) (i : ℕ) → i < n → i < length xs → get_or (each_below n f xs) i d ≡ f i (get_or xs i d)
  each_at zero f xs d i h l = absurd (not-suc-le-zero h)
  each_at (suc n) f [] d i h l = absurd (not-suc-le-zero l)
  each_at (suc n) f (x ∷ xs) d zero h l = refl
  each_at (suc n) f (x ∷ xs) d (suc i) h l = each_at n (λ (i : ℕ). f (suc i)) xs d i (le_of_suc-le-suc h) (le_of_suc-le-suc l)

  -- the others are not
  pub each_past : (n : ℕ) (f : ℕ → A → A) (xs : List A) (d : A) (i : ℕ) → n ≤ i → get_or (each_below n f xs) i d ≡ get_or xs i d
  each_past zero f xs d i h = refl
  each_past (suc n) f [] d i h = refl
  each_past (suc n) f (x ∷ xs) d zero h = absurd (not-suc-le-zero h)
  each_past (suc n) f (x ∷ xs) d (suc i) h = each_past n (λ (i : ℕ). f (suc i)) xs d i (le_of_suc-le-suc h)

  -- one place more
  pub each_more : (n : ℕ) (f : ℕ → A → A) (xs : List A) (d : A) → n < length xs → set (each_below n f xs) n (f n (get_or xs n d)) ≡ each_below (suc n) f xs
  each_more n f [] d h = absurd (not-suc-le-zero h)
  each_more zero f (x ∷ xs) d h = refl
  each_more (suc n) f (x ∷ xs) d h = ap (λ (r : List A). f 0 x ∷ r) (each_more n (λ (i : ℕ). f (suc i)) xs d (le_of_suc-le-suc h))

-- one place more, as a loop goes: what it puts there is made from what stands there
module _ {A : Type 0} (n : ℕ) (f : ℕ → A → A) (xs : List A) (d : A) where
  pub each_next : {ys : List A} {z : A} → n < length xs → ys ≡ each_below n f xs → z ≡ f n (get_or ys n d) → set ys n z ≡ each_below (n + 1) f xs
  each_next {ys} h e p =
      let there : get_or ys n d ≡ get_or xs n d = ap (λ (l : List A). get_or l n d) e ∙ each_past n f xs d n (omega arith) in
      ap₂ (λ (l : List A) (z : A). set l n z) e (p ∙ ap (f n) there) ∙ each_more n f xs d h ∙ ap (λ (k : ℕ). each_below k f xs) (sym (add-one n))

pub any_more : (n : ℕ) (f : ℕ → Bool) {a b : Bool} → a ≡ any_below n f → b ≡ f n → (a || b) ≡ any_below (n + 1) f
any_more n f p q = rw (add-one, p, q)

-- the same of `all_below`; nothing cites it now
pub all_more : (n : ℕ) (f : ℕ → Bool) {a b : Bool} → a ≡ all_below n f → b ≡ f n → (a && b) ≡ all_below (n + 1) f
all_more n f p q = rw (add-one, p, q)

-- a test fails at every number below n where it holds at none
pub any_none : (n : ℕ) (f : ℕ → Bool) → any_below n f ≡ false → (i : ℕ) → i < n → f i ≡ false
any_none zero f e i h = absurd (not-suc-le-zero h)
any_none (suc n) f e i h =
    let p = or_neither (any_below n f) (f n) e in
    ⊎_elim (λ (k : i ≡ n). ap f k ∙ p.1) (λ k. any_none n f p.0 i k) (eq-or-lt_of_le (le_of_suc-le-suc h))

-- and the other way round
pub none_any : (n : ℕ) (f : ℕ → Bool) → ((i : ℕ) → i < n → f i ≡ false) → any_below n f ≡ false
none_any zero f e = refl
none_any (suc n) f e = rw (none_any n f (λ i h. e i (omega arith)), e n (omega arith))

search_below : (n : ℕ) (f : ℕ → Bool) → any_below n f ≡ true → (i : ℕ) × (i < n) × (f i ≡ true)
search_below zero f e = absurd (true≢false (sym e))
search_below (suc n) f e =
    ⊎_elim (λ k. let p = search_below n f k in (p.0, omega (arith, p.1), p.2)) (λ k. (n, omega arith, k)) (or_either (any_below n f) (f n) e)

-- a test holds somewhere below n exactly where `any_below` says so
pub any_some : (n : ℕ) (f : ℕ → Bool) → (any_below n f ≡ true) ↔ ((i : ℕ) × (i < n) × (f i ≡ true))
any_some n f = (
  search_below n f,
  λ p. ⊎_elim (λ e. e) (λ e. absurd (true≢false (sym p.2 ∙ any_none n f e p.0 p.1))) (either (any_below n f)),
)

-- a test holds at each number below n where `all_below` says so
pub all_each : (n : ℕ) (f : ℕ → Bool) → all_below n f ≡ true → (i : ℕ) → i < n → f i ≡ true
all_each zero f e i h = absurd (not-suc-le-zero h)
all_each (suc n) f e i h =
    let p = and_both (all_below n f) (f n) e in
    ⊎_elim (λ (k : i ≡ n). ap f k ∙ p.1) (λ k. all_each n f p.0 i k) (eq-or-lt_of_le (le_of_suc-le-suc h))
