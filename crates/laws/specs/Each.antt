-- What is done to, or asked of, the first elements of a list, each by its place.
use Rattle.std.specs.Prelude.{ℕ, zero, suc, Bool, true, false, ◌&&◌, ◌||◌, List, [], ◌∷◌}

-- the list with each of its first n elements changed by f, which is told its place; the rest is as it was
abbrev pub each_below : {A : Type 0} → ℕ → (ℕ → A → A) → List A → List A
each_below zero f xs = xs
each_below (suc n) f [] = []
each_below (suc n) f (x ∷ xs) = f 0 x ∷ each_below n (λ (i : ℕ). f (suc i)) xs

-- the test holds at some number below n
abbrev pub any_below : ℕ → (ℕ → Bool) → Bool
any_below zero f = false
any_below (suc n) f = any_below n f || f n

-- the test holds at each number below n
abbrev pub all_below : ℕ → (ℕ → Bool) → Bool
all_below zero f = true
all_below (suc n) f = all_below n f && f n
