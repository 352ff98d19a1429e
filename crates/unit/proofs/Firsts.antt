-- A test of the first elements of a list, as std and as `all_below` say it. Assumes nothing.
use Rattle.std.proofs.Common.{◌≡◌, refl, ap, ◌∙◌, ℕ, zero, suc, ◌≤◌, Bool, ◌&&◌, List, length, get_or, take, add-one, arith}
use Rattle.std.proofs.lemmas.List.Folds.{list_all_more}
use Rattle.std.specs.List.{list_all}
use Rattle.laws.specs.Each.{all_below}

pub all_first : {A : Type 0} (p : A → Bool) (xs : List A) (d : A) (n : ℕ) → n ≤ length xs → list_all p (take n xs) ≡ all_below n (λ (i : ℕ). p (get_or xs i d))
all_first p xs d zero h = refl
all_first p xs d (suc n) h = rw add-one at (list_all_more p xs n d h) ∙ ap (λ (b : Bool). b && p (get_or xs n d)) (all_first p xs d n (omega arith))
