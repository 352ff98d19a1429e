-- What is gathered from a list, entry by entry: of two lists one after the other, of one entry more, and at each entry. Assumes nothing.
use Prim.Native.Nat.{ℕ, zero, suc, ◌+◌, ◌<◌}
use mathlib.Core.Path.{◌≡◌, sym, ap, ◌∙◌}
use mathlib.Core.List.{List, [], ◌∷◌, ◌++◌}
use native.Mathlib.Numerals.{add-one}
use native.Mathlib.Omega.{arith}
use lib.ListN.{length, get_or, take}
use lib.Seq.{take-suc}

-- f gives what an entry adds, and F gathers it by `and`, from e on
module _ {A M : Type 0} (and : M → M → M) (e : M) (left : (m : M) → and e m ≡ m) (right : (m : M) → and m e ≡ m)
    (assoc : (a b c : M) → and (and a b) c ≡ and a (and b c))
    (f : A → M) (F : List A → M) (none : F [] ≡ e) (one : (x : A) (xs : List A) → F (x ∷ xs) ≡ and (f x) (F xs)) where
  pub joined : (xs ys : List A) → F (xs ++ ys) ≡ and (F xs) (F ys)
  joined [] ys = sym (ap (λ (m : M). and m (F ys)) none ∙ left (F ys))
  joined (x ∷ xs) ys =
      one x (xs ++ ys)
      ∙ ap (and (f x)) (joined xs ys)
      ∙ sym (assoc (f x) (F xs) (F ys))
      ∙ sym (ap (λ (m : M). and m (F ys)) (one x xs))

  pub with_one_more : (xs : List A) (x : A) → F (xs ++ x ∷ []) ≡ and (F xs) (f x)
  with_one_more xs x = joined xs (x ∷ []) ∙ ap (and (F xs)) (one x [] ∙ ap (and (f x)) none ∙ right (f x))

  pub with_the_next : (d : A) (xs : List A) (i : ℕ) → i < length xs → and (F (take i xs)) (f (get_or xs i d)) ≡ F (take (i + 1) xs)
  with_the_next d xs i h =
      let next : take (i + 1) xs ≡ take i xs ++ get_or xs i d ∷ [] = rw add-one (take-suc xs i d h) in
      sym (ap F next ∙ with_one_more (take i xs) (get_or xs i d))

  -- where two make e only if each is e
  pub each : ((a b : M) → and a b ≡ e → (a ≡ e) × (b ≡ e)) → (d : A) (xs : List A) (k : ℕ) → F xs ≡ e → k < length xs → f (get_or xs k d) ≡ e
  each both d [] k p h = absurd (omega arith)
  each both d (x ∷ xs) zero p h = (both (f x) (F xs) (sym (one x xs) ∙ p)).0
  each both d (x ∷ xs) (suc k) p h = each both d xs k (both (f x) (F xs) (sym (one x xs) ∙ p)).1 (omega arith)
