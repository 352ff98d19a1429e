-- Lists grown at their end, lists by their places, and lists of one element many times. Assumes nothing.
use Prim.Native.Nat.{ℕ, zero, suc, ◌≤◌, ◌<◌}
use mathlib.Core.Path.{◌≡◌, refl, ap, ◌∙◌}
use mathlib.Core.List.{List, [], ◌∷◌, ◌++◌, append-nil}
use mathlib.Core.Logic.{⊎_elim}
use native.Mathlib.Nat.{eq-or-lt_of_le, suc_inj}
use native.Mathlib.Numerals.{add-one}
use native.Mathlib.Omega.{arith}
use lib.ListN.{length, get_or, replicate, length-append, get_or-append}
use lib.Seq.{append_snoc, get_or-append_seam}

-- what holds of the empty list and is kept by one more element holds of every list
module _ {A : Type 0} (P : List A → Type 0) (step : (xs : List A) (x : A) → P xs → P (xs ++ x ∷ [])) where
  grown : (xs ys : List A) → P xs → P (xs ++ ys)
  grown xs [] p = rw append-nil p
  grown xs (y ∷ ys) p = rw append_snoc at (grown (xs ++ y ∷ []) ys (step xs y p))

  pub by_growth : P [] → (xs : List A) → P xs
  by_growth p xs = grown [] xs p

-- a list of numbers with one more
module _ (ns : List ℕ) (n : ℕ) where
  pub length_more : length (ns ++ n ∷ []) ≡ suc (length ns)
  length_more = length-append ns (n ∷ []) ∙ add-one (length ns)

  pub last_more : get_or (ns ++ n ∷ []) (length ns) 0 ≡ n
  last_more = get_or-append_seam ns n [] 0

  pub before_more : (i : ℕ) → i < length ns → get_or (ns ++ n ∷ []) i 0 ≡ get_or ns i 0
  before_more i h = get_or-append ns (n ∷ []) 0 i h

-- each number is at most `most`
abbrev pub AtMost : List ℕ → ℕ → Type 0
AtMost ns most = (i : ℕ) → i < length ns → get_or ns i 0 ≤ most

pub at_most_more : (ns : List ℕ) (most n : ℕ) → AtMost ns most → most ≤ n → AtMost (ns ++ n ∷ []) n
at_most_more ns most n old h i l = ⊎_elim
    (λ (e : i ≡ length ns). omega (arith, rw (← e) at (last_more ns n)))
    (λ (k : i < length ns). omega (arith, before_more ns n i k, old i k))
    (eq-or-lt_of_le (omega (arith, length_more ns n)))

-- a list of n numbers by their places
abbrev pub tabulate : ℕ → (ℕ → ℕ) → List ℕ
tabulate zero f = []
tabulate (suc n) f = f 0 ∷ tabulate n (λ k. f (suc k))

pub tabulated : (n : ℕ) (l : List ℕ) → length l ≡ n → l ≡ tabulate n (λ k. get_or l k 0)
tabulated zero [] e = refl
tabulated zero (a ∷ l) e = absurd (omega arith)
tabulated (suc n) [] e = absurd (omega arith)
tabulated (suc n) (a ∷ l) e = ap (λ (m : List ℕ). a ∷ m) (tabulated n l (suc_inj e))

-- one element many times: it stands at every place, and is what stands beyond
pub same_at : {A : Type 0} (n i : ℕ) (a : A) → get_or (replicate n a) i a ≡ a
same_at zero i a = refl
same_at (suc n) zero a = refl
same_at (suc n) (suc i) a = same_at n i a
