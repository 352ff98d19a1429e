-- What one more entry adds to the stretches, to the counts and to the misses.
use mathlib.Core.Path.{◌≡◌, refl, ap, ◌∙◌}
use mathlib.Core.Bool.{Bool, true, false, cond}
use mathlib.Core.List.{List, [], ◌∷◌, ◌++◌, append-nil, map-append}
use mathlib.Core.Logic.{◌≢◌}
use Prim.Native.Nat.{ℕ}
use lib.Dec.{eqb}
use lib.IntN.{ℤ}
use borrow.Author.Tests.{eq-eqb, ne_eqb}
use Rattle.grounds.specs.Entry.{Entry, missed, sample, misses, stretch, on_chart, years, counts}

misses_append : (es fs : List Entry) → misses (es ++ fs) ≡ misses es ++ misses fs
misses_append [] fs = refl
misses_append (missed m ∷ es) fs = ap (λ (ms : List ℕ). m ∷ ms) (misses_append es fs)
misses_append (sample y n x ∷ es) fs = misses_append es fs

cond_append : (b : Bool) (x : ℕ → ℤ) (xs ys : List (ℕ → ℤ)) → cond b (x ∷ (xs ++ ys)) (xs ++ ys) ≡ cond b (x ∷ xs) xs ++ ys
cond_append true x xs ys = refl
cond_append false x xs ys = refl

stretch_append : (y : ℕ) (es fs : List Entry) → stretch y (es ++ fs) ≡ stretch y es ++ stretch y fs
stretch_append y [] fs = refl
stretch_append y (missed m ∷ es) fs = stretch_append y es fs
stretch_append y (sample k n x ∷ es) fs = ap (λ (xs : List (ℕ → ℤ)). cond (eqb k y) (x ∷ xs) xs) (stretch_append y es fs) ∙ cond_append (eqb k y) x (stretch y es) (stretch y fs)

years_append : (es fs : List Entry) → years (es ++ fs) ≡ years es ++ years fs
years_append [] fs = refl
years_append (missed m ∷ es) fs = years_append es fs
years_append (sample y n x ∷ es) fs = ap (λ (ys : List ℕ). y ∷ ys) (years_append es fs)

counts_append : (es fs : List Entry) → counts (es ++ fs) ≡ counts es ++ counts fs
counts_append [] fs = refl
counts_append (missed m ∷ es) fs = counts_append es fs
counts_append (sample y n x ∷ es) fs = ap (λ (ns : List ℕ). n ∷ ns) (counts_append es fs)

module _ (es : List Entry) (m : ℕ) where
  pub misses_missed : misses (es ++ missed m ∷ []) ≡ misses es ++ m ∷ []
  misses_missed = misses_append es (missed m ∷ [])

  pub years_missed : years (es ++ missed m ∷ []) ≡ years es
  years_missed = years_append es (missed m ∷ []) ∙ append-nil (years es)

  pub counts_missed : counts (es ++ missed m ∷ []) ≡ counts es
  counts_missed = counts_append es (missed m ∷ []) ∙ append-nil (counts es)

  pub stretch_missed : (y : ℕ) → stretch y (es ++ missed m ∷ []) ≡ stretch y es
  stretch_missed y = stretch_append y es (missed m ∷ []) ∙ append-nil (stretch y es)

module _ (es : List Entry) (k n : ℕ) (x : ℕ → ℤ) where
  pub misses_sample : misses (es ++ sample k n x ∷ []) ≡ misses es
  misses_sample = misses_append es (sample k n x ∷ []) ∙ append-nil (misses es)

  pub years_sample : years (es ++ sample k n x ∷ []) ≡ years es ++ k ∷ []
  years_sample = years_append es (sample k n x ∷ [])

  pub counts_sample : counts (es ++ sample k n x ∷ []) ≡ counts es ++ n ∷ []
  counts_sample = counts_append es (sample k n x ∷ [])

  pub stretch_sample : stretch k (es ++ sample k n x ∷ []) ≡ stretch k es ++ x ∷ []
  stretch_sample = stretch_append k es (sample k n x ∷ []) ∙ ap (λ (b : Bool). stretch k es ++ cond b (x ∷ []) []) (eq-eqb k k refl)

  pub stretch_other : (y : ℕ) → k ≢ y → stretch y (es ++ sample k n x ∷ []) ≡ stretch y es
  stretch_other y h = stretch_append y es (sample k n x ∷ []) ∙ ap (λ (b : Bool). stretch y es ++ cond b (x ∷ []) []) (ne_eqb k y h) ∙ append-nil (stretch y es)

  pub chart_sample : (c : ℕ) → on_chart c (stretch k (es ++ sample k n x ∷ [])) ≡ on_chart c (stretch k es) ++ x c ∷ []
  chart_sample c = rw (stretch_sample, map-append)
