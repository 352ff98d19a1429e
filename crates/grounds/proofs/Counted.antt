-- The misidentifications' part of the claim. A state keeps the counts of the latest eight samples, the last one first. Until a window has too many none
-- has, so after one more sample such a window must end there. Assumes nothing.
use mathlib.Core.Path.{◌≡◌, refl, sym, ap, ◌∙◌}
use mathlib.Core.Bool.{Bool, true, false, ◌||◌, or-true, false≢true}
use mathlib.Core.List.{List, [], ◌∷◌, ◌++◌}
use mathlib.Core.Logic.{◌↔◌, inl, inr, ⊎_elim}
use Prim.Native.Nat.{ℕ, zero, suc, ◌-◌, ◌≤◌, ◌<◌}
use native.Mathlib.Omega.{arith}
use lib.ListN.{length, take, drop, replicate}
use lib.Seq.{take-take, drop-nil, drop-length, drop-append-le}
use lib.IntN.{ℤ}
use borrow.Author.Tests.{ltb-true, lt-ltb}
use Rattle.laws.proofs.Bools.{or_either}
use Rattle.laws.proofs.Lists.{length_more}
use Rattle.grounds.specs.Earlier.{no_counts, OLDER, latest_of, exceeds, is_broken}
use Rattle.grounds.specs.Entry.{Entry, missed, sample, counts}
use Rattle.grounds.specs.Window.{Window, Breaks, TooMany, sum, TWO, IN_TWO, EIGHT, IN_EIGHT}
use Rattle.grounds.proofs.Entry.{counts_missed, counts_sample}
use Rattle.grounds.proofs.Window.{sum_append, latest_sum, latest_breaks, one_more}

-- what is kept are the latest counts: of any so many of them the sum is that of the samples
abbrev pub Latest : List ℕ → List ℕ → Type 0
Latest xs latest = (width : ℕ) → width ≤ EIGHT → sum (take width latest) ≡ latest_sum width xs

-- and they break a window exactly when one has too many
pub record Counted (xs latest : List ℕ) : Type 0 where
  pub kept : Latest xs latest
  pub named : is_broken latest ≡ true ↔ TooMany xs

-- ---- no sample

sum_none : (width n : ℕ) → sum (take width (replicate n 0)) ≡ 0
sum_none zero n = refl
sum_none (suc width) zero = refl
sum_none (suc width) (suc n) = omega (arith, sum_none width n)

no_window : (width allowed : ℕ) {A : Type 0} → Breaks (Window width 0) allowed [] → A
no_window width allowed b = absurd (let w = b.is in omega arith)

pub counted_none : Counted [] no_counts
counted_none = record {
  kept = λ width h. sum_none width EIGHT ∙ sym (ap sum (drop-nil {A = ℕ} (0 - width)));
  named = (λ e. absurd (false≢true e), ⊎_elim (no_window TWO IN_TWO) (no_window EIGHT IN_EIGHT));
}

-- ---- one more sample

module _ (xs latest : List ℕ) (x : ℕ) (old : Counted xs latest) (quiet : is_broken latest ≡ false) where
  abbrev l : List ℕ
  l = xs ++ x ∷ []

  kept_more : Latest l (latest_of x latest)
  kept_more zero h = let all : length l - 0 ≡ length l = omega arith in sym (ap (λ (k : ℕ). sum (drop k l)) all ∙ ap sum (drop-length l))
  kept_more (suc width) h =
      let front : sum (take width (take OLDER latest)) ≡ latest_sum width xs = ap sum (take-take width OLDER latest (omega arith)) ∙ old.kept width (omega arith) in
      let place : length l - suc width ≡ length xs - width = omega (arith, length_more xs x) in
      let back : drop (length l - suc width) l ≡ drop (length xs - width) xs ++ x ∷ [] =
      ap (λ (k : ℕ). drop k l) place ∙ drop-append-le (length xs - width) xs (x ∷ []) (omega arith) in
      omega (arith, front, ap sum back, sum_append (drop (length xs - width) xs) (x ∷ []))

  module _ (width allowed : ℕ) (h : width ≤ EIGHT) (w : 0 < width) where
    to_window : exceeds width allowed (latest_of x latest) ≡ true → Breaks (Window width (length l)) allowed l
    to_window e = latest_breaks width allowed l w (omega (arith, ltb-true, kept_more width h))

    from_window : (Breaks (Window width (length xs)) allowed xs → TooMany xs) → Breaks (Window width (length l)) allowed l → exceeds width allowed (latest_of x latest) ≡ true
    from_window too b = ⊎_elim
        (λ c. absurd (false≢true (sym quiet ∙ old.named.1 (too c))))
        (λ (a : allowed < latest_sum width l). lt-ltb allowed (sum (take width (latest_of x latest))) (omega (arith, kept_more width h)))
        (one_more width allowed xs x b)

  abbrev two : Bool
  two = exceeds TWO IN_TWO (latest_of x latest)

  abbrev eight : Bool
  eight = exceeds EIGHT IN_EIGHT (latest_of x latest)

  counted_more : Counted l (latest_of x latest)
  counted_more = record {
    kept = kept_more;
    named = (
      λ e. ⊎_elim (λ a. inl (to_window TWO IN_TWO (omega arith) (omega arith) a)) (λ a. inr (to_window EIGHT IN_EIGHT (omega arith) (omega arith) a))
          (or_either two eight e),
      ⊎_elim
          (λ b. ap (λ t. t || eight) (from_window TWO IN_TWO (omega arith) (omega arith) (λ c. inl c) b))
          (λ b. ap (λ t. two || t) (from_window EIGHT IN_EIGHT (omega arith) (omega arith) (λ c. inr c) b)
          ∙ or-true two),
    );
  }

-- the same over entries; a miss has no count
pub counted_sample : (es : List Entry) (latest : List ℕ) (year count : ℕ) (x : ℕ → ℤ) → Counted (counts es) latest → is_broken latest ≡ false
    → Counted (counts (es ++ sample year count x ∷ [])) (latest_of count latest)
counted_sample es latest year count x old quiet = rw (counts_sample es year count x) (counted_more (counts es) latest count old quiet)

pub counted_missed : (es : List Entry) (latest : List ℕ) (m : ℕ) → Counted (counts es) latest → Counted (counts (es ++ missed m ∷ [])) latest
counted_missed es latest m old = rw (counts_missed es m) old
