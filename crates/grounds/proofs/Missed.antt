-- The misses' part of the claim. A state keeps the month of the last miss, 0 before the first, and whether two misses were near. No earlier miss
-- is later than the last, so the last one is the nearest to the next.
use mathlib.Core.Path.{◌≡◌, sym, subst}
use mathlib.Core.Bool.{Bool, true, false}
use mathlib.Core.List.{List, [], ◌∷◌, ◌++◌}
use mathlib.Core.Logic.{◌↔◌, ⊎_elim}
use Prim.Native.Nat.{ℕ, ◌≤◌, ◌<◌}
use native.Mathlib.Omega.{arith}
use native.Mathlib.Nat.{eq-or-lt_of_le}
use lib.Dec.{T}
use lib.ListN.{length, get_or}
use lib.IntN.{ℤ}
use borrow.Author.Tests.{leb-true, le-leb}
use Rattle.laws.proofs.Lists.{length_more, last_more, before_more, AtMost, at_most_more}
use Rattle.grounds.specs.Entry.{Entry, missed, sample, misses}
use Rattle.grounds.specs.Earlier.{again}
use Rattle.grounds.specs.Miss.{APART, TwoNear}
use Rattle.grounds.proofs.Entry.{misses_missed, misses_sample}

-- the state is that of the months of the misses
pub record Missed (months : List ℕ) (last : ℕ) (two : Bool) : Type 0 where
  pub latest : AtMost months last
  pub there : 0 < last → (i : ℕ) × (i < length months) × (get_or months i 0 ≡ last)
  pub named : two ≡ true ↔ TwoNear months

not_true : {A : Type 0} → false ≡ true → A
not_true e = absurd (subst T (sym e) tt)

pub missed_none : Missed [] 0 false
missed_none = record {
  latest = λ i h. absurd (omega arith);
  there = λ h. absurd (omega arith);
  named = (λ e. not_true e, λ t. absurd (let h = t.within in omega arith));
}

-- one more miss, no earlier than the last, where no two were near before
module _ (ms : List ℕ) (last m : ℕ) (old : Missed ms last false) (order : last ≤ m) (real : APART < m) where
  to_two : again last m ≡ true → TwoNear (ms ++ m ∷ [])
  to_two e =
      let p = old.there (omega (arith, leb-true)) in
      record {
        one = p.0;
        other = length ms;
        different = omega (arith, p.1);
        within = omega (arith, length_more ms m);
        near = rw (before_more ms m p.0 p.1, last_more ms m) (omega (arith, leb-true));
      }

  from_two : TwoNear (ms ++ m ∷ []) → again last m ≡ true
  from_two t = ⊎_elim
      (λ (e : t.other ≡ length ms).
      let h : t.one < length ms = omega (arith, t.different) in
      omega (arith, le-leb, rw (e, last_more ms m, before_more ms m t.one h) at t.near, old.latest t.one h))
      (λ (k : t.other < length ms).
      let h : t.one < length ms = omega (arith, t.different) in
      not_true (old.named.1 (record {
        one = t.one;
        other = t.other;
        different = t.different;
        within = k;
        near = rw (before_more ms m t.one h, before_more ms m t.other k) at t.near;
      })))
      (eq-or-lt_of_le (omega (arith, length_more ms m, t.within)))

  missed_more : Missed (ms ++ m ∷ []) m (again last m)
  missed_more = record {
    latest = at_most_more ms last m old.latest order;
    there = λ h. (length ms, omega (arith, length_more ms m), last_more ms m);
    named = (to_two, from_two);
  }

-- the same over entries; a sample is no miss
pub missed_missed : (es : List Entry) (last m : ℕ) → Missed (misses es) last false → last ≤ m → APART < m → Missed (misses (es ++ missed m ∷ [])) m (again last m)
missed_missed es last m old order real = rw (misses_missed es m) (missed_more (misses es) last m old order real)

pub missed_sample : (es : List Entry) (last : ℕ) (two : Bool) (year count : ℕ) (x : ℕ → ℤ) → Missed (misses es) last two → Missed (misses (es ++ sample year count x ∷ [])) last two
missed_sample es last two year count x old = rw (misses_sample es year count x) old
