-- The chart law. A stretch grows at its end, and each sample keeps the run shown the best (`Best`); what the law says of earlier samples is the
-- same law of the stretch up to there.
use mathlib.Core.Path.{◌≡◌, refl, ap, sym, ◌∙◌, subst}
use mathlib.Core.Bool.{true, false}
use mathlib.Core.List.{List, [], ◌∷◌, ◌++◌}
use Prim.Native.Nat.{ℕ, suc, ◌+◌, ◌-◌, ◌≤◌, ◌<◌}
use native.Mathlib.Omega.{arith}
use native.Mathlib.Nat.{zero-add, add-zero, eq-or-lt_of_le}
use native.Mathlib.Numerals.{add-one}
use mathlib.Core.Logic.{⊎_elim}
use lib.Dec.{T}
use lib.ListN.{length, take, drop, length-append}
use lib.Seq.{take-length, drop-length, drop-append-le, length-take-le}
use lib.IntN.{ℤ, pos, ◌+ℤ◌, +ℤ_idl, +ℤ_idr, +ℤ_assoc}
use lib.Signed.{◌≤ℤ◌, ◌<ℤ◌}
use Rattle.laws.proofs.Order.{zarith}
use Rattle.laws.proofs.Gathered.{with_one_more}
use Rattle.laws.proofs.Lists.{by_growth}
use Rattle.grounds.specs.Chart.{next_value, next_first, over, value_from, first_from, value_after, first_after}
use Rattle.grounds.specs.Run.{Run, total, run_sum, Above}
use Rattle.grounds.specs.ChartLaw.{Shown, Quiet, EveryChart}
use Rattle.grounds.proofs.Best.{Best, none, next}

-- ---- one more sample

shift : (b n : ℕ) → suc b + n ≡ b + suc n
shift b n = omega arith

value_from_more : (b : ℕ) (v : ℤ) (xs : List ℤ) (x : ℤ) → value_from b v (xs ++ x ∷ []) ≡ next_value (b + length xs) (value_from b v xs) x
value_from_more b v [] x = rw add-zero
value_from_more b v (y ∷ xs) x = rw (shift b (length xs)) at (value_from_more (suc b) (next_value b v y) xs x)

first_from_more : (b : ℕ) (v : ℤ) (f : ℕ) (xs : List ℤ) (x : ℤ) → first_from b v f (xs ++ x ∷ []) ≡ next_first (b + length xs) (value_from b v xs) (first_from b v f xs)
first_from_more b v f [] x = rw add-zero
first_from_more b v f (y ∷ xs) x = rw (shift b (length xs)) at (first_from_more (suc b) (next_value b v y) (next_first b v f) xs x)

pub value_more : (xs : List ℤ) (x : ℤ) → value_after (xs ++ x ∷ []) ≡ next_value (length xs) (value_after xs) x
value_more xs x = rw zero-add at (value_from_more 0 (pos 0) xs x)

pub first_more : (xs : List ℤ) (x : ℤ) → first_after (xs ++ x ∷ []) ≡ next_first (length xs) (value_after xs) (first_after xs)
first_more xs x = rw zero-add at (first_from_more 0 (pos 0) 0 xs x)

total_more : (xs : List ℤ) (x : ℤ) → total (xs ++ x ∷ []) ≡ total xs +ℤ x
total_more = with_one_more ◌+ℤ◌ (pos 0) +ℤ_idl +ℤ_idr +ℤ_assoc (λ (x : ℤ). x) total refl (λ x xs. refl)

-- ---- the runs that end at the last sample

abbrev tail : List ℤ → ℕ → ℤ
tail xs n = total (drop (n - 1) xs)

tail_more : (xs : List ℤ) (x : ℤ) (n : ℕ) → n ≤ suc (length xs) → tail (xs ++ x ∷ []) n ≡ tail xs n +ℤ x
tail_more xs x n h = ap total (drop-append-le (n - 1) xs (x ∷ []) (omega arith)) ∙ total_more (drop (n - 1) xs) x

-- the run of no sample
tail_fresh : (xs : List ℤ) → tail xs (suc (length xs)) ≡ pos 0
tail_fresh xs = let e : suc (length xs) - 1 ≡ length xs = omega arith in rw (e, drop-length)

best : (xs : List ℤ) → Best (length xs) (tail xs) (value_after xs) (first_after xs)
best = by_growth (λ xs. Best (length xs) (tail xs) (value_after xs) (first_after xs))
    (λ xs x b. rw (length-append, value_more, first_more, add-one)
    (next (length xs) (tail xs) (tail (xs ++ x ∷ [])) (value_after xs) x (first_after xs) (tail_more xs x) (tail_fresh xs) b))
    (none (tail []))

tail_is : (xs : List ℤ) (n : ℕ) → run_sum xs n (length xs) ≡ tail xs n
tail_is xs n = rw take-length

-- ---- the law

module _ (limit : ℤ) (low : pos 0 ≤ℤ limit) where
  some : (xs : List ℤ) → over limit (value_after xs) ≡ true → 1 ≤ length xs
  some [] h = absurd (omega zarith)
  some (x ∷ xs) h = omega arith

  shown : (xs : List ℤ) → over limit (value_after xs) ≡ true → Shown xs (first_after xs) (value_after xs)
  shown xs h =
      let b = best xs in
      let positive : pos 0 <ℤ value_after xs = omega zarith in
      record {
        run = b.run (some xs h);
        sums = tail_is xs (first_after xs) ∙ b.sums positive;
        highest = λ n r. rw (tail_is xs n) (b.highest n r);
        shortest = λ n r e. b.shortest n r positive (sym (tail_is xs n) ∙ e);
      }

  to_run : (xs : List ℤ) → over limit (value_after xs) ≡ true → (n : ℕ) × Above limit xs n (length xs)
  to_run xs h =
      let s = shown xs h in
      (first_after xs, record { run = s.run; above = rw s.sums (omega zarith) })

  from_tail : (xs : List ℤ) (n : ℕ) → Run (length xs) n (length xs) → limit <ℤ tail xs n → over limit (value_after xs) ≡ true
  from_tail xs n r h = let q = (best xs).highest n r in omega zarith

  last : (xs : List ℤ) → Quiet limit xs → (n m : ℕ) → Above limit xs n m → m ≡ length xs
  last xs quiet n m a = ⊎_elim (λ (e : m ≡ length xs). e) (λ (h : m < length xs). absurd (not_before h)) (eq-or-lt_of_le a.run.within)
    where
      not_before : m < length xs → ⊥
      not_before h =
          let long : length (take m xs) ≡ m = length-take-le m xs (omega arith) in
          let o = from_tail (take m xs) n (rw long (record { one = a.run.one; not_two = a.run.not_two; order = a.run.order; within = omega arith })) a.above in
          let z : true ≡ false = sym o ∙ quiet m h in
          subst T z tt

pub chart_law : EveryChart
chart_law limit low xs = record {
  over_is = (to_run limit low xs, λ a. from_tail limit low xs a.0 a.1.run (rw (tail_is xs a.0) at a.1.above));
  shown = shown limit low xs;
  last = last limit low xs;
}
