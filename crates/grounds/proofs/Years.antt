-- The samples' years never fall, as long as no sample is of an earlier year than the last. Assumes nothing.
use mathlib.Core.Path.{◌≡◌}
use mathlib.Core.List.{List, [], ◌∷◌, ◌++◌}
use mathlib.Core.Logic.{⊎_elim}
use Prim.Native.Nat.{ℕ, ◌≤◌, ◌<◌}
use native.Mathlib.Nat.{eq-or-lt_of_le}
use native.Mathlib.Omega.{arith}
use lib.ListN.{length}
use Rattle.laws.proofs.Lists.{length_more, last_more, before_more, AtMost, at_most_more}
use Rattle.grounds.specs.Entry.{NeverFall}

-- they do not, and the last one is the latest
pub record Ordered (ys : List ℕ) (last : ℕ) : Type 0 where
  pub order : NeverFall ys
  pub latest : AtMost ys last

pub ordered_none : (last : ℕ) → Ordered [] last
ordered_none last = record { order = λ i j h l. absurd (omega arith); latest = λ i h. absurd (omega arith) }

module _ (ys : List ℕ) (last y : ℕ) (old : Ordered ys last) (later : last ≤ y) where
  latest : AtMost (ys ++ y ∷ []) y
  latest = at_most_more ys last y old.latest later

  order : NeverFall (ys ++ y ∷ [])
  order i j h l = ⊎_elim
      (λ (e : j ≡ length ys). omega (arith, rw (← e) at (last_more ys y), latest i (omega (arith, length_more ys y))))
      (λ (k : j < length ys). omega (arith, before_more ys y i (omega arith), before_more ys y j k, old.order i j h k))
      (eq-or-lt_of_le (omega (arith, length_more ys y)))

  pub ordered_more : Ordered (ys ++ y ∷ []) y
  ordered_more = record { order = order; latest = latest }
