-- Windows of a list of counts: a wider one has no fewer misidentifications, so that the regulation's windows say the same; and where no window has too
-- many, one more sample can break only the widest window that ends with it. Assumes nothing.
use mathlib.Core.Path.{◌≡◌, refl, ap, ap₂, ◌∙◌}
use mathlib.Core.Bool.{Bool, true, false}
use mathlib.Core.List.{List, [], ◌∷◌, ◌++◌}
use mathlib.Core.Logic.{◌⊎◌, inl, inr, ⊎_elim}
use Prim.Native.Nat.{ℕ, zero, suc, ◌+◌, ◌-◌, ◌≤◌, ◌<◌}
use native.Mathlib.Nat.{eq-or-lt_of_le}
use native.Mathlib.Omega.{arith}
use lib.Dec.{leb}
use lib.ListN.{length, take, drop, take-append-drop}
use lib.Seq.{take-take, take-length, take-append-le, drop-nil, drop-drop}
use borrow.Author.Tests.{leb-true, leb-false}
use Rattle.laws.proofs.Lists.{length_more}
use Rattle.grounds.specs.Window.{Window, Regulated, Breaks, AsRegulated, sum, count_of}

-- ---- sums

pub sum_append : (xs ys : List ℕ) → sum (xs ++ ys) ≡ sum xs + sum ys
sum_append [] ys = omega arith
sum_append (x ∷ xs) ys = omega (arith, sum_append xs ys)

sum_take : (m : ℕ) (xs : List ℕ) → sum (take m xs) ≤ sum xs
sum_take m xs = omega (arith, sum_append (take m xs) (drop m xs), ap sum (take-append-drop m xs))

sum_drop : (m : ℕ) (xs : List ℕ) → sum (drop m xs) ≤ sum xs
sum_drop m xs = omega (arith, sum_append (take m xs) (drop m xs), ap sum (take-append-drop m xs))

-- of a list that starts earlier
sum_earlier : (i j : ℕ) (xs : List ℕ) → i ≤ j → sum (drop j xs) ≤ sum (drop i xs)
sum_earlier i j xs h =
    let e : i + (j - i) ≡ j = omega arith in
    omega (arith, sum_drop (j - i) (drop i xs), ap sum (drop-drop (j - i) i xs ∙ ap (λ (k : ℕ). drop k xs) e))

-- of one that ends later
sum_later : (k m : ℕ) (xs : List ℕ) → sum (drop k (take m xs)) ≤ sum (drop k xs)
sum_later zero m xs = sum_take m xs
sum_later (suc k) zero xs = omega arith
sum_later (suc k) (suc m) [] = omega arith
sum_later (suc k) (suc m) (x ∷ xs) = sum_later k m xs

wider : (xs : List ℕ) (n m i j : ℕ) → i ≤ n → m ≤ j → count_of xs n m ≤ count_of xs i j
wider xs n m i j h k =
    omega (arith, sum_earlier (i - 1) (n - 1) (take m xs) (omega arith), sum_later (i - 1) m (take j xs), ap (λ (l : List ℕ). sum (drop (i - 1) l)) (take-take m j xs k))

-- ---- the regulation's windows

module _ (width allowed : ℕ) (xs : List ℕ) where
  -- a window lies within one of the regulation's
  widened : (b : Breaks (Window width (length xs)) allowed xs) (i j : ℕ) → Regulated width (length xs) i j → i ≤ b.first → b.last ≤ j
      → Breaks (Regulated width (length xs)) allowed xs
  widened b i j r h k = record { first = i; last = j; is = r; above = omega (arith, b.above, wider xs b.first b.last i j h k) }

  to_regulated : Breaks (Window width (length xs)) allowed xs → Breaks (Regulated width (length xs)) allowed xs
  to_regulated b = go (leb (b.first + width) (suc (length xs))) (leb width (length xs)) refl refl
    where
      go : (roomy full : Bool) → leb (b.first + width) (suc (length xs)) ≡ roomy → leb width (length xs) ≡ full → Breaks (Regulated width (length xs)) allowed xs
      go true full e f = let w = b.is in widened b b.first (b.first + width - 1)
          (record { one = w.one; order = omega (arith, w.order, w.narrow); within = omega (arith, leb-true); full = inl (omega (arith, w.one)) })
          (omega arith) (omega (arith, w.narrow))
      go false true e f = let w = b.is in widened b (suc (length xs) - width) (length xs)
          (record { one = omega (arith, leb-true); order = omega (arith, w.order, w.narrow, w.within, leb-true); within = omega arith; full = inl (omega (arith, leb-true)) })
          (omega (arith, leb-false)) w.within
      go false false e f = let w = b.is in widened b 1 (length xs)
          (record { one = omega arith; order = omega (arith, w.one, w.order, w.within); within = omega arith; full = inr (omega (arith, leb-false), refl, refl) })
          w.one w.within

  from_regulated : Breaks (Regulated width (length xs)) allowed xs → Breaks (Window width (length xs)) allowed xs
  from_regulated b =
      let r = b.is in
      record {
        first = b.first;
        last = b.last;
        is = record {
          one = r.one;
          order = r.order;
          within = r.within;
          narrow = ⊎_elim (λ (e : b.last + 1 ≡ b.first + width). omega arith)
              (λ (p : (length xs < width) × (b.first ≡ 1) × (b.last ≡ length xs)). omega (arith, p.0, p.1, p.2)) r.full;
        };
        above = b.above;
      }

pub as_regulated : AsRegulated
as_regulated width allowed xs = (to_regulated width allowed xs, from_regulated width allowed xs)

-- ---- the widest window that ends at the last sample

-- its misidentifications
abbrev pub latest_sum : ℕ → List ℕ → ℕ
latest_sum width xs = sum (drop (length xs - width) xs)

pub latest_breaks : (width allowed : ℕ) (xs : List ℕ) → 0 < width → allowed < latest_sum width xs → Breaks (Window width (length xs)) allowed xs
latest_breaks width allowed [] w a = absurd (omega (arith, ap sum (drop-nil {A = ℕ} (0 - width))))
latest_breaks width allowed (x ∷ xs) w a =
    let l = x ∷ xs in
    let n = suc (length l - width) in
    let start : n - 1 ≡ length l - width = omega arith in
    record {
      first = n;
      last = length l;
      is = record { one = omega arith; order = omega arith; within = omega arith; narrow = omega arith };
      above = omega (arith, ap₂ (λ (k : ℕ) (k' : List ℕ). sum (drop k k')) start (take-length l));
    }

-- One more sample: a window that breaks was there before, or ends there; and of these the widest has the most.
pub one_more : (width allowed : ℕ) (xs : List ℕ) (x : ℕ) → Breaks (Window width (length (xs ++ x ∷ []))) allowed (xs ++ x ∷ [])
    → Breaks (Window width (length xs)) allowed xs ⊎ (allowed < latest_sum width (xs ++ x ∷ []))
one_more width allowed xs x b =
    let w = b.is in
    let l = xs ++ x ∷ [] in
    ⊎_elim
    (λ (e : b.last ≡ length l). inr (omega (
      arith,
      b.above,
      w.narrow,
      w.one,
      ap (λ (k : List ℕ). sum (drop (b.first - 1) k)) (ap (λ (k : ℕ). take k l) e ∙ take-length l),
      sum_earlier (length l - width) (b.first - 1) l (omega (arith, w.narrow)),
    )))
    (λ (k : b.last < length l).
    let h : b.last ≤ length xs = omega (arith, length_more xs x) in
    inl (record {
      first = b.first;
      last = b.last;
      is = record { one = w.one; order = w.order; within = h; narrow = w.narrow };
      above = rw (take-append-le b.last xs (x ∷ []) h) at b.above;
    }))
    (eq-or-lt_of_le w.within)
