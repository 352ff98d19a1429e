-- The mask's bits: each is its chart's, and there is room for them. Assumes nothing.
use Prim.Native.Nat.{ℕ, zero, suc, ◌+◌, ◌*◌, ◌/◌, ◌%◌, ◌^◌, ◌≤◌, ◌<◌}
use mathlib.Core.Path.{◌≡◌, refl, sym, ap, ◌∙◌}
use mathlib.Core.Bool.{Bool, true, false}
use mathlib.Core.List.{List, [], ◌∷◌, ◌++◌}
use native.Mathlib.Nat.{div-div-eq-div-mul, pow-succ'}
use native.Mathlib.Omega.{arith}
use lib.Dec.{eqb, lit<}
use lib.ListN.{length, get_or}
use Rattle.std.proofs.lemmas.List.{length-append}
use Rattle.difference.specs.Contribution.{CHARTS}
use Rattle.reply.specs.Report.{bit_at, no_report}
use Rattle.unit.specs.Status.{bit_of, mask_of}
use Rattle.reply.specs.declared.report.ChartReport.{ChartReport}

bit_step : (b m c : ℕ) → b < 2 → (b + 2 * m) / 2 ^ suc c ≡ m / 2 ^ c
bit_step b m c h =
    let e : (b + 2 * m) / 2 ≡ m = omega arith in
    ap (λ (n : ℕ). (b + 2 * m) / n) (pow-succ' 2 c) ∙ sym (div-div-eq-div-mul (b + 2 * m) 2 (2 ^ c)) ∙ ap (λ (n : ℕ). n / 2 ^ c) e

pub bit_lt : (b : Bool) → bit_of b < 2
bit_lt true = lit< tt
bit_lt false = lit< tt

bit_first : (b : Bool) (m : ℕ) → eqb ((bit_of b + 2 * m) / 2 ^ 0 % 2) 1 ≡ b
bit_first true m =
    let e : (1 + 2 * m) / 2 ^ 0 % 2 ≡ 1 = omega arith in
    rw e
bit_first false m =
    let e : (0 + 2 * m) / 2 ^ 0 % 2 ≡ 0 = omega arith in
    rw e

-- of an empty mask no bit is set
no_bit : (c : ℕ) → bit_at c 0 ≡ false
no_bit zero = refl
no_bit (suc c) = ap (λ (n : ℕ). eqb (n % 2) 1) (bit_step 0 0 c (lit< tt)) ∙ no_bit c

pub bit_of_lem : (rows : List ChartReport) (c : ℕ) → bit_at c (mask_of rows) ≡ (get_or rows c no_report).over
bit_of_lem [] c = no_bit c
bit_of_lem (r ∷ rows) zero = bit_first r.over (mask_of rows)
bit_of_lem (r ∷ rows) (suc c) = ap (λ (n : ℕ). eqb (n % 2) 1) (bit_step (bit_of r.over) (mask_of rows) c (bit_lt r.over)) ∙ bit_of_lem rows c

-- k charts fill k bits
within : (rows : List ChartReport) (k : ℕ) → length rows ≤ k → mask_of rows < 2 ^ k
within [] zero h = lit< tt
within [] (suc k) h = omega (arith, within [] k (omega arith), pow-succ' 2 k)
within (r ∷ rows) zero h = absurd (omega arith)
within (r ∷ rows) (suc k) h = omega (arith, within rows k (omega arith), bit_lt r.over, pow-succ' 2 k)

-- so there is room for one more, while one is still to come
pub mask_room : (rows rest left taken : List ChartReport) (row : ChartReport)
    → length rows ≡ CHARTS → rows ≡ rest ++ taken → rest ≡ left ++ row ∷ [] → mask_of taken < 2 ^ 15
mask_room rows rest left taken row long parts next =
    let all = ap length parts ∙ length-append rest taken in
    let more = ap length next ∙ length-append left (row ∷ []) in
    within taken 15 (omega (arith, all, more, long))
