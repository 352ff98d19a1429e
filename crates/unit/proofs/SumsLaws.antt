-- No sum of a set can overflow: the bounds of n differences, one difference more, and a list's. Assumes nothing.
use mathlib.Core.Path.{◌≡◌, refl, sym, ◌∙◌, subst}
use mathlib.Core.Bool.{Bool, true, false}
use mathlib.Core.List.{List, [], ◌∷◌}
use Prim.Native.Nat.{ℕ, suc, ◌≤◌}
use native.Mathlib.Nat.{mul-le-mul}
use native.Mathlib.Omega.{arith}
use borrow.Author.Tests.{ltb-true, ltb-false}
use lib.Dec.{ltb}
use lib.ListN.{length, length-replicate}
use lib.IntN.{ℤ, nat_abs}
use Rattle.difference.specs.Difference.{CAP}
use Rattle.difference.specs.declared.constants.Constants.{Constants}
use Rattle.difference.specs.declared.difference.Difference.{Difference}
use Rattle.difference.proofs.Bounds.{measure_small}
use Rattle.laws.proofs.EachLaws.{each_length, each_at, each_past}
use Rattle.laws.proofs.Lists.{same_at}
use Rattle.laws.proofs.Word.{abs_plus}
use Rattle.difference.specs.Contribution.{ANALYTES}
use Rattle.unit.specs.Charts.{difference_at}
use Rattle.unit.specs.Set.{empty_set, entered_by, entered_of, sums_at}
use Rattle.study.specs.Study.{no_sums, added_of, sums_of}
use Rattle.unit.specs.bounds.Numbers.{SumsBounded, SetBounded, Capped}
use Rattle.unit.specs.declared.set.Set.{Set}
use Rattle.study.specs.declared.Sums.{Sums}

pub none_bounded : SumsBounded 0 no_sums
none_bounded = record { s = omega arith; q = omega arith; g = omega arith }

pub more_bounded : {n : ℕ} (sums : Sums) (d : ℤ) → nat_abs d ≤ CAP → SumsBounded n sums → SumsBounded (suc n) (added_of sums d)
more_bounded sums d h k =
    record {
      s = omega (arith, abs_plus sums.s d, k.s);
      q = omega (arith, mul-le-mul h h, k.q);
      g = omega (arith, measure_small (nat_abs d), k.g);
    }

-- each difference of the list is at most CAP in size
abbrev pub Small : List ℤ → Type 0
Small [] = Unit {0}
Small (d ∷ ds) = (nat_abs d ≤ CAP) × Small ds

pub list_bounded : (ds : List ℤ) → Small ds → SumsBounded (length ds) (sums_of ds)
unfolding sums_of
list_bounded [] h = none_bounded
list_bounded (d ∷ ds) h = more_bounded (sums_of ds) d h.0 (list_bounded ds h.1)

-- ---- those of a set, analyte by analyte

pub empty_bounded : SetBounded empty_set
empty_bounded = record { room = length-replicate ANALYTES no_sums; sums = λ a. subst (SumsBounded 0) (sym (same_at ANALYTES a no_sums)) none_bounded }

-- the bounds of fewer differences are bounds of more
pub looser : {m n : ℕ} (sums : Sums) → m ≤ n → SumsBounded m sums → SumsBounded n sums
looser sums h k = record { s = omega (arith, k.s); q = omega (arith, k.q); g = omega (arith, k.g) }

pub entered_bounded : (c : Constants) → c.analytes ≤ ANALYTES → (s : Set) (ds : List Difference) → SetBounded s → Capped ds → SetBounded (entered_of c s ds)
entered_bounded c few s ds h cap = record {
  room = each_length c.analytes (entered_by ds) s.sums ∙ h.room;
  sums = λ a. go a (ltb a c.analytes) refl;
}
  where
    go : (a : ℕ) (b : Bool) → ltb a c.analytes ≡ b → SumsBounded (suc s.lines) (sums_at (entered_of c s ds).sums a)
    go a true e =
        let l = ltb-true a c.analytes e in
        subst (SumsBounded (suc s.lines)) (sym (each_at c.analytes (entered_by ds) s.sums no_sums a l (omega (arith, h.room, few))))
        (more_bounded (sums_at s.sums a) (difference_at ds a) (cap a) (h.sums a))
    go a false e =
        subst (SumsBounded (suc s.lines)) (sym (each_past c.analytes (entered_by ds) s.sums no_sums a (ltb-false a c.analytes e)))
        (looser (sums_at s.sums a) (omega arith) (h.sums a))
