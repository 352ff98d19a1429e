-- `add_all` meets its contract.
use Rattle.std.proofs.Common.{◌≡◌, ◌-◌, ◌∙◌, List, sym, ap, subst, length, arith, rules}
use Rattle.laws.proofs.EachLaws.{each_next, each_past}
use Rattle.difference.specs.Contribution.{ANALYTES}
use Rattle.study.specs.Study.{SET, no_sums}
use Rattle.study.specs.declared.Sums.{Sums}
use Rattle.unit.specs.Set.{entered_by, sums_at}
use Rattle.unit.specs.bounds.Numbers.{SumsBounded}
use Rattle.unit.proofs.set.add_all.Goals as goal

pub add-requires : goal.add-requires
add-requires c =
    let there : sums_at c.loop-a.sums c.loop-a.a ≡ sums_at c.args.start c.loop-a.a =
    ap (λ (l : List Sums). sums_at l c.loop-a.a) c.loop-a.invariant ∙ each_past c.loop-a.a (entered_by c.args.d) c.args.start no_sums c.loop-a.a (omega arith) in
    (subst (SumsBounded (SET - 1)) (sym there) (c.requires.0 c.loop-a.a), c.requires.1 c.loop-a.a)

pub loop-a-preserved : goal.loop-a-preserved
loop-a-preserved c =
    let all : length c.args.start ≡ ANALYTES = search rules in
    each_next c.loop-a.a _ _ no_sums (omega arith) c.loop-a.invariant c.add.ensures
