-- `take_seen` meets its contract: each return is a case of `taken_seen`.
use Rattle.std.proofs.Common.{List, ℕ, sym, ap, ap₂, ◌∙◌, eqb}
use Rattle.grounds.specs.Earlier.{is_broken}
use Rattle.study.specs.Study.{SET}
use Rattle.unit.specs.Stretch.{any_over}
use Rattle.unit.specs.Take.{sample_by, study_by}
use Rattle.unit.specs.declared.set.Set.{Set}
use Rattle.unit.specs.declared.stretch.Stretch.{Stretch}
use Rattle.unit.proofs.Taking.{refused_row, accepted_study, accepted_missed, accepted_sample, is_open, room}
use Rattle.unit.proofs.stage.take_seen.Goals as goal

pub returns-in-Err : goal.returns-in-Err
returns-in-Err c = c.refused.ensures ∙ refused_row c.args.c.constants c.args.u c.args.x c.in-Err.refusal (sym c.first_row.ensures ∙ c.in-Err.is)

pub returns-then-x : goal.returns-then-x
returns-then-x c =
    c.study_line.ensures
    ∙ ap (λ (s : Set). study_by (eqb s.lines SET) c.args.c.constants c.args.u c.args.x.month s) c.entered.ensures
    ∙ accepted_study c.args.c.constants c.args.u c.args.x (sym c.in_default.ensures) c.if-x.true

pub returns-then-x-2 : goal.returns-then-x-2
returns-then-x-2 c =
    c.missed_line.ensures ∙ accepted_missed c.args.c.constants c.args.u c.args.x (sym c.in_default.ensures) c.if-x.false c.if-x-2.true

pub sampled-requires : goal.sampled-requires
sampled-requires c = (
  room c.args.u c.args.x (is_open c.args.u c.args.x (sym c.in_default.ensures)) c.if-x.false c.if-x-2.false,
  c.requires.0.stretch,
)

pub returns : goal.returns
returns c =
    c.sample_line.ensures
    ∙ ap₂ (λ (s : Stretch) (n : List ℕ). sample_by (is_broken n) (any_over c.args.c.constants s.charts) c.args.u c.args.x.month s n) c.sampled.ensures c.latest_of.ensures
    ∙ accepted_sample c.args.c.constants c.args.u c.args.x (sym c.in_default.ensures) c.if-x.false c.if-x-2.false
