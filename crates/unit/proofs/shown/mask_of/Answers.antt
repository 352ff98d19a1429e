-- `mask_of` meets its contract: so many charts leave room in the mask.
use Rattle.std.proofs.Common.{◌≡◌, ◌<◌, ◌++◌, ◌∷◌, [], List, ℕ, sym, ap, subst, ◌∙◌, length, arith, rules}
use Rattle.std.proofs.lemmas.List.{append-nil, nil_from_length}
use Rattle.std.proofs.Math.Seq.{append_snoc}
use Rattle.difference.specs.Contribution.{CHARTS}
use Rattle.unit.specs.Status.{mask_of}
use Rattle.reply.specs.declared.report.ChartReport.{ChartReport}
use Rattle.unit.proofs.MaskLaws.{mask_room, bit_lt}
use Rattle.unit.proofs.shown.mask_of.Goals as goal

pub loop-report-init : goal.loop-report-init
loop-report-init c =
    let all = ap (λ (i : _). i.iter.rest.now) c.into_iter-report-iterator.ensures.into_iter_gives ∙ ap (λ (i : _). i.rest.now) c.rev-report-items.ensures.source ∙ c.iter.ensures.rest in
    ([], sym (append-nil _ ∙ all), search rules)

pub overflow_mul-mask : goal.overflow_mul-mask
overflow_mul-mask c =
    let p = c.loop-report.invariant in
    let all : length c.args.reports ≡ CHARTS = search rules in
    record { fits = omega (arith, mask_room _ _ _ p.0 _ all p.1 c.in-Some.ensures.steps, p.2) }

pub overflow_add-mask : goal.overflow_add-mask
overflow_add-mask c =
    let p = c.loop-report.invariant in
    let all : length c.args.reports ≡ CHARTS = search rules in
    let bit = subst (λ (n : ℕ). n < 2) (sym c.from.ensures) (bit_lt c.in-Some.report.now.over) in
    record { fits = omega (arith, mask_room _ _ _ p.0 _ all p.1 c.in-Some.ensures.steps, bit, p.2) }

pub loop-report-preserved : goal.loop-report-preserved
loop-report-preserved c =
    let p = c.loop-report.invariant in
    let next = ap (λ (l : List ChartReport). l ++ p.0) c.in-Some.ensures.steps in
    (c.in-Some.report.now ∷ p.0, p.1 ∙ next ∙ append_snoc c.next.new.self.iter.rest.now c.in-Some.report.now p.0, rw (c.from.ensures, p.2))

pub returns : goal.returns
returns c =
    let p = c.loop-report.invariant in
    p.2 ∙ ap mask_of (sym (p.1 ∙ ap (λ (l : List ChartReport). l ++ p.0) (nil_from_length _ c.in-None.ensures.steps.0)))
