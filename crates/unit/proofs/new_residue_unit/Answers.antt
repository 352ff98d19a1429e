-- `new_residue_unit` meets its contract: a compound's unit is new.
use Rattle.std.proofs.Common.{not, sym, ap, ◌∙◌}
use Rattle.difference.specs.declared.category.Category.TheVariants.{Residue}
use Rattle.unit.proofs.Reach.{reached_new}
use Rattle.unit.proofs.new_residue_unit.Goals as goal

pub invariant_of-result : goal.invariant_of-result
invariant_of-result c =
    reached_new (Residue c.args.compound) (ap not (sym c.no_compound.ensures ∙ c.if-no_compound.false)) c.empty_unit-contents.result c.empty_unit-contents.ensures

pub returns-clause-reached : goal.returns-clause-reached
returns-clause-reached c = invariant_of-result c
