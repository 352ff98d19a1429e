-- The compound is not refused, so there is a unit.
use Rattle.std.proofs.Common.{refl}
use Rattle.field.specs.Residue.{no_compound}
use Rattle.residue_program.proofs.run.Goals as goal

pub unwrap-unit-requires : goal.unwrap-unit-requires
unfolding no_compound
unwrap-unit-requires g c = rw c.new_residue_unit.ensures.whole refl
