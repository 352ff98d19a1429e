-- The record comes back from its fields, since its days are a byte.
use Rattle.std.proofs.Common.{rules}
use Rattle.residue_line.specs.bounds.Types.{Typed}
use Rattle.residue_line.proofs.Inverse.{record_back}
use Rattle.residue_line.proofs.residue.ResidueLineFormatBYTES.fields_of.Goals as goal

pub returns-clause-back : goal.returns-clause-back
returns-clause-back c = let typed : Typed c.args.r = search rules in record_back c.args.self.compound c.args.r typed
