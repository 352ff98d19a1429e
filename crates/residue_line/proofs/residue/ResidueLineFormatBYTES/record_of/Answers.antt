-- The fields come back from the record, where no row fits them.
use Rattle.residue_line.proofs.Inverse.{fields_back}
use Rattle.residue_line.proofs.RowLaws.{clean}
use Rattle.residue_line.proofs.residue.ResidueLineFormatBYTES.record_of.Goals as goal

pub returns-clause-back : goal.returns-clause-back
returns-clause-back c = λ ok. fields_back c.args.self.compound c.args.f (clean c.args.self.compound c.args.f ok)
