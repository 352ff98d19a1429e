-- `hundredths_of` meets its contract: a float is accepted, and rounded, by its pattern.
use Rattle.std.proofs.Common.{rules, sym, subst, ◌∙◌}
use lib.Dec.{T}
use Rattle.percent.proofs.HundredthLaws.{is_rounded}
use Rattle.percent.proofs.rounding.hundredths_of.Goals as goal

pub returns : goal.returns
returns c =
    is_rounded c.args.x c.bits_of-bits.result c.then.result (subst T (sym c.well_formed.0.1) tt) c.bits_of-bits.ensures (c.then.ensures.variant ∙ c.is_accepted.ensures)
    (search rules)
