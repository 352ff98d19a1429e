-- An empty line is none to the unit. Assumes nothing.
use mathlib.Core.Path.{refl, sym, ap}
use mathlib.Core.List.{List, [], ◌∷◌}
use Rattle.reply.specs.Event.{Event}
use Rattle.unit.specs.Take.{taken_of, new_of}
use Rattle.unit.proofs.Claimed.{claim_holds}
use Rattle.unit.proofs.Long.{refused_empty}
use Rattle.console.specs.Lines.{lines_of, given}
use Rattle.console.specs.Transcript.{unit_after_all}
use Rattle.console.specs.Given.{DroppedIs, EmptyRefused, ClaimThere}

pub dropped : DroppedIs
dropped u [] = record { events = refl; unit = refl }
dropped u ([] ∷ ls) = let rest = dropped u ls in record { events = rest.events; unit = rest.unit }
dropped u ((x ∷ l) ∷ ls) =
    let rest = dropped (taken_of u (x ∷ l)).unit ls in
    record { events = ap (λ (es : List Event). (taken_of u (x ∷ l)).event ∷ es) rest.events; unit = rest.unit }

pub empty_refused : EmptyRefused
empty_refused u = refused_empty u

pub claim_there : ClaimThere
claim_there k input = claim_holds k (given (lines_of input)) (unit_after_all (new_of k) (lines_of input)) (sym (dropped (new_of k) (lines_of input)).unit)
