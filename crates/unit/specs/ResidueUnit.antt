-- How a unit of residues differs from one of food chemistry, as laws that are proved (proofs/ResidueUnitLaws). Document 02, request One: it starts
-- accredited, which is its admission, it has no sets, a line after probation gets 8, and 9 and 11 do not occur.
use Rattle.std.specs.Prelude.{ℕ, ◌≡◌, Bool, true, false, cond, ◌||◌, ◌↔◌, List, eqb, Ok}
use Rattle.difference.specs.declared.category.Category.TheVariants.{Residue}
use Rattle.field.specs.Residue.{no_compound}
use Rattle.reply.specs.Event.{Event, event_byte}
use Rattle.reply.specs.declared.event.Event.TheVariants.{Refused}
use Rattle.residue_line.specs.Read.{line_rows}
use Rattle.rows.specs.Rows.{first_row}
use Rattle.rows.specs.declared.refusal.Refusal.TheVariants.{Closed as ClosedRow, Stage as StageRow, Gap}
use Rattle.reply.specs.declared.stage.Stage.TheVariants.{Accredited, Probation}
use Rattle.unit.specs.Claim.{is_accepted, opened_in, since, history}
use Rattle.unit.specs.Reached.{replay}
use Rattle.unit.specs.Status.{status_of}
use Rattle.unit.specs.Take.{made_of, taken_of}
use Rattle.unit.specs.declared.Contents as U

-- the unit is of residues of a compound
abbrev pub OfResidues : ℕ → U.Contents → Type 0
OfResidues compound u = u.category ≡ Residue compound

-- it starts accredited: the unit made of a compound takes the first line of that compound that reads, whatever it is
abbrev pub FirstTaken : Type 0
FirstTaken = (compound : ℕ) → no_compound compound ≡ false
    → (u : U.Contents) × (made_of compound ≡ Ok u) × ((line : List ℕ) → first_row (line_rows compound line) ≡ Ok tt → is_accepted (taken_of u line).event ≡ true)

-- 9 and 11 do not occur
abbrev pub RowsNever : Type 0
RowsNever = (compound : ℕ) (u : U.Contents) → OfResidues compound u → (line : List ℕ)
    → ((taken_of u line).event ≡ Refused StageRow → ⊥) × ((taken_of u line).event ≡ Refused Gap → ⊥)

-- events 03, 04 and 05 are those of a set
abbrev pub of_set : Event → Bool
of_set e = eqb (event_byte e) 3 || eqb (event_byte e) 4 || eqb (event_byte e) 5

-- no line is one of a set, is judged or admits
abbrev pub SetsNever : Type 0
SetsNever = (compound : ℕ) (u : U.Contents) → OfResidues compound u → (line : List ℕ) → of_set (taken_of u line).event ≡ false

-- so the start of the list is the admission
abbrev pub StartAdmits : Type 0
StartAdmits = (compound : ℕ) (ls : List (List ℕ)) → since (history (Residue compound) ls) ≡ history (Residue compound) ls

-- the status shows stage 2 till a line opens probation, and from then on 3
abbrev pub StageIs : Type 0
StageIs = (compound : ℕ) (ls : List (List ℕ)) → (status_of (replay (Residue compound) ls)).stage ≡ cond (opened_in (history (Residue compound) ls)) Probation Accredited

-- a line that reads is refused with 8, whatever it is, exactly where a line before it opened probation
abbrev pub ClosedAfter : Type 0
ClosedAfter = (compound : ℕ) (ls : List (List ℕ)) (line : List ℕ) → first_row (line_rows compound line) ≡ Ok tt
    → ((taken_of (replay (Residue compound) ls) line).event ≡ Refused ClosedRow) ↔ (opened_in (history (Residue compound) ls) ≡ true)
