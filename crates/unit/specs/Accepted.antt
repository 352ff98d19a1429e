-- What an accepted line is, by category, as laws that are proved: the entries of the claim are the accepted lines of kind 01, of residues of kind 03.
use Rattle.std.specs.Prelude.{ℕ, ◌≡◌, true, false, ◌↔◌, List, Ok}
use Rattle.difference.specs.declared.category.Category.TheVariants.{Food, Residue}
use Rattle.field.specs.Refused.{MAINTENANCE}
use Rattle.field.specs.Residue.{RESIDUE_KIND}
use Rattle.food_line.specs.Read.{read_of}
use Rattle.food_line.specs.declared.record.Record.{Record}
use Rattle.residue_line.specs.Read.{read_of as residueReadOf}
use Rattle.residue_line.specs.declared.record.Record.{Record as ResidueRecord}
use Rattle.seen.specs.Food.{seen_of}
use Rattle.seen.specs.Residue.{seen_of as residueSeenOf}
use Rattle.unit.specs.Claim.{is_accepted}
use Rattle.seen.specs.Rules.{food_chemistry, residues_of}
use Rattle.unit.specs.Take.{taken_of}
use Rattle.unit.specs.declared.Contents as U

-- of food chemistry: it reads, what it is to the unit is what its record is, and it is no study line exactly where its kind is 01
pub record Accepted (line : List ℕ) : Type 0 where
  pub of : Record
  pub reads : read_of line ≡ Ok of
  pub seen : food_chemistry.seen line ≡ seen_of of
  pub kind : ((food_chemistry.seen line).study ≡ false) ↔ (of.kind ≡ MAINTENANCE)

-- proved as `accepted_is` of proofs/FoodLaws
abbrev pub AcceptedIs : Type 0
AcceptedIs = (u : U.Contents) → u.category ≡ Food → (line : List ℕ) → is_accepted (taken_of u line).event ≡ true → Accepted line

-- of residues: it reads, its kind is 03, what it is to the unit is what its record is, and it is no study line
pub record AcceptedResidue (compound : ℕ) (line : List ℕ) : Type 0 where
  pub of : ResidueRecord
  pub reads : residueReadOf compound line ≡ Ok of
  pub kind : of.kind ≡ RESIDUE_KIND
  pub seen : (residues_of compound).seen line ≡ residueSeenOf of
  pub maintenance : ((residues_of compound).seen line).study ≡ false

-- proved as `accepted_residue_is` of proofs/ResidueLaws
abbrev pub AcceptedResidueIs : Type 0
AcceptedResidueIs =
    (u : U.Contents) (compound : ℕ) → u.category ≡ Residue compound
    → (line : List ℕ) → is_accepted (taken_of u line).event ≡ true → AcceptedResidue compound line
