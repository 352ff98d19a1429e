-- Document 02, request Three, as laws over the list of lines that are proved (proofs/MisidentifiedLaws): nothing of the unit's memory is in them.
use Rattle.std.specs.Prelude.{ℕ, ◌≡◌, false, ◌↔◌, List, [], ◌∷◌, ◌++◌}
use Rattle.difference.specs.declared.category.Category.TheVariants.{Food, Residue}
use Rattle.grounds.specs.Claim.{Misidentified}
use Rattle.reply.specs.declared.event.Event.TheVariants.{ByMisidentifications}
use Rattle.seen.specs.Rules.{food_chemistry, residues_of}
use Rattle.unit.specs.Claim.{history, since, misidentified_in, entries_of}
use Rattle.unit.specs.Reached.{replay}
use Rattle.unit.specs.Take.{taken_of}

-- a window of the samples since a residue unit's start, across the years, has too many misidentifications
abbrev pub TooManySince : ℕ → List (List ℕ) → Type 0
TooManySince compound ls = Misidentified (entries_of (residues_of compound) (history (Residue compound) ls))

-- A residue unit answers 08 to the first line with which there is such a window, whatever the charts, and to no other.
abbrev pub FirstBreaks : Type 0
FirstBreaks = (compound : ℕ) (ls : List (List ℕ)) (line : List ℕ)
    → ((taken_of (replay (Residue compound) ls) line).event ≡ ByMisidentifications) ↔ (TooManySince compound (ls ++ line ∷ []) × (TooManySince compound ls → ⊥))

-- A line of food chemistry has no misidentifications: there is no such window since admission, and no event 08.
abbrev pub NoneOfFood : Type 0
NoneOfFood = (ls : List (List ℕ)) → (Misidentified (entries_of food_chemistry (since (history Food ls))) → ⊥) × (misidentified_in (history Food ls) ≡ false)
