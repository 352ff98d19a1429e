-- Every category has what the unit needs of it. Assumes nothing.
use mathlib.Core.Path.{◌≡◌, refl}
use Rattle.difference.specs.Contribution.{constants_of}
use Rattle.difference.specs.declared.category.Category.{Category}
use Rattle.difference.specs.declared.category.Category.TheVariants.{Food, Residue}
use Rattle.seen.specs.Rules.{rules_of}
use Rattle.unit.proofs.FoodLaws.{food_sound}
use Rattle.unit.proofs.ResidueLaws.{residue_sound}
use Rattle.unit.proofs.Sound.{Sound}

pub rules_sound : (k : Category) → Sound (rules_of k)
rules_sound Food = food_sound
rules_sound (Residue compound) = residue_sound compound

-- its constants are those that `constants_of` gives
pub constants_are : (k : Category) → constants_of k ≡ (rules_of k).constants
constants_are Food = refl
constants_are (Residue compound) = refl
