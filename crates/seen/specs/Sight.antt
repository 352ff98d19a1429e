-- What is seen of a line given to a unit of a category: what it is to the unit, or the row by which it does not read.
use Rattle.std.specs.Prelude.{ℕ, List, Result}
use Rattle.difference.specs.declared.category.Category.{Category}
use Rattle.rows.specs.Rows.{first_row, by_row}
use Rattle.rows.specs.declared.refusal.Refusal.{Refusal}
use Rattle.seen.specs.Rules.{Rules, rules_of}
use Rattle.seen.specs.declared.Seen.{Seen}

-- by the first row that fits
unfoldable pub sight_in : Rules → List ℕ → Result Seen Refusal
sight_in g line = by_row (g.seen line) (first_row (g.rows line))

abbrev pub sight_of : Category → List ℕ → Result Seen Refusal
sight_of k line = sight_in (rules_of k) line
