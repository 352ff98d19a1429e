-- Document 01, "Refused", and for 14 and 15 document 02, request One: the numbers of the rows.
use Rattle.std.specs.Prelude.{ℕ}
use Rattle.rows.specs.declared.refusal.Refusal.{Refusal}
use Rattle.rows.specs.declared.refusal.Refusal.TheVariants.{Length, Digit, Kind, Date, Product, Mean, Reading, Closed, Stage, Backdated, Gap, Full, Short, Compound, Log}

abbrev pub number_of : Refusal → ℕ
number_of Length = 1
number_of Digit = 2
number_of Kind = 3
number_of Date = 4
number_of Product = 5
number_of Mean = 6
number_of Reading = 7
number_of Closed = 8
number_of Stage = 9
number_of Backdated = 10
number_of Gap = 11
number_of Full = 12
number_of Short = 13
number_of Compound = 14
number_of Log = 15
