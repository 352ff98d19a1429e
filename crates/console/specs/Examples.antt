-- Small cases of the definitions, computed.
use Rattle.std.specs.Prelude.{◌≡◌, refl, true, false, ℕ, List, [], ◌∷◌, ◌++◌, replicate}
use Rattle.std.specs.Float.Ieee.{of_bits}
use Rattle.rows.specs.Rows.{first_row}
use Rattle.digits.specs.Digits.{is_digit, digit_value, digit_of, are_digits, bytes_of, digits_of}
use Rattle.food_line.specs.Fields.{reading_of}
use Rattle.food_line.specs.Amount.{amount_of}
use Rattle.percent.specs.Percent.{accepted, hundredths_of}
use Rattle.field.specs.Refused.{kind_row, date_row, product_row, mean_row, reading_row}
use Rattle.field.specs.Class.{class_of}
use Rattle.difference.specs.Contribution.{increment_of, variable_of, measure_of}
use Rattle.difference.specs.Difference.{fat, salt, coefficient_for}
use Rattle.difference.specs.Largest.{root_from}
use Rattle.study.specs.Study.{passes_of}
use Rattle.unit.specs.Take.{new_unit, taken_in}
use Rattle.unit.specs.Status.{status_by}
use Rattle.console.specs.Lines.{ended_after, rest_after, lines_of, given}
use Rattle.console.specs.Transcript.{transcript}
use Rattle.console.specs.State.{new_console, stepped_of, step_text, accepts}
use Rattle.console.specs.Feed.{takes}
use Rattle.console.specs.Pieces.{taken_by, enough}
use Rattle.text.specs.Text.{NEWLINE, chart_text, run_texts}
use Rattle.text.specs.bounds.Room.{STATUS}

-- no line; an unended one; an empty one and an unended one; two ended ones, the second empty
lines : (lines_of [] ≡ []) × (lines_of (97 ∷ []) ≡ (97 ∷ []) ∷ []) × (lines_of (10 ∷ 97 ∷ []) ≡ [] ∷ (97 ∷ []) ∷ [])
    × (lines_of (97 ∷ 13 ∷ 10 ∷ 10 ∷ []) ≡ (97 ∷ 13 ∷ []) ∷ [] ∷ [])
unfolding ended_after rest_after
lines = (refl, refl, refl, refl)

-- the empty ones are dropped
dropped : given (lines_of (10 ∷ 97 ∷ 10 ∷ 10 ∷ 98 ∷ [])) ≡ (97 ∷ []) ∷ (98 ∷ []) ∷ []
unfolding ended_after rest_after
dropped = refl

-- the status of a new unit, and a refusal for the length
zeros : List ℕ
zeros = replicate 12 48 ++ NEWLINE ∷ []

short : List ℕ
short = 48 ∷ 48 ∷ 48 ∷ 49 ∷ NEWLINE ∷ []

-- No input: the status alone. An empty line: the status there too. A carriage return alone, and a space, is a line of length 1.
-- One empty line before a refused line, and two after it, where the input ends.
shows : (transcript new_unit [] ≡ zeros) × (transcript new_unit (10 ∷ []) ≡ zeros ++ zeros)
    × (transcript new_unit (13 ∷ 10 ∷ []) ≡ short ++ zeros)
    × (transcript new_unit (32 ∷ 10 ∷ []) ≡ short ++ zeros)
    × (transcript new_unit (10 ∷ 48 ∷ 10 ∷ 10 ∷ 10 ∷ []) ≡ zeros ++ short ++ zeros ++ zeros ++ zeros)
unfolding zeros short ended_after rest_after is_digit digit_of digits_of first_row taken_in status_by chart_text run_texts
shows = (refl, refl, refl, refl, refl)

-- Two empty lines, and outputs with room for one status each: each call takes one of them.
taken : (taken_by (new_console new_unit) (10 ∷ 10 ∷ []) (STATUS ∷ STATUS ∷ []) ≡ (10 ∷ []) ∷ (10 ∷ []) ∷ [])
    × (enough (record { piece = 10 ∷ 10 ∷ []; rooms = STATUS ∷ STATUS ∷ [] } ∷ []) ≡ true)
unfolding digit_of digits_of status_by chart_text run_texts takes stepped_of step_text
taken = (refl, refl)

-- an empty line is not accepted, a line of two digits is refused, and document 01's own line is accepted
counted : (accepts (new_console new_unit) (NEWLINE ∷ []) ≡ false) × (accepts (new_console new_unit) (48 ∷ 48 ∷ NEWLINE ∷ []) ≡ false)
    × (accepts (new_console new_unit)
    (digits_of
    (0x02 ∷ 0x07 ∷ 0xdc ∷ 0x03 ∷ 0x0a ∷ 0x02 ∷ 0x17 ∷ 0x70 ∷ 0x07 ∷ 0x08 ∷ 0x05 ∷ 0xdc ∷ 0x00 ∷ 0xc8 ∷ 0x00 ∷ 0x42 ∷ 0x70 ∷ 0x00 ∷ 0x00 ∷ 0x00 ∷ 0x41 ∷ 0x90 ∷ 0x00 ∷ 0x00 ∷ 0x00 ∷ 0x41 ∷ 0x70 ∷ 0x00 ∷ 0x00 ∷ 0x00 ∷ 0x40 ∷ 0x00 ∷ 0x00 ∷ 0x00 ∷ [])
    ++ NEWLINE ∷ []) ≡ true)
unfolding is_digit digit_value digit_of are_digits bytes_of digits_of reading_of accepted hundredths_of amount_of first_row kind_row date_row product_row mean_row reading_row increment_of variable_of measure_of class_of fat salt coefficient_for root_from passes_of taken_in of_bits stepped_of
counted = (refl, refl, refl)
