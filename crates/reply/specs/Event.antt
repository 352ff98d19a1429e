-- Document 01, "The program", and for 08 document 02, request Three: the two bytes of an event, the event byte and the number byte. Elsewhere the number
-- is 00.
use Rattle.std.specs.Prelude.{ℕ, Result, Ok, Err, ⊤}
use Rattle.rows.specs.declared.refusal.Refusal.{Refusal}
use Rattle.rows.specs.Refusal.{number_of}
use Rattle.reply.specs.declared.event.Event as E
use Rattle.reply.specs.declared.event.Event.TheVariants.{Refused, Sample, Missed, UnderWay, Passed, Failed, ByCharts, ByMisses, ByMisidentifications}

-- what a unit says, which names the row
abbrev pub Event : Type 0
Event = E.Event Refusal

abbrev pub event_byte : {R : Type 0} → E.Event R → ℕ
event_byte (Refused refusal) = 0
event_byte Sample = 1
event_byte Missed = 2
event_byte (UnderWay n) = 3
event_byte Passed = 4
event_byte Failed = 5
event_byte ByCharts = 6
event_byte ByMisses = 7
event_byte ByMisidentifications = 8

-- `number` says the number of what stands for a row
abbrev pub number_byte_by : {R : Type 0} → (R → ℕ) → E.Event R → ℕ
number_byte_by number (Refused refusal) = number refusal
number_byte_by number Sample = 0
number_byte_by number Missed = 0
number_byte_by number (UnderWay n) = n
number_byte_by number Passed = 0
number_byte_by number Failed = 0
number_byte_by number ByCharts = 0
number_byte_by number ByMisses = 0
number_byte_by number ByMisidentifications = 0

abbrev pub number_byte : Event → ℕ
number_byte = number_byte_by number_of

-- what an event says of the table of refusals: event 00 is refused, by its row
abbrev pub event_row : {R : Type 0} → E.Event R → Result ⊤ R
event_row (Refused refusal) = Err refusal
event_row Sample = Ok tt
event_row Missed = Ok tt
event_row (UnderWay n) = Ok tt
event_row Passed = Ok tt
event_row Failed = Ok tt
event_row ByCharts = Ok tt
event_row ByMisses = Ok tt
event_row ByMisidentifications = Ok tt
