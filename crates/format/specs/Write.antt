-- Document 01, "Refused": row 13, which comes before the rows of a format's own fields, and the sentences on writing.
use Rattle.std.specs.Prelude.{ℕ, ◌≡◌, cond, List, [], ◌∷◌, ◌++◌, ltb, length, drop, Result, Ok, Err, ⊤}
use Rattle.rows.specs.declared.Row.{Row}
use Rattle.rows.specs.declared.refusal.Refusal.{Refusal}
use Rattle.rows.specs.declared.refusal.Refusal.TheVariants.{Short}

-- row 13, of a buffer for a line of so many digits
abbrev pub room_rows : ℕ → List ℕ → List (Row Refusal)
room_rows long buffer = record { refusal = Short; fits = ltb (length buffer) long } ∷ []

-- what row 13 and then the own rows give, by what the own rows give: the answer. `reason` says what stands for a refusal
abbrev pub short_by : {R : Type 0} → (Refusal → R) → ℕ → List ℕ → Result ⊤ R → Result ⊤ R
short_by reason long buffer row = cond (ltb (length buffer) long) (Err (reason Short)) row

abbrev pub short_or : ℕ → List ℕ → Result ⊤ Refusal → Result ⊤ Refusal
short_or = short_by (λ refusal. refusal)

-- what the buffer then holds: the digits and then what it held, or as it was
unfoldable pub buffer_by : {R : Type 0} → Result ⊤ R → List ℕ → List ℕ → List ℕ
buffer_by (Ok done) digits buffer = digits ++ drop (length digits) buffer
buffer_by (Err refusal) digits buffer = buffer

-- a refusal leaves the buffer as it was
abbrev pub BufferKept : List ℕ → List ℕ → Result ⊤ Refusal → Type 0
BufferKept entry exit answer = (refusal : Refusal) → answer ≡ Err refusal → exit ≡ entry
