-- Reading and writing are inverse. Assumes nothing.
use Prim.Native.Nat.{ℕ, zero, suc, ◌^◌, ◌≤◌, ◌<◌}
use mathlib.Core.Path.{◌≡◌, refl, sym, ap, ap₂, ◌∙◌, subst}
use mathlib.Core.Bool.{Bool, false, cond, not}
use mathlib.Core.List.{List}
use mathlib.Core.Logic.{◌⊎◌, inl, inr, ⊎_elim}
use native.Mathlib.Omega.{arith}
use lib.Dec.{T, eqb}
use lib.Ieee.{binary32, of_bits, to_bits}
use lib.Ieee.Bits.{of_bits-to_bits, to_bits-of_bits, to_bits-lt, nan_bits_is}
use Rattle.std.specs.Prelude.{Ok}
use Rattle.rows.specs.Rows.{first_row}
use Rattle.digits.specs.Numbers.{AreBytes}
use Rattle.food_line.specs.Fields.{line_bytes, bytes5, fields_in, bytes_in, reading_of, tagged_of, record_of, fields_of}
use Rattle.food_line.specs.bounds.Types.{Typed, TypedReading}
use Rattle.food_line.specs.Inverse.{WritesBack, ReadsBack}
use Rattle.food_line.specs.Read.{fields_at, line_rows, read_of}
use Rattle.food_line.specs.FieldRows.{field_rows}
use Rattle.food_line.specs.Food.{food}
use Rattle.field.specs.Refused.{reading_row}
use Rattle.food_line.specs.Write.{line_of, written_of, buffer_after}
use Rattle.food_line.specs.declared.fields.Fields.{Fields}
use Rattle.field.specs.declared.Tagged.{Tagged}
use Rattle.food_line.specs.declared.record.Record.{Record}
use Rattle.food_line.specs.declared.record.Reading.{Reading}
use Rattle.food_line.specs.declared.record.Reading.TheVariants.{Percent, NothingFound, Lost}
use Rattle.percent.proofs.PercentLaws.{percent_bits, not_nan}
use Rattle.digits.proofs.NumberLaws.{number_back, number_bytes_are}
use Rattle.format.proofs.Parts.{Then, then, two_then, four_lt}
use Rattle.format.proofs.LayoutLaws as layout
use Rattle.format.specs.Sound.{FieldsBack, RecordBack}
use Rattle.food_line.proofs.FieldLaws.{bytes_back}
use Rattle.food_line.proofs.RowLaws.{Clean, clean, good_reading}

-- ---- one reading

tag_cases : (n : ℕ) → n ≤ 2 → (n ≡ 0) ⊎ ((n ≡ 1) ⊎ (n ≡ 2))
tag_cases zero h = inl refl
tag_cases (suc zero) h = inr (inl refl)
tag_cases (suc (suc zero)) h = inr (inr refl)
tag_cases (suc (suc (suc n))) h = absurd (omega arith)

-- the pattern of an accepted percent is written back
pattern_back : (b : ℕ) → b ≤ 0x42c80000 → to_bits binary32 (of_bits binary32 b) ≡ b
pattern_back b h = to_bits-of_bits binary32 b (omega arith) (subst (λ (t : Bool). T (not t)) (nan_bits_is binary32 b) (not_nan b h))

tagged_of_lem : (tag number : ℕ) (t : Tagged ℕ) → tag ≡ t.tag → number ≡ t.number → record { tag = tag; number = number } ≡ t
tagged_of_lem tag number t p q = ap₂ (λ (x y : ℕ). record { tag = x; number = y }) p q

reading_by : (t : Tagged ℕ) (n : ℕ) → t.tag ≡ n → reading_of t ≡ cond (eqb n 0) (Percent (of_bits binary32 t.number)) (cond (eqb n 1) NothingFound Lost)
unfolding reading_of
reading_by t n e = ap (λ (k : ℕ). cond (eqb k 0) (Percent (of_bits binary32 t.number)) (cond (eqb k 1) NothingFound Lost)) e

tagged_back : (t : Tagged ℕ) → t.number < 2 ^ 32 → reading_row t ≡ false → tagged_of (reading_of t) ≡ t
unfolding tagged_of
tagged_back t B e =
    let g = good_reading t e in
    ⊎_elim
    (λ (z : t.tag ≡ 0). ap tagged_of (reading_by t 0 z) ∙ tagged_of_lem 0 (to_bits binary32 (of_bits binary32 t.number)) t (sym z) (pattern_back t.number (percent_bits t.number B (g.percent z))))
    (⊎_elim (λ (z : t.tag ≡ 1). ap tagged_of (reading_by t 1 z) ∙ tagged_of_lem 1 0 t (sym z) (sym (g.zero (λ (y : t.tag ≡ 0). omega arith))))
    (λ (z : t.tag ≡ 2). ap tagged_of (reading_by t 2 z) ∙ tagged_of_lem 2 0 t (sym z) (sym (g.zero (λ (y : t.tag ≡ 0). omega arith)))))
    (tag_cases t.tag g.tag)

reading_back : (r : Reading) → TypedReading r → reading_of (tagged_of r) ≡ r
unfolding tagged_of reading_of
reading_back (Percent x) h = ap Percent (of_bits-to_bits binary32 x h)
reading_back NothingFound h = refl
reading_back Lost h = refl

-- ---- fields that were read, and the record that they hold

clean_again : (f : Fields) → f.moisture.number < 2 ^ 32 → f.protein.number < 2 ^ 32 → f.fat.number < 2 ^ 32 → f.salt.number < 2 ^ 32 → Clean f
    → fields_of (record_of f) ≡ f
clean_again f A B C D c =
    rw (tagged_back f.moisture A c.moisture, tagged_back f.protein B c.protein, tagged_back f.fat C c.fat, tagged_back f.salt D c.salt)

bytes_again : (bs : List ℕ) → AreBytes bs → Clean (fields_in bs) → fields_of (record_of (fields_in bs)) ≡ fields_in bs
bytes_again bs A = clean_again (fields_in bs) (four_lt bs A 15) (four_lt bs A 20) (four_lt bs A 25) (four_lt bs A 30)

pub fields_back : (f : Fields) → Clean f → FieldsBack line_bytes food f
fields_back f c bs A n e =
    subst (λ (g : Fields). Clean g → (fields_of (record_of g) ≡ g) × (bytes_in g ≡ bs)) (sym e) (λ c. (bytes_again bs A c, bytes_back bs A n)) c

-- ---- a record, and the fields that hold it

fields_in_again : (f : Fields) → fields_in (bytes_in f) ≡ f
fields_in_again f =
    let two = number_back 1 in
    let four = number_back 3 in
    rw (two f.year, two f.means.moisture, two f.means.protein, two f.means.fat, two f.means.salt, four f.moisture.number, four f.protein.number, four f.fat.number, four f.salt.number)

tag_lt : (r : Reading) → (tagged_of r).tag < 256
unfolding tagged_of
tag_lt (Percent x) = omega arith
tag_lt NothingFound = omega arith
tag_lt Lost = omega arith

typed_bits : (r : Reading) → TypedReading r → (tagged_of r).number < 2 ^ 32
unfolding tagged_of
typed_bits (Percent x) h = to_bits-lt binary32 x h
typed_bits NothingFound h = omega arith
typed_bits Lost h = omega arith

five_then : {P : Type 0} (x : Reading) → TypedReading x → P → Then (bytes5 (tagged_of x)) P
five_then x h = then (bytes5 (tagged_of x)) (tag_lt x, number_bytes_are 4 (tagged_of x).number (typed_bits x h))

typed_bytes : (r : Record) → Typed r → AreBytes (bytes_in (fields_of r))
typed_bytes r h =
    let readings =
    five_then r.readings.moisture h.reading0
    (five_then r.readings.protein h.reading1 (five_then r.readings.fat h.reading2 (five_then r.readings.salt h.reading3 tt))) in
    let means =
    two_then r.means.moisture h.mean0
    (two_then r.means.protein h.mean1 (two_then r.means.fat h.mean2 (two_then r.means.salt h.mean3 readings))) in
    (h.kind, two_then r.year h.year (h.month, (h.days, (h.product, means))))

record_again : (r : Record) → Typed r → record_of (fields_of r) ≡ r
record_again r h =
    rw (reading_back r.readings.moisture h.reading0, reading_back r.readings.protein h.reading1, reading_back r.readings.fat h.reading2, reading_back r.readings.salt h.reading3)

pub record_back : (r : Record) → Typed r → RecordBack line_bytes food r
record_back r h e = (typed_bytes r h, (fields_in_again (fields_of r), record_again r h))

-- ---- lines that are read, and records that are written

pub read_is : (line : List ℕ) (r : Record) → read_of line ≡ Ok r → (first_row (line_rows line) ≡ Ok tt) × (r ≡ record_of (fields_at line))
unfolding read_of
read_is = layout.read_is line_bytes food

-- what it says of a line that no row fits
abbrev pub Good : List ℕ → Type 0
Good = layout.Good line_bytes food

pub good : (line : List ℕ) → first_row (line_rows line) ≡ Ok tt → Good line
good = layout.good line_bytes food

back_at : (line : List ℕ) → Good line → FieldsBack line_bytes food (fields_at line)
back_at line g = fields_back (fields_at line) (clean (fields_at line) g.rows)

pub fields_again : (line : List ℕ) → Good line → fields_of (record_of (fields_at line)) ≡ fields_at line
fields_again line g = (layout.fields_back line_bytes food line (back_at line g) g).0

pub line_again : (line : List ℕ) → Good line → line_of (record_of (fields_at line)) ≡ line
line_again line g = layout.line_again line_bytes food line (back_at line g) g

-- the line of the record that was read is the line
pub line_back : (line : List ℕ) (r : Record) → read_of line ≡ Ok r → line_of r ≡ line
unfolding read_of
line_back line r = layout.line_back line_bytes food line r (back_at line)

-- Writing what was read returns the same line: into any buffer with room, writing is not refused, and the first 68 bytes are the line.
pub written_again : (line : List ℕ) → WritesBack line (read_of line)
unfolding read_of
written_again line = layout.written_again line_bytes food line (back_at line)

-- Reading what was written returns the same record, bit for bit, for every record that the code can hold and that no row refuses: its line, and
-- what a buffer holds of it.
pub read_again : (r : Record) → Typed r → first_row (field_rows (fields_of r)) ≡ Ok tt → read_of (line_of r) ≡ Ok r
unfolding read_of
read_again r h = layout.read_again line_bytes food r refl (record_back r h)

pub reads_back : (r : Record) (buffer : List ℕ) → Typed r → ReadsBack r (buffer_after r buffer) (written_of r buffer)
unfolding written_of buffer_after
reads_back r buffer h = layout.reads_back line_bytes food r buffer refl (record_back r h)
