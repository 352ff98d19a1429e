-- Document 02, request One: what rows 3, 14, 15 and 7 of the table say of the fields of a residue line, each a test that is true where the row
-- fits. Row 4 is food's.
use Rattle.std.specs.Prelude.{ℕ, Bool, not, ◌&&◌, ◌||◌, ltb, eqb, ℤ, pos, neg_ℤ, nat_abs}
use Rattle.std.specs.Int.Signed.{lt_z}
use Rattle.field.specs.Refused.{LOST}
use Rattle.field.specs.declared.Tagged.{Tagged}

-- the kind of a residue line
abbrev pub RESIDUE_KIND : ℕ
RESIDUE_KIND = 3

-- kind: not 03
unfoldable pub residue_kind_row : ℕ → Bool
residue_kind_row kind = not (eqb kind RESIDUE_KIND)

-- the compounds are 0 to 19
abbrev pub LAST_COMPOUND : ℕ
LAST_COMPOUND = 19

unfoldable pub no_compound : ℕ → Bool
no_compound compound = ltb LAST_COMPOUND compound

-- compound: above 19, or not the one given
unfoldable pub compound_row : ℕ → ℕ → Bool
compound_row given compound = no_compound compound || not (eqb compound given)

-- logs are signed thousandths, -9999 to 9999
abbrev pub LEAST_LOG : ℤ
LEAST_LOG = neg_ℤ (pos 9999)

abbrev pub MOST_LOG : ℤ
MOST_LOG = pos 9999

unfoldable pub outside : ℤ → Bool
outside log = lt_z log LEAST_LOG || lt_z MOST_LOG log

-- the tag of a result; a lost one has food's, 02
abbrev pub RESULT : ℕ
RESULT = 0

-- log: outside, the result's only under tag 00
unfoldable pub log_row : ℤ → Tagged ℤ → Bool
log_row comparison t = outside comparison || (eqb t.tag RESULT && outside t.number)

-- the highest count of misidentifications
abbrev pub MOST_COUNT : ℕ
MOST_COUNT = 20

-- result: a tag that is not 00 or 02, a nonzero result under 02, a count above 20
unfoldable pub result_row : Tagged ℤ → ℕ → Bool
result_row t count =
    not (eqb t.tag RESULT || eqb t.tag LOST)
    || (eqb t.tag LOST && not (eqb (nat_abs t.number) 0))
    || ltb MOST_COUNT count
