-- Document 01, "Refused": what rows 3 to 7 of the table say of the fields of a line, each a test that is true where the row fits.
use Rattle.std.specs.Prelude.{ℕ, ◌/◌, ◌%◌, Bool, not, ◌&&◌, ◌||◌, ltb, eqb}
use Rattle.std.specs.Float.{binary32}
use Rattle.std.specs.Float.Ieee.{of_bits}
use Rattle.percent.specs.Percent.{accepted}
use Rattle.field.specs.declared.Means.{Means}
use Rattle.field.specs.declared.Tagged.{Tagged}
use Rattle.field.specs.Class.{class_of, is_ground_beef, is_other_meat}

-- the kinds of a food line
abbrev pub MAINTENANCE : ℕ
MAINTENANCE = 1

abbrev pub STUDY : ℕ
STUDY = 2

-- kind: not 01 or 02
unfoldable pub kind_row : ℕ → Bool
kind_row kind = not (eqb kind MAINTENANCE || eqb kind STUDY)

-- the years of a line
abbrev pub FIRST_YEAR : ℕ
FIRST_YEAR = 2000

abbrev pub LAST_YEAR : ℕ
LAST_YEAR = 2099

-- date: year or month outside
unfoldable pub date_row : ℕ → ℕ → Bool
date_row year month = ltb year FIRST_YEAR || ltb LAST_YEAR year || ltb month 1 || ltb 12 month

-- bit 7 of the product: dry salami or pepperoni
abbrev pub is_dry : ℕ → Bool
is_dry product = not (eqb (product / 128) 0)

-- product: bits 2 to 6 set, or bit 7 without class 2
unfoldable pub product_row : ℕ → Bool
product_row product = not (eqb (product / 4 % 32) 0) || (is_dry product && not (is_other_meat (class_of product)))

-- the highest mean: a hundred percent, in hundredths
abbrev pub MOST : ℕ
MOST = 10000

-- the least mean of protein, and of ground beef's fat
abbrev pub LEAST_PROTEIN : ℕ
LEAST_PROTEIN = 5

abbrev pub LEAST_BEEF_FAT : ℕ
LEAST_BEEF_FAT = 1250

-- mean: above 10000; protein below 5; fat 0; class 1 fat below 1250
unfoldable pub mean_row : ℕ → Means → Bool
mean_row product m =
    (ltb MOST m.moisture || ltb MOST m.protein || ltb MOST m.fat || ltb MOST m.salt)
    || ltb m.protein LEAST_PROTEIN
    || eqb m.fat 0
    || (is_ground_beef (class_of product) && ltb m.fat LEAST_BEEF_FAT)

-- the tags of a reading
abbrev pub PERCENT : ℕ
PERCENT = 0

abbrev pub NOTHING_FOUND : ℕ
NOTHING_FOUND = 1

abbrev pub LOST : ℕ
LOST = 2

-- reading: tag above 02, nonzero bytes under 01 or 02, percent not accepted
unfoldable pub reading_row : Tagged ℕ → Bool
reading_row t =
    ltb LOST t.tag
    || (ltb PERCENT t.tag && not (eqb t.number 0))
    || (eqb t.tag PERCENT && not (accepted (of_bits binary32 t.number)))
