-- A residue record that was read has what the code needs of it, and so residues of a compound what the unit needs of a category. Assumes nothing.
use Prim.Native.Nat.{ℕ, zero, suc, ◌≤◌}
use mathlib.Core.Path.{◌≡◌, refl, subst}
use mathlib.Core.Bool.{true}
use mathlib.Core.List.{List}
use lib.Dec.{lit≤}
use lib.IntN.{ℤ, nat_abs, ◌-ℤ◌}
use Rattle.difference.specs.Difference.{CAP}
use Rattle.difference.specs.Residue.{residue_value}
use Rattle.difference.specs.declared.category.Category.{Category}
use Rattle.difference.proofs.Bounds.{difference_small, residue_fits}
use Rattle.field.proofs.ResidueLaws.{kind_is}
use Rattle.residue_line.specs.Fields.{record_of}
use Rattle.residue_line.specs.Read.{fields_at, line_rows}
use Rattle.residue_line.specs.declared.record.Record.{Record}
use Rattle.residue_line.proofs.Inverse.{good}
use Rattle.residue_line.proofs.RowLaws.{Clean, clean}
use Rattle.std.specs.Prelude.{Ok, Option, Some, None}
use Rattle.rows.specs.Rows.{first_row, has_number_by, distinct_by}
use Rattle.seen.specs.Residue.{difference_for, differences_of, seen_of}
use Rattle.seen.proofs.ResidueLaws.{reads}
use Rattle.unit.specs.Accepted.{AcceptedResidue, AcceptedResidueIs}
use Rattle.seen.specs.Rules.{residues_of, rules_of}
use Rattle.unit.specs.Claim.{is_accepted}
use Rattle.unit.specs.Take.{taken_in}
use Rattle.unit.specs.bounds.Numbers.{Capped, GoodSeen}
use Rattle.unit.proofs.Dates.{good_of}
use Rattle.unit.proofs.Sound.{Sound, accepted_reads}

capped_for : (compound : ℕ) (comparison : ℤ) (x : Option ℤ) → nat_abs (difference_for compound comparison x).tenths ≤ CAP
capped_for compound comparison (Some result) = difference_small 10 (result -ℤ comparison) (residue_value compound)
capped_for compound comparison None = lit≤ tt

capped : (r : Record) → Capped (differences_of r)
capped r zero = capped_for r.compound r.comparison r.result
capped r (suc zero) = lit≤ tt
capped r (suc (suc zero)) = lit≤ tt
capped r (suc (suc (suc zero))) = lit≤ tt
capped r (suc (suc (suc (suc a)))) = lit≤ tt

module _ (compound : ℕ) where
  -- none of the rows of the fields fits
  clean_line : (line : List ℕ) → first_row (line_rows compound line) ≡ Ok tt → Clean compound (fields_at line)
  clean_line line e = clean compound (fields_at line) (good compound line e).rows

  good_line : (line : List ℕ) → first_row (line_rows compound line) ≡ Ok tt → GoodSeen (seen_of (record_of (fields_at line)))
  good_line line e = let f = fields_at line in good_of (seen_of (record_of f)) f.month (clean_line line e).date refl (capped (record_of f))

  -- residues of a compound have what the unit needs of a category
  pub residue_sound : Sound (residues_of compound)
  unfolding distinct_by has_number_by
  residue_sound = record {
    few = lit≤ tt;
    fits = residue_fits;
    good = good_line;
    all = λ u line. refl;
  }

  -- ---- an accepted line reads, and its kind is 03

  reads_by : (line : List ℕ) → first_row (line_rows compound line) ≡ Ok tt → AcceptedResidue compound line
  reads_by line z =
      let r = record_of (fields_at line) in
      record { of = r; reads = reads compound line z; kind = kind_is r.kind (clean_line line z).kind; seen = refl; maintenance = refl }

pub accepted_residue_is : AcceptedResidueIs
accepted_residue_is u compound of line a =
    reads_by compound line
    (accepted_reads (residues_of compound) (residue_sound compound) u line
    (subst (λ (k : Category). is_accepted (taken_in (rules_of k) u line).event ≡ true) of a))
