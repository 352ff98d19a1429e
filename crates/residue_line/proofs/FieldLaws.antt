-- Fields, bytes and records: the parts of the 12 bytes. Assumes nothing.
use Prim.Native.Nat.{ℕ}
use mathlib.Core.Path.{◌≡◌, sym, ◌∙◌}
use mathlib.Core.List.{List, [], ◌∷◌}
use lib.ListN.{length, get_or}
use Rattle.digits.specs.Numbers.{AreBytes, number_bytes}
use Rattle.digits.specs.Signed.{signed_bytes}
use Rattle.laws.proofs.Lists.{tabulated}
use Rattle.format.proofs.Parts.{two_split, signed_split}
use Rattle.residue_line.specs.Fields.{line_bytes, bytes_in, fields_in}
use Rattle.residue_line.specs.declared.fields.Fields.{Fields}

-- the 12 bytes, gathered from the bytes of the parts
pub gathered : (f : Fields) {y c r : List ℕ} → y ≡ number_bytes 2 f.year → c ≡ signed_bytes 2 f.comparison → r ≡ signed_bytes 2 f.result.number
    → f.kind ∷ get_or y 0 0 ∷ get_or y 1 0 ∷ f.month ∷ f.days ∷ f.compound ∷ get_or c 0 0 ∷ get_or c 1 0 ∷ f.result.tag ∷ get_or r 0 0 ∷ get_or r 1 0 ∷ f.count ∷ [] ≡ bytes_in f
gathered f ey ec er = rw (ey, ec, er)

-- 12 bytes, read and gathered again
pub bytes_back : (bs : List ℕ) → AreBytes bs → length bs ≡ line_bytes → bytes_in (fields_in bs) ≡ bs
bytes_back bs A e =
    sym
    (tabulated line_bytes bs e
    ∙ gathered (fields_in bs) (two_split bs A 1) (signed_split bs A 6) (signed_split bs A 9))
