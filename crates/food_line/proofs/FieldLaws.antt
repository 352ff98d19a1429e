-- Fields, bytes and records: the parts of the 34 bytes. Assumes nothing.
use Prim.Native.Nat.{ℕ, ◌+◌}
use mathlib.Core.Path.{◌≡◌, sym, ap, ◌∙◌}
use mathlib.Core.List.{List, [], ◌∷◌}
use lib.ListN.{length, get_or}
use Rattle.digits.specs.Numbers.{AreBytes, four_at, number_bytes}
use Rattle.laws.proofs.Lists.{tabulated}
use Rattle.format.proofs.Parts.{two_split, four_split}
use Rattle.format.specs.Tagged.{tagged_at}
use Rattle.food_line.specs.Fields.{line_bytes, bytes5, bytes_in, fields_in}
use Rattle.food_line.specs.declared.fields.Fields.{Fields}

-- ---- the 34 bytes, gathered from the bytes of the parts

abbrev gathered : Fields → List ℕ → List ℕ → List ℕ → List ℕ → List ℕ → List ℕ → List ℕ → List ℕ → List ℕ → List ℕ
gathered f y m p t s a b c d =
    f.kind ∷ get_or y 0 0 ∷ get_or y 1 0 ∷ f.month ∷ f.days ∷ f.product
    ∷ get_or m 0 0 ∷ get_or m 1 0 ∷ get_or p 0 0 ∷ get_or p 1 0 ∷ get_or t 0 0 ∷ get_or t 1 0 ∷ get_or s 0 0 ∷ get_or s 1 0
    ∷ get_or a 0 0 ∷ get_or a 1 0 ∷ get_or a 2 0 ∷ get_or a 3 0 ∷ get_or a 4 0
    ∷ get_or b 0 0 ∷ get_or b 1 0 ∷ get_or b 2 0 ∷ get_or b 3 0 ∷ get_or b 4 0
    ∷ get_or c 0 0 ∷ get_or c 1 0 ∷ get_or c 2 0 ∷ get_or c 3 0 ∷ get_or c 4 0
    ∷ get_or d 0 0 ∷ get_or d 1 0 ∷ get_or d 2 0 ∷ get_or d 3 0 ∷ get_or d 4 0 ∷ []

gather : (f : Fields) {y m p t s a b c d : List ℕ} → y ≡ number_bytes 2 f.year → m ≡ number_bytes 2 f.means.moisture → p ≡ number_bytes 2 f.means.protein
    → t ≡ number_bytes 2 f.means.fat → s ≡ number_bytes 2 f.means.salt → a ≡ bytes5 f.moisture → b ≡ bytes5 f.protein → c ≡ bytes5 f.fat
    → d ≡ bytes5 f.salt → gathered f y m p t s a b c d ≡ bytes_in f
gather f ey em ep et es ea eb ec ed = rw (ey, em, ep, et, es, ea, eb, ec, ed)

-- ---- 34 bytes, read and gathered again

module _ (bs : List ℕ) (A : AreBytes bs) where
  tagged_split : (i : ℕ) → get_or bs i 0 ∷ get_or bs (i + 1) 0 ∷ get_or bs (i + 1 + 1) 0 ∷ get_or bs (i + 1 + 2) 0 ∷ get_or bs (i + 1 + 3) 0 ∷ [] ≡ bytes5 (tagged_at four_at bs i)
  tagged_split i = ap (λ (l : List ℕ). get_or bs i 0 ∷ l) (four_split bs A (i + 1))

  pub bytes_back : length bs ≡ line_bytes → bytes_in (fields_in bs) ≡ bs
  bytes_back e =
      let two = two_split bs A in
      sym
      (tabulated line_bytes bs e
      ∙ gather (fields_in bs) (two 1) (two 6) (two 8) (two 10) (two 12) (tagged_split 14) (tagged_split 19) (tagged_split 24) (tagged_split 29))
