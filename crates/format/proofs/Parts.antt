-- The parts of a line's bytes: the two or four of a number. Assumes nothing.
use Prim.Native.Nat.{ℕ, ◌+◌, ◌^◌, ◌<◌}
use mathlib.Core.Path.{◌≡◌, sym}
use mathlib.Core.List.{List, [], ◌∷◌}
use lib.IntN.{ℤ}
use lib.ListN.{get_or}
use lib.Signed.{mag}
use Rattle.digits.specs.Numbers.{BYTE, AreBytes, two_at, four_at, number_bytes}
use Rattle.digits.specs.Signed.{half, unsigned_by, signed_two_at, signed_bytes}
use Rattle.digits.proofs.NumberLaws.{byte_at, number_lt, bytes_back, number_bytes_are}
use Rattle.digits.proofs.SignedLaws.{unsigned_lt, signed_bytes_back}

-- ---- the bytes from a place on are those of the number that they make

module _ (bs : List ℕ) (A : AreBytes bs) where
  two_are : (i : ℕ) → AreBytes (get_or bs i 0 ∷ get_or bs (i + 1) 0 ∷ [])
  two_are i = (byte_at bs A i, (byte_at bs A (i + 1), tt))

  pub two_split : (i : ℕ) → get_or bs i 0 ∷ get_or bs (i + 1) 0 ∷ [] ≡ number_bytes 2 (two_at bs i)
  two_split i = sym (bytes_back (get_or bs i 0 ∷ get_or bs (i + 1) 0 ∷ []) (two_are i))

  pub signed_split : (i : ℕ) → get_or bs i 0 ∷ get_or bs (i + 1) 0 ∷ [] ≡ signed_bytes 2 (signed_two_at bs i)
  signed_split i = sym (signed_bytes_back (get_or bs i 0) (get_or bs (i + 1) 0 ∷ []) (two_are i))

  four_are : (i : ℕ) → AreBytes (get_or bs i 0 ∷ get_or bs (i + 1) 0 ∷ get_or bs (i + 2) 0 ∷ get_or bs (i + 3) 0 ∷ [])
  four_are i = (byte_at bs A i, (byte_at bs A (i + 1), (byte_at bs A (i + 2), (byte_at bs A (i + 3), tt))))

  pub four_lt : (i : ℕ) → four_at bs i < 2 ^ 32
  four_lt i = number_lt (get_or bs i 0 ∷ get_or bs (i + 1) 0 ∷ get_or bs (i + 2) 0 ∷ get_or bs (i + 3) 0 ∷ []) (four_are i)

  pub four_split : (i : ℕ) → get_or bs i 0 ∷ get_or bs (i + 1) 0 ∷ get_or bs (i + 2) 0 ∷ get_or bs (i + 3) 0 ∷ [] ≡ number_bytes 4 (four_at bs i)
  four_split i = sym (bytes_back (get_or bs i 0 ∷ get_or bs (i + 1) 0 ∷ get_or bs (i + 2) 0 ∷ get_or bs (i + 3) 0 ∷ []) (four_are i))

-- ---- bytes, and what is known of the rest

abbrev pub Then : List ℕ → Type 0 → Type 0
Then [] P = P
Then (b ∷ bs) P = (b < BYTE) × Then bs P

pub then : {P : Type 0} (bs : List ℕ) → AreBytes bs → P → Then bs P
then [] A p = p
then (b ∷ bs) A p = (A.0, then bs A.1 p)

pub two_then : {P : Type 0} (n : ℕ) → n < 65536 → P → Then (number_bytes 2 n) P
two_then n h = then (number_bytes 2 n) (number_bytes_are 2 n h)

pub signed_then : {P : Type 0} (z : ℤ) → mag z < half 2 → P → Then (signed_bytes 2 z) P
signed_then z h = then (signed_bytes 2 z) (number_bytes_are 2 (unsigned_by (half 2) z) (unsigned_lt (half 2) z h))
