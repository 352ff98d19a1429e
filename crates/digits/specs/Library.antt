-- Laws: std's numbers of bytes, `from_be_bytes` and `to_be_bytes`, are these numbers and these bytes, at every width of std; and so are those of signed
-- numbers, which std casts.
use Rattle.std.specs.Prelude.{ℕ, ◌^◌, ◌<◌, ◌≡◌, List, ℤ, length}
use Rattle.std.specs.Int.{Width, byte_len, from_be_bytes, to_be_bytes, cast_signed, cast_unsigned}
use Rattle.std.specs.Int.Signed.{mag}
use Rattle.digits.specs.Numbers.{BYTE, AreBytes, number_of, number_bytes}
use Rattle.digits.specs.Signed.{half, signed_of, signed_bytes}

abbrev pub FromBytes : Type 0
FromBytes = (w : Width) (bytes : List ℕ) → length bytes ≡ byte_len w → from_be_bytes w bytes ≡ number_of bytes

abbrev pub ToBytes : Type 0
ToBytes = (w : Width) (n : ℕ) → n < BYTE ^ byte_len w → to_be_bytes w n ≡ number_bytes (byte_len w) n

abbrev pub SignedFromBytes : Type 0
SignedFromBytes = (w : Width) (bytes : List ℕ) → length bytes ≡ byte_len w → AreBytes bytes → cast_signed w (from_be_bytes w bytes) ≡ signed_of bytes

abbrev pub SignedToBytes : Type 0
SignedToBytes = (w : Width) (z : ℤ) → mag z < half (byte_len w) → to_be_bytes w (cast_unsigned w z) ≡ signed_bytes (byte_len w) z
