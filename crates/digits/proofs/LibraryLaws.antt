-- std's numbers of bytes are those of the specs, at every width of std; and what a caller reads and writes by them. Assumes nothing.
use Prim.Native.Nat.{ℕ, zero, suc, ◌+◌, ◌-◌, ◌*◌, ◌/◌, ◌%◌, ◌^◌, ◌<◌, ◌≤◌}
use mathlib.Core.Path.{◌≡◌, refl, sym, ap, ap₂, ◌∙◌, subst}
use mathlib.Core.List.{List, [], ◌∷◌}
use mathlib.Core.Logic.{⊎_elim}
use native.Mathlib.Nat.{add_assoc, mul_comm, pow-suc, mod-lt, mod-eq_of_lt}
use native.Mathlib.Omega.{arith}
use borrow.Author.Tests.{ltb-true, ltb-false}
use lib.Arith.{mod-mul}
use lib.Dec.{lit<, ltb}
use lib.IntN.{ℤ, pos, negsuc, ◌-ℤ◌}
use lib.ListN.{length, get_or}
use mir.Syntax.{Width, w8, w16, w32, w64, w128}
use mir.Val.{bits, hbits, to_z, of_z}
use mir.Facts.{to_z_pos, to_z-neg}
use Rattle.std.specs.Int.{byte_len, byte_worth, sum_through, bytes_high_first}
use Rattle.laws.proofs.Bools.{either}
use Rattle.laws.proofs.Order.{zarith, minus, canon}
use Rattle.digits.specs.Numbers.{BYTE, number_of, number_bytes}
use Rattle.digits.specs.Signed.{half, signed_by, unsigned_by}
use Rattle.digits.specs.Library.{FromBytes, ToBytes, SignedFromBytes, SignedToBytes}
use Rattle.digits.proofs.NumberLaws.{positive, high_low, number_lt}
use Rattle.digits.proofs.SignedLaws.{signed_low, signed_high, unsigned_lt}

-- ---- a number of bytes

-- the first term taken out
first_out : (f : ℕ → ℕ) (k : ℕ) → sum_through f (suc k) ≡ f 0 + sum_through (λ i. f (suc i)) k
first_out f zero = refl
first_out f (suc k) = ap (λ n. n + f (suc (suc k))) (first_out f k) ∙ add_assoc (f 0) (sum_through (λ i. f (suc i)) k) (f (suc (suc k)))

same_sum : (f g : ℕ → ℕ) (k : ℕ) → ((i : ℕ) → i ≤ k → f i ≡ g i) → sum_through f k ≡ sum_through g k
same_sum f g zero h = h 0 (omega arith)
same_sum f g (suc k) h = ap₂ ◌+◌ (same_sum f g k (λ i p. h i (omega arith))) (h (suc k) (omega arith))

worths : (k : ℕ) (bytes : List ℕ) → length bytes ≡ suc k → sum_through (λ i. byte_worth (k - i) (get_or bytes i 0)) k ≡ number_of bytes
worths zero [] e = absurd (omega arith)
worths zero (b ∷ []) e = omega arith
worths zero (b ∷ c ∷ bs) e = absurd (omega arith)
worths (suc k) [] e = absurd (omega arith)
worths (suc k) (b ∷ bs) e =
    let long : length bs ≡ suc k = omega arith in
    let all : suc k - 0 ≡ suc k = omega arith in
    let first : byte_worth (suc k - 0) b ≡ b * BYTE ^ length bs = ap (λ (n : ℕ). byte_worth n b) all ∙ ap (λ (n : ℕ). b * BYTE ^ n) (sym long) in
    first_out (λ i. byte_worth (suc k - i) (get_or (b ∷ bs) i 0)) k
    ∙ ap₂ ◌+◌ first
    (same_sum (λ i. byte_worth (suc k - suc i) (get_or bs i 0)) (λ i. byte_worth (k - i) (get_or bs i 0)) k
    (λ i p. let less : suc k - suc i ≡ k - i = omega arith in ap (λ (n : ℕ). byte_worth n (get_or bs i 0)) less)
    ∙ worths k bs long)

pub from_bytes : FromBytes
from_bytes w8 bytes e = worths 0 bytes e
from_bytes w16 bytes e = worths 1 bytes e
from_bytes w32 bytes e = worths 3 bytes e
from_bytes w64 bytes e = worths 7 bytes e
from_bytes w128 bytes e = worths 15 bytes e

-- ---- the bytes of a number

-- the two lowest digits of n, to the bases p and BYTE
low_part : (n p : ℕ) → 0 < p → (n / p % BYTE ≡ n % (p * BYTE) / p) × (n % p ≡ n % (p * BYTE) % p)
low_part n p P =
    let e : n % (p * BYTE) ≡ n / p % BYTE * p + n % p = ap (λ (m : ℕ). n % m) (mul_comm p BYTE) ∙ mod-mul n (lit< tt) P in
    let both = high_low (n / p % BYTE) (n % p) p P (mod-lt n P) in
    (sym (ap (λ (m : ℕ). m / p) e ∙ both.0), sym (ap (λ (m : ℕ). m % p) e ∙ both.1))

high_first : (k n : ℕ) → bytes_high_first k n ≡ number_bytes k (n % BYTE ^ k)
high_first zero n = refl
high_first (suc zero) n = refl
high_first (suc (suc k)) n =
    let p = BYTE ^ suc k in
    let e = low_part n p (positive (suc k)) in
    ap₂ ◌∷◌ (e.0 ∙ ap (λ (m : ℕ). n % m / p) (sym (pow-suc BYTE (suc k))))
    (high_first (suc k) n ∙ ap (number_bytes (suc k)) (e.1 ∙ ap (λ (m : ℕ). n % m % p) (sym (pow-suc BYTE (suc k)))))

pub to_bytes : ToBytes
to_bytes w n h = high_first (byte_len w) n ∙ ap (number_bytes (byte_len w)) (mod-eq_of_lt h)

-- ---- signed numbers

half_is : (w : Width) → half (byte_len w) ≡ 2 ^ hbits w
half_is w8 = refl
half_is w16 = refl
half_is w32 = refl
half_is w64 = refl
half_is w128 = refl

twice_half : (w : Width) → 2 * half (byte_len w) ≡ 2 ^ bits w
twice_half w8 = refl
twice_half w16 = refl
twice_half w32 = refl
twice_half w64 = refl
twice_half w128 = refl

bytes_fit : (w : Width) → BYTE ^ byte_len w ≡ 2 ^ bits w
bytes_fit w8 = refl
bytes_fit w16 = refl
bytes_fit w32 = refl
bytes_fit w64 = refl
bytes_fit w128 = refl

unsigned_is : (w : Width) (z : ℤ) → of_z w z ≡ unsigned_by (half (byte_len w)) z
unsigned_is w (pos n) = refl
unsigned_is w (negsuc n) = ap (λ (m : ℕ). m - suc n) (sym (twice_half w))

pub signed_is : (w : Width) (n : ℕ) → n < 2 ^ bits w → to_z w n ≡ signed_by (half (byte_len w)) n
signed_is w n h =
    let m = half (byte_len w) in
    let e = twice_half w in
    ⊎_elim
    (λ t. let l : n < m = ltb-true n m t in to_z_pos w (subst (λ (k : ℕ). n < k) (half_is w) l) ∙ sym (signed_low m n l))
    (λ t.
    let l : m ≤ n = ltb-false n m t in
    let k = 2 ^ bits w - suc n in
    let back : 2 ^ bits w - suc k ≡ n = omega arith in
    ap (to_z w) (sym back)
    ∙ to_z-neg w k (subst (λ (j : ℕ). k < j) (half_is w) (omega arith))
    ∙ ap (λ (j : ℕ). negsuc (j - suc n)) (sym e)
    ∙ sym (signed_high m n l ∙ taken_off m n l (omega arith)))
    (either (ltb n m))
  where
    taken_off : (m n : ℕ) → m ≤ n → n < 2 * m → pos n -ℤ pos (2 * m) ≡ negsuc (2 * m - suc n)
    taken_off m n l h = omega (zarith, minus (pos n) (pos (2 * m)), canon (pos n -ℤ pos (2 * m)))

pub signed_from_bytes : SignedFromBytes
signed_from_bytes w bytes e A =
    ap (to_z w) (from_bytes w bytes e)
    ∙ signed_is w (number_of bytes) (rw (← bytes_fit w, ← e) (number_lt bytes A))
    ∙ ap (λ (k : ℕ). signed_by (half k) (number_of bytes)) (sym e)

pub signed_to_bytes : SignedToBytes
signed_to_bytes w z f =
    to_bytes w (of_z w z) (rw (unsigned_is w z, bytes_fit w, ← twice_half w) (unsigned_lt (half (byte_len w)) z f))
    ∙ ap (number_bytes (byte_len w)) (unsigned_is w z)
