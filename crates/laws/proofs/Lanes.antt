-- A word as a row of lanes of k bits, the first highest: lane by lane, bit operations, sums and multiples of rows, and bit 6 of each byte, are rows
-- of their lanes' results. A row's number is gathered from the first lane on, after what stands above it, so that each law is one step and an induction.
-- Assumes nothing.
use mathlib.Core.Path.{◌≡◌, refl, sym, ap, ◌∙◌}
use mathlib.Core.List.{List, [], ◌∷◌}
use Prim.Native.Nat.{ℕ, ◌+◌, ◌*◌, ◌/◌, ◌%◌, ◌^◌, ◌<◌, ◌≤◌}
use native.Mathlib.Nat.{add-mul, add_assoc, add_left_comm, add-le-add, mul-add, mul_assoc, mul-le-mul_right}
use native.Mathlib.Omega.{arith}
use lib.Bits.{bit_and, and_block, and_mask}

-- after what stands above, the results of f at each entry, k bits each
abbrev pub lanes : ℕ → (ℕ → ℕ) → ℕ → List ℕ → ℕ
lanes k f above [] = above
lanes k f above (b ∷ bs) = lanes k f (above * 2 ^ k + f b) bs

abbrev pub AllOf : (ℕ → Type 0) → List ℕ → Type 0
AllOf P [] = Unit {0}
AllOf P (b ∷ bs) = P b × AllOf P bs

pub all_of : {P Q : ℕ → Type 0} → ((b : ℕ) → P b → Q b) → (bs : List ℕ) → AllOf P bs → AllOf Q bs
all_of f [] h = tt
all_of f (b ∷ bs) h = (f b h.0, all_of f bs h.1)

-- an operation that works on the k low bits and on those above apart
pub row : (op : ℕ → ℕ → ℕ) → ((k a b r s : ℕ) → r < 2 ^ k → s < 2 ^ k → op (a * 2 ^ k + r) (b * 2 ^ k + s) ≡ op a b * 2 ^ k + op r s)
    → (k : ℕ) (f g : ℕ → ℕ) (bs : List ℕ) → AllOf (λ b. f b < 2 ^ k) bs → AllOf (λ b. g b < 2 ^ k) bs
    → (x y : ℕ) → op (lanes k f x bs) (lanes k g y bs) ≡ lanes k (λ b. op (f b) (g b)) (op x y) bs
row op block k f g [] F G x y = refl
row op block k f g (b ∷ bs) F G x y =
    row op block k f g bs F.1 G.1 (x * 2 ^ k + f b) (y * 2 ^ k + g b)
    ∙ ap (λ (z : ℕ). lanes k (λ b. op (f b) (g b)) z bs) (block k x y (f b) (g b) F.0 G.0)

-- sums and multiples, whatever the lanes are
sums : (x y p u v : ℕ) → (x * p + u) + (y * p + v) ≡ (x + y) * p + (u + v)
sums x y p u v =
    add_assoc (x * p) u (y * p + v) ∙ ap (λ (n : ℕ). x * p + n) (add_left_comm u (y * p) v) ∙ sym (add_assoc (x * p) (y * p) (u + v))
    ∙ ap (λ (n : ℕ). n + (u + v)) (sym (add-mul x y p))

pub row_sum : (k : ℕ) (f g : ℕ → ℕ) (bs : List ℕ) (x y : ℕ) → lanes k f x bs + lanes k g y bs ≡ lanes k (λ b. f b + g b) (x + y) bs
row_sum k f g [] x y = refl
row_sum k f g (b ∷ bs) x y =
    row_sum k f g bs (x * 2 ^ k + f b) (y * 2 ^ k + g b) ∙ ap (λ (z : ℕ). lanes k (λ b. f b + g b) z bs) (sums x y (2 ^ k) (f b) (g b))

pub row_times : (n k : ℕ) (f : ℕ → ℕ) (bs : List ℕ) (x : ℕ) → n * lanes k f x bs ≡ lanes k (λ b. n * f b) (n * x) bs
row_times n k f [] x = refl
row_times n k f (b ∷ bs) x =
    row_times n k f bs (x * 2 ^ k + f b)
    ∙ ap (λ (z : ℕ). lanes k (λ b. n * f b) z bs) (mul-add n (x * 2 ^ k) (f b) ∙ ap (λ (z : ℕ). z + n * f b) (sym (mul_assoc n x (2 ^ k))))

-- rows of results that are the same, or at most as large, lane by lane
pub row_same : (k : ℕ) (f g : ℕ → ℕ) → ((b : ℕ) → f b ≡ g b) → (bs : List ℕ) (x : ℕ) → lanes k f x bs ≡ lanes k g x bs
row_same k f g e [] x = refl
row_same k f g e (b ∷ bs) x = row_same k f g e bs (x * 2 ^ k + f b) ∙ ap (λ (n : ℕ). lanes k g (x * 2 ^ k + n) bs) (e b)

pub row_le : (k : ℕ) (f g : ℕ → ℕ) (bs : List ℕ) → AllOf (λ b. f b ≤ g b) bs → (x y : ℕ) → x ≤ y → lanes k f x bs ≤ lanes k g y bs
row_le k f g [] e x y h = h
row_le k f g (b ∷ bs) e x y h = row_le k f g bs e.1 (x * 2 ^ k + f b) (y * 2 ^ k + g b) (add-le-add (mul-le-mul_right (2 ^ k) h) e.0)

-- bit 6 of each byte: what the shift brings down from the lane above is masked away
bit6 : (x b y : ℕ) → b < 256 → bit_and ((x * 256 + b) / 64) (y * 256 + 1) ≡ bit_and (x / 64) y * 256 + b / 64 % 2
bit6 x b y h =
    let low : ℕ = x % 64 * 4 + b / 64 in
    let parts : (x * 256 + b) / 64 ≡ x / 64 * 256 + low = omega arith in
    ap (λ (z : ℕ). bit_and z (y * 256 + 1)) parts
    ∙ and_block 8 (x / 64) y low 1 (omega arith) (omega arith)
    ∙ omega (arith, and_mask low 1)

pub row_bit6 : (bs : List ℕ) → AllOf (λ b. b < 256) bs
    → (x y : ℕ) → bit_and (lanes 8 (λ b. b) x bs / 64) (lanes 8 (λ b. 1) y bs) ≡ lanes 8 (λ b. b / 64 % 2) (bit_and (x / 64) y) bs
row_bit6 [] h x y = refl
row_bit6 (b ∷ bs) h x y =
    row_bit6 bs h.1 (x * 256 + b) (y * 256 + 1) ∙ ap (λ (z : ℕ). lanes 8 (λ b. b / 64 % 2) z bs) (bit6 x b y h.0)
