-- Digits and bytes of lists in parts, and what the loops over them leave, turn by turn. Assumes nothing.
use Prim.Native.Nat.{ℕ, zero, suc, ◌+◌, ◌-◌, ◌*◌, ◌<◌, ◌≤◌}
use mathlib.Core.Path.{◌≡◌, refl, sym, ap, ap₂, ◌∙◌}
use mathlib.Core.Bool.{Bool, true, ◌&&◌, and-true, and_assoc}
use mathlib.Core.List.{List, [], ◌∷◌, ◌++◌, append-nil, append_assoc}
use native.Mathlib.Nat.{zero-mul}
use native.Mathlib.Numerals.{add-one}
use native.Mathlib.Omega.{arith}
use lib.ListN.{length, get_or, set, take, drop, length-append, length-drop, take-append-drop}
use lib.Seq.{take-suc, take-append_seam, drop-cons, drop-append_seam, append_snoc, set_at, length-take-le}
use Rattle.std.proofs.Common.{drop-drop}
use borrow.Rule.Slice.PartMut.{put_mid}
use Rattle.std.specs.Simd.{first_chunks}
use Rattle.laws.proofs.Bools.{and_both}
use Rattle.laws.proofs.Gathered.{joined}
use Rattle.digits.specs.Digits.{is_digit, high_digit, low_digit, are_digits, bytes_of, digits_of}
use Rattle.digits.specs.Word.{CHARACTERS, WRITTEN}
use Rattle.digits.specs.bounds.Words.{all_digits, all_bytes}
use Rattle.digits.proofs.ByteLaws.{length_bytes_of, length_digits_of, digits_of_append}

-- ---- two parts of characters

pub parts : (xs ys : List ℕ) → are_digits (xs ++ ys) ≡ (are_digits xs && are_digits ys)
unfolding are_digits
parts = joined ◌&&◌ true (λ b. refl) and-true and_assoc is_digit are_digits refl (λ c l. refl)

pub bytes_of_append : (n : ℕ) (xs ys : List ℕ) → length xs ≡ 2 * n → bytes_of (xs ++ ys) ≡ bytes_of xs ++ bytes_of ys
unfolding bytes_of
bytes_of_append n [] ys e = refl
bytes_of_append n (c ∷ []) ys e = absurd (omega arith)
bytes_of_append zero (c ∷ d ∷ xs) ys e = absurd (omega arith)
bytes_of_append (suc n) (c ∷ d ∷ xs) ys e = ap (λ (bs : List ℕ). get_or (bytes_of (c ∷ d ∷ [])) 0 0 ∷ bs) (bytes_of_append n xs ys (omega arith))

-- ---- the words at the front of characters, and the rest

next : (k : ℕ) (l : List ℕ) → drop (k * CHARACTERS) (drop CHARACTERS l) ≡ drop (suc k * CHARACTERS) l
next k l = let e : CHARACTERS + k * CHARACTERS ≡ suc k * CHARACTERS = omega arith in drop-drop (k * CHARACTERS) CHARACTERS l ∙ ap (λ (n : ℕ). drop n l) e

pub chunks_digits : (k : ℕ) (l : List ℕ) → (all_digits (first_chunks CHARACTERS k l) && are_digits (drop (k * CHARACTERS) l)) ≡ are_digits l
chunks_digits zero l = ap (λ (n : ℕ). are_digits (drop n l)) (zero-mul CHARACTERS)
chunks_digits (suc k) l =
    let word = take CHARACTERS l in
    let rest = drop CHARACTERS l in
    ap (λ (r : List ℕ). (are_digits word && all_digits (first_chunks CHARACTERS k rest)) && are_digits r) (sym (next k l))
    ∙ and_assoc (are_digits word) (all_digits (first_chunks CHARACTERS k rest)) (are_digits (drop (k * CHARACTERS) rest))
    ∙ ap (λ (b : Bool). are_digits word && b) (chunks_digits k rest)
    ∙ sym (parts word rest)
    ∙ ap are_digits (take-append-drop CHARACTERS l)

pub chunks_bytes : (k : ℕ) (l : List ℕ) → k * CHARACTERS ≤ length l → all_bytes (first_chunks CHARACTERS k l) ++ bytes_of (drop (k * CHARACTERS) l) ≡ bytes_of l
chunks_bytes zero l h = ap (λ (n : ℕ). bytes_of (drop n l)) (zero-mul CHARACTERS)
chunks_bytes (suc k) l h =
    let word = take CHARACTERS l in
    let rest = drop CHARACTERS l in
    ap (λ (r : List ℕ). (bytes_of word ++ all_bytes (first_chunks CHARACTERS k rest)) ++ bytes_of r) (sym (next k l))
    ∙ append_assoc (bytes_of word) (all_bytes (first_chunks CHARACTERS k rest)) (bytes_of (drop (k * CHARACTERS) rest))
    ∙ ap (λ (bs : List ℕ). bytes_of word ++ bs) (chunks_bytes k rest (omega (arith, length-drop CHARACTERS l)))
    ∙ sym (bytes_of_append WRITTEN word rest (length-take-le CHARACTERS l (omega arith)))
    ∙ ap bytes_of (take-append-drop CHARACTERS l)

-- ---- words looked at in turn

pub digits_more : (words : List (List ℕ)) (k : ℕ) (good b : Bool) → k < length words → b ≡ are_digits (get_or words k [])
    → (good && all_digits (drop k words)) ≡ all_digits words → ((good && b) && all_digits (drop (k + 1) words)) ≡ all_digits words
digits_more words k good b p e h =
    and_assoc good b (all_digits (drop (k + 1) words))
    ∙ ap₂ (λ (t : Bool) (i : ℕ). good && (t && all_digits (drop i words))) e (add-one k)
    ∙ ap (λ (ws : List (List ℕ)). good && all_digits ws) (sym (drop-cons words k [] p))
    ∙ h

pub digits_at : (words : List (List ℕ)) (k : ℕ) → k < length words → all_digits words ≡ true → are_digits (get_or words k []) ≡ true
digits_at [] k p d = absurd (omega arith)
digits_at (w ∷ ws) zero p d = (and_both (are_digits w) (all_digits ws) d).0
digits_at (w ∷ ws) (suc k) p d = digits_at ws k (omega arith) (and_both (are_digits w) (all_digits ws) d).1

-- ---- the loop that puts the bytes of words in turn: those of the first k stand before what the slice held

abbrev pub put_to : List (List ℕ) → List ℕ → ℕ → List ℕ
put_to words bytes k = all_bytes (take k words) ++ drop (WRITTEN * k) bytes

-- each is of eight characters
abbrev pub AreWords : List (List ℕ) → Type 0
AreWords words = (i : ℕ) → i < length words → length (get_or words i []) ≡ CHARACTERS

length_front : (k : ℕ) (words : List (List ℕ)) → k ≤ length words → AreWords words → length (all_bytes (take k words)) ≡ WRITTEN * k
length_front zero words p w = omega arith
length_front (suc k) [] p w = absurd (omega arith)
length_front (suc k) (word ∷ words) p w =
    length-append (bytes_of word) (all_bytes (take k words))
    ∙ omega (arith, length_bytes_of word WRITTEN (w 0 (omega arith)), length_front k words (omega arith) (λ i q. w (suc i) (omega arith)))

one_more : (words : List (List ℕ)) (word : List ℕ) → all_bytes (words ++ word ∷ []) ≡ all_bytes words ++ bytes_of word
one_more [] word = append-nil (bytes_of word)
one_more (w ∷ words) word = ap (λ (bs : List ℕ). bytes_of w ++ bs) (one_more words word) ∙ sym (append_assoc (bytes_of w) (all_bytes words) (bytes_of word))

-- a part put where the front ends
pub put_after : (front rest part : List ℕ) (n m : ℕ) → length front ≡ n → put_mid n m (front ++ rest) part ≡ front ++ part ++ drop m rest
put_after front rest part n m e =
    ap (λ (i : ℕ). put_mid i m (front ++ rest) part) (sym e)
    ∙ ap₂ (λ (xs ys : List ℕ). xs ++ (part ++ drop m ys)) (take-append_seam front rest) (drop-append_seam front rest)
    ∙ sym (append_assoc front part (drop m rest))

pub put_more : (words : List (List ℕ)) (bytes four : List ℕ) (k : ℕ) → k < length words → AreWords words → four ≡ bytes_of (get_or words k [])
    → put_mid (WRITTEN * k) (WRITTEN * k + WRITTEN - WRITTEN * k) (put_to words bytes k) four ≡ put_to words bytes (k + 1)
put_more words bytes four k p w e =
    let front = all_bytes (take k words) in
    let m = WRITTEN * k + WRITTEN - WRITTEN * k in
    let past : WRITTEN * k + m ≡ WRITTEN * (k + 1) = omega arith in
    let more : front ++ four ≡ all_bytes (take (k + 1) words) =
    ap (λ (bs : List ℕ). front ++ bs) e
    ∙ sym (one_more (take k words) (get_or words k []))
    ∙ ap all_bytes (sym (take-suc words k [] p) ∙ ap (λ (i : ℕ). take i words) (sym (add-one k))) in
    put_after front (drop (WRITTEN * k) bytes) four (WRITTEN * k) m (length_front k words (omega arith) w)
    ∙ ap₂ ◌++◌ more (drop-drop m (WRITTEN * k) bytes ∙ ap (λ (i : ℕ). drop i bytes) past)

-- ---- the loop that writes the digits in turn: the first i bytes' digits stand before what the buffer held

abbrev pub written_to : List ℕ → List ℕ → ℕ → List ℕ
written_to bytes buffer i = digits_of (take i bytes) ++ drop (2 * i) buffer

two_more : (x y : ℕ) (D ys : List ℕ) (n h l : ℕ) → length D ≡ n → set (set (D ++ x ∷ y ∷ ys) n h) (n + 1) l ≡ D ++ (h ∷ l ∷ []) ++ ys
two_more x y D ys n h l e =
    ap (λ (b : List ℕ). set b (n + 1) l) (set_at D x (y ∷ ys) h n e ∙ sym (append_snoc D h (y ∷ ys)))
    ∙ set_at (D ++ (h ∷ [])) y ys l (n + 1) (length-append D (h ∷ []) ∙ ap (λ (m : ℕ). m + 1) e)
    ∙ sym (append_assoc (D ++ (h ∷ [])) (l ∷ []) ys)
    ∙ ap (λ (b : List ℕ). b ++ ys) (append_assoc D (h ∷ []) (l ∷ []))

pub write_more : (bytes buffer : List ℕ) (i h l : ℕ) → i < length bytes → 2 * i + 1 < length buffer
    → h ≡ high_digit (get_or bytes i 0) → l ≡ low_digit (get_or bytes i 0)
    → set (set (written_to bytes buffer i) (2 * i) h) (2 * i + 1) l ≡ written_to bytes buffer (i + 1)
unfolding digits_of
write_more bytes buffer i h l p q e f =
    let D = digits_of (take i bytes) in
    let rest = drop (suc (suc (2 * i))) buffer in
    let long : length D ≡ 2 * i = length_digits_of (take i bytes) ∙ ap (λ (n : ℕ). 2 * n) (length-take-le i bytes (omega arith)) in
    let cut : drop (2 * i) buffer ≡ get_or buffer (2 * i) 0 ∷ get_or buffer (suc (2 * i)) 0 ∷ rest =
    drop-cons buffer (2 * i) 0 (omega arith) ∙ ap (λ (r : List ℕ). get_or buffer (2 * i) 0 ∷ r) (drop-cons buffer (suc (2 * i)) 0 (omega arith)) in
    let digits : D ++ (h ∷ l ∷ []) ≡ digits_of (take (i + 1) bytes) = rw (add-one i, take-suc bytes i 0 p, digits_of_append (take i bytes) (get_or bytes i 0 ∷ []), e, f) in
    let after : suc (suc (2 * i)) ≡ 2 * (i + 1) = omega arith in
    ap (λ (r : List ℕ). set (set (D ++ r) (2 * i) h) (2 * i + 1) l) cut
    ∙ two_more (get_or buffer (2 * i) 0) (get_or buffer (suc (2 * i)) 0) D rest (2 * i) h l long
    ∙ ap (λ (d : List ℕ). d ++ rest) digits
    ∙ ap (λ (n : ℕ). digits_of (take (i + 1) bytes) ++ drop n buffer) after
