-- What reading digits by words and a tail finds and puts: all the characters are looked at, and the bytes are all that they write. Assumes nothing.
use Prim.Native.Nat.{ℕ, ◌-◌, ◌*◌, ◌/◌}
use mathlib.Core.Path.{◌≡◌, ap, ap₂, ◌∙◌}
use mathlib.Core.Bool.{Bool, ◌&&◌}
use mathlib.Core.List.{List, [], ◌++◌, append-nil}
use native.Mathlib.Omega.{arith}
use borrow.Rule.Slice.PartMut.{put_mid}
use lib.ListN.{length, take, drop, length-append, length-drop, drop_of_length-le}
use Rattle.std.specs.Simd.{first_chunks}
use Rattle.digits.specs.Digits.{are_digits, bytes_of}
use Rattle.digits.specs.Word.{CHARACTERS, WRITTEN, characters_in}
use Rattle.digits.specs.bounds.Loaded.{loaded_in, filled}
use Rattle.digits.specs.bounds.Words.{all_digits, all_bytes}
use Rattle.digits.proofs.ByteLaws.{length_bytes_of}
use Rattle.digits.proofs.LoadLaws.{loaded_digits}
use Rattle.digits.proofs.LoopLaws.{chunks_digits, chunks_bytes, put_after}
use Rattle.digits.proofs.TailLaws.{filled_digits, filled_bytes}

-- `words` are the first k of the characters l, `rest` is what stands after them, and `tail` its word
module _ (l rest : List ℕ) (words : List (List ℕ)) (k tail : ℕ) (front : words ≡ first_chunks CHARACTERS k l) (back : rest ≡ drop (k * CHARACTERS) l)
    (loaded : loaded_in tail ≡ filled rest) where
  rest_digits : are_digits (loaded_in tail) ≡ are_digits rest
  rest_digits = ap are_digits loaded ∙ filled_digits rest

  pub tested : (good last : Bool) → good ≡ all_digits words → last ≡ are_digits (characters_in tail) → (good && last) ≡ are_digits l
  tested good last g t =
      ap₂ (λ (a b : Bool). a && b) (g ∙ ap all_digits front) (t ∙ loaded_digits tail ∙ rest_digits ∙ ap are_digits back) ∙ chunks_digits k l

  -- of twice b characters, into b bytes, n of which the words write
  module _ (bytes four : List ℕ) (b n : ℕ) (long : length l ≡ 2 * b) (room : length bytes ≡ b) (all : k ≡ 2 * b / CHARACTERS) (n_is : n ≡ WRITTEN * k)
      (written : four ≡ bytes_of (loaded_in tail)) where
    rest_long : length rest ≡ 2 * (b - n)
    rest_long = ap length back ∙ length-drop (k * CHARACTERS) l ∙ omega arith

    both : all_bytes words ++ bytes_of rest ≡ bytes_of l
    both = ap₂ ◌++◌ (ap all_bytes front) (ap bytes_of back) ∙ chunks_bytes k l (omega arith)

    words_long : length (all_bytes words) ≡ n
    words_long =
        omega
        (arith, length-append (all_bytes words) (bytes_of rest), ap length both, length_bytes_of l b long, length_bytes_of rest (b - n) rest_long)

    pub put_all : put_mid n (b - n) (all_bytes words ++ drop n bytes) (take (b - n) four) ≡ bytes_of l
    put_all =
        let last : take (b - n) four ≡ bytes_of rest = ap (take (b - n)) (written ∙ ap bytes_of loaded) ∙ filled_bytes rest (b - n) rest_long in
        let none : drop (b - n) (drop n bytes) ≡ [] = drop_of_length-le (drop n bytes) (omega (arith, length-drop n bytes)) in
        put_after (all_bytes words) (drop n bytes) (take (b - n) four) n (b - n) words_long
        ∙ ap₂ (λ (xs ys : List ℕ). all_bytes words ++ xs ++ ys) last none
        ∙ append-nil (all_bytes words ++ bytes_of rest)
        ∙ both

    -- the place from which the tail is put may be a number of the code's own, if it is where the words' bytes end
    pub put_from : (from : ℕ) → from ≡ n → put_mid from (b - from) (all_bytes words ++ drop n bytes) (take (b - from) four) ≡ bytes_of l
    put_from from e = ap (λ (m : ℕ). put_mid m (b - m) (all_bytes words ++ drop n bytes) (take (b - m) four)) e ∙ put_all
