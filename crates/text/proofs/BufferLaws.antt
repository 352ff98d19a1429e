-- A text put into a buffer, and more put behind it. Assumes nothing.
use Prim.Native.Nat.{ℕ, suc, ◌+◌, ◌*◌, ◌-◌, ◌<◌, ◌≤◌}
use mathlib.Core.Path.{◌≡◌, refl, sym, ap, ◌∙◌}
use mathlib.Core.List.{List, [], ◌∷◌, ◌++◌, append_assoc, append-nil}
use native.Mathlib.Omega.{arith}
use lib.ListN.{length, get_or, set, take, drop, length-append, length-drop, take-append-drop}
use lib.Seq.{drop-cons, append_snoc, set_at, take_at, drop_at, drop-append-add, length-take-le, drop-drop, take_all}
use native.Mathlib.Nat.{zero-add}
use Rattle.std.proofs.lemmas.List.{drop_all}
use borrow.Rule.Slice.PartMut.{put_mid}
use Rattle.digits.specs.Digits.{digits_of}
use borrow.Author.Tests.{le-leb}
use Rattle.digits.specs.Slices.{has_room, digits_after}
use Rattle.digits.proofs.ByteLaws.{length_digits_of}
use Rattle.text.specs.Buffer.{with_text, SameFrom}
use Rattle.text.specs.Text.{NEWLINE, line_text}

module _ (l : List ℕ) (at : ℕ) where
  pub front_length : (t : List ℕ) → at ≤ length l → length (take at l ++ t) ≡ at + length t
  front_length t h = simp (length-append, length-take-le) (omega arith)

  pub with_text_length : (t : List ℕ) → at + length t ≤ length l → length (with_text l at t) ≡ length l
  with_text_length t h = let k : at ≤ length l = omega arith in simp (length-append, length-take-le, length-drop) (omega arith)

  pub with_text_none : with_text l at [] ≡ l
  with_text_none = let e : at + 0 ≡ at = omega arith in rw (append-nil (take at l), e, take-append-drop at l)

  pub with_text_set : (t : List ℕ) (x : ℕ) → at + length t < length l → set (with_text l at t) (at + length t) x ≡ with_text l at (t ++ x ∷ [])
  with_text_set t x h =
      let n = at + length t in
      let longer : at + length (t ++ x ∷ []) ≡ suc n = simp length-append (omega arith) in
      ap (λ (r : List ℕ). set ((take at l ++ t) ++ r) n x) (drop-cons l n 0 h)
      ∙ set_at (take at l ++ t) (get_or l n 0) (drop (suc n) l) x n (front_length t (omega arith))
      ∙ sym (append_snoc (take at l ++ t) x (drop (suc n) l))
      ∙ ap (λ (r : List ℕ). r ++ drop (suc n) l) (append_assoc (take at l) t (x ∷ []))
      ∙ ap (λ (m : ℕ). take at l ++ (t ++ x ∷ []) ++ drop m l) (sym longer)

  pub with_text_append : (t s : List ℕ) → at + length t + length s ≤ length l → with_text (with_text l at t) (at + length t) s ≡ with_text l at (t ++ s)
  with_text_append t s h =
      let n = at + length t in
      let p = take at l ++ t in
      let long : length p ≡ n = front_length t (omega arith) in
      let longer : at + length (t ++ s) ≡ n + length s = simp length-append (omega arith) in
      let tail : drop (n + length s) (p ++ drop n l) ≡ drop (n + length s) l =
      ap (λ (m : ℕ). drop (m + length s) (p ++ drop n l)) (sym long) ∙ drop-append-add p (drop n l) (length s) ∙ drop-drop (length s) n l in
      ap (λ (r : List ℕ). r ++ s ++ drop (n + length s) (p ++ drop n l)) (take_at p (drop n l) n long)
      ∙ ap (λ (r : List ℕ). p ++ s ++ r) tail
      ∙ ap (λ (r : List ℕ). r ++ drop (n + length s) l) (append_assoc (take at l) t s)
      ∙ ap (λ (m : ℕ). take at l ++ (t ++ s) ++ drop m l) (sym longer)

-- ---- a text put at the start of the part of a buffer from `at` on is put into the buffer there

take_none : (l : List ℕ) → take 0 l ≡ []
take_none [] = refl
take_none (x ∷ l) = refl

module _ (l : List ℕ) (at : ℕ) where
  cut_is : take (length l - at) (drop at l) ≡ drop at l
  cut_is = take_all (length l - at) (drop at l) (simp length-drop (omega arith))

  none_behind : drop (length l - at) (drop at l) ≡ []
  none_behind = drop_all (length l - at) (drop at l) (simp length-drop (omega arith))

  pub cut_length : length (take (length l - at) (drop at l)) ≡ length l - at
  cut_length = ap length cut_is ∙ length-drop at l

  pub put_in_cut : (t : List ℕ) → put_mid at (length l - at) l (with_text (take (length l - at) (drop at l)) 0 t) ≡ with_text l at t
  put_in_cut t =
      rw (
        none_behind,
        cut_is,
        take_none (drop at l),
        zero-add (length t),
        drop-drop (length t) at l,
        append-nil (t ++ drop (at + length t) l),
        append_assoc (take at l) t (drop (at + length t) l),
      )

-- a text and then another, each at the start of the part behind
pub put_two : (l : List ℕ) (at : ℕ) (t s : List ℕ) (end : ℕ) → end ≡ length t → at + length t + length s ≤ length l
    → let part = take (length l - at) (drop at l) in let first = with_text part 0 t in
    put_mid at (length l - at) l (put_mid end (length first - end) first (with_text (take (length first - end) (drop end first)) 0 s)) ≡ with_text l at (t ++ s)
put_two l at t s end e h =
    let part = take (length l - at) (drop at l) in
    let behind : end ≡ 0 + length t = omega arith in
    let fits : 0 + length t + length s ≤ length part = omega (arith, cut_length l at) in
    ap (put_mid at (length l - at) l) (put_in_cut (with_text part 0 t) end s ∙ rw behind (with_text_append part 0 t s fits)) ∙ put_in_cut l at (t ++ s)

-- what was written stands before the rest, which is as it was
pub with_text_front : (l t : List ℕ) → take (length t) (with_text l 0 t) ≡ t
with_text_front l t = take_at t (drop (0 + length t) l) (length t) refl

pub with_text_behind : (l t : List ℕ) → SameFrom (length t) l (with_text l 0 t)
with_text_behind l t = drop_at t (drop (0 + length t) l) (length t) refl ∙ rw zero-add

-- ---- the digits of bytes, put one after the other from the start

-- where there is room, the digits and then a newline are the line
pub line_put : (l bytes : List ℕ) → 2 * length bytes < length l → set (digits_after bytes l) (2 * length bytes) NEWLINE ≡ with_text l 0 (line_text bytes)
unfolding digits_after has_room
line_put l bytes h =
    let D = digits_of bytes in
    let here : 2 * length bytes ≡ 0 + length D = omega (arith, length_digits_of bytes) in
    rw (le-leb (2 * length bytes) (length l) (omega arith), here) (with_text_set l 0 D NEWLINE (omega (arith, length_digits_of bytes)))

pub line_length_lem : (bytes : List ℕ) → length (line_text bytes) ≡ 2 * length bytes + 1
line_length_lem bytes = simp (length-append, length_digits_of)
