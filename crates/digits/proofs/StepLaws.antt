-- The step, case by case: it and the writing of four bytes are inverse, and it reads eight characters as a slice of them is read. Assumes nothing.
use mathlib.Core.Path.{◌≡◌, sym, ap, ◌∙◌}
use mathlib.Core.Bool.{Bool, true, false, cond}
use mathlib.Core.List.{List}
use mathlib.Core.Logic.{⊎_elim}
use Prim.Native.Nat.{ℕ, ◌*◌}
use native.Mathlib.Omega.{arith}
use lib.ListN.{length}
use Rattle.laws.proofs.Bools.{either}
use Rattle.std.specs.Prelude.{Result, Ok, Err}
use Rattle.rows.specs.declared.refusal.Refusal.{Refusal}
use Rattle.rows.specs.declared.refusal.Refusal.TheVariants.{Digit}
use Rattle.digits.specs.Digits.{are_digits, bytes_of, digits_of}
use Rattle.digits.specs.Inverse.{StepBack, StepWordBack, StepReads}
use Rattle.digits.specs.Numbers.{number_of, number_bytes}
use Rattle.digits.specs.Slices.{readable, bytes_after}
use Rattle.digits.specs.Word.{CHARACTERS, WRITTEN, characters_in, step_of}
use Rattle.digits.proofs.ByteLaws.{length_bytes_of, length_digits_of, digits_of_are, bytes_of_are, bytes_digits, digits_bytes}
use Rattle.digits.proofs.NumberLaws.{length_number_bytes, number_back, bytes_back_at}
use Rattle.digits.proofs.SliceLaws.{readable_digits, read_bytes}
use Rattle.digits.proofs.WordLaws.{characters_of, digits_are_bytes}

-- ---- its two cases

module _ (w : ℕ) where
  pub step_bytes : are_digits (characters_in w) ≡ true → Ok (number_of (bytes_of (characters_in w))) ≡ step_of w
  unfolding step_of
  step_bytes d = rw d

  pub step_refused : are_digits (characters_in w) ≡ false → Err Digit ≡ step_of w
  unfolding step_of
  step_refused d = rw d

-- ---- its laws

pub step_back : StepBack
step_back bytes l A =
    let d = digits_of_are bytes A in
    let cs : characters_in (number_of (digits_of bytes)) ≡ digits_of bytes = characters_of (digits_of bytes) (omega (arith, length_digits_of bytes, l)) (digits_are_bytes (digits_of bytes) d) in
    sym (step_bytes (number_of (digits_of bytes)) (ap are_digits cs ∙ d)) ∙ ap (λ (ds : List ℕ). Ok (number_of (bytes_of ds))) cs ∙ ap (λ (bs : List ℕ). Ok (number_of bs)) (bytes_digits bytes A)

pub step_word_back : StepWordBack
unfolding characters_in
step_word_back w n e =
    ⊎_elim
    (λ d.
    let cs = characters_in w in
    let long : length cs ≡ 2 * WRITTEN = length_number_bytes CHARACTERS w in
    let given : Ok (number_of (bytes_of cs)) ≡ Ok n = step_bytes w d ∙ e in
    let number : n ≡ number_of (bytes_of cs) = cc in
    let bytes : number_bytes WRITTEN n ≡ bytes_of cs =
    ap (number_bytes WRITTEN) number ∙ bytes_back_at WRITTEN (bytes_of cs) (length_bytes_of cs WRITTEN long) (bytes_of_are cs d) in
    ap (λ (bs : List ℕ). number_of (digits_of bs)) bytes ∙ ap number_of (digits_bytes cs WRITTEN long d) ∙ number_back 7 w)
    (λ d. let refused : Err Digit ≡ Ok n = step_refused w d ∙ e in cc)
    (either (are_digits (characters_in w)))

pub step_reads : StepReads
step_reads cs bytes l A m =
    let word = number_of cs in
    let chars = characters_of cs l A in
    let answer : Bool → Result ℕ Refusal = λ b. cond b (Ok (number_of (bytes_after cs bytes))) (Err Digit) in
    let read : readable cs bytes ≡ are_digits cs = readable_digits cs bytes (omega (arith, l, m)) in
    ⊎_elim
    (λ d.
    sym (step_bytes word (ap are_digits chars ∙ d))
    ∙ ap (λ (ds : List ℕ). Ok (number_of (bytes_of ds))) chars
    ∙ ap (λ (bs : List ℕ). Ok (number_of bs)) (sym (read_bytes cs bytes (read ∙ d)))
    ∙ ap answer (sym (read ∙ d)))
    (λ d. sym (step_refused word (ap are_digits chars ∙ d)) ∙ ap answer (sym (read ∙ d)))
    (either (are_digits cs))
