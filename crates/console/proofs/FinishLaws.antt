-- The end of the input: the unended line's answer and the status are what `transcript` has after the answers so far. Assumes nothing.
use Prim.Native.Nat.{ℕ, suc, ◌+◌, ◌≤◌}
use mathlib.Core.Path.{◌≡◌, refl, sym, ap, ◌∙◌}
use mathlib.Core.Bool.{Bool, true, false, cond}
use mathlib.Core.List.{List, [], ◌∷◌, ◌++◌, append_assoc, append-nil}
use native.Mathlib.Omega.{arith}
use borrow.Author.Tests.{eq-eqb, ne_eqb, eqb-false, le-ltb}
use lib.ListN.{length, take, length-append}
use Rattle.food_line.specs.Fields.{line_length}
use Rattle.unit.specs.Take.{taken_of}
use Rattle.unit.specs.Status.{status_of}
use Rattle.unit.specs.Taken.{Taken}
use Rattle.unit.specs.declared.Unit as U
use Rattle.reply.specs.Report.{Report}
use Rattle.console.specs.declared.Contents.{Contents as Console}
use Rattle.text.specs.Text.{NEWLINE, answer_text, status_text}
use Rattle.console.specs.Lines.{ended, rest, last_line, lines_of}
use Rattle.console.specs.Transcript.{answers, unit_after_all, printed_all, text_of, transcript}
use Rattle.text.specs.Buffer.{with_text, SameFrom, put_text, put_place}
use Rattle.text.specs.bounds.Room.{ANSWER, STATUS}
use Rattle.console.specs.bounds.Room.{FINAL}
use Rattle.console.specs.Held.{HELD}
use Rattle.console.specs.Stands.{Stands}
use Rattle.console.specs.Feed.{takes, fed_of, fed_buffer}
use Rattle.console.specs.Finish.{nothing_held, last_unit, last_text, final_text, finished_of, finished_buffer, Completes, FinishKept}
use Rattle.text.proofs.BufferLaws.{with_text_length, with_text_append, with_text_front, with_text_behind}
use Rattle.console.proofs.LineLaws.{unit_append, answers_append, taken_cut}
use Rattle.console.proofs.AnswerLaws.{line_given}
use Rattle.console.proofs.StandLaws.{step_newline}
use Rattle.text.proofs.PutLaws.{answer_length, put_there}
use Rattle.text.proofs.StatusLaws.{status_length}

module _ (c : Console) where
  pub last_none : nothing_held c ≡ true → (last_unit c ≡ c.unit) × (last_text c ≡ [])
  unfolding last_unit last_text
  last_none t = (rw t, rw t)

  pub last_some : nothing_held c ≡ false → (last_unit c ≡ (taken_of c.unit c.part).unit) × (last_text c ≡ answer_text (taken_of c.unit c.part).event)
  unfolding last_unit last_text
  last_some t = (rw t, rw t)

  -- a line under way ends as its newline would end it
  pub ended_by_newline : (output : List ℕ) → nothing_held c ≡ false → STATUS ≤ length output
      → ((fed_of c (NEWLINE ∷ []) (length output)).console.unit ≡ last_unit c)
      × ((fed_of c (NEWLINE ∷ []) (length output)).written ≡ length (last_text c))
      × (fed_buffer c (NEWLINE ∷ []) output ≡ with_text output 0 (last_text c))
  unfolding takes
  ended_by_newline output n h =
      let some = last_some n in
      let line = line_given c.unit c.part (eqb-false (length c.part) 0 n) in
      let step = step_newline c NEWLINE refl in
      rw (le-ltb (length output) STATUS h, some.0, some.1, step.0, step.1, line.0, line.1, append-nil) (refl, refl, refl)

  pub last_length : length (last_text c) ≤ ANSWER
  unfolding last_text
  last_length = go (nothing_held c)
    where
      go : (b : Bool) → length (cond b [] (answer_text (taken_of c.unit c.part).event)) ≤ ANSWER
      go true = omega arith
      go false = omega (arith, answer_length (taken_of c.unit c.part).event)

  -- what is held is the unended line, if there is one
  last_is : (p : List ℕ) → c.part ≡ take HELD p
      → (last_text c ≡ printed_all (answers c.unit (last_line p))) × (last_unit c ≡ unit_after_all c.unit (last_line p))
  last_is [] e = let none = last_none (eq-eqb (length c.part) 0 (ap length e)) in (none.1, none.0)
  last_is (x ∷ p) e =
      let long : length c.part ≡ suc (length (take line_length p)) = ap length e in
      let some = last_some (ne_eqb (length c.part) 0 (λ z. omega arith)) in
      let same : taken_of c.unit c.part ≡ taken_of c.unit (x ∷ p) = ap (taken_of c.unit) e ∙ taken_cut c.unit (x ∷ p) in (
        some.1 ∙ ap (λ (t : Taken). answer_text t.event) same ∙ sym (append-nil (answer_text (taken_of c.unit (x ∷ p)).event)),
        some.0 ∙ ap (λ (t : Taken). t.unit) same,
      )

  pub final_transcript : (u : U.Unit) (input : List ℕ) → Stands c u input → text_of u input ++ final_text c ≡ transcript u input
  final_transcript u input s =
      let v = unit_after_all u (ended input) in
      let last = last_line (rest input) in
      let here = last_is (rest input) s.part in
      let text : last_text c ≡ printed_all (answers v last) = here.0 ∙ ap (λ (w : U.Unit). printed_all (answers w last)) s.unit in
      let unit : last_unit c ≡ unit_after_all u (lines_of input) =
      here.1 ∙ ap (λ (w : U.Unit). unit_after_all w last) s.unit ∙ sym (unit_append u (ended input) last) in
      sym (append_assoc (text_of u input) (last_text c) (status_text (status_of (last_unit c))))
      ∙ ap (λ (t : List ℕ). text_of u input ++ t ++ status_text (status_of (last_unit c))) text
      ∙ ap (λ (t : List ℕ). t ++ status_text (status_of (last_unit c))) (sym (answers_append u (ended input) last))
      ∙ ap (λ (w : U.Unit). printed_all (answers u (lines_of input)) ++ status_text (status_of w)) unit

-- ---- what `finish` hands back

module _ (c : Console) (output : List ℕ) where
  abbrev pub Finished : ℕ → List ℕ → Type 0
  Finished r exit =
      (r ≡ finished_of c (length output)) × (exit ≡ finished_buffer c output) × (r ≤ length exit) × Completes c output exit r × FinishKept output exit r

  pub last_room : (middle : List ℕ) (w : ℕ) → FINAL ≤ length output → w ≡ length (last_text c) → middle ≡ with_text output 0 (last_text c)
      → w + STATUS ≤ length middle
  last_room middle w h e t =
      rw t (omega (arith, last_length c, with_text_length output 0 (last_text c) (omega (arith, last_length c))))

  pub finished_whole : (r w : ℕ) (middle exit : List ℕ) (u : U.Unit) (report : Report) → FINAL ≤ length output
      → u ≡ last_unit c → w ≡ length (last_text c) → middle ≡ with_text output 0 (last_text c)
      → report ≡ status_of u → r ≡ w + length (status_text report) → exit ≡ with_text middle w (status_text report)
      → Finished r exit
  finished_whole r w middle exit u report h e p t q n x =
      let text = status_text (status_of (last_unit c)) in
      let whole : r ≡ length (final_text c) = rw (length-append (last_text c) text, n, p, q, e) in
      let here : w ≡ 0 + length (last_text c) = omega arith in
      let buffer : exit ≡ with_text output 0 (final_text c) =
      rw (x, t, here, q, e) (with_text_append output 0 (last_text c) text (omega (arith, last_length c, status_length (status_of (last_unit c))))) in
      let fits : 0 + length (final_text c) ≤ length output =
      rw (length-append (last_text c) text) (omega (arith, last_length c, status_length (status_of (last_unit c)))) in
      let behind : SameFrom r output exit = rw (buffer, whole) (with_text_behind output (final_text c)) in
      let no = le-ltb (length output) FINAL h in (
        rw no whole,
        rw no buffer,
        rw (buffer, whole) (omega (arith, with_text_length output 0 (final_text c) fits, fits)),
        λ v input s l. rw (whole, buffer, with_text_front output (final_text c)) (final_transcript c v input s),
        record { behind = behind; output = λ (none : r ≡ 0). rw none at behind },
      )

  -- the status is put behind the last line's answer
  pub finished_put : (r w : ℕ) (middle exit : List ℕ) (u : U.Unit) (report : Report) → FINAL ≤ length output
      → u ≡ last_unit c → w ≡ length (last_text c) → middle ≡ with_text output 0 (last_text c)
      → report ≡ status_of u → r ≡ put_place STATUS middle w (status_text report) → exit ≡ put_text STATUS middle w (status_text report)
      → Finished r exit
  finished_put r w middle exit u report h e p t q n x =
      let there = put_there STATUS middle w (status_text report) (last_room middle w h p t) in
      finished_whole r w middle exit u report h e p t q (n ∙ there.0) (x ∙ there.1)
