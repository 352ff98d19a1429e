-- The loop that feeds: what stands before each line, and what a part of a line and its end do to it. Assumes nothing.
use Prim.Native.Nat.{ℕ, suc, ◌+◌, ◌-◌, ◌≤◌, ◌<◌}
use mathlib.Core.Path.{◌≡◌, refl, sym, ap, ◌∙◌}
use mathlib.Core.Bool.{false, not, ◌&&◌}
use mathlib.Core.List.{List, [], ◌∷◌, ◌++◌, append_assoc, append-nil}
use native.Mathlib.Nat.{zero-add}
use native.Mathlib.Omega.{arith}
use borrow.Author.Tests.{lt-ltb, le-ltb, eq-eqb, ne_eqb, leb-false}
use lib.Dec.{eqb, leb}
use lib.ListN.{length, take, length-append}
use lib.Seq.{take-append_seam}
use Rattle.console.specs.declared.Contents.{Contents as Console}
use Rattle.text.specs.Buffer.{with_text, put_text, put_place}
use Rattle.text.specs.bounds.Room.{ANSWER, STATUS}
use Rattle.console.specs.Lines.{has_newline}
use Rattle.console.specs.State.{stepped_of, step_text, console_after, text_after}
use Rattle.console.specs.Stands.{Reached}
use Rattle.console.specs.Feed.{takes, fed_of, fed_buffer, Continued, FeedKept}
use Rattle.text.specs.Text.{NEWLINE, answer_text, status_text}
use Rattle.reply.specs.Report.{Report}
use Rattle.unit.specs.Take.{taken_of}
use Rattle.unit.specs.Status.{status_of}
use Rattle.unit.specs.Taken.{Taken}
use Rattle.unit.specs.declared.Unit as U
use Rattle.console.specs.Answer.{answer_to, unit_after, printed}
use Rattle.text.proofs.BufferLaws.{with_text_none, with_text_append, with_text_length, with_text_front, with_text_behind}
use Rattle.text.proofs.PutLaws.{put_there}
use Rattle.console.proofs.AnswerLaws.{line_given, printed_length}
use Rattle.console.proofs.StandLaws.{none_held, step_newline, made_after, stands_after}
use Rattle.console.proofs.PartLaws.{console_append, text_append, part_text, part_takes}
use Rattle.console.proofs.KeptLaws.{unit_after_lem}

-- `done` is taken and its text is written, and what is still taken depends on the rest of the input and of the room
pub record Going (c₀ : Console) (input output₀ : List ℕ) (c : Console) (output rest : List ℕ) (written : ℕ) : Type 0 where
  pub done : List ℕ
  pub cut : input ≡ done ++ rest
  pub fits : written ≤ length output₀
  pub state : c ≡ console_after c₀ done
  pub place : written ≡ length (text_after c₀ done)
  pub text : output ≡ with_text output₀ 0 (text_after c₀ done)
  pub left : takes c₀ input (length output₀) ≡ length done + takes c rest (length output₀ - written)

-- ---- how much is taken

takes_more : (c : Console) (x : ℕ) (xs : List ℕ) (room : ℕ) → STATUS ≤ room
    → takes c (x ∷ xs) room ≡ suc (takes (stepped_of c x) xs (room - length (step_text c x)))
unfolding takes
takes_more c x xs room k = rw (le-ltb room STATUS k) refl

-- all of the input is taken, or no room is left
takes_end : (c : Console) (xs : List ℕ) (room : ℕ) → (not (eqb (length xs) 0) && leb STATUS room) ≡ false → takes c xs room ≡ 0
unfolding takes
takes_end c [] room e = refl
takes_end c (x ∷ xs) room e =
    let full : room < STATUS = leb-false STATUS room (rw (ne_eqb (length (x ∷ xs)) 0 (λ z. omega arith)) at e) in
    rw (lt-ltb room STATUS full) refl

-- with an input and room for a status something is taken
pub takes_some : (c : Console) (xs : List ℕ) (room : ℕ) → 0 < length xs → STATUS ≤ room → 0 < takes c xs room
unfolding takes
takes_some c [] room h k = absurd (omega arith)
takes_some c (x ∷ xs) room h k = rw (le-ltb room STATUS k) (omega arith)

-- ---- the turns of the loop

module _ {c₀ : Console} {input output₀ : List ℕ} where
  pub going_start : Going c₀ input output₀ c₀ output₀ input 0
  going_start =
      let room : length output₀ - 0 ≡ length output₀ = omega arith in
      record { done = []; cut = refl; fits = omega arith; state = refl; place = refl; text = sym (with_text_none output₀ 0); left = rw (room, zero-add) }

  -- some of the rest is taken
  going_by : {c : Console} {output rest : List ℕ} {w : ℕ} → Going c₀ input output₀ c output rest w → (more next text : List ℕ) → rest ≡ more ++ next
      → text_after c more ≡ text → length text ≤ length output₀ - w
      → takes c rest (length output₀ - w) ≡ length more + takes (console_after c more) next (length output₀ - w - length text)
      → Going c₀ input output₀ (console_after c more) (with_text output w text) next (w + length text)
  going_by {c} {output} {rest} {w} g more next text cut t k left =
      let all = text_after c₀ g.done in
      let grown : text_after c₀ (g.done ++ more) ≡ all ++ text =
      text_append c₀ g.done more ∙ ap (λ (d : Console). all ++ text_after d more) (sym g.state) ∙ ap (λ (u : List ℕ). all ++ u) t in
      let here : w ≡ 0 + length all = omega (arith, g.place) in
      let room : length output₀ - (w + length text) ≡ length output₀ - w - length text = omega arith in
      record {
        done = g.done ++ more;
        cut = g.cut ∙ ap (λ (l : List ℕ). g.done ++ l) cut ∙ sym (append_assoc g.done more next);
        fits = omega (arith, g.fits);
        state = ap (λ (d : Console). console_after d more) g.state ∙ sym (console_append c₀ g.done more);
        place = ap (λ (n : ℕ). n + length text) g.place ∙ sym (length-append all text) ∙ ap length (sym grown);
        text =
            ap (λ (b : List ℕ). with_text b w text) g.text
            ∙ ap (λ (n : ℕ). with_text (with_text output₀ 0 all) n text) here
            ∙ with_text_append output₀ 0 all text (omega (arith, g.fits, g.place))
            ∙ ap (with_text output₀ 0) (sym grown);
        left = g.left ∙ rw (left, room, length-append g.done more) (omega arith);
      }

  -- the output is as long as it was
  pub going_length : {c : Console} {output rest : List ℕ} {w : ℕ} → Going c₀ input output₀ c output rest w → length output ≡ length output₀
  going_length g = ap length g.text ∙ with_text_length output₀ 0 (text_after c₀ g.done) (omega (arith, g.fits, g.place))

  -- ---- the parts of a turn

  module _ {c : Console} {output rest : List ℕ} {w : ℕ} (g : Going c₀ input output₀ c output rest w) (k : STATUS ≤ length output₀ - w) where
    -- a part of a line is held, as far as there is room
    pub going_part : (part next : List ℕ) → rest ≡ part ++ next → has_newline part ≡ false → Going c₀ input output₀ (console_after c part) output next w
    going_part part next cut clear =
        let none : w + 0 ≡ w = omega arith in
        let same : length output₀ - w - 0 ≡ length output₀ - w = omega arith in
        let left : takes c rest (length output₀ - w) ≡ length part + takes (console_after c part) next (length output₀ - w - 0) =
        ap (λ (l : List ℕ). takes c l (length output₀ - w)) cut ∙ rw same (part_takes c part next (length output₀ - w) clear k) in
        rw (with_text_none output w, none) at (going_by g part next [] cut (part_text c part clear) (omega arith) left)

    -- the line ends, and its answer is written
    going_line : (x : ℕ) (next : List ℕ) (u : U.Unit) (text : List ℕ) → rest ≡ x ∷ next → x ≡ NEWLINE → u ≡ unit_after c.unit c.part → text ≡ printed (answer_to c.unit c.part)
        → Going c₀ input output₀ (record { unit = u; part = [] }) (with_text output w text) next (w + length text)
    going_line x next u text cut e r t =
        let p = step_newline c x (eq-eqb x NEWLINE e) in
        let step : step_text c x ≡ text = p.1 ∙ sym t in
        let fits : length text ≤ STATUS = rw t (printed_length (answer_to c.unit c.part)) in
        let left : takes c rest (length output₀ - w) ≡ 1 + takes (stepped_of c x) next (length output₀ - w - length text) =
        ap (λ (l : List ℕ). takes c l (length output₀ - w)) cut ∙ takes_more c x next (length output₀ - w) k ∙ rw step (omega arith) in
        rw (p.0, sym r) at (going_by g (x ∷ []) next text cut (append-nil (step_text c x) ∙ step) (omega arith) left)

    room : w + STATUS ≤ length output
    room = omega (arith, k, g.fits, going_length g)

    -- an empty one: it is the status, and the console is as it was
    pub going_empty : (x : ℕ) (next : List ℕ) (report : Report) (put : List ℕ) (to : ℕ) → rest ≡ x ∷ next → x ≡ NEWLINE → length c.part ≡ 0 → report ≡ status_of c.unit
        → to ≡ put_place STATUS output w (status_text report) → put ≡ put_text STATUS output w (status_text report)
        → Going c₀ input output₀ c put next to
    going_empty x next report put to h e z r p t =
        let none : c.part ≡ [] = none_held c.part z in
        let there = put_there STATUS output w (status_text report) room in
        let same : record { unit = c.unit; part = [] } ≡ c = ap (λ (l : List ℕ). record { unit = c.unit; part = l }) (sym none) in
        let line = going_line x next c.unit (status_text report) h e (rw none) (rw (none, r)) in
        rw (p ∙ there.0, t ∙ there.1) (rw same at line)

    -- any other: it is the event that the unit gives, and nothing is held
    pub going_given : (x : ℕ) (next : List ℕ) (taken : Taken) (part put : List ℕ) (to : ℕ) → rest ≡ x ∷ next → x ≡ NEWLINE → (length c.part ≡ 0 → ⊥) → taken ≡ taken_of c.unit c.part
        → part ≡ [] → to ≡ put_place ANSWER output w (answer_text taken.event) → put ≡ put_text ANSWER output w (answer_text taken.event)
        → Going c₀ input output₀ (record { unit = taken.unit; part = part }) put next to
    going_given x next taken part put to h e n r none p t =
        let some = line_given c.unit c.part n in
        let there = put_there ANSWER output w (answer_text taken.event) (omega (arith, room)) in
        let unit : taken.unit ≡ unit_after c.unit c.part = ap (λ (a : Taken). a.unit) r ∙ sym some.1 in
        let text : answer_text taken.event ≡ printed (answer_to c.unit c.part) = ap (λ (a : Taken). answer_text a.event) r ∙ ap printed (sym some.0) in
        rw (none, p ∙ there.0, t ∙ there.1) (going_line x next taken.unit (answer_text taken.event) h e unit text)

  module _ {c : Console} {output rest : List ℕ} {w : ℕ} (g : Going c₀ input output₀ c output rest w) where
    pub going_made : Reached c₀ → Reached c
    going_made m = rw g.state (made_after c₀ g.done m)

    -- how much was taken
    abbrev pub taken : ℕ
    taken = length input - length rest

    size : taken ≡ length g.done
    size = let all : length input ≡ length g.done + length rest = ap length g.cut ∙ length-append g.done rest in omega (arith, all)

    front : take taken input ≡ g.done
    front = ap (λ (n : ℕ). take n input) size ∙ ap (take (length g.done)) g.cut ∙ take-append_seam g.done rest

    -- the console stands for all of the input, and what was written is what the text grew by
    pub going_stands : Continued c₀ input output (record { console = c; taken = taken; written = w })
    going_stands = record {
      stands = λ u before s. rw (front, g.state) (stands_after c₀ u before g.done s).0;
      text = λ u before s. rw (front, g.text, g.place, with_text_front output₀ (text_after c₀ g.done)) (stands_after c₀ u before g.done s).1;
    }

    pub going_kept : FeedKept c₀ input output₀ output (record { console = c; taken = taken; written = w })
    going_kept = record {
      unit = λ n. rw g.state (unit_after_lem c₀ g.done (rw front at n));
      behind = rw (g.text, g.place) (with_text_behind output₀ (text_after c₀ g.done));
      console = λ (none : taken ≡ 0). g.state ∙ ap (console_after c₀) (none_held g.done (sym size ∙ none));
      output = λ (none : taken ≡ 0). g.text ∙ ap (λ (l : List ℕ). with_text output₀ 0 (text_after c₀ l)) (none_held g.done (sym size ∙ none)) ∙ with_text_none output₀ 0;
    }

    -- ---- the end: all of the input is taken, or no room is left
    module _ (e : (not (eqb (length rest) 0) && leb STATUS (length output - w)) ≡ false) where
      stopped : takes c₀ input (length output₀) ≡ taken
      stopped = g.left ∙ omega (arith, size, takes_end c rest (length output₀ - w) (rw (going_length g) at e))

      -- what is handed back
      pub fed : (record { console = c; taken = taken; written = w } ≡ fed_of c₀ input (length output₀)) × (output ≡ fed_buffer c₀ input output₀)
      fed = (rw (stopped, front, g.state, g.place), rw (stopped, front) g.text)
