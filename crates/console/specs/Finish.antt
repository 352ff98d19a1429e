-- What `finish` hands back and writes.
use Rattle.std.specs.Prelude.{ℕ, ◌≤◌, ◌≡◌, Bool, cond, List, [], ◌++◌, ltb, eqb, length, take}
use Rattle.unit.specs.Take.{taken_of}
use Rattle.unit.specs.Status.{status_of}
use Rattle.unit.specs.declared.Unit as U
use Rattle.text.specs.Text.{answer_text, status_text}
use Rattle.console.specs.bounds.Room.{FINAL}
use Rattle.text.specs.Buffer.{with_text, SameFrom}
use Rattle.console.specs.Stands.{Stands}
use Rattle.console.specs.Transcript.{text_of, transcript}
use Rattle.console.specs.declared.Contents.{Contents as Console}

-- the last line is ended, or empty
abbrev pub nothing_held : Console → Bool
nothing_held c = eqb (length c.part) 0

-- the end of the input: an unended last line is taken if not empty
unfoldable pub last_unit : Console → U.Unit
last_unit c = cond (nothing_held c) c.unit (taken_of c.unit c.part).unit

unfoldable pub last_text : Console → List ℕ
last_text c = cond (nothing_held c) [] (answer_text (taken_of c.unit c.part).event)

-- its answer, and the status
abbrev pub final_text : Console → List ℕ
final_text c = last_text c ++ status_text (status_of (last_unit c))

-- nothing is written to a shorter buffer
abbrev pub finished_of : Console → ℕ → ℕ
finished_of c room = cond (ltb room FINAL) 0 (length (final_text c))

abbrev pub finished_buffer : Console → List ℕ → List ℕ
finished_buffer c output = cond (ltb (length output) FINAL) output (with_text output 0 (final_text c))

-- whatever unit and input the console stands for: what is written is what the transcript has after the answers so far
abbrev pub Completes : Console → List ℕ → List ℕ → ℕ → Type 0
Completes c entry exit r = (u : U.Unit) (input : List ℕ) → Stands c u input → FINAL ≤ length entry → text_of u input ++ take r exit ≡ transcript u input

-- the output from what is handed back on is as it was, and where that is 0 all of it is
pub record FinishKept (entry exit : List ℕ) (r : ℕ) : Type 0 where
  pub behind : SameFrom r entry exit
  pub output : r ≡ 0 → exit ≡ entry
