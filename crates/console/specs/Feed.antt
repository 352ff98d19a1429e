-- What `feed` takes, hands back and writes.
use Rattle.std.specs.Prelude.{ℕ, suc, ◌-◌, ◌≤◌, ◌<◌, ◌≡◌, false, cond, List, [], ◌∷◌, ◌++◌, ltb, length, take}
use Rattle.unit.specs.declared.Unit as U
use Rattle.text.specs.bounds.Room.{STATUS}
use Rattle.text.specs.Buffer.{with_text, SameFrom}
use Rattle.console.specs.State.{stepped_of, step_text, accepts, console_after, text_after}
use Rattle.console.specs.Stands.{Stands}
use Rattle.console.specs.Transcript.{text_of}
use Rattle.console.specs.declared.Contents.{Contents as Console}
use Rattle.console.specs.declared.Fed.{Fed}

-- how many bytes are taken: all, or as many as come while there is room for one more answer, the longest of which is a status
unfoldable pub takes : Console → List ℕ → ℕ → ℕ
takes c [] room = 0
takes c (x ∷ xs) room = cond (ltb room STATUS) 0 (suc (takes (stepped_of c x) xs (room - length (step_text c x))))

-- the bytes that are taken
abbrev pub taken_bytes : Console → List ℕ → ℕ → List ℕ
taken_bytes c input room = take (takes c input room) input

abbrev pub fed_of : Console → List ℕ → ℕ → Fed
fed_of c input room = record {
  console = console_after c (taken_bytes c input room);
  taken = takes c input room;
  written = length (text_after c (taken_bytes c input room));
}

abbrev pub fed_buffer : Console → List ℕ → List ℕ → List ℕ
fed_buffer c input output = with_text output 0 (text_after c (taken_bytes c input (length output)))

-- what is taken and written lies within the slices, and with an input and room for a status something is taken
pub record Progress (input output : List ℕ) (r : Fed) : Type 0 where
  pub taken : r.taken ≤ length input
  pub written : r.written ≤ length output
  pub some : 0 < length input → STATUS ≤ length output → 0 < r.taken

-- whatever unit and input it stood for, the console now stands for them and what is taken, and what is written is what the text grew by
pub record Continued (start : Console) (input output : List ℕ) (r : Fed) : Type 0 where
  pub stands : (u : U.Unit) (before : List ℕ) → Stands start u before → Stands r.console u (before ++ take r.taken input)
  pub text : (u : U.Unit) (before : List ℕ) → Stands start u before → text_of u (before ++ take r.taken input) ≡ text_of u before ++ take r.written output

-- Neither a refusal nor an empty line changes anything: the unit is the one given where no line that was taken is accepted. The output from `written` on is as it was, and
-- where nothing is taken all is as it was.
pub record FeedKept (start : Console) (input entry exit : List ℕ) (r : Fed) : Type 0 where
  pub unit : accepts start (take r.taken input) ≡ false → r.console.unit ≡ start.unit
  pub behind : SameFrom r.written entry exit
  pub console : r.taken ≡ 0 → r.console ≡ start
  pub output : r.taken ≡ 0 → exit ≡ entry
