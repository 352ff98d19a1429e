-- A text put where there is room, and left out where there is none. Assumes nothing.
use Prim.Native.Nat.{ℕ, ◌+◌, ◌≤◌}
use mathlib.Core.Path.{◌≡◌}
use mathlib.Core.Bool.{true, false}
use mathlib.Core.List.{List, [], ◌∷◌}
use borrow.Author.Tests.{le-leb}
use lib.ListN.{length}
use Rattle.reply.specs.Event.{Event, event_byte, number_byte_by}
use Rattle.reply.specs.declared.event.Event as E
use Rattle.text.specs.Buffer.{with_text, room_from, put_text, put_place}
use Rattle.rows.specs.Refusal.{number_of}
use Rattle.text.specs.Text.{answer_text, answer_text_by}
use Rattle.text.specs.bounds.Room.{ANSWER}
use Rattle.text.proofs.BufferLaws.{line_length_lem}

module _ (size : ℕ) (buffer : List ℕ) (at : ℕ) (text : List ℕ) where
  pub put_yes : room_from size (length buffer) at ≡ true
      → (put_place size buffer at text ≡ at + length text) × (put_text size buffer at text ≡ with_text buffer at text)
  unfolding put_place put_text
  put_yes t = (rw t, rw t)

  pub put_no : room_from size (length buffer) at ≡ false → (put_place size buffer at text ≡ at) × (put_text size buffer at text ≡ buffer)
  unfolding put_place put_text
  put_no t = (rw t, rw t)

  pub put_there : at + size ≤ length buffer → (put_place size buffer at text ≡ at + length text) × (put_text size buffer at text ≡ with_text buffer at text)
  put_there h = put_yes (le-leb (at + size) (length buffer) h)

pub answer_length_by : {R : Type 0} (number : R → ℕ) (e : E.Event R) → length (answer_text_by number e) ≡ ANSWER
answer_length_by number e = line_length_lem (event_byte e ∷ number_byte_by number e ∷ [])

pub answer_length : (e : Event) → length (answer_text e) ≡ ANSWER
answer_length e = answer_length_by number_of e
