-- What is answered and what the buffer then holds, by the row that is given, and that what was written is the digits. Assumes nothing.
use Prim.Native.Nat.{ℕ, ◌≤◌}
use mathlib.Core.Path.{◌≡◌, refl, sym, ap, ◌∙◌}
use mathlib.Core.List.{List, ◌++◌}
use borrow.Author.Tests.{le-ltb}
use lib.Dec.{ltb}
use lib.ListN.{length, take, drop}
use lib.Seq.{take_at}
use Rattle.std.specs.Prelude.{Result, Ok, Err, ⊤}
use Rattle.laws.proofs.Results.{ok_is_no_err}
use Rattle.rows.specs.Rows.{first_row}
use Rattle.rows.specs.declared.Row.{Row}
use Rattle.rows.specs.declared.refusal.Refusal.{Refusal}
use Rattle.rows.specs.declared.refusal.Refusal.TheVariants.{Short}
use Rattle.rows.proofs.RowsLaws.{passed}
use Rattle.format.specs.Write.{room_rows, short_or, buffer_by, BufferKept}

-- ---- the row that row 13 and the own rows give

module _ (long : ℕ) (buffer : List ℕ) (row : Result ⊤ Refusal) where
  pub room : long ≤ length buffer → short_or long buffer row ≡ row
  room h = rw (le-ltb (length buffer) long h)

pub short_row : (long : ℕ) (buffer : List ℕ) (own : List (Row Refusal)) → short_or long buffer (first_row own) ≡ first_row (room_rows long buffer ++ own)
unfolding first_row
short_row long buffer own = refl

-- a refusal changes no byte
pub kept_by : (row : Result ⊤ Refusal) (digits buffer : List ℕ) → BufferKept buffer (buffer_by row digits buffer) row
unfolding buffer_by
kept_by (Ok done) digits buffer n e = absurd (ok_is_no_err tt n e)
kept_by (Err m) digits buffer n e = refl

-- ---- what was written

-- the first bytes are the digits
written_digits : (row : Result ⊤ Refusal) (long : ℕ) (digits buffer : List ℕ) → row ≡ Ok tt → length digits ≡ long → take long (buffer_by row digits buffer) ≡ digits
unfolding buffer_by
written_digits row long digits buffer e l = ap (λ (k : Result ⊤ Refusal). take long (buffer_by k digits buffer)) e ∙ take_at digits (drop (length digits) buffer) long l

module _ (long : ℕ) (buffer : List ℕ) (own : List (Row Refusal)) where
  abbrev first : Result ⊤ Refusal
  first = first_row (room_rows long buffer ++ own)

  -- into a buffer with room, a record that no own row fits is written
  pub written_whole : (digits : List ℕ) → length digits ≡ long → long ≤ length buffer → first_row own ≡ Ok tt
      → (first_row (room_rows long buffer ++ own) ≡ Ok tt) × (take long (buffer_by (first_row (room_rows long buffer ++ own)) digits buffer) ≡ digits)
  written_whole digits l h e =
      let row : first ≡ Ok tt = sym (short_row long buffer own) ∙ room long buffer (first_row own) h ∙ e in
      (row, written_digits first long digits buffer row l)

  -- where the line was written, no own row fits, and the first bytes are its digits
  pub done_own : first_row (room_rows long buffer ++ own) ≡ Ok tt → first_row own ≡ Ok tt
  unfolding first_row
  done_own e = (passed Short (ltb (length buffer) long) (first_row own) e).1

  pub done_digits : (digits : List ℕ) → length digits ≡ long → first_row (room_rows long buffer ++ own) ≡ Ok tt
      → take long (buffer_by (first_row (room_rows long buffer ++ own)) digits buffer) ≡ digits
  done_digits digits l e = written_digits first long digits buffer e l
