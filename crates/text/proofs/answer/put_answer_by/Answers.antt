-- `put_answer_by` meets its contract: the line is that of the event's two bytes, where there is room for it.
use Rattle.std.proofs.Common.{ℕ, ◌+◌, ◌≤◌, length, sym, ap, ◌∙◌, arith}
use borrow.Author.Tests.{leb-true}
use Rattle.text.specs.Text.{answer_text_by}
use Rattle.text.specs.bounds.Room.{ANSWER}
use Rattle.text.proofs.BufferLaws.{cut_length, put_in_cut}
use Rattle.text.proofs.PutLaws.{put_yes, put_no, answer_length_by}
use Rattle.text.proofs.answer.put_answer_by.Goals as goal

pub put_line-requires : goal.put_line-requires
put_line-requires g c =
    let room : c.args.at + ANSWER ≤ length c.args.buffer.now = leb-true _ _ (sym c.has_room.ensures ∙ c.if-has_room.true) in
    rw (c.bytes_of.ensures, cut_length c.args.buffer.now c.args.at) (omega (arith, answer_length_by g.R.Numbered.number c.args.event))

pub returns-then-has_room : goal.returns-then-has_room
returns-then-has_room g c =
    let text = answer_text_by g.R.Numbered.number c.args.event in
    let yes = put_yes ANSWER c.args.buffer.now c.args.at text (sym c.has_room.ensures ∙ c.if-has_room.true) in
    record {
      place = ap (λ (n : ℕ). c.args.at + n) (rw c.bytes_of.ensures at c.put_line.ensures.place) ∙ sym yes.0;
      text = rw (c.put_line.ensures.text, c.bytes_of.ensures) (put_in_cut c.args.buffer.now c.args.at text ∙ sym yes.1);
    }

pub returns-else-has_room : goal.returns-else-has_room
returns-else-has_room g c =
    let no = put_no ANSWER c.args.buffer.now c.args.at (answer_text_by g.R.Numbered.number c.args.event) (sym c.has_room.ensures ∙ c.if-has_room.false) in
    record { place = sym no.0; text = sym no.1 }
