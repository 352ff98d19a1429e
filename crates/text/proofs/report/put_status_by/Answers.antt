-- `put_status_by` meets its contract: the charts' lines stand behind the status line, where there is room for all.
use Rattle.std.proofs.Common.{◌+◌, ◌≤◌, length, sym, ◌∙◌, arith, length-append}
use borrow.Author.Tests.{leb-true}
use Rattle.difference.specs.Contribution.{CHARTS}
use Rattle.text.specs.Text.{line_text, stage_bytes_by, run_texts, status_text_by}
use Rattle.text.specs.bounds.Room.{STATUS}
use Rattle.text.proofs.BufferLaws.{cut_length, put_two, line_length_lem}
use Rattle.text.proofs.PutLaws.{put_yes, put_no}
use Rattle.text.proofs.StatusLaws.{runs_length}
use Rattle.text.proofs.report.put_status_by.Goals as goal

pub put_line-end-requires : goal.put_line-end-requires
put_line-end-requires g c =
    let room : c.args.at + STATUS ≤ length c.args.buffer.now = leb-true _ _ (sym c.has_room.ensures ∙ c.if-has_room.true) in
    rw (c.stage_bytes.ensures, cut_length c.args.buffer.now c.args.at) (omega (arith, line_length_lem (stage_bytes_by g.S.Numbered.number c.args.report)))

pub put_charts-requires : goal.put_charts-requires
put_charts-requires g c =
    let room : c.args.at + STATUS ≤ length c.args.buffer.now = leb-true _ _ (sym c.has_room.ensures ∙ c.if-has_room.true) in
    let end = rw c.stage_bytes.ensures at c.put_line-end.ensures.place in
    rw (cut_length c.put_line-end.new.room c.put_line-end.result)
    (omega (arith, c.put_line-end.auto.room, cut_length c.args.buffer.now c.args.at, end, line_length_lem (stage_bytes_by g.S.Numbered.number c.args.report)))

pub returns-then-has_room : goal.returns-then-has_room
returns-then-has_room g c =
    let r = c.args.report in
    let fits = sym c.has_room.ensures ∙ c.if-has_room.true in
    let room : c.args.at + STATUS ≤ length c.args.buffer.now = leb-true _ _ fits in
    let yes = put_yes STATUS c.args.buffer.now c.args.at (status_text_by g.S.Numbered.number r) fits in
    let line = line_text (stage_bytes_by g.S.Numbered.number r) in
    let lines = run_texts r.mask r.charts CHARTS in
    let end = rw c.stage_bytes.ensures at c.put_line-end.ensures.place in
    let long : c.args.at + length line + length lines ≤ length c.args.buffer.now = omega (arith, line_length_lem (stage_bytes_by g.S.Numbered.number r), runs_length r.mask r.charts CHARTS) in
    record {
      place = rw (c.put_charts.ensures.place, end, yes.0, length-append line lines) (omega arith);
      text =
          rw (c.put_charts.ensures.text, c.put_line-end.ensures.text, c.stage_bytes.ensures)
          (put_two c.args.buffer.now c.args.at line lines c.put_line-end.result end long ∙ sym yes.1);
    }

pub returns-else-has_room : goal.returns-else-has_room
returns-else-has_room g c =
    let no = put_no STATUS c.args.buffer.now c.args.at (status_text_by g.S.Numbered.number c.args.report) (sym c.has_room.ensures ∙ c.if-has_room.false) in
    record { place = sym no.0; text = sym no.1 }
