-- `end_line` meets its contract: an empty line is none, else the line ends as its newline would end it.
use Rattle.std.proofs.Common.{◌≡◌, true, false, sym, ap, ◌∙◌}
use Rattle.console.specs.Finish.{nothing_held}
use Rattle.console.specs.declared.Contents.{Contents as Console}
use Rattle.console.specs.declared.Fed.{Fed}
use Rattle.text.proofs.BufferLaws.{with_text_none}
use Rattle.console.proofs.FinishLaws.{last_none, ended_by_newline}
use Rattle.console.proofs.end_line.Goals as goal

pub returns-then-is_empty : goal.returns-then-is_empty
returns-then-is_empty c =
    let line = c.line.ensures ∙ ap (λ (d : Console). d.part) c.console.view_is in
    let nothing : nothing_held c.args.console ≡ true = rw (← line) (sym c.is_empty.ensures ∙ c.if-is_empty.true) in
    let none = last_none c.args.console nothing in
    record { unit = sym none.0; place = rw none.1; text = rw none.1 (sym (with_text_none c.args.output.now 0)) }

pub returns : goal.returns
returns c =
    let line = c.line.ensures ∙ ap (λ (d : Console). d.part) c.console.view_is in
    let some : nothing_held c.args.console ≡ false = rw (← line) (sym c.is_empty.ensures ∙ c.if-is_empty.false) in
    let ended = ended_by_newline c.args.console c.args.output.now some c.requires in
    record {
      unit = ap (λ (r : Fed). r.console.unit) c.feed.ensures.whole ∙ ended.0;
      place = ap (λ (r : Fed). r.written) c.feed.ensures.whole ∙ ended.1;
      text = c.feed.ensures.bytes ∙ ended.2;
    }
