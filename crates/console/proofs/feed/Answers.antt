-- `feed` meets its contract: what stands before the next newline is held, the newline ends the line and its answer is written; at the end all of the
-- input is taken or no room is left.
use Rattle.std.proofs.Common.{ℕ, suc, List, ◌≡◌, ◌+◌, ◌-◌, ◌≤◌, ◌<◌, ◌∷◌, ◌++◌, ◌&&◌, not, true, false, length, take, drop, get_or, ap, sym, ◌∙◌, arith}
use Rattle.std.proofs.lemmas.List.{take-append-drop, get_or-drop, length-drop}
use borrow.Author.Tests.{leb-true, eqb-true, eqb-false}
use lib.Dec.{eqb, leb}
use Rattle.laws.proofs.Bools.{and_both}
use Rattle.unit.specs.declared.Unit as U
use Rattle.text.specs.Text.{NEWLINE}
use Rattle.text.specs.bounds.Room.{STATUS}
use Rattle.console.specs.Held.{HELD}
use Rattle.console.specs.Lines.{Before, has_newline}
use Rattle.console.specs.Stands.{Reached}
use Rattle.console.specs.State.{console_after}
use Rattle.console.specs.declared.Contents.{Contents as Console}
use Rattle.console.proofs.StandLaws.{held_fits}
use Rattle.console.proofs.PartLaws.{part_holds}
use Rattle.console.proofs.FeedLaws.{Going, going_start, going_part, going_empty, going_given, going_length, going_made, going_stands, going_kept, fed}
use Rattle.console.proofs.feed.Goals as goal

-- ---- after what stands before the next newline is held

module _ {c₀ : Console} {input output₀ output rest part next old new : List ℕ} {u : U.Unit} {w end : ℕ}
    (m : Reached c₀)
    (g : Going c₀ input output₀ (record { unit = u; part = old }) output rest w)
    (t : (not (eqb (length rest) 0) && leb STATUS (length output - w)) ≡ true)
    (b : Before rest end)
    (front : part ≡ take end rest)
    (back : next ≡ drop end rest)
    (k : new ≡ take HELD (old ++ part))
  where
    -- there is room for a status
    room : STATUS ≤ length output₀ - w
    room =
        let both = and_both (not (eqb (length rest) 0)) (leb STATUS (length output - w)) t in
        omega (arith, leb-true STATUS (length output - w) both.1, going_length g)

    -- no newline stands in it
    clear : has_newline part ≡ false
    clear = rw front b.clear

    -- what is held is what the console holds then
    held : record { unit = u; part = new } ≡ console_after (record { unit = u; part = old }) part
    held =
        let s = (going_made g m).3 in
        ap (λ (l : List ℕ). record { unit = u; part = l }) k ∙ sym (part_holds (record { unit = u; part = old }) part (held_fits _ _ _ s) clear)

    -- the invariant holds again
    more : Going c₀ input output₀ (record { unit = u; part = new }) output next w
    more = rw held (going_part g room part next (rw (front, back) (sym (take-append-drop end rest))) clear)

    -- a newline is next, if there is more
    newline : (x : ℕ) (after : List ℕ) → next ≡ x ∷ after → x ≡ NEWLINE
    newline x after e =
        let there : drop end rest ≡ x ∷ after = sym back ∙ e in
        let more : end < length rest = let size : length (drop end rest) ≡ suc (length after) = ap length there in omega (arith, size, length-drop end rest) in
        let place : end + 0 ≡ end = omega arith in
        sym (ap (λ (l : List ℕ). get_or l 0 0) there) ∙ get_or-drop end rest 0 0 ∙ rw place (b.there more)

    -- what a turn that ends a line goes by
    ended : (x : ℕ) (after : List ℕ) → next ≡ x ∷ after → Going c₀ input output₀ (record { unit = u; part = new }) output next w × (STATUS ≤ length output₀ - w) × (x ≡ NEWLINE)
    ended x after e = (more, room, newline x after e)

pub loop-output-init : goal.loop-output-init
loop-output-init c = (rw c.start.view_is at c.start.invariant, rw (← c.start.view_is) going_start)

pub loop-output-preserved-then-is_empty : goal.loop-output-preserved-then-is_empty
loop-output-preserved-then-is_empty c =
    let i = c.loop-output.invariant in
    let found = c.in-Some.ensures.cases.0 in
    let z = ended i.0 i.1 (rw c.is_empty.ensures at c.loop-output-test.true) c.line_end.ensures c.split_at.ensures.front c.split_at.ensures.back c.hold.ensures _ _ found in
    let put = c.put_status_by-written.ensures in (
      i.0,
      going_empty z.0 z.1 _ _ _ _ _ found z.2
          (ap length (sym c.line-line.ensures) ∙ eqb-true _ 0 (sym c.is_empty-in-Some.ensures ∙ c.if-is_empty.true)) c.status.ensures.whole put.place put.text,
    )

pub loop-output-preserved-else-is_empty : goal.loop-output-preserved-else-is_empty
loop-output-preserved-else-is_empty c =
    let i = c.loop-output.invariant in
    let found = c.in-Some.ensures.cases.0 in
    let z = ended i.0 i.1 (rw c.is_empty.ensures at c.loop-output-test.true) c.line_end.ensures c.split_at.ensures.front c.split_at.ensures.back c.hold.ensures _ _ found in
    let put = c.put_answer_by-written.ensures in
    let whole = rw c.line-line.ensures at c.take-answer.ensures.whole in (
      i.0,
      going_given z.0 z.1 _ _ c.take-answer.result _ _ _ found z.2
          (λ e. eqb-false _ 0 (sym c.is_empty-in-Some.ensures ∙ c.if-is_empty.false) (ap length c.line-line.ensures ∙ e)) whole c.new-part.ensures put.place put.text,
    )

pub loop-output-preserved : goal.loop-output-preserved
loop-output-preserved c =
    let i = c.loop-output.invariant in
    (i.0, more i.0 i.1 (rw c.is_empty.ensures at c.loop-output-test.true) c.line_end.ensures c.split_at.ensures.front c.split_at.ensures.back c.hold.ensures)

-- ---- at the end

pub invariant_of-console : goal.invariant_of-console
invariant_of-console c = going_made c.loop-output.invariant.1 c.loop-output.invariant.0

pub returns-clause-whole : goal.returns-clause-whole
returns-clause-whole c = (fed c.loop-output.invariant.1 (rw c.is_empty.ensures at c.loop-output-test.false)).0

pub returns-clause-bytes : goal.returns-clause-bytes
returns-clause-bytes c = (fed c.loop-output.invariant.1 (rw c.is_empty.ensures at c.loop-output-test.false)).1

pub returns-clause-reached : goal.returns-clause-reached
returns-clause-reached c = going_made c.loop-output.invariant.1 c.loop-output.invariant.0

pub returns-clause-stands : goal.returns-clause-stands
returns-clause-stands c = going_stands c.loop-output.invariant.1

pub returns-clause-kept : goal.returns-clause-kept
returns-clause-kept c = going_kept c.loop-output.invariant.1
