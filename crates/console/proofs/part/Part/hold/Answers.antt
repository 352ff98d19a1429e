-- `hold` meets its contract: what there is room for stands behind what was held.
use Rattle.std.proofs.Common.{◌∙◌, ap, List, ℕ, ◌++◌, take, arith}
use Rattle.console.specs.Held.{HELD}
use Rattle.console.proofs.HeldLaws.{held_more, filled_more}
use Rattle.console.proofs.part.Part.hold.Goals as goal

pub invariant_of-self : goal.invariant_of-self
invariant_of-self c =
    filled_more _ _ _ c.args.more.now _ c.self.invariant (omega arith) (omega arith) c.copy_from_slice.ensures.after c.copy_from_slice.ensures.len

pub returns : goal.returns
returns c =
    held_more _ _ _ c.args.more.now _ c.self.invariant (omega arith) (omega arith) c.copy_from_slice.ensures.after c.copy_from_slice.ensures.len (omega arith)
    ∙ ap (λ (line : List ℕ). take HELD (line ++ c.args.more.now)) c.self.view_is
