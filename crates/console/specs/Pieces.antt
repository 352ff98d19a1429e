-- The whole run, from any unit and in whatever pieces the input is taken: each call of `feed` writes `text_after` of what it took and hands back
-- `console_after`, and `finish` writes `final_text`, if its output has `FINAL` bytes. That what they write in all is `transcript` of the whole input is
-- proved (`pieces`).
use Rattle.std.specs.Prelude.{ℕ, ◌≡◌, Bool, true, ◌&&◌, List, [], ◌∷◌, ◌++◌, leb, length, drop}
use Rattle.unit.specs.declared.Unit as U
use Rattle.text.specs.bounds.Room.{STATUS}
use Rattle.console.specs.Transcript.{text_of, transcript}
use Rattle.console.specs.State.{new_console, console_after, text_after}
use Rattle.console.specs.Stands.{Stands}
use Rattle.console.specs.Feed.{takes, taken_bytes}
use Rattle.console.specs.Finish.{nothing_held, final_text}
use Rattle.console.specs.declared.Contents.{Contents as Console}

abbrev pub joined : List (List ℕ) → List ℕ
joined [] = []
joined (piece ∷ pieces) = piece ++ joined pieces

abbrev pub written_in : Console → List (List ℕ) → List ℕ
written_in c [] = final_text c
written_in c (piece ∷ pieces) = text_after c piece ++ written_in (console_after c piece) pieces

abbrev pub WhateverPieces : Type 0
WhateverPieces = (u : U.Unit) (pieces : List (List ℕ)) → written_in (new_console u) pieces ≡ transcript u (joined pieces)

-- A piece of the input as it comes, and the lengths of the outputs lent to the calls of `feed` that take it, one after the other.
pub record Lent : Type 0 where
  pub piece : List ℕ
  pub rooms : List ℕ

-- what each of these calls takes
abbrev pub taken_by : Console → List ℕ → List ℕ → List (List ℕ)
taken_by c piece [] = []
taken_by c piece (room ∷ rooms) =
    taken_bytes c piece room ∷ taken_by (console_after c (taken_bytes c piece room)) (drop (takes c piece room) piece) rooms

abbrev pub taken_by_all : Console → List Lent → List (List ℕ)
taken_by_all c [] = []
taken_by_all c (l ∷ more) =
    let taken = taken_by c l.piece l.rooms in
    taken ++ taken_by_all (console_after c (joined taken)) more

-- the least that is promised of `feed`: each output has room for a status, and there are as many as the piece has bytes. Calls beyond those that are
-- needed take nothing.
abbrev pub roomy : List ℕ → Bool
roomy [] = true
roomy (room ∷ rooms) = leb STATUS room && roomy rooms

abbrev pub enough : List Lent → Bool
enough [] = true
enough (l ∷ more) = roomy l.rooms && leb (length l.piece) (length l.rooms) && enough more

-- the input that comes in these pieces
abbrev pub comes : List Lent → List ℕ
comes [] = []
comes (l ∷ more) = l.piece ++ comes more

-- Whatever pieces the input comes in, and however small the outputs are above that least: all of the input is taken, and what is written in all is
-- its transcript. Proved as `rooms`.
abbrev pub WhateverRooms : Type 0
WhateverRooms = (u : U.Unit) (lent : List Lent) → enough lent ≡ true → written_in (new_console u) (taken_by_all (new_console u) lent) ≡ transcript u (comes lent)

-- Where a console holds no part of a line, its unit stands for all that came before: what is still printed is that unit's transcript of the rest
-- alone, as a new console of that unit would print it. Proved as `goes_on`.
abbrev pub GoesOn : Type 0
GoesOn = (c : Console) (u : U.Unit) (before more : List ℕ) → Stands c u before → nothing_held c ≡ true
    → transcript u (before ++ more) ≡ text_of u before ++ transcript c.unit more
