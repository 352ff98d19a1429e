-- Whatever pieces the input is taken in, what is written in all is its transcript. Assumes nothing.
use Prim.Native.Nat.{ℕ, suc, ◌≤◌}
use mathlib.Core.Path.{◌≡◌, refl, sym, ap, ap₂, ◌∙◌}
use mathlib.Core.Bool.{true, ◌&&◌}
use mathlib.Core.List.{List, [], ◌∷◌, ◌++◌, append_assoc, append-nil}
use borrow.Author.Tests.{eqb-true, eq-eqb, leb-true}
use lib.Dec.{leb}
use Rattle.laws.proofs.Bools.{and_both}
use native.Mathlib.Omega.{arith}
use lib.ListN.{length, take, drop, length-drop, drop_of_length-le, take-append-drop}
use Rattle.unit.specs.declared.Unit as U
use Rattle.console.specs.declared.Contents.{Contents as Console}
use Rattle.unit.specs.Status.{status_of}
use Rattle.text.specs.Text.{NEWLINE, status_text}
use Rattle.console.specs.Lines.{ended_after, rest_after, ended, lines_of}
use Rattle.console.specs.Transcript.{answers, unit_after_all, printed_all, text_of, transcript}
use Rattle.console.specs.Held.{HELD}
use Rattle.console.specs.State.{new_console, console_after, text_after}
use Rattle.console.specs.Stands.{Stands}
use Rattle.console.specs.Finish.{nothing_held, final_text}
use Rattle.console.specs.Given.{ShownThere}
use Rattle.text.specs.bounds.Room.{STATUS}
use Rattle.console.specs.Feed.{takes, taken_bytes}
use Rattle.console.specs.Pieces.{joined, written_in, Lent, taken_by, taken_by_all, roomy, enough, comes, WhateverPieces, WhateverRooms, GoesOn}
use Rattle.console.proofs.FeedLaws.{takes_some}
use Rattle.console.proofs.StandLaws.{stands_new, none_held, stands_after}
use Rattle.console.proofs.FinishLaws.{final_transcript}

from : (c : Console) (u : U.Unit) (before : List ℕ) (pieces : List (List ℕ)) → Stands c u before
    → text_of u before ++ written_in c pieces ≡ transcript u (before ++ joined pieces)
from c u before [] s = final_transcript c u before s ∙ ap (transcript u) (sym (append-nil before))
from c u before (piece ∷ pieces) s =
    let more = stands_after c u before piece s in
    sym (append_assoc (text_of u before) (text_after c piece) (written_in (console_after c piece) pieces))
    ∙ ap (λ (t : List ℕ). t ++ written_in (console_after c piece) pieces) (sym more.1)
    ∙ from (console_after c piece) u (before ++ piece) pieces more.0
    ∙ ap (transcript u) (append_assoc before piece (joined pieces))

pub pieces : WhateverPieces
unfolding ended_after
pieces u ps = from (new_console u) u [] ps (stands_new u)

-- ---- outputs of whatever length

-- a call takes a byte or more, while there is one
fewer_left : (c : Console) (input : List ℕ) (room n : ℕ) → STATUS ≤ room → length input ≤ suc n → length (drop (takes c input room) input) ≤ n
unfolding takes
fewer_left c [] room n h k = omega arith
fewer_left c (x ∷ xs) room n h k =
    let some = takes_some c (x ∷ xs) room (omega arith) h in
    rw (length-drop (takes c (x ∷ xs) room) (x ∷ xs)) (omega arith)

all_taken : (c : Console) (piece rooms : List ℕ) → roomy rooms ≡ true → length piece ≤ length rooms → joined (taken_by c piece rooms) ≡ piece
all_taken c piece [] r k = sym (drop_of_length-le piece k)
all_taken c piece (room ∷ more) r k =
    let left = drop (takes c piece room) piece in
    let both = and_both (leb STATUS room) (roomy more) r in
    let fewer = fewer_left c piece room (length more) (leb-true STATUS room both.0) k in
    let rest = all_taken (console_after c (taken_bytes c piece room)) left more both.1 fewer in
    ap (λ (t : List ℕ). taken_bytes c piece room ++ t) rest ∙ take-append-drop (takes c piece room) piece

joined_append : (ps qs : List (List ℕ)) → joined (ps ++ qs) ≡ joined ps ++ joined qs
joined_append [] qs = refl
joined_append (p ∷ ps) qs = ap (λ (t : List ℕ). p ++ t) (joined_append ps qs) ∙ sym (append_assoc p (joined ps) (joined qs))

all_lent : (c : Console) (lent : List Lent) → enough lent ≡ true → joined (taken_by_all c lent) ≡ comes lent
all_lent c [] e = refl
all_lent c (l ∷ more) e =
    let taken = taken_by c l.piece l.rooms in
    let d = console_after c (joined taken) in
    let fits = leb (length l.piece) (length l.rooms) in
    let both = and_both (roomy l.rooms && fits) (enough more) e in
    let here = and_both (roomy l.rooms) fits both.0 in
    joined_append taken (taken_by_all d more)
    ∙ ap₂ (λ (a b : List ℕ). a ++ b) (all_taken c l.piece l.rooms here.0 (leb-true (length l.piece) (length l.rooms) here.1)) (all_lent d more both.1)

pub rooms : WhateverRooms
rooms u lent e = pieces u (taken_by_all (new_console u) lent) ∙ ap (transcript u) (all_lent (new_console u) lent e)

-- ---- a console that holds no part of a line

stands_anew : (c : Console) (u : U.Unit) (before : List ℕ) → Stands c u before → nothing_held c ≡ true → Stands c c.unit []
unfolding ended_after rest_after
stands_anew c u before s n =
    record { unit = refl; part = none_held c.part (eqb-true (length c.part) 0 n) }

pub goes_on : GoesOn
unfolding ended_after
goes_on c u before more s n =
    let d = console_after c more in
    let all = stands_after c u before more s in
    let rest = stands_after c c.unit [] more (stands_anew c u before s n) in
    sym (final_transcript d u (before ++ more) all.0)
    ∙ ap (λ (t : List ℕ). t ++ final_text d) all.1
    ∙ append_assoc (text_of u before) (text_after c more) (final_text d)
    ∙ ap (λ (t : List ℕ). text_of u before ++ t) (ap (λ (t : List ℕ). t ++ final_text d) (sym rest.1) ∙ final_transcript d c.unit more rest.0)

-- ---- an empty line

pub shown_there : ShownThere
unfolding ended_after rest_after
shown_there u before more e =
    let c = console_after (new_console u) before in
    let s = (stands_after (new_console u) u [] before (stands_new u)).0 in
    let v = unit_after_all u (ended before) in
    let status = status_text (status_of v) in
    let nothing : length c.part ≡ 0 = ap length (s.part ∙ ap (take HELD) e) in
    goes_on c u before (NEWLINE ∷ more) s (eq-eqb (length c.part) 0 nothing)
    ∙ rw (s.unit, e, append-nil (ended before), append_assoc (text_of u before) status (transcript v more), append_assoc status (printed_all (answers v (lines_of more))) (status_text (status_of (unit_after_all v (lines_of more)))))
