-- How a unit of residues differs from one of food chemistry: no line is a study line, and in every stage but 2 row 8 comes before row 9. Assumes nothing.
use Prim.Native.Nat.{ℕ}
use mathlib.Core.Path.{◌≡◌, refl, sym, ap, ap₂, ◌∙◌, subst}
use mathlib.Core.Bool.{Bool, true, false, cond, not, ◌&&◌, ◌||◌, and-false, true≢false}
use mathlib.Core.Logic.{◌↔◌}
use mathlib.Core.List.{List, [], ◌∷◌, ◌++◌, append-nil}
use native.Mathlib.Omega.{arith}
use borrow.Author.Tests.{le-ltb}
use lib.Dec.{eqb}
use lib.Seq.{append_snoc}
use Rattle.difference.specs.Contribution.{residue}
use Rattle.difference.specs.declared.category.Category.{Category}
use Rattle.difference.specs.declared.category.Category.TheVariants.{Residue}
use Rattle.grounds.specs.Earlier.{again, is_broken}
use Rattle.laws.proofs.Bools.{or_neither}
use Rattle.reply.specs.Event.{Event, event_byte, event_row}
use Rattle.reply.specs.declared.event.Event.TheVariants.{Refused}
use Rattle.std.specs.Prelude.{Result, Ok, Err, ⊤}
use Rattle.laws.proofs.Results.{same_err}
use Rattle.reply.specs.Stage.{is_accredited}
use Rattle.reply.specs.declared.stage.Stage.{Stage}
use Rattle.reply.specs.declared.stage.Stage.TheVariants.{Accredited, Probation}
use Rattle.rows.specs.Refusal.{number_of}
use Rattle.rows.specs.declared.refusal.Refusal.{Refusal}
use Rattle.rows.specs.declared.refusal.Refusal.TheVariants.{Closed as ClosedRow, Stage as StageRow, Backdated, Gap, Full, Compound}
use Rattle.rows.specs.Rows.{first_row, has_number, has_number_by}
use Rattle.rows.proofs.RowsLaws.{first_has, first_of_both, first_of_one}
use Rattle.seen.specs.declared.Seen.{Seen}
use Rattle.seen.specs.Rules.{Rules, residues_of, rules_of}
use Rattle.unit.specs.Claim.{Step, history_from, history, is_accepted, is_admission, opens, opened_in, since_from}
use Rattle.unit.specs.ResidueUnit.{OfResidues, FirstTaken, RowsNever, of_set, SetsNever, StartAdmits, StageIs, ClosedAfter}
use Rattle.unit.specs.Reached.{after, replay}
use Rattle.unit.specs.Status.{status_by}
use Rattle.unit.specs.Stretch.{any_over, sampled_of}
use Rattle.unit.specs.Take.{backdated_row, full_row, unit_rows, missed_by, latest_after, sample_by, accepted_by, taken_by_row, rows_in, taken_in, taken_of, new_of}
use Rattle.unit.specs.Taken.{Taken}
use Rattle.unit.specs.declared.Contents as U
use Rattle.unit.specs.declared.stretch.Stretch.{Stretch}
use Rattle.unit.proofs.Refusals.{leaves, category_kept}
use Rattle.unit.proofs.Within.{category_is}

-- a row that is neither 9 nor 11
abbrev Other : Result ⊤ Refusal → Type 0
Other n = (n ≡ Err StageRow → ⊥) × (n ≡ Err Gap → ⊥)

-- rows 8 to 12 of a line that is no study line, by whether the unit is accredited
abbrev by_stage : Bool → Bool → Bool → Result ⊤ Refusal
by_stage accredited back full =
    cond (not accredited) (Err ClosedRow)
    (cond ((true && not accredited) || (false && accredited)) (Err StageRow) (cond back (Err Backdated) (cond false (Err Gap) (cond full (Err Full) (Ok tt)))))

other_by : (accredited back full : Bool) → Other (by_stage accredited back full)
other_by false back full = (λ e. cc, λ e. cc)
other_by true true full = (λ e. cc, λ e. cc)
other_by true false true = (λ e. cc, λ e. cc)
other_by true false false = (λ e. cc, λ e. cc)

missed_event : (b : Bool) (u : U.Contents) (m : ℕ) → of_set (missed_by b u m).event ≡ false
missed_event true u m = refl
missed_event false u m = refl

sample_event : (a b : Bool) (u : U.Contents) (m : ℕ) (s : Stretch) (latest : List ℕ) → of_set (sample_by a b u m s latest).event ≡ false
sample_event true b u m s latest = refl
sample_event false true u m s latest = refl
sample_event false false u m s latest = refl

module _ (compound : ℕ) (u : U.Contents) (of : OfResidues compound u) (line : List ℕ) where
  abbrev g : Rules
  g = residues_of compound

  abbrev x : Seen
  x = g.seen line

  taken_is : taken_of u line ≡ taken_in g u line
  taken_is = ap (λ (k : Category). taken_in (rules_of k) u line) of

  unit_rows_lem : first_row (unit_rows u x) ≡ by_stage (is_accredited u.stage) (backdated_row u x) (full_row u x)
  unfolding first_row
  unit_rows_lem = rw of

  -- ---- rows 9 and 11

  not_read : (n : Refusal) → first_row (g.rows line) ≡ Err n → Other (Err n)
  unfolding has_number_by
  not_read n e = (
    λ k. true≢false (sym (subst (λ (m : Refusal). has_number (number_of m) (g.rows line) ≡ true) (same_err n StageRow k) (first_has number_of (g.rows line) n e))),
    λ k. true≢false (sym (subst (λ (m : Refusal). has_number (number_of m) (g.rows line) ≡ true) (same_err n Gap k) (first_has number_of (g.rows line) n e))),
  )

  row_other : Other (first_row (rows_in g u line))
  row_other = go (first_row (g.rows line)) refl
    where
      go : (n : Result ⊤ Refusal) → first_row (g.rows line) ≡ n → Other (first_row (rows_in g u line))
      go (Ok none) e =
          subst Other (sym (first_of_both (g.rows line) (unit_rows u x) e ∙ unit_rows_lem))
          (other_by (is_accredited u.stage) (backdated_row u x) (full_row u x))
      go (Err n) e = subst Other (sym (first_of_one (g.rows line) (unit_rows u x) n e)) (not_read n e)

  -- a refusal is the row's
  refused_row : (n : Result ⊤ Refusal) (k : Refusal) → (taken_by_row n residue u x).event ≡ Refused k → n ≡ Err k
  refused_row (Ok none) k e = absurd (true≢false (sym (ap (λ (v : Event). eqb (event_byte v) 0) e) ∙ (leaves residue u x).event))
  refused_row (Err n) k e = ap event_row e

  pub never_row : (k : Refusal) → (first_row (rows_in g u line) ≡ Err k → ⊥) → (taken_of u line).event ≡ Refused k → ⊥
  unfolding taken_in
  never_row k other e = other (refused_row (first_row (rows_in g u line)) k (ap (λ t. t.event) (sym taken_is) ∙ e))

  -- ---- no set

  accepted_event : (b : Bool) → of_set (accepted_by false b residue u x).event ≡ false
  accepted_event true = missed_event (again u.misses.last x.month) u x.month
  accepted_event false =
      let s = sampled_of residue u.stretch x.year x.differences in
      let latest = latest_after u x in
      sample_event (is_broken latest) (any_over residue s.charts) u x.month s latest

  event_by : (n : Result ⊤ Refusal) → of_set (taken_by_row n residue u x).event ≡ false
  event_by (Ok none) = accepted_event x.missed
  event_by (Err n) = refl

  pub no_set : of_set (taken_of u line).event ≡ false
  unfolding taken_in
  no_set = ap (λ t. of_set t.event) taken_is ∙ event_by (first_row (rows_in g u line))

  -- ---- the stage

  -- a line that opens probation leads to 3, and any other leaves the stage
  abbrev Leads : Taken → Type 0
  Leads t = t.unit.stage ≡ cond (opens t.event) Probation u.stage

  missed_leads : (b : Bool) (m : ℕ) → Leads (missed_by b u m)
  missed_leads true m = refl
  missed_leads false m = refl

  sample_leads : (a b : Bool) (m : ℕ) (s : Stretch) (latest : List ℕ) → Leads (sample_by a b u m s latest)
  sample_leads true b m s latest = refl
  sample_leads false true m s latest = refl
  sample_leads false false m s latest = refl

  accepted_leads : (b : Bool) → Leads (accepted_by false b residue u x)
  accepted_leads true = missed_leads (again u.misses.last x.month) x.month
  accepted_leads false =
      let s = sampled_of residue u.stretch x.year x.differences in
      let latest = latest_after u x in
      sample_leads (is_broken latest) (any_over residue s.charts) x.month s latest

  leads_by : (n : Result ⊤ Refusal) → Leads (taken_by_row n residue u x)
  leads_by (Ok none) = accepted_leads x.missed
  leads_by (Err n) = refl

  pub stage_step : Leads (taken_of u line)
  unfolding taken_in
  stage_step = subst Leads (sym taken_is) (leads_by (first_row (rows_in g u line)))

  -- ---- row 8 fits a line that reads exactly where the stage is not 2

  not_eight : (back full : Bool) → by_stage true back full ≡ Err ClosedRow → ⊥
  not_eight true full e = cc
  not_eight false true e = cc
  not_eight false false e = cc

  eight_by : (accredited : Bool) → (by_stage accredited (backdated_row u x) (full_row u x) ≡ Err ClosedRow) ↔ (accredited ≡ false)
  eight_by true = (λ e. absurd (not_eight (backdated_row u x) (full_row u x) e), λ e. absurd (true≢false e))
  eight_by false = (λ _. refl, λ _. refl)

  pub closed_where : first_row (g.rows line) ≡ Ok tt → ((taken_of u line).event ≡ Refused ClosedRow) ↔ (is_accredited u.stage ≡ false)
  unfolding taken_in
  closed_where e =
      let rows : first_row (rows_in g u line) ≡ by_stage (is_accredited u.stage) (backdated_row u x) (full_row u x) =
      first_of_both (g.rows line) (unit_rows u x) e ∙ unit_rows_lem in
      let by = eight_by (is_accredited u.stage) in (
        λ v. by.0 (sym rows ∙ refused_row (first_row (rows_in g u line)) ClosedRow (ap (λ (t : Taken). t.event) (sym taken_is) ∙ v)),
        λ z. ap (λ (t : Taken). t.event) taken_is ∙ ap (λ (n : Result ⊤ Refusal). (taken_by_row n residue u x).event) (rows ∙ by.1 z),
      )

pub rows_never : RowsNever
rows_never compound u of line =
    let o = row_other compound u of line in
    (never_row compound u of line StageRow o.0, never_row compound u of line Gap o.1)

pub sets_never : SetsNever
sets_never = no_set

-- ---- over the list

once_opened : (a b : Bool) (stage : Stage) → cond b Probation (cond a Probation stage) ≡ cond (a || b) Probation stage
once_opened true true stage = refl
once_opened true false stage = refl
once_opened false b stage = refl

stage_after : (compound : ℕ) (u : U.Contents) → OfResidues compound u → (ls : List (List ℕ)) → (after u ls).stage ≡ cond (opened_in (history_from u ls)) Probation u.stage
stage_after compound u of [] = refl
stage_after compound u of (l ∷ ls) =
    let v = (taken_of u l).unit in
    stage_after compound v (category_kept (rules_of u.category) u l ∙ of) ls
    ∙ ap (λ (s : Stage). cond (opened_in (history_from v ls)) Probation s) (stage_step compound u of l)
    ∙ once_opened (opens (taken_of u l).event) (opened_in (history_from v ls)) u.stage

pub stage_is : StageIs
unfolding status_by
stage_is compound ls = stage_after compound (new_of (Residue compound)) refl ls

out_of_two : (opened : Bool) → (is_accredited (cond opened Probation Accredited) ≡ false) ↔ (opened ≡ true)
out_of_two true = (λ _. refl, λ _. refl)
out_of_two false = (λ e. absurd (true≢false e), λ e. absurd (true≢false (sym e)))

pub closed_after : ClosedAfter
closed_after compound ls line e =
    let k = Residue compound in
    let u = replay k ls in
    let c = closed_where compound u (category_is k ls) line e in
    let s = ap is_accredited (stage_after compound (new_of k) refl ls) in
    let o = out_of_two (opened_in (history k ls)) in
    (λ v. o.0 (sym s ∙ c.0 v), λ t. c.1 (s ∙ o.1 t))

-- ---- the first line is taken

none_fits : (compound : ℕ) (line : List ℕ) → first_row (unit_rows (new_of (Residue compound)) ((residues_of compound).seen line)) ≡ Ok tt
none_fits compound line =
    let u = new_of (Residue compound) in
    let x = (residues_of compound).seen line in
    let full : full_row u x ≡ false = ap (λ (b : Bool). not x.missed && b) (and-false (eqb x.year 0)) ∙ and-false (not x.missed) in
    unit_rows_lem compound u refl line ∙ ap₂ (by_stage true) (le-ltb x.month 0 (omega arith)) full

new_taken : (compound : ℕ) (line : List ℕ) → first_row ((residues_of compound).rows line) ≡ Ok tt → is_accepted (taken_of (new_of (Residue compound)) line).event ≡ true
unfolding taken_in
new_taken compound line e =
    let u = new_of (Residue compound) in
    let g = residues_of compound in
    let z : first_row (rows_in g u line) ≡ Ok tt = first_of_both (g.rows line) (unit_rows u (g.seen line)) e ∙ none_fits compound line in
    ap (λ (n : Result ⊤ Refusal). is_accepted (taken_by_row n residue u (g.seen line)).event) z ∙ ap not (leaves residue u (g.seen line)).event

pub first_taken : FirstTaken
first_taken compound is =
    let u = new_of (Residue compound) in
    (u, ap (λ (b : Bool). cond b (Err Compound) (Ok u)) is, new_taken compound)

-- ---- the start is the admission

no_admission : (compound : ℕ) (u : U.Contents) → OfResidues compound u → (line : List ℕ) → is_admission (taken_of u line).event ≡ false
no_admission compound u of line =
    let e = (taken_of u line).event in
    (or_neither (eqb (event_byte e) 3) (eqb (event_byte e) 4) (or_neither (eqb (event_byte e) 3 || eqb (event_byte e) 4) (eqb (event_byte e) 5) (no_set compound u of line)).0).1

since_all : (compound : ℕ) (u : U.Contents) → OfResidues compound u → (kept : List Step) (ls : List (List ℕ)) → since_from kept (history_from u ls) ≡ kept ++ history_from u ls
since_all compound u of kept [] = sym (append-nil kept)
since_all compound u of kept (l ∷ ls) =
    let v = (taken_of u l).unit in
    let s : Step = record { line = l; event = (taken_of u l).event } in
    ap (λ (b : Bool). since_from (cond b [] (kept ++ s ∷ [])) (history_from v ls)) (no_admission compound u of l)
    ∙ since_all compound v (category_kept (rules_of u.category) u l ∙ of) (kept ++ s ∷ []) ls
    ∙ append_snoc kept s (history_from v ls)

pub start_admits : StartAdmits
start_admits compound ls = since_all compound _ refl [] ls
