-- What a unit keeps of the steps since the last admission: the charts, the misses and the counts are those of the entries, and probation was opened
-- exactly where a ground stands. Kept by a miss and by a sample, and started anew by admission. Assumes nothing.
use Prim.Native.Nat.{ℕ, ◌*◌, ◌-◌, ◌≤◌, ◌<◌}
use mathlib.Core.Path.{◌≡◌, refl, sym, ap, ap₂, ◌∙◌}
use mathlib.Core.Bool.{Bool, true, false, cond, not, ◌&&◌, ◌||◌, or-false, or-true, or_assoc, false≢true}
use mathlib.Core.List.{List, [], ◌∷◌, ◌++◌, append-nil, append_assoc}
use native.Mathlib.Omega.{arith}
use borrow.Author.Tests.{ltb-false, not-false}
use lib.Dec.{eqb}
use lib.IntN.{ℤ, pos}
use lib.Signed.{◌≤ℤ◌}
use lib.ListN.{length}
use Rattle.difference.specs.declared.constants.Constants.{Constants}
use Rattle.grounds.specs.Chart.{over}
use Rattle.grounds.specs.Entry.{Entry, misses, missed as aMiss, sample, years, counts}
use Rattle.grounds.specs.Earlier.{again, no_counts, is_broken}
use Rattle.grounds.specs.Miss.{APART}
use Rattle.grounds.proofs.Charted as G
use Rattle.grounds.proofs.Entry.{years_missed, years_sample}
use Rattle.grounds.proofs.Years.{Ordered, ordered_none, ordered_more}
use Rattle.grounds.proofs.Missed.{Missed, missed_none, missed_missed, missed_sample}
use Rattle.grounds.proofs.Counted.{Counted, counted_none, counted_missed, counted_sample}
use Rattle.laws.proofs.Bools.{or_neither, and_fails}
use Rattle.laws.proofs.EachLaws.{each_length, any_none, none_any}
use Rattle.laws.proofs.Gathered.{with_one_more}
use Rattle.laws.proofs.Order.{zarith}
use Rattle.seen.specs.Rules.{Rules}
use Rattle.difference.specs.Contribution.{CHARTS}
use Rattle.unit.specs.Charts.{charts_in, contribution_to, is_over, limit}
use Rattle.unit.specs.Claim.{Step, is_accepted, opens, opened_in, is_misidentification, misidentified_in, entry_by, entry_of, entry_in, entries_of}
use Rattle.unit.specs.Stretch.{no_samples, sampled_of, chart_at, any_over}
use Rattle.unit.specs.Take.{no_misses, taken_as, missed_by, latest_after, sample_by}
use Rattle.unit.specs.bounds.Numbers.{GoodSeen}
use Rattle.unit.specs.declared.Contents as U
use Rattle.unit.specs.declared.Misses.{Misses}
use Rattle.unit.specs.declared.chart.Chart.{Chart}
use Rattle.reply.specs.Event.{Event, event_byte}
use Rattle.reply.specs.Stage.{is_accredited}
use Rattle.reply.specs.declared.stage.Stage.{Stage}
use Rattle.reply.specs.declared.stage.Stage.TheVariants.{Applicant, Second, Accredited, Probation, Closed}
use Rattle.reply.specs.declared.event.Event.TheVariants.{Sample, Missed as MissedLine, ByCharts, ByMisses, ByMisidentifications}
use Rattle.seen.specs.declared.Seen.{Seen}
use Rattle.unit.specs.declared.stretch.Stretch.{Stretch}
use Rattle.unit.proofs.Sound.{Sound}
use Rattle.unit.proofs.Taking.{Open}
use Rattle.unit.proofs.View.{view, empty_at, moves, low}

-- a ground stands
abbrev pub ground : Constants → U.Contents → Bool
ground c u = u.misses.opened || is_broken u.latest || any_over c u.stretch.charts

pub record Kept (g : Rules) (u : U.Contents) (h : List Step) : Type 0 where
  pub charted : G.Charted (charts_in g.constants) (limit g.constants) (entries_of g h) (view u.stretch)
  pub room : length u.stretch.charts ≡ CHARTS
  pub missed_kept : Missed (misses (entries_of g h)) u.misses.last u.misses.opened
  pub counted : Counted (counts (entries_of g h)) u.latest
  pub named : misidentified_in h ≡ is_broken u.latest
  pub ordered : Ordered (years (entries_of g h)) u.stretch.year
  pub opened : opened_in h ≡ ground g.constants u
  pub calm : u.stage ≡ Accredited → ground g.constants u ≡ false
  pub year : 12 * u.stretch.year ≤ u.month - 1
  pub miss : u.misses.last ≤ u.month

-- no chart of a new stretch is over
not_over : (limit : ℤ) → pos 0 ≤ℤ limit → over limit (pos 0) ≡ false
not_over limit h = omega zarith

none_over : (c : Constants) → any_over c no_samples.charts ≡ false
none_over c =
    none_any (charts_in c) (λ (n : ℕ). is_over c n (chart_at no_samples.charts n)) (λ n h. ap (is_over c n) (empty_at n) ∙ not_over (limit c n) (low c n h))

-- ---- one more step

abbrev pub step : List ℕ → Event → Step
step line e = record { line = line; event = e }

opened_more : (h : List Step) (x : Step) → opened_in (h ++ x ∷ []) ≡ (opened_in h || opens x.event)
opened_more = with_one_more ◌||◌ false (λ b. refl) or-false or_assoc (λ (x : Step). opens x.event) opened_in refl (λ x h. refl)

pub named_more : (h : List Step) (x : Step) → misidentified_in (h ++ x ∷ []) ≡ (misidentified_in h || is_misidentification x.event)
named_more = with_one_more ◌||◌ false (λ b. refl) or-false or_assoc (λ (x : Step). is_misidentification x.event) misidentified_in refl (λ x h. refl)

-- an event 08 opens probation
abbrev others : Event → Bool
others e = eqb (event_byte e) 6 || eqb (event_byte e) 7

pub names_opens : (e : Event) → is_misidentification e ≡ true → opens e ≡ true
names_opens e p = ap (λ (b : Bool). others e || b) p ∙ or-true (others e)

quiet_names : (e : Event) → opens e ≡ false → is_misidentification e ≡ false
quiet_names e o = (or_neither (others e) (is_misidentification e) o).1

module _ (g : Rules) where
  abbrev c : Constants
  c = g.constants

  entries_more : (h : List Step) (x : Step) → entries_of g (h ++ x ∷ []) ≡ entries_of g h ++ entry_in g x
  entries_more = with_one_more ◌++◌ [] (λ es. refl) append-nil append_assoc (entry_in g) (entries_of g) refl (λ x h. refl)

  no_entry : (h : List Step) (x : Step) → entry_in g x ≡ [] → entries_of g (h ++ x ∷ []) ≡ entries_of g h
  no_entry h x e = entries_more h x ∙ ap (λ (es : List Entry). entries_of g h ++ es) e ∙ append-nil (entries_of g h)

  one_entry : (h : List Step) (x : Step) (a : Entry) → entry_in g x ≡ a ∷ [] → entries_of g (h ++ x ∷ []) ≡ entries_of g h ++ a ∷ []
  one_entry h x a e = entries_more h x ∙ ap (λ (es : List Entry). entries_of g h ++ es) e

  -- a step that leaves no entry and opens nothing, and leaves charts, misses and counts alone
  pub idle : (u v : U.Contents) (h : List Step) (x : Step) → entry_in g x ≡ [] → opens x.event ≡ false → v.stretch ≡ u.stretch → v.misses ≡ u.misses
      → v.latest ≡ u.latest → (v.stage ≡ Accredited → u.stage ≡ Accredited) → u.month ≤ v.month → Kept g u h → Kept g v (h ++ x ∷ [])
  idle u v h x e o s m n a l k = record {
    charted = rw (no_entry h x e, s) k.charted;
    room = rw s k.room;
    missed_kept = rw (no_entry h x e, m) k.missed_kept;
    counted = rw (no_entry h x e, n) k.counted;
    named = named_more h x ∙ ap₂ (λ (p q : Bool). p || q) k.named (quiet_names x.event o) ∙ or-false (is_broken u.latest) ∙ ap is_broken (sym n);
    ordered = rw (no_entry h x e, s) k.ordered;
    opened = opened_more h x ∙ ap₂ (λ (p q : Bool). p || q) k.opened o ∙ or-false (ground c u) ∙ sym same;
    calm = λ z. same ∙ k.calm (a z);
    year = rw s (omega (arith, k.year));
    miss = rw m (omega (arith, k.miss));
  }
    where
      same : ground c v ≡ ground c u
      same = rw (s, m, n)

  -- ---- admission starts anew

  pub fresh : (u : U.Contents) → u.stretch ≡ no_samples → u.misses ≡ no_misses → u.latest ≡ no_counts → Kept g u []
  fresh u s m n = record {
    charted = rw s (G.charted_none (charts_in c) (limit c) (view no_samples) refl (λ n h. ap (λ (k : Chart). k.value) (empty_at n)) (λ n h. ap (λ (k : Chart). k.first) (empty_at n)));
    room = rw s refl;
    missed_kept = rw m missed_none;
    counted = rw n counted_none;
    named = sym (ap is_broken n);
    ordered = rw s (ordered_none 0);
    opened = sym none;
    calm = λ _. none;
    year = rw s (omega arith);
    miss = rw m (omega arith);
  }
    where
      none : ground c u ≡ false
      none =
          ap₂ (λ (p : Misses) (q : List ℕ). p.opened || is_broken q || any_over c u.stretch.charts) m n
          ∙ ap (λ (t : Stretch). any_over c t.charts) s
          ∙ none_over c

  -- ---- an accepted maintenance line: the unit is accredited, so no ground stands

  record Calm (u : U.Contents) : Type 0 where
    unopened : u.misses.opened ≡ false
    unbroken : is_broken u.latest ≡ false
    over : any_over c u.stretch.charts ≡ false

  calm_in : (u : U.Contents) (h : List Step) → Kept g u h → u.stage ≡ Accredited → Calm u
  calm_in u h k a =
      let p = or_neither (u.misses.opened || is_broken u.latest) (any_over c u.stretch.charts) (k.calm a) in
      let q = or_neither u.misses.opened (is_broken u.latest) p.0 in
      record { unopened = q.0; unbroken = q.1; over = p.1 }

accredited : (stage : Stage) → is_accredited stage ≡ true → stage ≡ Accredited
accredited Applicant e = absurd (false≢true e)
accredited Second e = absurd (false≢true e)
accredited Accredited e = refl
accredited Probation e = absurd (false≢true e)
accredited Closed e = absurd (false≢true e)

stage_is : (u : U.Contents) (x : Seen) → Open u x → x.study ≡ false → u.stage ≡ Accredited
stage_is u x o k =
    let p = or_neither (not x.study && not (is_accredited u.stage)) (x.study && is_accredited u.stage) o.stage in
    accredited u.stage (not-false _ (and_fails (not x.study) (not (is_accredited u.stage)) (ap not k) p.0))

pub not_before : (u : U.Contents) (x : Seen) → Open u x → u.month ≤ x.month
not_before u x o = ltb-false x.month u.month o.backdated

-- ---- what a line that no row refuses does: x is what it is to the unit

module _ (g : Rules) (sound : Sound g) (u : U.Contents) (h : List Step) (line : List ℕ) (good : GoodSeen (g.seen line)) (o : Open u (g.seen line)) (K : Kept g u h) where
  abbrev x : Seen
  x = g.seen line

  later : u.month ≤ x.month
  later = not_before u x o

  -- the step of an accepted maintenance line
  entry_at : (e : Event) → is_accepted e ≡ true → x.study ≡ false → (b : Bool) → x.missed ≡ b → entry_in g (step line e) ≡ entry_by b g.constants x ∷ []
  entry_at e n k b m =
      ap (λ (p : Bool). cond p (entry_of g.constants x) []) n
      ∙ ap (λ (p : Bool). cond p [] (entry_by x.missed g.constants x ∷ [])) k
      ∙ ap (λ (p : Bool). entry_by p g.constants x ∷ []) m

  real : APART < x.month
  real = omega (arith, good.year, good.month)

  -- no ground stood before a maintenance line
  quiet : x.study ≡ false → Calm g u
  quiet k = calm_in g u h K (stage_is u x o k)

  unopened_before : x.study ≡ false → opened_in h ≡ false
  unopened_before k = K.opened ∙ K.calm (stage_is u x o k)

  -- a miss with event e, after which the stage is s, and by which misses are named or not
  missed_with : (e : Event) (s : Stage) (named : Bool) → is_accepted e ≡ true → is_misidentification e ≡ false → opens e ≡ named → (s ≡ Accredited → named ≡ false)
      → again u.misses.last x.month ≡ named → x.study ≡ false → x.missed ≡ true
      → Kept g (taken_as e u s x.month u.set u.stretch (record { last = x.month; opened = named }) u.latest).unit (h ++ step line e ∷ [])
  missed_with e s named y n p calm a k m =
      let es = one_entry g h (step line e) (aMiss x.month) (entry_at e y k true m) in
      let q = quiet k in
      let ground_is : (named || is_broken u.latest || any_over g.constants u.stretch.charts) ≡ named =
      ap₂ (λ (r t : Bool). named || r || t) q.unbroken q.over ∙ or-false (named || false) ∙ or-false named in
      record {
        charted = rw es (G.charted_missed (charts_in g.constants) (limit g.constants) (entries_of g h) (view u.stretch) x.month K.charted);
        room = K.room;
        missed_kept = rw es (rw a at (missed_missed (entries_of g h) u.misses.last x.month (rw q.unopened at K.missed_kept) (omega (arith, K.miss, later)) real));
        counted = rw es (counted_missed (entries_of g h) u.latest x.month K.counted);
        named = named_more h (step line e) ∙ ap₂ (λ (r t : Bool). r || t) K.named n ∙ or-false (is_broken u.latest);
        ordered = rw (es, years_missed (entries_of g h) x.month) K.ordered;
        opened = opened_more h (step line e) ∙ ap₂ (λ (r t : Bool). r || t) (unopened_before k) p ∙ sym ground_is;
        calm = λ z. ground_is ∙ calm z;
        year = omega (arith, K.year, later);
        miss = omega arith;
      }

  pub missed_step : (b : Bool) → again u.misses.last x.month ≡ b → x.study ≡ false → x.missed ≡ true
      → Kept g (missed_by b u x.month).unit (h ++ step line (missed_by b u x.month).event ∷ [])
  missed_step true a k m = missed_with ByMisses Probation true refl refl refl (λ (z : Probation ≡ Accredited). cc) a k m
  missed_step false a k m = rw (quiet k).unopened (missed_with MissedLine u.stage false refl refl refl (λ _. refl) a k m)

  later_year : u.stretch.year ≤ x.year
  later_year = omega (arith, K.year, later, good.december)

  -- what a sample leaves, and the entry it is
  abbrev t : Stretch
  t = sampled_of g.constants u.stretch x.year x.differences

  abbrev latest : List ℕ
  latest = latest_after u x

  abbrev entry : Entry
  entry = sample x.year x.count (contribution_to g.constants x.differences)

  -- a sample with event e, after which the stage is s
  sample_with : (e : Event) (s : Stage) → is_accepted e ≡ true → is_misidentification e ≡ is_broken latest → opens e ≡ (is_broken latest || any_over g.constants t.charts)
      → (s ≡ Accredited → (is_broken latest || any_over g.constants t.charts) ≡ false) → x.study ≡ false → x.missed ≡ false
      → Kept g (taken_as e u s x.month u.set t u.misses latest).unit (h ++ step line e ∷ [])
  sample_with e s y n p calm k m =
      let es = one_entry g h (step line e) entry (entry_at e y k false m) in
      let to = contribution_to g.constants x.differences in
      let q = quiet k in
      let ground_is : (u.misses.opened || is_broken latest || any_over g.constants t.charts) ≡ (is_broken latest || any_over g.constants t.charts) =
      ap (λ (r : Bool). r || is_broken latest || any_over g.constants t.charts) q.unopened in
      record {
        charted = rw es (G.charted_sample (charts_in g.constants) (limit g.constants) (low g.constants) (entries_of g h) (view u.stretch) K.charted
            (any_none (charts_in g.constants) (λ (n : ℕ). is_over g.constants n (chart_at u.stretch.charts n)) q.over) x.year x.count to later_year (view t)
            (moves g.constants sound.few u.stretch x.year x.differences K.room));
        room = each_length (charts_in g.constants) _ u.stretch.charts ∙ K.room;
        missed_kept = rw es (missed_sample (entries_of g h) u.misses.last u.misses.opened x.year x.count to K.missed_kept);
        counted = rw es (counted_sample (entries_of g h) u.latest x.year x.count to K.counted q.unbroken);
        named = named_more h (step line e) ∙ ap₂ (λ (r t : Bool). r || t) (K.named ∙ q.unbroken) n;
        ordered = rw (es, years_sample (entries_of g h) x.year x.count to) (ordered_more (years (entries_of g h)) u.stretch.year x.year K.ordered later_year);
        opened = opened_more h (step line e) ∙ ap₂ (λ (r t : Bool). r || t) (unopened_before k) p ∙ sym ground_is;
        calm = λ z. ground_is ∙ calm z;
        year = omega (arith, good.month);
        miss = omega (arith, K.miss, later);
      }

  pub sample_step : (a b : Bool) → is_broken latest ≡ a → any_over g.constants t.charts ≡ b → x.study ≡ false → x.missed ≡ false
      → Kept g (sample_by a b u x.month t latest).unit (h ++ step line (sample_by a b u x.month t latest).event ∷ [])
  sample_step true b p q k m =
      sample_with ByMisidentifications Probation refl (sym p) (sym (ap (λ (r : Bool). r || any_over g.constants t.charts) p)) (λ (z : Probation ≡ Accredited). cc) k m
  sample_step false true p q k m =
      sample_with ByCharts Probation refl (sym p) (sym (ap₂ (λ (r s : Bool). r || s) p q)) (λ (z : Probation ≡ Accredited). cc) k m
  sample_step false false p q k m =
      let none = ap₂ (λ (r s : Bool). r || s) p q in
      sample_with Sample u.stage refl (sym p) (sym none) (λ _. none) k m
