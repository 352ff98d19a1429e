-- The run a chart shows is the shortest of the highest sum. One more sample keeps that: it adds x to each run that ends last, and the run of
-- this sample alone joins them with the sum x, as one whose earlier part has the sum 0. A value above 0 was never raised, so it is a sum.
use mathlib.Core.Path.{◌≡◌, refl, ap, sym, ◌∙◌}
use mathlib.Core.Bool.{Bool, true, false, cond}
use mathlib.Core.Logic.{⊎_elim}
use Prim.Native.Nat.{ℕ, zero, suc, ◌≤◌, ◌<◌, zero-le}
use native.Mathlib.Nat.{eq-or-lt_of_le}
use native.Mathlib.Omega.{arith}
use borrow.Author.Tests.{le-ltb}
use lib.IntN.{ℤ, pos, negsuc, ◌+ℤ◌, +ℤ_idl}
use lib.Signed.{◌≤ℤ◌, ◌<ℤ◌, ≤ℤ_refl}
use Rattle.laws.proofs.Order.{up, dn, zarith, plus, canon}
use Rattle.grounds.specs.Chart.{raised, spent, next_value, next_first}
use Rattle.grounds.specs.Run.{Run}

-- `s n` is the sum of the run from n to the last sample, the k-th
pub record Best (k : ℕ) (s : ℕ → ℤ) (value : ℤ) (first : ℕ) : Type 0 where
  pub least : 2 ≤ k → pos 0 ≤ℤ value
  pub run : 1 ≤ k → Run k first k
  pub only : k ≡ 1 → s first ≡ value
  pub sums : pos 0 <ℤ value → s first ≡ value
  pub highest : (n : ℕ) → Run k n k → s n ≤ℤ value
  pub shortest : (n : ℕ) → Run k n k → pos 0 <ℤ value → s n ≡ value → n ≤ first

raised_up : (z : ℤ) → up (raised z) ≡ up z
raised_up (pos n) = ap (λ (t : Bool). up (cond t (pos 0) (pos n))) (le-ltb n 0 zero-le)
raised_up (negsuc n) = refl

raised_dn : (z : ℤ) → dn (raised z) ≡ 0
raised_dn (pos n) = ap (λ (t : Bool). dn (cond t (pos 0) (pos n))) (le-ltb n 0 zero-le)
raised_dn (negsuc n) = refl

pub none : (s : ℕ → ℤ) → Best 0 s (pos 0) 0
none s = record {
  least = λ h. omega zarith;
  run = λ h. absurd (omega arith);
  only = λ e. absurd (omega arith);
  sums = λ h. absurd (omega zarith);
  highest = λ n r. absurd (omega arith);
  shortest = λ n r h. absurd (omega zarith);
}

-- a sum moves with the value, and a value above 0 was not raised
keeps_below : (a v x : ℤ) → a ≤ℤ v → (a +ℤ x) ≤ℤ raised (v +ℤ x)
keeps_below a v x h = omega (zarith, plus a x, plus v x, raised_up (v +ℤ x), raised_dn (v +ℤ x), canon (v +ℤ x))

keeps_equal : (a v x : ℤ) → a ≡ v → pos 0 <ℤ raised (v +ℤ x) → a +ℤ x ≡ raised (v +ℤ x)
keeps_equal a v x e h = omega (zarith, plus a x, plus v x, raised_up (v +ℤ x), raised_dn (v +ℤ x), canon (v +ℤ x))

was_equal : (a v x : ℤ) → a +ℤ x ≡ raised (v +ℤ x) → pos 0 <ℤ raised (v +ℤ x) → a ≡ v
was_equal a v x e h = omega (zarith, plus a x, plus v x, raised_up (v +ℤ x), raised_dn (v +ℤ x), canon (v +ℤ x))

raised_least : (z : ℤ) → pos 0 ≤ℤ raised z
raised_least z = omega (zarith, raised_dn z)

-- the first sample is the only run
at_first : (t : ℕ → ℤ) (x : ℤ) → t 1 ≡ x → Best 1 t x 1
at_first t x e = record {
  least = λ h. absurd (omega arith);
  run = λ h. record { one = omega arith; not_two = omega arith; order = omega arith; within = omega arith };
  only = λ h. e;
  sums = λ h. e;
  highest = λ n r. (let q : n ≡ 1 = omega arith in rw (q, e) (≤ℤ_refl x));
  shortest = λ n r h q. omega arith;
}

-- the second lengthens it
at_second : (s t : ℕ → ℤ) (v x : ℤ) (f : ℕ) → t 1 ≡ s 1 +ℤ x → Best 1 s v f → Best 2 t (raised (v +ℤ x)) 1
at_second s t v x f e b =
    let start : f ≡ 1 = omega (arith, b.run (omega arith)) in
    let was : s 1 ≡ v = rw start at (b.only refl) in
    record {
      least = λ h. raised_least (v +ℤ x);
      run = λ h. record { one = omega arith; not_two = omega arith; order = omega arith; within = omega arith };
      only = λ h. absurd (omega arith);
      sums = λ h. e ∙ keeps_equal (s 1) v x was h;
      highest = λ n r. (let q : n ≡ 1 = omega arith in rw (q, e) (keeps_below (s 1) v x (omega zarith)));
      shortest = λ n r h q. omega arith;
    }

-- a later one lengthens each run, or starts one where nothing was left
module _ (k : ℕ) (s t : ℕ → ℤ) (v x : ℤ) (f : ℕ) (later : 2 ≤ k) (more : (n : ℕ) → n ≤ suc k → t n ≡ s n +ℤ x) (fresh : s (suc k) ≡ pos 0) (b : Best k s v f) where
  -- the sums before this sample, the new run's 0 among them, were at most the value
  below : (n : ℕ) → Run (suc k) n (suc k) → s n ≤ℤ v
  below n r = ⊎_elim
      (λ (e : n ≡ suc k). rw (e, fresh) (b.least later))
      (λ (h : n < suc k). b.highest n (record { one = r.one; not_two = r.not_two; order = omega arith; within = omega arith }))
      (eq-or-lt_of_le r.order)

  from : (z : Bool) → spent v ≡ z → Best (suc k) t (raised (v +ℤ x)) (cond z (suc k) f)
  from true e = record {
    least = λ h. raised_least (v +ℤ x);
    run = λ h. record { one = omega arith; not_two = omega arith; order = omega arith; within = omega arith };
    only = λ h. absurd (omega arith);
    sums = λ h. more (suc k) (omega arith) ∙ keeps_equal (s (suc k)) v x (fresh ∙ let q = b.least later in omega zarith) h;
    highest = λ n r. rw (more n r.order) (keeps_below (s n) v x (below n r));
    shortest = λ n r h q. r.order;
  }
  from false e = record {
    least = λ h. raised_least (v +ℤ x);
    run = λ h. (let r = b.run (omega arith) in record { one = r.one; not_two = r.not_two; order = omega arith; within = omega arith });
    only = λ h. absurd (omega arith);
    sums = λ h. more f (omega (arith, b.run (omega arith))) ∙ keeps_equal (s f) v x (b.sums (omega zarith)) h;
    highest = λ n r. rw (more n r.order) (keeps_below (s n) v x (below n r));
    shortest = λ n r h q. let was : s n ≡ v = was_equal (s n) v x (sym (more n r.order) ∙ q) h in ⊎_elim
        (λ (i : n ≡ suc k). let none : s n ≡ pos 0 = rw i fresh in absurd (omega zarith))
        (λ (i : n < suc k). b.shortest n (record { one = r.one; not_two = r.not_two; order = omega arith; within = omega arith }) (omega zarith) was)
        (eq-or-lt_of_le r.order);
  }

pub next : (k : ℕ) (s t : ℕ → ℤ) (v x : ℤ) (f : ℕ) → ((n : ℕ) → n ≤ suc k → t n ≡ s n +ℤ x) → s (suc k) ≡ pos 0
    → Best k s v f → Best (suc k) t (next_value k v x) (next_first k v f)
unfolding next_value next_first
next zero s t v x f more fresh b = at_first t (next_value zero v x) (more 1 (omega arith) ∙ ap (λ (z : ℤ). z +ℤ x) fresh ∙ +ℤ_idl x)
next (suc zero) s t v x f more fresh b = at_second s t v x f (more 1 (omega arith)) b
next (suc (suc k)) s t v x f more fresh b = from (suc (suc k)) s t v x f (omega arith) more fresh b (spent v) refl
