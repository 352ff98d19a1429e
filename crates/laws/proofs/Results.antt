-- An `Ok` is no `Err`, and two that are equal hold the same.
use mathlib.Core.Path.{◌≡◌, ap}
use mathlib.Core.Bool.{false≢true}
use Rattle.std.specs.Prelude.{Result, Ok, Err, is_err}

pub ok_is_no_err : {A E : Type 0} (a : A) (e : E) → ◌≡◌ {A = Result A E} (Ok a) (Err e) → ⊥
ok_is_no_err a e p = false≢true (ap is_err p)

err_or : {A E : Type 0} → E → Result A E → E
err_or d (Ok a) = d
err_or d (Err e) = e

pub same_err : {A E : Type 0} (d e : E) → ◌≡◌ {A = Result A E} (Err d) (Err e) → d ≡ e
unfolding err_or
same_err d e p = ap (err_or d) p

ok_or : {A E : Type 0} → A → Result A E → A
ok_or d (Ok a) = a
ok_or d (Err e) = d

pub same_ok : {A E : Type 0} (a b : A) → ◌≡◌ {A = Result A E} (Ok a) (Ok b) → a ≡ b
unfolding ok_or
same_ok a b p = ap (ok_or a) p
