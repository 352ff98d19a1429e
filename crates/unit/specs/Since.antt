-- What the claim reads off a history, as laws that are proved.
use Rattle.std.specs.Prelude.{ℕ, ◌≡◌, Bool, true, false, ◌||◌, ◌⊎◌, List, [], ◌∷◌, ◌++◌}
use Rattle.grounds.specs.Entry.{years, NeverFall}
use Rattle.difference.specs.declared.category.Category.{Category}
use Rattle.seen.specs.Rules.{rules_of}
use Rattle.unit.specs.Claim.{Step, history, is_admission, since, entries_of}

abbrev pub admits : List Step → Bool
admits [] = false
admits (x ∷ h) = is_admission x.event || admits h

-- the part ends with an admission
pub record EndsAdmitted (h : List Step) : Type 0 where
  pub front : List Step
  pub last : Step
  pub split : front ++ last ∷ [] ≡ h
  pub admission : is_admission last.event ≡ true

-- What `since` is: the history splits before it; the part before is empty or ends with an admission; and nothing in it is one. Proved as `since_is` of
-- proofs/Claimed.
pub record Since (h kept : List Step) : Type 0 where
  pub before : List Step
  pub split : before ++ kept ≡ h
  pub start : (before ≡ []) ⊎ EndsAdmitted before
  pub none : admits kept ≡ false

abbrev pub SinceIs : List Step → Type 0
SinceIs h = Since h (since h)

-- The years of the samples since admission never fall, so a stretch, which document 01 opens where the year differs from the last sample's, is the
-- samples of one calendar year. Proved as `years_never_fall` of proofs/Claimed.
abbrev pub YearsNeverFall : Type 0
YearsNeverFall = (k : Category) (ls : List (List ℕ)) → NeverFall (years (entries_of (rules_of k) (since (history k ls))))
