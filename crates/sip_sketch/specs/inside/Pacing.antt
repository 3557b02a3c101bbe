-- How many records come before a sketch is stored.
use Rattle.std.specs.Prelude.{◌≡◌, ℕ, ◌+◌, ◌*◌, ◌≤◌, ⊤, Bool, true, false, List, [], ◌∷◌, ◌++◌}
use Rattle.std.specs.Prelude.{None}
use Rattle.std.specs.Prelude.{Some}
use Rattle.std.specs.declared.option.Option.{Option}
use Rattle.sip_sketch.specs.Watching.{multiples}
use Rattle.sip_sketch.specs.declared.pace.Pace.{Pace}

-- behind so many records there are so many until the next multiple
abbrev pub IsUntil : Option ℕ → Option ℕ → ℕ → Type 0
IsUntil None None count = ⊤
IsUntil None (Some until) count = ⊥
IsUntil (Some every) None count = ⊥
IsUntil (Some every) (Some until) count =
    (times : ℕ) × (1 ≤ until) × (until ≤ every) × (count + until ≡ (times + 1) * every)

abbrev pub IsPace : Pace → ℕ → Type 0
IsPace p count = IsUntil p.every p.until count

-- the multiples up to here, with this one where it is one
abbrev pub grows_by : Bool → ℕ → List ℕ
grows_by true count = count ∷ []
grows_by false count = []

-- from one number of records to another, which is a multiple or not
pub record Paces (old new : Pace) (before now : ℕ) (is_due : Bool) : Type 0 where
  pub every : new.every ≡ old.every
  pub pace : IsPace new now
  pub due : multiples old.every now ≡ multiples old.every before ++ grows_by is_due now
