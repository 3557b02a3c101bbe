-- What holds of a helper of lookups at every moment, and how many turns it has left at most.
use Rattle.std.specs.Prelude.{◌≡◌, ℕ, ◌+◌, ◌-◌, ◌≤◌, Some}
use Rattle.sip_helper.specs.Turns.{whole_of}
use Rattle.sip_helper.specs.inside.Measures.{turns_left}
use Rattle.sip_wire.specs.Table.{most_queries}
use Rattle.sip_lookup.specs.declared.lookup.Lookup.{Lookup}
use Rattle.sip_lookup.specs.declared.serving.Stage.{Stage}
use Rattle.sip_lookup.specs.declared.serving.Stage.TheVariants.{Asked}
use Rattle.sip_lookup.specs.Lookups.{CanLook}
use Rattle.sip_lookup.specs.Serving.{LookHelper}

-- a lookup that was asked can be asked at the depth of the stream, which has ended
pub record CanSay (s : LookHelper) (l : Lookup) : Type 0 where
  pub depth : ℕ
  pub whole : whole_of s.helper.heard ≡ Some depth
  pub can : CanLook depth l

abbrev pub IsReady : LookHelper → Stage → Type 0
IsReady s (Asked l) = CanSay s l
IsReady s _ = Unit {0}

-- few lookups were asked, and one whose place is owed can be answered
pub record IsCoherent (s : LookHelper) : Type 0 where
  pub few : s.asked ≤ most_queries
  pub ready : IsReady s s.stage

-- those of the stream and of the queries, and one for each lookup
abbrev pub looks_left : LookHelper → ℕ
looks_left s = turns_left s.helper + (most_queries - s.asked)
