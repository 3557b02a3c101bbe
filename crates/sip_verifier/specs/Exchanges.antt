-- What one call moved through its ports.
use Rattle.std.specs.Prelude.{◌≡◌, ℕ, List, ◌++◌, Option, Some, None, ◌≤◌, length}
use Rattle.std.specs.Io.KnownBytes.{Consumes}
use Rattle.sip_ports.specs.declared.port.TalkEvent.{TalkEvent}
use Rattle.sip_ports.specs.Ports.{outs}
use Rattle.sip_verifier.specs.Snapshots.{Snapshot}

-- What there was to read, and what was said and written.
pub record Exchange : Type 0 where
  -- the bytes that `first` had to give, and those that it still has
  pub stream : List ℕ
  pub unread : List ℕ
  -- the bytes that `second` had to give
  pub seed : List ℕ
  -- the events that are new on the link, and the bytes that are new on the report
  pub talk : List TalkEvent
  pub report : List ℕ
  -- the bytes that are new on the record of the talk, where that port tells what it has
  pub kept : Option (List ℕ)

-- a sink tells that these bytes are new on it, or it did not tell at first
abbrev pub Appends : Option (List TalkEvent) → Option (List TalkEvent) → Option (List ℕ) → Type 0
Appends old new (Some bytes) =
    (had : List TalkEvent) × (old ≡ Some had) × (new ≡ Some (had ++ outs bytes))
Appends old new None = old ≡ None

-- the ports tell this exchange by what they told before and what they tell after
pub record Tells (old new : Snapshot) (x : Exchange) : Type 0 where
  pub stream : old.first ≡ Some x.stream
  pub unread : new.first ≡ Some x.unread
  pub seed : old.second ≡ Some x.seed
  pub talk : (had : List TalkEvent) × (old.talk ≡ Some had) × (new.talk ≡ Some (had ++ x.talk))
  pub report : Appends old.report new.report (Some x.report)
  pub kept : Appends old.keep new.keep x.kept

-- of the bytes that were left, at most so many were taken, from the front
abbrev pub TakesAtMost : ℕ → Option (List ℕ) → Option (List ℕ) → Type 0
TakesAtMost most old new = (bytes : List ℕ) × (length bytes ≤ most) × Consumes old new bytes
