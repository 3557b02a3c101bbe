-- What the ports of a run tell at one instant, and how often they have failed.
use Rattle.std.specs.Prelude.{ℕ, List, Option, None, Some, IsSome}
use Rattle.sip_ports.specs.declared.port.TalkEvent.{TalkEvent}

-- how often the stream, the seed, the link, the report and the record of the talk have failed, or
-- how often memory was refused to them
pub record Counts : Type 0 where
  pub first : ℕ
  pub second : ℕ
  pub peer : ℕ
  pub report : ℕ
  pub keep : ℕ

abbrev pub counts : ℕ → ℕ → ℕ → ℕ → ℕ → Counts
counts first second peer report keep = record {
  first = first;
  second = second;
  peer = peer;
  report = report;
  keep = keep;
}

-- What one port tells, and how often it has failed. A source tells the bytes that it has to give, a
-- sink or a link the events so far.
pub record PortState (T : Type 0) : Type 0 where
  pub told : Option (List T)
  pub faults : ℕ

-- that of a port, by what its trait says of it
abbrev pub port : {P T : Type 0} → (P → Option (List T)) → (P → ℕ) → P → PortState T
port told faults it = record { told = told it; faults = faults it }

-- that of a port which tells this and has not failed
abbrev pub telling : {T : Type 0} → List T → PortState T
telling told = record { told = Some told; faults = 0 }

-- that of a port which is not there
abbrev pub no_port : {T : Type 0} → PortState T
no_port = record { told = None; faults = 0 }

-- What a link or a sink tells, how often it has failed, and how often memory was refused to it.
pub record SinkState : Type 0 where
  pub told : Option (List TalkEvent)
  pub faults : ℕ
  pub wants : ℕ

-- that of one, by what its trait says of it
abbrev pub sink : {P : Type 0} → (P → Option (List TalkEvent)) → (P → ℕ) → (P → ℕ) → P → SinkState
sink told faults wants it = record { told = told it; faults = faults it; wants = wants it }

-- a link or a sink at the moment before a call and at the moment after it
pub record Span : Type 0 where
  pub before : SinkState
  pub after : SinkState

abbrev pub between : SinkState → SinkState → Span
between before after = record { before = before; after = after }

-- that of one, by what its trait says of it
abbrev pub span : {P : Type 0} → (P → Option (List TalkEvent)) → (P → ℕ) → (P → ℕ) → P → P → Span
span told faults wants before after =
    between (sink told faults wants before) (sink told faults wants after)

-- The bytes that the stream and the seed have to give, the events so far on the link, on the report
-- and on the record of the talk, and how often these ports have failed.
pub record Snapshot : Type 0 where
  pub first : Option (List ℕ)
  pub second : Option (List ℕ)
  pub talk : Option (List TalkEvent)
  pub report : Option (List TalkEvent)
  pub keep : Option (List TalkEvent)
  pub faults : Counts

-- a snapshot, port by port
abbrev pub snapshot : PortState ℕ → PortState ℕ → PortState TalkEvent → PortState TalkEvent
    → PortState TalkEvent → Snapshot
snapshot first second peer report keep = record {
  first = first.told;
  second = second.told;
  talk = peer.told;
  report = report.told;
  keep = keep.told;
  faults = counts first.faults second.faults peer.faults report.faults keep.faults;
}

-- each port tells, but that the record of the talk need not
pub record IsTold (m : Snapshot) : Type 0 where
  pub first : IsSome m.first
  pub second : IsSome m.second
  pub talk : IsSome m.talk
  pub report : IsSome m.report
