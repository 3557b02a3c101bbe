-- What one call moved through ports in memory, and how often they failed.
use Rattle.std.specs.Prelude.{◌≡◌, ℕ, List, ◌++◌, Some}
use Rattle.sip_ports.specs.declared.memory.MemorySource.{MemorySource}
use Rattle.sip_ports.specs.declared.memory.MemorySink.{MemorySink}
use Rattle.sip_ports.specs.declared.memory.MemoryLink.{MemoryLink}
use Rattle.sip_ports.specs.declared.port.TalkEvent.{TalkEvent}
use Rattle.sip_ports.specs.Memory.{source_left, source_faults, sink_bytes, sink_faults, link_talk}
use Rattle.sip_ports.specs.Memory.{link_faults}
use Rattle.sip_transcript.specs.Auditing.{Audit}
use Rattle.sip_verifier.specs.Exchanges.{Exchange}
use Rattle.sip_verifier.specs.Snapshots.{Counts, counts}

-- what ports in memory hold: the bytes to come, the events so far, and the bytes that were written
pub record Held : Type 0 where
  pub first : List ℕ
  pub second : List ℕ
  pub talk : List TalkEvent
  pub report : List ℕ
  pub keep : List ℕ

abbrev pub held : List ℕ → List ℕ → List TalkEvent → List ℕ → List ℕ → Held
held first second talk report keep = record {
  first = first;
  second = second;
  talk = talk;
  report = report;
  keep = keep;
}

-- this exchange is what moved where ports held the one before and hold the other now
pub record Moves (old new : Held) (x : Exchange) : Type 0 where
  pub stream : x.stream ≡ old.first
  pub unread : x.unread ≡ new.first
  pub seed : x.seed ≡ old.second
  pub talk : new.talk ≡ old.talk ++ x.talk
  pub report : new.report ≡ old.report ++ x.report
  pub kept : (bytes : List ℕ) × (x.kept ≡ Some bytes) × (new.keep ≡ old.keep ++ bytes)

-- what an audit moved where ports held the one before and hold the other now, and these bytes are
-- new on the report
abbrev pub audit_of : Held → Held → List ℕ → Audit
audit_of old new lines = record {
  stream = old.first;
  unread = new.first;
  stored = old.second;
  left = new.second;
  report = lines;
}

module _ (first second : MemorySource) (peer : MemoryLink) (report keep : MemorySink) where
  -- what these ports hold
  abbrev pub held_by : Held
  held_by =
      held (source_left first) (source_left second) (link_talk peer) (sink_bytes report)
      (sink_bytes keep)

  -- how often these ports failed
  abbrev pub faults_of : Counts
  faults_of =
      counts (source_faults first) (source_faults second) (link_faults peer) (sink_faults report)
      (sink_faults keep)
