-- All that a call keeps that asks queries and writes the lines of their verdicts, by its link, the
-- report and the record of the talk.
use Rattle.std.specs.Prelude.{◌≡◌, ◌⊎◌, ℕ, Result, Err}
use Rattle.sip_ports.specs.Ports.{Rose}
use Rattle.sip_wire.specs.declared.version.Version.{Version}
use Rattle.sip_verifier.specs.declared.status.Status.{Status}
use Rattle.sip_verifier.specs.declared.status.Status.TheVariants.{OutOfMemory}
use Rattle.sip_verifier.specs.Keeping.{KeepsTalk}
use Rattle.sip_verifier.specs.Snapshots.{Span, counts}
use Rattle.sip_verifier.specs.Statuses.{Stops, stops_asking}

pub record CheckClause (version : Version) (peer report keep : Span)
    (result : Result (Unit {0}) Status) : Type 0 where
  -- what the record got of what was received
  pub kept : KeepsTalk peer.before.told peer.after.told keep.before.told keep.after.told version
      result
  -- a fault of a port comes only where its own count rose, want of memory where one of theirs did
  pub fault : (first firsts second seconds : ℕ) → Stops stops_asking
      (counts first second peer.before.faults report.before.faults keep.before.faults)
      (counts firsts seconds peer.after.faults report.after.faults keep.after.faults) result
  pub memory : result ≡ Err OutOfMemory → Rose peer.before.wants peer.after.wants
      ⊎ Rose report.before.wants report.after.wants ⊎ Rose keep.before.wants keep.after.wants
