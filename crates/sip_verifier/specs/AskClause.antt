-- All that a call keeps that asks one query, by its link and by the record of the talk.
use Rattle.std.specs.Prelude.{◌≡◌, ◌⊎◌, Result, Ok, Err}
use Rattle.sip_ports.specs.Ports.{Rose}
use Rattle.sip_wire.specs.declared.version.Version.{Version}
use Rattle.sip_verifier.specs.declared.asker.Unanswered.{Unanswered}
use Rattle.sip_verifier.specs.declared.asker.Unanswered.TheVariants.{Fault, Rejected}
use Rattle.sip_verifier.specs.declared.session.SessionFault.{SessionFault}
use Rattle.sip_verifier.specs.declared.session.SessionFault.TheVariants as faults
use Rattle.sip_verifier.specs.declared.session.Verdict.{Verdict}
use Rattle.sip_verifier.specs.declared.session.Verdict.TheVariants as verdicts
use Rattle.sip_verifier.specs.runs.Askers.{KeepsAsked}
use Rattle.sip_verifier.specs.Snapshots.{Span}

-- what came of the query, by what a session answers: a rejection stands beside the faults
abbrev pub came_of : Result Verdict SessionFault → Result Verdict Unanswered
came_of (Ok (verdicts.Rejected round reason)) = Err (Rejected round reason)
came_of (Ok (verdicts.Number n)) = Ok (verdicts.Number n)
came_of (Ok verdicts.Pairs) = Ok verdicts.Pairs
came_of (Err fault) = Err (Fault fault)

-- What came of the query is an answer, a rejection or a fault.
pub record AskClause {G : Type 0} (version : Version) (link keep : Span)
    (asked : Result G Unanswered) : Type 0 where
  -- what the record got of what was received
  pub kept : KeepsAsked link.before.told link.after.told keep.before.told keep.after.told version
      asked
  -- a fault of a port comes only where its own count rose, want of memory where one of theirs did
  pub cause : asked ≡ Err (Fault faults.PeerFault) → Rose link.before.faults link.after.faults
  pub keep_cause : asked ≡ Err (Fault faults.KeepFault) → Rose keep.before.faults keep.after.faults
  pub memory : asked ≡ Err (Fault faults.OutOfMemory)
      → Rose link.before.wants link.after.wants ⊎ Rose keep.before.wants keep.after.wants
