-- A run that keeps no record of its talk, beside a port on which a record could be kept: what it
-- keeps of the other ports it keeps of all of them.
use Rattle.std.proofs.Common.{◌≡◌, ℕ, List, [], Option, Some, None, refl, sym, ap, subst, append-nil}
use Rattle.sip_ports.specs.declared.port.TalkEvent.{TalkEvent}
use Rattle.sip_ports.proofs.FaultLemmas.{Rose-positive}
use Rattle.sip_verifier.specs.declared.status.Port.TheVariants as ports
use Rattle.sip_verifier.specs.declared.status.Status.{Status}
use Rattle.sip_verifier.specs.declared.status.Status.TheVariants as statuses
use Rattle.sip_verifier.specs.Exchanges.{Appends, Exchange, Tells}
use Rattle.sip_verifier.specs.Snapshots.{Counts, Snapshot, IsTold}
use Rattle.sip_verifier.specs.runs.CauseClause.{CauseClause}
use Rattle.sip_verifier.specs.runs.CompletenessClause.{CompletenessClause, Honesty}
use Rattle.sip_verifier.specs.runs.Manners.{Asking}
use Rattle.sip_verifier.specs.runs.Runs.{Run}
use Rattle.sip_verifier.specs.Statuses.{FaultClause}
use Rattle.sip_cli.specs.CommandClause.{unkept}

-- the faults but those of the record, of which there are none
abbrev pub uncounted : Counts → Counts
uncounted c = record c { keep = 0 }

-- a moment without what the record tells
abbrev pub untold : Snapshot → Snapshot
untold m = record m { keep = None; faults = uncounted m.faults }

-- ---- exchanges

-- on a record that is as it was nothing is new
none_new : (old : Option (List TalkEvent)) → (kept : Option (List ℕ)) × Appends old old kept
none_new None = (None, refl)
none_new (Some had) = (Some [], (had, refl, ap Some (sym (append-nil had))))

kept_on : (old new : Option (List TalkEvent)) → new ≡ old
    → (kept : Option (List ℕ)) × Appends old new kept
kept_on old new same =
    subst (λ (o : Option (List TalkEvent)). (kept : Option (List ℕ)) × Appends old o kept)
    (sym same) (none_new old)

module _ {before now : Snapshot} where
  -- what all ports tell, those but the record tell
  pub tells_rest : {x : Exchange} → Tells before now x
      → Tells (untold before) (untold now) (unkept x)
  tells_rest t = record {
    stream = t.stream;
    unread = t.unread;
    seed = t.seed;
    talk = t.talk;
    report = t.report;
    kept = refl;
  }

  -- and where the record is as it was, what those tell all tell
  tells_all : (x : Exchange) → now.keep ≡ before.keep → Tells (untold before) (untold now) x
      → (y : Exchange) × Tells before now y
  tells_all x same t = let kept = kept_on before.keep now.keep same in (
    record x { kept = kept.0 },
    record {
      stream = t.stream;
      unread = t.unread;
      seed = t.seed;
      talk = t.talk;
      report = t.report;
      kept = kept.1;
    },
  )

  pub moves_all : now.keep ≡ before.keep
      → (IsTold (untold before) → (x : Exchange) × Tells (untold before) (untold now) x)
      → IsTold before → (x : Exchange) × Tells before now x
  moves_all same moves is =
      let told = moves (record {
        first = is.first;
        second = is.second;
        talk = is.talk;
        report = is.report;
      }) in
      tells_all told.0 same told.1

-- ---- clauses

module _ (before now : Counts) where
  -- no fault of the record is answered
  pub faulted : (status : Status) → FaultClause (uncounted before) (uncounted now) status
      → FaultClause before now status
  faulted (statuses.WriteFault ports.Keep) fault = absurd (Rose-positive 0 0 fault refl)
  faulted _ fault = fault

  module _ {Q A : Type 0} (asking : Asking Q A) (r : Run Q) (x : Exchange) where
    pub caused : (status : Status)
        → CauseClause asking r x (uncounted before) (uncounted now) status
        → CauseClause asking r x before now status
    caused (statuses.WriteFault ports.Keep) cause = absurd (Rose-positive 0 0 cause.2 refl)
    caused _ cause = cause

    -- an honest helper comes to as much, whatever becomes of the record
    pub completed : (honesty : Honesty Q A) (status : Status)
        → CompletenessClause asking honesty r x (uncounted before) (uncounted now) status
        → CompletenessClause asking honesty r x before now status
    completed honesty status complete honest none = complete honest (record {
      first = none.first;
      second = none.second;
      peer = none.peer;
      report = none.report;
      keep = λ rose. Rose-positive 0 0 rose refl;
    })
