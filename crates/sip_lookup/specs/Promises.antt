-- What a run of lookups promises, and all that it keeps.
use Rattle.std.specs.Prelude.{ℕ, ◌*◌, ◌-◌, ◌^◌, ◌≤◌, ◌||◌, IsTrue, List, Some}
use Rattle.sip_field.specs.Moduli.{m61_modulus}
use Rattle.sip_vector.specs.declared.update.Side.TheVariants.{First}
use Rattle.sip_vector.specs.declared.update.Update.{Update}
use Rattle.sip_vector.specs.Streams.{vector}
use Rattle.sip_counts.specs.Clauses.{FewAndCounted}
use Rattle.sip_counts.specs.Strategies.{Strategy, IsOfBytes}
use Rattle.sip_wire.specs.declared.version.Version.{Version}
use Rattle.sip_verifier.specs.declared.status.Status.{Status}
use Rattle.sip_verifier.specs.Exchanges.{Exchange, Tells}
use Rattle.sip_verifier.specs.Snapshots.{Counts, IsTold, Snapshot}
use Rattle.sip_verifier.specs.runs.CauseClause.{CauseClause}
use Rattle.sip_verifier.specs.runs.CompletenessClause.{CompletenessClause}
use Rattle.sip_verifier.specs.runs.CountClause.{CountClause, Counting}
use Rattle.sip_verifier.specs.runs.TalkClause.{TalkClause}
use Rattle.sip_verifier.specs.runs.VerdictClause.{VerdictClause}
use Rattle.sip_verifier.specs.Statuses.{FaultClause, is_accepted, stops_asking, stops_gathering}
use Rattle.sip_lookup.specs.AcceptsLook.{accepts_look, fooled_look, is_right}
use Rattle.sip_lookup.specs.Honest.{honesty}
use Rattle.sip_lookup.specs.Lookups.{Looked, near}
use Rattle.sip_lookup.specs.Questions.{Question, looking}
use Rattle.sip_lookup.specs.Tasks.{run_of}
use Rattle.sip_lookup.specs.declared.lookup.Lookup.{Lookup}
use Rattle.sip_lookup.specs.declared.task.LookTask.{LookTask}

-- ---- a helper that lies

-- it has a wrong answer to this lookup accepted at no more than d·p^(d - 1) of the p^d blocks
abbrev pub FewFor : Version → ℕ → List Update → Lookup → Type 0
FewFor version depth stream l = (strategy : Strategy) → IsOfBytes strategy
    → fooled_look version depth (vector depth stream First) l strategy
    ≤ depth * m61_modulus ^ (depth - 1)

-- where the answer that is written is not the numbers' own, the run's block is among those
abbrev pub CountsFor : Version → ℕ → List Update → Question → Looked → Type 0
CountsFor version depth stream q written = FewAndCounted m61_modulus depth depth
    (accepts_look version depth (vector depth stream First) q.query)
    (is_right version depth (vector depth stream First) q.query)
    q.block q.replies (Some written) (near (vector depth stream First) q.query)

abbrev pub counting : Counting Lookup Looked
counting = record { FewFor = FewFor; CountsFor = CountsFor }

-- ---- a run

-- the five promises, on what the run moved and the status that it answers
pub record LookPromises (task : LookTask) (x : Exchange) (before now : Counts)
    (status : Status) : Type 0 where
  -- which lines are written, and when
  pub verdict : VerdictClause looking (run_of task x) x status
  -- in which order the bytes go: no query for an interval before the Found that names it was taken
  pub talk : TalkClause looking (run_of task x) x status
  -- when each other answer comes
  pub cause : CauseClause looking (run_of task x) x before now status
  -- how many challenges a helper can win by, and that no line has a wrong answer but at those
  pub count : CountClause looking counting (run_of task x) x
  -- what an honest helper comes to
  pub complete : CompletenessClause looking honesty (run_of task x) x before now status

-- the statuses that a run of lookups may answer: none is that a query is too wide
abbrev pub IsListed : Status → Type 0
IsListed status =
    IsTrue (is_accepted status || stops_gathering status || stops_asking status)

-- from the moment before a run to the moment after
pub record LookClause (task : LookTask) (before now : Snapshot) (status : Status) : Type 0 where
  -- the promises, on the exchange that the ports tell
  pub promises : (x : Exchange) → Tells before now x
      → LookPromises task x before.faults now.faults status
  -- ports that tell go on telling, so there is such an exchange
  pub moves : IsTold before → (x : Exchange) × Tells before now x
  -- whatever the ports tell, a fault of a port comes only where its own count rose: so none comes
  -- of a record of the talk, which a run of lookups does not keep
  pub fault : FaultClause before.faults now.faults status
  -- no other status comes
  pub listed : IsListed status
