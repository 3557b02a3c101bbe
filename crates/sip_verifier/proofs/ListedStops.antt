-- A run's list of statuses ends with those of asking, and has those of gathering behind acceptance.
use Rattle.std.proofs.Common.{◌≡◌, ◌≤◌, ℕ, Bool, Result, Ok, Err, true}
use Rattle.std.specs.Prelude.{IfErr, IsTrue, ◌||◌}
use Rattle.std.proofs.lemmas.Bool.{or_left, or_right}
use Rattle.sip_verifier.specs.declared.status.Status.{Status}
use Rattle.sip_verifier.specs.declared.status.Status.TheVariants as statuses
use Rattle.sip_verifier.specs.Snapshots.{counts}
use Rattle.sip_verifier.specs.runs.Concluding.{status_of}
use Rattle.sip_verifier.specs.Statuses.{FaultClause, Stops, is_accepted, stops_gathering, stops_asking}
use Rattle.sip_verifier.proofs.QueriesChecked.{since_before}

-- a status of gathering, whatever stands behind these
pub gathering_first : (status : Status) (others : Bool) → stops_gathering status ≡ true → (is_accepted status || stops_gathering status || others) ≡ true
gathering_first status others is = or_left (is_accepted status || stops_gathering status) others (or_right (is_accepted status) (stops_gathering status) is)

-- What came of the queries has its cause since an earlier moment of the link and of the record, and
-- is listed, where `others` is the list before its last part.
pub stops_listed : (others : Status → Bool) → others statuses.Accepted ≡ true
    → (first firsts second seconds earlier peer peers report reports sooner keep keeps : ℕ) (r : Result (Unit {0}) Status) → earlier ≤ peer → sooner ≤ keep
    → Stops stops_asking (counts first second peer report keep) (counts firsts seconds peers reports keeps) r
    → FaultClause (counts first second earlier report sooner) (counts firsts seconds peers reports keeps) (status_of r)
    × IsTrue (others (status_of r) || stops_asking (status_of r)) × IfErr r (λ status. IsTrue (stops_asking status))
stops_listed others accepted first firsts second seconds earlier peer peers report reports sooner keep keeps (Ok u) later still stops =
    (tt, or_left (others statuses.Accepted) (stops_asking statuses.Accepted) accepted, tt)
stops_listed others accepted first firsts second seconds earlier peer peers report reports sooner keep keeps (Err status) later still (is, fault) =
    (since_before first firsts second seconds earlier peer peers report reports sooner keep keeps status later still fault, or_right (others status) (stops_asking status) is, is)
