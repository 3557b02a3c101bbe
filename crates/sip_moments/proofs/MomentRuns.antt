-- All that a run of moments keeps, from its first three promises.
use Rattle.std.proofs.Common.{◌≡◌, ◌≤◌, ◌<◌, ℕ, ◌*◌, Bool, false, Option, Some, None, List, [], ◌∷◌, map, All, refl, sym, ap, subst, ◌∙◌}
use Rattle.std.specs.Prelude.{◌||◌, nat_lt, if◌then◌else◌}
use Rattle.std.specs.List.{list_any}
use Rattle.std.proofs.lemmas.List.{length-map}
use Rattle.std.proofs.lemmas.List.Elements.{All-cons, All-nil}
use Rattle.std.proofs.lemmas.Slice.Zip.{firsts-zip, seconds-zip}
use Rattle.sip_ports.specs.declared.port.TalkEvent.{TalkEvent}
use Rattle.sip_ports.specs.Ports.{outs}
use Rattle.sip_ports.proofs.TalkLemmas.{GoesOn-trans}
use Rattle.sip_stream.proofs.LegalRecords.{records_legal}
use Rattle.sip_vector.specs.declared.update.Update.{Update}
use Rattle.sip_vector.specs.Limits.{most_narrow_depth}
use Rattle.sip_wire.specs.Versions.{is_of_two}
use Rattle.sip_wire.specs.declared.version.Version.{Version}
use Rattle.sip_wire.specs.declared.version.Version.TheVariants.{One, Two}
use Rattle.sip_verifier.specs.declared.status.Status.{Status}
use Rattle.sip_verifier.specs.declared.status.Status.TheVariants as statuses
use Rattle.sip_verifier.specs.Draws.{challenges_of}
use Rattle.sip_verifier.specs.Exchanges.{Exchange, Tells}
use Rattle.sip_verifier.specs.Gathering.{HasSeed, IsGathered}
use Rattle.sip_verifier.specs.Inquiries.{run_over}
use Rattle.sip_verifier.specs.Snapshots.{Counts, IsTold, Snapshot}
use Rattle.sip_verifier.specs.Seats.{AreSeats, Seating}
use Rattle.sip_verifier.specs.Statuses.{FaultClause}
use Rattle.sip_verifier.specs.Talks.{stream_sent}
use Rattle.sip_verifier.specs.Tasks as tasks
use Rattle.sip_verifier.specs.runs.Askers.{GoesBehind}
use Rattle.sip_verifier.specs.runs.Concluding.{Ended}
use Rattle.sip_verifier.specs.runs.CountClause.{CountClause}
use Rattle.sip_verifier.specs.runs.Promises.{Promises}
use Rattle.sip_verifier.specs.runs.Runs.{IsLegalToEnd, Run, updates}
use Rattle.sip_verifier.specs.runs.VerdictClause.{VerdictClause}
use Rattle.sip_verifier.proofs.GatheredRuns.{is_drawn}
use Rattle.sip_verifier.proofs.RunTalks.{Adds, said_is, written_is}
use Rattle.sip_verifier.proofs.WrittenReports.{report_counts}
use Rattle.sip_moments.specs.declared.moment.Moment.{Moment}
use Rattle.sip_moments.specs.declared.task.MomentTask.{MomentTask}
use Rattle.sip_moments.specs.Manner.{FewFor, asking, counting, first_high, honesty}
use Rattle.sip_moments.specs.MomentClause.{IsListed, MomentClause}
use Rattle.sip_moments.specs.inside.Seating.{begun}
use Rattle.sip_moments.specs.Sittings.{StandsFor, blocks_of, remaining_of, square_of}
use Rattle.sip_moments.specs.Tasks.{CanBeDone, run_of, squares_of, version_of}
use Rattle.sip_moments.proofs.CompleteMoments.{moments_complete}
use Rattle.sip_moments.proofs.MomentSittings.{paired}
use Rattle.sip_moments.proofs.WrittenMoments.{few_moments, moment_counts}

-- ---- the task of squares

-- a second moment can be asked at each depth
pub squares_done : (task : MomentTask) → CanBeDone task → tasks.CanBeDone (squares_of task)
squares_done task can = record {
  some = subst (λ (n : ℕ). 0 < n) (sym (length-map task.moments.items square_of)) can.some;
  asked = each task.moments.items;
}
  where
    each : (moments : List Moment) → All (tasks.CanBeAsked task.depth) (map square_of moments)
    each [] = All-nil (tasks.CanBeAsked task.depth)
    each (m ∷ moments) =
        All-cons (tasks.CanBeAsked task.depth) (square_of m) (map square_of moments) (refl, tt)
        (each moments)

-- each of these has a code in version 1, so the version is that of the depth
none_of_two : (moments : List Moment) → list_any is_of_two (map square_of moments) ≡ false
none_of_two [] = refl
none_of_two (m ∷ moments) = none_of_two moments

pub same_version : (task : MomentTask) → version_of task ≡ tasks.version_of (squares_of task)
same_version task =
    ap (λ (b : Bool). if nat_lt most_narrow_depth task.depth || b then Two else One)
    (sym (none_of_two task.moments.items))

-- and the run is the same
pub same_run : (task : MomentTask) (x : Exchange)
    → run_over (squares_of task) task.moments.items x ≡ run_of task x
same_run task x =
    ap (λ (v : Version). record (run_over (squares_of task) task.moments.items x) { version = v })
    (sym (same_version task))
    ∙ ap (λ (n : ℕ). record (run_of task x) { challenges = challenges_of (task.depth * n) x.seed })
    (length-map task.moments.items square_of)

-- ---- all promises

module _ (task : MomentTask) (some : 1 ≤ task.depth) (x : Exchange) where
  abbrev r : Run Moment
  r = run_of task x

  few_of : (moments : List Moment) → All (FewFor r.version r.depth (updates r x)) moments
  few_of [] = All-nil (FewFor r.version r.depth (updates r x))
  few_of (m ∷ moments) =
      All-cons (FewFor r.version r.depth (updates r x)) m moments
      (few_moments r.version r.depth (updates r x) (records_legal task.depth task.form x.stream) m)
      (few_of moments)

  any : (moments : List Moment) → All (λ (m : Moment). Unit {0}) moments
  any moments = λ i m inside. tt

  -- counts follow from verdicts
  counted : (status : Status) → VerdictClause asking r x status
      → CountClause asking counting r x
  counted =
      report_counts asking counting r x (few_of r.queries) (λ (m : Moment). Unit {0})
      (any r.queries)
      (λ q written _ accepts. moment_counts r.version r.depth (updates r x)
      (records_legal task.depth task.form x.stream) q written accepts)

  pub promised : (before now : Counts) (status : Status) → Ended asking r x before now status
      → Promises asking counting honesty r x before now status
  promised before now status e = record {
    verdict = e.verdict;
    talk = e.talk;
    cause = e.cause;
    count = counted status e.verdict;
    complete = moments_complete task x some before now status e.verdict e.cause;
  }

-- a run keeps all, where each exchange that is told has the first three promises
pub kept : (task : MomentTask) → 1 ≤ task.depth → {before now : Snapshot} {status : Status}
    → ((x : Exchange) → Tells before now x
    → Ended asking (run_over (squares_of task) task.moments.items x) x before.faults now.faults status)
    → (IsTold before → (x : Exchange) × Tells before now x)
    → FaultClause before.faults now.faults status → IsListed status
    → MomentClause task before now status
kept task some {before = before} {now = now} {status = status} ends moves fault listed = record {
  promises = λ x t.
      promised task some x before.faults now.faults status
      (subst (λ (r : Run Moment). Ended asking r x before.faults now.faults status)
      (same_run task x) (ends x t));
  moves = moves;
  fault = fault;
  listed = listed;
}

-- ---- behind the stream

module _ (task : MomentTask) (x : Exchange) where
  abbrev over : Run Moment
  over = run_over (squares_of task) task.moments.items x

  abbrev streamed : List TalkEvent
  streamed = stream_sent (tasks.version_of (squares_of task)) task.depth (updates over x)

  -- a claim may have no room for a moment
  pub too_high : (before now : Counts) (query : ℕ) → HasSeed (squares_of task) x.stream x.seed
      → IsLegalToEnd over x → x.talk ≡ streamed → x.report ≡ []
      → first_high (updates over x) task.moments.items ≡ Some query
      → Ended asking over x before now (statuses.TooHigh query)
  too_high before now query seed legal talk blank is = record {
    verdict = blank;
    talk = talk;
    cause = ((is_drawn asking task.moments.items (squares_of task) x seed, legal), is);
  }

-- it goes on behind the stream
pub goes_behind : (task : MomentTask) (x : Exchange) {left : Option (List ℕ)}
    {t0 t1 t2 r0 r1 : Option (List TalkEvent)} {seats : Seating}
    → IsGathered (squares_of task) x.stream x.seed left t0 t1 seats
    → first_high (updates (run_over (squares_of task) task.moments.items x) x) task.moments.items
    ≡ None
    → Adds t0 t2 x.talk → Adds r0 r1 (outs x.report) → x.unread ≡ []
    → GoesBehind asking (run_over (squares_of task) task.moments.items x) x
    (remaining_of (begun task seats)) t1 t2 r0 r1
goes_behind task x {t0 = t0} {t1 = t1} {t2 = t2} {r0 = r0} {r1 = r1} {seats = seats} gathered may told wrote read =
    let moments = task.moments.items in
    let stand = gathered.passed.stand in
    let same = paired moments seats stand.asked in
    record {
      version = same_version task;
      depth = stand.levels;
      challenges = gathered.challenges;
      drawn = gathered.draws;
      asked = firsts-zip moments (blocks_of seats) same;
      at_blocks = seconds-zip moments (blocks_of seats) same ∙ stand.at_blocks;
      legal = gathered.passed.to_end;
      read = read;
      may = may;
      talk = λ said went.
          said_is t0 t2 _ x.talk (GoesOn-trans t0 t1 t2 _ said gathered.passed.talk went) told;
      report = λ bytes went. written_is r0 r1 bytes x.report went wrote;
    }

-- and its seats stand for the stream
pub they_stand : (task : MomentTask) (stream : List Update) (at_blocks : List (List ℕ))
    (seats : Seating) → AreSeats task.depth (map square_of task.moments.items) at_blocks stream seats
    → StandsFor stream (begun task seats)
they_stand task stream at_blocks seats are = record {
  at_blocks = at_blocks;
  stand = subst
      (λ (n : ℕ). AreSeats n (map square_of task.moments.items) at_blocks stream seats)
      (sym are.levels) are;
}
