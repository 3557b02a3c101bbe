-- All that a run of lookups keeps, from its first three promises; and how its lookups go on behind
-- the stream.
use Rattle.std.proofs.Common.{◌≡◌, ◌≤◌, ℕ, ◌*◌, Option, Some, false, List, [], length, All, refl, sym, subst, ◌∙◌}
use Rattle.std.specs.Prelude.{replicate}
use Rattle.std.specs.List.{zip}
use Rattle.sip_ports.specs.declared.port.TalkEvent.{TalkEvent}
use Rattle.sip_ports.specs.Ports.{outs}
use Rattle.sip_ports.proofs.TalkLemmas.{GoesOn-trans}
use Rattle.sip_stream.proofs.LegalRecords.{records_legal}
use Rattle.sip_vector.specs.Limits.{most_depth}
use Rattle.sip_vector.specs.Pieces.{cut}
use Rattle.sip_vector.specs.Streams.{IsLegal}
use Rattle.sip_verifier.specs.declared.status.Status.{Status}
use Rattle.sip_verifier.specs.declared.task.Task.{Task}
use Rattle.sip_verifier.specs.Exchanges.{Exchange, Tells}
use Rattle.sip_verifier.specs.Gathering.{IsGathered}
use Rattle.sip_verifier.specs.Inquiries.{run_over}
use Rattle.sip_verifier.specs.Snapshots.{Counts, Snapshot, IsTold}
use Rattle.sip_verifier.specs.QuerySeats.{StandsFor}
use Rattle.sip_verifier.specs.runs.Askers.{GoesBehind}
use Rattle.sip_verifier.specs.runs.Concluding.{Ended}
use Rattle.sip_verifier.specs.runs.Runs.{updates}
use Rattle.sip_verifier.specs.Seats.{Seating}
use Rattle.sip_verifier.specs.Statuses.{FaultClause}
use Rattle.sip_verifier.proofs.Blocks.{are_blocks, IsBlock, none_drawn}
use Rattle.sip_verifier.proofs.CompleteManners.{Judges, all_zipped, completes}
use Rattle.sip_verifier.proofs.RunTalks.{Adds, said_is, written_is}
use Rattle.sip_verifier.proofs.WrittenReports.{report_counts}
use Rattle.sip_lookup.specs.Honest.{honesty}
use Rattle.sip_lookup.specs.Lookups.{CanLook}
use Rattle.sip_lookup.specs.Promises.{IsListed, LookClause, LookPromises, counting}
use Rattle.sip_lookup.specs.Questions.{looking}
use Rattle.sip_lookup.specs.Sittings.{LookSitting, StandsOn, remaining_of}
use Rattle.sip_lookup.specs.Tasks.{CanLookUp, run_of, version_of}
use Rattle.sip_lookup.specs.declared.lookup.Lookup.{Lookup}
use Rattle.sip_lookup.specs.declared.task.LookTask.{LookTask}
use Rattle.sip_lookup.proofs.HonestLooks.{look_done, look_faulty}
use Rattle.sip_lookup.proofs.RootedTasks.{All-beside, any_speaks, blocks_beside, queries_beside, rooted_query, run_same, seats_count}
use Rattle.sip_lookup.proofs.WrittenLooks.{few_looks, look_counts}

module _ (task : LookTask) (rooted : Task) (same_depth : rooted.depth ≡ task.depth) (same_form : rooted.form ≡ task.form)
    (queries : rooted.queries.items ≡ replicate (length task.lookups.items) rooted_query) (can : CanLookUp task) (some : 1 ≤ task.depth) (most : task.depth ≤ most_depth) where
  -- ---- all promises

  legal : (x : Exchange) → IsLegal task.depth (updates (run_of task x) x)
  legal x = records_legal task.depth task.form x.stream

  at_blocks : (x : Exchange) (challenges : List ℕ) → (run_of task x).challenges ≡ Some challenges → All (IsBlock task.depth) (cut task.depth challenges)
  at_blocks x challenges drawn =
      let same = run_same task rooted same_depth same_form queries x in
      subst (λ (d : ℕ). All (IsBlock d) (cut d challenges)) same_depth
      (are_blocks rooted x.seed challenges (subst (λ (d : ℕ). 1 ≤ d) (sym same_depth) some) (subst (λ r. r.challenges ≡ Some challenges) (sym same) drawn))

  -- a lookup that may be asked, at a block of one challenge for each level
  abbrev CanBeJudged : Lookup × List ℕ → Type 0
  CanBeJudged ask = CanLook task.depth ask.0 × IsBlock task.depth ask.1

  judges : (x : Exchange) → Judges looking honesty (run_of task x) x CanBeJudged
  judges x =
      let speaks = λ (lo hi : ℕ). any_speaks task.depth lo hi most in
      record {
        accepted = λ t written b a may accepts agree.
            look_done (version_of task) task.depth (updates (run_of task x) x) some (legal x) speaks
            t may.0 may.1 b a agree written accepts;
        faulty = λ t fault b a may faulty other agree.
            look_faulty (version_of task) task.depth (updates (run_of task x) x) some (legal x) speaks
            t may.0 may.1 b a agree fault faulty other;
      }

  promised : (x : Exchange) (before now : Counts) (status : Status) → Ended looking (run_of task x) x before now status → LookPromises task x before now status
  promised x before now status e = record {
    verdict = e.verdict;
    talk = e.talk;
    cause = e.cause;
    count = report_counts looking counting (run_of task x) x
        (λ i other less. few_looks (version_of task) task.depth (updates (run_of task x) x) (legal x) _ (can.items i other less))
        (CanLook task.depth) can.items (look_counts (version_of task) task.depth (updates (run_of task x) x) (legal x)) status e.verdict;
    complete = completes looking honesty (run_of task x) x CanBeJudged (judges x)
        (λ h. all_zipped (CanLook task.depth) (IsBlock task.depth) task.lookups.items
        (cut task.depth h.challenges) can.items (at_blocks x h.challenges h.drawn))
        (λ h status refused. refused) (none_drawn (task.depth * length task.lookups.items) x.seed)
        before now status e.verdict e.cause;
  }

  -- a run keeps all, where each exchange that is told has the first three promises
  pub kept : {before now : Snapshot} {status : Status}
      → ((x : Exchange) → Tells before now x → Ended looking (run_of task x) x before.faults now.faults status)
      → (IsTold before → (x : Exchange) × Tells before now x)
      → FaultClause before.faults now.faults status → IsListed status
      → LookClause task before now status
  kept {before = before} {now = now} {status = status} ends moves fault listed = record {
    promises = λ x t. promised x before.faults now.faults status (ends x t);
    moves = moves;
    fault = fault;
    listed = listed;
  }

  -- the first three promises of a run over the rooted task
  pub ended_same : (x : Exchange) (before now : Counts) (status : Status) → Ended looking (run_over rooted task.lookups.items x) x before now status → Ended looking (run_of task x) x before now status
  ended_same x before now status e = subst (λ r. Ended looking r x before now status) (run_same task rooted same_depth same_form queries x) e

  -- ---- the lookups behind the stream

  module _ (x : Exchange) {left : Option (List ℕ)} {t0 t1 : Option (List TalkEvent)} {seats : Seating} (gathered : IsGathered rooted x.stream x.seed left t0 t1 seats) where
    as_many : length seats.seats ≡ length task.lookups.items
    as_many = seats_count (length task.lookups.items) seats.seats (gathered.passed.stand.asked ∙ queries)

    -- the lookups beside the seats
    abbrev sitting : LookSitting
    sitting = record { version = version_of task; depth = task.depth; left = zip task.lookups.items seats.seats; spent = false }

    pub stand : StandsOn (updates (run_of task x) x) sitting
    stand =
        let own : All (StandsFor rooted.depth (updates (run_over rooted task.lookups.items x) x)) seats.seats = gathered.passed.stand.stand in
        All-beside (StandsFor task.depth (updates (run_of task x) x)) task.lookups.items seats.seats
        (subst (λ r. All (StandsFor r.depth (updates r x)) seats.seats) (run_same task rooted same_depth same_form queries x) own)

    pub goes_behind : {t2 r0 r1 : Option (List TalkEvent)} → Adds t0 t2 x.talk → Adds r0 r1 (outs x.report) → x.unread ≡ [] → GoesBehind looking (run_of task x) x (remaining_of sitting) t1 t2 r0 r1
    goes_behind {t2 = t2} {r0 = r0} {r1 = r1} told wrote read =
        let same = run_same task rooted same_depth same_form queries x in
        let over : GoesBehind looking (run_over rooted task.lookups.items x) x (remaining_of (record sitting { version = (run_over rooted task.lookups.items x).version; depth = rooted.depth })) t1 t2 r0 r1 = record {
          version = refl;
          depth = refl;
          challenges = gathered.challenges;
          drawn = gathered.draws;
          asked = queries_beside task.lookups.items seats.seats as_many;
          at_blocks = blocks_beside task.lookups.items seats.seats as_many ∙ gathered.passed.stand.at_blocks;
          legal = gathered.passed.to_end;
          read = read;
          may = tt;
          talk = λ said went. said_is t0 t2 _ x.talk (GoesOn-trans t0 t1 t2 _ said gathered.passed.talk went) told;
          report = λ bytes went. written_is r0 r1 bytes x.report went wrote;
        } in
        subst (λ r. GoesBehind looking r x (remaining_of (record sitting { version = r.version; depth = r.depth })) t1 t2 r0 r1) same over
