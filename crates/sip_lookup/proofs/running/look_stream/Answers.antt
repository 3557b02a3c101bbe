-- At each end of the steps the facts of the calls before it are handed to the lemma of that end.
use Rattle.std.proofs.Common.{◌≡◌, ◌≤◌, ℕ, None, List, [], refl, ◌∙◌, arith, inl, inr, rules}
use Rattle.std.specs.Prelude.{◌||◌}
use Rattle.sip_ports.proofs.TalkLemmas.{GoesOn-refl, GoesOn-trans}
use Rattle.sip_vector.specs.Limits.{most_depth}
use Rattle.sip_verifier.specs.declared.status.Status.TheVariants as statuses
use Rattle.sip_verifier.specs.Exchanges.{Exchange}
use Rattle.sip_verifier.specs.Snapshots.{no_port, port}
use Rattle.sip_verifier.specs.runs.Runs.{updates}
use Rattle.sip_verifier.proofs.GatheredRuns.{after_gather, after_stream}
use Rattle.sip_verifier.specs.Statuses.{is_accepted, stops_asking, stops_gathering}
use Rattle.sip_verifier.proofs.KeptRuns.{talk_moves}
use Rattle.sip_verifier.proofs.ListedStops.{gathering_first, stops_listed}
use Rattle.sip_verifier.proofs.QueryPromises.{all_read}
use Rattle.sip_verifier.proofs.RunTalks.{nothing_reported, passed_tells, refuses_moves, said_is, some_value, tells}
use Rattle.sip_lookup.specs.Questions.{looking}
use Rattle.sip_lookup.specs.Tasks.{run_of}
use Rattle.sip_lookup.proofs.LookRuns.{ended_same, goes_behind, kept, stand}
use Rattle.sip_lookup.proofs.RootedTasks.{few_beside}
use Rattle.sip_lookup.proofs.running.look_stream.Goals as goal

-- an exchange over these bytes, of which nothing else is told
abbrev over_bytes : List ℕ → List ℕ → Exchange
over_bytes stream seed = record { stream = stream; unread = []; seed = seed; talk = []; report = []; kept = None }

pub returns-in-Err-clause-seed : goal.returns-in-Err-clause-seed
returns-in-Err-clause-seed g c =
    let (over, rooted, seated, weights, keeps, made) = c.gather_lookups.ensures.gathers in
    (keeps no_port no_port).seed

pub returns-clause-seed : goal.returns-clause-seed
returns-clause-seed g c =
    let (over, rooted, seated, weights, keeps, made) = c.gather_lookups.ensures.gathers in
    (keeps no_port no_port).seed

pub conclude_run-requires-clause-most : goal.conclude_run-requires-clause-most
conclude_run-requires-clause-most g c =
    let (over, rooted, seated, weights, keeps, made) = c.in-Ok.ensures.gathers in
    let (seats, was, is) = made in
    let lent : c.deref_mut.result.now ≡ c.in-Ok.looker.value = search rules in
    rw (lent, is)
    (few_beside c.args.task.now.lookups.items seats.seats _ _ (rw was at (keeps no_port no_port).seated).1 rooted.few)

pub returns-in-Err-clause-keeps : goal.returns-in-Err-clause-keeps
returns-in-Err-clause-keeps g c =
    let report = port g.K.Sink.talk g.K.Sink.faults c.args.report.now in
    let (over, rooted, seated, weights, all_keeps, unseated) = c.in-Err.ensures.gathers in
    let keeps = all_keeps report report in
    let some : 1 ≤ c.args.task.now.depth = omega (arith, c.get-levels.ensures.same, c.get-levels.ensures.some) in
    let most : c.args.task.now.depth ≤ most_depth = omega (arith, c.get-levels.ensures.same, c.get-levels.ensures.most) in
    let task = c.args.task.now in
    let status = c.in-Err.status in
    elim unseated [
      | inl was ↦
          let stops = rw was at keeps.fault in
          kept task over rooted.depth rooted.form rooted.queries c.requires some most
          (λ x t. ended_same task over rooted.depth rooted.form rooted.queries c.requires some most x _ _ status
          (after_gather looking task.lookups.items over x _ _ status _ _ t.talk (nothing_reported _ _ t.report) (rw was at keeps.gathers x.stream x.seed t.stream t.seed) stops.1))
          (λ told.
          let bytes = some_value _ told.first in
          let seed = some_value _ told.second in
          let went = refuses_moves over bytes.0 seed.0 _ _ status (rw was at keeps.gathers bytes.0 seed.0 bytes.1 seed.1) in
          tells _ _ told keeps.told went.0 went.1 [] (GoesOn-refl _) [] tt)
          stops.1 (gathering_first status (stops_asking status) stops.0)
      | inr (seats, was, same) ↦
          rw same
          (kept task over rooted.depth rooted.form rooted.queries c.requires some most
          (λ x t.
          let gathered = rw was at keeps.gathers x.stream x.seed t.stream t.seed in
          ended_same task over rooted.depth rooted.form rooted.queries c.requires some most x _ _ statuses.OutOfMemory
          (after_stream looking task.lookups.items over x _ _ (gathered.challenges, gathered.draws) gathered.passed.to_end (said_is _ _ _ _ gathered.passed.talk t.talk) (nothing_reported _ _ t.report)))
          (λ told. passed_tells over seats _ _ told keeps.told (λ bytes seed read drawn. rw was at keeps.gathers bytes seed read drawn) (GoesOn-refl _) tt)
          tt refl)
    ]

pub returns-clause-keeps : goal.returns-clause-keeps
returns-clause-keeps g c =
    let report = port g.K.Sink.talk g.K.Sink.faults c.args.report.now in
    let (over, rooted, seated, weights, all_keeps, made) = c.in-Ok.ensures.gathers in
    let (seats, was, is) = made in
    let keeps = all_keeps report report in
    let lent : c.deref_mut.result.now ≡ c.in-Ok.looker.value = search rules in
    let some : 1 ≤ c.args.task.now.depth = omega (arith, c.get-levels.ensures.same, c.get-levels.ensures.some) in
    let most : c.args.task.now.depth ≤ most_depth = omega (arith, c.get-levels.ensures.same, c.get-levels.ensures.most) in
    let task = c.args.task.now in
    let begun = lent ∙ is in
    let stops = stops_listed (λ status. is_accepted status || stops_gathering status) refl _ _ _ _ _ _ _ _ _ 0 0 0 c.conclude_run.result c.gather_lookups.ensures.peer.later (omega arith) (c.conclude_run.ensures.keeps.fault _ _ _ _) in
    rw c.status_of-status.ensures
    (kept task over rooted.depth rooted.form rooted.queries c.requires some most
    (λ x t.
    let gathered = rw was at keeps.gathers x.stream x.seed t.stream t.seed in
    c.conclude_run.ensures.ends (run_of task x) x _ _
    (rw begun (goes_behind task over rooted.depth rooted.form rooted.queries c.requires some most x gathered t.talk t.report (all_read t.unread gathered.passed.read)))
    (rw begun (stand task over rooted.depth rooted.form rooted.queries c.requires some most x gathered)) stops.0)
    (λ told.
    let bytes = some_value _ told.first in
    let seed = some_value _ told.second in
    let gathered = rw was at keeps.gathers bytes.0 seed.0 bytes.1 seed.1 in
    let wrote = c.conclude_run.ensures.wrote (updates (run_of task (over_bytes bytes.0 seed.0)) (over_bytes bytes.0 seed.0))
    (rw begun (stand task over rooted.depth rooted.form rooted.queries c.requires some most (over_bytes bytes.0 seed.0) gathered)) in
    let went = talk_moves _ _ _ _ _ c.conclude_run.result c.conclude_run.ensures.keeps.kept in
    tells _ _ told keeps.told _ (GoesOn-trans _ _ _ _ _ gathered.passed.talk went.1) wrote.0 wrote.1 [] tt)
    stops.0 stops.1)
