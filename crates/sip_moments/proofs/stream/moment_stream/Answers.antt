-- At each end of the steps the facts of the calls before it are handed to the lemma of that end.
use Rattle.std.proofs.Common.{◌≡◌, ◌≤◌, None, [], length, refl, ◌∙◌, arith, inl, inr, rules}
use Rattle.std.specs.Prelude.{◌||◌}
use Rattle.std.proofs.lemmas.Bool.{or_left}
use Rattle.sip_ports.proofs.TalkLemmas.{GoesOn-refl, GoesOn-trans}
use Rattle.sip_wire.specs.Table.{most_queries}
use Rattle.sip_verifier.specs.Draws.{blocks}
use Rattle.sip_verifier.specs.Gathering.{legal}
use Rattle.sip_verifier.specs.Inquiries.{run_over}
use Rattle.sip_verifier.specs.Snapshots.{no_port, port}
use Rattle.sip_verifier.proofs.GatheredRuns.{after_gather, after_stream}
use Rattle.sip_verifier.specs.Statuses.{is_accepted, stops_asking, stops_gathering}
use Rattle.sip_verifier.proofs.KeptRuns.{talk_moves}
use Rattle.sip_verifier.proofs.ListedStops.{gathering_first, stops_listed}
use Rattle.sip_verifier.proofs.QueryPromises.{all_read}
use Rattle.sip_verifier.proofs.RunTalks.{nothing_reported, passed_tells, refuses_moves, said_is, some_value, tells}
use Rattle.sip_moments.specs.Manner.{asking}
use Rattle.sip_moments.specs.MomentClause.{stops_high}
use Rattle.sip_moments.proofs.MomentSittings.{left_is}
use Rattle.sip_moments.specs.Tasks.{squares_of}
use Rattle.sip_moments.proofs.MomentRuns.{goes_behind, kept, they_stand, too_high}
use Rattle.sip_moments.proofs.stream.moment_stream.Goals as goal

pub returns-in-Err-clause-seed : goal.returns-in-Err-clause-seed
returns-in-Err-clause-seed g c =
    let (seated, weights, keeps, made) = c.gather_questions.ensures.gathers in
    (keeps no_port no_port).seed

pub returns-clause-seed : goal.returns-clause-seed
returns-clause-seed g c =
    let (seated, weights, keeps, made) = c.gather_questions.ensures.gathers in
    (keeps no_port no_port).seed

pub returns-in-Err-clause-keeps : goal.returns-in-Err-clause-keeps
returns-in-Err-clause-keeps g c =
    let report = port g.K.Sink.talk g.K.Sink.faults c.args.report.now in
    let (seated, weights, all_keeps, unseated) = c.in-Err.ensures.gathers in
    let keeps = all_keeps report report in
    let task = c.args.task.now in
    let some : 1 ≤ task.depth = omega (arith, c.get-levels.ensures.same, c.get-levels.ensures.some) in
    let status = c.in-Err.status in
    elim unseated [
      | inl was ↦
          let stops = rw was at keeps.fault in
          kept task some
          (λ x t. after_gather asking task.moments.items (squares_of task) x _ _ status _ _ t.talk (nothing_reported _ _ t.report) (rw was at keeps.gathers x.stream x.seed t.stream t.seed) stops.1)
          (λ told.
          let bytes = some_value _ told.first in
          let seed = some_value _ told.second in
          let went = refuses_moves (squares_of task) bytes.0 seed.0 _ _ status (rw was at keeps.gathers bytes.0 seed.0 bytes.1 seed.1) in
          tells _ _ told keeps.told went.0 went.1 [] (GoesOn-refl _) [] (GoesOn-refl None))
          stops.1 (or_left _ (stops_asking status) (gathering_first status (stops_high status) stops.0))
      | inr (seats, was, inl same) ↦
          rw same
          (kept task some
          (λ x t.
          let gathered = rw was at keeps.gathers x.stream x.seed t.stream t.seed in
          after_stream asking task.moments.items (squares_of task) x _ _ (gathered.challenges, gathered.draws) gathered.passed.to_end
          (said_is _ _ _ _ gathered.passed.talk t.talk) (nothing_reported _ _ t.report))
          (λ told. passed_tells (squares_of task) seats _ _ told keeps.told (λ bytes seed read drawn. rw was at keeps.gathers bytes seed read drawn) (GoesOn-refl _) (GoesOn-refl None))
          tt refl)
      | inr (seats, was, inr (query, same, high)) ↦
          rw same
          (kept task some
          (λ x t.
          let gathered = rw was at keeps.gathers x.stream x.seed t.stream t.seed in
          too_high task x _ _ query (gathered.challenges, gathered.draws) gathered.passed.to_end
          (said_is _ _ _ _ gathered.passed.talk t.talk) (nothing_reported _ _ t.report)
          (high (legal (squares_of task) x.stream) (rw was at keeps.weights x.stream t.stream)))
          (λ told. passed_tells (squares_of task) seats _ _ told keeps.told (λ bytes seed read drawn. rw was at keeps.gathers bytes seed read drawn) (GoesOn-refl _) (GoesOn-refl None))
          tt refl)
    ]

pub conclude_run-requires-clause-most : goal.conclude_run-requires-clause-most
conclude_run-requires-clause-most g c =
    let (seated, weights, keeps, made) = c.in-Ok.ensures.gathers in
    let (seats, was, begins, low) = made in
    let lent : c.deref_mut.result.now ≡ c.in-Ok.questions.value = search rules in
    let same = (rw was at (keeps no_port no_port).seated).1 in
    let few : length c.args.task.now.moments.items ≤ most_queries = omega (arith, c.len-asked.ensures.value, c.len-asked.ensures.fits) in
    rw (lent, begins)
    (let left = left_is 0 c.args.task.now.moments.items seats same in omega (arith, left, few))

pub returns-clause-keeps : goal.returns-clause-keeps
returns-clause-keeps g c =
    let report = port g.K.Sink.talk g.K.Sink.faults c.args.report.now in
    let (seated, weights, all_keeps, made) = c.in-Ok.ensures.gathers in
    let (seats, was, is, low) = made in
    let keeps = all_keeps report report in
    let task = c.args.task.now in
    let some : 1 ≤ task.depth = omega (arith, c.get-levels.ensures.same, c.get-levels.ensures.some) in
    let lent : c.deref_mut.result.now ≡ c.in-Ok.questions.value = search rules in
    let begins = lent ∙ is in
    let stops = stops_listed (λ status. is_accepted status || stops_gathering status || stops_high status) refl _ _ _ _ _ _ _ _ _ 0 0 0 c.conclude_run.result c.gather_questions.ensures.peer.later (omega arith) (c.conclude_run.ensures.keeps.fault _ _ _ _) in
    rw c.status_of-status.ensures
    (kept task some
    (λ x t.
    let gathered = rw was at keeps.gathers x.stream x.seed t.stream t.seed in
    let few = low (legal (squares_of task) x.stream) (rw was at keeps.weights x.stream t.stream) in
    let behind = goes_behind task x gathered few t.talk t.report (all_read t.unread gathered.passed.read) in
    let stand = they_stand task (legal (squares_of task) x.stream) (blocks (squares_of task) gathered.challenges) seats gathered.passed.stand in
    c.conclude_run.ensures.ends (run_over (squares_of task) task.moments.items x) x _ _ (rw begins behind) (rw begins stand) stops.0)
    (λ told.
    let bytes = some_value _ told.first in
    let seed = some_value _ told.second in
    let gathered = rw was at keeps.gathers bytes.0 seed.0 bytes.1 seed.1 in
    let stand = they_stand task (legal (squares_of task) bytes.0) (blocks (squares_of task) gathered.challenges) seats gathered.passed.stand in
    let wrote = c.conclude_run.ensures.wrote (legal (squares_of task) bytes.0) (rw begins stand) in
    let went = talk_moves _ _ _ _ _ c.conclude_run.result c.conclude_run.ensures.keeps.kept in
    tells _ _ told keeps.told _ (GoesOn-trans _ _ _ _ _ gathered.passed.talk went.1) wrote.0 wrote.1 [] (GoesOn-refl None))
    stops.0 stops.1)
