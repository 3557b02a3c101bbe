-- At each end of the steps the facts of the calls before it are handed to the lemma of that end.
use Rattle.std.proofs.Common.{◌≡◌, ◌≤◌, ℕ, [], length, refl, sym, ap, subst, ◌∙◌, arith, rules, inl, inr}
use Rattle.std.specs.Prelude.{◌||◌}
use Rattle.sip_verifier.specs.QuerySeats.{Seated}
use Rattle.sip_vector.specs.Limits.{most_depth}
use Rattle.sip_wire.specs.Table.{most_queries}
use Rattle.std.proofs.lemmas.List.{length-map}
use Rattle.sip_ports.proofs.TalkLemmas.{GoesOn-refl, GoesOn-trans}
use Rattle.sip_verifier.specs.Draws.{blocks}
use Rattle.sip_verifier.specs.Gathering.{legal}
use Rattle.sip_verifier.specs.Concluding.{status_of}
use Rattle.sip_verifier.specs.Inquiries.{inquiry_of}
use Rattle.sip_verifier.specs.Sittings.{Sitting}
use Rattle.sip_verifier.specs.Snapshots.{no_port, port}
use Rattle.sip_verifier.specs.Statuses.{is_accepted, stops_gathering, stops_starting}
use Rattle.sip_verifier.specs.Tasks.{version_of}
use Rattle.sip_verifier.proofs.ListedStops.{stops_listed}
use Rattle.sip_verifier.proofs.RunPromises.{kept, gathering_listed, start_caused, start_listed}
use Rattle.sip_verifier.proofs.RunNegatives.{of_gathered, of_stopped}
use Rattle.sip_verifier.proofs.RunTalks.{tells, said_is, refuses_moves, nothing_reported, some_value}
use Rattle.sip_verifier.proofs.StreamPromises.{after_start, goes_behind}
use Rattle.sip_verifier.proofs.GatheredRuns.{after_gather}
use Rattle.sip_verifier.specs.Questions.{asking}
use Rattle.sip_verifier.proofs.SeatedBehind.{seats_left}
use Rattle.sip_verifier.proofs.KeptRuns.{asked_kept, both_move, gather_kept, head_moves, replies_move, start_kept, talk_moves}
use Rattle.sip_verifier.proofs.QueryPromises.{all_read}
use Rattle.sip_verifier.proofs.checking.check_stream.Goals as goal

pub conclude_session-requires-clause-most : goal.conclude_session-requires-clause-most
conclude_session-requires-clause-most g c =
    let (gathered, weights, keeps, told, (seats, came, starts)) = c.in-Ok.ensures.gathers in
    let seated = rw came at (keeps no_port no_port).seated in
    let lent : c.deref_mut.result.now ≡ c.in-Ok.session.value = search rules in
    let size = sym (length-map seats.seats (λ (seat : Seated). seat.query)) ∙ ap length seated.1 in
    let few : length c.args.task.now.queries.items ≤ most_queries = omega (arith, c.len-asked.ensures.value, c.len-asked.ensures.fits) in
    rw (lent, starts.2) (subst (λ (n : ℕ). n ≤ most_queries) (sym size) few)

pub returns-in-Err-clause-seed : goal.returns-in-Err-clause-seed
returns-in-Err-clause-seed g c =
    let (gathered, weights, keeps, told, opened) = c.gather_session.ensures.gathers in
    (keeps no_port no_port).seed

pub returns-clause-seed : goal.returns-clause-seed
returns-clause-seed g c =
    let (gathered, weights, keeps, told, opened) = c.gather_session.ensures.gathers in
    (keeps no_port no_port).seed

pub returns-in-Err-clause-keeps : goal.returns-in-Err-clause-keeps
returns-in-Err-clause-keeps g c =
    let report = port g.K.Sink.talk g.K.Sink.faults c.args.report.now in
    let (seated, weights, all_keeps, told, unopened) = c.in-Err.ensures.gathers in
    let keeps = all_keeps report report in
    let some : 1 ≤ c.args.task.now.depth = omega (arith, c.get-levels.ensures.same, c.get-levels.ensures.some) in
    let most : c.args.task.now.depth ≤ most_depth = omega (arith, c.get-levels.ensures.same, c.get-levels.ensures.most) in
    elim unopened [
      | inl is ↦
          let stops = rw is at keeps.fault in
          kept c.args.task.now c.requires some most
          (λ x t. after_gather asking c.args.task.now.queries.items c.args.task.now x _ _ c.in-Err.status _ _ t.talk (nothing_reported _ _ t.report) (rw is at keeps.gathers x.stream x.seed t.stream t.seed) stops.1)
          (λ x t. gather_kept c.args.task.now x _ _ _ _ t.talk c.in-Err.status (rw is at keeps.gathers x.stream x.seed t.stream t.seed) (rw is at keeps.kept x.seed t.seed))
          (λ told.
          let bytes = some_value _ told.first in
          let seed = some_value _ told.second in
          let went = refuses_moves c.args.task.now bytes.0 seed.0 _ _ c.in-Err.status (rw is at keeps.gathers bytes.0 seed.0 bytes.1 seed.1) in
          let head = head_moves c.args.task.now seed.0 _ _ seated (keeps.kept seed.0 seed.1) in
          tells _ _ told keeps.told went.0 went.1 [] (GoesOn-refl _) head.0 head.1)
          stops.1 (gathering_listed c.in-Err.status stops.0)
      | inr (seats, start, is, starts, same) ↦
          rw same
          (kept c.args.task.now c.requires some most
          (λ x t.
          let gathered = rw is at keeps.gathers x.stream x.seed t.stream t.seed in
          after_start c.args.task.now x _ _ (blocks c.args.task.now gathered.challenges) (version_of c.args.task.now) seats start gathered.passed.stand starts
          (gathered.challenges, gathered.draws) gathered.passed.to_end (said_is _ _ _ _ gathered.passed.talk t.talk) (nothing_reported _ _ t.report))
          (λ x t.
          let gathered = rw is at keeps.gathers x.stream x.seed t.stream t.seed in
          start_kept c.args.task.now x _ _ start (said_is _ _ _ _ gathered.passed.talk t.talk) (rw is at keeps.kept x.seed t.seed))
          (λ told.
          let bytes = some_value _ told.first in
          let seed = some_value _ told.second in
          let gathered = rw is at keeps.gathers bytes.0 seed.0 bytes.1 seed.1 in
          let head = head_moves c.args.task.now seed.0 _ _ seated (keeps.kept seed.0 seed.1) in
          tells _ _ told keeps.told _ gathered.passed.talk [] (GoesOn-refl _) head.0 head.1)
          (start_caused start _ _) (start_listed start))
    ]

pub returns-clause-keeps : goal.returns-clause-keeps
returns-clause-keeps g c =
    let report = port g.K.Sink.talk g.K.Sink.faults c.args.report.now in
    let (seated, weights, all_keeps, told, (seats, came, starts)) = c.in-Ok.ensures.gathers in
    let keeps = all_keeps report report in
    let lent : c.deref_mut.result.now ≡ c.in-Ok.session.value = search rules in
    let speaks = ap (λ (s : Sitting). s.version) lent ∙ starts.0 in
    let talk_kept = (rw speaks at c.conclude_session.ensures.keeps).kept in
    let stops = stops_listed (λ status. is_accepted status || stops_gathering status || stops_starting status) refl _ _ _ _ _ _ _ _ _ _ _ _ c.conclude_session.result c.gather_session.ensures.peer.later c.gather_session.ensures.keep.later (c.conclude_session.ensures.keeps.fault _ _ _ _) in
    rw c.status_of.ensures
    (kept c.args.task.now c.requires (omega (arith, c.get-levels.ensures.same, c.get-levels.ensures.some)) (omega (arith, c.get-levels.ensures.same, c.get-levels.ensures.most))
    (λ x t.
    let gathered = rw came at keeps.gathers x.stream x.seed t.stream t.seed in
    c.conclude_session.ensures.ends (inquiry_of c.args.task.now x) x _ _ (rw lent (goes_behind c.args.task.now x gathered starts refl t.talk t.report (all_read t.unread gathered.passed.read))) stops.0)
    (λ x t.
    let gathered = rw came at keeps.gathers x.stream x.seed t.stream t.seed in
    asked_kept c.args.task.now x _ _ _ _ _ _ gathered.passed.talk t.talk (rw came at keeps.kept x.seed t.seed) c.conclude_session.result stops.2 talk_kept)
    (λ is.
    let bytes = some_value _ is.first in
    let seed = some_value _ is.second in
    let gathered = rw came at keeps.gathers bytes.0 seed.0 bytes.1 seed.1 in
    let behind = seats_left c.args.task.now.depth c.args.task.now.queries.items _ (legal c.args.task.now bytes.0) seats _ _ gathered.passed.stand starts in
    let wrote = c.conclude_session.ensures.wrote (legal c.args.task.now bytes.0) (rw lent behind.1) in
    let head = head_moves c.args.task.now seed.0 _ _ seated (keeps.kept seed.0 seed.1) in
    let kept_to = both_move _ _ _ head (replies_move _ _ _ _ _ c.conclude_session.result talk_kept) in
    let went = talk_moves _ _ _ _ _ c.conclude_session.result talk_kept in
    tells _ _ is keeps.told _ (GoesOn-trans _ _ _ _ _ gathered.passed.talk went.1) wrote.0 wrote.1 kept_to.0 kept_to.1)
    stops.0 stops.1)

pub returns-in-Err-clause-negatives : goal.returns-in-Err-clause-negatives
returns-in-Err-clause-negatives g c = λ bytes seed read drawn.
    let (seated, weights, all_keeps, tells, unopened) = c.in-Err.ensures.gathers in
    let told = tells bytes seed read drawn in
    elim unopened [
      | inl is ↦ of_stopped c.args.task.now bytes c.in-Err.status _ (rw is at (all_keeps no_port no_port).fault).0 (rw is at told)
      | inr (seats, start, is, starts, same) ↦ of_gathered c.args.task.now bytes c.in-Err.status _ (rw is at told)
    ]

pub returns-clause-negatives : goal.returns-clause-negatives
returns-clause-negatives g c = λ bytes seed read drawn.
    let (seated, weights, all_keeps, tells, (seats, came, starts)) = c.in-Ok.ensures.gathers in
    rw c.status_of.ensures (of_gathered c.args.task.now bytes (status_of c.conclude_session.result) _ (rw came at (tells bytes seed read drawn)))
