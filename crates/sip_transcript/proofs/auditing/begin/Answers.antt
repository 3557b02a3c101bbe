-- The seats stand for the stream where it was passed on, and the session has them.
use Rattle.std.proofs.Common.{rules, None, refl}
use Rattle.std.proofs.lemmas.Result.{MatchResult-weaker, err_from_is_err_and}
use Rattle.sip_stream.proofs.LegalRecords.{records_legal}
use Rattle.sip_vector.specs.Pieces.{cut}
use Rattle.sip_verifier.specs.Gathering.{legal}
use Rattle.sip_verifier.proofs.KeptHead.{following_gathers}
use Rattle.sip_verifier.proofs.RunNegatives.{of_gathered, of_stopped}
use Rattle.sip_transcript.proofs.Heading.{begun, following_audits, not_begun, not_passed_on, over_seats, seats_speak, stand_kept}
use Rattle.sip_transcript.proofs.auditing.begin.Goals as goal

pub returns-in_err-weights-clause-begins : goal.returns-in_err-weights-clause-begins
returns-in_err-weights-clause-begins g c = λ bytes told.
    let task = c.args.task.now in
    let p = err_from_is_err_and c.from_residual.result c.from_residual.ensures.1 in
    let stand = stand_kept task c.args.challenges.now _ _ _ c.seat.ensures c.in-Ok.is c.keep_tables.ensures in
    rw (p.1, p.2)
    (not_passed_on c.args.version task c.args.challenges.now bytes (g.A.Source.left c.follow.new.first) _ _ 0 0 0 0 0 0 None None c.in_err-weights.field-0.0 (c.in_err-weights.ensures.passes_on bytes (cut task.depth c.args.challenges.now) told stand) (c.in_err-weights.ensures.fault 0 0 0 0 0 0).1)

pub returns-in_err-weights-clause-fault : goal.returns-in_err-weights-clause-fault
returns-in_err-weights-clause-fault g c = λ second seconds peer peers report reports keep keeps.
    let p = err_from_is_err_and c.from_residual.result c.from_residual.ensures.1 in
    rw (p.1, p.2)
    (following_audits _ _ second seconds peer peers report reports keep keeps c.in_err-weights.field-0.0 (c.in_err-weights.ensures.fault second seconds report reports keep keeps))

pub returns-in_err-weights-clause-negatives : goal.returns-in_err-weights-clause-negatives
returns-in_err-weights-clause-negatives g c = λ bytes told.
    let p = err_from_is_err_and c.from_residual.result c.from_residual.ensures.1 in
    let status = c.in_err-weights.field-0.0 in
    rw (p.1, p.2) (of_stopped c.args.task.now bytes status _ (following_gathers status (c.in_err-weights.ensures.fault 0 0 0 0 0 0).0) (search rules))

pub open_session-requires : goal.open_session-requires
open_session-requires g c =
    let stand = c.in_ok-weights.ensures.seats.1.stand in
    seats_speak c.args.version c.args.task.now c.args.challenges.now c.requires.0 c.requires.1 c.follow.new.seats stand.levels stand.asked

pub returns-clause-begins : goal.returns-clause-begins
returns-clause-begins g c = λ bytes told.
    let task = c.args.task.now in
    let challenges = c.args.challenges.now in
    let blocks = cut task.depth challenges in
    let stand = stand_kept task challenges _ _ _ c.seat.ensures c.in-Ok.is c.keep_tables.ensures in
    let passed = c.in_ok-weights.ensures.passes_on bytes blocks told stand in
    MatchResult-weaker c.open_session.result
    (over_seats c.open_session.result (λ session. session.value) c.args.version _ c.follow.new.seats refl c.open_session.ensures)
    (λ session starts. begun c.args.version task challenges bytes _ c.follow.new.seats session.value _ _ passed starts)
    (λ status unstarted.
    let (start, starts, why) = unstarted in
    rw why (not_begun c.args.version task challenges bytes _ blocks c.follow.new.seats start _ _ passed starts))

-- what the seats tell of deltas below 0, where the stream was passed on
pub returns-clause-negatives : goal.returns-clause-negatives
returns-clause-negatives g c = λ bytes told.
    let task = c.args.task.now in
    let blocks = cut task.depth c.args.challenges.now in
    let stand = stand_kept task c.args.challenges.now _ _ _ c.seat.ensures c.in-Ok.is c.keep_tables.ensures in
    let passed = c.in_ok-weights.ensures.passes_on bytes blocks told stand in
    let are = c.heavy_negatives.ensures task.depth task.queries.items blocks (legal task bytes) (records_legal task.depth task.form bytes).items passed.stand (c.in_ok-weights.ensures.weights bytes told) in
    MatchResult-weaker c.open_session.result c.open_session.ensures (λ session opened. are) (λ status unopened. of_gathered task bytes status _ are)
