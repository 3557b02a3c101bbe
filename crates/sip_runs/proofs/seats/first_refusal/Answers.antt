-- A seat whose question may be asked is one more of those before the first that may not.
use Rattle.std.proofs.Common.{sym, subst}
use Rattle.sip_verifier.specs.Weights.{weight_in}
use Rattle.sip_questions.proofs.Refusals.{none_behind, this_there}
use Rattle.sip_runs.specs.Seats.{IsSeated, refusal_at}
use Rattle.sip_runs.proofs.seats.first_refusal.Goals as goal

pub refusal-requires : goal.refusal-requires
refusal-requires c =
    let (version, depth, stream, all) = c.requires.seated in
    (version, depth, stream, subst (IsSeated version depth stream) (sym c.index-seats-index.is) (all c.loop-index.index c.index-seats-index.result c.loop-index-test.true))

pub loop-index-preserved : goal.loop-index-preserved
loop-index-preserved c = none_behind (refusal_at (weight_in c.args.weights.now)) c.args.seats.now c.loop-index.index c.index-seats-index.result c.index-seats-index.is c.loop-index-test.true c.loop-index.invariant c.refusal.result c.refusal.ensures c.in_default.is

pub returns-in-Some : goal.returns-in-Some
returns-in-Some c = this_there (refusal_at (weight_in c.args.weights.now)) c.args.seats.now c.loop-index.index c.index-seats-index.result c.index-seats-index.is c.loop-index-test.true c.loop-index.invariant c.refusal.result c.refusal.ensures c.in-Some.status c.in-Some.is
