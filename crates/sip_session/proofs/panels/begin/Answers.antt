-- The session of what was gathered, or why there is none.
use Rattle.std.proofs.Common.{◌≤◌, arith, length}
use Rattle.std.proofs.lemmas.Result.{err_from_is_err_and}
use Rattle.sip_vector.specs.Limits.{most_depth}
use Rattle.sip_verifier.specs.Snapshots.{counts}
use Rattle.sip_verifier.proofs.RunNegatives.{of_stopped}
use Rattle.sip_verifier.proofs.RunPromises.{gathering_listed}
use Rattle.sip_verifier.proofs.SeatsHead.{gathered-speak}
use Rattle.sip_session.proofs.Begun.{begun_counted, begun_listed, begun_named, begun_negatives, gathers_begins, stops_listed}
use Rattle.sip_session.proofs.panels.begin.Goals as goal

pub returns-in_err-gather_all-clause-begins : goal.returns-in_err-gather_all-clause-begins
returns-in_err-gather_all-clause-begins g c = λ bytes seed all told.
    let p = err_from_is_err_and c.from_residual.result c.from_residual.ensures.1 in
    rw (p.1, p.2) (gathers_begins c.args.wide.now bytes seed _ _ _ (length c.args.links.now)
    c.in_err-gather_all.field-0.0 c.in_err-gather_all.ensures.fault.0
    (c.in_err-gather_all.ensures.gathers bytes seed all told))

pub returns-in_err-gather_all-clause-fault : goal.returns-in_err-gather_all-clause-fault
returns-in_err-gather_all-clause-fault g c =
    let p = err_from_is_err_and c.from_residual.result c.from_residual.ensures.1 in
    let stops = c.in_err-gather_all.ensures.fault in
    rw (p.1, p.2) (gathering_listed c.in_err-gather_all.field-0.0 stops.0, stops.1)

pub open_session-requires : goal.open_session-requires
open_session-requires g c =
    let most : c.args.wide.now.depth ≤ most_depth =
    omega (arith, c.get-levels.ensures.same, c.get-levels.ensures.most) in
    gathered-speak c.args.wide.now.depth _ c.version.result c.gather_all.new.gathered most
    c.version.ensures c.in_ok-gather_all.ensures.seated

pub returns-in-Ok-clause-begins : goal.returns-in-Ok-clause-begins
returns-in-Ok-clause-begins g c = λ bytes seed all told.
    let (seats, is, starts) = c.in-Ok.ensures in (
      seats,
      rw is at c.in_ok-gather_all.ensures.gathers bytes seed all told,
      rw c.version.ensures at starts,
    )

pub by_query-requires-clause-counted : goal.by_query-requires-clause-counted
by_query-requires-clause-counted g c =
    begun_counted c.version.result c.gather_all.new.gathered c.in-Err.status c.in-Err.ensures
    (stops_listed (g.A.Source.faults c.args.first.now) (g.A.Source.faults c.gather_all.new.first)
    (g.B.Source.faults c.args.second.now) (g.B.Source.faults c.gather_all.new.second)
    c.gather_all.new.gathered c.in_ok-gather_all.ensures.fault)

pub returns-clause-begins : goal.returns-clause-begins
returns-clause-begins g c = λ bytes seed all told.
    let listed =
    stops_listed (g.A.Source.faults c.args.first.now) (g.A.Source.faults c.gather_all.new.first)
    (g.B.Source.faults c.args.second.now) (g.B.Source.faults c.gather_all.new.second)
    c.gather_all.new.gathered c.in_ok-gather_all.ensures.fault in
    begun_named c.args.wide.now bytes seed (g.A.Source.left c.gather_all.new.first) _ _
    (length c.args.links.now) c.version.result c.gather_all.new.gathered c.in-Err.status _
    c.by_query.result c.gather_all.ensures.count c.by_query.ensures
    c.in-Err.ensures (c.in_ok-gather_all.ensures.gathers bytes seed all told) listed

pub returns-clause-fault : goal.returns-clause-fault
returns-clause-fault g c =
    let before =
    counts (g.A.Source.faults c.args.first.now) (g.B.Source.faults c.args.second.now) 0 0 0 in
    let now =
    counts (g.A.Source.faults c.gather_all.new.first)
    (g.B.Source.faults c.gather_all.new.second) 0 0 0 in
    rw c.by_query.ensures (begun_listed (length c.gather_all.new.links) c.version.result
    c.gather_all.new.gathered c.in-Err.status before now c.in-Err.ensures
    c.in_ok-gather_all.ensures.fault)

pub returns-in_err-gather_all-clause-negatives : goal.returns-in_err-gather_all-clause-negatives
returns-in_err-gather_all-clause-negatives g c = λ bytes seed all told.
    let p = err_from_is_err_and c.from_residual.result c.from_residual.ensures.1 in
    rw (p.1, p.2) (of_stopped c.args.wide.now bytes c.in_err-gather_all.field-0.0 _
    c.in_err-gather_all.ensures.fault.0
    (c.in_err-gather_all.ensures.negatives c.requires.some bytes seed all told))

pub returns-in-Ok-clause-negatives : goal.returns-in-Ok-clause-negatives
returns-in-Ok-clause-negatives g c = λ bytes seed all told.
    let (seats, is, starts) = c.in-Ok.ensures in
    rw is at c.in_ok-gather_all.ensures.negatives c.requires.some bytes seed all told

pub returns-clause-negatives : goal.returns-clause-negatives
returns-clause-negatives g c = λ bytes seed all told.
    let listed =
    stops_listed (g.A.Source.faults c.args.first.now) (g.A.Source.faults c.gather_all.new.first)
    (g.B.Source.faults c.args.second.now) (g.B.Source.faults c.gather_all.new.second)
    c.gather_all.new.gathered c.in_ok-gather_all.ensures.fault in
    rw c.by_query.ensures (begun_negatives (length c.gather_all.new.links) c.args.wide.now bytes
    c.version.result c.gather_all.new.gathered c.in-Err.status _ c.in-Err.ensures listed
    (c.in_ok-gather_all.ensures.negatives c.requires.some bytes seed all told))
