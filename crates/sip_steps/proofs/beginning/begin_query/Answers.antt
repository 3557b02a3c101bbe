-- The question of each kind is judged by the protocol of the stream whose numbers these are.
use Rattle.std.proofs.Common.{◌≡◌, [], sym, ap, subst, rules, to_z, of_z, w64}
use Rattle.std.specs.Prelude.{IfOk}
use Rattle.sip_field.specs.Elements.{m61_number}
use Rattle.sip_vector.specs.Answers.{Fits}
use Rattle.sip_vector.specs.Thresholds.{share_of}
use Rattle.sip_vector.specs.declared.query.Query.{Query}
use Rattle.sip_verifier.specs.declared.running.Running.{Running}
use Rattle.sip_verifier.specs.QuerySeats.{aug_root_is, point_is, points_are, root_is}
use Rattle.sip_verifier.proofs.WideSeats.{share_some}
use Rattle.sip_steps.specs.declared.opening.Opening.TheVariants as openings
use Rattle.sip_steps.specs.Openings.{subject_of}
use Rattle.sip_steps.specs.Posed.{IsPosed}
use Rattle.sip_steps.proofs.Beginnings.{entries_kind, heavy_kind, inner_kind, opening_fits, range_kind, share_kind, square_kind}
use Rattle.sip_steps.proofs.beginning.begin_query.Goals as goal

pub begin_entries-requires-clause-fits : goal.begin_entries-requires-clause-fits
begin_entries-requires-clause-fits c = opening_fits c.args.version c.args.depth (openings.Query c.args.query) c.requires.can

pub begin_sum-requires : goal.begin_sum-requires
begin_sum-requires c = record { fits = opening_fits c.args.version c.args.depth (openings.Query c.args.query) c.requires.can }

pub begin_sum-requires-in-F2-Point : goal.begin_sum-requires-in-F2-Point
begin_sum-requires-in-F2-Point c = record { fits = opening_fits c.args.version c.args.depth (openings.Query c.args.query) c.requires.can }

pub begin_sum-requires-in-Inner-Points : goal.begin_sum-requires-in-Inner-Points
begin_sum-requires-in-Inner-Points c = record { fits = opening_fits c.args.version c.args.depth (openings.Query c.args.query) c.requires.can }

pub begin_heavy-requires-clause-fits : goal.begin_heavy-requires-clause-fits
begin_heavy-requires-clause-fits c = opening_fits c.args.version c.args.depth (openings.Query c.args.query) c.requires.can

pub begin_heavy-requires-in-Share-AugRoot-clause-fits : goal.begin_heavy-requires-in-Share-AugRoot-clause-fits
begin_heavy-requires-in-Share-AugRoot-clause-fits c = opening_fits c.args.version c.args.depth (openings.Query c.args.query) c.requires.can

-- the share of the total comes to at least 1
pub begin_heavy-requires-in-Share-AugRoot-clause-least : goal.begin_heavy-requires-in-Share-AugRoot-clause-least
begin_heavy-requires-in-Share-AugRoot-clause-least c =
    let own = subst (λ (q : Query). Fits c.args.depth q) c.in-Share-AugRoot.is-0 c.requires.can.0.1 in
    share_some c.in-Share-AugRoot.num c.in-Share-AugRoot.den (to_z w64 (of_z w64 c.total.result)) own.0 own.1 c.share_of-at_least.ensures

pub returns-in-Sub-Root : goal.returns-in-Sub-Root
returns-in-Sub-Root c =
    let o = openings.Query c.args.query in
    let root = c.in-Sub-Root.root in
    subst (λ (r : Running). IfOk c.begin_entries.result (IsPosed (subject_of c.args.version c.args.depth o r) [])) (sym c.in-Sub-Root.is-1)
    (c.begin_entries.ensures.posed c.args.depth (root_is root.value)
    (entries_kind c.args.version c.args.depth o root.seat c.in-Sub-Root.lo c.in-Sub-Root.hi root.value (ap openings.Query c.in-Sub-Root.is-0)))

pub returns-in-Range-Point : goal.returns-in-Range-Point
returns-in-Range-Point c =
    let o = openings.Query c.args.query in
    let point = c.in-Range-Point.point in
    subst (λ (r : Running). IfOk c.begin_sum.result (IsPosed (subject_of c.args.version c.args.depth o r) [])) (sym c.in-Range-Point.is-1)
    (c.begin_sum.ensures.posed c.args.depth (point_is point.value)
    (range_kind c.args.version c.args.depth o point.seat c.in-Range-Point.side-0 c.in-Range-Point.lo c.in-Range-Point.hi point.value (m61_number c.interval_at-interval.result) (m61_number c.times-product.result)
    (ap openings.Query c.in-Range-Point.is-0) c.interval_at-interval.ensures (rw c.value.ensures at c.times-product.ensures)))

pub returns-in-F2-Point : goal.returns-in-F2-Point
returns-in-F2-Point c =
    let o = openings.Query c.args.query in
    let point = c.in-F2-Point.point in
    subst (λ (r : Running). IfOk c.begin_sum-in-F2-Point.result (IsPosed (subject_of c.args.version c.args.depth o r) [])) (sym c.in-F2-Point.is-1)
    (c.begin_sum-in-F2-Point.ensures.posed c.args.depth (point_is point.value)
    (square_kind c.args.version c.args.depth o point.seat c.in-F2-Point.side-0 point.value (m61_number c.times-product-in-F2-Point.result)
    (ap openings.Query c.in-F2-Point.is-0) (rw (c.value-in-F2-Point.ensures, c.value-in-F2-Point-2.ensures) at c.times-product-in-F2-Point.ensures)))

pub returns-in-Inner-Points : goal.returns-in-Inner-Points
returns-in-Inner-Points c =
    let o = openings.Query c.args.query in
    let points = c.in-Inner-Points.points in
    subst (λ (r : Running). IfOk c.begin_sum-in-Inner-Points.result (IsPosed (subject_of c.args.version c.args.depth o r) [])) (sym c.in-Inner-Points.is-1)
    (c.begin_sum-in-Inner-Points.ensures.posed c.args.depth (points_are points.first.value (m61_number points.second))
    (inner_kind c.args.version c.args.depth o points.first.seat points.first.value (m61_number points.second) (m61_number c.times-product-in-Inner-Points.result)
    (ap openings.Query c.in-Inner-Points.is-0) (rw c.value-in-Inner-Points.ensures at c.times-product-in-Inner-Points.ensures)))

pub returns-in-Heavy-AugRoot : goal.returns-in-Heavy-AugRoot
returns-in-Heavy-AugRoot c =
    let o = openings.Query c.args.query in
    let root = c.in-Heavy-AugRoot.root in
    subst (λ (r : Running). IfOk c.begin_heavy.result (IsPosed (subject_of c.args.version c.args.depth o r) [])) (sym c.in-Heavy-AugRoot.is-1)
    (c.begin_heavy.ensures.posed c.args.depth (aug_root_is root.hash root.total)
    (heavy_kind c.args.version c.args.depth o root.seat c.in-Heavy-AugRoot.side-0 c.in-Heavy-AugRoot.at_least root.hash root.total (ap openings.Query c.in-Heavy-AugRoot.is-0)))

pub returns-in-Share-AugRoot : goal.returns-in-Share-AugRoot
returns-in-Share-AugRoot c =
    let o = openings.Query c.args.query in
    let root = c.in-Share-AugRoot.root in
    let least : c.share_of-at_least.result ≡ share_of c.in-Share-AugRoot.num c.in-Share-AugRoot.den root.total = search rules in
    subst (λ (r : Running). IfOk c.begin_heavy-in-Share-AugRoot.result (IsPosed (subject_of c.args.version c.args.depth o r) [])) (sym c.in-Share-AugRoot.is-1)
    (c.begin_heavy-in-Share-AugRoot.ensures.posed c.args.depth (aug_root_is root.hash root.total)
    (share_kind c.args.version c.args.depth o root.seat c.in-Share-AugRoot.side-0 c.in-Share-AugRoot.num c.in-Share-AugRoot.den c.share_of-at_least.result root.hash root.total (ap openings.Query c.in-Share-AugRoot.is-0) least))
