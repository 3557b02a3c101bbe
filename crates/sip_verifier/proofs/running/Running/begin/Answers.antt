-- The running numbers of zeros stand for the stream of none.
use Rattle.std.proofs.Common.{◌∙◌, IsTrue, length, sym, ap, rules}
use Rattle.sip_field.specs.Elements.{m61_number}
use Rattle.sip_verifier.specs.QuerySeats.{keeps, root_is, point_is, points_are, aug_root_is, split_root_is}
use Rattle.sip_verifier.proofs.SeatsGiven.{new_root, new_point, new_points, new_aug_root, new_split_root}
use Rattle.sip_verifier.proofs.running.Running.begin.Goals as goal

pub returns-in-Sub-clause-runs : goal.returns-in-Sub-clause-runs
returns-in-Sub-clause-runs c = λ depth size.
    let kept : IsTrue (keeps c.args.query.now (root_is c.new.result.value)) = search rules in
    record { runs = new_root depth c.new.result.seat (ap length c.new.ensures.seat ∙ size) c.args.query.now _ kept (rw (sym c.new.ensures.seat) at c.new.ensures.stands) }

pub returns-in-Inner-clause-runs : goal.returns-in-Inner-clause-runs
returns-in-Inner-clause-runs c = λ depth size.
    let points = c.new-in-Inner.result in
    let kept : IsTrue (keeps c.args.query.now (points_are points.first.value (m61_number points.second))) = search rules in
    record { runs = new_points depth points.first.seat (ap length c.new-in-Inner.ensures.seat ∙ size) c.args.query.now _ _ kept (rw (sym c.new-in-Inner.ensures.seat) at c.new-in-Inner.ensures.first) (rw (sym c.new-in-Inner.ensures.seat) at c.new-in-Inner.ensures.second) }

pub returns-in-Range-clause-runs : goal.returns-in-Range-clause-runs
returns-in-Range-clause-runs c = λ depth size.
    let kept : IsTrue (keeps c.args.query.now (point_is c.new-in-Range.result.value)) = search rules in
    record { runs = new_point depth c.new-in-Range.result.seat (ap length c.new-in-Range.ensures.seat ∙ size) c.args.query.now _ kept (rw (sym c.new-in-Range.ensures.seat) at c.new-in-Range.ensures.stands) }

pub returns-in-Heavy-clause-runs : goal.returns-in-Heavy-clause-runs
returns-in-Heavy-clause-runs c = λ depth size.
    let kept : IsTrue (keeps c.args.query.now (aug_root_is c.new-in-Heavy.result.hash c.new-in-Heavy.result.total)) = search rules in
    record { runs = new_aug_root depth c.new-in-Heavy.result.seat (ap length c.new-in-Heavy.ensures.seat ∙ size) c.args.query.now _ _ kept (rw (sym c.new-in-Heavy.ensures.seat) at c.new-in-Heavy.ensures.stands) }

pub returns-in-Above-clause-runs : goal.returns-in-Above-clause-runs
returns-in-Above-clause-runs c = λ depth size.
    let root = c.new-in-Above.result in
    let kept : IsTrue (keeps c.args.query.now (split_root_is root.hash root.weight)) = search rules in
    record { runs = new_split_root depth root.seat (ap length c.new-in-Above.ensures.seat ∙ size) c.args.query.now _ _ kept (rw (sym c.new-in-Above.ensures.seat) at c.new-in-Above.ensures.stands) }
