-- The numbers of zeros are those of no update.
use Rattle.std.proofs.Common.{◌≡◌, length, [], refl, ap, sym, subst, ◌∙◌}
use Rattle.sip_field.specs.Elements.{m61_number}
use Rattle.sip_vector.specs.declared.query.Query.TheVariants as queries
use Rattle.sip_vector.specs.declared.update.Side.{Side}
use Rattle.sip_vector.specs.declared.update.Side.TheVariants.{First, Second}
use Rattle.sip_vector.specs.Streams.{weight}
use Rattle.sip_verifier.specs.QuerySeats.{RunsOn, root_is, point_is, points_are, aug_root_is, split_root_is}
use Rattle.sip_sketch.specs.Seats.{beside, query_of, side_of}
use Rattle.sip_sketch.specs.declared.kind.SeatKind.{SeatKind}
use Rattle.sip_verifier.proofs.SeatsGiven.{root_of_none, point_of_none, aug_root_of_none, new_split_root}
use Rattle.sip_sketch.proofs.seat.begun.Goals as goal

pub returns-in-Entries-clause-runs : goal.returns-in-Entries-clause-runs
returns-in-Entries-clause-runs c = λ depth size.
    let root = c.new.result in
    let e = c.new.ensures in
    subst (λ (k : SeatKind). RunsOn depth [] (query_of k) root.seat (beside (weight [] (side_of k)) (root_is root.value))) (sym c.in-Entries.is)
    (root_of_none depth root.seat (ap length e.seat ∙ size) root.value First (rw (sym e.seat) at e.stands))

pub returns-in-Sums-clause-runs : goal.returns-in-Sums-clause-runs
returns-in-Sums-clause-runs c = λ depth size.
    let point = c.new-in-Sums.result in
    let e = c.new-in-Sums.ensures in
    subst (λ (k : SeatKind). RunsOn depth [] (query_of k) point.seat (beside (weight [] (side_of k)) (point_is point.value))) (sym c.in-Sums.is)
    (point_of_none depth point.seat (ap length e.seat ∙ size) point.value c.in-Sums.field-0 (rw (sym e.seat) at e.stands))

pub returns-in-Products-clause-runs : goal.returns-in-Products-clause-runs
returns-in-Products-clause-runs c = λ depth size.
    let points = c.new-in-Products.result in
    let e = c.new-in-Products.ensures in
    let seat = points.first.seat in
    let long = ap length e.seat ∙ size in
    subst (λ (k : SeatKind). RunsOn depth [] (query_of k) seat (beside (weight [] (side_of k)) (points_are points.first.value (m61_number points.second)))) (sym c.in-Products.is) (
      point_of_none depth seat long points.first.value First (rw (sym e.seat) at e.first),
      point_of_none depth seat long (m61_number points.second) Second (rw (sym e.seat) at e.second),
    )

pub returns-in-Heavy-clause-runs : goal.returns-in-Heavy-clause-runs
returns-in-Heavy-clause-runs c = λ depth size.
    let root = c.new-in-Heavy.result in
    let e = c.new-in-Heavy.ensures in
    subst (λ (k : SeatKind). RunsOn depth [] (query_of k) root.seat (beside (weight [] (side_of k)) (aug_root_is root.hash root.total))) (sym c.in-Heavy.is)
    (aug_root_of_none depth root.seat (ap length e.seat ∙ size) root.hash root.total c.in-Heavy.field-0 (rw (sym e.seat) at e.stands))

pub returns-in-Above-clause-runs : goal.returns-in-Above-clause-runs
returns-in-Above-clause-runs c = λ depth size.
    let root = c.new-in-Above.result in
    let e = c.new-in-Above.ensures in
    let stands = new_split_root depth root.seat (ap length e.seat ∙ size) (queries.Above c.in-Above.field-0 1) root.hash root.weight refl (rw (sym e.seat) at e.stands) in
    subst (λ (k : SeatKind). RunsOn depth [] (query_of k) root.seat (beside (weight [] (side_of k)) (split_root_is root.hash root.weight))) (sym c.in-Above.is)
    (subst (λ n. RunsOn depth [] (queries.Above c.in-Above.field-0 1) root.seat (split_root_is root.hash n)) (e.weight ∙ sym (none_weighs c.in-Above.field-0)) stands)
  where
    none_weighs : (side : Side) → weight [] side ≡ 0
    none_weighs First = refl
    none_weighs Second = refl
