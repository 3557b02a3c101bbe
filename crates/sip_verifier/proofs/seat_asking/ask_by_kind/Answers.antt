use Rattle.std.proofs.Common.{◌≡◌, length, refl, sym, ap, ◌∙◌, subst, rules, to_z, of_z, w64}
use Rattle.sip_field.specs.Elements.{m61_number}
use Rattle.sip_field.specs.Moduli.{m61_modulus}
use Rattle.sip_subvec.specs.Protocol.{sub_asked, sub_protocol}
use Rattle.sip_vector.specs.declared.query.Query.{Query}
use Rattle.sip_vector.specs.Answers.{Fits}
use Rattle.sip_vector.specs.Thresholds.{share_of}
use Rattle.sip_verifier.specs.QuerySeats.{Seated}
use Rattle.sip_verifier.specs.Running.{block_of, numbers_of}
use Rattle.sip_verifier.proofs.AskedOver.{asked_over, over_others}
use Rattle.sip_verifier.proofs.SeatAsked.{asked_has_spelling, sub_has_room, sub_protocol_is, sum_is_protocol, range_product, square_product, inner_product, heavy_protocol_is, share_protocol_is}
use Rattle.sip_verifier.proofs.SeatsHead.{seat-fits}
use Rattle.sip_verifier.proofs.WideSeats.{share_some}
use Rattle.sip_verifier.proofs.seat_asking.ask_by_kind.Goals as goal

pub ask-requires-clause-fits : goal.ask-requires-clause-fits
ask-requires-clause-fits g c =
    asked_has_spelling c.args.version c.args.seat.now _ (ap (λ (s : Seated). s.query) c.seat.view_is) c.requires.seat c.requires.speaks

pub ask-requires-clause-stood : goal.ask-requires-clause-stood
ask-requires-clause-stood g c =
    let is = sym (ap (λ (s : Seated). s.query) c.seat.view_is) ∙ c.in-Sub-Root.is-0 in
    let room = sub_has_room c.args.seat.now c.in-Sub-Root.lo c.in-Sub-Root.hi
    (length c.args.entries.now) is c.requires.room in
    (_, c.start-check.ensures.stands c.args.version c.args.entries.now room)

pub returns-in-Sub-Root-clause-over : goal.returns-in-Sub-Root-clause-over
returns-in-Sub-Root-clause-over g c =
    let seat = c.args.seat.now in
    let is = sym (ap (λ (s : Seated). s.query) c.seat.view_is) ∙ c.in-Sub-Root.is-0 in
    let block = sym (ap (λ (s : Seated). s.block) c.seat.view_is) ∙ ap block_of c.in-Sub-Root.is-1 in
    let running = sym (ap (λ (s : Seated). s.running) c.seat.view_is) ∙ ap numbers_of c.in-Sub-Root.is-1 in
    let lo = c.in-Sub-Root.lo in
    let hi = c.in-Sub-Root.hi in
    let root = c.in-Sub-Root.root in
    let room = sub_has_room seat lo hi (length c.args.entries.now) is c.requires.room in
    let stood = c.start-check.ensures.stands c.args.version c.args.entries.now room in
    let e = c.ask.ensures in
    over_others (sym block)
    (λ depth stream stands. sub_protocol_is c.args.version depth stream seat root.seat lo hi root.value is running block stands)
    (asked_over (sub_protocol (sub_asked c.args.version m61_modulus root.value lo hi root.seat)) seat.query root.seat _ c.args.entries.now c.ask.new.places c.ask.result _ _ _ _
    c.start-check.ensures.block
    (rw (ap (λ (s : Seated). s.query) c.seat.view_is) at (e.answers _ refl stood)) e.places e.peer e.keeper e.memory e.keeper_memory)

pub returns-in-Range-Point-clause-over : goal.returns-in-Range-Point-clause-over
returns-in-Range-Point-clause-over g c =
    let seat = c.args.seat.now in
    let is = sym (ap (λ (s : Seated). s.query) c.seat.view_is) ∙ c.in-Range-Point.is-0 in
    let block = sym (ap (λ (s : Seated). s.block) c.seat.view_is) ∙ ap block_of c.in-Range-Point.is-1 in
    let running = sym (ap (λ (s : Seated). s.running) c.seat.view_is) ∙ ap numbers_of c.in-Range-Point.is-1 in
    over_others refl
    (λ depth stream stands.
    let product = range_product depth stream seat c.in-Range-Point.side-0 c.in-Range-Point.lo c.in-Range-Point.hi
    c.in-Range-Point.point.value _ _ c.in-Range-Point.point.seat is running block c.interval_at-interval.ensures
    (rw c.value.ensures at c.times-product.ensures) stands in
    sum_is_protocol c.args.version depth stream seat.query seat.block _ _ product.0 product.1)
    c.ask_sum.ensures.over

pub returns-in-F2-Point-clause-over : goal.returns-in-F2-Point-clause-over
returns-in-F2-Point-clause-over g c =
    let seat = c.args.seat.now in
    let is = sym (ap (λ (s : Seated). s.query) c.seat.view_is) ∙ c.in-F2-Point.is-0 in
    let running = sym (ap (λ (s : Seated). s.running) c.seat.view_is) ∙ ap numbers_of c.in-F2-Point.is-1 in
    over_others refl
    (λ depth stream stands.
    let product = square_product depth stream seat c.in-F2-Point.side-0 c.in-F2-Point.point.value _ is running
    (rw (c.value-in-F2-Point.ensures, c.value-in-F2-Point-2.ensures) at c.times-product-in-F2-Point.ensures) stands in
    sum_is_protocol c.args.version depth stream seat.query seat.block _ _ product.0 product.1)
    c.ask_sum-in-F2-Point.ensures.over

pub returns-in-Inner-Points-clause-over : goal.returns-in-Inner-Points-clause-over
returns-in-Inner-Points-clause-over g c =
    let seat = c.args.seat.now in
    let is = sym (ap (λ (s : Seated). s.query) c.seat.view_is) ∙ c.in-Inner-Points.is-0 in
    let running = sym (ap (λ (s : Seated). s.running) c.seat.view_is) ∙ ap numbers_of c.in-Inner-Points.is-1 in
    over_others refl
    (λ depth stream stands.
    let product = inner_product depth stream seat c.in-Inner-Points.points.first.value
    (m61_number c.in-Inner-Points.points.second) _ is running
    (rw c.value-in-Inner-Points.ensures at c.times-product-in-Inner-Points.ensures) stands in
    sum_is_protocol c.args.version depth stream seat.query seat.block _ _ product.0 product.1)
    c.ask_sum-in-Inner-Points.ensures.over

pub returns-in-Heavy-AugRoot-clause-over : goal.returns-in-Heavy-AugRoot-clause-over
returns-in-Heavy-AugRoot-clause-over g c =
    let seat = c.args.seat.now in
    let is = sym (ap (λ (s : Seated). s.query) c.seat.view_is) ∙ c.in-Heavy-AugRoot.is-0 in
    let block = sym (ap (λ (s : Seated). s.block) c.seat.view_is) ∙ ap block_of c.in-Heavy-AugRoot.is-1 in
    let running = sym (ap (λ (s : Seated). s.running) c.seat.view_is) ∙ ap numbers_of c.in-Heavy-AugRoot.is-1 in
    let root = c.in-Heavy-AugRoot.root in
    over_others (sym block)
    (λ depth stream stands. heavy_protocol_is c.args.version depth stream seat root.seat _ c.in-Heavy-AugRoot.at_least root.hash root.total is running block stands)
    c.ask_heavy.ensures.over

-- the share of the total comes to at least 1
pub ask_heavy-requires-in-Share-AugRoot-clause-least :
    goal.ask_heavy-requires-in-Share-AugRoot-clause-least
ask_heavy-requires-in-Share-AugRoot-clause-least g c =
    let seat = c.args.seat.now in
    let is = sym (ap (λ (s : Seated). s.query) c.seat.view_is) ∙ c.in-Share-AugRoot.is-0 in
    let own = subst (λ (q : Query). Fits (length seat.block) q) is (seat-fits (length seat.block) seat seat.block c.requires.seat refl) in
    share_some c.in-Share-AugRoot.num c.in-Share-AugRoot.den (to_z w64 (of_z w64 c.total.result)) own.0 own.1 c.share_of-at_least.ensures

pub returns-in-Share-AugRoot-clause-over : goal.returns-in-Share-AugRoot-clause-over
returns-in-Share-AugRoot-clause-over g c =
    let seat = c.args.seat.now in
    let is = sym (ap (λ (s : Seated). s.query) c.seat.view_is) ∙ c.in-Share-AugRoot.is-0 in
    let block = sym (ap (λ (s : Seated). s.block) c.seat.view_is) ∙ ap block_of c.in-Share-AugRoot.is-1 in
    let running = sym (ap (λ (s : Seated). s.running) c.seat.view_is) ∙ ap numbers_of c.in-Share-AugRoot.is-1 in
    let root = c.in-Share-AugRoot.root in
    let least : c.share_of-at_least.result ≡ share_of c.in-Share-AugRoot.num c.in-Share-AugRoot.den root.total = search rules in
    over_others (sym block)
    (λ depth stream stands. share_protocol_is c.args.version depth stream seat root.seat _ c.in-Share-AugRoot.num c.in-Share-AugRoot.den c.share_of-at_least.result root.hash root.total is least running block stands)
    c.ask_heavy-in-Share-AugRoot.ensures.over
