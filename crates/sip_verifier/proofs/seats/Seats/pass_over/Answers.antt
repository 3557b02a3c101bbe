-- A seat that does not take them is one more of those before.
use Rattle.std.proofs.Common.{◌≡◌, ◌<◌, ◌≤◌, All, false, length, get_or, rules, ap, sym, subst, take, take_all}
use Rattle.std.proofs.lemmas.List.{take_more}
use Rattle.std.proofs.lemmas.List.Elements.{All-push}
use Rattle.sip_verifier.specs.QuerySeats.{Seated, concerns}
use Rattle.sip_verifier.specs.Seats.{Seating}
use Rattle.sip_verifier.proofs.seats.Seats.pass_over.Goals as goal

pub loop-seat-preserved : goal.loop-seat-preserved
loop-seat-preserved c =
    let seats = c.args.self.now.seats in
    let Other : Seated → Type 0 = λ (s : Seated). concerns s.query c.args.side ≡ false in
    let items = ap (λ (s : Seating). s.seats) c.self.view_is in
    let below : c.loop-seat.seat-index < length seats = search rules in
    let here : get_or seats c.loop-seat.seat-index c.seat-item.result ≡ c.seat-item.result = search rules in
    let other : concerns c.seat-item.result.query c.args.side ≡ false = search rules in
    subst (All Other) (sym (take_more seats c.loop-seat.seat-index c.seat-item.result below))
    (All-push Other (take c.loop-seat.seat-index seats) (get_or seats c.loop-seat.seat-index c.seat-item.result) c.loop-seat.invariant (subst Other (sym here) other))

pub returns : goal.returns
returns c = λ _.
    let seats = c.args.self.now.seats in
    let end : length seats ≤ c.loop-seat.seat-index = search rules in
    subst (All (λ (s : Seated). concerns s.query c.args.side ≡ false)) (take_all c.loop-seat.seat-index seats end) c.loop-seat.invariant
