use Rattle.std.proofs.Common.{refl, ap, ◌∙◌}
use Rattle.sip_field.specs.Elements.{m61_number}
use Rattle.sip_field.specs.Moduli.{m61_modulus}
use Rattle.sip_sums.specs.Protocol.{sum_asked, sum_protocol}
use Rattle.sip_verifier.specs.QuerySeats.{Seated}
use Rattle.sip_verifier.proofs.AskedOver.{asked_over}
use Rattle.sip_verifier.proofs.SeatAsked.{asked_has_spelling}
use Rattle.sip_verifier.proofs.seat_asking.ask_sum.Goals as goal

pub ask-requires-clause-fits : goal.ask-requires-clause-fits
ask-requires-clause-fits g c =
    asked_has_spelling c.args.version c.args.seat.now _ (ap (λ (s : Seated). s.query) c.seat.view_is) c.requires.seat c.requires.speaks

pub ask-requires-clause-stood : goal.ask-requires-clause-stood
ask-requires-clause-stood g c = (_, c.start-check.ensures.stands c.args.version c.args.entries.now)

pub returns-clause-over : goal.returns-clause-over
returns-clause-over g c =
    let asked = ap (λ (s : Seated). s.query) c.seat.view_is in
    let stood = c.start-check.ensures.stands c.args.version c.args.entries.now in
    let e = c.ask.ensures in
    asked_over (sum_protocol (sum_asked c.args.version m61_modulus (m61_number c.args.product))) c.args.seat.now.query c.args.seat.now.block _ c.args.entries.now c.ask.new.places c.ask.result _ _ _ _
    (c.start-check.ensures.block ∙ c.block.ensures)
    (rw asked at (e.answers _ refl stood)) e.places e.peer e.keeper e.memory e.keeper_memory
