use Rattle.std.proofs.Common.{length, refl, ap}
use Rattle.sip_field.specs.Moduli.{m61_modulus}
use Rattle.sip_heavy.specs.Protocol.{heavy_asked, heavy_protocol}
use Rattle.sip_verifier.specs.QuerySeats.{Seated}
use Rattle.sip_verifier.proofs.AskedOver.{asked_over}
use Rattle.sip_verifier.proofs.SeatAsked.{asked_has_spelling}
use Rattle.sip_verifier.proofs.seat_asking.ask_heavy.Goals as goal

pub ask-asked-requires-clause-fits : goal.ask-asked-requires-clause-fits
ask-asked-requires-clause-fits g c =
    asked_has_spelling c.args.version c.args.seat.now _ (ap (λ (s : Seated). s.query) c.seat.view_is) c.requires.seat c.requires.speaks

pub ask-asked-requires-clause-stood : goal.ask-asked-requires-clause-stood
ask-asked-requires-clause-stood g c = (_, c.start-check.ensures.stands c.args.version c.args.entries.now c.requires.room)

pub returns-clause-over : goal.returns-clause-over
returns-clause-over g c =
    let asked = ap (λ (s : Seated). s.query) c.seat.view_is in
    let root = c.args.root.now in
    let stood = c.start-check.ensures.stands c.args.version c.args.entries.now c.requires.room in
    let e = c.ask-asked.ensures in
    asked_over (heavy_protocol (heavy_asked c.args.version m61_modulus root.hash root.total (length root.seat) c.args.at_least)) c.args.seat.now.query root.seat _ c.args.entries.now c.ask-asked.new.places c.ask-asked.result _ _ _ _
    c.start-check.ensures.block
    (rw asked at (e.answers _ refl stood)) e.places e.peer e.keeper e.memory e.keeper_memory
