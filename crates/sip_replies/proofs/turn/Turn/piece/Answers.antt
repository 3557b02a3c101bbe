use Rattle.std.proofs.Common.{◌≤◌, List, length, take, subst, arith}
use Rattle.sip_ports.specs.declared.port.TalkEvent.{TalkEvent}
use Rattle.sip_wire.specs.Frames.{frame_bytes}
use Rattle.sip_wire.specs.Spelling.{asked}
use Rattle.sip_replies.specs.Feeding.{IsFed}
use Rattle.sip_replies.proofs.Fed.{short_at, events_more}
use Rattle.sip_replies.proofs.turn.Turn.piece.Goals as goal

pub look-requires-clause-stood : goal.look-requires-clause-stood
look-requires-clause-stood g c = (c.requires.stood.0, c.requires.stood.1, c.requires.stood.2)

pub look-requires-clause-most : goal.look-requires-clause-most
look-requires-clause-most g c =
    let stood = c.requires.stood in
    let place = c.place-place.ensures stood.0 stood.1 c.args.places.now stood.2 in
    let short = short_at c.version-2.result c.args.self.now.version c.place-place.result _ (frame_bytes c.args.frame.now) c.version-2.ensures place stood.3 in
    subst (λ v. length (frame_bytes c.put.new.self) ≤ asked v c.place-place.result (frame_bytes c.put.new.self)) c.version-2.ensures (c.put.ensures.most (omega (arith, short)))

pub returns-clause-some : goal.returns-clause-some
returns-clause-some g c =
    let stood = c.requires.stood in
    let place = c.place-place.ensures stood.0 stood.1 c.args.places.now stood.2 in
    let short = short_at c.version.result c.args.self.now.version c.place-place.result _ (frame_bytes c.args.frame.now) c.version.ensures place stood.3 in
    c.lesser-count.ensures.some (c.room.ensures.some short) (omega (arith, c.requires.some))

pub returns-clause-stands : goal.returns-clause-stands
returns-clause-stands g c asked s stands still_open = c.look.ensures.stands asked s stands (c.place-place.ensures asked s c.args.places.now stands) still_open

pub returns-clause-fed : goal.returns-clause-fed
returns-clause-fed g c asked request block events same fed =
    let P = g.C.Check.protocol asked in
    let next = c.look.ensures.fed asked request block fed.before same (λ s stands. c.place-place.ensures asked s c.args.places.now stands) fed.follows in
    subst (λ (e : List TalkEvent). IsFed P request block e (λ s. g.C.Check.stands asked s c.look.new.check c.look.new.places) c.look.new.places c.look.new.self (frame_bytes c.look.new.frame))
    (events_more fed.before events (frame_bytes c.args.frame.now) (frame_bytes c.put.new.self) (take c.lesser-count.result c.args.bytes.now) fed.last c.put.ensures.takes) next
