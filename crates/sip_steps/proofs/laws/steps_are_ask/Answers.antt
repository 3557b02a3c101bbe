-- What a turn is fed means what whoever asks over a link is answered.
use Rattle.sip_wire.specs.Frames.{frame_bytes}
use Rattle.sip_replies.proofs.Fed.{Means-fed}
use Rattle.sip_steps.proofs.laws.steps_are_ask.Goals as goal

pub returns : goal.returns
returns g c asked request block events a is =
    Means-fed (g.C.Check.protocol asked) request block (λ s. g.C.Check.stands asked s a.check a.places.items) a.places.items a.turn (frame_bytes a.frame) events is.fed
