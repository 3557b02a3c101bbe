use Rattle.sip_replies.proofs.Fed.{Means-fed}
use Rattle.sip_replies.proofs.laws.feeding_is_asking.Goals as goal

pub returns : goal.returns
returns g c asked request block events check places turn part fed =
    Means-fed (g.C.Check.protocol asked) request block (λ s. g.C.Check.stands asked s check places) places turn part events fed
