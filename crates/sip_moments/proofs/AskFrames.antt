-- Each moment can be asked in each version.
use Rattle.std.proofs.Common.{ℕ, ◌<◌, ◌^◌, refl, arith}
use Rattle.std.specs.Prelude.{IsTrue}
use Rattle.std.proofs.lemmas.Bool.{lt-ltb}
use Rattle.sip_vector.specs.declared.update.Side.{Side}
use Rattle.sip_vector.specs.declared.update.Side.TheVariants.{First, Second}
use Rattle.sip_wire.specs.declared.message.Message.TheVariants as messages
use Rattle.sip_wire.specs.declared.version.Version.{Version}
use Rattle.sip_wire.specs.Spelling.{all_hold, fits, has_room, side_number}
use Rattle.sip_moments.specs.declared.moment.Moment.{Moment}
use Rattle.sip_moments.specs.Questions.{ask_of}

by_side : (version : Version) (side : Side) (degree : ℕ) → degree < 256
    → IsTrue (fits version (messages.AskMoment (side_number side) degree))
unfolding fits has_room all_hold
by_side version First degree small =
    let room = lt-ltb degree (256 ^ 1) (omega (arith, small)) in rw room refl
by_side version Second degree small =
    let room = lt-ltb degree (256 ^ 1) (omega (arith, small)) in rw room refl

pub ask_fits : (version : Version) (m : Moment) → m.degree < 256
    → IsTrue (fits version (ask_of m))
ask_fits version m small = by_side version m.side m.degree small
