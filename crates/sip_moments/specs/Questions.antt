-- What is asked for a moment.
use Rattle.sip_wire.specs.declared.message.Message.{Message}
use Rattle.sip_wire.specs.declared.message.Message.TheVariants as messages
use Rattle.sip_wire.specs.Spelling.{side_number}
use Rattle.sip_moments.specs.declared.moment.Moment.{Moment}

-- the message that asks for it
abbrev pub ask_of : Moment → Message
ask_of m = messages.AskMoment (side_number m.side) m.degree
