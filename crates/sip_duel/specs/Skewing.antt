-- What a skewed helper hears: an honest one hears it, with one update more before the end.
use Rattle.std.specs.Prelude.{◌≡◌, Bool, true, false, [], ◌∷◌, Option, Some, None, pos}
use Rattle.sip_vector.specs.declared.update.Side.TheVariants.{First}
use Rattle.sip_wire.specs.declared.message.Message.{Message}
use Rattle.sip_wire.specs.declared.message.Message.TheVariants as messages
use Rattle.sip_helper.specs.Turns.{HelperState, is_allowed, step}
use Rattle.sip_duel.specs.Helping.{Hears}

-- the frame that counts item 0 of the first side once
abbrev pub one_update : Message
one_update =
    messages.Updates (record { items = record { side = First; item = 0; delta = pos 1 } ∷ [] })

-- a message that may come steps the state, and another one is passed over
abbrev pub PassesBy : Bool → HelperState → Message → Option HelperState → Type 0
PassesBy true s m new = (refused : Bool) × (new ≡ Some (step s refused m))
PassesBy false s m new = new ≡ Some s

abbrev pub Passes : Option HelperState → Message → Option HelperState → Type 0
Passes None m new = new ≡ None
Passes (Some s) m new = PassesBy (is_allowed s m) s m new

-- one update more, where it may come, and then the end of the stream
abbrev pub HearsSkewedEnd : Option HelperState → Option HelperState → Type 0
HearsSkewedEnd old new =
    (between : Option HelperState) × Passes old one_update between
    × Hears between messages.EndStream new
