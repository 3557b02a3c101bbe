-- The order of bytes in the talk of one query.
use Rattle.std.specs.Prelude.{◌≡◌, ℕ, List, [], ◌∷◌, ◌++◌, flat_map, Option, Some, None}
use Rattle.sip_ports.specs.declared.port.TalkEvent.{TalkEvent}
use Rattle.sip_ports.specs.declared.port.TalkEvent.TheVariants.{Ended}
use Rattle.sip_ports.specs.Ports.{ins, outs}
use Rattle.sip_vector.specs.Answers.{Answer}
use Rattle.sip_wire.specs.declared.message.Message.{Message}
use Rattle.sip_wire.specs.declared.message.Message.TheVariants as messages
use Rattle.sip_wire.specs.declared.message.Reason.{Reason}
use Rattle.sip_wire.specs.declared.message.Reason.TheVariants as reasons
use Rattle.sip_wire.specs.declared.version.Version.{Version}
use Rattle.sip_wire.specs.Spelling.{spelling}

-- ys is xs, with more at its end
abbrev pub IsPrefix : {X : Type 0} → List X → List X → Type 0
IsPrefix {X} xs ys = (more : List X) × (ys ≡ xs ++ more)

-- the messages, sent one after another
abbrev pub sent : Version → List Message → List TalkEvent
sent version ms = outs (flat_map (spelling version) ms)

-- replies, each but the last followed by the next challenge
abbrev pub exchanged : Version → List (List ℕ) → List ℕ → List TalkEvent
exchanged version [] challenges = []
exchanged version (reply ∷ []) challenges = ins reply
exchanged version (reply ∷ next ∷ more) [] = ins reply
exchanged version (reply ∷ next ∷ more) (r ∷ challenges) =
    ins reply ++ sent version (messages.Reveal r ∷ []) ++ exchanged version (next ∷ more) challenges

-- what is asked, and the replies to it so far
abbrev pub asked : Version → Message → List ℕ → List (List ℕ) → List TalkEvent
asked version request challenges replies =
    sent version (request ∷ []) ++ exchanged version replies challenges

-- the same; or nothing, where the answer is known without a reply
abbrev pub asked_unless : Option Answer → Version → Message → List ℕ → List (List ℕ)
    → List TalkEvent
asked_unless None version request challenges replies = asked version request challenges replies
asked_unless (Some known) version request challenges replies = []

-- what follows a fault: the end of the link, where that is the fault
abbrev pub ending : Reason → List TalkEvent
ending reasons.Closed = Ended ∷ []
ending _ = []
