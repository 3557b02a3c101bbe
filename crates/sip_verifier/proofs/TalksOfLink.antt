-- The talk of one query is of the link alone.
use Rattle.std.proofs.Common.{ℕ, Option, Some, None, List, [], ◌∷◌, ◌++◌, flat_map, subst, sym, inl, inr}
use Rattle.sip_ports.specs.Desk.{IsOfLink}
use Rattle.sip_ports.specs.declared.port.TalkEvent.{TalkEvent}
use Rattle.sip_ports.specs.declared.port.TalkEvent.TheVariants.{Out, In, Ended, Fresh, Stored, Renames, Kept}
use Rattle.sip_ports.specs.Ports.{ins}
use Rattle.sip_ports.proofs.DeskLemmas.{IsOfLink-append, IsOfLink-ins, IsOfLink-outs}
use Rattle.sip_vector.specs.Answers.{Answer}
use Rattle.sip_wire.specs.declared.message.Message.{Message}
use Rattle.sip_wire.specs.declared.message.Message.TheVariants as messages
use Rattle.sip_wire.specs.declared.message.Reason.{Reason}
use Rattle.sip_wire.specs.declared.message.Reason.TheVariants as reasons
use Rattle.sip_wire.specs.declared.version.Version.{Version}
use Rattle.sip_wire.specs.Spelling.{spelling}
use Rattle.sip_replies.specs.Replies.{MayEnd}
use Rattle.sip_replies.specs.Talks.{IsPrefix, asked, asked_unless, ending, exchanged, sent}

-- a front of such events is of the link
front_of_link : (front more : List TalkEvent) → IsOfLink (front ++ more) → IsOfLink front
front_of_link [] more h = tt
front_of_link (Out _ ∷ front) more h = front_of_link front more h
front_of_link (In _ ∷ front) more h = front_of_link front more h
front_of_link (Ended ∷ front) more h = front_of_link front more h
front_of_link (Fresh ∷ front) more h = absurd h
front_of_link (Stored _ ∷ front) more h = absurd h
front_of_link (Renames ∷ front) more h = absurd h
front_of_link (Kept ∷ front) more h = absurd h

pub prefix_of_link : (front events : List TalkEvent) → IsPrefix front events → IsOfLink events → IsOfLink front
prefix_of_link front events (more, is) h = front_of_link front more (subst IsOfLink is h)

-- ---- one query

sent_of_link : (version : Version) (ms : List Message) → IsOfLink (sent version ms)
sent_of_link version ms = IsOfLink-outs (flat_map (spelling version) ms)

exchanged_of_link : (version : Version) (replies : List (List ℕ)) (challenges : List ℕ) → IsOfLink (exchanged version replies challenges)
exchanged_of_link version [] challenges = tt
exchanged_of_link version (reply ∷ []) challenges = IsOfLink-ins reply
exchanged_of_link version (reply ∷ next ∷ more) [] = IsOfLink-ins reply
exchanged_of_link version (reply ∷ next ∷ more) (r ∷ challenges) =
    IsOfLink-append (ins reply ++ sent version (messages.Reveal r ∷ [])) (exchanged version (next ∷ more) challenges)
    (IsOfLink-append (ins reply) (sent version (messages.Reveal r ∷ [])) (IsOfLink-ins reply) (sent_of_link version (messages.Reveal r ∷ [])))
    (exchanged_of_link version (next ∷ more) challenges)

pub asked_of_link : (version : Version) (request : Message) (challenges : List ℕ) (replies : List (List ℕ)) → IsOfLink (asked version request challenges replies)
asked_of_link version request challenges replies =
    IsOfLink-append (sent version (request ∷ [])) (exchanged version replies challenges) (sent_of_link version (request ∷ [])) (exchanged_of_link version replies challenges)

pub unless_of_link : (known : Option Answer) (version : Version) (request : Message) (challenges : List ℕ) (replies : List (List ℕ))
    → IsOfLink (asked_unless known version request challenges replies)
unless_of_link None version request challenges replies = asked_of_link version request challenges replies
unless_of_link (Some answer) version request challenges replies = tt

-- ---- its end

pub ending_of_link : (reason : Reason) → IsOfLink (ending reason)
ending_of_link reasons.Closed = tt
ending_of_link _ = tt

pub ended_of_link : {IsOpen : Type 0} (ended : List TalkEvent) → MayEnd IsOpen ended → IsOfLink ended
ended_of_link ended (inl none) = subst IsOfLink (sym none) tt
ended_of_link ended (inr (found, cut)) = subst IsOfLink (sym found) tt
