-- What is heard in the talk of one query: the replies, one after another.
use Rattle.std.proofs.Common.{◌≡◌, ℕ, ◌+◌, ◌≤◌, List, [], ◌∷◌, ◌++◌, length, sym, refl, ap, ◌∙◌, arith, append-nil}
use Rattle.std.specs.Prelude.{flat_map}
use Rattle.sip_ports.specs.declared.port.TalkEvent.{TalkEvent}
use Rattle.sip_ports.specs.Ports.{outs, ins, heard}
use Rattle.sip_ports.proofs.TalkLemmas.{heard-append, heard-ins, heard-outs}
use Rattle.sip_wire.specs.declared.message.Message.{Message}
use Rattle.sip_wire.specs.declared.message.Message.TheVariants as messages
use Rattle.sip_wire.specs.declared.version.Version.{Version}
use Rattle.sip_wire.specs.Spelling.{spelling}
use Rattle.sip_replies.specs.Replies.{joined}
use Rattle.sip_replies.specs.Talks.{sent, exchanged, asked}

-- what follows something that was sent
pub after_sent : (bytes : List ℕ) (talk : List TalkEvent) → heard (outs bytes ++ talk) ≡ heard talk
after_sent bytes talk = heard-append (outs bytes) talk ∙ ap (λ l. l ++ heard talk) (heard-outs bytes)

-- what stands before it
pub before_sent : (talk : List TalkEvent) (bytes : List ℕ) → heard (talk ++ outs bytes) ≡ heard talk
before_sent talk bytes = heard-append talk (outs bytes) ∙ ap (λ l. heard talk ++ l) (heard-outs bytes) ∙ append-nil (heard talk)

heard-exchanged : (version : Version) (replies : List (List ℕ)) (challenges : List ℕ)
    → length replies ≤ length challenges + 1 → heard (exchanged version replies challenges) ≡ joined replies
heard-exchanged version [] challenges few = refl
heard-exchanged version (r ∷ []) challenges few = heard-ins r ∙ sym (append-nil r)
heard-exchanged version (r ∷ next ∷ more) [] few = absurd (omega arith)
heard-exchanged version (r ∷ next ∷ more) (c ∷ challenges) few =
    heard-append (ins r ++ sent version (messages.Reveal c ∷ [])) (exchanged version (next ∷ more) challenges)
    ∙ ap (λ l. l ++ heard (exchanged version (next ∷ more) challenges))
    (before_sent (ins r) (flat_map (spelling version) (messages.Reveal c ∷ [])) ∙ heard-ins r)
    ∙ ap (λ l. r ++ l) (heard-exchanged version (next ∷ more) challenges (omega arith))

-- where no more replies came than there are challenges
pub heard-asked : (version : Version) (request : Message) (block : List ℕ) (replies : List (List ℕ))
    → length replies ≤ length block → heard (asked version request block replies) ≡ joined replies
heard-asked version request block replies few =
    after_sent (flat_map (spelling version) (request ∷ [])) (exchanged version replies block)
    ∙ heard-exchanged version replies block (omega arith)
