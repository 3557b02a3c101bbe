-- The bytes that went out are those that were due.
use Rattle.std.proofs.Common.{◌≡◌, ◌++◌, ◌∙◌, List, [], ℕ, ap, subst}
use Rattle.sip_ports.specs.Ports.{outs}
use Rattle.sip_ports.specs.declared.port.TalkEvent.{TalkEvent}
use Rattle.sip_ports.proofs.TalkLemmas.{outs-injective}
use Rattle.sip_c.specs.Rooms.{AreHanded}

-- where nothing had gone out before
pub handed : (before now own to to' : List ℕ) (count : ℕ) → before ≡ [] → outs now ≡ outs before ++ outs own → AreHanded now to to' count → AreHanded own to to' count
handed before now own to to' count none sent out =
    let all : outs now ≡ outs own = sent ∙ ap (λ (l : List ℕ). outs l ++ outs own) none in
    subst (λ (l : List ℕ). AreHanded l to to' count) (outs-injective now own all) out
