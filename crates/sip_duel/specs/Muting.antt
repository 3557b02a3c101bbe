-- A link to a helper that says nothing, and what a run over it comes to.
use Rattle.std.specs.Prelude.{◌≡◌, ℕ, Bool, [], Option}
use Rattle.sip_ports.specs.Memory.{sink_bytes}
use Rattle.sip_wire.specs.declared.message.Reason.{Reason}
use Rattle.sip_wire.specs.declared.message.Reason.TheVariants as reasons
use Rattle.sip_verifier.specs.declared.status.Status.{Status}
use Rattle.sip_verifier.specs.declared.status.Status.TheVariants as statuses
use Rattle.sip_duel.specs.declared.kept.Kept.{Kept}
use Rattle.sip_duel.specs.Helping.{IsMute}

-- the link's helper says nothing, and nothing was appended
abbrev pub IsSilent : {H : Type 0} → (H → Bool) → Option H → Kept → Type 0
IsSilent is_mute helper k = IsMute is_mute helper × (sink_bytes k.out ≡ [])

-- a query is rejected only since the link had ended where its first reply was due
abbrev pub DuelCloses : Status → Type 0
DuelCloses status =
    (query round : ℕ) (reason : Reason) → status ≡ statuses.Rejected query round reason
    → (round ≡ 0) × (reason ≡ reasons.Closed)
