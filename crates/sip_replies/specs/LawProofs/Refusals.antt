-- The reason of a refusal.
use Rattle.std.proofs.Common.{◌≡◌, ◌≢◌, Result, Err}
use Rattle.sip_wire.specs.declared.message.Reason.{Reason}
use Rattle.sip_wire.specs.declared.message.Reason.TheVariants as reasons

-- two refusals that are the same have the same reason
pub same_err : {X : Type 0} (a b : Reason) → ◌≡◌ {A = Result X Reason} (Err a) (Err b) → a ≡ b
same_err a b e = cc

-- a frame of a wrong kind is not the end of the link
pub wrong_kind : {X : Type 0} (reason : Reason)
    → ◌≡◌ {A = Result X Reason} (Err reasons.BadKind) (Err reason) → reason ≢ reasons.Closed
wrong_kind reason e c = let f = same_err reasons.BadKind reason e in cc
