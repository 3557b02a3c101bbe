-- The frame of a challenge.
use Rattle.std.proofs.Common.{◌≡◌, ℕ, append-nil}
use Rattle.sip_wire.specs.declared.message.Message.TheVariants as messages
use Rattle.sip_wire.specs.declared.version.Version.{Version}
use Rattle.sip_wire.specs.Spelling.{in_bytes, spelled, body_of}

-- the body of a challenge is its number
pub reveal_body : (version : Version) (challenge : ℕ) → body_of version (messages.Reveal challenge) ≡ in_bytes 8 challenge
unfolding in_bytes spelled
reveal_body version challenge = append-nil (in_bytes 8 challenge)
