-- What a frame shows, and what receiving more of it does.
use Rattle.std.specs.Prelude.{◌≡◌, ℕ, ◌<◌, List, ◌++◌, if◌then◌else◌, length, take, Option, Result}
use Rattle.std.specs.Prelude.{MatchResult}
use Rattle.sip_ports.specs.declared.port.TalkEvent.{TalkEvent}
use Rattle.sip_ports.specs.Ports.{GoesOn, ins}
use Rattle.sip_wire.specs.declared.frame.Frame.{Frame}
use Rattle.sip_wire.specs.declared.message.Message.{Message}
use Rattle.sip_wire.specs.declared.message.WireFault.{WireFault}
use Rattle.sip_wire.specs.Faults.{IsOfLink, ended_by}

-- what was received of it
abbrev pub frame_bytes : Frame → List ℕ
frame_bytes f = take f.taken f.buffer.items

-- the message that was read last
abbrev pub frame_message : Frame → Message
frame_message f = if f.has_rows then f.rows.value else f.other.value

-- More bytes came behind those before: all that were asked for, or fewer where the link ended or
-- stopped.
pub record Receives (old new : Option (List TalkEvent)) (before after : List ℕ) (upto : ℕ)
    (result : Result Unit WireFault) : Type 0 where
  pub more : List ℕ
  pub longer : after ≡ before ++ more
  pub heard : GoesOn old new (ins more ++ ended_by result)
  pub whole : MatchResult result (λ _. length after ≡ upto)
      (λ f. (length after < upto) × IsOfLink f)
