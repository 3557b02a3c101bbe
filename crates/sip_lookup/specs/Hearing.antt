-- What a call did that receives a Found: what was said on the link, and what was written to the
-- keeper of what is received.
use Rattle.std.specs.Prelude.{◌≡◌, ◌⊎◌, ℕ, Bool, true, false, List, [], Option, Result, Ok, Err}
use Rattle.sip_ports.specs.declared.port.PortStop.{PortStop}
use Rattle.sip_ports.specs.declared.port.PortStop.TheVariants as ports
use Rattle.sip_ports.specs.declared.port.TalkEvent.{TalkEvent}
use Rattle.sip_wire.specs.declared.message.WireFault.{WireFault}
use Rattle.sip_wire.specs.declared.message.WireFault.TheVariants as wire
use Rattle.sip_wire.specs.declared.version.Version.{Version}
use Rattle.sip_replies.specs.Asking.{Came, HasFault, IsPart, IsUnkept}
use Rattle.sip_replies.specs.Replies.{reason_of}
use Rattle.sip_verifier.specs.declared.asker.Unanswered.{Unanswered}
use Rattle.sip_verifier.specs.declared.asker.Unanswered.TheVariants as unanswered
use Rattle.sip_verifier.specs.declared.session.SessionFault.TheVariants as faults
use Rattle.sip_wire.specs.Spelling.{spelling}
use Rattle.sip_lookup.specs.Frames.{found_message, read_found}

-- why a lookup has no answer, where the link stopped
abbrev pub stop_of_link : PortStop → Unanswered
stop_of_link ports.Failed = unanswered.Fault faults.PeerFault
stop_of_link ports.OutOfMemory = unanswered.Fault faults.OutOfMemory

-- where the keeper stopped
abbrev pub stop_of_keeper : PortStop → Unanswered
stop_of_keeper ports.Failed = unanswered.Fault faults.KeepFault
stop_of_keeper ports.OutOfMemory = unanswered.Fault faults.OutOfMemory

-- where the Found has this fault
abbrev pub stop_of_found : WireFault → Unanswered
stop_of_found wire.PeerFault = unanswered.Fault faults.PeerFault
stop_of_found wire.OutOfMemory = unanswered.Fault faults.OutOfMemory
stop_of_found fault = unanswered.Rejected 0 (reason_of fault)

-- the link stopped inside the frame
abbrev pub is_of_link : WireFault → Bool
is_of_link wire.PeerFault = true
is_of_link wire.OutOfMemory = true
is_of_link _ = false

module _ (version : Version) (old new before now : Option (List TalkEvent)) where
  -- a Found came whole, and is the one for this place
  pub record IsFound (found : Option ℕ) : Type 0 where
    pub came : Came version (read_found version) old new before now (found, [])
    pub spelled : came.bytes ≡ spelling version (found_message found)

  -- a Found came whole and names this place, or has this fault; or the link or the keeper stopped
  abbrev pub HearsFound : Result (Option ℕ) Unanswered → Type 0
  HearsFound (Ok found) = IsFound found
  HearsFound (Err (unanswered.Rejected round reason)) =
      (round ≡ 0) × HasFault version (read_found version) old new before now reason
  HearsFound (Err (unanswered.Fault faults.PeerFault)) =
      IsPart version (read_found version) old new before now
  HearsFound (Err (unanswered.Fault faults.KeepFault)) =
      IsUnkept version (read_found version) old new before now
  HearsFound (Err (unanswered.Fault faults.OutOfMemory)) =
      IsPart version (read_found version) old new before now
      ⊎ IsUnkept version (read_found version) old new before now
