-- What is told of ports.
use Rattle.std.proofs.Common.{◌≡◌, ℕ, ◌≤◌, Bool, true, false, List, [], length, drop, Option, None, Some, Result, Ok, Err, refl, sym, ap, arith, length-drop}
use Rattle.std.specs.Prelude.{if◌then◌else◌}
use Rattle.sip_ports.specs.declared.port.TalkEvent.{TalkEvent}
use Rattle.sip_ports.proofs.TalkLemmas.{GoesOn-refl}
use Rattle.sip_ports.proofs.FaultLemmas.{HasCause-refl}
use Rattle.sip_wire.specs.declared.kind.Kind.{Kind}
use Rattle.sip_wire.specs.declared.kind.Place.{Place}
use Rattle.sip_wire.specs.declared.message.Message.{Message}
use Rattle.sip_wire.specs.declared.message.WireFault.{WireFault}
use Rattle.sip_wire.specs.declared.version.Version.{Version}
use Rattle.sip_wire.specs.Spelling.{asked}
use Rattle.sip_wire.specs.Reading.{read_frame, read_of}
use Rattle.sip_cli.specs.Telling.{Says}

-- where no line is due nothing is written
pub says_nothing : {W : Type 0} (talk : W → Option (List TalkEvent)) (faults wants : W → ℕ) (is_sure : W → Type 0) (lines : W) (line : List ℕ) → line ≡ [] → Says talk faults wants is_sure lines lines line
says_nothing talk faults wants is_sure lines line none = rw none (Ok tt, GoesOn-refl (talk lines), HasCause-refl faults wants is_sure lines tt)

-- none is due where neither test holds
pub none_due : (first second : Bool) (one other : List ℕ) → first ≡ false → second ≡ false → (if first then one else if second then other else []) ≡ []
none_due false false one other p q = refl
none_due false true one other p q = absurd cc
none_due true second one other p q = absurd cc

-- what follows the message that was read
abbrev after_message : Result (Message × List ℕ) WireFault → List ℕ
after_message (Ok x) = x.1
after_message (Err fault) = []

-- what follows a frame is what follows its bytes
rest_read : (version : Version) (kind : Option Kind) (fault : Option WireFault) (frame rest : List ℕ) (m : Message) (more : List ℕ) → read_of version kind fault frame rest ≡ Ok (m, more) → more ≡ rest
rest_read version kind (Some f) frame rest m more e = absurd cc
rest_read version (Some k) None frame rest m more e = sym (ap after_message e)
rest_read version None None frame rest m more e = absurd cc

-- bytes that are all of a frame are no more than it takes
pub whole_read : (version : Version) (place : Place) (bytes : List ℕ) (m : Message) → read_frame version place bytes ≡ Ok (m, []) → length bytes ≤ asked version place bytes
unfolding read_frame
whole_read version place bytes m e =
    let none : [] ≡ drop (asked version place bytes) bytes = rest_read version _ _ _ (drop (asked version place bytes) bytes) m [] e in
    omega (arith, ap length none, length-drop (asked version place bytes) bytes)
