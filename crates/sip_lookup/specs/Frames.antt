-- The messages of a lookup: Ask and End go to the helper, and Found comes from it. They have the
-- same spelling in both versions.
use Rattle.std.specs.Prelude.{ℕ, ◌==◌, List, Option, Some, None, Result, Ok, Err, if◌then◌else◌}
use Rattle.sip_vector.specs.Steps.{◌>>=◌}
use Rattle.sip_wire.specs.declared.kind.Place.TheVariants as places
use Rattle.sip_wire.specs.declared.message.Message.{Message}
use Rattle.sip_wire.specs.declared.message.Message.TheVariants as messages
use Rattle.sip_wire.specs.declared.message.Reason.{Reason}
use Rattle.sip_wire.specs.declared.message.Reason.TheVariants as reasons
use Rattle.sip_wire.specs.declared.version.Version.{Version}
use Rattle.sip_replies.specs.Replies.{read_one}
use Rattle.sip_lookup.specs.Lookups.{item_of}
use Rattle.sip_lookup.specs.declared.lookup.Lookup.{Lookup}
use Rattle.sip_lookup.specs.declared.lookup.Lookup.TheVariants.{Index, Pred, Succ}

-- the code of a lookup
abbrev pub code_of : Lookup → ℕ
code_of (Index i) = 1
code_of (Pred i) = 2
code_of (Succ i) = 3

-- what asks it
abbrev pub ask_message : Lookup → Message
ask_message l = messages.AskLook (code_of l) (item_of l)

-- what names a place, or says that there is none
abbrev pub found_message : Option ℕ → Message
found_message None = messages.Found 0 0
found_message (Some j) = messages.Found 1 j

-- the place that a flag and a number name
abbrev pub place_of : ℕ → ℕ → Option ℕ
place_of flag number = if flag == 1 then Some number else None

-- what a message says where a place is awaited
abbrev pub found_in : Message → Result (Option ℕ) Reason
found_in (messages.Found flag number) = Ok (place_of flag number)
found_in (messages.Refuse code) = Err (reasons.Refused code)
found_in _ = Err reasons.BadKind

-- The place that a Found in front of the bytes names, and what follows its frame, or why there is
-- none.
unfoldable pub read_found : Version → List ℕ → Result (Option ℕ × List ℕ) Reason
read_found version bytes =
    read_one version places.Found bytes
    >>= λ frame. (found_in frame.0 >>= λ place. Ok (place, frame.1))
