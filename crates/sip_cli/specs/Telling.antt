-- What a run says on the way.
use Rattle.std.specs.Prelude.{⊤, ℕ, ◌/◌, ◌^◌, List, [], ◌∷◌, ◌++◌, codes, decimal, None, Some}
use Rattle.std.specs.Prelude.{Result}
use Rattle.std.specs.declared.option.Option.{Option}
use Rattle.sip_ports.specs.declared.port.PortStop.{PortStop}
use Rattle.sip_ports.specs.declared.port.TalkEvent.{TalkEvent}
use Rattle.sip_ports.specs.Ports.{HasCause, SendsWhole}

-- the line where so many bytes and records of the stream were read
abbrev pub stream_line : ℕ → ℕ → List ℕ
stream_line bytes records =
    codes "sip: progress: " ++ decimal (bytes / 2 ^ 20) ++ codes " MiB of STREAM read, "
    ++ decimal records ++ codes " records" ++ 10 ∷ []

-- the line before the first bytes of a reply come
abbrev pub reply_line : ℕ → ℕ → List ℕ
reply_line query round =
    codes "sip: progress: waiting for the reply of query " ++ decimal query ++ codes " round "
    ++ decimal round ++ codes "" ++ 10 ∷ []

-- the line of a side that answers, where so many bytes of the other side were heard
abbrev pub from_line : ℕ → List ℕ
from_line bytes =
    codes "sip: progress: waiting for the other side, " ++ decimal (bytes / 2 ^ 20)
    ++ codes " MiB of FROM read" ++ 10 ∷ []

-- A line was written. Where what takes lines stopped, it has a front that is shorter.
abbrev pub Says : {W : Type 0} → (W → Option (List TalkEvent)) → (W → ℕ) → (W → ℕ) → (W → Type 0)
    → W → W → List ℕ → Type 0
Says talk faults wants is_sure old new line =
    (stop : Result ⊤ PortStop) × SendsWhole (talk old) (talk new) stop line
    × HasCause faults wants is_sure old new stop

-- What says the lines is there before and after, and did this; or it is not there.
abbrev pub IfTold : {T : Type 0} → Option T → Option T → (T → T → Type 0) → Type 0
IfTold None None Did = ⊤
IfTold None (Some new) Did = ⊥
IfTold (Some old) None Did = ⊥
IfTold (Some old) (Some new) Did = Did old new
