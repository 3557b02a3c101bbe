-- A desk is a link, and one file that is replaced whole or not at all. Both have one talk, which
-- says in which order they were used.
use Rattle.std.specs.Prelude.{◌≡◌, ℕ, ◌+◌, ◌-◌, ◌^◌, ◌<◌, min, ⊤, List, [], ◌∷◌, ◌++◌, map, length}
use Rattle.std.specs.Prelude.{take, Contains, None, Some, option_map, Result, MatchResult, Ok, Err}
use Rattle.std.specs.declared.option.Option.{Option}
use Rattle.sip_ports.specs.declared.desk.DeskStop.{DeskStop}
use Rattle.sip_ports.specs.declared.desk.DeskStop.TheVariants as desk_stops
use Rattle.sip_ports.specs.declared.desk.TheConstants.{LONGEST_LOAD}
use Rattle.sip_ports.specs.declared.port.PortStop.{PortStop}
use Rattle.sip_ports.specs.declared.port.PortStop.TheVariants as port_stops
use Rattle.sip_ports.specs.declared.port.TalkEvent.{TalkEvent}
use Rattle.sip_ports.specs.declared.port.TalkEvent.TheVariants.{Out, In, Ended, Fresh, Stored}
use Rattle.sip_ports.specs.declared.port.TalkEvent.TheVariants.{Renames, Kept}
use Rattle.sip_ports.specs.Ports.{GoesOn, HasCause}

-- what a replacement by these bytes does: an empty file is made beside the one that is kept, each
-- byte is written to it, it takes the name once it is on the disk, and that is on the disk too
abbrev pub steps : List ℕ → List TalkEvent
steps bytes = Fresh ∷ (map Stored bytes ++ (Renames ∷ Kept ∷ []))

-- The bytes of the file beside, behind these events: those that were stored since the last `Fresh`,
-- behind those that it had.
abbrev pub beside_after : List ℕ → List TalkEvent → List ℕ
beside_after beside [] = beside
beside_after beside (Fresh ∷ talk) = beside_after [] talk
beside_after beside (Stored byte ∷ talk) = beside_after (beside ++ byte ∷ []) talk
beside_after beside (Renames ∷ talk) = beside_after beside talk
beside_after beside (Kept ∷ talk) = beside_after beside talk
beside_after beside (Out _ ∷ talk) = beside_after beside talk
beside_after beside (In _ ∷ talk) = beside_after beside talk
beside_after beside (Ended ∷ talk) = beside_after beside talk

-- The contents that the file may have where a crash comes behind these events, of those that it
-- might have before, where the file beside it has these bytes. `None` is a file that is missing.
abbrev pub held_after : List (Option (List ℕ)) → List ℕ → List TalkEvent → List (Option (List ℕ))
held_after held beside [] = held
held_after held beside (Fresh ∷ talk) = held_after held [] talk
held_after held beside (Stored byte ∷ talk) = held_after held (beside ++ byte ∷ []) talk
-- the name is that of the one or of the other
held_after held beside (Renames ∷ talk) = held_after (held ++ Some beside ∷ []) beside talk
held_after held beside (Kept ∷ talk) = held_after (Some beside ∷ []) beside talk
held_after held beside (Out _ ∷ talk) = held_after held beside talk
held_after held beside (In _ ∷ talk) = held_after held beside talk
held_after held beside (Ended ∷ talk) = held_after held beside talk

-- the contents that the file may have where a crash comes behind this talk, with this one at first
abbrev pub may_hold : Option (List ℕ) → List TalkEvent → List (Option (List ℕ))
may_hold start talk = held_after (start ∷ []) [] talk

-- What the file has behind these events where there was no crash, of one that had this, where the
-- file beside it has these bytes.
abbrev pub file_after : Option (List ℕ) → List ℕ → List TalkEvent → Option (List ℕ)
file_after file beside [] = file
file_after file beside (Fresh ∷ talk) = file_after file [] talk
file_after file beside (Stored byte ∷ talk) = file_after file (beside ++ byte ∷ []) talk
file_after file beside (Renames ∷ talk) = file_after (Some beside) beside talk
file_after file beside (Kept ∷ talk) = file_after (Some beside) beside talk
file_after file beside (Out _ ∷ talk) = file_after file beside talk
file_after file beside (In _ ∷ talk) = file_after file beside talk
file_after file beside (Ended ∷ talk) = file_after file beside talk

-- what the file has behind this talk where there was no crash, with this at first
abbrev pub holds_now : Option (List ℕ) → List TalkEvent → Option (List ℕ)
holds_now start talk = file_after start [] talk

-- events of the link alone
abbrev pub IsOfLink : List TalkEvent → Type 0
IsOfLink [] = ⊤
IsOfLink (Out _ ∷ talk) = IsOfLink talk
IsOfLink (In _ ∷ talk) = IsOfLink talk
IsOfLink (Ended ∷ talk) = IsOfLink talk
IsOfLink (Fresh ∷ talk) = ⊥
IsOfLink (Stored _ ∷ talk) = ⊥
IsOfLink (Renames ∷ talk) = ⊥
IsOfLink (Kept ∷ talk) = ⊥

-- what is loaded of a file: nothing of one that is missing, else its first bytes
abbrev pub loaded : Option (List ℕ) → Option (List ℕ)
loaded content = option_map (take LONGEST_LOAD) content

-- where the talk is told, this was loaded of one of the contents that the file may have
abbrev pub Loads : Option (List ℕ) → Option (List TalkEvent) → Option (List ℕ) → Type 0
Loads start None file = ⊤
Loads start (Some talk) file =
    (content : Option (List ℕ)) × Contains (may_hold start talk) content × (file ≡ loaded content)

-- A replacement by these bytes took all of its steps at `Ok`, and at `Err` a shorter front of them.
abbrev pub Replaces : {T E : Type 0} → Option (List TalkEvent) → Option (List TalkEvent)
    → Result T E → List ℕ → Type 0
Replaces old new r bytes = MatchResult r
    (λ _. GoesOn old new (steps bytes))
    (λ _. (n : ℕ) × (n < length (steps bytes)) × GoesOn old new (take n (steps bytes)))

-- a port's stop as a desk's
abbrev pub stop_of_port : PortStop → DeskStop
stop_of_port port_stops.Failed = desk_stops.Failed
stop_of_port port_stops.OutOfMemory = desk_stops.OutOfMemory

-- a desk's answer as that of a port: that another holds the file is no failure
abbrev pub as_port : {T : Type 0} → Result T DeskStop → Result ⊤ PortStop
as_port (Ok _) = Ok tt
as_port (Err desk_stops.Failed) = Err port_stops.Failed
as_port (Err desk_stops.OutOfMemory) = Err port_stops.OutOfMemory
as_port (Err desk_stops.Busy) = Ok tt

-- A desk's counts never fall. `Failed` is answered only where that of faults rose, `OutOfMemory`
-- only where that of wants did. A desk that never fails stays so.
abbrev pub HasDeskCause : {P T : Type 0} → (P → ℕ) → (P → ℕ) → (P → Type 0) → P → P
    → Result T DeskStop → Type 0
HasDeskCause faults wants is_sure before now r =
    HasCause faults wants is_sure before now (as_port r)

-- the count of faults rose at `Failed`, and stays otherwise
abbrev pub CountsDeskFaults : {T : Type 0} → ℕ → ℕ → Result T DeskStop → Type 0
CountsDeskFaults before now (Ok _) = now ≡ before
CountsDeskFaults before now (Err desk_stops.Failed) = now ≡ min (before + 1) (2 ^ 64 - 1)
CountsDeskFaults before now (Err desk_stops.OutOfMemory) = now ≡ before
CountsDeskFaults before now (Err desk_stops.Busy) = now ≡ before

-- the count of wants rose at `OutOfMemory`, and stays otherwise
abbrev pub CountsDeskWants : {T : Type 0} → ℕ → ℕ → Result T DeskStop → Type 0
CountsDeskWants before now (Ok _) = now ≡ before
CountsDeskWants before now (Err desk_stops.Failed) = now ≡ before
CountsDeskWants before now (Err desk_stops.OutOfMemory) = now ≡ min (before + 1) (2 ^ 64 - 1)
CountsDeskWants before now (Err desk_stops.Busy) = now ≡ before
