-- The exit code and the line of each status of the command that asks a sketch.
use Rattle.std.specs.Prelude.{ℕ, Option, None, Some, List, [], ◌∷◌, ◌++◌, codes, decimal}
use Rattle.std.specs.Int.{w64, to_be_bytes}
use Rattle.hex.specs.Hex.{encode_lower}
use Rattle.sip_wire.specs.declared.message.Held.{Held}
use Rattle.sip_verifier.specs.declared.status.Port.TheVariants as run_ports
use Rattle.sip_verifier.specs.declared.status.Status.{Status}
use Rattle.sip_verifier.specs.declared.status.Status.TheVariants as runs
use Rattle.sip_advice.specs.Exit.{code_of}
use Rattle.sip_advice.specs.StatusLine.{line_of_status}
use Rattle.sip_sketch.specs.declared.status.SketchPort.TheVariants as sketch_ports
use Rattle.sip_sketch.specs.declared.status.SketchStatus.{SketchStatus}
use Rattle.sip_sketch.specs.declared.status.SketchStatus.TheVariants as sketches
use Rattle.sip_ask.specs.declared.status.AskPort.TheVariants as ports
use Rattle.sip_ask.specs.declared.status.AskStatus.{AskStatus}
use Rattle.sip_ask.specs.declared.status.AskStatus.TheVariants as statuses
use Rattle.sip_keeping.specs.Endings.{code_of_sketch, line_of_sketch}

-- ---- statuses of other commands too

-- the status of a command without a sketch that says the same, where there is one
abbrev pub as_run : AskStatus → Option Status
as_run statuses.Accepted = Some runs.Accepted
as_run (statuses.Rejected query round reason) = Some (runs.Rejected query round reason)
as_run (statuses.TooWide query) = Some (runs.TooWide query)
as_run (statuses.TooHigh query) = Some (runs.TooHigh query)
as_run statuses.BadFrame = Some (runs.BadFrame 0)
as_run statuses.PeerClosed = Some runs.PeerClosed
as_run statuses.PeerFault = Some runs.PeerFault
as_run (statuses.WriteFault ports.Report) = Some (runs.WriteFault run_ports.Report)
as_run statuses.OutOfMemory = Some runs.OutOfMemory
as_run _ = None

-- that of a command which keeps a sketch
abbrev pub as_kept : AskStatus → Option SketchStatus
as_kept (statuses.BadSketch offset) = Some (sketches.BadSketch 0 offset)
as_kept statuses.Busy = Some sketches.Busy
as_kept statuses.ReadFault = Some (sketches.ReadFault sketch_ports.Sketch)
as_kept (statuses.WriteFault ports.Sketch) = Some (sketches.WriteFault sketch_ports.Sketch)
as_kept _ = None

-- ---- statuses of its own

-- what is held of a stream: its records, the weights of its sides and its fingerprint
abbrev pub held_text : Held → List ℕ
held_text held = decimal held.records ++ codes " " ++ decimal held.first ++ codes " "
    ++ decimal held.second ++ codes " " ++ encode_lower (to_be_bytes w64 held.fingerprint)

-- the line of a status that no other command has; its code is 3
abbrev pub ask_line : AskStatus → List ℕ
ask_line statuses.NotWhole = codes "sip: sketch is not whole" ++ 10 ∷ []
ask_line (statuses.Unfit query) =
    codes "sip: query " ++ decimal query ++ codes " does not fit" ++ 10 ∷ []
ask_line (statuses.Signed query) =
    codes "sip: query " ++ decimal query ++ codes " on a side with negatives" ++ 10 ∷ []
ask_line (statuses.NoSeat query) =
    codes "sip: no seat for query " ++ decimal query ++ [] ++ 10 ∷ []
ask_line (statuses.OutOfStep held kept) = codes "sip: helper holds " ++ held_text held
    ++ codes ", sketch " ++ held_text kept ++ 10 ∷ []
ask_line _ = []

-- ---- every status

abbrev pub code_as : Option Status → Option SketchStatus → ℕ
code_as (Some same) _ = code_of same
code_as None (Some same) = code_of_sketch same
code_as None None = 3

abbrev pub line_as : Option Status → Option SketchStatus → List ℕ → List ℕ
line_as (Some same) _ own = line_of_status same
line_as None (Some same) own = line_of_sketch same
line_as None None own = own

-- the code that the program ends with, and the line on standard error
abbrev pub code_of_ask : AskStatus → ℕ
code_of_ask status = code_as (as_run status) (as_kept status)

abbrev pub line_of_ask : AskStatus → List ℕ
line_of_ask status = line_as (as_run status) (as_kept status) (ask_line status)
