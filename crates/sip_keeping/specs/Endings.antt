-- The exit code and the line of each status of the commands that keep a sketch.
use Rattle.std.specs.Prelude.{ℕ, Bool, true, false, Option, None, Some, List, [], ◌∷◌, ◌++◌, ◌==◌}
use Rattle.std.specs.Prelude.{codes, decimal, if◌then◌else◌}
use Rattle.sip_vector.specs.declared.update.Side.TheVariants.{First, Second}
use Rattle.sip_verifier.specs.declared.status.Port.TheVariants as plain_ports
use Rattle.sip_verifier.specs.declared.status.Status.{Status}
use Rattle.sip_verifier.specs.declared.status.Status.TheVariants as plain
use Rattle.sip_advice.specs.Exit.{code_of}
use Rattle.sip_advice.specs.StatusLine.{line_of_status}
use Rattle.sip_sketch.specs.declared.status.SketchPort.{SketchPort}
use Rattle.sip_sketch.specs.declared.status.SketchPort.TheVariants as ports
use Rattle.sip_sketch.specs.declared.status.SketchStatus.{SketchStatus}
use Rattle.sip_sketch.specs.declared.status.SketchStatus.TheVariants as statuses
use Rattle.sip_sketch.specs.declared.unlike.Unlike.{Unlike}
use Rattle.sip_sketch.specs.declared.unlike.Unlike.TheVariants as reasons

-- ---- statuses of other commands too

-- the status of a command without a sketch that says the same, where there is one
abbrev pub shared : SketchStatus → Option Status
shared statuses.Wrote = Some plain.Wrote
shared statuses.BadSeed = Some plain.BadSeed
shared statuses.SeedSpent = Some plain.SeedSpent
shared (statuses.BadStream at why) = Some (plain.BadStream at why)
shared (statuses.ReadFault ports.First) = Some (plain.ReadFault plain_ports.First)
shared (statuses.ReadFault ports.Second) = Some (plain.ReadFault plain_ports.Second)
shared (statuses.WriteFault ports.Report) = Some (plain.WriteFault plain_ports.Report)
shared statuses.OutOfMemory = Some plain.OutOfMemory
shared _ = None

-- ---- statuses of their own

-- the name of why a part is not added, or a sum not stored
abbrev pub unlike_name : Unlike → List ℕ
unlike_name reasons.Shape = codes "Shape"
unlike_name reasons.Whole = codes "Whole"
unlike_name reasons.UsedSeat = codes "UsedSeat"
unlike_name reasons.NotNext = codes "NotNext"
unlike_name (reasons.Heavy First) = codes "Heavy(0)"
unlike_name (reasons.Heavy Second) = codes "Heavy(1)"
unlike_name reasons.Missing = codes "Missing"
unlike_name reasons.Fewer = codes "Fewer"

abbrev pub port_name : SketchPort → List ℕ
port_name ports.First = codes "first"
port_name ports.Second = codes "second"
port_name ports.Sketch = codes "sketch"
port_name (ports.Part part) = codes "part " ++ decimal part
port_name ports.Report = codes "report"

-- a file that is no sketch: that of the sketch itself, or of a part
abbrev pub bad_file : ℕ → List ℕ
bad_file part =
    if part == 0 then codes "sip: bad sketch" else codes "sip: bad part " ++ decimal part

-- where a stream cannot begin
abbrev pub bad_start : ℕ → Bool → List ℕ
bad_start records true = codes "sip: bad start, sketch is a sum" ++ 10 ∷ []
bad_start records false =
    codes "sip: bad start, sketch has " ++ decimal records ++ codes " records" ++ 10 ∷ []

-- the line of a status that is not shared
abbrev pub own_line : SketchStatus → List ℕ
own_line statuses.Exists = codes "sip: sketch exists" ++ 10 ∷ []
own_line (statuses.BadSketch part offset) =
    bad_file part ++ codes " at offset " ++ decimal offset ++ 10 ∷ []
own_line statuses.Busy = codes "sip: sketch is busy" ++ 10 ∷ []
own_line (statuses.BadStart records is_sum) = bad_start records is_sum
own_line (statuses.Behind at) = codes "sip: stream ends at record " ++ decimal at ++ 10 ∷ []
own_line (statuses.Unlike part why) =
    codes "sip: part " ++ decimal part ++ codes ": " ++ unlike_name why ++ 10 ∷ []
own_line (statuses.ReadFault port) = codes "sip: read fault on " ++ port_name port ++ 10 ∷ []
own_line (statuses.WriteFault port) = codes "sip: write fault on " ++ port_name port ++ 10 ∷ []
own_line _ = []

-- and its code: a port failed, or what was given is bad
abbrev pub own_code : SketchStatus → ℕ
own_code (statuses.ReadFault port) = 4
own_code (statuses.WriteFault port) = 4
own_code _ = 3

-- ---- every status

abbrev pub code_by : Option Status → SketchStatus → ℕ
code_by None status = own_code status
code_by (Some same) status = code_of same

abbrev pub line_by : Option Status → SketchStatus → List ℕ
line_by None status = own_line status
line_by (Some same) status = line_of_status same

-- the code that the program ends with, and the line on standard error
abbrev pub code_of_sketch : SketchStatus → ℕ
code_of_sketch status = code_by (shared status) status

abbrev pub line_of_sketch : SketchStatus → List ℕ
line_of_sketch status = line_by (shared status) status
