-- The line of each status.
use Rattle.std.specs.Prelude.{ℕ, List, [], ◌∷◌, ◌++◌, codes, decimal}
use Rattle.sip_vector.specs.declared.update.Side.TheVariants as sides
use Rattle.sip_stream.specs.declared.why.Why.{Why}
use Rattle.sip_stream.specs.declared.why.Why.TheVariants as whys
use Rattle.sip_verifier.specs.declared.status.Port.{Port}
use Rattle.sip_verifier.specs.declared.status.Port.TheVariants as ports
use Rattle.sip_verifier.specs.declared.status.Status.{Status}
use Rattle.sip_verifier.specs.declared.status.Status.TheVariants as statuses

-- the name of why a record is not legal, which a side that is too heavy has with its number
abbrev pub why_name : Why → List ℕ
why_name whys.Truncated = codes "Truncated"
why_name whys.BadLine = codes "BadLine"
why_name whys.BadSide = codes "BadSide"
why_name whys.BadItem = codes "BadItem"
why_name whys.ZeroDelta = codes "ZeroDelta"
why_name (whys.TooHeavy sides.First) = codes "TooHeavy(0)"
why_name (whys.TooHeavy sides.Second) = codes "TooHeavy(1)"

abbrev pub port_name : Port → List ℕ
port_name ports.First = codes "first"
port_name ports.Second = codes "second"
port_name ports.Report = codes "report"
port_name ports.Keep = codes "record"

-- nothing where all went well and where a reply was rejected, whose line the report has
abbrev pub line_of_status : Status → List ℕ
line_of_status statuses.Accepted = []
line_of_status statuses.Served = []
line_of_status statuses.Wrote = []
line_of_status (statuses.Rejected query round reason) = []
line_of_status (statuses.Usage word) = codes "sip: usage at word " ++ decimal word ++ 10 ∷ []
line_of_status (statuses.BadStream at why) =
    codes "sip: bad stream at record " ++ decimal at ++ codes ": " ++ why_name why ++ 10 ∷ []
line_of_status statuses.BadSeed = codes "sip: seed too short" ++ 10 ∷ []
line_of_status statuses.SeedSpent = codes "sip: seed spent" ++ 10 ∷ []
line_of_status (statuses.BadTranscript offset) =
    codes "sip: bad transcript at offset " ++ decimal offset ++ 10 ∷ []
line_of_status (statuses.BadFrame offset) =
    codes "sip: bad frame at offset " ++ decimal offset ++ 10 ∷ []
line_of_status (statuses.TooWide query) =
    codes "sip: query " ++ decimal query ++ codes " too wide" ++ 10 ∷ []
line_of_status (statuses.TooHigh query) =
    codes "sip: query " ++ decimal query ++ codes " too high" ++ 10 ∷ []
line_of_status (statuses.ReadFault port) =
    codes "sip: read fault on " ++ port_name port ++ 10 ∷ []
line_of_status (statuses.WriteFault port) =
    codes "sip: write fault on " ++ port_name port ++ 10 ∷ []
line_of_status statuses.PeerFault = codes "sip: peer fault" ++ 10 ∷ []
line_of_status statuses.PeerClosed = codes "sip: peer closed" ++ 10 ∷ []
line_of_status statuses.OutOfMemory = codes "sip: out of memory" ++ 10 ∷ []
