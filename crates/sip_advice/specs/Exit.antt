-- The exit code of each status.
use Rattle.std.specs.Prelude.{ℕ}
use Rattle.sip_verifier.specs.declared.status.Status.{Status}
use Rattle.sip_verifier.specs.declared.status.Status.TheVariants as statuses

abbrev pub code_of : Status → ℕ
code_of statuses.Accepted = 0
code_of statuses.Served = 0
code_of statuses.Wrote = 0
code_of (statuses.Rejected _ _ _) = 1
code_of (statuses.Usage _) = 2
code_of (statuses.BadStream _ _) = 3
code_of statuses.BadSeed = 3
code_of statuses.SeedSpent = 3
code_of (statuses.BadTranscript _) = 3
code_of (statuses.BadFrame _) = 3
code_of (statuses.TooWide _) = 3
code_of (statuses.TooHigh _) = 3
code_of (statuses.ReadFault _) = 4
code_of (statuses.WriteFault _) = 4
code_of statuses.PeerFault = 4
code_of statuses.PeerClosed = 4
code_of statuses.OutOfMemory = 5
