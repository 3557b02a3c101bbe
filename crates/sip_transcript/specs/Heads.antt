-- What a transcript's head says, and what reading one answers.
use Rattle.std.specs.Prelude.{◌≡◌, ℕ, ◌+◌, ◌≤◌, ⊤, All, IsTrue, List, [], length, map, Option, Some}
use Rattle.std.specs.Prelude.{Result, Ok, Err}
use Rattle.std.specs.Io.KnownBytes.{Consumes}
use Rattle.std.specs.List.{flat_map}
use Rattle.sip_verifier.specs.Tasks.{CanBeAsked}
use Rattle.sip_vector.specs.declared.query.Query.{Query}
use Rattle.sip_wire.specs.declared.version.Version.{Version}
use Rattle.sip_wire.specs.Table.{is_element, most_queries}
use Rattle.sip_wire.specs.Transcript.{transcript}
use Rattle.sip_wire.specs.Versions.{Speaks, deepest}
use Rattle.sip_transcript.specs.declared.head.Head.{Head}
use Rattle.sip_transcript.specs.declared.fault.HeadFault.{HeadFault}
use Rattle.sip_transcript.specs.declared.fault.HeadFault.TheVariants as faults
use Rattle.sip_verifier.specs.Exchanges.{TakesAtMost}
use Rattle.sip_transcript.specs.Fields.{head_fault}

-- a query that was asked, and its challenges
abbrev pub Ask : Type 0
Ask = Query × List ℕ

-- the query can be asked at this depth in this version, and has an element for each level
pub record IsAsk (version : Version) (depth : ℕ) (ask : Ask) : Type 0 where
  pub fits : CanBeAsked depth ask.0
  pub speaks : Speaks version depth ask.0
  pub levels : length ask.1 ≡ depth
  pub elements : All (λ x. IsTrue (is_element x)) ask.1

-- a run that a transcript can tell of
pub record IsRun (version : Version) (depth : ℕ) (asks : List Ask) : Type 0 where
  pub deep : 1 ≤ depth
  pub shallow : depth ≤ deepest version
  pub some : 1 ≤ length asks
  pub most : length asks ≤ most_queries
  pub each : All (IsAsk version depth) asks

-- a head says of a run what it was, and has as many bytes as the front of the run's transcript has
pub record Says (head : Head) (asks : List Ask) : Type 0 where
  pub is_run : IsRun head.version head.depth asks
  pub queries : head.queries.items ≡ map (λ ask. ask.0) asks
  pub challenges : head.challenges.items ≡ flat_map (λ ask. ask.1) asks
  pub size : head.length ≡ length (transcript head.version head.depth asks [])

-- how many bytes a field has at most: the frame of a range with wide items has them
abbrev pub longest_field : ℕ
longest_field = 21

-- What reading a head answers. `Ok`: the head of a run, whose bytes and no more were taken. `Bad`:
-- where the first field begins that is not there, behind which no more was taken than a field has.
abbrev pub ReadsHead : Option (List ℕ) → Option (List ℕ) → Result Head HeadFault → Type 0
ReadsHead old new (Ok head) =
    (asks : List Ask) × Says head asks
    × Consumes old new (transcript head.version head.depth asks [])
ReadsHead old new (Err (faults.Bad at)) = TakesAtMost (at + longest_field) old new
    × ((bytes : List ℕ) → old ≡ Some bytes → head_fault bytes ≡ Some at)
ReadsHead old new (Err faults.ReadFault) = ⊤
ReadsHead old new (Err faults.OutOfMemory) = ⊤
