-- What reading a part of a head answers.
use Rattle.std.specs.Prelude.{◌≡◌, ℕ, ◌+◌, ⊤, All, IsTrue, List, [], ◌∷◌, ◌++◌, ◌<◌, length, Option}
use Rattle.std.specs.Prelude.{Some, None, Result, Ok, Err, IsErrOf, IsSome}
use Rattle.std.specs.Io.KnownBytes.{Consumes}
use Rattle.std.specs.List.{flat_map}
use Rattle.sip_ports.specs.declared.port.PortStop.{PortStop}
use Rattle.sip_ports.specs.Ports.{Lasts, Rose}
use Rattle.sip_verifier.specs.Tasks.{CanBeAsked}
use Rattle.sip_vector.specs.declared.query.Query.{Query}
use Rattle.sip_wire.specs.declared.message.Message.TheVariants as messages
use Rattle.sip_wire.specs.declared.kind.Place.TheVariants.{ToHelper}
use Rattle.sip_wire.specs.declared.version.Version.{Version}
use Rattle.sip_wire.specs.Decoding.{Took}
use Rattle.sip_wire.specs.Spelling.{asked, fits, in_bytes, spelling}
use Rattle.sip_wire.specs.Table.{is_element}
use Rattle.sip_wire.specs.Transcript.{ask_bytes}
use Rattle.sip_verifier.specs.Exchanges.{TakesAtMost}
use Rattle.sip_transcript.specs.declared.head.Head.{Head}
use Rattle.sip_transcript.specs.declared.fault.HeadFault.{HeadFault}
use Rattle.sip_transcript.specs.declared.fault.HeadFault.TheVariants as faults
use Rattle.sip_transcript.specs.Fields.{Field, FailsAt, query_field}
use Rattle.sip_transcript.specs.Heads.{Ask, IsAsk, longest_field}

-- Reading one field. A value that it may have was taken, as it is spelled; or it is not there, and
-- no more was taken than a field has.
abbrev pub ReadsField : {T : Type 0} → Field → (T → List ℕ) → (T → Type 0) → Option (List ℕ)
    → Option (List ℕ) → Result (Option T) PortStop → Type 0
ReadsField field spelled may old new (Ok (Some x)) = may x × Consumes old new (spelled x)
ReadsField field spelled may old new (Ok None) = TakesAtMost longest_field old new
    × ((bytes : List ℕ) → old ≡ Some bytes → field bytes ≡ None)
ReadsField field spelled may old new (Err stop) = ⊤

-- The first field that is not there begins at this place, of fields that begin at another. Behind
-- it no more was taken than a field has.
abbrev pub FailsIn : List Field → ℕ → Option (List ℕ) → Option (List ℕ) → HeadFault → Type 0
FailsIn fields from old new (faults.Bad at) =
    (n : ℕ) × (at ≡ from + n) × TakesAtMost (n + longest_field) old new
    × ((bytes : List ℕ) → old ≡ Some bytes → FailsAt fields bytes n)
FailsIn fields from old new faults.ReadFault = ⊤
FailsIn fields from old new faults.OutOfMemory = ⊤

-- elements were taken, as they are spelled, and stand behind those before
pub record TakesBlock (depth : ℕ) (old new : Option (List ℕ)) (before after : List ℕ)
    : Type 0 where
  pub block : List ℕ
  pub longer : after ≡ before ++ block
  pub levels : length block ≡ depth
  pub elements : All (λ x. IsTrue (is_element x)) block
  pub taken : Consumes old new (flat_map (in_bytes 8) block)

-- a query was taken with its challenges, and stands behind those before
pub record TakesAsk (old new : Option (List ℕ)) (before after : Head) : Type 0 where
  pub ask : Ask
  pub is_ask : IsAsk before.version before.depth ask
  pub version : after.version ≡ before.version
  pub depth : after.depth ≡ before.depth
  pub queries : after.queries.items ≡ before.queries.items ++ ask.0 ∷ []
  pub challenges : after.challenges.items ≡ before.challenges.items ++ ask.1
  pub size : after.length ≡ before.length + length (ask_bytes before.version ask.0 ask.1)
  pub taken : Consumes old new (ask_bytes before.version ask.0 ask.1)

-- the query can be asked, and its frame has so many bytes
abbrev pub MayAsk : Version → ℕ → Query × ℕ → Type 0
MayAsk version depth asked =
    IsTrue (fits version (messages.Query asked.0)) × CanBeAsked depth asked.0
    × (asked.1 ≡ length (spelling version (messages.Query asked.0)))

-- What a frame asks: a query that it spells, which can be asked; or none, whatever follows the
-- frame, and nothing where it isn't whole.
abbrev pub AsksIn : Version → ℕ → List ℕ → Option Query → Type 0
AsksIn version depth frame (Some query) =
    Took version ToHelper frame (messages.Query query) × CanBeAsked depth query
AsksIn version depth frame None =
    (rest : List ℕ) → (length frame < asked version ToHelper frame → rest ≡ [])
    → query_field version depth (frame ++ rest) ≡ None

-- What holds of a source over a call that reads fields of a head: the call fails, or wants memory,
-- only where the source's count of that rose; and what the source tells, it tells on.
pub record ReadsOn {S T : Type 0} (left : S → Option (List ℕ)) (failures wants : S → ℕ)
    (is_sure : S → Type 0) (old new : S) (result : Result T HeadFault) : Type 0 where
  pub failed : IsErrOf result faults.ReadFault → Rose (failures old) (failures new)
  pub memory : IsErrOf result faults.OutOfMemory → Rose (wants old) (wants new)
  pub told : IsSome (left old) → IsSome (left new)
  pub lasts : Lasts failures wants is_sure old new
