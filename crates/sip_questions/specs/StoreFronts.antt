-- Which records of its store a helper hears, and what it is told of them before.
use Rattle.std.specs.Prelude.{◌≡◌, ℕ, ◌<◌, ◌≤◌, Bool, true, false, List, [], ◌∷◌, ◌++◌, length}
use Rattle.std.specs.Prelude.{map, take}
use Rattle.std.specs.Prelude.{IfSome, Option, Some, None, Result, Ok, Err}
use Rattle.sip_stream.specs.declared.fault.StreamFault.{StreamFault}
use Rattle.sip_stream.specs.declared.fault.StreamFault.TheVariants as faults
use Rattle.sip_stream.specs.declared.form.Form.{Form}
use Rattle.sip_stream.specs.Records.{records, records_from}
use Rattle.sip_vector.specs.declared.update.Side.TheVariants.{First, Second}
use Rattle.sip_vector.specs.declared.update.Update.{Update}
use Rattle.sip_vector.specs.Fingerprints.{fingerprint}
use Rattle.sip_vector.specs.Splits.{absolute}
use Rattle.sip_vector.specs.Streams.{IsLegal, weight}
use Rattle.sip_vector.specs.Tallies.{tally}
use Rattle.sip_vector.specs.declared.tally.Tally.{Tally}
use Rattle.sip_wire.specs.declared.kind.Place.TheVariants as places
use Rattle.sip_wire.specs.declared.message.Held.{Held}
use Rattle.sip_wire.specs.declared.message.Message.TheVariants as messages
use Rattle.sip_wire.specs.declared.version.Version.TheVariants.{One}
use Rattle.sip_wire.specs.Spelling.{spelling}
use Rattle.sip_helper.specs.Rules.{IsMessageAt}
use Rattle.sip_helper.specs.Streams.{stream_heard}
use Rattle.sip_helper.specs.Turns.{HelperState, version_opened}
use Rattle.sip_questions.specs.declared.store_status.StoreStatus.{StoreStatus}
use Rattle.sip_questions.specs.declared.store_status.StoreStatus.TheVariants as statuses

-- ---- what is said before

-- an opening that may come, and its frame
abbrev pub IsOpening : ℕ → ℕ → Type 0
IsOpening number depth = IsMessageAt places.AskedQuestion One (messages.Open number depth)

abbrev pub opening : ℕ → ℕ → List ℕ
opening number depth = spelling One (messages.Open number depth)

-- what is received before the records are heard: the opening, and how many they are to be
pub record Recalls : Type 0 where
  pub number : ℕ
  pub depth : ℕ
  pub count : ℕ
  pub opened : IsOpening number depth
  pub recalled : IsMessageAt places.AskedQuestion (version_opened number) (messages.Recall count)

abbrev pub asked_for : Recalls → List ℕ
asked_for r =
    opening r.number r.depth ++ spelling (version_opened r.number) (messages.Recall r.count)

-- ---- the records

-- The first so many records of a store that has these bytes, or all where it has fewer: one that is
-- not legal is none of them, and does not come before they are so many. What is behind them is
-- unread: those bytes are left.
pub record IsFront (depth : ℕ) (form : Form) (bytes : List ℕ) (left : Option (List ℕ)) (count : ℕ)
    (us : List Update) : Type 0 where
  pub front : us ≡ take count (records depth form bytes).legal
  pub whole : length us < count → (records depth form bytes).fault ≡ None
  pub rest : List ℕ
  pub unread : left ≡ Some rest
  pub behind : records depth form bytes ≡ records_from depth form us rest

-- what is held of records of which this is told
abbrev pub held_by : Tally → Held
held_by t = record {
  records = t.count;
  first = t.first;
  second = t.second;
  fingerprint = t.fingerprint;
}

-- what they come to
abbrev pub held_of : List Update → Held
held_of us = record {
  records = length us;
  first = weight us First;
  second = weight us Second;
  fingerprint = fingerprint us;
}

-- the frame that says what they come to
abbrev pub held_frame : Recalls → List Update → List ℕ
held_frame r us = spelling (version_opened r.number) (messages.Held (held_of us))

-- Why the records were not heard: the first that is not legal is one of them, or the store can't be
-- read, or memory ran out.
abbrev pub IsUnheard : Recalls → Form → Option (List ℕ) → StoreStatus → Type 0
IsUnheard r form store (statuses.BadStream at why) = IfSome store (λ bytes.
    ((records r.depth form bytes).fault ≡ Some why)
    × (at ≡ length (records r.depth form bytes).legal) × (at < r.count))
IsUnheard r form store statuses.ReadFault = Unit {0}
IsUnheard r form store statuses.OutOfMemory = Unit {0}
IsUnheard r form store _ = ⊥

-- These records were heard: legal ones, no more than were asked for, and where the store tells its
-- bytes, exactly the front that was.
pub record Hears (r : Recalls) (form : Form) (store left : Option (List ℕ))
    (us : List Update) : Type 0 where
  pub legal : IsLegal r.depth us
  pub few : length us ≤ r.count
  pub front : IfSome store (λ bytes. IsFront r.depth form bytes left r.count us)

-- what is heard of records: they, or the sizes of their deltas
abbrev pub heard_of : Bool → List Update → List Update
heard_of false us = us
heard_of true us = map absolute us

-- the front that is asked for was heard, or its sizes, and its end, and this is told of it
abbrev pub HearsRecords : Bool → Recalls → Form → Option (List ℕ) → Option (List ℕ) → HelperState
    → Result Tally StoreStatus → Type 0
HearsRecords sizes r form store left next (Ok told) =
    (us : List Update) × Hears r form store left us
    × (next ≡ stream_heard r.number r.depth (heard_of sizes us ∷ [])) × (told ≡ tally us)
HearsRecords sizes r form store left next (Err status) = IsUnheard r form store status

-- the status of a talk whose store was read no further
abbrev pub status_of_fault : StreamFault → StoreStatus
status_of_fault (faults.Bad at why) = statuses.BadStream at why
status_of_fault faults.ReadFault = statuses.ReadFault
status_of_fault faults.OutOfMemory = statuses.OutOfMemory
