-- How far the records of a store were heard.
use Rattle.std.specs.Prelude.{◌≡◌, ℕ, ◌<◌, ◌≤◌, Bool, false, List, [], ◌++◌, length, take}
use Rattle.std.specs.Prelude.{Option}
use Rattle.std.specs.Prelude.{Some, Result, Ok, Err}
use Rattle.sip_stream.specs.declared.fault.StreamFault.{StreamFault}
use Rattle.sip_stream.specs.declared.fault.StreamFault.TheVariants as faults
use Rattle.sip_stream.specs.Reading.{IsAfter, Reading, Tells}
use Rattle.sip_stream.specs.Records.{records_from}
use Rattle.sip_vector.specs.declared.update.Update.{Update}
use Rattle.sip_wire.specs.declared.message.Message.TheVariants as messages
use Rattle.sip_helper.specs.Turns.{HelperState, part_of, step}
use Rattle.sip_questions.specs.StoreFronts.{heard_of}

-- A reader has taken these records off a source that had some bytes, and has others left.
pub record Takes (old new : Reading) (had left : Option (List ℕ)) (us : List Update) : Type 0 where
  pub depth : new.depth ≡ old.depth
  pub form : new.form ≡ old.form
  pub ready : new.is_spent ≡ false
  pub after : (before : List Update) → IsAfter old before → IsAfter new (before ++ us)
  pub tells : (before : List Update) → IsAfter old before → Tells old before
      → Tells new (before ++ us)
  pub same : (before : List Update) (bytes : List ℕ) → IsAfter old before → had ≡ Some bytes
      → (rest : List ℕ) × (left ≡ Some rest)
      × (records_from old.depth old.form before bytes
      ≡ records_from old.depth old.form (before ++ us) rest)

-- a reader has come to the end of a source that had some bytes
abbrev pub IsReadOut : Reading → Option (List ℕ) → Option (List ℕ) → Type 0
IsReadOut r had left =
    (before : List Update) (bytes : List ℕ) → IsAfter r before → had ≡ Some bytes → left ≡ Some []

-- fewer records than so many were there, and then one that is not legal; of a source that stopped
-- nothing is said
abbrev pub StopsWithin : Reading → Option (List ℕ) → ℕ → StreamFault → Type 0
StopsWithin r had most (faults.Bad at why) =
    (before : List Update) (bytes : List ℕ) → IsAfter r before → had ≡ Some bytes
    → (us : List Update) × (length us < most) × (at ≡ length (before ++ us))
    × (records_from r.depth r.form before bytes ≡ record { legal = before ++ us; fault = Some why })
StopsWithin r had most faults.ReadFault = Unit {0}
StopsWithin r had most faults.OutOfMemory = Unit {0}

-- some records stand in front in a block, none where there are no more
abbrev pub TakesSome : Reading → Reading → Option (List ℕ) → Option (List ℕ) → List Update
    → Result ℕ StreamFault → Type 0
TakesSome old new had left block (Ok came) =
    (came ≤ length block) × Takes old new had left (take came block)
    × (came ≡ 0 → IsReadOut old had left)
TakesSome old new had left block (Err fault) = StopsWithin old had 1 fault

-- a helper is as far as a reader is, and hears more
pub record IsAsFar (s : HelperState) (r : Reading) : Type 0 where
  pub part : part_of s.heard ≡ Some r.depth
  pub first : s.weights.first ≡ r.first
  pub second : s.weights.second ≡ r.second
  pub live : s.spent ≡ false

-- it has heard these records, or their sizes, whether memory was refused or not
abbrev pub HasHeard : Bool → HelperState → HelperState → List Update → Type 0
HasHeard sizes s next us = (refused : Bool)
    × (next ≡ step s refused (messages.Updates (record { items = heard_of sizes us })))

-- a reader has taken records off a source, and a helper has heard them
pub record HearsOn (sizes : Bool) (s next : HelperState) (old new : Reading)
    (had left : Option (List ℕ)) (us : List Update) : Type 0 where
  pub takes : Takes old new had left us
  pub heard : HasHeard sizes s next us
  pub far : IsAsFar next new

-- so of as many records as are told, none where there are no more
abbrev pub HearsSome : Bool → HelperState → HelperState → Reading → Reading → Option (List ℕ)
    → Option (List ℕ) → ℕ → Result ℕ StreamFault → Type 0
HearsSome sizes s next old new had left most (Ok came) =
    (us : List Update) × (length us ≡ came) × (came ≤ most)
    × HearsOn sizes s next old new had left us × (came ≡ 0 → IsReadOut old had left)
HearsSome sizes s next old new had left most (Err fault) = StopsWithin old had 1 fault

-- so of so many records, or of all where there are fewer
abbrev pub HearsFront : Bool → HelperState → HelperState → Reading → Reading → Option (List ℕ)
    → Option (List ℕ) → ℕ → Result Unit StreamFault → Type 0
HearsFront sizes s next old new had left most (Ok _) =
    (us : List Update) × (length us ≤ most) × HearsOn sizes s next old new had left us
    × (length us < most → IsReadOut old had left)
HearsFront sizes s next old new had left most (Err fault) = StopsWithin old had most fault

-- so many records were read, or all where there are fewer
abbrev pub ReadsFront : Reading → Reading → Option (List ℕ) → Option (List ℕ) → ℕ
    → Result Unit StreamFault → Type 0
ReadsFront old new had left most (Ok _) =
    (us : List Update) × (length us ≤ most) × Takes old new had left us
    × (length us < most → IsReadOut old had left)
ReadsFront old new had left most (Err fault) = Unit {0}
