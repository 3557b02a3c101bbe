-- What a reader stands for, and what its next record is, by the bytes to come.
use Rattle.std.specs.Prelude.{◌≡◌, ◌≢◌, ℕ, ◌+◌, ◌-◌, ◌*◌, ◌%◌, ◌^◌, ◌<◌, ◌≤◌, Bool, false, pos}
use Rattle.std.specs.Prelude.{nat_abs, ⊤, All, List, [], ◌∷◌, ◌++◌, length, Option, Some, None}
use Rattle.std.specs.Prelude.{option_map, Result, Ok, Err}
use Rattle.sip_ports.specs.declared.port.PortStop.{PortStop}
use Rattle.sip_ports.specs.declared.port.PortStop.TheVariants as ports
use Rattle.sip_vector.specs.declared.update.Side.{Side}
use Rattle.sip_vector.specs.declared.update.Side.TheVariants.{First, Second}
use Rattle.sip_vector.specs.declared.update.Update.{Update}
use Rattle.sip_vector.specs.declared.tally.Tally.{Tally}
use Rattle.sip_vector.specs.Fingerprints.{fingerprint}
use Rattle.sip_vector.specs.Streams.{weight, most_weight, IsLegal}
use Rattle.sip_vector.specs.Tallies.{either, negatives, tally}
use Rattle.sip_stream.specs.declared.form.Form.{Form}
use Rattle.sip_stream.specs.declared.marks.Marks.{Marks}
use Rattle.sip_stream.specs.declared.fault.StreamFault.{StreamFault}
use Rattle.sip_stream.specs.declared.fault.StreamFault.TheVariants as faults
use Rattle.sip_stream.specs.Pieces.{TakesFront}
use Rattle.sip_stream.specs.Records.{records_from}

-- what is seen of a reader: how many records came, the weight of each side, and what it counts
-- beside where it is to tell what its stream comes to
pub record Reading : Type 0 where
  pub depth : ℕ
  pub form : Form
  pub count : ℕ
  pub first : ℕ
  pub second : ℕ
  pub is_spent : Bool
  pub marks : Option Marks

abbrev pub weight_of : Reading → Side → ℕ
weight_of r First = r.first
weight_of r Second = r.second

-- before the first record
abbrev pub unread : ℕ → Form → Reading
unread depth form = record {
  depth = depth;
  form = form;
  count = 0;
  first = 0;
  second = 0;
  is_spent = false;
  marks = None;
}

-- behind a stream that came to this
abbrev pub behind : ℕ → Form → Tally → Reading
behind depth form t = record {
  depth = depth;
  form = form;
  count = t.count;
  first = t.first;
  second = t.second;
  is_spent = false;
  marks = Some (record { negatives = t.negatives; fingerprint = t.fingerprint });
}

-- what a reader says that its stream came to so far, where it counts for it
abbrev pub so_far : Reading → Option Tally
so_far r = option_map (λ m. record {
  count = r.count;
  first = r.first;
  second = r.second;
  negatives = m.negatives;
  fingerprint = m.fingerprint;
}) r.marks

-- it says what this stream comes to
abbrev pub Tells : Reading → List Update → Type 0
Tells r stream = so_far r ≡ Some (tally stream)

-- what is counted beside, once these updates came
abbrev pub marked : Option Marks → List Update → Option Marks
marked marks us = option_map (λ m. record {
  negatives = either m.negatives (negatives us);
  fingerprint = (m.fingerprint + fingerprint us) % 2 ^ 64;
}) marks

-- the update of an answer, where it has one
abbrev pub came : Result (Option Update) StreamFault → List Update
came (Ok (Some u)) = u ∷ []
came (Ok None) = []
came (Err fault) = []

-- a reader has read these legal records, and may go on
pub record IsAfter (r : Reading) (stream : List Update) : Type 0 where
  pub count : r.count ≡ length stream
  pub weights : (side : Side) → weight_of r side ≡ weight stream side
  pub legal : IsLegal r.depth stream
  pub ready : r.is_spent ≡ false

-- the update is one that a stream may have next
pub record HasRoom (r : Reading) (u : Update) : Type 0 where
  pub item : u.item < 2 ^ r.depth
  pub delta : u.delta ≢ pos 0
  pub weight : weight_of r u.side + nat_abs u.delta ≤ most_weight

-- how much weight may still come on both sides
abbrev pub room : Reading → ℕ
room r = 2 * most_weight - (r.first + r.second)

-- the reader after the answer, where it may be called again
abbrev pub GoesOnAfter : Reading → List Update → Result (Option Update) StreamFault → Type 0
GoesOnAfter new before (Ok (Some u)) = IsAfter new (before ++ u ∷ [])
GoesOnAfter new before (Ok None) = IsAfter new before
GoesOnAfter new before (Err fault) = ⊤

-- The next record of the bytes that come after these legal ones: a legal one, the end, or one that
-- is not legal. A source that stopped has given a front of the bytes.
abbrev pub Reads : ℕ → Form → List Update → List ℕ → Option (List ℕ)
    → Result (Option Update) StreamFault → Type 0
Reads depth form before bytes left (Ok (Some u)) =
    (piece rest : List ℕ) × (left ≡ Some rest) × (bytes ≡ piece ++ rest)
    × (records_from depth form before bytes ≡ records_from depth form (before ++ u ∷ []) rest)
Reads depth form before bytes left (Ok None) = (left ≡ Some []) × (bytes ≡ [])
Reads depth form before bytes left (Err (faults.Bad at why)) =
    TakesFront bytes left × (at ≡ length before)
    × (records_from depth form before bytes ≡ record { legal = before; fault = Some why })
Reads depth form before bytes left (Err faults.ReadFault) = TakesFront bytes left
Reads depth form before bytes left (Err faults.OutOfMemory) = TakesFront bytes left

-- an update that a stream may have by itself, whatever came before it
pub record IsFair (depth : ℕ) (u : Update) : Type 0 where
  pub item : u.item < 2 ^ depth
  pub delta : u.delta ≢ pos 0
  pub size : nat_abs u.delta ≤ most_weight

-- A reader took these bytes, whatever comes behind them: they are records of these updates, which
-- are legal after those before.
pub record HasRead (old new : Reading) (taken : List ℕ) (us : List Update) : Type 0 where
  pub depth : new.depth ≡ old.depth
  pub form : new.form ≡ old.form
  pub spent : new.is_spent ≡ old.is_spent
  pub nearer : room new ≤ room old
  pub fair : All (IsFair old.depth) us
  pub after : (before : List Update) → IsAfter old before → IsAfter new (before ++ us)
  pub same : (before : List Update) (more : List ℕ) → IsAfter old before
      → records_from old.depth old.form before (taken ++ more)
      ≡ records_from old.depth old.form (before ++ us) more

-- the fault of a stream whose source stopped
abbrev pub fault_of : PortStop → StreamFault
fault_of ports.Failed = faults.ReadFault
fault_of ports.OutOfMemory = faults.OutOfMemory
