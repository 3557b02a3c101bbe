-- A talk over a store, between the calls of the machine that has it.
use Rattle.std.specs.Prelude.{◌≡◌, ◌⊎◌, ℕ, ◌<◌, ◌≤◌, List, [], ◌++◌, length, take, Option, Some}
use Rattle.std.specs.Prelude.{None, Result, Ok, Err}
use Rattle.sip_ports.specs.declared.port.PortStop.{PortStop}
use Rattle.sip_ports.specs.declared.port.TalkEvent.{TalkEvent}
use Rattle.sip_ports.specs.Ports.{Rose}
use Rattle.sip_stream.specs.declared.form.Form.{Form}
use Rattle.sip_vector.specs.declared.update.Update.{Update}
use Rattle.sip_wire.specs.declared.kind.Place.TheVariants as places
use Rattle.sip_wire.specs.declared.version.Version.{Version}
use Rattle.sip_wire.specs.Frames.{frame_bytes}
use Rattle.sip_wire.specs.Spelling.{asked}
use Rattle.sip_helper.specs.Statuses.{status_of_stop}
use Rattle.sip_questions.specs.declared.store_status.StoreStatus.{StoreStatus}
use Rattle.sip_questions.specs.declared.store_status.StoreStatus.TheVariants as statuses
use Rattle.sip_questions.specs.Serving.{QuestionHelper}
use Rattle.sip_questions.specs.StoreFronts.{Hears, IsUnheard, Recalls, held_frame}
use Rattle.sip_questions.specs.Stores.{status_of, store_heard}
use Rattle.sip_steps.specs.declared.coming.Coming.{Coming}
use Rattle.sip_steps.specs.declared.serving_store.ServingStore.{ServingStore}
use Rattle.sip_steps.specs.StoreServed.{GoesAt, StoreRead}

-- The talk went on behind these events, where `was` was there of the next frame, and then a piece
-- of that frame was put there, which was not looked at.
pub record IsPut (form : Form) (read : Option StoreRead) (events : List TalkEvent) (was : Coming)
    (piece : List ℕ) (s : ServingStore) : Type 0 where
  pub same_form : s.form ≡ form
  pub goes : GoesAt form events s.core was read s.stage
  pub at : s.coming.offset ≡ was.offset
  pub puts : frame_bytes s.coming.frame ≡ frame_bytes was.frame ++ piece

-- a piece was put so, of a frame in this version
pub record HasPut (version : Version) (s : ServingStore) : Type 0 where
  pub going : s.status ≡ None
  pub spoken : version ≡ s.core.helper.version
  pub within : length (frame_bytes s.coming.frame)
      ≤ asked version places.AskedQuestion (frame_bytes s.coming.frame)
  pub put : (form : Form) × (read : Option StoreRead) × (events : List TalkEvent) × (was : Coming)
      × (piece : List ℕ) × IsPut form read events was piece s

-- where a talk ended for a fault, the store's count of faults rose, or the sink's
pub record HasStoreCause {A K : Type 0} (unread : A → ℕ) (unsent : K → ℕ) (first next : A)
    (out sent : K) (status : Option StoreStatus) : Type 0 where
  pub fault : status ≡ Some statuses.ReadFault → Rose (unread first) (unread next)
  pub cause : status ≡ Some statuses.PeerFault → Rose (unsent out) (unsent sent)

-- Where the records are to be heard: what was sent then, by what came of it.
module _ (r : Recalls) (form : Form) (store left : Option (List ℕ)) (core : QuestionHelper)
    (sent : List ℕ) where
  -- what they come to was said
  pub record TellsHeld : Type 0 where
    pub us : List Update
    pub hears : Hears r form store left us
    pub state : core ≡ store_heard r.number r.depth us None
    pub whole : sent ≡ held_frame r us

  -- it was cut short
  pub record CutsHeld (status : StoreStatus) : Type 0 where
    pub us : List Update
    pub hears : Hears r form store left us
    pub stop : PortStop
    pub same : status ≡ status_of (status_of_stop stop)
    pub count : ℕ
    pub short : count < length (held_frame r us)
    pub front : sent ≡ take count (held_frame r us)

  -- they were not heard
  pub record HearsNone (status : StoreStatus) : Type 0 where
    pub silent : sent ≡ []
    pub why : IsUnheard r form store status

  abbrev pub TellsBy : Result Unit StoreStatus → Type 0
  TellsBy (Ok _) = TellsHeld
  TellsBy (Err status) = HearsNone status ⊎ CutsHeld status
