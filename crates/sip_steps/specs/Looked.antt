-- A lookup that is asked without a link: what its bytes so far are a talk of.
use Rattle.std.specs.Prelude.{◌≡◌, ◌≢◌, ◌⊎◌, ◌≤◌, ◌<◌, ℕ, Bool, true, false, not, List, [], ◌∷◌}
use Rattle.std.specs.Prelude.{◌++◌, length, Option, None, Some, Result, Ok, Err, IsTrue}
use Rattle.std.specs.Prelude.{if◌then◌else◌}
use Rattle.sip_field.specs.Moduli.{m61_modulus}
use Rattle.sip_ports.specs.declared.port.TalkEvent.{TalkEvent}
use Rattle.sip_ports.specs.declared.port.TalkEvent.TheVariants.{Ended}
use Rattle.sip_ports.specs.Ports.{ins, outs}
use Rattle.sip_vector.specs.declared.query.Query.TheVariants.{Sub}
use Rattle.sip_tree.specs.StandsFor.{RootStandsFor}
use Rattle.sip_vector.specs.declared.update.Entry.{Entry}
use Rattle.sip_vector.specs.declared.update.Side.TheVariants.{First}
use Rattle.sip_vector.specs.declared.update.Update.{Update}
use Rattle.sip_vector.specs.Streams.{vector}
use Rattle.sip_vector.specs.Steps.{◌>>=◌}
use Rattle.sip_wire.specs.declared.kind.Place.TheVariants as places
use Rattle.sip_wire.specs.declared.message.Message.TheVariants as messages
use Rattle.sip_wire.specs.declared.message.Reason.{Reason}
use Rattle.sip_wire.specs.declared.message.Reason.TheVariants as reasons
use Rattle.sip_wire.specs.declared.version.Version.{Version}
use Rattle.sip_wire.specs.Frames.{frame_bytes}
use Rattle.sip_wire.specs.Spelling.{asked, fits, spelling}
use Rattle.sip_replies.specs.declared.asking.AskStop.{AskStop}
use Rattle.sip_replies.specs.declared.check.Said.{Said}
use Rattle.sip_replies.specs.declared.check.Said.TheVariants as saids
use Rattle.sip_replies.specs.Asking.{HasFault}
use Rattle.sip_replies.specs.Following.{is_due, is_hearing, is_open}
use Rattle.sip_subvec.specs.Asking as subs
use Rattle.sip_subvec.specs.Asking.{SubStands, most_answer, phase_of}
use Rattle.sip_subvec.specs.Protocol.{SubAsked, sub_asked, sub_protocol}
use Rattle.sip_verifier.specs.declared.asker.Unanswered.{Unanswered}
use Rattle.sip_verifier.specs.declared.asker.Unanswered.TheVariants as unanswered
use Rattle.sip_verifier.specs.declared.session.SessionFault.TheVariants as faults
use Rattle.sip_verifier.specs.runs.Askers.{unanswered_by}
use Rattle.sip_lookup.specs.declared.answer.LookAnswer.{LookAnswer}
use Rattle.sip_lookup.specs.declared.lookup.Lookup.{Lookup}
use Rattle.sip_lookup.specs.Frames.{ask_message, found_message, read_found}
use Rattle.sip_lookup.specs.Hearing.{IsFound}
use Rattle.sip_lookup.specs.Lookups.{Looked, are_alone, is_possible, range_of, stated_answer}
use Rattle.sip_lookup.specs.Sittings.{looked_of}
use Rattle.sip_steps.specs.declared.asking.Asking.{Asking}
use Rattle.sip_steps.specs.declared.looking.Looking.{Looking}
use Rattle.sip_steps.specs.declared.looking.LookStep.{LookStep}
use Rattle.sip_steps.specs.declared.looking.LookStep.TheVariants as steps
use Rattle.sip_steps.specs.declared.opening.Opening.{Opening}
use Rattle.sip_steps.specs.Asked.{IsAsked, due_bytes, pairs_of}
use Rattle.sip_steps.specs.Openings.{message_of}
use Rattle.sip_steps.specs.Posed.{asked_at}

-- ---- the Found

-- bytes say this where a Found is awaited, and no byte less shows it
pub record IsShown (version : Version) (bytes : List ℕ) (said : Result (Option ℕ) Reason)
    : Type 0 where
  pub says : read_found version bytes ≡ (said >>= λ found. Ok (found, []))
  pub spelled : (found : Option ℕ) → said ≡ Ok found
      → IsTrue (fits version (found_message found))
      × (bytes ≡ spelling version (found_message found))
  pub whole : said ≢ Err reasons.Closed
  pub shortest : (front : List ℕ) (byte : ℕ) → bytes ≡ front ++ byte ∷ []
      → read_found version front ≡ Err reasons.Closed

-- they are not the whole of one, and have no fault; or they show this
abbrev pub SaysFound : Version → List ℕ → Option (Result (Option ℕ) Reason) → Type 0
SaysFound version bytes None = length bytes < asked version places.Found bytes
SaysFound version bytes (Some said) = IsShown version bytes said

-- there are places for the entries that prove a place, whichever it is
abbrev pub HasPlaces : ℕ → Lookup → List Entry → Type 0
HasPlaces depth lookup places =
    most_answer (range_of depth lookup None).0 (range_of depth lookup None).1 ≤ length places

-- ---- the talk so far

-- the Ask, sent
abbrev pub asked_for : Version → Lookup → List TalkEvent
asked_for version lookup = outs (spelling version (ask_message lookup))

module _ (version : Version) (depth : ℕ) (lookup : Lookup) (block : List ℕ) (value : ℕ) where
  -- the place is awaited: the Ask was sent, and behind it came a part of a Found; or it is to be
  -- sent
  abbrev pub Seeks : List TalkEvent → List ℕ → Bool → Type 0
  Seeks events part true =
      (events ≡ asked_for version lookup ++ ins part)
      × (length part < asked version places.Found part)
  Seeks events part false = (events ≡ []) × (part ≡ [])

  -- the Found has this fault, or names a place that may not be found
  abbrev pub Refuses : List TalkEvent → Reason → Type 0
  Refuses events reason =
      HasFault version (read_found version) (Some (asked_for version lookup)) (Some events) None
      None reason
      ⊎ ((reason ≡ reasons.BadFound) × (found : Option ℕ)
      × (is_possible depth lookup found ≡ false)
      × IsFound version (Some (asked_for version lookup)) (Some events) None None found)

  -- the entries of this interval are asked for
  abbrev pub asked_within : ℕ × ℕ → SubAsked
  asked_within ends = sub_asked version m61_modulus value ends.0 ends.1 block

  -- The place was found and may be, and behind it goes the talk about the interval that proves it.
  pub record Proves (events : List TalkEvent) (found : Option ℕ)
      (a : Asking subs.Asking Opening) : Type 0 where
    pub mid : List TalkEvent
    pub heard : IsFound version (Some (asked_for version lookup)) (Some mid) None None found
    pub possible : is_possible depth lookup found ≡ true
    pub inner : List TalkEvent
    pub all : events ≡ mid ++ inner
    pub talk : IsAsked (sub_protocol (asked_within (range_of depth lookup found)))
        (SubStands (asked_within (range_of depth lookup found))) phase_of message_of
        (messages.Query (Sub (range_of depth lookup found).0 (range_of depth lookup found).1))
        block inner a

  -- by how far it is
  abbrev pub IsLookedBy : List TalkEvent → LookStep → Type 0
  IsLookedBy events (steps.Place room is_asked) = Seeks events (frame_bytes room.frame) is_asked
      × HasPlaces depth lookup room.places.items
  IsLookedBy events (steps.Refused reason) = Refuses events reason
  IsLookedBy events (steps.Proves found a) = Proves events found a

-- These events are a talk of the lookup, as far as it is, by a root with this value at these
-- challenges.
abbrev pub IsLooked : List ℕ → ℕ → List TalkEvent → Looking → Type 0
IsLooked block value events l =
    IsLookedBy l.version l.depth l.lookup block value events l.step

-- It was begun, and nothing but its own calls changed it.
pub record HasLooked (l : Looking) : Type 0 where
  pub events : List TalkEvent
  pub looked : IsLooked l.root.seat l.root.value events l

-- this is asked, by a root with this value at these challenges
pub record AsksFor (v : Version) (d : ℕ) (what : Lookup) (at : List ℕ) (n : ℕ) (l : Looking)
    : Type 0 where
  pub version : l.version ≡ v
  pub depth : l.depth ≡ d
  pub lookup : l.lookup ≡ what
  pub block : l.root.seat ≡ at
  pub value : l.root.value ≡ n

-- the same is asked, by the same root
abbrev pub AsksSame : Looking → Looking → Type 0
AsksSame old new = AsksFor old.version old.depth old.lookup old.root.seat old.root.value new

-- a Found is to come, or the rest of it
abbrev pub IsSeeking : Version → ℕ → Lookup → LookStep → Type 0
IsSeeking version depth lookup (steps.Place room true) =
    SaysFound version (frame_bytes room.frame) None × HasPlaces depth lookup room.places.items
IsSeeking version depth lookup _ = ⊥

-- ---- what is the same of each step

abbrev pub is_due_at : LookStep → Bool
is_due_at (steps.Place room is_asked) = not is_asked
is_due_at (steps.Refused reason) = false
is_due_at (steps.Proves found a) = is_due a.turn.stage

abbrev pub is_hearing_at : LookStep → Bool
is_hearing_at (steps.Place room is_asked) = is_asked
is_hearing_at (steps.Refused reason) = false
is_hearing_at (steps.Proves found a) = is_hearing a.turn.stage

-- the bytes that are to be sent
abbrev pub due_of : Version → Lookup → LookStep → List ℕ
due_of version lookup (steps.Place room true) = []
due_of version lookup (steps.Place room false) = spelling version (ask_message lookup)
due_of version lookup (steps.Refused reason) = []
due_of version lookup (steps.Proves found a) = due_bytes message_of a

-- that the other end had closed, where bytes were to come
abbrev pub end_at : LookStep → List TalkEvent
end_at step = if is_hearing_at step then Ended ∷ [] else []

-- ---- what came of it

-- the answer that the entries of the interval state, where they stand alone
abbrev pub looked_alone : ℕ → Lookup → Option ℕ → List Entry → Result Looked Unanswered
looked_alone depth lookup found entries = if are_alone lookup found entries
    then Ok (stated_answer lookup entries) else Err (unanswered.Rejected depth reasons.NotAlone)

abbrev pub looked_by : ℕ → Lookup → Option ℕ → List Entry → Result Said AskStop
    → Result Looked Unanswered
looked_by depth lookup found entries (Ok (saids.Pairs count)) =
    looked_alone depth lookup found entries
looked_by depth lookup found entries (Ok (saids.Number n)) =
    Err (unanswered.Rejected depth reasons.NotAlone)
looked_by depth lookup found entries (Err stop) = Err (unanswered_by stop)

-- what the talk is answered by; while it goes on, as one that stopped here
abbrev pub looked_at : ℕ → Lookup → LookStep → Result Looked Unanswered
looked_at depth lookup (steps.Place room is_asked) = Err (unanswered.Fault faults.PeerFault)
looked_at depth lookup (steps.Refused reason) = Err (unanswered.Rejected 0 reason)
looked_at depth lookup (steps.Proves found a) = looked_by depth lookup found
    (pairs_of a.turn.stage a.places.items) (asked_at a.turn.stage)

-- an answer as the definitions have it
abbrev pub result_map : {X Y E : Type 0} → (X → Y) → Result X E → Result Y E
result_map f (Ok x) = Ok (f x)
result_map f (Err e) = Err e

-- there is a verdict
abbrev pub is_judged : LookStep → Bool
is_judged (steps.Place room is_asked) = false
is_judged (steps.Refused reason) = true
is_judged (steps.Proves found a) = not (is_open a.turn.stage)

-- What is said of it is what the talk is answered by, once there is a verdict.
abbrev pub SaysLooked : ℕ → Lookup → LookStep → Option (Result LookAnswer Unanswered) → Type 0
SaysLooked depth lookup step None = is_judged step ≡ false
SaysLooked depth lookup step (Some said) = (is_judged step ≡ true)
    × (result_map looked_of said ≡ looked_at depth lookup step)

-- it is asked by the root of side 0 of this stream, at one challenge at least
pub record IsRootOf (l : Looking) (stream : List Update) : Type 0 where
  pub some : 1 ≤ length l.root.seat
  pub stands : RootStandsFor m61_modulus l.root.seat l.root.value (vector l.depth stream First)
