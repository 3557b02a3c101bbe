-- A question that is asked without a link, whatever its kind: what its bytes so far are a talk of.
use Rattle.std.specs.Prelude.{◌≡◌, ◌⊎◌, ℕ, List, [], Some, Result, Ok, Err}
use Rattle.sip_field.specs.Moduli.{m61_modulus}
use Rattle.sip_ports.specs.declared.port.TalkEvent.{TalkEvent}
use Rattle.sip_vector.specs.declared.query.Query.{Query}
use Rattle.sip_vector.specs.declared.update.Entry.{Entry}
use Rattle.sip_vector.specs.declared.update.Update.{Update}
use Rattle.sip_replies.specs.declared.asking.AskStop.{AskStop}
use Rattle.sip_replies.specs.declared.asking.AskStop.TheVariants as stops
use Rattle.sip_replies.specs.declared.check.Said.{Said}
use Rattle.sip_replies.specs.declared.turn.Stage.{Stage}
use Rattle.sip_replies.specs.declared.turn.Stage.TheVariants as stages
use Rattle.sip_replies.specs.Protocols.{Phase, Protocol}
use Rattle.sip_subvec.specs.Asking as subs
use Rattle.sip_subvec.specs.Protocol.{SubAsked, sub_protocol}
use Rattle.sip_sums.specs.Asking as sums
use Rattle.sip_sums.specs.Protocol.{SumAsked, sum_protocol}
use Rattle.sip_heavy.specs.Asking as heavies
use Rattle.sip_heavy.specs.Counting.{above_over}
use Rattle.sip_heavy.specs.Protocol.{HeavyAsked, HeavyState, heavy_protocol}
use Rattle.sip_verifier.specs.Asking as queries
use Rattle.sip_verifier.specs.inside.Judging.{verdict_of}
use Rattle.sip_verifier.specs.inside.Protocols.{IsProtocol}
use Rattle.sip_verifier.specs.Questions as query_manner
use Rattle.sip_verifier.specs.runs.Askers.{Asks}
use Rattle.sip_verifier.specs.runs.Asking.{question_of}
use Rattle.sip_verifier.specs.runs.Manners.{Manner}
use Rattle.sip_above.specs.declared.large.Large.{Large}
use Rattle.sip_above.specs.Manner as large_manner
use Rattle.sip_above.specs.Manner.{values_of, weights_of}
use Rattle.sip_above.specs.inside.Judging as large_sittings
use Rattle.sip_moments.specs.declared.moment.Moment.{Moment}
use Rattle.sip_moments.specs.AcceptsMoment.{power_at}
use Rattle.sip_moments.specs.Asking as moments
use Rattle.sip_moments.specs.Manner as moment_manner
use Rattle.sip_moments.specs.Manner.{numbers_of}
use Rattle.sip_moments.specs.Protocol.{moment_asked, moment_protocol}
use Rattle.sip_moments.specs.Sittings as moment_sittings
use Rattle.sip_steps.specs.declared.asking.Asking.{Asking}
use Rattle.sip_steps.specs.declared.opening.Opening.{Opening}
use Rattle.sip_steps.specs.declared.opening.Opening.TheVariants as openings
use Rattle.sip_steps.specs.declared.posing.Posing.{Posing}
use Rattle.sip_steps.specs.declared.posing.Posing.TheVariants as kinds
use Rattle.sip_steps.specs.Asked.{IsAsked, due_bytes, pairs_of}
use Rattle.sip_steps.specs.Openings.{IsOf, Subject, message_of}

-- ---- what is the same of each kind

-- where in its talk it is
abbrev pub stage_at : Posing → Stage
stage_at (kinds.Entries a) = a.turn.stage
stage_at (kinds.Sum a) = a.turn.stage
stage_at (kinds.Heavy a) = a.turn.stage
stage_at (kinds.Moment a) = a.turn.stage

-- what is asked
abbrev pub opening_at : Posing → Opening
opening_at (kinds.Entries a) = a.request
opening_at (kinds.Sum a) = a.request
opening_at (kinds.Heavy a) = a.request
opening_at (kinds.Moment a) = a.request

-- the bytes that are to be sent
abbrev pub due_at : Posing → List ℕ
due_at (kinds.Entries a) = due_bytes message_of a
due_at (kinds.Sum a) = due_bytes message_of a
due_at (kinds.Heavy a) = due_bytes message_of a
due_at (kinds.Moment a) = due_bytes message_of a

-- the pairs that are said
abbrev pub pairs_at : Posing → List Entry
pairs_at (kinds.Entries a) = pairs_of a.turn.stage a.places.items
pairs_at (kinds.Sum a) = pairs_of a.turn.stage a.places.items
pairs_at (kinds.Heavy a) = pairs_of a.turn.stage a.places.items
pairs_at (kinds.Moment a) = pairs_of a.turn.stage a.places.items

-- ---- the talk so far

-- the events are a talk of the subject by a protocol, as far as it is
pub record IsTalk {C S : Type 0} (P : Protocol S) (stands : S → C → List Entry → Type 0)
    (phase : C → Phase) (s : Subject) (events : List TalkEvent) (a : Asking C Opening) : Type 0
  where
    pub asks : a.request ≡ s.opening
    pub talk : IsAsked P stands phase message_of (message_of s.opening) s.block events a

-- a query is asked, and this is its protocol for each stream whose numbers these are
pub record IsOfQuery {S : Type 0} (s : Subject) (P : Protocol S) : Type 0 where
  pub query : Query
  pub is : s.opening ≡ openings.Query query
  pub own : (stream : List Update) → IsOf s stream
      → IsProtocol s.version s.depth stream query s.block P

-- large entries are asked for, and this is their protocol for each such stream
pub record IsOfLarge (s : Subject) (P : Protocol HeavyState) : Type 0 where
  pub large : Large
  pub is : s.opening ≡ openings.Large large
  pub own : (stream : List Update) → IsOf s stream
      → P ≡ above_over s.version m61_modulus s.depth large.at_least
      (values_of s.depth stream large) (weights_of s.depth stream large) s.block

-- this moment is asked, and this is the power of the extension of each such stream
pub record IsOfMoment (s : Subject) (moment : Moment) (power : ℕ) : Type 0 where
  pub is : s.opening ≡ openings.Moment moment
  pub own : (stream : List Update) → IsOf s stream
      → power ≡ power_at m61_modulus moment.degree (numbers_of s.depth stream moment) s.block

-- These events are a talk of the subject, as far as it is: by the protocol of its kind. The last
-- bytes may be a part of a frame.
abbrev pub IsPosed : Subject → List TalkEvent → Posing → Type 0
IsPosed s events (kinds.Entries a) = (asked : SubAsked)
    × IsTalk (sub_protocol asked) (subs.SubStands asked) subs.phase_of s events a
    × IsOfQuery s (sub_protocol asked)
IsPosed s events (kinds.Sum a) = (asked : SumAsked)
    × IsTalk (sum_protocol asked) (sums.SumStands asked) sums.phase_of s events a
    × IsOfQuery s (sum_protocol asked)
IsPosed s events (kinds.Heavy a) = (asked : HeavyAsked)
    × IsTalk (heavy_protocol asked) (heavies.HeavyStands asked) heavies.phase_of s events a
    × (IsOfQuery s (heavy_protocol asked) ⊎ IsOfLarge s (heavy_protocol asked))
IsPosed s events (kinds.Moment a) = (moment : Moment) × (power : ℕ)
    × IsTalk (moment_protocol (moment_asked s.version m61_modulus moment.degree power))
    (moments.MomentStands (moment_asked s.version m61_modulus moment.degree power))
    moments.phase_of s events a × IsOfMoment s moment power

-- It was begun, and nothing but its own calls changed it.
abbrev pub HasBegun : Posing → Type 0
HasBegun p = (s : Subject) × (events : List TalkEvent) × IsPosed s events p

-- ---- what came of it

-- what the talk is answered by; while it goes on, as one that stopped here
abbrev pub asked_at : Stage → Result Said AskStop
asked_at (stages.Said said) = Ok said
asked_at (stages.Rejected round reason) = Err (stops.Rejected round reason)
asked_at _ = Err stops.PeerFault

-- What is said of the subject's talk over a link, in the manner of its kind.
abbrev pub ComesOf : Subject → List Update → List TalkEvent → List Entry → Result Said AskStop
    → Opening → Type 0
ComesOf s stream events entries asked (openings.Query query) =
    queries.Asks s.version s.depth stream query s.block (Some []) (Some events) entries
    (verdict_of asked)
ComesOf s stream events entries asked (openings.Moment moment) =
    Asks (moment_manner.asking s.version s.depth stream) (moment, s.block) (Some [])
    (Some events) (λ value stated. value ≡ stated) (moment_sittings.verdict_of asked)
ComesOf s stream events entries asked (openings.Large large) =
    Asks (large_manner.asking s.version s.depth stream) (large, s.block) (Some []) (Some events)
    (λ _ answer. entries ≡ answer) (large_sittings.verdict_of asked)

-- All that is due was said, and no answer is possible by it: a reply is missing or not whole, and
-- none has a fault so far.
pub record Waits {Q A : Type 0} (m : Manner Q A) (query : Q) (block : List ℕ)
    (events : List TalkEvent) : Type 0 where
  pub replies : List (List ℕ)
  pub talk : events ≡ m.said_for (question_of query block replies)
  pub waits : m.IsWaiting (question_of query block replies)

abbrev pub WaitsFor : Subject → List Update → List TalkEvent → Opening → Type 0
WaitsFor s stream events (openings.Query query) =
    Waits (query_manner.asking s.version s.depth stream) query s.block events
WaitsFor s stream events (openings.Moment moment) =
    Waits (moment_manner.asking s.version s.depth stream) moment s.block events
WaitsFor s stream events (openings.Large large) =
    Waits (large_manner.asking s.version s.depth stream) large s.block events
