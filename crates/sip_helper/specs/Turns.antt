-- The turns of a helper: what it has heard, which message may come next, and the reply that it
-- owes.
--
-- Whether memory is refused is open: at an opening, at updates and at a query each of the two may
-- happen. Where it is refused at an opening or at updates, the helper has the weights from then on
-- and no longer the vectors.
use Rattle.std.specs.Prelude.{ℕ, ◌+◌, ◌^◌, Bool, true, false, not, ◌&&◌, ◌||◌, nat_le, nat_lt}
use Rattle.std.specs.Prelude.{is_none, is_some, List, [], ◌∷◌, ◌++◌, length, fold, Option, Some}
use Rattle.std.specs.Prelude.{None, if◌then◌else◌}
use Rattle.std.specs.List.{list_all, flat_map}
use Rattle.std.specs.Option.{option_map, option_and_then}
use Rattle.sip_vector.specs.declared.query.Query.{Query}
use Rattle.sip_vector.specs.declared.update.Side.TheVariants.{First, Second}
use Rattle.sip_vector.specs.declared.update.Update.{Update}
use Rattle.sip_vector.specs.Built.{is_built}
use Rattle.sip_vector.specs.Streams.{weight, most_weight}
use Rattle.sip_vector.specs.Vectors.{zero_vector, with_update}
use Rattle.sip_wire.specs.declared.message.Message.{Message}
use Rattle.sip_wire.specs.declared.message.Message.TheVariants as messages
use Rattle.sip_wire.specs.declared.version.Version.{Version}
use Rattle.sip_wire.specs.declared.version.Version.TheVariants.{One}
use Rattle.sip_wire.specs.Spelling.{spelling}
use Rattle.sip_wire.specs.Table.{most_queries}
use Rattle.sip_wire.specs.Versions.{version_at}
use Rattle.sip_helper.specs.declared.heard.Heard.{Heard}
use Rattle.sip_helper.specs.declared.heard.Heard.TheVariants.{Nothing, Part, Whole}
use Rattle.sip_helper.specs.Vectors.{Vectors}
use Rattle.sip_helper.specs.declared.vectors.Weights.{Weights}
use Rattle.sip_helper.specs.Kinds.{is_below, help_row}
use Rattle.sip_helper.specs.KindRows.{refusal, reply_by, want_of_memory}

-- ---- the state

-- a query that is open, the challenges that were revealed behind it, whether its last reply was
-- given or is owed, and whether memory was refused for it
pub record OpenQuery : Type 0 where
  pub query : Query
  pub revealed : List ℕ
  pub given : Bool
  pub refused : Bool

-- the version of the frames, what was heard of the stream, the vectors and their weights, how many
-- queries were asked and which one is open, whether the talk is over, and whether a reply was cut
-- short
pub record HelperState : Type 0 where
  pub version : Version
  pub heard : Heard
  pub vectors : Option Vectors
  pub weights : Weights
  pub queries : ℕ
  pub open_query : Option OpenQuery
  pub done : Bool
  pub spent : Bool

abbrev pub no_weight : Weights
no_weight = record { first = 0; second = 0 }

-- nothing was heard: frames are in version 1 until an opening says otherwise
abbrev pub fresh : HelperState
fresh = record {
  version = One;
  heard = Nothing;
  vectors = None;
  weights = no_weight;
  queries = 0;
  open_query = None;
  done = false;
  spent = false;
}

-- the version of an opening; each opening with a spelling has one
abbrev pub version_opened : ℕ → Version
version_opened number = elim (version_at number) [ Some version ↦ version | None ↦ One ]

abbrev pub depth_of : Heard → ℕ
depth_of Nothing = 0
depth_of (Part depth) = depth
depth_of (Whole depth) = depth

-- the depth of a stream that goes on, and of one that has ended
abbrev pub part_of : Heard → Option ℕ
part_of (Part depth) = Some depth
part_of _ = None

abbrev pub whole_of : Heard → Option ℕ
whole_of (Whole depth) = Some depth
whole_of _ = None

-- ---- the stream

abbrev pub zero_vectors : ℕ → Vectors
zero_vectors depth = record { first = zero_vector depth; second = zero_vector depth }

-- the vectors once these updates are added
abbrev pub with_updates : Vectors → List Update → Vectors
with_updates v us =
    record {
      first = fold (with_update First) v.first us;
      second = fold (with_update Second) v.second us;
    }

-- the weights once these updates are added
abbrev pub weights_after : Weights → List Update → Weights
weights_after w us =
    record { first = w.first + weight us First; second = w.second + weight us Second }

-- no side is too heavy
abbrev pub is_light : Weights → Bool
is_light w = nat_le w.first most_weight && nat_le w.second most_weight

-- each item is below 2 ^ depth, and no side becomes too heavy
abbrev pub stays_legal : ℕ → Weights → List Update → Bool
stays_legal depth w us =
    list_all (λ u. nat_lt u.item (2 ^ depth)) us && is_light (weights_after w us)

-- ---- which message may come next

-- a query may be asked of a stream of this depth; one of a kind that is not built may not
abbrev pub may_ask : ℕ → HelperState → Query → Bool
may_ask depth s q =
    is_none s.open_query && nat_lt s.queries most_queries && is_built q && is_below depth q

-- a challenge may be revealed: the last reply was given, and a level is left above it
abbrev pub may_reveal : ℕ → OpenQuery → Bool
may_reveal depth o = o.given && nat_lt (length o.revealed + 1) depth

-- the message may come next; one that may not is out of turn
abbrev pub is_allowed : HelperState → Message → Bool
is_allowed s (messages.Open number depth) = elim s.heard [ Nothing ↦ true | _ ↦ false ]
is_allowed s (messages.Updates us) =
    elim s.heard [ Part depth ↦ stays_legal depth s.weights us.items | _ ↦ false ]
is_allowed s messages.EndStream = elim s.heard [ Part depth ↦ true | _ ↦ false ]
is_allowed s (messages.Query q) = elim s.heard [ Whole depth ↦ may_ask depth s q | _ ↦ false ]
is_allowed s (messages.Reveal r) =
    elim s.open_query [ Some o ↦ may_reveal (depth_of s.heard) o | None ↦ false ]
is_allowed s messages.Bye = true
is_allowed s _ = false

-- the message may come next in a talk whose farewell is no Bye
abbrev pub may_hear : HelperState → Message → Bool
may_hear s messages.Bye = false
may_hear s m = is_allowed s m

-- ---- what it does

abbrev pub newly_asked : Query → Bool → OpenQuery
newly_asked q refused = record { query = q; revealed = []; given = false; refused = refused }

abbrev pub with_challenge : ℕ → OpenQuery → OpenQuery
with_challenge r o = record o { revealed = o.revealed ++ r ∷ []; given = false }

-- the state after a message that may come next, by whether memory is refused for it
abbrev pub step : HelperState → Bool → Message → HelperState
step s refused (messages.Open number depth) = record s {
  version = version_opened number;
  heard = Part depth;
  vectors = if refused then None else Some (zero_vectors depth);
}
step s refused (messages.Updates us) =
    record s {
      weights = weights_after s.weights us.items;
      vectors = if refused then None
          else option_map (λ v. with_updates v us.items) s.vectors;
    }
step s refused messages.EndStream = record s { heard = Whole (depth_of s.heard) }
step s refused (messages.Query q) =
    record s { queries = s.queries + 1; open_query = Some (newly_asked q refused) }
step s refused (messages.Reveal r) =
    record s { open_query = option_map (with_challenge r) s.open_query }
step s refused messages.Bye = record s { done = true }
step s refused _ = s

-- ---- the reply that is owed

-- the messages of a reply to a query: the refusal for want of memory, or else that of its row, or
-- else the honest ones
abbrev pub reply_to : Option Vectors → OpenQuery → List Message
reply_to None o = refusal want_of_memory
reply_to (Some v) o =
    if o.refused then refusal want_of_memory else reply_by (help_row o.query) v o.revealed

-- that reply is a refusal
abbrev pub is_refused : Option Vectors → OpenQuery → Bool
is_refused None o = true
is_refused (Some v) o = o.refused || is_some ((help_row o.query).refused_by v)

-- a reply is owed
abbrev pub owes : HelperState → Bool
owes s = elim s.open_query [ Some o ↦ not o.given | None ↦ false ]

-- the messages of the reply that is owed
abbrev pub owed_messages : HelperState → List Message
owed_messages s =
    elim s.open_query [ Some o ↦ if o.given then [] else reply_to s.vectors o | None ↦ [] ]

-- its bytes
abbrev pub owed : HelperState → List ℕ
owed s = flat_map (spelling s.version) (owed_messages s)

-- the query once its reply was given; a refusal and the last reply close it
abbrev pub after_reply : ℕ → Option Vectors → OpenQuery → Option OpenQuery
after_reply depth vectors o =
    if o.given then Some o
    else if is_refused vectors o || nat_le depth (length o.revealed + 1) then None
    else Some (record o { given = true })

-- the state once the reply that is owed was given
abbrev pub after_answer : HelperState → HelperState
after_answer s =
    record s {
      open_query = option_and_then
          (after_reply (depth_of s.heard) s.vectors) s.open_query;
    }
