-- What the general talk did for large entries is what the manner of asking them says.
use Rattle.std.proofs.Common.{◌≡◌, inl, inr, ℕ, None, Option, Result, Ok, Err, List, ◌++◌, length, take, sym, ap, subst, ◌∙◌}
use Rattle.sip_field.specs.Moduli.{m61_modulus}
use Rattle.sip_ports.specs.declared.port.TalkEvent.{TalkEvent}
use Rattle.sip_ports.specs.Ports.{GoesOn, Rose}
use Rattle.sip_tree.specs.StandsFor.{SplitRootStandsFor}
use Rattle.sip_vector.specs.declared.update.Entry.{Entry}
use Rattle.sip_vector.specs.declared.update.Update.{Update}
use Rattle.sip_vector.specs.Answers.{Answer, pairs}
use Rattle.sip_vector.specs.Splits.{splitroot}
use Rattle.sip_vector.specs.Streams.{int_sum}
use Rattle.sip_vector.specs.Trees.{Counted}
use Rattle.sip_vector.proofs.Sides.{length-vector}
use Rattle.sip_wire.specs.declared.message.Reason.{Reason}
use Rattle.sip_wire.specs.declared.version.Version.{Version}
use Rattle.sip_replies.specs.declared.asking.AskStop.{AskStop}
use Rattle.sip_replies.specs.declared.asking.AskStop.TheVariants as stops
use Rattle.sip_replies.specs.declared.check.Said.{Said}
use Rattle.sip_replies.specs.declared.check.Said.TheVariants as saids
use Rattle.sip_replies.specs.Asking as general
use Rattle.sip_replies.specs.Protocols.{Protocol}
use Rattle.sip_replies.specs.Talks.{IsPrefix, asked, asked_unless, ending}
use Rattle.sip_heavy.specs.Protocol.{HeavyAsked, HeavyState, above_asked, count_of, heavy_protocol}
use Rattle.sip_verifier.specs.AskClause.{AskClause, came_of}
use Rattle.sip_verifier.specs.inside.Judging as kept
use Rattle.sip_verifier.specs.inside.Judging.{found_in}
use Rattle.sip_verifier.specs.Snapshots.{SinkState, between}
use Rattle.sip_verifier.specs.runs.Askers.{Asks}
use Rattle.sip_verifier.specs.runs.Asking.{IsAnswered, IsRejected, IsInterrupted, IsUnrecorded}
use Rattle.sip_verifier.proofs.CountedQuestions.{never_sum}
use Rattle.sip_verifier.proofs.KeptAsks.{asked_keeps, given_keeps, stop_keeps}
use Rattle.sip_verifier.proofs.QueryAsked.{take-min}
use Rattle.sip_verifier.proofs.SeatAsked.{same_power}
use Rattle.sip_verifier.proofs.SeatTotals.{split_total}
use Rattle.sip_above.specs.declared.large.Large.{Large}
use Rattle.sip_above.specs.inside.Judging.{verdict_of}
use Rattle.sip_above.specs.Manner.{asking, values_of, weights_of}
use Rattle.sip_above.specs.Questions.{ask_of}

-- what is asked of a stream's split tree, at these challenges
abbrev pub asked_for : Version → ℕ → List Update → Large → List ℕ → HeavyAsked
asked_for version depth stream l block =
    above_asked version m61_modulus (splitroot m61_modulus (values_of depth stream l) (weights_of depth stream l) block) (count_of (int_sum (weights_of depth stream l))) depth l.at_least

module _ (version : Version) (depth : ℕ) (stream : List Update) (l : Large) (block : List ℕ) (old new before now : Option (List TalkEvent)) where
  abbrev P : Protocol HeavyState
  P = heavy_protocol (asked_for version depth stream l block)

  said_is : P.unasked ≡ None → (replies : List (List ℕ)) → asked version (ask_of l) block replies ≡ asked_unless P.unasked version (ask_of l) block replies
  said_is due replies = ap (λ (u : Option Answer). asked_unless u version (ask_of l) block replies) (sym due)

  answered : (entries : List Entry) → general.IsAnswered P (ask_of l) block old new before now (pairs entries) → IsAnswered (asking version depth stream) l block old new entries
  answered entries a = record { replies = a.replies; talk = a.talk; accepted = a.accepted }

  rejected : (round : ℕ) (reason : Reason) → general.IsRejected P (ask_of l) block old new before now round reason → IsRejected (asking version depth stream) l block old new round reason
  rejected round reason r = record {
    replies = r.replies;
    talk = subst (GoesOn old new) (ap (λ (talk : List TalkEvent). talk ++ ending reason) (said_is r.faulty.asked r.replies)) r.talk;
    faulty = r.faulty;
  }

  interrupted : general.IsInterrupted P (ask_of l) block old new before now → IsInterrupted (asking version depth stream) l block old new
  interrupted i = record {
    replies = i.replies;
    said = i.said;
    talk = i.talk;
    order = subst (IsPrefix i.said) (said_is i.due i.replies) i.order;
    waits = (i.due, i.unfinished, i.missing);
  }

  unrecorded : general.IsUnrecorded P (ask_of l) block old new before now → IsUnrecorded (asking version depth stream) l block old new
  unrecorded u = record {
    replies = u.replies;
    ended = u.ended;
    talk = subst (GoesOn old new) (ap (λ (talk : List TalkEvent). talk ++ u.ended) (said_is u.unjudged.asked u.replies)) u.talk;
    unjudged = u.unjudged;
  }

  -- what was answered
  pub asks_so : (places : List Entry) (result : Result Said AskStop) → general.Answers P (ask_of l) block old new before now places result
      → Asks (asking version depth stream) (l, block) old new (λ (_ : Unit {0}) (answer : List Entry). take (found_in (length places) result) places ≡ answer) (verdict_of result)
  asks_so places (Ok (saids.Number n)) a = absurd (never_sum (asked_for version depth stream l block) block a.replies n a.accepted)
  asks_so places (Ok (saids.Pairs found)) a = record { answer = take found places; answered = answered (take found places) a; states = take-min found places }
  asks_so places (Err (stops.Rejected round reason)) r = rejected round reason r
  asks_so places (Err stops.PeerFault) i = interrupted i
  asks_so places (Err stops.KeepFault) u = unrecorded u
  asks_so places (Err stops.OutOfMemory) i = inl (interrupted i)
  asks_so places (Err stops.KeepOutOfMemory) u = inr (unrecorded u)

-- what a root asks is what a stream's split tree does, where the root stands for it
pub root_asks : (version : Version) (depth : ℕ) (stream : List Update) (l : Large) (block : List ℕ) (hash weight : ℕ) → SplitRootStandsFor m61_modulus block hash weight (values_of depth stream l) (weights_of depth stream l)
    → above_asked version m61_modulus hash weight (length block) l.at_least ≡ asked_for version depth stream l block
root_asks version depth stream l block hash weight stands =
    let deep : length block ≡ depth = same_power (length block) depth (sym stands.whole ∙ length-vector depth stream l.side) in
    let sum : weight ≡ count_of (int_sum (weights_of depth stream l)) = ap count_of (split_total m61_modulus block hash weight (values_of depth stream l) (weights_of depth stream l) stands) in
    let top : hash ≡ splitroot m61_modulus (values_of depth stream l) (weights_of depth stream l) block = ap (λ (c : Counted). c.hash) stands.same in
    ap (λ h. above_asked version m61_modulus h weight (length block) l.at_least) top
    ∙ ap (λ w. above_asked version m61_modulus (splitroot m61_modulus (values_of depth stream l) (weights_of depth stream l) block) w (length block) l.at_least) sum
    ∙ ap (λ d. above_asked version m61_modulus (splitroot m61_modulus (values_of depth stream l) (weights_of depth stream l) block) (count_of (int_sum (weights_of depth stream l))) d l.at_least) deep

pub root_answers : (version : Version) (depth : ℕ) (stream : List Update) (l : Large) (block : List ℕ) (hash weight : ℕ) (old new before now : Option (List TalkEvent)) (places : List Entry) (result : Result Said AskStop)
    → SplitRootStandsFor m61_modulus block hash weight (values_of depth stream l) (weights_of depth stream l)
    → general.Answers (heavy_protocol (above_asked version m61_modulus hash weight (length block) l.at_least)) (ask_of l) block old new before now places result
    → Asks (asking version depth stream) (l, block) old new (λ (_ : Unit {0}) (answer : List Entry). take (found_in (length places) result) places ≡ answer) (verdict_of result)
root_answers version depth stream l block hash weight old new before now places result stands answers =
    asks_so version depth stream l block old new before now places result
    (subst (λ (a : HeavyAsked). general.Answers (heavy_protocol a) (ask_of l) block old new before now places result) (root_asks version depth stream l block hash weight stands) answers)

-- what is kept does not depend on what is given
as_given : (version : Version) (old new before now : SinkState) (result : Result Said AskStop) → AskClause version (between old new) (between before now) (came_of (kept.verdict_of result))
    → AskClause version (between old new) (between before now) (verdict_of result)
as_given version old new before now (Ok (saids.Number n)) k = given_keeps version old new before now _ tt k
as_given version old new before now (Ok (saids.Pairs found)) k = given_keeps version old new before now _ tt k
as_given version old new before now (Err (stops.Rejected round reason)) k = stop_keeps version old new before now _ k
as_given version old new before now (Err stops.PeerFault) k = stop_keeps version old new before now _ k
as_given version old new before now (Err stops.KeepFault) k = stop_keeps version old new before now _ k
as_given version old new before now (Err stops.OutOfMemory) k = stop_keeps version old new before now _ k
as_given version old new before now (Err stops.KeepOutOfMemory) k = stop_keeps version old new before now _ k

pub large_keeps : (a : HeavyAsked) (l : Large) (block : List ℕ) (old new before now : SinkState) (places : List Entry) (result : Result Said AskStop)
    → general.Answers (heavy_protocol a) (ask_of l) block old.told new.told before.told now.told places result
    → (result ≡ Err stops.PeerFault → Rose old.faults new.faults) → (result ≡ Err stops.KeepFault → Rose before.faults now.faults)
    → (result ≡ Err stops.OutOfMemory → Rose old.wants new.wants) → (result ≡ Err stops.KeepOutOfMemory → Rose before.wants now.wants)
    → AskClause a.version (between old new) (between before now) (verdict_of result)
large_keeps a l block old new before now places result answers peer keeper memory keeper_memory =
    as_given a.version old new before now result (asked_keeps (heavy_protocol a) (ask_of l) block old new before now places result answers peer keeper memory keeper_memory)
