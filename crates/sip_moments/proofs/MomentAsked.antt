-- What the general talk did for a moment is what the manner of asking moments says.
use Rattle.std.proofs.Common.{◌≡◌, ◌≢◌, ◌⊎◌, ℕ, Bool, true, false, Option, Some, None, Result, Ok, Err, List, ℤ, refl, inl, inr}
use Rattle.sip_ports.specs.declared.port.TalkEvent.{TalkEvent}
use Rattle.sip_vector.specs.Answers.{number, pairs}
use Rattle.sip_vector.specs.Steps.{◌>>=◌, needs}
use Rattle.sip_vector.specs.declared.update.Entry.{Entry}
use Rattle.sip_vector.specs.declared.update.Update.{Update}
use Rattle.sip_wire.specs.declared.message.Reason.{Reason}
use Rattle.sip_wire.specs.declared.message.Reason.TheVariants as reasons
use Rattle.sip_wire.specs.declared.version.Version.{Version}
use Rattle.sip_replies.specs.declared.asking.AskStop.{AskStop}
use Rattle.sip_replies.specs.declared.asking.AskStop.TheVariants as stops
use Rattle.sip_replies.specs.declared.check.Said.{Said}
use Rattle.sip_replies.specs.declared.check.Said.TheVariants as saids
use Rattle.sip_replies.specs.Asking as general
use Rattle.sip_replies.specs.Protocols.{Protocol}
use Rattle.sip_replies.specs.Replies.{Fault, in_round, run}
use Rattle.sip_verifier.specs.declared.asker.Unanswered.TheVariants as unanswered
use Rattle.sip_verifier.specs.declared.session.SessionFault.TheVariants as faults
use Rattle.sip_verifier.specs.runs.Askers.{Asks, KeepsAsked}
use Rattle.sip_verifier.specs.runs.Asking.{IsAnswered, IsRejected, IsInterrupted, IsUnrecorded}
use Rattle.sip_moments.specs.declared.moment.Moment.{Moment}
use Rattle.sip_moments.specs.AcceptsMoment.{power_at}
use Rattle.sip_moments.specs.Manner.{asking, numbers_of}
use Rattle.sip_moments.specs.Protocol.{MomentAsked, MomentState, claimed, moment_asked, moment_protocol}
use Rattle.sip_moments.specs.Questions.{ask_of}
use Rattle.sip_moments.specs.Sittings.{verdict_of}
use Rattle.sip_verifier.proofs.KeptReplies.{replies_kept}
use Rattle.sip_field.specs.Moduli.{m61_modulus}

-- ---- a moment is answered by a number

by_root : (test : Bool) (d : ℕ) (claim : ℤ) (es : List Entry)
    → in_round d (needs test reasons.Root >>= λ _. Ok (number claim)) ≢ Ok (pairs es)
by_root true d claim es e = absurd cc
by_root false d claim es e = absurd cc

by_claim : (asked : MomentAsked) (s : MomentState) (claim : Option ℤ) (d : ℕ) (es : List Entry)
    → in_round d (claimed asked s claim) ≢ Ok (pairs es)
by_claim asked s None d es e = absurd cc
by_claim asked s (Some claim) d es e = by_root _ d claim es e

by_run : (asked : MomentAsked) (d : ℕ) (es : List Entry) (r : Result MomentState Fault)
    → (r >>= λ s. in_round d ((moment_protocol asked).finish s)) ≢ Ok (pairs es)
by_run asked d es (Ok s) e = by_claim asked s s.claim d es e
by_run asked d es (Err fault) e = absurd cc

module _ (version : Version) (depth : ℕ) (stream : List Update) (m : Moment) (block : List ℕ)
    (old new before now : Option (List TalkEvent)) where
  -- what is asked
  abbrev pub asked_for : MomentAsked
  asked_for = moment_asked version m61_modulus m.degree
      (power_at m61_modulus m.degree (numbers_of depth stream m) block)

  abbrev P : Protocol MomentState
  P = moment_protocol asked_for

  pub answered : (n : ℤ) → general.IsAnswered P (ask_of m) block old new before now (number n)
      → IsAnswered (asking version depth stream) m block old new n
  answered n a = record { replies = a.replies; talk = a.talk; accepted = a.accepted }

  pub never_pairs : (es : List Entry)
      → general.IsAnswered P (ask_of m) block old new before now (pairs es) → ⊥
  never_pairs es a =
      by_run asked_for _ es (run P.rules block a.replies) a.accepted.found

  pub rejected : (round : ℕ) (reason : Reason)
      → general.IsRejected P (ask_of m) block old new before now round reason
      → IsRejected (asking version depth stream) m block old new round reason
  rejected round reason r = record { replies = r.replies; talk = r.talk; faulty = r.faulty }

  pub interrupted : general.IsInterrupted P (ask_of m) block old new before now
      → IsInterrupted (asking version depth stream) m block old new
  interrupted i = record {
    replies = i.replies;
    said = i.said;
    talk = i.talk;
    order = i.order;
    waits = (i.due, i.unfinished, i.missing);
  }

  pub unrecorded : general.IsUnrecorded P (ask_of m) block old new before now
      → IsUnrecorded (asking version depth stream) m block old new
  unrecorded u = record {
    replies = u.replies;
    ended = u.ended;
    talk = u.talk;
    unjudged = u.unjudged;
  }

  -- what came of a question
  pub asks_so : (places : List Entry) (asked : Result Said AskStop)
      → general.Answers P (ask_of m) block old new before now places asked
      → Asks (asking version depth stream) (m, block) old new (λ (value stated : ℤ). value ≡ stated)
      (verdict_of asked)
  asks_so places (Ok (saids.Number n)) a =
      record { answer = n; answered = answered n a; states = refl }
  asks_so places (Ok (saids.Pairs found)) a = absurd (never_pairs _ a)
  asks_so places (Err (stops.Rejected round reason)) r = rejected round reason r
  asks_so places (Err stops.PeerFault) i = interrupted i
  asks_so places (Err stops.KeepFault) u = unrecorded u
  asks_so places (Err stops.OutOfMemory) i = inl (interrupted i)
  asks_so places (Err stops.KeepOutOfMemory) u = inr (unrecorded u)

-- ---- whatever the power is

module _ (asked_for : MomentAsked) (m : Moment) (block : List ℕ)
    (old new before now : Option (List TalkEvent)) (places : List Entry) where
  abbrev Came : Result Said AskStop → Type 0
  Came asked =
      general.Answers (moment_protocol asked_for) (ask_of m) block old new before now places asked

  -- no answer is pairs
  pub no_pairs : (found : ℕ) (asked : Result Said AskStop) → Came asked
      → asked ≢ Ok (saids.Pairs found)
  no_pairs found (Ok (saids.Pairs other)) a e =
      by_run asked_for _ _ (run (moment_protocol asked_for).rules block a.replies) a.accepted.found
  no_pairs found (Ok (saids.Number n)) a e = absurd cc
  no_pairs found (Err stop) a e = absurd cc

  -- what was kept of the replies
  pub keeps_so : (asked : Result Said AskStop) → Came asked
      → KeepsAsked old new before now asked_for.version (verdict_of asked)
  keeps_so (Ok (saids.Number n)) a =
      replies_kept (moment_protocol asked_for) (ask_of m) block old new before now places
      (Ok (saids.Number n)) a
  keeps_so (Ok (saids.Pairs found)) a =
      replies_kept (moment_protocol asked_for) (ask_of m) block old new before now places
      (Ok (saids.Pairs found)) a
  keeps_so (Err (stops.Rejected round reason)) a =
      replies_kept (moment_protocol asked_for) (ask_of m) block old new before now places
      (Err (stops.Rejected round reason)) a
  keeps_so (Err stops.PeerFault) a =
      replies_kept (moment_protocol asked_for) (ask_of m) block old new before now places
      (Err stops.PeerFault) a
  keeps_so (Err stops.KeepFault) a =
      replies_kept (moment_protocol asked_for) (ask_of m) block old new before now places
      (Err stops.KeepFault) a
  keeps_so (Err stops.OutOfMemory) a =
      replies_kept (moment_protocol asked_for) (ask_of m) block old new before now places
      (Err stops.OutOfMemory) a
  keeps_so (Err stops.KeepOutOfMemory) a =
      replies_kept (moment_protocol asked_for) (ask_of m) block old new before now places
      (Err stops.KeepOutOfMemory) a

-- ---- why there is no verdict

pub peer_only : (asked : Result Said AskStop)
    → verdict_of asked ≡ Err (unanswered.Fault faults.PeerFault) → asked ≡ Err stops.PeerFault
peer_only (Err stops.PeerFault) e = refl
peer_only (Ok (saids.Number n)) e = absurd cc
peer_only (Ok (saids.Pairs found)) e = absurd cc
peer_only (Err (stops.Rejected round reason)) e = absurd cc
peer_only (Err stops.KeepFault) e = absurd cc
peer_only (Err stops.OutOfMemory) e = absurd cc
peer_only (Err stops.KeepOutOfMemory) e = absurd cc

pub keep_only : (asked : Result Said AskStop)
    → verdict_of asked ≡ Err (unanswered.Fault faults.KeepFault) → asked ≡ Err stops.KeepFault
keep_only (Err stops.KeepFault) e = refl
keep_only (Ok (saids.Number n)) e = absurd cc
keep_only (Ok (saids.Pairs found)) e = absurd cc
keep_only (Err (stops.Rejected round reason)) e = absurd cc
keep_only (Err stops.PeerFault) e = absurd cc
keep_only (Err stops.OutOfMemory) e = absurd cc
keep_only (Err stops.KeepOutOfMemory) e = absurd cc

pub memory_only : (asked : Result Said AskStop)
    → verdict_of asked ≡ Err (unanswered.Fault faults.OutOfMemory)
    → (asked ≡ Err stops.OutOfMemory) ⊎ (asked ≡ Err stops.KeepOutOfMemory)
memory_only (Err stops.OutOfMemory) e = inl refl
memory_only (Err stops.KeepOutOfMemory) e = inr refl
memory_only (Ok (saids.Number n)) e = absurd cc
memory_only (Ok (saids.Pairs found)) e = absurd cc
memory_only (Err (stops.Rejected round reason)) e = absurd cc
memory_only (Err stops.PeerFault) e = absurd cc
memory_only (Err stops.KeepFault) e = absurd cc
