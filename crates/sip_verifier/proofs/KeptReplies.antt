-- What was heard of the replies to a query was kept, by what the general talk did.
use Rattle.std.proofs.Common.{◌≡◌, ◌≤◌, ℕ, Option, Result, Ok, Err, List, [], ◌∷◌, ◌++◌, length, refl, sym, ap, subst, ◌∙◌, inl, inr, arith, append-nil, length-append}
use Rattle.sip_ports.specs.declared.port.TalkEvent.{TalkEvent}
use Rattle.sip_ports.specs.Desk.{IsOfLink}
use Rattle.sip_ports.specs.Ports.{GoesOn, heard, outs}
use Rattle.sip_ports.proofs.DeskLemmas.{IsOfLink-append}
use Rattle.sip_ports.proofs.TalkLemmas.{heard-append}
use Rattle.sip_vector.specs.declared.update.Entry.{Entry}
use Rattle.sip_vector.specs.Answers.{Answer, number}
use Rattle.sip_wire.specs.declared.message.Message.{Message}
use Rattle.sip_wire.specs.declared.message.Reason.{Reason}
use Rattle.sip_wire.specs.declared.message.Reason.TheVariants as reasons
use Rattle.sip_replies.specs.declared.asking.AskStop.{AskStop}
use Rattle.sip_replies.specs.declared.asking.AskStop.TheVariants as stops
use Rattle.sip_replies.specs.declared.check.Said.{Said}
use Rattle.sip_replies.specs.declared.check.Said.TheVariants as saids
use Rattle.sip_replies.specs.Asking.{AreFrames, KeepsPart, IsAnswered, IsRejected, IsInterrupted, IsUnrecorded, Answers}
use Rattle.sip_replies.specs.Checks.{answer_of}
use Rattle.sip_replies.specs.Protocols.{Protocol}
use Rattle.sip_replies.specs.Replies.{MayEnd, joined}
use Rattle.sip_replies.specs.Talks.{asked, asked_unless, ending}
use Rattle.sip_replies.proofs.Hearing.{heard-asked}
use Rattle.sip_verifier.specs.inside.Judging.{verdict_of}
use Rattle.sip_verifier.specs.AskClause.{came_of}
use Rattle.sip_verifier.specs.Keeping.{AllIsKept, FramesAreKept, FrontIsKept, WholeIsKept}
use Rattle.sip_verifier.specs.runs.Askers.{KeepsAsked}
use Rattle.sip_verifier.proofs.HeardTalks.{heard_accepted}
use Rattle.sip_verifier.proofs.TalksOfLink.{asked_of_link, ended_of_link, ending_of_link, prefix_of_link, unless_of_link}

-- no byte is heard where the link ends
pub heard-ending : (reason : Reason) → heard (ending reason) ≡ []
heard-ending reasons.Closed = refl
heard-ending _ = refl

pub heard-ended : {IsOpen : Type 0} (ended : List TalkEvent) → MayEnd IsOpen ended → heard ended ≡ []
heard-ended ended (inl none) = ap heard none
heard-ended ended (inr (found, cut)) = ap heard found

module _ {S : Type 0} (P : Protocol S) (request : Message) (block : List ℕ) (old new before now : Option (List TalkEvent)) where
  -- the replies are what is heard up to the end of the link
  heard_to_end : (replies : List (List ℕ)) (ended : List TalkEvent) → length replies ≤ length block → heard ended ≡ []
      → heard (asked P.rules.version request block replies ++ ended) ≡ joined replies
  heard_to_end replies ended few none =
      heard-append (asked P.rules.version request block replies) ended
      ∙ ap (λ (l : List ℕ). heard (asked P.rules.version request block replies) ++ l) none
      ∙ append-nil (heard (asked P.rules.version request block replies))
      ∙ heard-asked P.rules.version request block replies few

  answered_kept : (answer : Answer) → IsAnswered P request block old new before now answer → WholeIsKept old new before now P.rules.version
  answered_kept answer a =
      let came = sym (heard_accepted P request block a.replies answer P.unasked a.accepted) in
      record {
        said = asked_unless P.unasked P.rules.version request block a.replies;
        link = unless_of_link P.unasked P.rules.version request block a.replies;
        talk = a.talk;
        frames = subst (AreFrames P.rules.version) came a.frames;
        wrote = subst (λ (l : List ℕ). GoesOn before now (outs l)) came a.kept;
      }

  rejected_kept : (round : ℕ) (reason : Reason) → IsRejected P request block old new before now round reason → AllIsKept old new before now
  rejected_kept round reason r = record {
    said = asked P.rules.version request block r.replies ++ ending reason;
    link = IsOfLink-append (asked P.rules.version request block r.replies) (ending reason) (asked_of_link P.rules.version request block r.replies) (ending_of_link reason);
    talk = r.talk;
    wrote = subst (λ (l : List ℕ). GoesOn before now (outs l)) (sym (heard_to_end r.replies (ending reason) (omega (arith, r.faulty.taken)) (heard-ending reason))) r.kept;
  }

  interrupted_link : (i : IsInterrupted P request block old new before now) → IsOfLink i.said
  interrupted_link i = prefix_of_link i.said (asked P.rules.version request block i.replies) i.order (asked_of_link P.rules.version request block i.replies)

  interrupted_kept : IsInterrupted P request block old new before now → FramesAreKept old new before now P.rules.version
  interrupted_kept i = record { said = i.said; link = interrupted_link i; talk = i.talk; wrote = i.kept }

  -- and so a front
  interrupted_front : IsInterrupted P request block old new before now → FrontIsKept old new before now
  interrupted_front i = record { said = i.said; link = interrupted_link i; talk = i.talk; wrote = (i.kept.whole, (i.kept.part, i.kept.split), i.kept.kept) }

  unrecorded_kept : IsUnrecorded P request block old new before now → FrontIsKept old new before now
  unrecorded_kept u =
      let few : length u.replies ≤ length block = omega (arith, ap length u.unjudged.taken, length-append u.unjudged.earlier (u.unjudged.last ∷ []), u.unjudged.few) in
      record {
        said = asked P.rules.version request block u.replies ++ u.ended;
        link = IsOfLink-append (asked P.rules.version request block u.replies) u.ended (asked_of_link P.rules.version request block u.replies) (ended_of_link u.ended u.unjudged.may_end);
        talk = u.talk;
        wrote = subst (KeepsPart before now) (sym (heard_to_end u.replies u.ended few (heard-ended u.ended u.unjudged.may_end))) u.kept;
      }

  pub replies_kept : (places : List Entry) (result : Result Said AskStop) → Answers P request block old new before now places result → KeepsAsked old new before now P.rules.version (came_of (verdict_of result))
  replies_kept places (Ok (saids.Number n)) a = answered_kept (number n) a
  replies_kept places (Ok (saids.Pairs found)) a = answered_kept (answer_of places (saids.Pairs found)) a
  replies_kept places (Err (stops.Rejected round reason)) a = rejected_kept round reason a
  replies_kept places (Err stops.PeerFault) a = interrupted_kept a
  replies_kept places (Err stops.KeepFault) a = unrecorded_kept a
  replies_kept places (Err stops.OutOfMemory) a = interrupted_front a
  replies_kept places (Err stops.KeepOutOfMemory) a = unrecorded_kept a
