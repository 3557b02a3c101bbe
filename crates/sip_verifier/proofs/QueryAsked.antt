-- What the general talk did for a query is what a session promises of it, by the protocol of the query's kind.
use Rattle.std.proofs.Common.{◌≡◌, inl, inr, ℕ, None, Option, Result, Ok, Err, List, [], ◌∷◌, ◌++◌, length, min, zero, suc, take, sym, ap, subst, ◌∙◌, arith}
use Rattle.sip_wire.specs.declared.version.Version.{Version}
use Rattle.sip_ports.specs.declared.port.TalkEvent.{TalkEvent}
use Rattle.sip_ports.specs.Ports.{GoesOn}
use Rattle.sip_vector.specs.declared.query.Query.{Query}
use Rattle.sip_vector.specs.declared.update.Entry.{Entry}
use Rattle.sip_vector.specs.declared.update.Update.{Update}
use Rattle.sip_vector.specs.Answers.{Answer, pairs, number}
use Rattle.sip_wire.specs.declared.message.Message.TheVariants as messages
use Rattle.sip_wire.specs.declared.message.Reason.{Reason}
use Rattle.sip_replies.specs.declared.asking.AskStop.{AskStop}
use Rattle.sip_replies.specs.declared.asking.AskStop.TheVariants as stops
use Rattle.sip_replies.specs.declared.check.Said.{Said}
use Rattle.sip_replies.specs.declared.check.Said.TheVariants as saids
use Rattle.sip_replies.specs.Asking as general
use Rattle.sip_replies.specs.Protocols.{Protocol}
use Rattle.sip_replies.specs.Talks.{IsPrefix, asked, asked_unless, ending}
use Rattle.sip_verifier.specs.Asking.{question_of, IsAnswered, IsRejected, IsInterrupted, IsUnrecorded, Asks}
use Rattle.sip_verifier.specs.inside.Judging.{found_in, verdict_of}
use Rattle.sip_verifier.specs.inside.Protocols.{IsProtocol}
use Rattle.sip_verifier.specs.Questions.{said_for}

-- no more are shown than there are
pub take-min : {X : Type 0} (n : ℕ) (xs : List X) → take (min n (length xs)) xs ≡ take n xs
take-min zero xs = let none : min 0 (length xs) ≡ 0 = omega arith in ap (λ (k : ℕ). take k xs) none
take-min (suc n) [] = let none : min (suc n) 0 ≡ 0 = omega arith in ap (λ (k : ℕ). take k []) none
take-min (suc n) (x ∷ xs) =
    let one : min (suc n) (suc (length xs)) ≡ suc (min n (length xs)) = omega arith in
    ap (λ (k : ℕ). take k (x ∷ xs)) one ∙ ap (λ (l : List _). x ∷ l) (take-min n xs)

module _ (version : Version) (depth : ℕ) (stream : List Update) (query : Query) (block : List ℕ) (old new before now : Option (List TalkEvent)) {S : Type 0} (P : Protocol S) (is : IsProtocol version depth stream query block P) where
  asked_is : P.unasked ≡ None → (replies : List (List ℕ))
      → asked P.rules.version (messages.Query query) block replies
      ≡ said_for version depth stream (question_of query block replies)
  asked_is due replies =
      ap (λ (u : Option Answer). asked_unless u P.rules.version (messages.Query query) block replies) (sym due)
      ∙ is.said replies

  answered : (answer : Answer) → general.IsAnswered P (messages.Query query) block old new before now answer
      → IsAnswered version depth stream query block old new answer
  answered answer a = record {
    replies = a.replies;
    talk = subst (GoesOn old new) (is.said a.replies) a.talk;
    accepted = is.accepts a.replies answer a.accepted;
  }

  rejected : (round : ℕ) (reason : Reason) → general.IsRejected P (messages.Query query) block old new before now
      round reason → IsRejected version depth stream query block old new round reason
  rejected round reason r = record {
    replies = r.replies;
    talk = subst (GoesOn old new) (ap (λ (talk : List TalkEvent). talk ++ ending reason)
        (asked_is r.faulty.asked r.replies)) r.talk;
    faulty = is.faulty r.replies (record { round = round; reason = reason }) r.faulty;
  }

  interrupted : general.IsInterrupted P (messages.Query query) block old new before now
      → IsInterrupted version depth stream query block old new
  interrupted i = record {
    replies = i.replies;
    said = i.said;
    talk = i.talk;
    order = subst (IsPrefix i.said) (asked_is i.due i.replies) i.order;
    waits = is.waits i.replies (i.due, i.unfinished, i.missing);
  }

  unrecorded : general.IsUnrecorded P (messages.Query query) block old new before now
      → IsUnrecorded version depth stream query block old new
  unrecorded u = record {
    replies = u.replies;
    ended = u.ended;
    talk = subst (GoesOn old new) (ap (λ (talk : List TalkEvent). talk ++ u.ended)
        (asked_is u.unjudged.asked u.replies)) u.talk;
    unjudged = is.unjudged u.replies u.ended u.unjudged;
  }

  -- what was answered
  pub asks : (places : List Entry) (result : Result Said AskStop)
      → general.Answers P (messages.Query query) block old new before now places result
      → Asks version depth stream query block old new
      (take (found_in (length places) result) places) (verdict_of result)
  asks places (Ok (saids.Number n)) a = answered (number n) a
  asks places (Ok (saids.Pairs found)) a = rw (take-min found places)
      (answered (pairs (take found places)) a)
  asks places (Err (stops.Rejected round reason)) a = rejected round reason a
  asks places (Err stops.PeerFault) a = interrupted a
  asks places (Err stops.KeepFault) a = unrecorded a
  asks places (Err stops.OutOfMemory) a = inl (interrupted a)
  asks places (Err stops.KeepOutOfMemory) a = inr (unrecorded a)
