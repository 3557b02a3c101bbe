-- A talk without what is done to the file: what came of a question is seen in it as well.
use Rattle.std.proofs.Common.{◌≡◌, ℕ, zero, suc, Bool, true, false, cond, List, [], ◌∷◌, ◌++◌, map, flat_map, take, Option, Some, None, inl, inr, refl, sym, ap, subst, ◌∙◌}
use Rattle.std.specs.Prelude.{Result, Ok, Err}
use Rattle.sip_ports.specs.Desk.{IsOfLink, steps}
use Rattle.sip_ports.specs.Ports.{GoesOn, ins}
use Rattle.sip_ports.specs.declared.port.TalkEvent.{TalkEvent}
use Rattle.sip_ports.specs.declared.port.TalkEvent.TheVariants.{Out, In, Ended, Fresh, Stored, Renames, Kept}
use Rattle.sip_ports.proofs.DeskLemmas.{IsOfLink-append, IsOfLink-ins, IsOfLink-outs}
use Rattle.sip_vector.specs.declared.query.Query.TheVariants.{Sub}
use Rattle.sip_vector.specs.declared.update.Update.{Update}
use Rattle.sip_wire.specs.Spelling.{spelling}
use Rattle.sip_wire.specs.declared.message.Message.TheVariants as messages
use Rattle.sip_wire.specs.declared.message.Reason.{Reason}
use Rattle.sip_wire.specs.declared.version.Version.{Version}
use Rattle.sip_replies.specs.Replies as general
use Rattle.sip_replies.specs.Talks.{asked, ending, sent}
use Rattle.sip_verifier.specs.Kinds.{Holds, KindRow, built, missing, kind_row}
use Rattle.sip_verifier.specs.Questions.{said_by_kind}
use Rattle.sip_verifier.specs.Questions as queries
use Rattle.sip_verifier.specs.declared.status.Port.TheVariants as ports
use Rattle.sip_verifier.specs.declared.status.Status.{Status}
use Rattle.sip_verifier.specs.declared.status.Status.TheVariants as statuses
use Rattle.sip_verifier.specs.runs.Asking.{IsAnswered, IsInterrupted, IsRejected, IsUnrecorded, question_of}
use Rattle.sip_verifier.specs.runs.Manners.{Manner}
use Rattle.sip_verifier.specs.runs.Progress.{Checks, Fails, FailsInPart, HasNone, Passes, PassesInPart, StaysUnjudged}
use Rattle.sip_verifier.proofs.TalksOfLink.{asked_of_link, ended_of_link, ending_of_link, prefix_of_link, unless_of_link}
use Rattle.sip_above.specs.Manner as larges
use Rattle.sip_above.specs.Questions.{ask_of as large_of}
use Rattle.sip_lookup.specs.Frames.{ask_message, found_message, read_found}
use Rattle.sip_lookup.specs.Lookups.{is_possible, range_of}
use Rattle.sip_lookup.specs.Questions as lookups
use Rattle.sip_moments.specs.Questions.{ask_of}
use Rattle.sip_questions.specs.Questions.{Answered, IsUnjudgedOf, Posed, asking, said_of}
use Rattle.sip_questions.specs.declared.question.Question.{Question}
use Rattle.sip_questions.specs.declared.question.Question.TheVariants as questions
use Rattle.sip_ask.specs.Promises.{of_link}

-- ---- events of the link

pub link-append : (xs ys : List TalkEvent) → of_link (xs ++ ys) ≡ of_link xs ++ of_link ys
link-append [] ys = refl
link-append (Out b ∷ xs) ys = ap (λ l. Out b ∷ l) (link-append xs ys)
link-append (In b ∷ xs) ys = ap (λ l. In b ∷ l) (link-append xs ys)
link-append (Ended ∷ xs) ys = ap (λ l. Ended ∷ l) (link-append xs ys)
link-append (Fresh ∷ xs) ys = link-append xs ys
link-append (Stored b ∷ xs) ys = link-append xs ys
link-append (Renames ∷ xs) ys = link-append xs ys
link-append (Kept ∷ xs) ys = link-append xs ys

pub link-same : (es : List TalkEvent) → IsOfLink es → of_link es ≡ es
link-same [] is = refl
link-same (Out b ∷ es) is = ap (λ l. Out b ∷ l) (link-same es is)
link-same (In b ∷ es) is = ap (λ l. In b ∷ l) (link-same es is)
link-same (Ended ∷ es) is = ap (λ l. Ended ∷ l) (link-same es is)
link-same (Fresh ∷ es) is = absurd is
link-same (Stored b ∷ es) is = absurd is
link-same (Renames ∷ es) is = absurd is
link-same (Kept ∷ es) is = absurd is

link-stored : (bytes : List ℕ) → of_link (map Stored bytes) ≡ []
link-stored [] = refl
link-stored (b ∷ bytes) = link-stored bytes

pub link-steps : (bytes : List ℕ) → of_link (steps bytes) ≡ []
link-steps bytes =
    link-append (map Stored bytes) (Renames ∷ Kept ∷ []) ∙ ap (λ (l : List TalkEvent). l ++ []) (link-stored bytes)

-- a front of events that are none of the link
pub link-front : (n : ℕ) (es : List TalkEvent) → of_link es ≡ [] → of_link (take n es) ≡ []
link-front zero [] none = refl
link-front zero (e ∷ es) none = refl
link-front (suc n) [] none = refl
link-front (suc n) (Out b ∷ es) none = absurd cc
link-front (suc n) (In b ∷ es) none = absurd cc
link-front (suc n) (Ended ∷ es) none = absurd cc
link-front (suc n) (Fresh ∷ es) none = link-front n es none
link-front (suc n) (Stored b ∷ es) none = link-front n es none
link-front (suc n) (Renames ∷ es) none = link-front n es none
link-front (suc n) (Kept ∷ es) none = link-front n es none

-- ---- a talk of the link

-- those events of a talk that is told
abbrev pub linked : Option (List TalkEvent) → Option (List TalkEvent)
linked None = None
linked (Some talk) = Some (of_link talk)

pub linked-goes : (old new : Option (List TalkEvent)) (es : List TalkEvent) → GoesOn old new es → GoesOn (linked old) (linked new) (of_link es)
linked-goes None new es goes = tt
linked-goes (Some talk) None es goes = absurd goes
linked-goes (Some talk) (Some more) es goes = ap of_link goes ∙ link-append talk es

linked-same : (old new : Option (List TalkEvent)) (es : List TalkEvent) → IsOfLink es → GoesOn old new es → GoesOn (linked old) (linked new) es
linked-same old new es is goes = subst (GoesOn (linked old) (linked new)) (link-same es is) (linked-goes old new es goes)

-- ---- what is said for a question

kind-of-link : (row : KindRow) (q : queries.Question) → IsOfLink (said_by_kind row q)
kind-of-link (built kind) q = unless_of_link (kind.protocol q.block).unasked (kind.protocol q.block).rules.version (messages.Query q.query) q.block q.replies
kind-of-link missing q = tt

module _ (version : Version) (depth : ℕ) where
  possible-of-link : (possible : Bool) (first found said : List TalkEvent) → IsOfLink first → IsOfLink found → IsOfLink said → IsOfLink (cond possible (found ++ said) first)
  possible-of-link true first found said a b c = IsOfLink-append found said b c
  possible-of-link false first found said a b c = a

  behind-of-link : (q : lookups.Question) (first : List ℕ) (more : List (List ℕ)) (read : Result (Option ℕ × List ℕ) Reason)
      → IsOfLink (lookups.said_behind version depth q first more read)
  behind-of-link q first more (Err reason) = IsOfLink-ins first
  behind-of-link q first more (Ok x) =
      possible-of-link (is_possible depth q.query x.0) (ins first) (ins (spelling version (found_message x.0)))
      (asked version (messages.Query (Sub (range_of depth q.query x.0).0 (range_of depth q.query x.0).1)) q.block (x.1 ∷ more))
      (IsOfLink-ins first) (IsOfLink-ins (spelling version (found_message x.0))) (asked_of_link version _ q.block (x.1 ∷ more))

  back-of-link : (q : lookups.Question) (replies : List (List ℕ)) → IsOfLink (lookups.said_back version depth q replies)
  back-of-link q [] = tt
  back-of-link q (first ∷ more) = behind-of-link q first more (read_found version first)

  look-of-link : (q : lookups.Question) → IsOfLink (lookups.said_for version depth q)
  look-of-link q =
      IsOfLink-append (sent version (ask_message q.query ∷ [])) (lookups.said_back version depth q q.replies)
      (IsOfLink-outs (flat_map (spelling version) (ask_message q.query ∷ []))) (back-of-link q q.replies)

module _ (version : Version) (depth : ℕ) (stream : List Update) where
  said-of-link : (q : Posed) (question : Question) → IsOfLink (said_of version depth stream q question)
  said-of-link q (questions.Query query) = kind-of-link (kind_row version depth stream query) (record { query = query; block = q.block; replies = q.replies })
  said-of-link q (questions.Lookup lookup) = look-of-link version depth (record { query = lookup; block = q.block; replies = q.replies })
  said-of-link q (questions.Moment moment) = asked_of_link version (ask_of moment) q.block q.replies
  said-of-link q (questions.Large large) = unless_of_link (larges.protocol_of version depth stream (record { query = large; block = q.block; replies = q.replies })).unasked version (large_of large) q.block q.replies

  row-ended : (row : KindRow) (block : List ℕ) (replies : List (List ℕ)) (ended : List TalkEvent)
      → Holds (λ kind. general.IsUnjudged (kind.protocol block) block replies ended) row → IsOfLink ended
  row-ended (built kind) block replies ended unjudged = ended_of_link ended unjudged.may_end
  row-ended missing block replies ended unjudged = absurd unjudged

  look-ended : (q : lookups.Question) (ended : List TalkEvent) → lookups.IsUnjudged version depth stream q ended → IsOfLink ended
  look-ended q ended (inl found) =
      subst IsOfLink (sym found.came) (IsOfLink-append (ins found.first) found.end (IsOfLink-ins found.first) (ended_of_link found.end found.may_end))
  look-ended q ended (inr behind) = ended_of_link ended behind.holds.may_end

  ended-link : (q : Posed) (question : Question) (ended : List TalkEvent) → IsUnjudgedOf version depth stream q question ended → IsOfLink ended
  ended-link q (questions.Query query) ended unjudged = row-ended (kind_row version depth stream query) q.block q.replies ended unjudged
  ended-link q (questions.Lookup lookup) ended unjudged = look-ended (record { query = lookup; block = q.block; replies = q.replies }) ended unjudged
  ended-link q (questions.Moment moment) ended unjudged = ended_of_link ended unjudged.may_end
  ended-link q (questions.Large large) ended unjudged = ended_of_link ended unjudged.may_end

  -- ---- what came of a question

  abbrev m : Manner Question Answered
  m = asking version depth stream

  module _ (question : Question) (block : List ℕ) (number : ℕ) (old new blank full : Option (List TalkEvent)) where
    said-link : (replies : List (List ℕ)) → IsOfLink (m.said_for (question_of question block replies))
    said-link replies = said-of-link (question_of question block replies) question

    answered-linked : {answer : Answered} → IsAnswered m question block old new answer → IsAnswered m question block (linked old) (linked new) answer
    answered-linked x = record {
      replies = x.replies;
      talk = linked-same old new (m.said_for (question_of question block x.replies)) (said-link x.replies) x.talk;
      accepted = x.accepted;
    }

    rejected-linked : {round : ℕ} {reason : Reason} → IsRejected m question block old new round reason → IsRejected m question block (linked old) (linked new) round reason
    rejected-linked {reason = reason} x =
        let said = m.said_for (question_of question block x.replies) in
        record {
          replies = x.replies;
          talk = linked-same old new (said ++ ending reason) (IsOfLink-append said (ending reason) (said-link x.replies) (ending_of_link reason)) x.talk;
          faulty = x.faulty;
        }

    interrupted-linked : IsInterrupted m question block old new → IsInterrupted m question block (linked old) (linked new)
    interrupted-linked x = record {
      replies = x.replies;
      said = x.said;
      talk = linked-same old new x.said (prefix_of_link x.said (m.said_for (question_of question block x.replies)) x.order (said-link x.replies)) x.talk;
      order = x.order;
      waits = x.waits;
    }

    unrecorded-linked : IsUnrecorded m question block old new → IsUnrecorded m question block (linked old) (linked new)
    unrecorded-linked x =
        let said = m.said_for (question_of question block x.replies) in
        record {
          replies = x.replies;
          ended = x.ended;
          talk = linked-same old new (said ++ x.ended)
              (IsOfLink-append said x.ended (said-link x.replies) (ended-link (question_of question block x.replies) question x.ended x.unjudged)) x.talk;
          unjudged = x.unjudged;
        }

    passes-linked : Passes m question block number old new blank full → Passes m question block number (linked old) (linked new) blank full
    passes-linked x = record { answer = x.answer; answered = answered-linked x.answered; wrote = x.wrote }

    fails-linked : {round : ℕ} {reason : Reason} → Fails m question block number old new blank full round reason
        → Fails m question block number (linked old) (linked new) blank full round reason
    fails-linked x = record { rejected = rejected-linked x.rejected; wrote = x.wrote }

    passes-part : PassesInPart m question block number old new blank full → PassesInPart m question block number (linked old) (linked new) blank full
    passes-part x = record { answer = x.answer; answered = answered-linked x.answered; part = x.part; front = x.front; wrote = x.wrote }

    fails-part : FailsInPart m question block number old new blank full → FailsInPart m question block number (linked old) (linked new) blank full
    fails-part x = record { round = x.round; reason = x.reason; rejected = rejected-linked x.rejected; part = x.part; front = x.front; wrote = x.wrote }

    none-linked : HasNone m question block number old new blank full → HasNone m question block number (linked old) (linked new) blank full
    none-linked x = record { interrupted = interrupted-linked x.interrupted; same = x.same }

    stays-linked : StaysUnjudged m question block number old new blank full → StaysUnjudged m question block number (linked old) (linked new) blank full
    stays-linked x = record { unrecorded = unrecorded-linked x.unrecorded; same = x.same }

    pub checks-linked : (result : Result (Unit {0}) Status) → Checks m question block number old new blank full result
        → Checks m question block number (linked old) (linked new) blank full result
    checks-linked (Ok done) c = passes-linked c
    checks-linked (Err (statuses.Rejected k round reason)) c = (c.0, fails-linked c.1)
    checks-linked (Err (statuses.WriteFault ports.Report)) (inl c) = inl (passes-part c)
    checks-linked (Err (statuses.WriteFault ports.Report)) (inr c) = inr (fails-part c)
    checks-linked (Err (statuses.WriteFault ports.Keep)) c = stays-linked c
    checks-linked (Err statuses.PeerFault) c = none-linked c
    checks-linked (Err statuses.OutOfMemory) (inl c) = inl (passes-part c)
    checks-linked (Err statuses.OutOfMemory) (inr (inl c)) = inr (inl (fails-part c))
    checks-linked (Err statuses.OutOfMemory) (inr (inr (inl c))) = inr (inr (inl (none-linked c)))
    checks-linked (Err statuses.OutOfMemory) (inr (inr (inr c))) = inr (inr (inr (stays-linked c)))
    checks-linked (Err _) c = absurd c
