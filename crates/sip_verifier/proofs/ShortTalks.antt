-- No more bytes are received for a question than its replies may have.
use Rattle.std.proofs.Common.{◌≡◌, inl, inr, ℕ, ◌≤◌, ℤ, Bool, true, false, Option, Some, None, Result, Ok, Err, List, [], ◌++◌, length, refl, sym, ap, subst, ◌∙◌, arith, append-nil, length-append}
use Rattle.std.specs.Prelude.{if◌then◌else◌}
use Rattle.sip_field.specs.Moduli.{m61_modulus}
use Rattle.sip_ports.specs.declared.port.TalkEvent.{TalkEvent}
use Rattle.sip_ports.specs.Ports.{GoesOn, heard}
use Rattle.sip_ports.proofs.TalkLemmas.{heard-append}
use Rattle.sip_vector.specs.declared.query.Query.{Query}
use Rattle.sip_vector.specs.declared.query.Query.TheVariants.{Sub, Range, F2, Inner, Heavy, Share, Above}
use Rattle.sip_vector.specs.declared.update.Entry.{Entry}
use Rattle.sip_vector.specs.declared.update.Update.{Update}
use Rattle.sip_vector.specs.Answers.{Answer, number, pairs}
use Rattle.sip_vector.specs.Streams.{int_sum, vector}
use Rattle.sip_vector.specs.Thresholds.{share_of}
use Rattle.sip_wire.specs.declared.message.Message.{Message}
use Rattle.sip_wire.specs.declared.message.Message.TheVariants as messages
use Rattle.sip_wire.specs.declared.message.Reason.{Reason}
use Rattle.sip_wire.specs.declared.version.Version.{Version}
use Rattle.sip_replies.specs.Protocols.{Protocol}
use Rattle.sip_replies.specs.Replies as general
use Rattle.sip_replies.specs.Replies.{Fault, joined}
use Rattle.sip_replies.specs.Talks.{IsPrefix, asked_unless, ending}
use Rattle.sip_replies.proofs.Hearing.{heard-asked}
use Rattle.sip_replies.proofs.Unasked.{accepted_asked}
use Rattle.sip_heavy.specs.Counting.{asked_over}
use Rattle.sip_heavy.specs.Protocol.{count_of, heavy_rules, reaches}
use Rattle.sip_verifier.specs.declared.session.SessionFault.{SessionFault}
use Rattle.sip_verifier.specs.declared.session.SessionFault.TheVariants as faults
use Rattle.sip_verifier.specs.declared.session.Verdict.{Verdict}
use Rattle.sip_verifier.specs.declared.session.Verdict.TheVariants as verdicts
use Rattle.sip_verifier.specs.Asking.{Asks, IsAnswered, IsInterrupted, IsRejected, IsUnrecorded, question_of}
use Rattle.sip_verifier.specs.Kinds.{Holds, KindRow, built, kind_row, missing}
use Rattle.sip_verifier.specs.Questions.{IsDue, said_by_kind}
use Rattle.sip_verifier.specs.ReplyBound.{HearsAtMost, ReplyBound, most_bytes, most_node_bytes}
use Rattle.sip_verifier.proofs.EntrySizes.{entries_short}
use Rattle.sip_verifier.proofs.KeptReplies.{heard-ended, heard-ending}
use Rattle.sip_verifier.proofs.NodeSizes.{nodes_short}
use Rattle.sip_verifier.proofs.SumSizes.{sums_short}
use Rattle.sip_verifier.proofs.TakenReplies.{AreTaken, faulty_taken, stated_taken, unfinished_taken, unjudged_taken}

module _ {S : Type 0} (P : Protocol S) (request : Message) (block : List ℕ) (old new : Option (List TalkEvent)) (most : ℕ)
    (short : (replies : List (List ℕ)) → P.unasked ≡ None → AreTaken P.rules block replies → length (joined replies) ≤ most) where
  abbrev said : List (List ℕ) → List TalkEvent
  said replies = asked_unless P.unasked P.rules.version request block replies

  -- what is heard in the talk of replies that were asked for
  heard_said : (replies : List (List ℕ)) → P.unasked ≡ None → length replies ≤ length block → heard (said replies) ≡ joined replies
  heard_said replies due few = ap (λ (o : Option Answer). heard (asked_unless o P.rules.version request block replies)) due ∙ heard-asked P.rules.version request block replies few

  up_to_end : (replies : List (List ℕ)) (ended : List TalkEvent) → heard ended ≡ [] → P.unasked ≡ None → AreTaken P.rules block replies
      → GoesOn old new (said replies ++ ended) → HearsAtMost most old new
  up_to_end replies ended none due taken talk = (
    said replies ++ ended,
    talk,
    omega (arith, ap length (heard-append (said replies) ended), length-append (heard (said replies)) (heard ended), ap length none, ap length (heard_said replies due taken.few), short replies due taken),
  )

  a_front : (replies : List (List ℕ)) (front : List TalkEvent) → IsPrefix front (said replies) → P.unasked ≡ None → AreTaken P.rules block replies
      → GoesOn old new front → HearsAtMost most old new
  a_front replies front (more, is) due taken talk = (
    front,
    talk,
    omega (arith, ap length (ap heard is ∙ heard-append front more), length-append (heard front) (heard more), ap length (heard_said replies due taken.few), short replies due taken),
  )

  all_said : (replies : List (List ℕ)) (answer : Answer) (unasked : Option Answer) → P.unasked ≡ unasked → general.IsAccepted P block replies answer
      → GoesOn old new (said replies) → HearsAtMost most old new
  all_said replies answer None due accepted talk =
      up_to_end replies [] refl due (stated_taken P block replies answer (accepted_asked P block replies answer due accepted)) (subst (GoesOn old new) (sym (append-nil (said replies))) talk)
  all_said replies answer (Some known) is accepted talk =
      ([], subst (GoesOn old new) (ap (λ (o : Option Answer). asked_unless o P.rules.version request block replies) is) talk, omega arith)

module _ (query : Query) (block : List ℕ) (old new : Option (List TalkEvent)) (most : ℕ) where
  -- replies of a query's kind are no longer; of a kind that is not built none is taken
  abbrev ShortRow : KindRow → Type 0
  ShortRow (built kind) = (replies : List (List ℕ)) → (kind.protocol block).unasked ≡ None → AreTaken (kind.protocol block).rules block replies
      → length (joined replies) ≤ most
  ShortRow missing = Unit {0}

  row_answered : (row : KindRow) → ShortRow row → (replies : List (List ℕ)) (answer : Answer) → GoesOn old new (said_by_kind row (question_of query block replies))
      → Holds (λ kind. general.IsAccepted (kind.protocol block) block replies answer) row → HearsAtMost most old new
  row_answered (built kind) short replies answer talk accepted = all_said (kind.protocol block) (messages.Query query) block old new most short replies answer (kind.protocol block).unasked refl accepted talk
  row_answered missing short replies answer talk accepted = absurd accepted

  row_rejected : (row : KindRow) → ShortRow row → (replies : List (List ℕ)) (fault : Fault) → GoesOn old new (said_by_kind row (question_of query block replies) ++ ending fault.reason)
      → Holds (λ kind. general.IsFaulty (kind.protocol block) block replies fault) row → HearsAtMost most old new
  row_rejected (built kind) short replies fault talk faulty =
      up_to_end (kind.protocol block) (messages.Query query) block old new most short replies (ending fault.reason) (heard-ending fault.reason) faulty.asked (faulty_taken (kind.protocol block) block replies fault faulty) talk
  row_rejected missing short replies fault talk faulty = absurd faulty

  row_interrupted : (row : KindRow) → ShortRow row → (replies : List (List ℕ)) (front : List TalkEvent) → GoesOn old new front → IsPrefix front (said_by_kind row (question_of query block replies))
      → Holds (λ kind. IsDue (kind.protocol block) block replies) row → HearsAtMost most old new
  row_interrupted (built kind) short replies front talk order waits =
      a_front (kind.protocol block) (messages.Query query) block old new most short replies front order waits.0 (unfinished_taken (kind.protocol block).rules block replies waits.1) talk
  row_interrupted missing short replies front talk order waits = absurd waits

  row_unrecorded : (row : KindRow) → ShortRow row → (replies : List (List ℕ)) (ended : List TalkEvent) → GoesOn old new (said_by_kind row (question_of query block replies) ++ ended)
      → Holds (λ kind. general.IsUnjudged (kind.protocol block) block replies ended) row → HearsAtMost most old new
  row_unrecorded (built kind) short replies ended talk unjudged =
      up_to_end (kind.protocol block) (messages.Query query) block old new most short replies ended (heard-ended ended unjudged.may_end) unjudged.asked (unjudged_taken (kind.protocol block) block replies ended unjudged) talk
  row_unrecorded missing short replies ended talk unjudged = absurd unjudged

-- heavy hitters are asked for where the total reaches the threshold
reaches_asked : (known : Answer) (test : Bool) → (if test then None else Some known) ≡ None → test ≡ true
reaches_asked known true e = refl
reaches_asked known false e = absurd cc

nodes_bound : (version : Version) (depth at_least : ℕ) (numbers : List ℤ) (block : List ℕ) (replies : List (List ℕ)) → length block ≡ depth → reaches (asked_over depth at_least numbers) ≡ true
    → AreTaken (heavy_rules version m61_modulus (asked_over depth at_least numbers)) block replies → length (joined replies) ≤ most_node_bytes version depth (asked_over depth at_least numbers)
nodes_bound version depth at_least numbers block replies size is taken = rw (is, ← size) (nodes_short version m61_modulus depth at_least (count_of (int_sum numbers)) block replies taken)

module _ (version : Version) (depth : ℕ) (stream : List Update) (block : List ℕ) (size : length block ≡ depth) where
  row_short : (query : Query) → ShortRow query block None None (most_bytes version depth stream query) (kind_row version depth stream query)
  row_short (Sub lo hi) = λ replies due taken. rw (← size) (entries_short version lo hi block replies taken)
  row_short (Range side lo hi) = λ replies due taken. rw (← size) (sums_short version m61_modulus block replies taken)
  row_short (F2 side) = λ replies due taken. rw (← size) (sums_short version m61_modulus block replies taken)
  row_short Inner = λ replies due taken. rw (← size) (sums_short version m61_modulus block replies taken)
  row_short (Heavy side at_least) = λ replies due taken.
      nodes_bound version depth at_least (vector depth stream side) block replies size
      (reaches_asked (pairs []) (reaches (asked_over depth at_least (vector depth stream side))) due) taken
  row_short (Above side at_least) = tt
  row_short (Share side num den) = λ replies due taken.
      let t = share_of num den (int_sum (vector depth stream side)) in
      nodes_bound version depth t (vector depth stream side) block replies size
      (reaches_asked (pairs []) (reaches (asked_over depth t (vector depth stream side))) due) taken

  module _ (query : Query) (old new : Option (List TalkEvent)) where
    abbrev row : KindRow
    row = kind_row version depth stream query

    abbrev most : ℕ
    most = most_bytes version depth stream query

    answered : (answer : Answer) → IsAnswered version depth stream query block old new answer → HearsAtMost most old new
    answered answer a = row_answered query block old new most row (row_short query) a.replies answer a.talk a.accepted

    rejected : (round : ℕ) (reason : Reason) → IsRejected version depth stream query block old new round reason → HearsAtMost most old new
    rejected round reason r = row_rejected query block old new most row (row_short query) r.replies (record { round = round; reason = reason }) r.talk r.faulty

    interrupted : IsInterrupted version depth stream query block old new → HearsAtMost most old new
    interrupted i = row_interrupted query block old new most row (row_short query) i.replies i.said i.talk i.order i.waits

    unrecorded : IsUnrecorded version depth stream query block old new → HearsAtMost most old new
    unrecorded u = row_unrecorded query block old new most row (row_short query) u.replies u.ended u.talk u.unjudged

    -- What a call that asks did takes no more bytes than the bound, whatever it answered.
    pub asks_short : (entries : List Entry) (result : Result Verdict SessionFault) → Asks version depth stream query block old new entries result → ReplyBound version depth stream query old new
    asks_short entries (Ok (verdicts.Number n)) a = answered (number n) a
    asks_short entries (Ok verdicts.Pairs) a = answered (pairs entries) a
    asks_short entries (Ok (verdicts.Rejected round reason)) r = rejected round reason r
    asks_short entries (Err faults.PeerFault) i = interrupted i
    asks_short entries (Err faults.KeepFault) u = unrecorded u
    asks_short entries (Err faults.OutOfMemory) (inl i) = interrupted i
    asks_short entries (Err faults.OutOfMemory) (inr u) = unrecorded u
