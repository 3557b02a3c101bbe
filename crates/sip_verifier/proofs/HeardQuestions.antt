-- What was heard for a question that was judged: its replies.
use Rattle.std.proofs.Common.{◌≡◌, ℕ, Option, List, [], ◌∷◌, map, All, ap, ◌∙◌, arith}
use Rattle.std.proofs.lemmas.List.Elements.{All-cons, All-nil}
use Rattle.sip_wire.specs.declared.version.Version.{Version}
use Rattle.sip_ports.specs.Ports.{heard}
use Rattle.sip_vector.specs.declared.query.Query.{Query}
use Rattle.sip_vector.specs.declared.update.Update.{Update}
use Rattle.sip_vector.specs.Answers.{Answer}
use Rattle.sip_wire.specs.declared.message.Message.TheVariants as messages
use Rattle.sip_replies.specs.Talks.{asked_unless}
use Rattle.sip_replies.specs.Replies as replied
use Rattle.sip_replies.specs.Replies.{Fault, IsAccepted, joined}
use Rattle.sip_verifier.specs.Kinds.{KindRow, built, missing, kind_row, Holds}
use Rattle.sip_verifier.specs.Questions.{Question, Accepted, IsFaulty, said_by_kind}
use Rattle.sip_verifier.proofs.HeardTalks.{IsHeard, heard_accepted}
use Rattle.sip_replies.proofs.Hearing.{heard-asked}

-- where it was accepted
pub question_heard : (row : KindRow) (query : Query) (block : List ℕ) (replies : List (List ℕ)) (given : Answer)
    → Holds (λ kind. IsAccepted (kind.protocol block) block replies given) row
    → heard (said_by_kind row (record { query = query; block = block; replies = replies }))
    ≡ joined replies
question_heard (built kind) query block replies given accepted =
    let P = kind.protocol block in
    heard_accepted P (messages.Query query) block replies given P.unasked accepted
question_heard missing query block replies given accepted = absurd accepted

-- and where it has a fault
fault_heard : (row : KindRow) (query : Query) (block : List ℕ) (replies : List (List ℕ)) (fault : Fault)
    → Holds (λ kind. replied.IsFaulty (kind.protocol block) block replies fault) row
    → heard (said_by_kind row (record { query = query; block = block; replies = replies }))
    ≡ joined replies
fault_heard (built kind) query block replies fault faulty =
    let P = kind.protocol block in
    ap (λ (u : Option Answer). heard (asked_unless u P.rules.version (messages.Query query) block replies))
    faulty.asked
    ∙ heard-asked P.rules.version (messages.Query query) block replies (omega (arith, faulty.taken))
fault_heard missing query block replies fault faulty = absurd faulty

pub faulty_heard : (version : Version) (depth : ℕ) (stream : List Update) (query : Query) (block : List ℕ)
    (replies : List (List ℕ)) (fault : Fault)
    → IsFaulty version depth stream (record { query = query; block = block; replies = replies }) fault
    → IsHeard version depth stream (record { query = query; block = block; replies = replies })
faulty_heard version depth stream query block replies fault faulty =
    fault_heard (kind_row version depth stream query) query block replies fault faulty

module _ (version : Version) (depth : ℕ) (stream : List Update) where
  -- the questions of accepted ones
  abbrev pub their_questions : List (Accepted version depth stream) → List Question
  their_questions done = map (λ (a : Accepted version depth stream). a.question) done

  pub done_heard : (done : List (Accepted version depth stream))
      → All (IsHeard version depth stream) (their_questions done)
  done_heard [] = All-nil (IsHeard version depth stream)
  done_heard (a ∷ done) =
      let t = a.question in
      All-cons (IsHeard version depth stream) t (their_questions done)
      (question_heard (kind_row version depth stream t.query) t.query t.block t.replies a.answer a.accepts)
      (done_heard done)
