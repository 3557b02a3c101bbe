-- A run over a talk in which nothing was received rejects a query only where its first reply was due.
use Rattle.std.proofs.Common.{◌≡◌, ℕ, ◌≤◌, List, [], ◌∷◌, ◌++◌, length, take, map, Some, Result, Err, refl, sym, ap, ◌∙◌, subst, append-nil, arith}
use Rattle.std.specs.Prelude.{All}
use Rattle.std.specs.List.{flat_map}
use Rattle.std.proofs.Math.Seq.{take-nil}
use Rattle.std.proofs.lemmas.List.Elements.{All-head, All-tail, All-take}
use Rattle.std.proofs.lemmas.Option.{same_Some}
use Rattle.sip_ports.specs.declared.port.TalkEvent.{TalkEvent}
use Rattle.sip_ports.specs.Memory.{sink_bytes}
use Rattle.sip_ports.specs.Ports.{heard, ins}
use Rattle.sip_ports.proofs.TalkLemmas.{heard-append, heard-ins}
use Rattle.sip_vector.specs.Answers.{Answer}
use Rattle.sip_vector.specs.Steps.{◌>>=◌}
use Rattle.sip_vector.specs.declared.query.Query.{Query}
use Rattle.sip_vector.specs.declared.update.Update.{Update}
use Rattle.sip_wire.specs.declared.message.Message.TheVariants as messages
use Rattle.sip_wire.specs.declared.message.Reason.TheVariants as reasons
use Rattle.sip_wire.specs.declared.version.Version.{Version}
use Rattle.sip_replies.specs.Protocols.{Protocol, Rules}
use Rattle.sip_replies.specs.Replies as replied
use Rattle.sip_replies.specs.Replies.{Fault, in_round, read_reply, verdict}
use Rattle.sip_replies.specs.Talks.{asked, asked_unless, ending, exchanged, sent}
use Rattle.sip_verifier.specs.declared.status.Status.{Status}
use Rattle.sip_verifier.specs.declared.task.Task.{Task}
use Rattle.sip_verifier.specs.Draws.{blocks}
use Rattle.sip_verifier.specs.Exchanges.{Exchange, Tells}
use Rattle.sip_verifier.specs.Inquiries.{inquiry_of}
use Rattle.sip_verifier.specs.Kinds.{Holds, KindRow, built, kind_row, missing}
use Rattle.sip_verifier.specs.Questions.{Question, questions_of, said_by_kind, said_for, updates}
use Rattle.sip_verifier.specs.RunClause.{RunClause}
use Rattle.sip_verifier.specs.Snapshots.{Snapshot}
use Rattle.sip_verifier.specs.Talks.{stream_sent}
use Rattle.sip_verifier.specs.Tasks.{version_of}
use Rattle.sip_verifier.specs.VerdictClause.{OneFaulty, VerdictClause}
use Rattle.sip_verifier.proofs.Blocks.{IsBlock, are_blocks}
use Rattle.sip_duel.specs.declared.kept.Kept.{Kept}
use Rattle.sip_duel.specs.Muting.{DuelCloses}
use Rattle.sip_duel.proofs.RefusalLemmas.{first_fault}
use Rattle.sip_duel.proofs.WalkLemmas.{nil_parts}

-- ---- nothing was received

-- then nothing was in either of two parts
quiet_parts : (a b : List TalkEvent) → heard (a ++ b) ≡ [] → (heard a ≡ []) × (heard b ≡ [])
quiet_parts a b quiet = nil_parts (heard a) (heard b) (sym (heard-append a b) ∙ quiet)

-- the first of replies is empty
first_empty : (v : Version) (block b : List ℕ) (bs : List (List ℕ)) → heard (exchanged v (b ∷ bs) block) ≡ [] → b ≡ []
first_empty v block b [] quiet = sym (heard-ins b) ∙ quiet
first_empty v [] b (next ∷ bs) quiet = sym (heard-ins b) ∙ quiet
first_empty v (r ∷ rs) b (next ∷ bs) quiet =
    let front = quiet_parts (ins b ++ sent v (messages.Reveal r ∷ [])) (exchanged v (next ∷ bs) rs) quiet in
    sym (heard-ins b) ∙ (quiet_parts (ins b) (sent v (messages.Reveal r ∷ [])) front.0).0

-- what was said for the last question has no reply
last_said : (said : Question → List TalkEvent) (l : List Question) (t : Question) → heard (flat_map said (l ++ t ∷ [])) ≡ [] → heard (said t) ≡ []
last_said said [] t quiet = ap heard (sym (append-nil (said t))) ∙ quiet
last_said said (q ∷ l) t quiet = last_said said l t (quiet_parts (said q) (flat_map said (l ++ t ∷ [])) quiet).1

-- ---- the fault of a reply of no bytes

-- a reply of no bytes is not whole
closed_at_once : {S : Type 0} (R : Rules S) (s : S) → read_reply R s [] ≡ Err reasons.Closed
unfolding Rattle.sip_replies.specs.Replies.read_from
closed_at_once R s = refl

abbrev at_once : Fault
at_once = record { round = 0; reason = reasons.Closed }

empty_fault : {S : Type 0} (P : Protocol S) (block b : List ℕ) (bs : List (List ℕ)) (fault : Fault) → b ≡ [] → verdict P block (b ∷ bs) ≡ Err fault → fault ≡ at_once
empty_fault P block b bs fault none found =
    let read : read_reply P.rules P.rules.start b ≡ Err reasons.Closed = ap (read_reply P.rules P.rules.start) none ∙ closed_at_once P.rules P.rules.start in
    let all : verdict P block (b ∷ bs) ≡ Err at_once = ap (λ r. r >>= λ s. in_round (length block) (P.finish s)) (first_fault P.rules block P.rules.start b bs reasons.Closed read) in
    let same : ◌≡◌ {A = Result Answer Fault} (Err fault) (Err at_once) = sym found ∙ all in cc

row_fault : (q : Query) (block : List ℕ) (replies : List (List ℕ)) (fault : Fault) (row : KindRow) → 1 ≤ length block → Holds (λ kind. replied.IsFaulty (kind.protocol block) block replies fault) row
    → heard (said_by_kind row (record { query = q; block = block; replies = replies })) ≡ [] → fault ≡ at_once
row_fault q block replies fault missing some faulty quiet = absurd faulty
row_fault q block [] fault (built kind) some faulty quiet = absurd (omega (arith, faulty.taken, some))
row_fault q block (b ∷ bs) fault (built kind) some faulty quiet =
    let v = (kind.protocol block).rules.version in
    let said = subst (λ u. heard (asked_unless u v (messages.Query q) block (b ∷ bs)) ≡ []) faulty.asked quiet in
    let none = first_empty v block b bs (quiet_parts (sent v (messages.Query q ∷ [])) (exchanged v (b ∷ bs) block) said).1 in
    empty_fault (kind.protocol block) block b bs fault none faulty.found

-- ---- a run

-- the block of the last of these questions
last_block : (depth : ℕ) (l : List Question) (t : Question) → All (IsBlock depth) (map (λ (q : Question). q.block) (l ++ t ∷ [])) → IsBlock depth t.block
last_block depth [] t all = All-head (IsBlock depth) t.block [] all
last_block depth (q ∷ l) t all = last_block depth l t (All-tail (IsBlock depth) q.block (map (λ (q : Question). q.block) (l ++ t ∷ [])) all)

closes : (task : Task) (x : Exchange) → 1 ≤ task.depth → heard x.talk ≡ [] → (status : Status) → VerdictClause (inquiry_of task x) x status → DuelCloses status
closes task x some quiet status verdict query round reason is =
    let w : OneFaulty (inquiry_of task x) x query round reason = subst (VerdictClause (inquiry_of task x) x) is verdict in
    let v = version_of task in
    let stream : List Update = updates (inquiry_of task x) x in
    let questions : List Question = questions_of (inquiry_of task x) x w.done in
    let asked : List TalkEvent = flat_map (said_for v task.depth stream) (questions ++ w.last ∷ []) in
    let before = quiet_parts (stream_sent v task.depth stream ++ asked) (ending reason) (ap heard (sym w.reached.talk) ∙ quiet) in
    let said = last_said (said_for v task.depth stream) questions w.last (quiet_parts (stream_sent v task.depth stream) asked before.0).1 in
    let are = w.reached.are_questions in
    let all = subst (All (IsBlock task.depth)) (sym are.blocks) (All-take (IsBlock task.depth) (length (questions ++ w.last ∷ [])) (blocks task are.challenges) (are_blocks task x.seed are.challenges some are.drawn)) in
    let long : 1 ≤ length w.last.block = let size = (last_block task.depth questions w.last all).size in omega (arith, size, some) in
    let same = row_fault w.last.query w.last.block w.last.replies (record { round = round; reason = reason }) (kind_row v task.depth stream w.last.query) long w.faulty said in
    (ap (λ (f : Fault). f.round) same, ap (λ (f : Fault). f.reason) same)

-- nothing was received on a link on which nothing was appended, nor on one with the same talk
pub quiet_link : (k l : Kept) → l.talk ≡ k.talk → sink_bytes k.out ≡ [] → heard l.talk.items ≡ []
quiet_link k l same none = ap (λ t. heard t.items) same ∙ k.given ∙ ap (take k.at) none ∙ take-nil k.at

-- over a link on which nothing was received
pub played_mute : (task : Task) → 1 ≤ task.depth → (before now : Snapshot) (status : Status) (new : List TalkEvent) → RunClause task before now status → now.talk ≡ Some new → heard new ≡ []
    → (x : Exchange) → Tells before now x → DuelCloses status
played_mute task some before now status new keeps is quiet x tells =
    let had : List TalkEvent = tells.talk.0 in
    let same : new ≡ had ++ x.talk = same_Some new (had ++ x.talk) (sym is ∙ tells.talk.2) in
    closes task x some (quiet_parts had x.talk (ap heard (sym same) ∙ quiet)).1 status (keeps.promises x tells).verdict
