-- What came of a query, and of the queries up to it.
use Rattle.std.proofs.Common.{◌≡◌, ℕ, zero, suc, ◌+◌, ◌≤◌, ◌<◌, Option, Result, Ok, Err, List, [], ◌∷◌, ◌++◌, length, take, drop, refl, sym, ap, subst, ◌∙◌, inl, inr, arith, append-nil, take-append-drop}
use Rattle.std.specs.Prelude.{map, flat_map, MatchResult}
use Rattle.std.proofs.Math.Seq.{take-add}
use Rattle.std.proofs.lemmas.Grind.{flat_map-append}
use Rattle.std.proofs.lemmas.List.{drop-map, length-append, length-map, map-append}
use Rattle.sip_wire.specs.declared.version.Version.{Version}
use Rattle.sip_ports.specs.declared.port.PortStop.{PortStop}
use Rattle.sip_ports.specs.declared.port.PortStop.TheVariants as port_stops
use Rattle.sip_ports.specs.declared.port.TalkEvent.{TalkEvent}
use Rattle.sip_ports.specs.Ports.{GoesOn, SendsWhole, outs}
use Rattle.sip_ports.proofs.FaultLemmas.{Rose-since}
use Rattle.sip_ports.proofs.TalkLemmas.{GoesOn-refl, GoesOn-trans, outs-append}
use Rattle.sip_vector.specs.Pieces.{cut}
use Rattle.sip_wire.specs.declared.message.Reason.{Reason}
use Rattle.sip_verifier.specs.declared.asker.Unanswered.TheVariants as unanswered
use Rattle.sip_verifier.specs.declared.session.SessionFault.{SessionFault}
use Rattle.sip_verifier.specs.declared.session.SessionFault.TheVariants as faults
use Rattle.sip_verifier.specs.declared.status.Port.TheVariants as ports
use Rattle.sip_verifier.specs.declared.status.Status.{Status}
use Rattle.sip_verifier.specs.declared.status.Status.TheVariants as statuses
use Rattle.sip_verifier.specs.Exchanges.{Exchange}
use Rattle.sip_verifier.specs.inside.Ending.{status_of_fault, status_of_link, status_of_report}
use Rattle.sip_verifier.specs.Snapshots.{counts}
use Rattle.sip_verifier.specs.Reports.{rejection}
use Rattle.sip_verifier.specs.runs.Askers.{Asks, GoesBehind, Remaining, queries_in, blocks_in}
use Rattle.sip_verifier.specs.runs.Asking.{IsAnswered, IsRejected, question_of}
use Rattle.sip_verifier.specs.runs.Manners.{Accepted, Asking, Manner, Question}
use Rattle.sip_verifier.specs.runs.Progress.{Checks, ChecksAll, Passes, PassesInPart, FailsInPart, AreFirst, PassedBy, EndsWith}
use Rattle.sip_verifier.specs.runs.Runs.{Run, manner, updates}
use Rattle.sip_verifier.specs.Statuses.{FaultClause}

-- what a send on the link becomes
abbrev pub OnLink : Result (Unit {0}) PortStop → Result (Unit {0}) Status → Type 0
OnLink sent r = MatchResult r (λ u. sent ≡ Ok u) (λ status. (port : PortStop) × (sent ≡ Err port) × (status ≡ status_of_link port))

-- what a write to the report becomes
abbrev pub OnReport : Result (Unit {0}) PortStop → Result (Unit {0}) Status → Type 0
OnReport written r = MatchResult r (λ x. written ≡ Ok x) (λ status. (port : PortStop) × (written ≡ Err port) × (status ≡ status_of_report port))

-- ---- one query

module _ {Q A : Type 0} (m : Manner Q A) (query : Q) (block : List ℕ) (number : ℕ) (old new blank full : Option (List TalkEvent)) where
  -- its replies were accepted, and its line was written, whole or not
  pub line_checked : (answer : A) (written : Result (Unit {0}) PortStop) (r : Result (Unit {0}) Status) → IsAnswered m query block old new answer → SendsWhole blank full written (m.line query answer)
      → OnReport written r → Checks m query block number old new blank full r
  line_checked answer (Ok u) (Ok v) answered sent on = record { answer = answer; answered = answered; wrote = sent }
  line_checked answer (Ok u) (Err status) answered sent (port, is, so) = absurd cc
  line_checked answer (Err stop) (Ok v) answered sent on = absurd cc
  line_checked answer (Err stop) (Err status) answered (n, less, went) (port, is, so) =
      let text = m.line query answer in
      let part : PassesInPart m query block number old new blank full = record { answer = answer; answered = answered; part = take n text; front = (drop n text, sym (take-append-drop n text)); wrote = went } in
      let checks : Checks m query block number old new blank full (Err (status_of_report port)) =
      elim port as (λ p. Checks m query block number old new blank full (Err (status_of_report p))) [
        | port_stops.Failed ↦ inl part
        | port_stops.OutOfMemory ↦ inl part
      ] in
      subst (λ (s : Status). Checks m query block number old new blank full (Err s)) (sym so) checks

  -- its replies were rejected, and a front of the line was written
  pub rejection_cut : (round : ℕ) (reason : Reason) (written : Result (Unit {0}) PortStop) (status : Status) → IsRejected m query block old new round reason
      → SendsWhole blank full written (rejection number round reason) → OnReport written (Err status) → Checks m query block number old new blank full (Err status)
  rejection_cut round reason (Ok u) status rejected sent (port, is, so) = absurd cc
  rejection_cut round reason (Err stop) status rejected (n, less, went) (port, is, so) =
      let text = rejection number round reason in
      let part : FailsInPart m query block number old new blank full = record { round = round; reason = reason; rejected = rejected; part = take n text; front = (drop n text, sym (take-append-drop n text)); wrote = went } in
      let checks : Checks m query block number old new blank full (Err (status_of_report port)) =
      elim port as (λ p. Checks m query block number old new blank full (Err (status_of_report p))) [
        | port_stops.Failed ↦ inr part
        | port_stops.OutOfMemory ↦ inr (inl part)
      ] in
      subst (λ (s : Status). Checks m query block number old new blank full (Err s)) (sym so) checks

-- it has no verdict, and nothing was written
pub fault_checked : {Q A G : Type 0} (m : Manner Q A) (ask : Q × List ℕ) (number : ℕ) (old new blank : Option (List TalkEvent)) (States : G → A → Type 0) (fault : SessionFault)
    → Asks m ask old new {G = G} States (Err (unanswered.Fault fault)) → Checks m ask.0 ask.1 number old new blank blank (Err (status_of_fault fault))
fault_checked m ask number old new blank States faults.PeerFault asks = record { interrupted = asks; same = refl }
fault_checked m ask number old new blank States faults.KeepFault asks = record { unrecorded = asks; same = refl }
fault_checked m ask number old new blank States faults.OutOfMemory (inl asks) = inr (inr (inl (record { interrupted = asks; same = refl })))
fault_checked m ask number old new blank States faults.OutOfMemory (inr asks) = inr (inr (inr (record { unrecorded = asks; same = refl })))

-- ---- the queries so far

-- before the first one
pub none_passed : {Q A : Type 0} (m : Manner Q A) (queries : List Q) (blocks : List (List ℕ)) (old blank : Option (List TalkEvent)) → PassedBy m queries blocks old old blank blank 0
none_passed m queries blocks old blank = record {
  done = [];
  counted = refl;
  passed = record { first = record { asked = refl; at_blocks = refl }; talk = GoesOn-refl old; report = GoesOn-refl blank };
}

-- one question more
pub first_more : {Q : Type 0} (queries more : List Q) (blocks others : List (List ℕ)) (questions : List (Question Q)) (query : Q) (block : List ℕ) (replies : List (List ℕ)) → AreFirst queries blocks questions
    → drop (length questions) queries ≡ query ∷ more → drop (length questions) blocks ≡ block ∷ others → AreFirst queries blocks (questions ++ question_of query block replies ∷ [])
first_more {Q = Q} queries more blocks others questions query block replies first asks at =
    let question = question_of query block replies in
    let count : length (questions ++ question ∷ []) ≡ length questions + 1 = length-append questions (question ∷ []) in
    let asked : take (length questions + 1) queries ≡ take (length questions) queries ++ query ∷ [] = take-add (length questions) 1 queries ∙ ap (λ (l : List Q). take (length questions) queries ++ take 1 l) asks in
    let placed : take (length questions + 1) blocks ≡ take (length questions) blocks ++ block ∷ [] = take-add (length questions) 1 blocks ∙ ap (λ (l : List (List ℕ)). take (length questions) blocks ++ take 1 l) at in
    record {
      asked = map-append (λ (t : Question Q). t.query) questions (question ∷ []) ∙ ap (λ (l : List Q). l ++ query ∷ []) first.asked ∙ sym asked ∙ ap (λ (n : ℕ). take n queries) (sym count);
      at_blocks = map-append (λ (t : Question Q). t.block) questions (question ∷ []) ∙ ap (λ (l : List (List ℕ)). l ++ block ∷ []) first.at_blocks ∙ sym placed ∙ ap (λ (n : ℕ). take n blocks) (sym count);
    }

-- a concatenation over one element more
pub flat_map_snoc : {X Y : Type 0} (f : X → List Y) (xs : List X) (x : X) → flat_map f (xs ++ x ∷ []) ≡ flat_map f xs ++ f x
flat_map_snoc f xs x = flat_map-append f xs (x ∷ []) ∙ ap (λ l. flat_map f xs ++ l) (append-nil (f x))

module _ {Q A : Type 0} (m : Manner Q A) (queries : List Q) (blocks : List (List ℕ)) (old mid new blank half full : Option (List TalkEvent)) where
  -- one query more was accepted
  pub passed_more : (count : ℕ) (query : Q) (more : List Q) (block : List ℕ) (others : List (List ℕ)) (number : ℕ) (r : Result (Unit {0}) Status) (u : Unit {0}) → r ≡ Ok u → PassedBy m queries blocks old mid blank half count → drop count queries ≡ query ∷ more → drop count blocks ≡ block ∷ others
      → Checks m query block number mid new half full r → PassedBy m queries blocks old new blank full (count + 1)
  passed_more count query more block others number r u went so asks at checks =
      let passes : Passes m query block number mid new half full = subst (Checks m query block number mid new half full) went checks in
      let questions = map (λ (a : Accepted m). a.question) so.done in
      let question = question_of query block passes.answered.replies in
      let one : Accepted m = record { question = question; answer = passes.answer; accepts = passes.answered.accepted } in
      let is : length questions ≡ count = length-map so.done (λ (a : Accepted m). a.question) ∙ so.counted in
      let first : AreFirst queries blocks (questions ++ question ∷ []) =
      first_more queries more blocks others questions query block passes.answered.replies so.passed.first (ap (λ (n : ℕ). drop n queries) is ∙ asks) (ap (λ (n : ℕ). drop n blocks) is ∙ at) in
      let same : map (λ (a : Accepted m). a.question) (so.done ++ one ∷ []) ≡ questions ++ question ∷ [] = map-append (λ (a : Accepted m). a.question) so.done (one ∷ []) in
      let said : flat_map (m.said_for) questions ++ m.said_for question
      ≡ flat_map (m.said_for) (map (λ (a : Accepted m). a.question)
      (so.done ++ one ∷ [])) = sym (ap (λ (l : List (Question Q)). flat_map
      (m.said_for) l) same ∙ flat_map_snoc
      (m.said_for) questions question) in
      let lines = flat_map (λ (a : Accepted m). m.line a.question.query a.answer) so.done in
      let wrote : outs lines ++ outs (m.line query passes.answer) ≡ outs (flat_map (λ (a : Accepted m). m.line a.question.query a.answer) (so.done ++ one ∷ [])) =
      sym (ap outs (flat_map_snoc (λ (a : Accepted m). m.line a.question.query a.answer) so.done one) ∙ outs-append lines (m.line query passes.answer)) in
      record {
        done = so.done ++ one ∷ [];
        counted = length-append so.done (one ∷ []) ∙ ap (λ (n : ℕ). n + 1) so.counted;
        passed = record {
          first = subst (AreFirst queries blocks) (sym same) first;
          talk = subst (GoesOn old new) said (GoesOn-trans old mid new _ _ so.passed.talk passes.answered.talk);
          report = subst (GoesOn blank full) wrote (GoesOn-trans blank half full _ _ so.passed.report passes.wrote);
        };
      }

  -- the next query ended the run
  pub ends_with : (count : ℕ) (query : Q) (more : List Q) (block : List ℕ) (others : List (List ℕ)) (number : ℕ) (r : Result (Unit {0}) Status) (status : Status) → r ≡ Err status → number ≡ suc count → PassedBy m queries blocks old mid blank half count → drop count queries ≡ query ∷ more → drop count blocks ≡ block ∷ others
      → Checks m query block number mid new half full r → EndsWith m queries blocks old new blank full status
  ends_with count query more block others number r status ended is so asks at checks = record {
    done = so.done;
    mid = mid;
    half = half;
    passed = so.passed;
    query = query;
    block = block;
    next_query = more;
    next_block = others;
    asks = ap (λ (n : ℕ). drop n queries) so.counted ∙ asks;
    at = ap (λ (n : ℕ). drop n blocks) so.counted ∙ at;
    checks = subst (λ (n : ℕ). Checks m query block n mid new half full (Err status)) (is ∙ ap suc (sym so.counted)) (subst (Checks m query block number mid new half full) ended checks);
  }

-- ---- those that are left

-- behind so many there is a next one
pub next_of : {X : Type 0} (n : ℕ) (xs : List X) → n < length xs → (x : X) × (more : List X) × (drop n xs ≡ x ∷ more)
next_of n [] less = absurd (omega (arith, less))
next_of zero (x ∷ xs) less = (x, xs, refl)
next_of (suc n) (x ∷ xs) less = next_of n xs (omega (arith, less))

-- its query and its block are the next ones
pub next_query : {Q : Type 0} (left more : List (Q × List ℕ)) (ask : Q × List ℕ) (count : ℕ) → drop count left ≡ ask ∷ more → drop count (queries_in left) ≡ ask.0 ∷ queries_in more
next_query {Q = Q} left more ask count is = drop-map (λ (a : Q × List ℕ). a.0) count left ∙ ap (λ (l : List (Q × List ℕ)). queries_in l) is

pub next_block : {Q : Type 0} (left more : List (Q × List ℕ)) (ask : Q × List ℕ) (count : ℕ) → drop count left ≡ ask ∷ more → drop count (blocks_in left) ≡ ask.1 ∷ blocks_in more
next_block {Q = Q} left more ask count is = drop-map (λ (a : Q × List ℕ). a.1) count left ∙ ap (λ (l : List (Q × List ℕ)). blocks_in l) is

-- what came of all queries of a run
pub all_checked : {Q A : Type 0} (asking : Asking Q A) (r : Run Q) (x : Exchange) (s : Remaining Q) (old new end blank full last : Option (List TalkEvent)) {came went : Result (Unit {0}) Status} → came ≡ went → (b : GoesBehind asking r x s old end blank last)
    → ChecksAll (asking s.version s.depth (updates r x)) (queries_in s.left) (blocks_in s.left) old new blank full came
    → ChecksAll (manner asking r x) r.queries (cut r.depth b.challenges) old new blank full went
all_checked {Q = Q} asking r x s old new end blank full last {came = came} {went = went} ends b checks =
    subst (ChecksAll (manner asking r x) r.queries (cut r.depth b.challenges) old new blank full) ends
    (subst (λ (v : Version). ChecksAll (asking v r.depth (updates r x)) r.queries (cut r.depth b.challenges) old new blank full came) b.version
    (subst (λ (n : ℕ). ChecksAll (asking s.version n (updates r x)) r.queries (cut r.depth b.challenges) old new blank full came) b.depth
    (subst (λ (qs : List Q). ChecksAll (asking s.version s.depth (updates r x)) qs (cut r.depth b.challenges) old new blank full came) b.asked
    (subst (λ (bs : List (List ℕ)). ChecksAll (asking s.version s.depth (updates r x)) (queries_in s.left) bs old new blank full came) b.at_blocks checks))))

-- a fault of a port has its cause, since an earlier moment of the link and of the record of the talk
pub since_before : (first firsts second seconds earlier peer peers report reports sooner keep keeps : ℕ) (status : Status) → earlier ≤ peer → sooner ≤ keep
    → FaultClause (counts first second peer report keep) (counts firsts seconds peers reports keeps) status → FaultClause (counts first second earlier report sooner) (counts firsts seconds peers reports keeps) status
since_before first firsts second seconds earlier peer peers report reports sooner keep keeps (statuses.ReadFault ports.First) later still fault = fault
since_before first firsts second seconds earlier peer peers report reports sooner keep keeps (statuses.ReadFault ports.Second) later still fault = fault
since_before first firsts second seconds earlier peer peers report reports sooner keep keeps (statuses.ReadFault ports.Report) later still fault = fault
since_before first firsts second seconds earlier peer peers report reports sooner keep keeps (statuses.ReadFault ports.Keep) later still fault = fault
since_before first firsts second seconds earlier peer peers report reports sooner keep keeps (statuses.WriteFault ports.First) later still fault = fault
since_before first firsts second seconds earlier peer peers report reports sooner keep keeps (statuses.WriteFault ports.Second) later still fault = fault
since_before first firsts second seconds earlier peer peers report reports sooner keep keeps (statuses.WriteFault ports.Report) later still fault = fault
since_before first firsts second seconds earlier peer peers report reports sooner keep keeps (statuses.WriteFault ports.Keep) later still fault = Rose-since sooner keep keeps still fault
since_before first firsts second seconds earlier peer peers report reports sooner keep keeps statuses.PeerFault later still fault = Rose-since earlier peer peers later fault
since_before first firsts second seconds earlier peer peers report reports sooner keep keeps _ later still fault = tt
