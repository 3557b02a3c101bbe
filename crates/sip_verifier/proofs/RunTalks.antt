-- What an exchange tells of the talk and of the report.
use Rattle.std.proofs.Common.{◌≡◌, ℕ, Option, Some, None, Result, Ok, Err, IsSome, List, [], ◌∷◌, ◌++◌, length, refl, sym, ap, subst, ◌∙◌, inl, inr, append_assoc, take, suc}
use Rattle.std.specs.Prelude.{flat_map, ◌⊎◌}
use Rattle.sip_ports.specs.declared.port.PortStop.{PortStop}
use Rattle.sip_ports.specs.declared.port.TalkEvent.{TalkEvent}
use Rattle.sip_ports.specs.Ports.{GoesOn, SendsWhole, outs}
use Rattle.sip_ports.proofs.TalkLemmas.{GoesOn-refl, GoesOn-trans, GoesOn-told, outs-injective, outs-append}
use Rattle.sip_verifier.specs.declared.status.Port.TheVariants as ports
use Rattle.sip_verifier.specs.declared.status.Status.{Status}
use Rattle.sip_verifier.specs.declared.status.Status.TheVariants as statuses
use Rattle.sip_verifier.specs.declared.task.Task.{Task}
use Rattle.sip_replies.specs.Talks.{IsPrefix}
use Rattle.sip_verifier.specs.Exchanges.{Appends, Exchange, Tells}
use Rattle.sip_verifier.specs.Gathering.{IsGathered, Refuses}
use Rattle.sip_verifier.specs.Seats.{Seating}
use Rattle.sip_verifier.specs.Snapshots.{Snapshot, IsTold}
use Rattle.sip_verifier.specs.Reports.{rejection}
use Rattle.sip_verifier.specs.runs.Concluding.{Reports}
use Rattle.sip_verifier.specs.runs.Manners.{Accepted, Manner}
use Rattle.sip_verifier.specs.runs.Progress.{Checks, PassesInPart, FailsInPart, PassedBy, EndsWith}

-- a talk that is told before and after, with these events between
abbrev pub Adds : Option (List TalkEvent) → Option (List TalkEvent) → List TalkEvent → Type 0
Adds old new said = (had : List TalkEvent) × (old ≡ Some had) × (new ≡ Some (had ++ said))

same_more : (had xs ys : List TalkEvent) → had ++ xs ≡ had ++ ys → xs ≡ ys
same_more [] xs ys e = e
same_more (h ∷ had) xs ys e = same_more had xs ys cc

-- events that went on a talk are the new events of the exchange
pub said_is : (old new : Option (List TalkEvent)) (events said : List TalkEvent) → GoesOn old new events → Adds old new said → said ≡ events
said_is None new events said went told = absurd (let e = told.1 in cc)
said_is (Some talk) None events said went told = absurd went
said_is (Some talk) (Some more) events said went told =
    let a : talk ≡ told.0 = let e = told.1 in cc in
    let b : more ≡ told.0 ++ said = let e = told.2 in cc in
    same_more told.0 said events (sym b ∙ went ∙ ap (λ (l : List TalkEvent). l ++ events) a)

-- bytes that were written are the new bytes of the report
pub written_is : (old new : Option (List TalkEvent)) (bytes report : List ℕ) → GoesOn old new (outs bytes) → Adds old new (outs report) → report ≡ bytes
written_is old new bytes report went told = outs-injective report bytes (said_is old new (outs bytes) (outs report) went told)

-- nothing is new where nothing moved
pub nothing_new : (old new : Option (List TalkEvent)) (said : List TalkEvent) → new ≡ old → Adds old new said → said ≡ []
nothing_new old new said same told = said_is old new [] said (subst (λ (o : Option (List TalkEvent)). GoesOn old o []) (sym same) (GoesOn-refl old)) told

pub nothing_reported : (old : Option (List TalkEvent)) (report : List ℕ) → Adds old old (outs report) → report ≡ []
nothing_reported old report told = written_is old old [] report (GoesOn-refl old) told

-- ---- fronts

-- a front of some events is one of more
pub front_before : {X : Type 0} (xs ys zs : List X) → IsPrefix xs ys → IsPrefix xs (ys ++ zs)
front_before xs ys zs p = (p.0 ++ zs, ap (λ l. l ++ zs) p.1 ∙ append_assoc xs p.0 zs)

-- ---- ports that tell go on telling

pub some_value : {X : Type 0} (o : Option X) → IsSome o → (v : X) × (o ≡ Some v)
some_value None some = absurd (let is = some in cc)
some_value (Some v) some = (v, refl)

pub goes_to : (old new : Option (List TalkEvent)) (said : List TalkEvent) → IsSome old → GoesOn old new said → Adds old new said
goes_to old new said some went = let had = some_value old some in (had.0, had.1, GoesOn-told had.0 new said (subst (λ (o : Option (List TalkEvent)). GoesOn o new said) had.1 went))

-- of a sink that need not tell
grows_to : (old new : Option (List TalkEvent)) (bytes : List ℕ) → GoesOn old new (outs bytes) → (kept : Option (List ℕ)) × Appends old new kept
grows_to None new bytes went = (None, refl)
grows_to (Some had) new bytes went = (Some bytes, (had, refl, GoesOn-told had new (outs bytes) went))

-- Where the stream goes on being told, and what is new on the link, in the report and on the record
-- of the talk is known, there is an exchange.
pub tells : (old new : Snapshot) → IsTold old → (IsSome old.first → IsSome new.first)
    → (said : List TalkEvent) → GoesOn old.talk new.talk said
    → (bytes : List ℕ) → GoesOn old.report new.report (outs bytes)
    → (record_of : List ℕ) → GoesOn old.keep new.keep (outs record_of)
    → (x : Exchange) × Tells old new x
tells old new is still said went bytes wrote record_of kept =
    let first = some_value old.first is.first in
    let left = some_value new.first (still is.first) in
    let second = some_value old.second is.second in
    let grows = grows_to old.keep new.keep record_of kept in (
      record { stream = first.0; unread = left.0; seed = second.0; talk = said; report = bytes; kept = grows.0 },
      record { stream = first.1; unread = left.1; seed = second.1; talk = goes_to old.talk new.talk said is.talk went; report = goes_to old.report new.report (outs bytes) is.report wrote; kept = grows.1 },
    )

-- likewise where the stream was passed on, and nothing was written or kept since
pub passed_tells : (task : Task) (seats : Seating) (old new : Snapshot) → IsTold old → (IsSome old.first → IsSome new.first)
    → ((bytes seed : List ℕ) → old.first ≡ Some bytes → old.second ≡ Some seed → IsGathered task bytes seed new.first old.talk new.talk seats)
    → GoesOn old.report new.report [] → GoesOn old.keep new.keep []
    → (x : Exchange) × Tells old new x
passed_tells task seats old new is still gathers wrote kept =
    let bytes = some_value old.first is.first in
    let seed = some_value old.second is.second in
    tells old new is still _ (gathers bytes.0 seed.0 bytes.1 seed.1).passed.talk [] wrote [] kept

-- ---- what went on

-- some events went on
abbrev pub Moves : Option (List TalkEvent) → Option (List TalkEvent) → Type 0
Moves old new = (said : List TalkEvent) × GoesOn old new said

still_moves : (old new : Option (List TalkEvent)) → new ≡ old → Moves old new
still_moves old new same = ([], subst (λ (o : Option (List TalkEvent)). GoesOn old o []) (sym same) (GoesOn-refl old))

-- a call that gathers moves on the link alone
pub refuses_moves : (task : Task) (bytes seed : List ℕ) (old new : Option (List TalkEvent)) (status : Status) → Refuses task bytes seed old new status → Moves old new
refuses_moves task bytes seed old new statuses.BadSeed refuses = still_moves old new refuses.1
refuses_moves task bytes seed old new statuses.SeedSpent refuses = still_moves old new refuses.2
refuses_moves task bytes seed old new (statuses.BadStream at why) refuses = (_, refuses.1.2)
refuses_moves task bytes seed old new (statuses.ReadFault ports.First) refuses = (refuses.1.said, refuses.1.talk)
refuses_moves task bytes seed old new (statuses.ReadFault ports.Second) refuses = still_moves old new refuses
refuses_moves task bytes seed old new (statuses.ReadFault ports.Report) refuses = absurd refuses
refuses_moves task bytes seed old new (statuses.ReadFault ports.Keep) refuses = absurd refuses
refuses_moves task bytes seed old new (statuses.WriteFault ports.First) refuses = absurd refuses
refuses_moves task bytes seed old new (statuses.WriteFault ports.Second) refuses = absurd refuses
refuses_moves task bytes seed old new (statuses.WriteFault ports.Report) refuses = absurd refuses
refuses_moves task bytes seed old new (statuses.WriteFault ports.Keep) refuses = still_moves old new refuses.1
refuses_moves task bytes seed old new statuses.PeerFault refuses = (refuses.1.said, refuses.1.talk)
refuses_moves task bytes seed old new statuses.OutOfMemory (inl same) = still_moves old new same
refuses_moves task bytes seed old new statuses.OutOfMemory (inr (has, cut)) = (cut.said, cut.talk)
refuses_moves task bytes seed old new _ refuses = absurd refuses

module _ {Q A : Type 0} (m : Manner Q A) (query : Q) (block : List ℕ) (number : ℕ) (old new blank full : Option (List TalkEvent)) where
  part_moves : PassesInPart m query block number old new blank full ⊎ FailsInPart m query block number old new blank full → Moves old new × Reports blank full
  part_moves (inl part) = ((_, part.answered.talk), (part.part, part.wrote))
  part_moves (inr part) = ((_, part.rejected.talk), (part.part, part.wrote))

  nothing_written : full ≡ blank → Reports blank full
  nothing_written same = ([], subst (λ (o : Option (List TalkEvent)). GoesOn blank o []) (sym same) (GoesOn-refl blank))

  -- a query that ends a run moves on the link and on the report
  pub check_moves : (status : Status) → Checks m query block number old new blank full (Err status) → Moves old new × Reports blank full
  check_moves (statuses.Rejected k round reason) checks = ((_, checks.1.rejected.talk), (rejection number round reason, checks.1.wrote))
  check_moves (statuses.WriteFault ports.First) checks = absurd checks
  check_moves (statuses.WriteFault ports.Second) checks = absurd checks
  check_moves (statuses.WriteFault ports.Report) checks = part_moves checks
  check_moves (statuses.WriteFault ports.Keep) checks = ((_, checks.unrecorded.talk), nothing_written checks.same)
  check_moves statuses.PeerFault checks = ((_, checks.interrupted.talk), nothing_written checks.same)
  check_moves statuses.OutOfMemory (inl part) = part_moves (inl part)
  check_moves statuses.OutOfMemory (inr (inl part)) = part_moves (inr part)
  check_moves statuses.OutOfMemory (inr (inr (inl none))) = ((_, none.interrupted.talk), nothing_written none.same)
  check_moves statuses.OutOfMemory (inr (inr (inr stays))) = ((_, stays.unrecorded.talk), nothing_written stays.same)
  check_moves _ checks = absurd checks

-- accepted queries move on the link and on the report
pub passed_moves : {Q A : Type 0} (m : Manner Q A) (queries : List Q) (blocks : List (List ℕ)) (old new blank full : Option (List TalkEvent)) (count : ℕ) → PassedBy m queries blocks old new blank full count
    → Moves old new × Reports blank full
passed_moves m queries blocks old new blank full count so = ((_, so.passed.talk), (flat_map (λ (a : Accepted m). m.line a.question.query a.answer) so.done, so.passed.report))

-- the queries up to the last one move on the link and on the report
pub ends_moves : {Q A : Type 0} (m : Manner Q A) (queries : List Q) (blocks : List (List ℕ)) (old new blank full : Option (List TalkEvent)) (status : Status) → EndsWith m queries blocks old new blank full status
    → Moves old new × Reports blank full
ends_moves m queries blocks old new blank full status e =
    let last = check_moves m e.query e.block (suc (length e.done)) e.mid new e.half full status e.checks in (
      (_, GoesOn-trans old e.mid new _ _ e.passed.talk last.0.1),
      (_, subst (GoesOn blank full) (sym (outs-append _ last.1.0)) (GoesOn-trans blank e.half full _ _ e.passed.report last.1.1)),
    )

-- and so does a whole write, whatever came of it
pub sends_moves : (old new : Option (List TalkEvent)) (sent : Result (Unit {0}) PortStop) (bytes : List ℕ) → SendsWhole old new sent bytes → Moves old new
sends_moves old new (Ok u) bytes went = (outs bytes, went)
sends_moves old new (Err stop) bytes went = (outs (take went.0 bytes), went.2)
