-- A run that was not begun, since memory was refused to its helper or its link, keeps what `play` promises.
use Rattle.std.proofs.Common.{◌≡◌, ℕ, ◌≤◌, List, [], Some, refl, ap, ◌∙◌, inl, arith}
use Rattle.sip_ports.specs.declared.port.TalkEvent.{TalkEvent}
use Rattle.sip_ports.proofs.TalkLemmas.{GoesOn-refl}
use Rattle.sip_vector.specs.Limits.{most_depth}
use Rattle.sip_verifier.specs.declared.status.Status.TheVariants as statuses
use Rattle.sip_verifier.specs.declared.task.Task.{Task}
use Rattle.sip_verifier.specs.Concluding.{Ended}
use Rattle.sip_verifier.specs.Exchanges.{Exchange, Tells}
use Rattle.sip_verifier.specs.Inquiries.{inquiry_of}
use Rattle.sip_verifier.specs.KeepClause.{Keeps}
use Rattle.sip_verifier.specs.Snapshots.{PortState, Snapshot, snapshot, telling}
use Rattle.sip_verifier.specs.Promises.{Promises}
use Rattle.sip_verifier.specs.RunClause.{RunClause}
use Rattle.sip_verifier.specs.Tasks.{CanBeDone}
use Rattle.sip_verifier.proofs.CompleteRuns.{completes}
use Rattle.sip_verifier.proofs.JointReports.{task_counted}
use Rattle.sip_verifier.proofs.KeptRuns.{kept_is}
use Rattle.sip_verifier.proofs.RunTalks.{nothing_reported, tells}
use Rattle.sip_verifier.proofs.GatheredRuns.{after_gather}
use Rattle.sip_verifier.specs.Questions.{asking}
use Rattle.sip_duel.specs.Story.{IsHonestTalk}

-- nothing that happened is honest
pub nothing_is_honest : IsHonestTalk []
nothing_is_honest = inl (record { steps = []; part = []; give = []; follows = record { are = tt; sent = refl; came = refl; lasts = λ i other less. absurd (omega arith) } })

module _ (task : Task) (can : CanBeDone task) (some : 1 ≤ task.depth) (most : task.depth ≤ most_depth) where
  -- it wanted memory
  wanted : (m : Snapshot) (x : Exchange) → Tells m m x → Ended (inquiry_of task x) x m.faults m.faults statuses.OutOfMemory
  wanted m x t = after_gather asking task.queries.items task x m.faults m.faults statuses.OutOfMemory _ _ t.talk (nothing_reported _ _ t.report) (inl refl) tt

  unbegun_promises : (m : Snapshot) (x : Exchange) → Tells m m x → Promises task x m.faults m.faults statuses.OutOfMemory
  unbegun_promises m x t =
      let e = wanted m x t in
      let counted = task_counted task x can some statuses.OutOfMemory e.verdict refl in
      record {
        verdict = e.verdict;
        talk = e.talk;
        cause = e.cause;
        count = counted.0;
        joint = counted.1;
        complete = completes task x some most (λ i other less. (can.asked i other less).1) m.faults m.faults statuses.OutOfMemory e.verdict e.cause;
        kept = kept_is (Keeps task x statuses.OutOfMemory) m.keep m.keep [] x.kept (GoesOn-refl m.keep) t.kept (inl refl);
      }

  pub unbegun : (m : Snapshot) → RunClause task m m statuses.OutOfMemory
  unbegun m = record {
    promises = unbegun_promises m;
    moves = λ is. tells m m is (λ some. some) [] (GoesOn-refl _) [] (GoesOn-refl _) [] (GoesOn-refl _);
    fault = tt;
    listed = refl;
  }

-- a link on which nothing has happened tells no event
pub tells_on : {items : List TalkEvent} → items ≡ [] → {first second : PortState ℕ} {report keep : PortState TalkEvent} {now : Snapshot} {x : Exchange}
    → Tells (snapshot first second (telling []) report keep) now x → Tells (snapshot first second (telling items) report keep) now x
tells_on none t = record { stream = t.stream; unread = t.unread; seed = t.seed; talk = (t.talk.0, ap Some none ∙ t.talk.1, t.talk.2); report = t.report; kept = t.kept }
