-- The promises where a run ends before its first query, whatever is asked of the stream.
use Rattle.std.proofs.Common.{◌≡◌, ◌≢◌, Option, None, List, [], ◌++◌, refl, sym, ap, subst, ◌∙◌, inl, inr, append-nil}
use Rattle.sip_ports.specs.declared.port.TalkEvent.{TalkEvent}
use Rattle.sip_replies.specs.Talks.{IsPrefix}
use Rattle.sip_verifier.specs.declared.status.Port.TheVariants as ports
use Rattle.sip_verifier.specs.declared.status.Status.{Status}
use Rattle.sip_verifier.specs.declared.status.Status.TheVariants as statuses
use Rattle.sip_verifier.specs.declared.task.Task.{Task}
use Rattle.sip_verifier.specs.Draws.{drawn}
use Rattle.sip_verifier.specs.Exchanges.{Exchange}
use Rattle.sip_verifier.specs.Gathering.{Refuses, HasSeed, IsCut}
use Rattle.sip_verifier.specs.Inquiries.{run_over}
use Rattle.sip_verifier.specs.Snapshots.{Counts}
use Rattle.sip_verifier.specs.runs.Concluding.{Ended}
use Rattle.sip_verifier.specs.runs.Manners.{Asking}
use Rattle.sip_verifier.specs.runs.Runs.{Run, updates, IsLegalToEnd, farewell, AreQuestions}
use Rattle.sip_verifier.specs.runs.TalkClause.{IsUnderWay, before_end}
use Rattle.sip_verifier.specs.runs.VerdictClause.{NoneLeft}
use Rattle.sip_verifier.specs.Statuses.{FaultClause}
use Rattle.sip_verifier.specs.Talks.{stream_sent}
use Rattle.sip_verifier.specs.Tasks.{version_of}
use Rattle.sip_verifier.proofs.RunTalks.{Adds, said_is, nothing_new, front_before}
use Rattle.sip_verifier.proofs.StreamSent.{IsPrefix-trans, stream_sent-front}

module _ {Q A : Type 0} (asking : Asking Q A) (queries : List Q) (task : Task) (x : Exchange) where
  abbrev run : Run Q
  run = run_over task queries x

  abbrev streamed : List TalkEvent
  streamed = stream_sent (version_of task) task.depth (updates run x)

  -- ---- nothing written, nothing said

  empty_front : (ys : List TalkEvent) → x.talk ≡ [] → IsPrefix x.talk ys
  empty_front ys e = (ys, ap (λ (l : List TalkEvent). l ++ ys) (sym e))

  nothing_said : x.talk ≡ [] → IsUnderWay asking run x
  nothing_said e = record {
    done = [];
    reached = inl refl;
    current = None;
    unfinished = tt;
    questions = λ some. absurd (some e);
    order = empty_front _ e;
    legal = λ _. empty_front _ e;
    written = λ more. absurd (more (empty_front _ e));
  }

  -- ---- while the stream was sent

  pub is_drawn : HasSeed task x.stream x.seed → drawn task x.seed ≢ None
  is_drawn seed none = let some = seed.1 in cc

  no_question : HasSeed task x.stream x.seed → AreQuestions run x []
  no_question seed = record { challenges = seed.0; drawn = seed.1; queries = refl; blocks = refl }

  -- a front of what is sent while the stream is read, and nothing after it
  in_order : IsPrefix x.talk streamed → IsPrefix x.talk (streamed ++ [] ++ farewell asking run x [])
  in_order order = front_before x.talk (streamed ++ []) (farewell asking run x []) (front_before x.talk streamed [] order)

  in_stream : HasSeed task x.stream x.seed → IsPrefix x.talk streamed → (¬ IsLegalToEnd run x → IsPrefix x.talk (before_end run x)) → IsUnderWay asking run x
  in_stream seed order illegal = record {
    done = [];
    reached = inl refl;
    current = None;
    unfinished = tt;
    questions = λ _. no_question seed;
    order = in_order order;
    legal = illegal;
    written = λ more. absurd (more (order.0, append-nil _ ∙ order.1));
  }

  none_in_stream : IsPrefix x.talk streamed → x.report ≡ [] → NoneLeft asking run x
  none_in_stream order blank = record { done = []; current = None; waits = tt; reached = inl refl; order = in_order order; report = blank }

  -- ---- the ends

  cut_front : (old new : Option (List TalkEvent)) → Adds old new x.talk → (cut : IsCut task x.stream old new) → (x.talk ≡ cut.said)
  cut_front old new told cut = said_is old new cut.said x.talk cut.talk told

  fronts : {said : List TalkEvent} {whole : List TalkEvent} → x.talk ≡ said → IsPrefix said whole → IsPrefix x.talk whole
  fronts {said = said} {whole = whole} e front = subst (λ (l : List TalkEvent). IsPrefix l whole) (sym e) front

  pub after_gather : (before now : Counts) (status : Status) (old new : Option (List TalkEvent)) → Adds old new x.talk → x.report ≡ [] → Refuses task x.stream x.seed old new status → FaultClause before now status
      → Ended asking run x before now status
  after_gather before now statuses.BadSeed old new told blank (short, same) cause = record { verdict = blank; talk = nothing_new old new x.talk same told; cause = short }
  after_gather before now statuses.SeedSpent old new told blank (enough, none, same) cause = record { verdict = blank; talk = nothing_new old new x.talk same told; cause = (enough, none) }
  after_gather before now (statuses.BadStream at why) old new told blank (seed, breaks) cause =
      record { verdict = blank; talk = said_is old new _ x.talk breaks.2 told; cause = (is_drawn seed, breaks.0, breaks.1) }
  after_gather before now (statuses.ReadFault ports.First) old new told blank (seed, cut) cause =
      let front : IsPrefix x.talk (before_end run x) = fronts (said_is old new cut.said x.talk cut.talk told) cut.order in
      record { verdict = blank; talk = (in_stream seed (IsPrefix-trans x.talk (before_end run x) streamed front (stream_sent-front (version_of task) task.depth (updates run x))) (λ _. front), front); cause = (is_drawn seed, cause) }
  after_gather before now (statuses.ReadFault ports.Second) old new told blank same cause = record { verdict = blank; talk = nothing_new old new x.talk same told; cause = cause }
  after_gather before now (statuses.ReadFault ports.Report) old new told blank refuses cause = absurd refuses
  after_gather before now (statuses.ReadFault ports.Keep) old new told blank refuses cause = absurd refuses
  after_gather before now (statuses.WriteFault ports.First) old new told blank refuses cause = absurd refuses
  after_gather before now (statuses.WriteFault ports.Second) old new told blank refuses cause = absurd refuses
  after_gather before now (statuses.WriteFault ports.Report) old new told blank refuses cause = absurd refuses
  after_gather before now (statuses.WriteFault ports.Keep) old new told blank (seed, same) cause =
      let none = nothing_new old new x.talk same told in
      record { verdict = inl (none, blank); talk = inl none; cause = (is_drawn seed, λ some. absurd (some none), cause) }
  after_gather before now statuses.PeerFault old new told blank (seed, cut) cause =
      let is = cut_front old new told cut in
      let order : IsPrefix x.talk streamed = fronts is cut.order in
      record { verdict = none_in_stream order blank; talk = in_stream seed order (λ not. fronts is (cut.illegal not)); cause = (is_drawn seed, cause) }
  after_gather before now statuses.OutOfMemory old new told blank (inl same) cause =
      record { verdict = inl (none_in_stream (empty_front _ (nothing_new old new x.talk same told)) blank); talk = inl (inl (nothing_said (nothing_new old new x.talk same told))); cause = tt }
  after_gather before now statuses.OutOfMemory old new told blank (inr (seed, cut)) cause =
      let is = cut_front old new told cut in
      record { verdict = inl (none_in_stream (fronts is cut.order) blank); talk = inl (inl (in_stream seed (fronts is cut.order) (λ not. fronts is (cut.illegal not)))); cause = tt }
  after_gather before now _ old new told blank refuses cause = absurd refuses

  -- there is no memory for what asks
  pub after_stream : (before now : Counts) → HasSeed task x.stream x.seed → IsLegalToEnd run x → x.talk ≡ streamed → x.report ≡ [] → Ended asking run x before now statuses.OutOfMemory
  after_stream before now seed legal talk blank = record {
    verdict = inl (none_in_stream (fronts talk ([], sym (append-nil _))) blank);
    talk = inl (inl (in_stream seed (fronts talk ([], sym (append-nil _))) (λ not. absurd (not legal))));
    cause = tt;
  }
