-- What an ask promises: the promises of a run of questions, on the exchange that it would have been
-- if the stream had passed through its talk in place of what asks for it, and if the file had been
-- left out of it.
use Rattle.std.specs.Prelude.{◌≡◌, ℕ, ◌≤◌, List, [], ◌∷◌, ◌++◌, length, flat_map, replicate}
use Rattle.std.specs.Prelude.{Some, None}
use Rattle.std.specs.declared.option.Option.{Option}
use Rattle.sip_ports.specs.Ports.{GoesOn, outs}
use Rattle.sip_ports.specs.declared.port.TalkEvent.{TalkEvent}
use Rattle.sip_ports.specs.declared.port.TalkEvent.TheVariants.{Out, In, Ended, Fresh, Stored}
use Rattle.sip_ports.specs.declared.port.TalkEvent.TheVariants.{Renames, Kept}
use Rattle.sip_stream.specs.Records.{records}
use Rattle.sip_stream.specs.declared.form.Form.{Form}
use Rattle.sip_vector.specs.declared.update.Update.{Update}
use Rattle.sip_verifier.specs.Exchanges.{Exchange}
use Rattle.sip_verifier.specs.Snapshots.{Counts}
use Rattle.sip_verifier.specs.Talks.{stream_sent}
use Rattle.sip_verifier.specs.declared.status.Port.TheVariants as run_ports
use Rattle.sip_verifier.specs.declared.status.Status.{Status}
use Rattle.sip_verifier.specs.declared.status.Status.TheVariants as run_statuses
use Rattle.sip_verifier.specs.runs.Runs.{Run}
use Rattle.sip_questions.specs.Promises.{QuestionClauses}
use Rattle.sip_questions.specs.Questions.{version_for}
use Rattle.sip_questions.specs.declared.question.Question.{Question}
use Rattle.sip_sketch.specs.Sketches.{SketchValues}
use Rattle.sip_sketch.specs.Standing.{Stands}
use Rattle.sip_ask.specs.Turns.{block_at, held_by, held_heard, recall_sent}
use Rattle.sip_ask.specs.declared.status.AskPort.TheVariants as ports
use Rattle.sip_ask.specs.declared.status.AskStatus.{AskStatus}
use Rattle.sip_ask.specs.declared.status.AskStatus.TheVariants as statuses

-- the events of the link among these
abbrev pub of_link : List TalkEvent → List TalkEvent
of_link [] = []
of_link (Out b ∷ events) = Out b ∷ of_link events
of_link (In b ∷ events) = In b ∷ of_link events
of_link (Ended ∷ events) = Ended ∷ of_link events
of_link (Fresh ∷ events) = of_link events
of_link (Stored _ ∷ events) = of_link events
of_link (Renames ∷ events) = of_link events
of_link (Kept ∷ events) = of_link events

-- the status of that run: only those have one that come behind the opening, and that the file could
-- not be stored is told of no run
abbrev pub run_status : AskStatus → Option Status
run_status statuses.Accepted = Some run_statuses.Accepted
run_status (statuses.Rejected query round reason) =
    Some (run_statuses.Rejected query round reason)
run_status (statuses.WriteFault ports.Report) = Some (run_statuses.WriteFault run_ports.Report)
run_status statuses.PeerFault = Some run_statuses.PeerFault
run_status statuses.OutOfMemory = Some run_statuses.OutOfMemory
run_status _ = None

-- the challenges of a question's seat; those of a question that takes none are not looked at
abbrev pub block_for : SketchValues → Option ℕ → List ℕ
block_for s None = replicate s.depth 0
block_for s (Some place) = block_at place s.seats

module _ (asked : List Question) (s : SketchValues) (places : List (Option ℕ))
    (stream : List Update) (form : Form) where
  -- the run
  abbrev pub run_of : Run Question
  run_of = record {
    version = version_for s.depth asked;
    depth = s.depth;
    form = form;
    queries = asked;
    challenges = Some (flat_map (block_for s) places);
  }

  -- its exchange, where these events came behind the opening and these bytes were written
  pub record IsAsIf (behind : List TalkEvent) (report : List ℕ) (x : Exchange) : Type 0 where
    pub told : records s.depth form x.stream ≡ record { legal = stream; fault = None }
    pub read : x.unread ≡ []
    pub seeded : 32 ≤ length x.seed
    pub talk : x.talk ≡ stream_sent (version_for s.depth asked) s.depth stream ++ of_link behind
    pub written : x.report ≡ report

-- Of every stream that the loaded sketch stands for, where the talk and the report are told: this
-- holds of each exchange of the run that would have been.
abbrev pub AsIf : List Question → SketchValues → List (Option ℕ) → Option (List TalkEvent)
    → Option (List TalkEvent) → Option (List TalkEvent) → Option (List TalkEvent) → AskStatus
    → (List Update → Form → Exchange → Status → Type 0) → Type 0
AsIf asked s places old new blank full status holds =
    (stream : List Update) → Stands stream s
    → (talk behind wrote : List TalkEvent) (report : List ℕ) → old ≡ Some talk → blank ≡ Some wrote
    → GoesOn old new ((recall_sent (version_for s.depth asked) s.depth s.tally.count
    ++ held_heard (version_for s.depth asked) (held_by s.tally)) ++ behind)
    → GoesOn blank full (outs report)
    → (run_end : Status) → run_status status ≡ Some run_end
    → (form : Form) (x : Exchange) → IsAsIf asked s places stream form behind report x
    → holds stream form x run_end

-- the call keeps the five promises of questions, each at the block of its seat
abbrev pub AskClauses : List Question → SketchValues → List (Option ℕ) → Option (List TalkEvent)
    → Option (List TalkEvent) → Option (List TalkEvent) → Option (List TalkEvent) → Counts → Counts
    → AskStatus → Type 0
AskClauses asked s places old new blank full before now status =
    AsIf asked s places old new blank full status (λ stream form x run_end.
    QuestionClauses (run_of asked s places stream form) x before now run_end)
