-- Counts over a sketch that is asked.
--
-- However helpers reply to the questions of the seats of a sketch, in whatever order these are used
-- and by whatever runs, by whatever was revealed of the others: some seat has a wrong answer
-- accepted at few vectors of all challenges. The report of an ask is a front of the lines of
-- answers to its first questions, and perhaps of the line of a rejection. Where an answer in these
-- lines is not the one that the stream's own vectors give, the challenges of the sketch are such a
-- vector: for all plans of the seats of which that of the question's seat leads to it. Nothing else
-- is asked of the stream or of the question, since the ask has tested it.
use Rattle.std.specs.Prelude.{◌≡◌, ◌≢◌, ℕ, ◌*◌, ◌-◌, ◌^◌, ◌≤◌, true, ⊤, List, [], ◌++◌}
use Rattle.std.specs.Prelude.{length, map, All, Some, None, slice_index_or}
use Rattle.std.specs.List.{zip}
use Rattle.std.specs.declared.option.Option.{Option}
use Rattle.sip_field.specs.Moduli.{m61_modulus}
use Rattle.sip_counts.specs.Late.{fooled_late, plan_bounds, some_fooled}
use Rattle.sip_ports.specs.declared.port.TalkEvent.{TalkEvent}
use Rattle.sip_replies.specs.Talks.{IsPrefix}
use Rattle.sip_vector.specs.declared.update.Update.{Update}
use Rattle.sip_verifier.specs.Exchanges.{Exchange}
use Rattle.sip_verifier.specs.runs.CountClause.{AreInTalk, IsRejection, Written, lines_written}
use Rattle.sip_verifier.specs.runs.CountClause.{questions_written}
use Rattle.sip_verifier.specs.runs.Runs.{Run}
use Rattle.sip_questions.specs.Counting.{counting}
use Rattle.sip_questions.specs.Honest.{answer}
use Rattle.sip_questions.specs.Questions.{Answered, asking}
use Rattle.sip_questions.specs.declared.question.Question.{Question}
use Rattle.sip_sketch.specs.Sketches.{SketchValues}
use Rattle.sip_ask.specs.Asking.{IsInTalk}
use Rattle.sip_ask.specs.Counting.{IsSound, LedTo, SeatPlan, challenges_in, plan_of}
use Rattle.sip_ask.specs.Promises.{AsIf, run_of}
use Rattle.sip_ask.specs.declared.status.AskStatus.{AskStatus}

module _ (s : SketchValues) (stream : List Update) (r : Run Question) where
  -- Where a line has a wrong answer to a question that took the seat at this place, the plans of
  -- the seats have a wrong answer accepted at the challenges of the sketch.
  abbrev pub IsFoundOut : List SeatPlan → Option ℕ → Written Question Answered → Type 0
  IsFoundOut plans None w = ⊤
  IsFoundOut plans (Some place) w = (plan : SeatPlan) → slice_index_or plans place plan ≡ plan
      → LedTo s.seats place plan r.version stream w.question
      → w.answer ≢ answer s.depth stream w.question.query
      → some_fooled s.depth (map (plan_of s.depth) plans) [] (challenges_in s.seats) ≡ true

  -- whatever the plans of all seats are
  pub record SketchCount (places : List (Option ℕ)) (x : Exchange) : Type 0 where
    pub lines : List (Written Question Answered)
    pub questions : AreInTalk asking counting r x (questions_written lines)
    pub rejected : List ℕ
    pub is_rejection : IsRejection rejected
    pub report : IsPrefix x.report (lines_written asking counting r x lines ++ rejected)
    pub few : (plans : List SeatPlan) → All (IsSound s.depth) plans
        → fooled_late m61_modulus s.depth (map (plan_of s.depth) plans)
        ≤ plan_bounds (map (plan_of s.depth) plans)
        * m61_modulus ^ (length (map (plan_of s.depth) plans) * s.depth - 1)
    pub counted : (plans : List SeatPlan) → length plans ≡ length s.seats
        → All (λ line. IsFoundOut plans line.0 line.1) (zip places lines)

-- of every stream that the loaded sketch stands for, where the talk and the report are told
abbrev pub CountOnSketches : List Question → Option (List ℕ) → Option (List TalkEvent)
    → Option (List TalkEvent) → Option (List TalkEvent) → Option (List TalkEvent) → AskStatus
    → Type 0
CountOnSketches asked start old new blank full status =
    (t : IsInTalk asked start old new blank full status)
    → AsIf asked t.s t.places old new blank full status (λ stream form x end.
    SketchCount t.s stream (run_of asked t.s t.places stream form) t.places x)
