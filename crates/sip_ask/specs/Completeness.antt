-- Completeness of an ask.
--
-- Let the file be that of a sketch which stands for a stream and has seats for questions that may
-- be asked of it. Let the link give what an honest helper sends, or a front of it, and not end:
-- what the sketch has of its stream, and then the replies at the blocks of the seats. The helper
-- may keep other records that have the same vectors of values and of weights, as the same ones in
-- another order. If no fault
-- rises and no other process has the sketch, then each question is accepted, and the report has the
-- stream's own answers; or memory ran out.
use Rattle.std.specs.Prelude.{◌≡◌, ◌≢◌, ◌⊎◌, ℕ, ◌≤◌, ⊤, List, ◌++◌, length, map, flat_map, All}
use Rattle.std.specs.Prelude.{Some, Ok}
use Rattle.std.specs.List.{zip}
use Rattle.std.specs.declared.option.Option.{Option}
use Rattle.sip_ports.specs.Desk.{may_hold}
use Rattle.sip_ports.specs.Ports.{Rose, heard, outs}
use Rattle.sip_ports.specs.declared.port.TalkEvent.{TalkEvent}
use Rattle.sip_ports.specs.declared.port.TalkEvent.TheVariants.{Ended}
use Rattle.sip_vector.specs.Splits.{weights}
use Rattle.sip_vector.specs.Streams.{vector}
use Rattle.sip_vector.specs.Vectors.{nonzero_within}
use Rattle.sip_vector.specs.declared.query.Query.TheVariants.{Sub}
use Rattle.sip_vector.specs.declared.update.Side.{Side}
use Rattle.sip_vector.specs.declared.update.Side.TheVariants.{First}
use Rattle.sip_vector.specs.declared.update.Update.{Update}
use Rattle.sip_wire.specs.Spelling.{spelling}
use Rattle.sip_wire.specs.declared.message.Message.TheVariants as messages
use Rattle.sip_replies.specs.Talks.{IsPrefix}
use Rattle.sip_subvec.specs.Replies.{most_entries}
use Rattle.sip_questions.specs.Honest.{answer, honest_bytes}
use Rattle.sip_questions.specs.Questions.{asking, version_for}
use Rattle.sip_questions.specs.declared.question.Question.{Question}
use Rattle.sip_questions.specs.declared.question.Question.TheVariants as questions
use Rattle.sip_sketch.specs.Sketches.{IsSketch, SketchValues, spelled_file}
use Rattle.sip_sketch.specs.Standing.{Stands}
use Rattle.sip_ask.specs.Choosing.{choice}
use Rattle.sip_ask.specs.Promises.{block_for}
use Rattle.sip_ask.specs.Turns.{held_by}
use Rattle.sip_ask.specs.declared.status.AskStatus.{AskStatus}
use Rattle.sip_ask.specs.declared.status.AskStatus.TheVariants as statuses

-- a sub-vector has no more entries than may be sent
abbrev pub HasRoom : ℕ → List Update → Question → Type 0
HasRoom depth stream (questions.Query (Sub lo hi)) =
    length (nonzero_within lo hi (vector depth stream First)) ≤ most_entries
HasRoom depth stream _ = ⊤

-- all that an honest helper sends which keeps these records
abbrev pub honest_sent : List Question → SketchValues → List (Option ℕ) → List Update → List ℕ
honest_sent asked s places store =
    spelling (version_for s.depth asked) (messages.Held (held_by s.tally))
    ++ flat_map (λ ask. honest_bytes (version_for s.depth asked) s.depth store ask.1 ask.0)
    (zip asked (map (block_for s) places))

-- the lines of the stream's own answers
abbrev pub honest_report : List Question → ℕ → List Update → List ℕ
honest_report asked depth stream = flat_map
    (λ q. (asking (version_for depth asked) depth stream).line q (answer depth stream q)) asked

-- the sketch can be asked, behind this talk of a desk whose file started so, and these events are
-- those of an honest helper
pub record IsHonest (asked : List Question) (start : Option (List ℕ))
    (talk events : List TalkEvent) (s : SketchValues) (stream : List Update) : Type 0 where
  pub is : IsSketch s
  pub file : All (λ content. content ≡ Some (spelled_file s)) (may_hold start talk)
  pub stands : Stands stream s
  pub places : List (Option ℕ)
  pub chosen : choice s asked ≡ Ok places
  pub few : All (HasRoom s.depth stream) asked
  pub store : List Update
  pub vectors : (side : Side) → vector s.depth store side ≡ vector s.depth stream side
  pub heavy : (side : Side) → weights s.depth store side ≡ weights s.depth stream side
  pub heard : IsPrefix (heard events) (honest_sent asked s places store)
  pub lasts : All (λ e. e ≢ Ended) events

-- the desk and the report had failed so often, and now so often
abbrev pub AskCompletes : List Question → Option (List ℕ) → Option (List TalkEvent)
    → Option (List TalkEvent) → Option (List TalkEvent) → Option (List TalkEvent) → ℕ → ℕ → ℕ → ℕ
    → AskStatus → Type 0
AskCompletes asked start old new blank full desk_before desk_now report_before report_now status =
    (talk events wrote : List TalkEvent) (s : SketchValues) (stream : List Update)
    → old ≡ Some talk → new ≡ Some (talk ++ events) → blank ≡ Some wrote
    → IsHonest asked start talk events s stream
    → ¬ Rose desk_before desk_now → ¬ Rose report_before report_now → status ≢ statuses.Busy
    → ((status ≡ statuses.Accepted)
    × (full ≡ Some (wrote ++ outs (honest_report asked s.depth stream))))
    ⊎ (status ≡ statuses.OutOfMemory)
