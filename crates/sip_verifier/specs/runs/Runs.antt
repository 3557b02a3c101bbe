-- A run, and the questions that it asked.
use Rattle.std.specs.Prelude.{◌≡◌, ◌==◌, ℕ, List, [], ◌++◌, length, take, map, flat_map, Option}
use Rattle.std.specs.Prelude.{Some, None, if◌then◌else◌}
use Rattle.sip_ports.specs.declared.port.TalkEvent.{TalkEvent}
use Rattle.sip_ports.specs.Ports.{outs}
use Rattle.sip_stream.specs.declared.form.Form.{Form}
use Rattle.sip_stream.specs.Records.{records}
use Rattle.sip_vector.specs.declared.update.Update.{Update}
use Rattle.sip_vector.specs.Pieces.{cut}
use Rattle.sip_wire.specs.declared.version.Version.{Version}
use Rattle.sip_verifier.specs.Exchanges.{Exchange}
use Rattle.sip_verifier.specs.runs.Manners.{Accepted, Asking, Manner, Question}
use Rattle.sip_verifier.specs.Talks.{stream_sent}

-- The version of the talk, the depth of the stream and its form, the queries in order, and the
-- challenges of all of them, where there are any: a seed may give none.
pub record Run (Q : Type 0) : Type 0 where
  pub version : Version
  pub depth : ℕ
  pub form : Form
  pub queries : List Q
  pub challenges : Option (List ℕ)

module _ {Q : Type 0} (r : Run Q) (x : Exchange) where
  -- the legal records of the stream
  abbrev pub updates : List Update
  updates = (records r.depth r.form x.stream).legal

  -- the stream is legal to its end
  abbrev pub IsLegalToEnd : Type 0
  IsLegalToEnd = (records r.depth r.form x.stream).fault ≡ None

  -- these are the first queries in order, each with its own block of the challenges
  pub record AreQuestions (questions : List (Question Q)) : Type 0 where
    pub challenges : List ℕ
    pub drawn : r.challenges ≡ Some challenges
    pub queries : map (λ q. q.query) questions ≡ take (length questions) r.queries
    pub blocks : map (λ q. q.block) questions ≡ take (length questions) (cut r.depth challenges)

module _ {Q A : Type 0} (asking : Asking Q A) (r : Run Q) (x : Exchange) where
  -- how the run's questions are asked and judged
  abbrev pub manner : Manner Q A
  manner = asking r.version r.depth (updates r x)

  -- questions that were accepted, in order
  abbrev pub Done : Type 0
  Done = List (Accepted manner)

  abbrev pub questions_of : Done → List (Question Q)
  questions_of done = map (λ a. a.question) done

  abbrev pub lines : Done → List ℕ
  lines done = flat_map (λ a. manner.line a.question.query a.answer) done

  -- the farewell, which comes once every query was accepted
  abbrev pub farewell : Done → List TalkEvent
  farewell done = if length done == length r.queries then outs manner.farewell else []

  -- the whole stream was legal and was sent, and then these questions were taken, and then the rest
  -- was said
  pub record Reached (questions : List (Question Q)) (rest : List TalkEvent) : Type 0 where
    pub are_questions : AreQuestions r x questions
    pub legal : IsLegalToEnd r x
    pub talk : x.talk ≡ stream_sent r.version r.depth (updates r x) ++ flat_map
        manner.said_for questions ++ rest
