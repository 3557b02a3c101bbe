-- Counts.
--
-- However a helper replies to a query, by what was revealed to it, it has a wrong answer accepted
-- at few of the blocks of challenges. The report is a front of the lines of answers to the run's
-- first queries in order, and perhaps of the line of a rejection behind them. Where an answer in
-- these lines is not the one that the stream's own vectors give, the run's block for that query is
-- among those few, for every helper that replies to this block as the talk shows.
use Rattle.std.specs.Prelude.{◌≡◌, ◌⊎◌, ℕ, List, [], ◌++◌, map, flat_map, option_to_list, Option}
use Rattle.std.specs.Prelude.{All}
use Rattle.sip_ports.specs.declared.port.TalkEvent.{TalkEvent}
use Rattle.sip_replies.specs.Talks.{IsPrefix}
use Rattle.sip_vector.specs.declared.update.Update.{Update}
use Rattle.sip_wire.specs.declared.message.Reason.{Reason}
use Rattle.sip_wire.specs.declared.version.Version.{Version}
use Rattle.sip_verifier.specs.Exchanges.{Exchange}
use Rattle.sip_verifier.specs.Reports.{rejection}
use Rattle.sip_verifier.specs.runs.Manners.{Asking, Question}
use Rattle.sip_verifier.specs.runs.Runs.{Run, manner, updates, Reached}

-- What is promised of a helper that lies, by the version, the depth and the stream.
pub record Counting (Q A : Type 0) : Type 1 where
  -- no helper has a wrong answer to this query accepted at more than few blocks
  pub FewFor : Version → ℕ → List Update → Q → Type 0
  -- what a call that writes this answer for a question promises of a helper that lies
  pub CountsFor : Version → ℕ → List Update → Question Q → A → Type 0

-- an answer that a line has, and the question that it is the answer to
pub record Written (Q A : Type 0) : Type 0 where
  pub question : Question Q
  pub answer : A

-- their questions
abbrev pub questions_written : {Q A : Type 0} → List (Written Q A) → List (Question Q)
questions_written lines = map (λ w. w.question) lines

-- nothing, or the line of a rejection
abbrev pub IsRejection : List ℕ → Type 0
IsRejection bytes =
    (bytes ≡ []) ⊎ ((query round : ℕ) × (reason : Reason) × (bytes ≡ rejection query round reason))

module _ {Q A : Type 0} (asking : Asking Q A) (counting : Counting Q A) (r : Run Q)
    (x : Exchange) where
  -- the lines of answers
  abbrev pub lines_written : List (Written Q A) → List ℕ
  lines_written lines = flat_map (λ w. (manner asking r x).line w.question.query w.answer) lines

  -- the talk has these questions, and perhaps one more
  abbrev pub AreInTalk : List (Question Q) → Type 0
  AreInTalk questions =
      (questions ≡ [])
      ⊎ ((after : Option (Question Q)) × (rest : List TalkEvent)
      × Reached asking r x (questions ++ option_to_list after) rest)

  pub record CountClause : Type 0 where
    pub few : All (counting.FewFor r.version r.depth (updates r x)) r.queries
    pub lines : List (Written Q A)
    pub questions : AreInTalk (questions_written lines)
    pub rejected : List ℕ
    pub is_rejection : IsRejection rejected
    pub report : IsPrefix x.report (lines_written lines ++ rejected)
    pub counted : All
        (λ w. counting.CountsFor r.version r.depth (updates r x) w.question w.answer) lines
