-- Counts.
--
-- However a helper replies to a query, by what was revealed to it, it has a wrong answer accepted
-- at no more than c·d·p^(d - 1) of the p^d blocks of challenges, d being the depth, p the modulus,
-- and c what the kind of the query has: 1 for a sub-vector, 2 for a range sum, a second moment and
-- an inner product, and 3 for heavy hitters, of a side without a negative entry. The report is a
-- front of the lines of answers to the run's first queries in order, and perhaps of the line of a
-- rejection behind them. Where an answer in these lines is not the one that the stream's own
-- vectors give, the run's block for that query is among those few, for every helper that replies to
-- this block as the talk shows.
use Rattle.std.specs.Prelude.{ℕ, ◌*◌, ◌-◌, ◌^◌, ◌≤◌, Bool, List, flat_map, Some}
use Rattle.sip_field.specs.Moduli.{m61_modulus}
use Rattle.sip_vector.specs.declared.query.Query.{Query}
use Rattle.sip_vector.specs.declared.update.Update.{Update}
use Rattle.sip_vector.specs.Answers.{Answer, answer}
use Rattle.sip_counts.specs.Clauses.{FewAndCounted}
use Rattle.sip_counts.specs.Strategies.{Strategy, IsOfBytes, fooled}
use Rattle.sip_replies.specs.Replies.{accepts}
use Rattle.sip_wire.specs.declared.version.Version.{Version}
use Rattle.sip_verifier.specs.Exchanges.{Exchange}
use Rattle.sip_verifier.specs.Inquiries.{Inquiry}
use Rattle.sip_verifier.specs.Kinds.{Kind, OfKind}
use Rattle.sip_verifier.specs.Reports.{line}
use Rattle.sip_verifier.specs.runs.CountClause as runs
use Rattle.sip_verifier.specs.runs.CountClause.{Counting}
pub use Rattle.sip_verifier.specs.runs.CountClause.{questions_written, IsRejection}
use Rattle.sip_verifier.specs.Questions.{Question, asking}

-- ---- one query

-- whether replies are accepted at a block, by their kind
abbrev pub accepts_in : Kind → List ℕ → List (List ℕ) → Bool
accepts_in kind block replies = accepts (kind.protocol block) block replies

-- at how many blocks a helper may have a wrong answer accepted, over p^(d - 1)
abbrev pub bound_of : ℕ → Kind → ℕ
bound_of depth kind = kind.chances * depth

-- no helper has a wrong answer to this query accepted at more blocks than c·d·p^(d - 1)
abbrev pub FewFor : Version → ℕ → List Update → Query → Type 0
FewFor version depth stream query = OfKind version depth stream query (λ kind.
    kind.CanBeCounted → (strategy : Strategy) → IsOfBytes strategy
    → fooled m61_modulus depth (accepts_in kind) kind.is_right strategy
    ≤ bound_of depth kind * m61_modulus ^ (depth - 1))

-- what a call that writes this answer for a question promises of a helper that lies
abbrev pub CountsFor : Version → ℕ → List Update → Question → Answer → Type 0
CountsFor version depth stream q written = OfKind version depth stream q.query (λ kind.
    kind.CanBeCounted → FewAndCounted m61_modulus depth (bound_of depth kind)
    (accepts_in kind) kind.is_right q.block q.replies (Some written)
    (answer depth stream q.query))

-- what is promised of a helper that lies
abbrev pub counting : Counting Query Answer
counting = record { FewFor = FewFor; CountsFor = CountsFor }

-- ---- a run

-- an answer that a line has, and the question that it is the answer to
abbrev pub Written : Type 0
Written = runs.Written Query Answer

-- the lines of answers
abbrev pub lines_written : List Written → List ℕ
lines_written lines = flat_map (λ w. line w.question.query w.answer) lines

abbrev pub AreInTalk : Inquiry → Exchange → List Question → Type 0
AreInTalk i x questions = runs.AreInTalk asking counting i x questions

abbrev pub CountClause : Inquiry → Exchange → Type 0
CountClause i x = runs.CountClause asking counting i x
