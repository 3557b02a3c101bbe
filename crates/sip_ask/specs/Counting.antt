-- Counts over the seats of a sketch.
--
-- The seats are used in any order, by any runs, before more of the stream is watched or behind it,
-- and a question may be chosen by all that was revealed of other seats. So what becomes of a seat
-- is a plan: by the challenges of all other seats it says of which stream which question is asked,
-- and by those of its own that are revealed too, what is replied.
use Rattle.std.specs.Prelude.{◌≡◌, ℕ, suc, false, List, map, take, drop, flat_map, Some, None}
use Rattle.std.specs.Prelude.{IfSome, IsTrue, ◌≤◌}
use Rattle.std.specs.declared.option.Option.{Option}
use Rattle.sip_counts.specs.Late.{CountedQuestion, Plan, unasked}
use Rattle.sip_counts.specs.Strategies.{IsOfBytes, Strategy, replies}
use Rattle.sip_vector.specs.Streams.{IsLegal, vector}
use Rattle.sip_vector.specs.Tallies.{tally}
use Rattle.sip_vector.specs.declared.update.Side.TheVariants.{First}
use Rattle.sip_vector.specs.declared.update.Update.{Update}
use Rattle.sip_wire.specs.declared.version.Version.{Version}
use Rattle.sip_verifier.specs.CountClause.{accepts_in}
use Rattle.sip_verifier.specs.JointClause.{asked_by}
use Rattle.sip_verifier.specs.Kinds.{kind_row}
use Rattle.sip_above.specs.Manner as larges
use Rattle.sip_lookup.specs.AcceptsLook.{accepts_look, is_right}
use Rattle.sip_moments.specs.Manner as moments
use Rattle.sip_questions.specs.Questions.{Posed}
use Rattle.sip_questions.specs.declared.question.Question.{Question}
use Rattle.sip_questions.specs.declared.question.Question.TheVariants as questions
use Rattle.sip_sketch.specs.Sketches.{SeatValues}
use Rattle.sip_ask.specs.Choosing.{fits, is_high_of, is_signed}

-- ---- a question

-- a question about a stream, in a talk of this version
pub record Asked : Type 0 where
  pub version : Version
  pub stream : List Update
  pub question : Question

-- which replies to it are accepted, which of them are right, and a bound on its count, by its kind
abbrev pub counted_by : ℕ → Asked → Question → CountedQuestion
counted_by depth a (questions.Query query) =
    asked_by accepts_in depth (kind_row a.version depth a.stream query)
counted_by depth a (questions.Lookup lookup) = record {
  accepts = accepts_look a.version depth (vector depth a.stream First) lookup;
  is_right = is_right a.version depth (vector depth a.stream First) lookup;
  bound = depth;
}
counted_by depth a (questions.Moment moment) = record {
  accepts = moments.accepts_at a.version depth a.stream moment;
  is_right = moments.is_right_for a.version depth a.stream moment;
  bound = moments.bound_of depth moment;
}
counted_by depth a (questions.Large large) = record {
  accepts = larges.accepts_at a.version depth a.stream large;
  is_right = larges.is_right_for a.version depth a.stream large;
  bound = larges.bound_of depth;
}

abbrev pub counted : ℕ → Asked → CountedQuestion
counted depth a = counted_by depth a a.question

-- What a count asks of it: the stream is legal, the question fits, heavy hitters are asked for only
-- of a side that had no delta below 0, and a moment only where a claim has room. An ask tests all
-- of that.
pub record IsCounted (depth : ℕ) (a : Asked) : Type 0 where
  pub legal : IsLegal depth a.stream
  pub fitting : IsTrue (fits depth a.question)
  pub unsigned : is_signed (tally a.stream) a.question ≡ false
  pub low : is_high_of (tally a.stream) a.question ≡ false

-- ---- a seat

-- what may become of a seat: no question, or one
pub record SeatPlan : Type 0 where
  pub asked : List ℕ → List ℕ → Option Asked
  pub strategy : List ℕ → List ℕ → Strategy
  pub bound : ℕ

abbrev pub counted_or_none : ℕ → Option Asked → CountedQuestion
counted_or_none depth None = unasked
counted_or_none depth (Some a) = counted depth a

-- as a plan that is counted
abbrev pub plan_of : ℕ → SeatPlan → Plan
plan_of depth p = record {
  question = λ earlier later. counted_or_none depth (p.asked earlier later);
  strategy = p.strategy;
  bound = p.bound;
}

-- whatever it comes to can be counted, and its replies are made of bytes
pub record IsSound (depth : ℕ) (p : SeatPlan) : Type 0 where
  pub asked : (earlier later : List ℕ) → IfSome (p.asked earlier later)
      (λ a. IsCounted depth a × ((counted depth a).bound ≤ p.bound))
  pub bytes : (earlier later : List ℕ) → IsOfBytes (p.strategy earlier later)

-- ---- the seats of a sketch

-- all their challenges
abbrev pub challenges_in : List SeatValues → List ℕ
challenges_in seats = flat_map (λ seat. seat.block) seats

-- The plan of the seat at a place led to this: by the challenges of the seats before it and of
-- those behind it, it gives this question about this stream, and replies as were taken.
pub record LedTo (seats : List SeatValues) (place : ℕ) (p : SeatPlan) (version : Version)
    (stream : List Update) (q : Posed) : Type 0 where
  pub asked : p.asked (challenges_in (take place seats)) (challenges_in (drop (suc place) seats))
      ≡ Some (record { version = version; stream = stream; question = q.query })
  pub replies : replies
      (p.strategy (challenges_in (take place seats)) (challenges_in (drop (suc place) seats)))
      q.block ≡ map Some q.replies
