-- Which seat serves a question.
use Rattle.std.specs.Prelude.{◌≡◌, ℕ, ◌<◌, true, false, length, slice_index_or, None, Some}
use Rattle.std.specs.declared.option.Option.{Option}
use Rattle.sip_vector.specs.declared.tally.Tally.{Tally}
use Rattle.sip_questions.specs.declared.question.Question.{Question}
use Rattle.sip_sketch.specs.Sketches.{SeatValues, SketchValues}
use Rattle.sip_ask.specs.Choosing.{is_high_of, is_idle, is_signed, is_wide_of, kind_for}

-- a seat of the question's kind, which no question has used
pub record IsSeat (question : Question) (seat : SeatValues) : Type 0 where
  pub kind : seat.kind ≡ kind_for question
  pub unused : seat.is_used ≡ false

-- the sketch has such a seat at this place
pub record Serves (s : SketchValues) (question : Question) (place : ℕ) : Type 0 where
  pub inside : place < length s.seats
  pub seat : (d : SeatValues) → IsSeat question (slice_index_or s.seats place d)

-- the question takes that seat, or none, where it asks for entries larger than all of a side
abbrev pub Takes : SketchValues → Question → Option ℕ → Type 0
Takes s question None = is_idle s.tally question ≡ true
Takes s question (Some place) = Serves s question place × (is_idle s.tally question ≡ false)

-- what was tested of a question by what is told of the stream
pub record IsTested (t : Tally) (question : Question) : Type 0 where
  pub unsigned : is_signed t question ≡ false
  pub narrow : is_wide_of t question ≡ false
  pub low : is_high_of t question ≡ false
