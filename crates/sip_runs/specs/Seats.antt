-- The seats of a run: for each question its running numbers, and which stream they stand for.
use Rattle.std.specs.Prelude.{◌≡◌, ℕ, pos, Bool, false, IsTrue, List, length, map}
use Rattle.std.specs.Prelude.{Option, Some, None, if◌then◌else◌}
use Rattle.sip_vector.specs.declared.update.Side.{Side}
use Rattle.sip_vector.specs.declared.update.Update.{Update}
use Rattle.sip_vector.specs.Thresholds.{is_wide}
use Rattle.sip_wire.specs.declared.version.Version.{Version}
use Rattle.sip_verifier.specs.declared.status.Status.{Status}
use Rattle.sip_verifier.specs.declared.status.Status.TheVariants as statuses
use Rattle.sip_verifier.specs.QuerySeats.{RunningNumbers, keeps, split_root_is}
use Rattle.sip_verifier.specs.Running.{RunsFor, block_of, numbers_of}
use Rattle.sip_verifier.specs.Widths.{is_wide_seat}
use Rattle.sip_above.specs.declared.large.Large.{Large}
use Rattle.sip_moments.specs.Moments.{is_too_high}
use Rattle.sip_questions.specs.declared.question.Question.{Question}
use Rattle.sip_questions.specs.declared.question.Question.TheVariants as questions
use Rattle.sip_questions.specs.Promises.{CanPose}
use Rattle.sip_questions.specs.Sittings.{query_like}
use Rattle.sip_runs.specs.declared.seat.RunSeat.{RunSeat}

-- its question can be asked, and its running numbers, at a challenge for each level, are those of
-- this stream
pub record IsSeated (version : Version) (depth : ℕ) (stream : List Update) (s : RunSeat) : Type 0
  where
    pub can : CanPose version depth s.question
    pub levels : length (block_of s.running) ≡ depth
    pub kept : IsTrue (keeps (query_like s.question) (numbers_of s.running))
    pub runs : RunsFor depth stream (query_like s.question) s.running

-- what the seats ask, in order, and at which challenges
abbrev pub questions_of : List RunSeat → List Question
questions_of seats = map (λ s. s.question) seats

abbrev pub blocks_of : List RunSeat → List (List ℕ)
blocks_of seats = map (λ s. block_of s.running) seats

-- a side of which this is kept may have more large entries than are asked for
abbrev pub is_too_many : Large → RunningNumbers → Bool
is_too_many large (split_root_is hash weight) = is_wide large.at_least (pos weight)
is_too_many large _ = false

-- why the question with this number may not be asked, by the numbers that are kept for it and by
-- the weights of the stream's sides
abbrev pub refusal_by : (Side → ℕ) → ℕ → Question → RunningNumbers → Option Status
refusal_by weight n (questions.Query query) running =
    if is_wide_seat query running then Some (statuses.TooWide n) else None
refusal_by weight n (questions.Lookup lookup) running = None
refusal_by weight n (questions.Moment moment) running =
    if is_too_high (weight moment.side) moment.degree then Some (statuses.TooHigh n) else None
refusal_by weight n (questions.Large large) running =
    if is_too_many large running then Some (statuses.TooWide n) else None

abbrev pub refusal_at : (Side → ℕ) → ℕ → RunSeat → Option Status
refusal_at weight n s = refusal_by weight n s.question (numbers_of s.running)
