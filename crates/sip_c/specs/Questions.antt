-- Questions as numbers.
use Rattle.std.specs.Prelude.{◌≡◌, ℕ, ◌==◌, ◌^◌, nat_lt, List, map, All, Option, Some, None, IsSome}
use Rattle.std.specs.Prelude.{◌&&◌, if◌then◌else◌}
use Rattle.sip_lookup.specs.declared.lookup.Lookup.TheVariants as lookups
use Rattle.sip_questions.specs.declared.question.Question.{Question}
use Rattle.sip_questions.specs.declared.question.Question.TheVariants as questions
use Rattle.sip_vector.specs.declared.query.Query.TheVariants as queries
use Rattle.sip_vector.specs.declared.update.Side.{Side}
use Rattle.sip_vector.specs.declared.update.Side.TheVariants.{First, Second}
use Rattle.sip_c.specs.declared.questions.QuestionCode.{QuestionCode}

abbrev pub side_at : ℕ → Option Side
side_at number = if number == 0 then Some First else if number == 1 then Some Second else None

abbrev pub share_at : Side → ℕ → ℕ → Option Question
share_at side num den =
    if nat_lt num (2 ^ 32) && nat_lt den (2 ^ 32)
    then Some (questions.Query (queries.Share side num den)) else None

abbrev pub moment_at : Side → ℕ → Option Question
moment_at side degree =
    if nat_lt degree 256
    then Some (questions.Moment (record { side = side; degree = degree })) else None

-- what is asked of a side
abbrev pub sided_at : ℕ → Side → ℕ → ℕ → Option Question
sided_at kind side lo hi =
    if kind == 2 then Some (questions.Query (queries.Range side lo hi))
    else if kind == 3 then Some (questions.Query (queries.F2 side))
    else if kind == 5 then Some (questions.Query (queries.Heavy side lo))
    else if kind == 6 then share_at side lo hi
    else if kind == 10 then moment_at side lo
    else if kind == 11 then Some (questions.Large (record { side = side; at_least = lo }))
    else None

abbrev pub on_side : Option Side → (Side → Option Question) → Option Question
on_side None f = None
on_side (Some side) f = f side

-- the question of these numbers, where they say one
abbrev pub question_of : QuestionCode → Option Question
question_of c =
    if c.kind == 1 then Some (questions.Query (queries.Sub c.lo c.hi))
    else if c.kind == 4 then Some (questions.Query queries.Inner)
    else if c.kind == 7 then Some (questions.Lookup (lookups.Index c.lo))
    else if c.kind == 8 then Some (questions.Lookup (lookups.Pred c.lo))
    else if c.kind == 9 then Some (questions.Lookup (lookups.Succ c.lo))
    else on_side (side_at c.side) (λ side. sided_at c.kind side c.lo c.hi)

-- these are the questions of the codes
abbrev pub AreQuestions : List QuestionCode → List Question → Type 0
AreQuestions codes asked = map question_of codes ≡ map Some asked

-- one of the codes has none
abbrev pub HaveNone : List QuestionCode → Type 0
HaveNone codes = ¬ All (λ c. IsSome (question_of c)) codes
