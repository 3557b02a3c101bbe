-- The words of the command that asks a sketch.
use Rattle.std.specs.Prelude.{◌≡◌, ◌≢◌, ℕ, ◌≤◌, List, [], ◌∷◌, codes, length}
use Rattle.sip_vector.specs.Limits.{most_depth}
use Rattle.sip_wire.specs.Table.{most_queries}
use Rattle.sip_words.specs.Shapes.{Asks, AsksLarge, AsksLook, AsksMoment}
use Rattle.sip_questions.specs.declared.question.Question.{Question}
use Rattle.sip_questions.specs.declared.question.Question.TheVariants as questions
use Rattle.sip_keeping.specs.Refusing.{AreRefusedAt}

-- the first word
abbrev pub ask_word : List ℕ
ask_word = codes "ask"

-- The word asks this question at some depth, and so at the greatest: it is a query's, a lookup's, a
-- moment's or one for large entries. Whether it fits the depth of the sketch is seen when that is loaded.
abbrev pub IsQuestionWord : Question → List ℕ → Type 0
IsQuestionWord (questions.Query query) word = Asks most_depth query word
IsQuestionWord (questions.Lookup lookup) word = AsksLook most_depth lookup word
IsQuestionWord (questions.Moment moment) word = AsksMoment most_depth moment word
IsQuestionWord (questions.Large large) word = AsksLarge most_depth large word

-- QUESTION..: each word asks one question
abbrev pub AreQuestions : List (List ℕ) → List Question → Type 0
AreQuestions [] asked = asked ≡ []
AreQuestions (word ∷ words) asked = (question : Question) × (more : List Question)
    × IsQuestionWord question word × (asked ≡ question ∷ more) × AreQuestions words more

-- ask SKETCH FROM TO QUESTION..
pub record SpellsAsk (asked : List Question) (words : List (List ℕ)) : Type 0 where
  pub sketch : List ℕ
  pub from : List ℕ
  pub to : List ℕ
  pub questions : List (List ℕ)
  pub order : words ≡ ask_word ∷ sketch ∷ from ∷ to ∷ questions
  pub has_sketch : sketch ≢ []
  pub has_from : from ≢ []
  pub has_to : to ≢ []
  pub are : AreQuestions questions asked
  pub some : 1 ≤ length asked
  pub most : length asked ≤ most_queries

-- some words ask these
abbrev pub IsAsked : List Question → Type 0
IsAsked asked = (words : List (List ℕ)) × SpellsAsk asked words

-- where they are refused
abbrev pub IsAskRefusedAt : List (List ℕ) → ℕ → Type 0
IsAskRefusedAt words n = AreRefusedAt SpellsAsk words n
