-- How far the words were read that ask questions.
use Rattle.std.specs.Prelude.{◌≡◌, ℕ, ◌+◌, ◌-◌, ◌<◌, ◌≤◌, List, drop, length, take}
use Rattle.sip_wire.specs.Table.{most_queries}
use Rattle.sip_words.specs.Words.{word}
use Rattle.sip_questions.specs.declared.question.Question.{Question}
use Rattle.sip_keeping.specs.AskWords.{AreQuestions, IsQuestionWord}

-- the words from `first` up to n ask these
pub record AreQuestionsTo (words : List (List ℕ)) (first n : ℕ) (asked : List Question)
    : Type 0 where
  pub least : first ≤ n
  pub within : n ≤ length words
  pub are : AreQuestions (take (n - first) (drop first words)) asked
  pub count : n ≡ first + length asked

-- the word of this number is the first of them that asks nothing, or is one too many
pub record StopsInQuestions (words : List (List ℕ)) (first n : ℕ) : Type 0 where
  pub asked : List Question
  pub before : AreQuestionsTo words first n asked
  pub most : length asked ≤ most_queries
  pub here : n < length words → n < first + most_queries
      → (question : Question) → IsQuestionWord question (word words n) → ⊥
  pub missing : length words ≤ n → n ≡ first
