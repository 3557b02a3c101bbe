-- The words of `ask`: how far they were read, and where they are refused.
use Rattle.std.proofs.Common.{◌≡◌, ◌≢◌, ℕ, zero, suc, ◌+◌, ◌-◌, ◌<◌, ◌≤◌, List, [], ◌∷◌, ◌++◌, length, take, drop, sym, refl, ap, subst, ◌∙◌, inl, inr, arith}
use Rattle.std.specs.Prelude.{codes, Result, Ok, Err, IfErr, IfOk}
use Rattle.std.proofs.Math.Seq.{take-append-add}
use Rattle.std.proofs.lemmas.Bool.{cases_lt}
use Rattle.std.proofs.lemmas.List.{append-nil, length-append, length-drop, take_all, take-append-drop}
use Rattle.sip_vector.specs.declared.query.Query.TheVariants.{Inner}
use Rattle.sip_wire.specs.Table.{most_queries}
use Rattle.sip_words.specs.Words.{word}
use Rattle.sip_questions.specs.declared.question.Question.{Question}
use Rattle.sip_questions.specs.declared.question.Question.TheVariants as questions
use Rattle.sip_keeping.specs.AskWords.{AreQuestions, IsAskRefusedAt, IsQuestionWord, SpellsAsk, ask_word}
use Rattle.sip_keeping.specs.inside.AskSoFar.{AreQuestionsTo, StopsInQuestions}
use Rattle.sip_keeping.specs.inside.SoFar.{AreNamesTo}
use Rattle.sip_keeping.proofs.Refused.{refused}
use Rattle.sip_keeping.proofs.SoFar.{taken}
use Rattle.sip_keeping.proofs.Verbs.{front_1, front_2, front_3, front_4}

-- what holds of an answer, where it follows from something else that does
pub mapped_err : {T E : Type 0} (r : Result T E) (P Q : E → Type 0) → IfErr r P → ((e : E) → P e → Q e) → IfErr r Q
mapped_err (Ok x) P Q holds to = tt
mapped_err (Err e) P Q holds to = to e holds

pub mapped_ok : {T E : Type 0} (r : Result T E) (P Q : T → Type 0) → IfOk r P → ((x : T) → P x → Q x) → IfOk r Q
mapped_ok (Ok x) P Q holds to = to x holds
mapped_ok (Err e) P Q holds to = tt

-- ---- what words ask

-- one question more
questions_more : (words : List (List ℕ)) (asked : List Question) (word : List ℕ) (question : Question) → AreQuestions words asked → IsQuestionWord question word → AreQuestions (words ++ word ∷ []) (asked ++ question ∷ [])
questions_more [] asked word question are is = (question, [], is, rw are refl, refl)
questions_more (w ∷ words) asked word question (q, more, first, order, rest) is =
    (q, more ++ question ∷ [], first, rw order refl, questions_more words more word question rest is)

-- of words that ask, one behind others asks a question, and they are more than those before it
asked_behind : (words rest : List (List ℕ)) (word : List ℕ) (asked : List Question) → AreQuestions (words ++ word ∷ rest) asked → (question : Question) × IsQuestionWord question word × (length words < length asked)
asked_behind [] rest word asked (q, more, first, order, behind) = (q, first, let long = ap length order in omega arith)
asked_behind (w ∷ words) rest word asked (q, more, first, order, behind) =
    let inside = asked_behind words rest word more behind in
    (inside.0, inside.1, let long = ap length order in let less = inside.2 in omega arith)

-- there are as many words as questions
as_many : (words : List (List ℕ)) (asked : List Question) → AreQuestions words asked → length words ≡ length asked
as_many [] asked are = rw are refl
as_many (w ∷ words) asked (q, more, first, order, behind) = let long = ap length order in let rest = as_many words more behind in omega arith

-- ---- how far they were read

pub questions_to_more : (words : List (List ℕ)) (first n : ℕ) (asked all : List Question) (question : Question) → AreQuestionsTo words first n asked → n < length words → IsQuestionWord question (word words n) → all ≡ asked ++ question ∷ [] → AreQuestionsTo words first (n + 1) all
questions_to_more words first n asked all question are more is grown =
    let long = ap length grown ∙ length-append asked (question ∷ []) in
    let count = are.count in
    let least = are.least in
    record {
      least = omega arith;
      within = omega arith;
      are = subst (λ ws. AreQuestions ws all) (sym (taken words first n are.least more)) (subst (AreQuestions (take (n - first) (drop first words) ++ word words n ∷ [])) (sym grown) (questions_more (take (n - first) (drop first words)) asked (word words n) question are.are is));
      count = omega arith;
    }

-- where all words were read
pub questions_all : (words : List (List ℕ)) (first n : ℕ) (asked : List Question) → AreQuestionsTo words first n asked → length words ≤ n → AreQuestions (drop first words) asked
questions_all words first n asked are least =
    let rest = length-drop first words in
    subst (λ ws. AreQuestions ws asked) (take_all (n - first) (drop first words) (omega arith)) are.are

-- where 16 were read, and there is another word
pub stops_behind : (words : List (List ℕ)) (first n : ℕ) (asked : List Question) → AreQuestionsTo words first n asked → first + most_queries ≡ n → n < length words → StopsInQuestions words first n
stops_behind words first n asked are full more =
    let count = are.count in
    record {
      asked = asked;
      before = are;
      most = omega arith;
      here = λ _ less question is. absurd (omega arith);
      missing = λ least. absurd (omega arith);
    }

-- ---- a command

-- one question
inner : IsQuestionWord (questions.Query Inner) (codes "inner")
inner = (refl, tt, refl)

-- the words of a command are five at least
pub long_ask : (asked : List Question) (words : List (List ℕ)) → SpellsAsk asked words → 5 ≤ length words
long_ask asked words s =
    let many = as_many s.questions asked s.are in
    let long = ap length s.order in
    let some = s.some in
    omega arith

-- names and questions are one
spelled : (sketch from to : List ℕ) (words : List (List ℕ)) (asked : List Question) → sketch ≢ [] → from ≢ [] → to ≢ [] → AreQuestions words asked → 1 ≤ length asked → length asked ≤ most_queries → SpellsAsk asked (ask_word ∷ sketch ∷ from ∷ to ∷ words)
spelled sketch from to words asked named heard sent are some most = record {
  sketch = sketch;
  from = from;
  to = to;
  questions = words;
  order = refl;
  has_sketch = named;
  has_from = heard;
  has_to = sent;
  are = are;
  some = some;
  most = most;
}

-- a name, and one question
abbrev name : List ℕ
name = codes "s"

named : name ≢ []
named e = cc

one_question : AreQuestions (codes "inner" ∷ []) (questions.Query Inner ∷ [])
one_question = (questions.Query Inner, [], inner, refl, refl)

asks_inner : (sketch from to : List ℕ) → sketch ≢ [] → from ≢ [] → to ≢ [] → SpellsAsk (questions.Query Inner ∷ []) (ask_word ∷ sketch ∷ from ∷ to ∷ codes "inner" ∷ [])
asks_inner sketch from to h i j = spelled sketch from to (codes "inner" ∷ []) (questions.Query Inner ∷ []) h i j one_question (omega arith) (omega arith)

-- ---- where words are refused

-- word 0 is none of a command
pub refused_first : (words : List (List ℕ)) → (0 < length words → word words 0 ≡ ask_word → ⊥) → IsAskRefusedAt words 0
refused_first words none =
    refused SpellsAsk words [] (ask_word ∷ name ∷ name ∷ name ∷ codes "inner" ∷ []) 0 (questions.Query Inner ∷ []) (omega arith) refl
    (asks_inner name name name named named named)
    (λ more c rest s. none more (ap (λ ws. word ws 0) s.order))
    (λ least c s. let long = long_ask c [] s in omega arith)

-- one of the names is missing or empty
pub refused_name : (words : List (List ℕ)) (n : ℕ) → word words 0 ≡ ask_word → 1 ≤ n → n < 4 → AreNamesTo words 1 n → (n < length words → word words n ≢ [] → ⊥) → IsAskRefusedAt words n
refused_name words zero first least few are none = absurd (omega arith)
refused_name words (suc zero) first least few are none =
    let within = are.within in
    refused SpellsAsk words (ask_word ∷ []) (name ∷ name ∷ name ∷ codes "inner" ∷ []) 1 (questions.Query Inner ∷ []) are.within
    (front_1 words (omega arith) ∙ ap (λ v. v ∷ []) first)
    (asks_inner name name name named named named)
    (λ more c rest s. none more (λ empty. s.has_sketch (sym (ap (λ ws. word ws 1) s.order) ∙ empty)))
    (λ least c s. let long = long_ask c _ s in omega arith)
refused_name words (suc (suc zero)) first least few are none =
    let within = are.within in
    refused SpellsAsk words (ask_word ∷ word words 1 ∷ []) (name ∷ name ∷ codes "inner" ∷ []) 2 (questions.Query Inner ∷ []) are.within
    (front_2 words (omega arith) ∙ ap (λ v. v ∷ word words 1 ∷ []) first)
    (asks_inner (word words 1) name name (are.named 1 (omega arith) (omega arith)) named named)
    (λ more c rest s. none more (λ empty. s.has_from (sym (ap (λ ws. word ws 2) s.order) ∙ empty)))
    (λ least c s. let long = long_ask c _ s in omega arith)
refused_name words (suc (suc (suc zero))) first least few are none =
    let within = are.within in
    refused SpellsAsk words (ask_word ∷ word words 1 ∷ word words 2 ∷ []) (name ∷ codes "inner" ∷ []) 3 (questions.Query Inner ∷ []) are.within
    (front_3 words (omega arith) ∙ ap (λ v. v ∷ word words 1 ∷ word words 2 ∷ []) first)
    (asks_inner (word words 1) (word words 2) name (are.named 1 (omega arith) (omega arith)) (are.named 2 (omega arith) (omega arith)) named)
    (λ more c rest s. none more (λ empty. s.has_to (sym (ap (λ ws. word ws 3) s.order) ∙ empty)))
    (λ least c s. let long = long_ask c _ s in omega arith)
refused_name words (suc (suc (suc (suc n)))) first least few are none = absurd (omega arith)

-- the words are the first four, and others
whole : (words : List (List ℕ)) → word words 0 ≡ ask_word → 4 ≤ length words → words ≡ ask_word ∷ word words 1 ∷ word words 2 ∷ word words 3 ∷ drop 4 words
whole words first long =
    sym (take-append-drop 4 words) ∙ (ap (λ front. front ++ drop 4 words) (front_4 words long) ∙ ap (λ v. v ∷ word words 1 ∷ word words 2 ∷ word words 3 ∷ drop 4 words) first)

-- those that ask, so far
abbrev asking_to : List (List ℕ) → ℕ → List (List ℕ)
asking_to words n = take (n - 4) (drop 4 words)

fronted : (words : List (List ℕ)) (n : ℕ) → word words 0 ≡ ask_word → 4 ≤ length words → 4 ≤ n → take n words ≡ ask_word ∷ word words 1 ∷ word words 2 ∷ word words 3 ∷ asking_to words n
fronted words n first long least =
    let sum : n ≡ 4 + (n - 4) = omega arith in
    ap (take n) (whole words first long) ∙ (ap (λ k. take k (ask_word ∷ word words 1 ∷ word words 2 ∷ word words 3 ∷ drop 4 words)) sum ∙ take-append-add (ask_word ∷ word words 1 ∷ word words 2 ∷ word words 3 ∷ []) (drop 4 words) (n - 4))

-- all of them ask
pub all_asked : (words : List (List ℕ)) (asked : List Question) → word words 0 ≡ ask_word → AreNamesTo words 1 4 → AreQuestions (drop 4 words) asked → 1 ≤ length asked → length asked ≤ most_queries → SpellsAsk asked words
all_asked words asked first names are some most =
    subst (SpellsAsk asked) (sym (whole words first names.within))
    (spelled (word words 1) (word words 2) (word words 3) (drop 4 words) asked (names.named 1 (omega arith) (omega arith)) (names.named 2 (omega arith) (omega arith)) (names.named 3 (omega arith) (omega arith)) are some most)

-- a word behind them asks nothing, or is one too many
none_behind : (words rest : List (List ℕ)) (n : ℕ) (c : List Question) → (stops : StopsInQuestions words 4 n) → n < length words → SpellsAsk c (ask_word ∷ word words 1 ∷ word words 2 ∷ word words 3 ∷ asking_to words n ++ word words n ∷ rest) → ⊥
none_behind words rest n c stops more s =
    let same : asking_to words n ++ word words n ∷ rest ≡ s.questions = ap (drop 4) s.order in
    let asks = asked_behind (asking_to words n) rest (word words n) c (subst (λ ws. AreQuestions ws c) (sym same) s.are) in
    let many = as_many (asking_to words n) stops.asked stops.before.are in
    let count = stops.before.count in
    let longer = asks.2 in
    let most = s.most in
    elim (cases_lt n (4 + most_queries)) [
      | inl less ↦ stops.here more less asks.0 asks.1
      | inr full ↦ omega arith
    ]

pub refused_question : (words : List (List ℕ)) (n : ℕ) → word words 0 ≡ ask_word → AreNamesTo words 1 4 → StopsInQuestions words 4 n → IsAskRefusedAt words n
refused_question words n first names stops =
    let count = stops.before.count in
    let least = stops.before.least in
    let within = stops.before.within in
    let is = fronted words n first names.within least in
    elim (cases_lt 4 n) [
      | inl some ↦ refused SpellsAsk words (ask_word ∷ word words 1 ∷ word words 2 ∷ word words 3 ∷ asking_to words n) [] n stops.asked within is
          (subst (SpellsAsk stops.asked) (sym (append-nil _))
          (spelled (word words 1) (word words 2) (word words 3) (asking_to words n) stops.asked (names.named 1 (omega arith) (omega arith)) (names.named 2 (omega arith) (omega arith)) (names.named 3 (omega arith) (omega arith)) stops.before.are (omega arith) stops.most))
          (λ more c rest s. none_behind words rest n c stops more s)
          (λ few c s. let four = stops.missing few in omega arith)
      | inr few ↦
          let four : n ≡ 4 = omega arith in
          let none : asking_to words n ≡ [] = rw four refl in
          refused SpellsAsk words (ask_word ∷ word words 1 ∷ word words 2 ∷ word words 3 ∷ []) (codes "inner" ∷ []) n (questions.Query Inner ∷ []) within
          (is ∙ ap (λ ws. ask_word ∷ word words 1 ∷ word words 2 ∷ word words 3 ∷ ws) none)
          (asks_inner (word words 1) (word words 2) (word words 3) (names.named 1 (omega arith) (omega arith)) (names.named 2 (omega arith) (omega arith)) (names.named 3 (omega arith) (omega arith)))
          (λ more c rest s. none_behind words rest n c stops more (subst (λ ws. SpellsAsk c (ask_word ∷ word words 1 ∷ word words 2 ∷ word words 3 ∷ ws ++ word words n ∷ rest)) (sym none) s))
          (λ missing c s. let long = long_ask c _ s in omega arith)
    ]
