-- The queries among questions, one question after another.
use Rattle.std.proofs.Common.{◌≡◌, ℕ, zero, suc, ◌+◌, ◌<◌, ◌≤◌, List, [], ◌∷◌, ◌++◌, append_assoc, drop, get_or, length, take, take-append-drop, refl, sym, ap, ◌∙◌, arith}
use Rattle.std.proofs.lemmas.List.{take_more}
use Rattle.sip_questions.specs.declared.question.Question.{Question}
use Rattle.sip_questions.specs.declared.question.Question.TheVariants as questions
use Rattle.sip_questions.specs.Questions.{queries_among}
use Rattle.sip_above.specs.Questions.{query_of}

-- they are no more than the questions
pub among_few : (asked : List Question) → length (queries_among asked) ≤ length asked
among_few [] = omega arith
among_few (questions.Query q ∷ more) = omega (arith, among_few more)
among_few (questions.Lookup l ∷ more) = omega (arith, among_few more)
among_few (questions.Moment m ∷ more) = omega (arith, among_few more)
among_few (questions.Large l ∷ more) = omega (arith, among_few more)

among_next : (asked : List Question) (i : ℕ) (d : Question) → i < length asked → queries_among (take (suc i) asked) ≡ queries_among (take i asked) ++ queries_among (get_or asked i d ∷ [])
among_next [] i d lt = absurd (omega (arith, lt))
among_next (q ∷ more) zero d lt = refl
among_next (questions.Query q ∷ more) (suc i) d lt = ap (λ l. q ∷ l) (among_next more i d (omega (arith, lt)))
among_next (questions.Lookup l ∷ more) (suc i) d lt = among_next more i d (omega (arith, lt))
among_next (questions.Moment m ∷ more) (suc i) d lt = among_next more i d (omega (arith, lt))
among_next (questions.Large l ∷ more) (suc i) d lt = ap (λ qs. query_of l ∷ qs) (among_next more i d (omega (arith, lt)))

-- one more question
pub among_more : (asked : List Question) (i : ℕ) (d : Question) → i < length asked → queries_among (take (i + 1) asked) ≡ queries_among (take i asked) ++ queries_among (get_or asked i d ∷ [])
among_more asked i d lt = let next : i + 1 ≡ suc i = omega arith in rw next (among_next asked i d lt)

-- one element of a list, those before it and those behind
pub split_one : {X : Type 0} (xs : List X) (i : ℕ) (d : X) → i < length xs → xs ≡ take i xs ++ get_or xs i d ∷ drop (i + 1) xs
split_one xs i d lt =
    sym (take-append-drop (i + 1) xs) ∙ ap (λ l. l ++ drop (i + 1) xs) (take_more xs i d lt) ∙ append_assoc (take i xs) (get_or xs i d ∷ []) (drop (i + 1) xs)
