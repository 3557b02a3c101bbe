-- The queries among questions, one question after another.
use Rattle.std.proofs.Common.{◌≡◌, ℕ, ◌+◌, ◌<◌, List, [], ◌∷◌, ◌++◌, length, drop, get_or, refl, sym, ap, ◌∙◌, append_assoc}
use Rattle.std.proofs.lemmas.List.{drop_more}
use Rattle.sip_vector.specs.declared.query.Query.{Query}
use Rattle.sip_above.specs.declared.large.Large.{Large}
use Rattle.sip_above.specs.Questions.{query_of}
use Rattle.sip_questions.specs.Questions.{queries_among}
use Rattle.sip_questions.specs.declared.question.Question.{Question}
use Rattle.sip_questions.specs.declared.question.Question.TheVariants as questions

-- one more of them
pub among-query : (asked : List Question) (i : ℕ) (d : Question) (q : Query) (old now : List Query) → i < length asked → get_or asked i d ≡ questions.Query q
    → now ≡ old ++ q ∷ [] → old ++ queries_among (drop i asked) ≡ queries_among asked → now ++ queries_among (drop (i + 1) asked) ≡ queries_among asked
among-query asked i d q old now lt is pushed so =
    let rest = queries_among (drop (i + 1) asked) in
    let next : queries_among (drop i asked) ≡ q ∷ rest =
    ap queries_among (drop_more asked i d lt) ∙ ap (λ (x : Question). queries_among (x ∷ drop (i + 1) asked)) is in
    ap (λ (l : List Query). l ++ rest) pushed ∙ append_assoc old (q ∷ []) rest ∙ ap (λ (l : List Query). old ++ l) (sym next) ∙ so

-- one for large entries more
pub among-large : (asked : List Question) (i : ℕ) (d : Question) (l : Large) (old now : List Query) → i < length asked → get_or asked i d ≡ questions.Large l
    → now ≡ old ++ query_of l ∷ [] → old ++ queries_among (drop i asked) ≡ queries_among asked → now ++ queries_among (drop (i + 1) asked) ≡ queries_among asked
among-large asked i d l old now lt is pushed so =
    let rest = queries_among (drop (i + 1) asked) in
    let next : queries_among (drop i asked) ≡ query_of l ∷ rest =
    ap queries_among (drop_more asked i d lt) ∙ ap (λ (x : Question). queries_among (x ∷ drop (i + 1) asked)) is in
    ap (λ (qs : List Query). qs ++ rest) pushed ∙ append_assoc old (query_of l ∷ []) rest ∙ ap (λ (qs : List Query). old ++ qs) (sym next) ∙ so

none-among : (x : Question) (more : List Question) → ((q : Query) → x ≡ questions.Query q → ⊥) → ((l : Large) → x ≡ questions.Large l → ⊥) → queries_among (x ∷ more) ≡ queries_among more
none-among (questions.Query q) more other wide = absurd (other q refl)
none-among (questions.Large l) more other wide = absurd (wide l refl)
none-among (questions.Lookup lookup) more other wide = refl
none-among (questions.Moment moment) more other wide = refl

-- another question is none
pub among-other : (asked : List Question) (i : ℕ) (d : Question) (old : List Query) → i < length asked → ((q : Query) → get_or asked i d ≡ questions.Query q → ⊥)
    → ((l : Large) → get_or asked i d ≡ questions.Large l → ⊥) → old ++ queries_among (drop i asked) ≡ queries_among asked → old ++ queries_among (drop (i + 1) asked) ≡ queries_among asked
among-other asked i d old lt other wide so =
    let next : queries_among (drop i asked) ≡ queries_among (drop (i + 1) asked) =
    ap queries_among (drop_more asked i d lt) ∙ none-among (get_or asked i d) (drop (i + 1) asked) other wide in
    ap (λ (l : List Query). old ++ l) (sym next) ∙ so
