-- The seats of questions, one question after another.
use Rattle.std.proofs.Common.{◌≡◌, ℕ, zero, suc, ◌+◌, ◌<◌, ◌≤◌, List, [], ◌∷◌, ◌++◌, length, map, drop, get_or, Option, Some, None, refl, sym, ap, subst, ◌∙◌, append_assoc, append-nil, arith}
use Rattle.std.specs.List.{AllZip}
use Rattle.std.proofs.lemmas.List.{drop_all, drop_more, map_push}
use Rattle.std.specs.Prelude.{IsTrue, Ok}
use Rattle.sip_questions.specs.Sittings.{ask_at}
use Rattle.sip_questions.specs.declared.question.Question.{Question}
use Rattle.sip_questions.specs.declared.seat.QuestionSeat.{QuestionSeat}
use Rattle.sip_sketch.specs.Sketches.{SketchValues}
use Rattle.sip_ask.specs.Choosing.{choice, fits}
use Rattle.sip_ask.specs.Turns.{block_at}
use Rattle.sip_ask.specs.inside.Seating.{IsTested, Serves, Takes}
use Rattle.sip_ask.specs.inside.Steps.{asks_at}
use Rattle.sip_ask.proofs.Chosen.{chosen-is}

-- two lists side by side
zip-length : {A B : Type 0} (R : A → B → Type 0) (xs : List A) (ys : List B) → AllZip R xs ys → length xs ≡ length ys
zip-length R [] [] all = refl
zip-length R [] (y ∷ ys) all = absurd all
zip-length R (x ∷ xs) [] all = absurd all
zip-length R (x ∷ xs) (y ∷ ys) all = let rest = zip-length R xs ys all.1 in omega (arith, rest)

zip-at : {A B : Type 0} (R : A → B → Type 0) (xs : List A) (ys : List B) (i : ℕ) (d : A) (e : B) → AllZip R xs ys → i < length xs → R (get_or xs i d) (get_or ys i e)
zip-at R [] ys i d e all lt = absurd (omega (arith, lt))
zip-at R (x ∷ xs) [] i d e all lt = absurd all
zip-at R (x ∷ xs) (y ∷ ys) zero d e all lt = all.0
zip-at R (x ∷ xs) (y ∷ ys) (suc i) d e all lt = zip-at R xs ys i d e all.1 (omega (arith, lt))

module _ (s : SketchValues) (asked : List Question) (places items : List (Option ℕ)) (chosen : choice s asked ≡ Ok places) (same : items ≡ places)
    (i : ℕ) (lt : i < length items) where
  pub in-asked : i < length asked
  in-asked = omega (arith, zip-length (Takes s) asked places (chosen-is s asked places chosen).take, lt, ap length same)

  pub place-serves : (d : Question) (e : Option ℕ) (place : ℕ) → get_or items i e ≡ Some place → Serves s (get_or asked i d) place
  place-serves d e place is =
      let own : get_or places i e ≡ Some place = subst (λ (l : List (Option ℕ)). get_or l i e ≡ Some place) same is in
      (subst (Takes s (get_or asked i d)) own (zip-at (Takes s) asked places i d e (chosen-is s asked places chosen).take in-asked)).0

  pub place-fits : (d : Question) → IsTrue (fits s.depth (get_or asked i d))
  place-fits d = (chosen-is s asked places chosen).fit i d in-asked

  pub place-tested : (d : Question) → IsTested s.tally (get_or asked i d)
  place-tested d = (chosen-is s asked places chosen).tested i d in-asked

  in-places : i < length places
  in-places = subst (λ (l : List (Option ℕ)). i < length l) same lt

  pub asked-more : (d : Question) (e : Option ℕ) (place : ℕ) (seats now : List QuestionSeat) (seat : QuestionSeat) → get_or items i e ≡ Some place → now ≡ seats ++ seat ∷ []
      → ask_at seat ≡ (get_or asked i d, block_at place s.seats) → map ask_at seats ++ asks_at s (drop i asked) (drop i places) ≡ asks_at s asked places
      → map ask_at now ++ asks_at s (drop (i + 1) asked) (drop (i + 1) places) ≡ asks_at s asked places
  asked-more d e place seats now seat is pushed asks so =
      let own : get_or places i e ≡ Some place = subst (λ (l : List (Option ℕ)). get_or l i e ≡ Some place) same is in
      let first : drop i asked ≡ get_or asked i d ∷ drop (i + 1) asked = drop_more asked i d in-asked in
      let taken : drop i places ≡ Some place ∷ drop (i + 1) places = drop_more places i e in-places ∙ ap (λ (o : Option ℕ). o ∷ drop (i + 1) places) own in
      let rest = asks_at s (drop (i + 1) asked) (drop (i + 1) places) in
      let step : asks_at s (drop i asked) (drop i places) ≡ ask_at seat ∷ rest = rw (first, taken, asks) refl in
      ap (λ (l : List QuestionSeat). map ask_at l ++ rest) pushed ∙ ap (λ (l : List (Question × List ℕ)). l ++ rest) (map_push ask_at seats seat)
      ∙ append_assoc (map ask_at seats) (ask_at seat ∷ []) rest ∙ ap (λ (l : List (Question × List ℕ)). map ask_at seats ++ l) (sym step) ∙ so

  pub asked-same : (d : Question) (e : Option ℕ) (seats : List QuestionSeat) → get_or items i e ≡ None
      → map ask_at seats ++ asks_at s (drop i asked) (drop i places) ≡ asks_at s asked places
      → map ask_at seats ++ asks_at s (drop (i + 1) asked) (drop (i + 1) places) ≡ asks_at s asked places
  asked-same d e seats none so =
      let own : get_or places i e ≡ None = subst (λ (l : List (Option ℕ)). get_or l i e ≡ None) same none in
      let first : drop i asked ≡ get_or asked i d ∷ drop (i + 1) asked = drop_more asked i d in-asked in
      let taken : drop i places ≡ None ∷ drop (i + 1) places = drop_more places i e in-places ∙ ap (λ (o : Option ℕ). o ∷ drop (i + 1) places) own in
      let step : asks_at s (drop i asked) (drop i places) ≡ asks_at s (drop (i + 1) asked) (drop (i + 1) places) = rw (first, taken) refl in
      ap (λ (l : List (Question × List ℕ)). map ask_at seats ++ l) (sym step) ∙ so

-- all were asked
pub asked-whole : (s : SketchValues) (asked : List Question) (places items : List (Option ℕ)) (seats : List QuestionSeat) (i : ℕ) → items ≡ places → length items ≤ i
    → map ask_at seats ++ asks_at s (drop i asked) (drop i places) ≡ asks_at s asked places → map ask_at seats ≡ asks_at s asked places
asked-whole s asked places items seats i same all so =
    let none : drop i places ≡ [] = drop_all i places (omega (arith, all, ap length same)) in
    let nothing : asks_at s (drop i asked) (drop i places) ≡ [] = ap (asks_at s (drop i asked)) none ∙ nothing-asked (drop i asked) in
    sym (append-nil (map ask_at seats)) ∙ ap (λ (l : List (Question × List ℕ)). map ask_at seats ++ l) (sym nothing) ∙ so
  where
    nothing-asked : (qs : List Question) → asks_at s qs [] ≡ []
    nothing-asked [] = refl
    nothing-asked (q ∷ qs) = refl
