-- The turns of all questions, one after another.
use Rattle.std.proofs.Common.{◌≡◌, ℕ, zero, suc, ◌+◌, ◌<◌, ◌≤◌, Option, List, [], ◌∷◌, ◌++◌, length, drop, get_or, sym, ap, subst, ◌∙◌, append_assoc, append-nil, arith}
use Rattle.std.specs.List.{AllZip}
use Rattle.std.proofs.lemmas.List.{drop_all, drop_more}
use Rattle.sip_questions.specs.declared.question.Question.{Question}
use Rattle.sip_sketch.specs.Sketches.{SketchValues}
use Rattle.sip_ask.specs.inside.Seating.{Takes}
use Rattle.sip_ask_steps.specs.Plans.{Plan}
use Rattle.sip_ask_steps.specs.Steps.{AreTurns, IsTurn}
use Rattle.sip_ask_steps.specs.declared.turn.Turn.{Turn}

-- what each question takes
pub takes_at : (s : SketchValues) (asked : List Question) (places : List (Option ℕ)) (i : ℕ) (q : Question) (e : Option ℕ) → AllZip (Takes s) asked places → i < length asked
    → Takes s (get_or asked i q) (get_or places i e)
takes_at s [] places i q e takes lt = absurd (omega (arith, lt))
takes_at s (x ∷ asked) [] i q e takes lt = absurd takes
takes_at s (x ∷ asked) (y ∷ places) zero q e takes lt = takes.0
takes_at s (x ∷ asked) (y ∷ places) (suc i) q e takes lt = takes_at s asked places i q e takes.1 (omega (arith, lt))

module _ (p : Plan) (asked : List Question) (places : List (Option ℕ)) where
  -- those of the questions that are left make all of them whole
  abbrev pub Whole : ℕ → List Turn → Type 0
  Whole i turns = (rest : List Turn) → AreTurns p (drop i asked) (drop i places) rest → AreTurns p asked places (turns ++ rest)

  pub whole_more : (i : ℕ) (d : Question) (e : Option ℕ) (turns now : List Turn) (turn : Turn) → i < length asked → i < length places → now ≡ turns ++ turn ∷ []
      → IsTurn p (get_or asked i d) (get_or places i e) turn → Whole i turns → Whole (i + 1) now
  whole_more i d e turns now turn la lp pushed is so rest are =
      let first : drop i asked ≡ get_or asked i d ∷ drop (i + 1) asked = drop_more asked i d la in
      let second : drop i places ≡ get_or places i e ∷ drop (i + 1) places = drop_more places i e lp in
      let step : AreTurns p (drop i asked) (drop i places) (turn ∷ rest) = rw (first, second) (is, are) in
      subst (AreTurns p asked places) (sym (ap (λ (l : List Turn). l ++ rest) pushed ∙ append_assoc turns (turn ∷ []) rest)) (so (turn ∷ rest) step)

  pub whole_all : (i : ℕ) (turns : List Turn) → length asked ≤ i → length places ≤ i → Whole i turns → AreTurns p asked places turns
  whole_all i turns la lp so =
      subst (AreTurns p asked places) (append-nil turns) (so [] (rw (drop_all i asked la, drop_all i places lp) tt))
