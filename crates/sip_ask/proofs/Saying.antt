-- Something is said in a turn only where each content that the file may have has its seat used.
use Rattle.std.proofs.Common.{◌≡◌, ◌⊎◌, ℕ, zero, suc, ◌-◌, ◌<◌, ◌≤◌, true, ltb, List, [], ◌∷◌, ◌++◌, length, take, flat_map, All, Some, inl, inr, refl, sym, ap, subst, ◌∙◌, append_assoc, arith}
use Rattle.std.specs.Prelude.{Contains}
use Rattle.std.specs.declared.option.Option.{Option}
use Rattle.std.proofs.lemmas.Bool.{cases_lt, cond-false, cond-true, le-ltb, lt-ltb}
use Rattle.std.proofs.lemmas.List.Elements.{All-cons, All-contains, All-nil}
use Rattle.sip_ports.specs.Desk.{IsOfLink, may_hold, steps}
use Rattle.sip_ports.specs.declared.port.TalkEvent.{TalkEvent}
use Rattle.sip_ports.proofs.DeskLemmas.{may_hold-kept}
use Rattle.sip_sketch.specs.Sketches.{IsSketch, SketchValues}
use Rattle.sip_ask.specs.Marking.{HasUsed, is_used_at, mark}
use Rattle.sip_ask.specs.Turns.{AreTurns, Turn, places_said, turn_events}
use Rattle.sip_ask.proofs.Contents.{Leaves, leaves-append, leaves-may_hold, leaves-of_link, leaves-steps, leaves-take}
use Rattle.sip_sketch.proofs.Marked.{marked-is}
use Rattle.sip_ask.proofs.Marks.{used-here, used-stays}

-- ---- lists

pub none-contained : {X : Type 0} (x : X) → Contains [] x → ⊥
none-contained x (k, lt, is) = omega (arith, lt)

pub first-or : {X : Type 0} (y : X) (ys : List X) (x : X) → Contains (y ∷ ys) x → (y ≡ x) ⊎ Contains ys x
first-or y ys x (zero, lt, is) = inl is
first-or y ys x (suc k, lt, is) = inr (k, omega (arith, lt), is)

-- a front that is longer than the first part
pub take-behind : {X : Type 0} (n : ℕ) (xs ys : List X) → length xs ≤ n → take n (xs ++ ys) ≡ xs ++ take (n - length xs) ys
take-behind n [] ys le = let same : n ≡ n - 0 = omega arith in ap (λ k. take k ys) same
take-behind zero (x ∷ xs) ys le = absurd (omega (arith, le))
take-behind (suc n) (x ∷ xs) ys le =
    let less : suc n - length (x ∷ xs) ≡ n - length xs = omega arith in
    ap (λ l. x ∷ l) (take-behind n xs ys (omega (arith, le))) ∙ ap (λ k. x ∷ (xs ++ take k ys)) (sym less)

-- ---- turns

-- something was said in the first turn where more came than its file, and else in none
pub said-some : (count : ℕ) (t : Turn) (turns : List Turn) → length (steps t.file) < count
    → places_said count (t ∷ turns) ≡ t.place ∷ places_said (count - length (turn_events t)) turns
said-some count t turns lt =
    cond-true (ltb (length (steps t.file)) count) (t.place ∷ places_said (count - length (turn_events t)) turns) [] (lt-ltb (length (steps t.file)) count lt)

pub said-none : (count : ℕ) (t : Turn) (turns : List Turn) → count ≤ length (steps t.file) → places_said count (t ∷ turns) ≡ []
said-none count t turns few =
    cond-false (ltb (length (steps t.file)) count) (t.place ∷ places_said (count - length (turn_events t)) turns) [] (le-ltb (length (steps t.file)) count few)

-- where no event came, nothing was said
pub none-said : (turns : List Turn) → places_said 0 turns ≡ []
none-said [] = refl
none-said (t ∷ turns) = said-none 0 t turns (omega arith)

-- each file of the turns has this seat used
pub turns-leave : (place : ℕ) (s : SketchValues) (turns : List Turn) → IsSketch s → is_used_at place s.seats ≡ true → AreTurns s turns
    → (beside : List ℕ) → Leaves (HasUsed place) beside (flat_map turn_events turns)
turns-leave place s [] is used are beside = tt
turns-leave place s (t ∷ turns) is used are beside =
    let P = HasUsed place in
    let marked = marked-is s t.place is in
    let stays = used-stays place t.place s used in
    let file : P (Some t.file) = record { sketch = mark t.place s; is = marked; file = ap Some are.2; used = stays } in
    let own = leaves-append P beside (steps t.file) t.said (leaves-steps P beside t.file file) (λ after. leaves-of_link P after t.said are.3) in
    leaves-append P beside (turn_events t) (flat_map turn_events turns) own
    (λ after. turns-leave place (mark t.place s) turns marked stays are.4 after)

module _ (start : Option (List ℕ)) (place : ℕ) (content : Option (List ℕ)) where
  -- in the first turn
  said-first : (talk : List TalkEvent) (s : SketchValues) (t : Turn) (turns : List Turn) (behind : List TalkEvent) (count : ℕ)
      → IsSketch s → AreTurns s (t ∷ turns) → IsOfLink behind → length (steps t.file) < count → t.place ≡ place
      → Contains (may_hold start (talk ++ take count (turn_events t ++ (flat_map turn_events turns ++ behind)))) content → HasUsed place content
  said-first talk s t turns behind count is are link lt same held =
      let P = HasUsed place in
      let marked = marked-is s t.place is in
      let stays = subst (λ (k : ℕ). is_used_at k (mark t.place s).seats ≡ true) same (used-here t.place s.seats are.0) in
      let file : P (Some t.file) = record { sketch = mark t.place s; is = marked; file = ap Some are.2; used = stays } in
      let rest = t.said ++ (flat_map turn_events turns ++ behind) in
      let more = take (count - length (steps t.file)) rest in
      let split : talk ++ take count (turn_events t ++ (flat_map turn_events turns ++ behind)) ≡ (talk ++ steps t.file) ++ more =
      ap (λ (es : List TalkEvent). talk ++ take count es) (append_assoc (steps t.file) t.said (flat_map turn_events turns ++ behind))
      ∙ ap (λ (es : List TalkEvent). talk ++ es) (take-behind count (steps t.file) rest (omega (arith, lt)))
      ∙ sym (append_assoc talk (steps t.file) more) in
      let kept : All P (may_hold start (talk ++ steps t.file)) =
      subst (All P) (sym (may_hold-kept start talk t.file)) (All-cons P (Some t.file) [] file (All-nil P)) in
      let leaves = λ (beside : List ℕ). leaves-take P (count - length (steps t.file)) beside rest
      (leaves-append P beside t.said (flat_map turn_events turns ++ behind) (leaves-of_link P beside t.said are.3)
      (λ after. leaves-append P after (flat_map turn_events turns) behind (turns-leave place (mark t.place s) turns marked stays are.4 after)
      (λ last. leaves-of_link P last behind link))) in
      All-contains P (may_hold start ((talk ++ steps t.file) ++ more)) content
      (leaves-may_hold P start (talk ++ steps t.file) more leaves kept)
      (subst (λ (es : List TalkEvent). Contains (may_hold start es) content) split held)

  -- in any of them
  pub said-used : (talk : List TalkEvent) (s : SketchValues) (turns : List Turn) (behind : List TalkEvent) (count : ℕ)
      → IsSketch s → AreTurns s turns → IsOfLink behind → Contains (places_said count turns) place
      → Contains (may_hold start (talk ++ take count (flat_map turn_events turns ++ behind))) content → HasUsed place content
  said-used talk s [] behind count is are link says held = absurd (none-contained place says)
  said-used talk s (t ∷ turns) behind count is are link says held = elim (cases_lt (length (steps t.file)) count) [
    | inr few ↦
        absurd (none-contained place (subst (λ (l : List ℕ). Contains l place) (said-none count t turns few) says))
    | inl lt ↦
        let some = subst (λ (l : List ℕ). Contains l place) (said-some count t turns lt) says in
        let flat : flat_map turn_events (t ∷ turns) ++ behind ≡ turn_events t ++ (flat_map turn_events turns ++ behind) =
        append_assoc (turn_events t) (flat_map turn_events turns) behind in
        let here = subst (λ (es : List TalkEvent). Contains (may_hold start (talk ++ take count es)) content) flat held in
        elim (first-or t.place (places_said (count - length (turn_events t)) turns) place some) [
          | inl same ↦ said-first talk s t turns behind count is are link lt same here
          | inr later ↦ elim (cases_lt count (length (turn_events t))) [
            | inl short ↦
                let zero_left : count - length (turn_events t) ≡ 0 = omega (arith, short) in
                let none = subst (λ (n : ℕ). Contains (places_said n turns) place) zero_left later in
                absurd (none-contained place (subst (λ (l : List ℕ). Contains l place) (none-said turns) none))
            | inr long ↦
                let rest = flat_map turn_events turns ++ behind in
                let split : talk ++ take count (turn_events t ++ rest) ≡ (talk ++ turn_events t) ++ take (count - length (turn_events t)) rest =
                ap (λ (es : List TalkEvent). talk ++ es) (take-behind count (turn_events t) rest long)
                ∙ sym (append_assoc talk (turn_events t) (take (count - length (turn_events t)) rest)) in
                said-used (talk ++ turn_events t) (mark t.place s) turns behind (count - length (turn_events t))
                (marked-is s t.place is) are.4 link later
                (subst (λ (es : List TalkEvent). Contains (may_hold start es) content) split here)
          ]
        ]
  ]

  -- behind what is said before the first
  pub said-used-behind : (talk opened : List TalkEvent) (s : SketchValues) (turns : List Turn) (behind : List TalkEvent) (count : ℕ)
      → IsSketch s → AreTurns s turns → IsOfLink behind → Contains (places_said (count - length opened) turns) place
      → Contains (may_hold start (talk ++ take count (opened ++ (flat_map turn_events turns ++ behind)))) content → HasUsed place content
  said-used-behind talk opened s turns behind count is are link says held = elim (cases_lt count (length opened)) [
    | inl short ↦
        let zero_left : count - length opened ≡ 0 = omega (arith, short) in
        let none = subst (λ (n : ℕ). Contains (places_said n turns) place) zero_left says in
        absurd (none-contained place (subst (λ (l : List ℕ). Contains l place) (none-said turns) none))
    | inr long ↦
        let rest = flat_map turn_events turns ++ behind in
        let split : talk ++ take count (opened ++ rest) ≡ (talk ++ opened) ++ take (count - length opened) rest =
        ap (λ (es : List TalkEvent). talk ++ es) (take-behind count opened rest long) ∙ sym (append_assoc talk opened (take (count - length opened) rest)) in
        said-used (talk ++ opened) s turns behind (count - length opened) is are link says
        (subst (λ (es : List TalkEvent). Contains (may_hold start es) content) split held)
  ]
