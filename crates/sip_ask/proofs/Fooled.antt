-- A wrong answer that was accepted on a seat of a sketch is counted.
use Rattle.std.proofs.Common.{◌≡◌, ◌≢◌, ℕ, zero, suc, ◌<◌, true, List, [], ◌∷◌, ◌++◌, length, get_or, map, take, drop, All, Option, Some, refl, sym, ap, subst, ◌∙◌, append_assoc, append-nil, arith}
use Rattle.std.specs.List.{list_any}
use Rattle.std.proofs.lemmas.Bool.{or_left, or_right}
use Rattle.std.proofs.lemmas.List.{take_at, drop_at}
use Rattle.std.proofs.lemmas.List.Elements.{All-head, All-tail}
use Rattle.sip_counts.specs.Late.{is_fooled, seat_of, seats_at, some_fooled}
use Rattle.sip_counts.specs.Strategies.{Strategy, replies, takes_wrong}
use Rattle.sip_vector.specs.declared.update.Update.{Update}
use Rattle.sip_wire.specs.declared.version.Version.{Version}
use Rattle.sip_questions.specs.Honest.{answer}
use Rattle.sip_questions.specs.Questions.{AcceptsOf, Answered, Posed}
use Rattle.sip_sketch.specs.Sketches.{IsSketch, SeatValues, SketchValues}
use Rattle.sip_ask.specs.Counting.{Asked, IsCounted, LedTo, SeatPlan, challenges_in, counted, counted_or_none, plan_of}
use Rattle.sip_ask.proofs.Counted.{question-counts}

module _ (depth : ℕ) (plan : SeatPlan) (a : Asked) (block : List ℕ) (taken : List (List ℕ))
    (wrong : (strategy : Strategy) → replies strategy block ≡ map Some taken
    → takes_wrong (counted depth a).accepts (counted depth a).is_right strategy block ≡ true) where
  -- the plan led to this use, between these challenges
  abbrev Leads : List ℕ → List ℕ → Type 0
  Leads earlier later = (plan.asked earlier later ≡ Some a) × (replies (plan.strategy earlier later) block ≡ map Some taken)

  -- so its seat is fooled
  seat-fooled : (earlier later : List ℕ) → Leads earlier later → is_fooled (seat_of (plan_of depth plan) earlier block later) ≡ true
  seat-fooled earlier later led =
      subst (λ (o : Option Asked). takes_wrong (counted_or_none depth o).accepts (counted_or_none depth o).is_right (plan.strategy earlier later) block ≡ true)
      (sym led.0) (wrong (plan.strategy earlier later) led.1)

  -- at its place among the others
  pub any-fooled : (place : ℕ) (plans : List SeatPlan) (seats : List SeatValues) (seat : SeatValues) (before earlier : List ℕ)
      → All (λ (s : SeatValues). length s.block ≡ depth) seats → place < length seats → place < length plans
      → get_or plans place plan ≡ plan → get_or seats place seat ≡ seat → block ≡ seat.block
      → before ≡ earlier ++ challenges_in (take place seats)
      → Leads before (challenges_in (drop (suc place) seats))
      → list_any is_fooled (seats_at depth (map (plan_of depth) plans) earlier (challenges_in seats)) ≡ true
  any-fooled place [] seats seat before earlier levels lt within its own same is led = absurd (omega (arith, within))
  any-fooled place (p ∷ plans) [] seat before earlier levels lt within its own same is led = absurd (omega (arith, lt))
  any-fooled zero (p ∷ plans) (x ∷ xs) seat before earlier levels lt within its own same is led =
      let level = All-head (λ (s : SeatValues). length s.block ≡ depth) x xs levels in
      let first = take_at x.block (challenges_in xs) depth level in
      let rest = drop_at x.block (challenges_in xs) depth level in
      let its_block : x.block ≡ block = ap (λ (s : SeatValues). s.block) own ∙ sym same in
      let alone : before ≡ earlier = is ∙ append-nil earlier in
      let leads : Leads earlier (challenges_in xs) = subst (λ (b : List ℕ). Leads b (challenges_in xs)) alone led in
      let fooled = seat-fooled earlier (challenges_in xs) leads in
      let at_block = subst (λ (b : List ℕ). is_fooled (seat_of (plan_of depth plan) earlier b (challenges_in xs)) ≡ true) (sym (first ∙ its_block)) fooled in
      let at_rest = subst (λ (l : List ℕ). is_fooled (seat_of (plan_of depth plan) earlier (take depth (challenges_in (x ∷ xs))) l) ≡ true) (sym rest) at_block in
      let here = subst (λ (q : SeatPlan). is_fooled (seat_of (plan_of depth q) earlier (take depth (challenges_in (x ∷ xs))) (drop depth (challenges_in (x ∷ xs)))) ≡ true) (sym its) at_rest in
      or_left (is_fooled (seat_of (plan_of depth p) earlier (take depth (challenges_in (x ∷ xs))) (drop depth (challenges_in (x ∷ xs)))))
      (list_any is_fooled (seats_at depth (map (plan_of depth) plans) (earlier ++ take depth (challenges_in (x ∷ xs))) (drop depth (challenges_in (x ∷ xs))))) here
  any-fooled (suc place) (p ∷ plans) (x ∷ xs) seat before earlier levels lt within its own same is led =
      let level = All-head (λ (s : SeatValues). length s.block ≡ depth) x xs levels in
      let first = take_at x.block (challenges_in xs) depth level in
      let rest = drop_at x.block (challenges_in xs) depth level in
      let joined : before ≡ (earlier ++ x.block) ++ challenges_in (take place xs) =
      is ∙ sym (append_assoc earlier x.block (challenges_in (take place xs))) in
      let more = any-fooled place plans xs seat before (earlier ++ x.block) (All-tail (λ (s : SeatValues). length s.block ≡ depth) x xs levels)
      (omega (arith, lt)) (omega (arith, within)) its own same joined led in
      let at_rest = subst (λ (l : List ℕ). list_any is_fooled (seats_at depth (map (plan_of depth) plans) (earlier ++ x.block) l) ≡ true) (sym rest) more in
      let there = subst (λ (b : List ℕ). list_any is_fooled (seats_at depth (map (plan_of depth) plans) (earlier ++ b) (drop depth (challenges_in (x ∷ xs)))) ≡ true) (sym first) at_rest in
      or_right (is_fooled (seat_of (plan_of depth p) earlier (take depth (challenges_in (x ∷ xs))) (drop depth (challenges_in (x ∷ xs)))))
      (list_any is_fooled (seats_at depth (map (plan_of depth) plans) (earlier ++ take depth (challenges_in (x ∷ xs))) (drop depth (challenges_in (x ∷ xs))))) there

pub wrong-counted : (s : SketchValues) (plans : List SeatPlan) (place : ℕ) (plan : SeatPlan) (seat : SeatValues) (version : Version) (stream : List Update)
    (q : Posed) (written : Answered) → IsSketch s → place < length s.seats → place < length plans
    → get_or plans place plan ≡ plan → get_or s.seats place seat ≡ seat → q.block ≡ seat.block → LedTo s.seats place plan version stream q
    → IsCounted s.depth (record { version = version; stream = stream; question = q.query })
    → AcceptsOf version s.depth stream q q.query written → written ≢ answer s.depth stream q.query
    → some_fooled s.depth (map (plan_of s.depth) plans) [] (challenges_in s.seats) ≡ true
unfolding some_fooled
wrong-counted s plans place plan seat version stream q written is lt within its own same led can accepts wrong =
    let a : Asked = record { version = version; stream = stream; question = q.query } in
    any-fooled s.depth plan a q.block q.replies
    (λ strategy talk. question-counts version s.depth stream q q.query written strategy can accepts wrong talk)
    place plans s.seats seat (challenges_in (take place s.seats)) [] is.blocks lt within its own same refl (led.asked, led.replies)
