-- What may come next, one update at a time.
use Rattle.std.proofs.Common.{◌≡◌, ◌≢◌, ℕ, ◌+◌, ◌^◌, ◌<◌, ◌≤◌, pos, List, [], ◌∷◌, ◌++◌, length, All, get_or, take, drop, sym, ap, subst, ◌∙◌, arith}
use Rattle.std.proofs.lemmas.List.{take-append-drop}
use Rattle.std.proofs.lemmas.List.Elements.{All-nil, All-push}
use Rattle.sip_vector.specs.Streams.{most_weight, weight}
use Rattle.sip_vector.specs.declared.update.Side.{Side}
use Rattle.sip_vector.specs.declared.update.Side.TheVariants.{First, Second}
use Rattle.sip_vector.specs.declared.update.Update.{Update}
use Rattle.sip_vector.proofs.Joined.{more}
use Rattle.sip_vector.proofs.Sides.{weight-append}
use Rattle.sip_sketch.specs.Sketches.{SketchValues}
use Rattle.sip_sketch.specs.Standing.{MayCome}
use Rattle.sip_sketch.specs.inside.Raising.{IsNext}

pub weight-more : (us : List Update) (k : ℕ) (d : Update) (side : Side) → k < length us → weight (take (k + 1) us) side ≡ weight (take k us) side + weight (get_or us k d ∷ []) side
weight-more us k d side lt = ap (λ l. weight l side) (more us k d lt) ∙ weight-append (take k us) (get_or us k d ∷ []) side

pub come-none : (s : SketchValues) → s.tally.first ≤ most_weight → s.tally.second ≤ most_weight → MayCome s []
come-none s one other = record { items = All-nil _; deltas = All-nil _; first = omega (arith, one); second = omega (arith, other) }

pub come-more : (s : SketchValues) (us : List Update) (k : ℕ) (d : Update) (first second : ℕ) → k < length us → first ≡ s.tally.first + weight (take k us) First → second ≡ s.tally.second + weight (take k us) Second
    → MayCome s (take k us) → IsNext s.depth first second (get_or us k d) → MayCome s (take (k + 1) us)
come-more s us k d first second lt one other come next = record {
  items = subst (All (λ (u : Update). u.item < 2 ^ s.depth)) (sym (more us k d lt)) (All-push (λ (u : Update). u.item < 2 ^ s.depth) (take k us) (get_or us k d) come.items next.item);
  deltas = subst (All (λ (u : Update). u.delta ≢ pos 0)) (sym (more us k d lt)) (All-push (λ (u : Update). u.delta ≢ pos 0) (take k us) (get_or us k d) come.deltas next.delta);
  first = omega (arith, one, weight-more us k d First lt, next.first_side);
  second = omega (arith, other, weight-more us k d Second lt, next.second_side);
}

weight-front : (us : List Update) (k : ℕ) (side : Side) → weight (take k us) side ≤ weight us side
weight-front us k side =
    let all : weight (take k us ++ drop k us) side ≡ weight us side = ap (λ l. weight l side) (take-append-drop k us) in
    omega (arith, all, weight-append (take k us) (drop k us) side)

-- the next one of those that may come may come
pub come-front : (s : SketchValues) (us : List Update) (k : ℕ) (d : Update) (first second : ℕ) → k < length us → first ≡ s.tally.first + weight (take k us) First → second ≡ s.tally.second + weight (take k us) Second
    → MayCome s us → IsNext s.depth first second (get_or us k d)
come-front s us k d first second lt one other come = record {
  item = come.items k d lt;
  delta = come.deltas k d lt;
  first_side = omega (arith, one, weight-more us k d First lt, weight-front us (k + 1) First, come.first);
  second_side = omega (arith, other, weight-more us k d Second lt, weight-front us (k + 1) Second, come.second);
}

-- the same at a depth that is the sketch's
pub next-is : (s : SketchValues) (us : List Update) (k depth first second : ℕ) (d : Update) → depth ≡ s.depth → k < length us → first ≡ s.tally.first + weight (take k us) First → second ≡ s.tally.second + weight (take k us) Second
    → MayCome s us → IsNext depth first second (get_or us k d)
next-is s us k depth first second d same lt one other come =
    subst (λ n. IsNext n first second (get_or us k d)) (sym same) (come-front s us k d first second lt one other come)

pub next-comes : (s : SketchValues) (us : List Update) (k depth first second : ℕ) (d : Update) → depth ≡ s.depth → k < length us → first ≡ s.tally.first + weight (take k us) First → second ≡ s.tally.second + weight (take k us) Second
    → MayCome s (take k us) → IsNext depth first second (get_or us k d) → MayCome s (take (k + 1) us)
next-comes s us k depth first second d same lt one other come next =
    come-more s us k d first second lt one other come (subst (λ n. IsNext n first second (get_or us k d)) same next)

pub weight-on : (us : List Update) (k t first a : ℕ) (side : Side) (d : Update) → k < length us → first ≡ t + weight (take k us) side → a ≡ weight (get_or us k d ∷ []) side
    → first + a ≡ t + weight (take (k + 1) us) side
weight-on us k t first a side d lt one is = omega (arith, one, is, weight-more us k d side lt)
