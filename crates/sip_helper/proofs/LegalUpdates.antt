-- Updates are legal and are added one after another.
use Rattle.std.proofs.Common.{◌≡◌, ℕ, ◌+◌, ◌^◌, ◌≤◌, Bool, true, false, ◌&&◌, cond, nat_lt, nat_le, List, [], ◌∷◌, ◌++◌, Option, Some, None, refl, sym, ap, subst, ◌∙◌, inl, inr, arith}
use Rattle.std.specs.Prelude.{IsTrue}
use Rattle.std.specs.List.{fold, list_all}
use Rattle.std.proofs.lemmas.Bool.{and_from, and_parts, both_ways, leb-true, le-leb}
use Rattle.std.proofs.lemmas.List.Sums.{fold-append}
use Rattle.std.proofs.lemmas.List.Folds.{list_all-append}
use Rattle.sip_vector.specs.declared.update.Side.{Side}
use Rattle.sip_vector.specs.declared.update.Side.TheVariants.{First, Second}
use Rattle.sip_vector.specs.declared.update.Update.{Update}
use Rattle.sip_vector.specs.Streams.{same_side, of_side, weight, most_weight}
use Rattle.sip_vector.specs.Vectors.{SideVector, with_added, with_update}
use Rattle.std.proofs.lemmas.Bool.{cases_Bool}
use Rattle.sip_vector.proofs.Sides.{weight-append, weight-one, weight-one_other_side}
use Rattle.sip_helper.specs.Vectors.{Vectors}
use Rattle.sip_helper.specs.declared.vectors.Weights.{Weights}
use Rattle.sip_helper.specs.Turns.{with_updates, weights_after, is_light, stays_legal}
use Rattle.sip_helper.specs.inside.Adding.{with_own}
use Rattle.sip_helper.specs.inside.Legal.{HaveWeights, weights_of, legal_weights}

-- ---- weights

same_weights : (a b c d : ℕ) → a ≡ b → c ≡ d → ◌≡◌ {A = Weights} (record { first = a; second = c }) (record { first = b; second = d })
same_weights a b c d e f = cc

weights-more : (w : Weights) (u : Update) (us : List Update) → weights_after w (u ∷ us) ≡ weights_after (weights_after w (u ∷ [])) us
weights-more w u us =
    let first = weight-append (u ∷ []) us First in
    let second = weight-append (u ∷ []) us Second in
    same_weights _ _ _ _ (omega (arith, first)) (omega (arith, second))

pub light_parts : (w : Weights) → is_light w ≡ true → (w.first ≤ most_weight) × (w.second ≤ most_weight)
light_parts w h =
    let both = and_parts (nat_le w.first most_weight) (nat_le w.second most_weight) h in
    (leb-true w.first most_weight both.0, leb-true w.second most_weight both.1)

light_from : (w : Weights) → w.first ≤ most_weight → w.second ≤ most_weight → is_light w ≡ true
light_from w first second = and_from _ _ (le-leb w.first most_weight first) (le-leb w.second most_weight second)

-- more updates make no side lighter
light-before : (w : Weights) (u : Update) (us : List Update) → is_light (weights_after w (u ∷ us)) ≡ true → is_light (weights_after w (u ∷ [])) ≡ true
light-before w u us h =
    let parts = light_parts (weights_after w (u ∷ us)) h in
    let first = weight-append (u ∷ []) us First in
    let second = weight-append (u ∷ []) us Second in
    light_from (weights_after w (u ∷ [])) (omega (arith, first, parts.0)) (omega (arith, second, parts.1))

-- ---- one update, and those behind it

-- the weights, where the items passed and no side is too heavy
abbrev settled : Bool → Weights → Option Weights
settled passed w = cond (passed && is_light w) (Some w) None

heavy : (passed : Bool) (w : Weights) → is_light w ≡ false → settled passed w ≡ None
heavy true w h = rw h refl
heavy false w h = refl

pub none_or_some : (w : Weights) → Some w ≡ None → ⊥
none_or_some w e = cc

pub same_some : (v w : Weights) → Some v ≡ Some w → v ≡ w
same_some v w e = cc

illegal_by : (below others : Bool) (next all : Weights) → (is_light all ≡ true → is_light next ≡ true) → settled (below && true) next ≡ None → settled (below && others) all ≡ None
illegal_by false others next all before h = refl
illegal_by true others next all before h = elim (cases_Bool (is_light next)) [
  | inl light ↦ absurd (none_or_some next (ap (λ (b : Bool). cond b (Some next) None) (sym light) ∙ h))
  | inr dark ↦ elim (cases_Bool (is_light all)) [
    | inl light ↦ absurd (both_ways (is_light next) dark (before light))
    | inr dark ↦ heavy others all dark
  ]
]

legal_by : (below : Bool) (next n : Weights) → settled (below && true) next ≡ Some n → (below ≡ true) × (n ≡ next) × (is_light next ≡ true)
legal_by false next n h = absurd (none_or_some n (sym h))
legal_by true next n h = elim (cases_Bool (is_light next)) [
  | inl light ↦ (refl, same_some n next (sym h ∙ ap (λ (b : Bool). cond b (Some next) None) light), light)
  | inr dark ↦ absurd (none_or_some n (sym h ∙ ap (λ (b : Bool). cond b (Some next) None) dark))
]

-- the first update is illegal, or the others are judged with its weight
pub record Judged (depth : ℕ) (w : Weights) (u : Update) (us : List Update) : Type 0 where
  pub illegal : legal_weights depth w (u ∷ []) ≡ None → legal_weights depth w (u ∷ us) ≡ None
  pub legal : (next : Weights) → legal_weights depth w (u ∷ []) ≡ Some next → (legal_weights depth w (u ∷ us) ≡ legal_weights depth next us) × IsTrue (is_light next)

abbrev is_item : ℕ → Update → Bool
is_item depth u = nat_lt u.item (2 ^ depth)

pub judged : (depth : ℕ) (w : Weights) (u : Update) (us : List Update) → Judged depth w u us
judged depth w u us = record {
  illegal = illegal_by (is_item depth u) (list_all (is_item depth) us) (weights_after w (u ∷ [])) (weights_after w (u ∷ us)) (light-before w u us);
  legal = λ next e.
      let is = legal_by (is_item depth u) (weights_after w (u ∷ [])) next e in (
        ap (λ (b : Bool). settled (b && list_all (is_item depth) us) (weights_after w (u ∷ us))) is.0
            ∙ ap (settled (list_all (is_item depth) us)) (weights-more w u us)
            ∙ ap (λ (x : Weights). legal_weights depth x us) (sym is.1),
        subst (λ (x : Weights). IsTrue (is_light x)) (sym is.1) is.2,
      );
}

-- with nothing more to come, the weights stand
pub settled_now : (depth : ℕ) (w : Weights) → IsTrue (is_light w) → legal_weights depth w [] ≡ Some w
settled_now depth w h =
    let same : weights_after w [] ≡ w = same_weights (w.first + 0) w.first (w.second + 0) w.second (omega arith) (omega arith) in
    ap (λ (x : Weights). settled true x) same ∙ ap (λ (b : Bool). cond b (Some w) None) h

-- ---- vectors

-- the updates of one side, added one after another, give what all give of which those of that side are added
pub fold_of_side : (side : Side) (v : SideVector) (us : List Update) → fold with_own v (of_side us side) ≡ fold (with_update side) v us
fold_of_side side v [] = refl
fold_of_side side v (u ∷ us) = elim (cases_Bool (same_side u.side side)) [
  | inl same ↦
      ap (λ (b : Bool). fold with_own v (cond b (u ∷ of_side us side) (of_side us side))) same
      ∙ fold_of_side side (with_own v u) us
      ∙ ap (λ (b : Bool). fold (with_update side) (cond b (with_own v u) v) us) (sym same)
  | inr other ↦
      ap (λ (b : Bool). fold with_own v (cond b (u ∷ of_side us side) (of_side us side))) other
      ∙ fold_of_side side v us
      ∙ ap (λ (b : Bool). fold (with_update side) (cond b (with_own v u) v) us) (sym other)
]

-- ---- depths and weights

kept_by : (side : Side) (v : SideVector) (us : List Update) → ((fold (with_update side) v us).depth ≡ v.depth) × ((fold (with_update side) v us).weight ≡ v.weight + weight us side)
kept_by side v [] = (refl, omega arith)
kept_by side v (u ∷ us) =
    let rest = kept_by side (with_update side v u) us in
    let more = weight-append (u ∷ []) us side in
    elim (cases_Bool (same_side u.side side)) [
      | inl same ↦
          let mine = weight-one u side same in
          let here : with_update side v u ≡ with_added v u.item u.delta = ap (λ (b : Bool). cond b (with_added v u.item u.delta) v) same in
          (rest.0 ∙ ap (λ (x : SideVector). x.depth) here, omega (arith, rest.1, ap (λ (x : SideVector). x.weight) here, mine, more))
      | inr other ↦
          let none = weight-one_other_side u side other in
          let here : with_update side v u ≡ v = ap (λ (b : Bool). cond b (with_added v u.item u.delta) v) other in
          (rest.0 ∙ ap (λ (x : SideVector). x.depth) here, omega (arith, rest.1, ap (λ (x : SideVector). x.weight) here, none, more))
    ]

-- the vectors have their depth and the new weights
pub are_after : (depth : ℕ) (w : Weights) (v : Vectors) (us : List Update) → HaveWeights depth w v → HaveWeights depth (weights_after w us) (with_updates v us)
are_after depth w v us are =
    let one = kept_by First v.first us in
    let two = kept_by Second v.second us in
    record {
      first = one.0 ∙ are.first;
      second = two.0 ∙ are.second;
      weights = same_weights _ _ _ _ one.1 two.1 ∙ ap (λ (x : Weights). weights_after x us) are.weights;
    }

-- ---- updates in two parts

same_vectors : (a b c d : SideVector) → a ≡ b → c ≡ d → ◌≡◌ {A = Vectors} (record { first = a; second = c }) (record { first = b; second = d })
same_vectors a b c d e f = cc

-- each part may follow what is before it, and both give what all give
pub record Parted (v : Vectors) (some more : List Update) : Type 0 where
  pub front : IsTrue (stays_legal v.first.depth (weights_of v) some)
  pub back : IsTrue (stays_legal (with_updates v some).first.depth (weights_of (with_updates v some)) more)
  pub depths : (v.second.depth ≡ v.first.depth) → ((with_updates v some).second.depth ≡ (with_updates v some).first.depth)
  pub all : with_updates (with_updates v some) more ≡ with_updates v (some ++ more)

pub parted : (v : Vectors) (front back : List Update) → IsTrue (stays_legal v.first.depth (weights_of v) (front ++ back)) → Parted v front back
parted v front back h =
    let d = v.first.depth in
    let w = weights_of v in
    let both = and_parts (list_all (is_item d) (front ++ back)) (is_light (weights_after w (front ++ back))) h in
    let items = and_parts (list_all (is_item d) front) (list_all (is_item d) back) (sym (list_all-append (is_item d) front back) ∙ both.0) in
    let first = weight-append front back First in
    let second = weight-append front back Second in
    let light = light_parts (weights_after w (front ++ back)) both.1 in
    let one = kept_by First v.first front in
    let two = kept_by Second v.second front in
    record {
      front = and_from _ _ items.0 (light_from (weights_after w front) (omega (arith, first, light.0)) (omega (arith, second, light.1)));
      back = and_from _ _ (subst (λ n. list_all (is_item n) back ≡ true) (sym one.0) items.1)
          (light_from (weights_after (weights_of (with_updates v front)) back) (omega (arith, first, light.0, one.1)) (omega (arith, second, light.1, two.1)));
      depths = λ same. two.0 ∙ same ∙ sym one.0;
      all = same_vectors _ _ _ _ (sym (fold-append (with_update First) v.first front back)) (sym (fold-append (with_update Second) v.second front back));
    }
