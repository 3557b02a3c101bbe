-- Updates that come to a sketch by the block.
use Rattle.std.proofs.Common.{◌≡◌, ◌≢◌, ◌⊎◌, ◌∙◌, ℕ, ◌+◌, ◌^◌, ◌<◌, ◌≤◌, pos, List, [], ◌∷◌, ◌++◌, length, All, take, drop, inl, inr, sym, ap, subst, refl, arith, take_all, length-append, length-take, length-drop}
use Rattle.std.proofs.Math.ListN.{get_or-append}
use Rattle.std.proofs.Math.Seq.{take-add}
use Rattle.std.proofs.lemmas.List.{length-map, take-append-drop}
use Rattle.std.proofs.lemmas.List.Elements.{All-tail}
use Rattle.sip_vector.specs.Streams.{weight}
use Rattle.sip_vector.specs.declared.tally.Tally.{Tally}
use Rattle.sip_vector.specs.declared.update.Side.{Side}
use Rattle.sip_vector.specs.declared.update.Side.TheVariants.{First, Second}
use Rattle.sip_vector.specs.declared.update.Update.{Update}
use Rattle.sip_vector.proofs.Sides.{weight-append}
use Rattle.sip_sketch.specs.Sketches.{SketchValues}
use Rattle.sip_sketch.specs.Standing.{MayCome}
use Rattle.sip_sketch.specs.inside.Raising.{IsGrown}
use Rattle.sip_sketch.proofs.Compound.{grown_more}
use Rattle.sip_c.specs.Updating.{Comes, HasGrown, place_of}
use Rattle.sip_c.specs.Codes.{update_of}
use Rattle.sip_c.specs.Weighing.{CanCome, updates_of}
use Rattle.sip_c.specs.declared.codes.UpdateCode.{UpdateCode}

-- none came, or these did
abbrev pub Came : SketchValues → List Update → SketchValues → Type 0
Came s us t = ((us ≡ []) × (t ≡ s)) ⊎ ((0 < length us) × HasGrown us s t)

inside_of : (us : List Update) (s t : SketchValues) → HasGrown us s t → IsGrown us s t
inside_of us s t h = record { kept = h.kept; told = h.told; used = h.used; stands = h.stands }

-- some came, and then others
came_more : (s mid t : SketchValues) (us more : List Update) → Came s us mid → 0 < length more → HasGrown more mid t → Came s (us ++ more) t
came_more s mid t us more (inl (none, same)) some then =
    subst (λ (l : List Update). Came s (l ++ more) t) (sym none) (inr (some, subst (λ (x : SketchValues). HasGrown more x t) same then))
came_more s mid t us more (inr (few, before)) some then =
    let all = grown_more s mid t us more (inside_of us s mid before) (inside_of more mid t then) in
    inr (omega (arith, few, length-append us more), record { kept = all.kept; told = all.told; used = all.used; stands = all.stands })

-- those between others
all_within : {X : Type 0} (P : X → Type 0) (xs ys zs : List X) → All P (xs ++ (ys ++ zs)) → All P ys
all_within P [] ys zs all k d lt =
    subst P (get_or-append ys zs d k lt) (all k d (omega (arith, lt, length-append ys zs)))
all_within P (x ∷ xs) ys zs all k d lt = all_within P xs ys zs (All-tail P x (xs ++ (ys ++ zs)) all) k d lt

-- the updates in three pieces
pieces : (us : List Update) (done count : ℕ) → us ≡ take done us ++ (take count (drop done us) ++ drop count (drop done us))
pieces us done count = sym (take-append-drop done us) ∙ ap (λ (l : List Update). take done us ++ l) (sym (take-append-drop count (drop done us)))

-- what a side weighs behind those that came
told_first : (s t : SketchValues) (us : List Update) → Came s us t → t.tally.first ≡ s.tally.first + weight us First
told_first s t us (inl (none, same)) =
    ap (λ (x : SketchValues). x.tally.first) same ∙ (let e : s.tally.first ≡ s.tally.first + 0 = omega arith in e) ∙ ap (λ (l : List Update). s.tally.first + weight l First) (sym none)
told_first s t us (inr (some, h)) = ap (λ (x : Tally). x.first) h.told

told_second : (s t : SketchValues) (us : List Update) → Came s us t → t.tally.second ≡ s.tally.second + weight us Second
told_second s t us (inl (none, same)) =
    ap (λ (x : SketchValues). x.tally.second) same ∙ (let e : s.tally.second ≡ s.tally.second + 0 = omega arith in e) ∙ ap (λ (l : List Update). s.tally.second + weight l Second) (sym none)
told_second s t us (inr (some, h)) = ap (λ (x : Tally). x.second) h.told

same_depth : (s t : SketchValues) (us : List Update) → Came s us t → t.depth ≡ s.depth
same_depth s t us (inl (none, same)) = ap (λ (x : SketchValues). x.depth) same
same_depth s t us (inr (some, h)) = h.kept.depth

-- the next block of them may come
pub next_comes : (s t : SketchValues) (codes : List UpdateCode) (done count : ℕ) → CanCome (place_of s) codes → Came s (take done (updates_of codes)) t
    → MayCome t (take count (drop done (updates_of codes)))
next_comes s t codes done count can came =
    let us = updates_of codes in
    let front = take done us in
    let here = take count (drop done us) in
    let rest = drop count (drop done us) in
    let cut = pieces us done count in
    let depth = same_depth s t front came in
    let weighs : (side : Side) → weight us side ≡ weight front side + (weight here side + weight rest side) =
    λ side. ap (λ (l : List Update). weight l side) cut ∙ weight-append front (here ++ rest) side ∙ ap (λ n. weight front side + n) (weight-append here rest side) in
    let P : Update → Type 0 = λ u. u.item < 2 ^ s.depth in
    let Q : Update → Type 0 = λ u. u.delta ≢ pos 0 in
    record {
      items = subst (λ (n : ℕ). All (λ (u : Update). u.item < 2 ^ n) here) (sym depth) (all_within P front here rest (subst (All P) cut can.items));
      deltas = all_within Q front here rest (subst (All Q) cut can.deltas);
      first = omega (arith, told_first s t front came, weighs First, can.first);
      second = omega (arith, told_second s t front came, weighs Second, can.second);
    }

-- those so far, and one more block of them
pub block_came : (s mid t : SketchValues) (us : List Update) (done count : ℕ) → Came s (take done us) mid → 0 < length (take count (drop done us)) → HasGrown (take count (drop done us)) mid t
    → Came s (take (done + count) us) t
block_came s mid t us done count before some then =
    subst (λ (l : List Update). Came s l t) (sym (take-add done count us)) (came_more s mid t (take done us) (take count (drop done us)) before some then)

all_of : (s t : SketchValues) (codes : List UpdateCode) → (0 < length codes → CanCome (place_of s) codes) → Came s (updates_of codes) t → Comes s codes t
all_of s t [] can (inl (none, same)) = inl (refl, same)
all_of s t [] can (inr (some, h)) = absurd (omega (arith, some))
all_of s t (c ∷ codes) can (inl (none, same)) = absurd (omega (arith, ap length none))
all_of s t (c ∷ codes) can (inr (some, h)) = inr (can (omega arith), h)

-- a block of some of them is not empty
pub block_some : (codes : List UpdateCode) (done count : ℕ) → 0 < count → done + count ≤ length codes → 0 < length (take count (drop done (updates_of codes)))
block_some codes done count some within =
    omega (arith, some, within, length-take count (drop done (updates_of codes)), length-drop done (updates_of codes), length-map codes update_of)

-- all of them came
pub all_came : (s t : SketchValues) (codes : List UpdateCode) (done : ℕ) → (0 < length codes → CanCome (place_of s) codes) → length codes ≤ done
    → Came s (take done (updates_of codes)) t → Comes s codes t
all_came s t codes done can whole came =
    let us = updates_of codes in
    let all : take done us ≡ us = take_all done us (omega (arith, whole, length-map codes update_of)) in
    all_of s t codes can (subst (λ (l : List Update). Came s l t) all came)
