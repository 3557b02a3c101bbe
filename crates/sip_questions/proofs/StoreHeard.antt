-- What a helper has heard of a store.
use Rattle.std.proofs.Common.{◌≡◌, ◌≢◌, ℕ, pos, ◌+◌, ◌^◌, ◌<◌, ◌≤◌, Bool, true, false, ◌&&◌, ◌||◌, nat_abs, nat_lt, if◌then◌else◌, List, [], ◌∷◌, ◌++◌, drop, length, map, take, Option, Some, None, refl, sym, ap, subst, ◌∙◌, inl, inr, arith}
use Rattle.std.specs.Prelude.{All, IsTrue, MatchOption, get_or, is_none}
use Rattle.std.specs.List.{AllByRecursion, list_all}
use Rattle.std.specs.Option.{option_map}
use Rattle.std.proofs.lemmas.Bool.{and_from, and_parts, cases_Bool, le-leb, lt-ltb}
use Rattle.std.proofs.lemmas.List.{length-map, length-take-le, map-append, take_at}
use Rattle.std.proofs.lemmas.List.Sums.{fold-append, list_all-from_AllPass, sum_by-cons}
use Rattle.std.proofs.lemmas.List.Elements.{All-from_recursion, All-nil}
use Rattle.std.proofs.lemmas.List.Folds.{list_all-append}
use Rattle.std.proofs.lemmas.Bool.Decides.{nat_tests}
use Rattle.sip_vector.specs.Limits.{most_depth}
use Rattle.sip_vector.specs.declared.update.Side.{Side}
use Rattle.sip_vector.specs.declared.update.Side.TheVariants.{First, Second}
use Rattle.sip_vector.specs.declared.update.Update.{Update}
use Rattle.sip_vector.specs.Splits.{absolute}
use Rattle.sip_vector.specs.Streams.{IsLegal, most_weight, of_side, same_side, weight}
use Rattle.sip_vector.specs.Vectors.{SideVector, with_update}
use Rattle.sip_vector.proofs.Sides.{weight-append, weight-one}
use Rattle.sip_wire.specs.declared.message.Message.TheVariants as messages
use Rattle.sip_wire.specs.declared.version.Version.TheVariants.{Two}
use Rattle.sip_wire.specs.Spelling.{all_hold, fits, has_room}
use Rattle.sip_helper.specs.declared.heard.Heard.{Heard}
use Rattle.sip_helper.specs.declared.heard.Heard.TheVariants.{Nothing, Part, Whole}
use Rattle.sip_helper.specs.declared.vectors.Weights.{Weights}
use Rattle.sip_helper.specs.Shown.{opened, shown_vector}
use Rattle.sip_helper.specs.Streams.{stream_heard}
use Rattle.sip_helper.specs.Turns.{HelperState, fresh, is_allowed, part_of, stays_legal, step, weights_after, with_updates}
use Rattle.sip_helper.specs.Vectors.{Vectors}
use Rattle.sip_vector.specs.Tallies.{tally}
use Rattle.sip_stream.specs.declared.form.Form.{Form}
use Rattle.sip_stream.specs.Reading.{IsAfter, Reading, behind}
use Rattle.sip_questions.specs.StoreFronts.{heard_of}
use Rattle.sip_questions.specs.inside.StoreHearing.{HasHeard, HearsOn, IsAsFar}
use Rattle.sip_questions.proofs.StoreReading.{takes_more, takes_none}

-- ---- updates may come

allowed_by : (s : HelperState) (heard : Heard) (depth : ℕ) (us : List Update) → part_of heard ≡ Some depth → IsTrue (stays_legal depth s.weights us)
    → IsTrue (is_allowed (record s { heard = heard }) (messages.Updates (record { items = us })))
allowed_by s Nothing depth us part legal = absurd (let no = part in cc)
allowed_by s (Whole d) depth us part legal = absurd (let no = part in cc)
allowed_by s (Part d) depth us part legal =
    let same : d ≡ depth = let some = part in cc in
    subst (λ n. IsTrue (stays_legal n s.weights us)) (sym same) legal

items_below : (depth : ℕ) (before us : List Update) → All (λ (u : Update). u.item < 2 ^ depth) (before ++ us) → list_all (λ (u : Update). nat_lt u.item (2 ^ depth)) us ≡ true
items_below depth before us all =
    let below = λ (u : Update). nat_lt u.item (2 ^ depth) in
    let both = list_all-from_AllPass below (before ++ us) (λ k d h. lt-ltb (get_or (before ++ us) k d).item (2 ^ depth) (all k d h)) in
    (and_parts (list_all below before) (list_all below us) (sym (list_all-append below before us) ∙ both)).1

-- ---- sizes are of the same items, and as heavy

sizes_below : (n : ℕ) (us : List Update) → list_all (λ (u : Update). nat_lt u.item n) (map absolute us) ≡ list_all (λ (u : Update). nat_lt u.item n) us
sizes_below n [] = refl
sizes_below n (u ∷ us) = ap (λ (b : Bool). nat_lt u.item n && b) (sizes_below n us)

sizes_weigh : (us : List Update) (side : Side) → weight (map absolute us) side ≡ weight us side
sizes_weigh [] side = refl
sizes_weigh (u ∷ us) side = elim (cases_Bool (same_side u.side side)) [
  | inl same ↦ rw (same, sum_by-cons (λ (v : Update). nat_abs v.delta) u (of_side us side), sum_by-cons (λ (v : Update). nat_abs v.delta) (absolute u) (of_side (map absolute us) side)) (ap (λ (n : ℕ). nat_abs u.delta + n) (sizes_weigh us side))
  | inr other ↦ rw other (sizes_weigh us side)
]

heard_weighs : (z : Bool) (us : List Update) (side : Side) → weight (heard_of z us) side ≡ weight us side
heard_weighs false us side = refl
heard_weighs true us side = sizes_weigh us side

heard_legal : (z : Bool) (depth : ℕ) (w : Weights) (us : List Update) → stays_legal depth w (heard_of z us) ≡ stays_legal depth w us
heard_legal false depth w us = refl
heard_legal true depth w us = rw (sizes_below (2 ^ depth) us, sizes_weigh us First, sizes_weigh us Second) refl

heard_joined : (z : Bool) (us vs : List Update) → heard_of z us ++ heard_of z vs ≡ heard_of z (us ++ vs)
heard_joined false us vs = refl
heard_joined true us vs = sym (map-append absolute us vs)

heard_long : (z : Bool) (us : List Update) → length (heard_of z us) ≡ length us
heard_long false us = refl
heard_long true us = length-map us absolute

-- the front of a block of which sizes were taken
pub front_heard : (z : Bool) (came : ℕ) (block changed : List Update) → came ≤ length block → changed ≡ heard_of z (take came block) → take came (changed ++ drop came block) ≡ heard_of z (take came block)
front_heard z came block changed within is =
    let size = length-take-le came block within in
    let long : came ≡ length changed = omega (arith, ap length is, heard_long z (take came block), size) in
    take_at changed (drop came block) came (sym long) ∙ is

second_of : (side : Side) → same_side side First ≡ false → same_side side Second ≡ true
second_of First other = absurd cc
second_of Second other = refl

-- each delta is within the weight of its side
small_by : (us : List Update) → weight us First ≤ most_weight → weight us Second ≤ most_weight → AllByRecursion (λ (u : Update). nat_abs u.delta ≤ most_weight) us
small_by [] first second = tt
small_by (u ∷ us) first second =
    let one = weight-append (u ∷ []) us First in
    let two = weight-append (u ∷ []) us Second in (
      elim (cases_Bool (same_side u.side First)) [
        | inl same ↦ omega (arith, first, one, weight-one u First same)
        | inr other ↦ omega (arith, second, two, weight-one u Second (second_of u.side other))
      ],
      small_by us (omega (arith, first, one)) (omega (arith, second, two)),
    )

-- the deltas of records that a reader took are small
pub small_then : (new : Reading) (before us : List Update) → IsAfter new (before ++ us) → All (λ (u : Update). nat_abs u.delta ≤ most_weight) us
small_then new before us now =
    let first = now.legal.first in
    let second = now.legal.second in
    All-from_recursion (λ (u : Update). nat_abs u.delta ≤ most_weight) us
    (small_by us (omega (arith, first, weight-append before us First)) (omega (arith, second, weight-append before us Second)))

-- records that a reader took, by a helper that is as far
pub may_come : (z : Bool) (s : HelperState) (r new : Reading) (before us : List Update) → IsAsFar s r → IsAfter r before → new.depth ≡ r.depth → IsAfter new (before ++ us)
    → IsTrue (is_allowed s (messages.Updates (record { items = heard_of z us })))
may_come z s r new before us far was depth now =
    let legal = subst (λ d. IsLegal d (before ++ us)) depth now.legal in
    let first = weight-append before us First in
    let second = weight-append before us Second in
    let one : s.weights.first + weight us First ≤ most_weight = omega (arith, first, far.first, was.weights First, legal.first) in
    let two : s.weights.second + weight us Second ≤ most_weight = omega (arith, second, far.second, was.weights Second, legal.second) in
    allowed_by s s.heard r.depth (heard_of z us) far.part
    (subst (λ (b : Bool). b ≡ true) (sym (heard_legal z r.depth s.weights us)) (and_from _ _ (items_below r.depth before us legal.items) (and_from _ _ (le-leb _ most_weight one) (le-leb _ most_weight two))))

-- and it is as far then
pub far_then : (z : Bool) (s next : HelperState) (r new : Reading) (before us : List Update) → IsAsFar s r → IsAfter r before → new.depth ≡ r.depth → IsAfter new (before ++ us) → HasHeard z s next us → IsAsFar next new
far_then z s next r new before us far was depth now heard =
    let first = weight-append before us First in
    let second = weight-append before us Second in
    let own = now.weights First in
    let other = now.weights Second in
    let one : s.weights.first + weight (heard_of z us) First ≡ new.first = omega (arith, heard_weighs z us First, first, far.first, was.weights First, own) in
    let two : s.weights.second + weight (heard_of z us) Second ≡ new.second = omega (arith, heard_weighs z us Second, second, far.second, was.weights Second, other) in
    subst (λ (h : HelperState). IsAsFar h new) (sym heard.1) (record {
      part = far.part ∙ ap (λ n. Some n) (sym depth);
      first = one;
      second = two;
      live = far.live;
    })

-- ---- one piece behind another

same_weights : (a b c d : ℕ) → a ≡ b → c ≡ d → ◌≡◌ {A = Weights} (record { first = a; second = c }) (record { first = b; second = d })
same_weights a b c d e f = cc

same_vectors : (a b c d : SideVector) → a ≡ b → c ≡ d → ◌≡◌ {A = Vectors} (record { first = a; second = c }) (record { first = b; second = d })
same_vectors a b c d e f = cc

weights_more : (w : Weights) (us vs : List Update) → weights_after (weights_after w us) vs ≡ weights_after w (us ++ vs)
weights_more w us vs =
    let first = weight-append us vs First in
    let second = weight-append us vs Second in
    same_weights _ _ _ _ (omega (arith, first)) (omega (arith, second))

updates_more : (v : Vectors) (us vs : List Update) → with_updates (with_updates v us) vs ≡ with_updates v (us ++ vs)
updates_more v us vs = same_vectors _ _ _ _ (sym (fold-append (with_update First) v.first us vs)) (sym (fold-append (with_update Second) v.second us vs))

vectors_more : (one two : Bool) (v : Option Vectors) (us vs : List Update)
    → (if two then None else option_map (λ x. with_updates x vs) (if one then None else option_map (λ x. with_updates x us) v)) ≡ (if one || two then None else option_map (λ x. with_updates x (us ++ vs)) v)
vectors_more true true v us vs = refl
vectors_more true false v us vs = refl
vectors_more false true v us vs = refl
vectors_more false false None us vs = refl
vectors_more false false (Some x) us vs = ap (λ (y : Vectors). Some y) (updates_more x us vs)

same_state : (s : HelperState) (w x : Weights) (v y : Option Vectors) → w ≡ x → v ≡ y → ◌≡◌ {A = HelperState} (record s { weights = w; vectors = v }) (record s { weights = x; vectors = y })
same_state s w x v y e f = cc

pub heard_more : (z : Bool) (a b c : HelperState) (us vs : List Update) → HasHeard z a b us → HasHeard z b c vs → HasHeard z a c (us ++ vs)
heard_more z a b c us vs one two = (
  one.0 || two.0,
  two.1
      ∙ ap (λ (h : HelperState). step h two.0 (messages.Updates (record { items = heard_of z vs }))) one.1
      ∙ same_state a _ _ _ _ (weights_more a.weights (heard_of z us) (heard_of z vs)) (vectors_more one.0 two.0 a.vectors (heard_of z us) (heard_of z vs))
      ∙ ap (λ (l : List Update). step a (one.0 || two.0) (messages.Updates (record { items = l }))) (heard_joined z us vs),
)

vectors_none : (v : Option Vectors) → v ≡ option_map (λ x. with_updates x []) v
vectors_none None = refl
vectors_none (Some x) = refl

heard_nothing : (s : HelperState) → s ≡ step s false (messages.Updates (record { items = [] }))
heard_nothing s = same_state s s.weights _ s.vectors _ (same_weights _ _ _ _ (omega arith) (omega arith)) (vectors_none s.vectors)

pub heard_none : (z : Bool) (s : HelperState) → HasHeard z s s []
heard_none false s = (false, heard_nothing s)
heard_none true s = (false, heard_nothing s)

-- ---- with the reader

pub hears_none : (z : Bool) (s : HelperState) (r : Reading) (had : Option (List ℕ)) → IsAsFar s r → r.is_spent ≡ false → HearsOn z s s r r had had []
hears_none z s r had far ready = record { takes = takes_none r had ready; heard = heard_none z s; far = far }

pub hears_more : (z : Bool) (s t next : HelperState) (a b c : Reading) (had mid left : Option (List ℕ)) (us vs : List Update) → HearsOn z s t a b had mid us → HearsOn z t next b c mid left vs → HearsOn z s next a c had left (us ++ vs)
hears_more z s t next a b c had mid left us vs one two = record {
  takes = takes_more a b c had mid left us vs one.takes two.takes;
  heard = heard_more z s t next us vs one.heard two.heard;
  far = two.far;
}

-- ---- at the end

-- where the vectors are there, memory was never refused
pub whole_then : (number depth : ℕ) (one two three : Bool) (us : List Update) (next : HelperState) (v : SideVector)
    → next ≡ step (step (step fresh one (messages.Open number depth)) two (messages.Updates (record { items = us }))) three messages.EndStream
    → shown_vector next First ≡ Some v → next ≡ stream_heard number depth (us ∷ [])
whole_then number depth true true three us next v is shown = absurd (let no = sym (ap (λ (h : HelperState). shown_vector h First) is) ∙ shown in cc)
whole_then number depth true false three us next v is shown = absurd (let no = sym (ap (λ (h : HelperState). shown_vector h First) is) ∙ shown in cc)
whole_then number depth false true three us next v is shown = absurd (let no = sym (ap (λ (h : HelperState). shown_vector h First) is) ∙ shown in cc)
whole_then number depth false false three us next v is shown = is

-- ---- at the start

items_none : (depth : ℕ) → All (λ (u : Update). u.item < 2 ^ depth) []
items_none depth = All-nil (λ (u : Update). u.item < 2 ^ depth)

-- no records are legal ones
pub none_legal : (depth : ℕ) → IsLegal depth []
none_legal depth = record {
  items = items_none depth;
  deltas = All-nil (λ (u : Update). u.delta ≢ pos 0);
  first = omega arith;
  second = omega arith;
}

-- a helper that has heard the opening is as far as a reader that has read nothing
pub far_at_start : (number depth : ℕ) (refused : Bool) (s : HelperState) (form : Form) (r : Reading) → s ≡ step fresh refused (messages.Open number depth) → r ≡ behind depth form (tally []) → IsAsFar s r
far_at_start number depth refused s form r is reads =
    subst (λ (h : HelperState). IsAsFar h r) (sym is) (subst (λ (x : Reading). IsAsFar (step fresh refused (messages.Open number depth)) x) (sym reads) (record { part = refl; first = refl; second = refl; live = refl }))

-- the depth that it shows is that of the opening
pub depth_is : (number depth : ℕ) (refused : Bool) (s : HelperState) (o : Option ℕ) (x : ℕ) → s ≡ step fresh refused (messages.Open number depth) → o ≡ opened s.heard → o ≡ Some x → x ≡ depth
depth_is number depth refused s o x is shown some =
    let same : Some x ≡ Some depth = sym some ∙ shown ∙ ap (λ (h : HelperState). opened h.heard) is in
    cc

-- ---- what is said of it

pub shown_some : {V : Type 0} (f : V → SideVector) (s : Option SideVector) (o : Option V) → is_none o ≡ false → MatchOption o (s ≡ None) (λ v. s ≡ Some (f v)) → (x : SideVector) × (s ≡ Some x)
shown_some f s None some shown = absurd (let no = some in cc)
shown_some f s (Some v) some shown = (f v, shown)

-- the end of a stream has a spelling
pub end_fits : IsTrue (fits Two messages.EndStream)
unfolding fits has_room all_hold
end_fits = refl

-- and so has the opening of a talk in version 2
pub open_fits : (depth : ℕ) → 1 ≤ depth → depth ≤ most_depth → IsTrue (fits Two (messages.Open 2 depth))
unfolding fits has_room all_hold
open_fits depth some most = grind (arith, nat_tests)
