-- Each turn but a farewell leaves fewer turns.
use Rattle.std.proofs.Common.{◌≡◌, ℕ, zero, suc, ◌+◌, ◌^◌, ◌<◌, ◌≤◌, Bool, true, false, not, ◌&&◌, ◌||◌, ◌==◌, nat_lt, nat_le, eqb, cond, Option, Some, None, List, [], ◌∷◌, length, Result, Ok, Err, ℤ, pos, negsuc, nat_abs, w64, refl, sym, ap, subst, ◌∙◌, arith}
use Rattle.std.specs.Prelude.{IsOk, IsTrue, OnOk, is_none}
use Rattle.std.specs.Int.{cast_unsigned}
use Rattle.std.specs.List.{list_all, flat_map}
use Rattle.std.specs.Option.{option_map, option_and_then}
use Rattle.std.proofs.lemmas.Bool.{and_parts, both_ways, ltb-true}
use Rattle.std.proofs.lemmas.List.{length_push}
use Rattle.sip_vector.specs.declared.query.Query.{Query}
use Rattle.sip_vector.specs.declared.update.Side.{Side}
use Rattle.sip_vector.specs.declared.update.Side.TheVariants.{First, Second}
use Rattle.sip_vector.specs.declared.update.Update.{Update}
use Rattle.sip_vector.specs.Built.{is_built}
use Rattle.sip_vector.specs.Limits.{most_depth}
use Rattle.sip_vector.specs.Streams.{same_side, weight, most_weight}
use Rattle.sip_vector.proofs.Sides.{weight-append, weight-one}
use Rattle.sip_wire.specs.declared.message.Message.{Message}
use Rattle.sip_wire.specs.declared.message.Message.TheVariants as messages
use Rattle.arrayvec.specs.ArrayVec.{ArrayVec}
use Rattle.sip_wire.specs.declared.kind.Kind.TheVariants as kinds
use Rattle.sip_wire.specs.declared.version.Version.{Version}
use Rattle.sip_wire.specs.declared.version.Version.TheVariants.{Two}
use Rattle.sip_wire.specs.Table.{Field, Shape, field, index, most_queries, repeat, shape, side, update_fields}
use Rattle.sip_wire.specs.Spelling.{fits, fits_shape, has_room, all_hold, side_number, update_numbers}
use Rattle.sip_helper.specs.declared.heard.Heard.{Heard}
use Rattle.sip_helper.specs.declared.heard.Heard.TheVariants.{Nothing, Part, Whole}
use Rattle.sip_helper.specs.Vectors.{Vectors}
use Rattle.sip_helper.specs.Kinds.{is_below}
use Rattle.sip_helper.specs.inside.Measures.{stream_left, challenges_left, turns_left}
use Rattle.sip_helper.specs.Turns.{HelperState, OpenQuery, after_answer, after_reply, depth_of, is_allowed, is_light, is_refused, may_hear, step, weights_after, with_challenge}
use Rattle.sip_helper.proofs.LegalUpdates.{light_parts}

-- ---- updates weigh something

abbrev delta_field : Field
delta_field = field 8 (λ n. not (n == 0))

holds_of : (s : Shape) (mark : ℕ) (ns : List ℕ) → fits_shape s mark ns ≡ true → all_hold (s.fields mark) ns ≡ true
holds_of s mark ns h = (and_parts (s.is_mark mark && has_room (s.fields mark) ns && s.in_order mark ns) (all_hold (s.fields mark) ns) h).1

delta_some : (z : ℤ) → not (eqb (cast_unsigned w64 z) 0) ≡ true → 1 ≤ nat_abs z
delta_some (pos zero) h = absurd cc
delta_some (pos (suc n)) h = omega arith
delta_some (negsuc n) h = omega arith

held : (f : Field) (fs : List Field) (n : ℕ) (ns : List ℕ) → all_hold (f ∷ fs) (n ∷ ns) ≡ true → (f.holds n ≡ true) × (all_hold fs ns ≡ true)
unfolding all_hold
held f fs n ns h = and_parts (f.holds n) (all_hold fs ns) h

first_some : (version : Version) (u : Update) (fs : List Field) (ns : List ℕ) → all_hold (side ∷ index version ∷ delta_field ∷ fs) (side_number u.side ∷ u.item ∷ cast_unsigned w64 u.delta ∷ ns) ≡ true → 1 ≤ nat_abs u.delta
first_some version u fs ns h = delta_some u.delta (held delta_field fs (cast_unsigned w64 u.delta) ns (held (index version) (delta_field ∷ fs) u.item (cast_unsigned w64 u.delta ∷ ns) (held side (index version ∷ delta_field ∷ fs) (side_number u.side) (u.item ∷ cast_unsigned w64 u.delta ∷ ns) h).1).1).0

heavier : (u : Update) (us : List Update) → 1 ≤ nat_abs u.delta → 1 ≤ weight (u ∷ us) First + weight (u ∷ us) Second
heavier u us some = by_side u.side refl
  where
    by_side : (s : Side) → u.side ≡ s → 1 ≤ weight (u ∷ us) First + weight (u ∷ us) Second
    by_side First is = omega (arith, some, weight-append (u ∷ []) us First, weight-one u First (ap (λ (s : Side). same_side s First) is))
    by_side Second is = omega (arith, some, weight-append (u ∷ []) us Second, weight-one u Second (ap (λ (s : Side). same_side s Second) is))

updates_weigh : (version : Version) (us : List Update) → IsTrue (fits version (messages.Updates (record { items = us }))) → 1 ≤ weight us First + weight us Second
unfolding fits
updates_weigh version [] h = absurd cc
updates_weigh version (u ∷ us) h = heavier u us (first_some version u (repeat (length us) (update_fields version)) (flat_map update_numbers us) (holds_of (shape version kinds.Updates) (length (u ∷ us)) (flat_map update_numbers (u ∷ us)) h))

-- ---- an answer leaves no more challenges

replied_left : (given closed : Bool) (o : OpenQuery) → challenges_left (cond given (Some o) (cond closed None (Some (record o { given = true })))) ≤ challenges_left (Some o)
replied_left true closed o = omega arith
replied_left false true o = omega arith
replied_left false false o = omega arith

given_left : (depth : ℕ) (v : Option Vectors) (q : Option OpenQuery) → challenges_left (option_and_then (after_reply depth v) q) ≤ challenges_left q
given_left depth v None = omega arith
given_left depth v (Some o) = replied_left o.given (is_refused v o || nat_le depth (length o.revealed + 1)) o

pub answer_left : (s : HelperState) → turns_left (after_answer s) ≤ turns_left s
answer_left s = omega (arith, given_left (depth_of s.heard) s.vectors s.open_query)

-- ---- each message

open_left : (s : HelperState) (h : Heard) (version depth : ℕ) → s.heard ≡ h → is_allowed (record s { heard = h }) (messages.Open version depth) ≡ true → 1 + stream_left (Part depth) ≡ stream_left h
open_left s Nothing version depth is allowed = omega arith
open_left s (Part d) version depth is allowed = absurd cc
open_left s (Whole d) version depth is allowed = absurd cc

end_left : (s : HelperState) (h : Heard) → is_allowed (record s { heard = h }) messages.EndStream ≡ true → 1 + stream_left (Whole (depth_of h)) ≡ stream_left h
end_left s Nothing allowed = absurd cc
end_left s (Part d) allowed = omega arith
end_left s (Whole d) allowed = absurd cc

none_of : (o : Option OpenQuery) → is_none o ≡ true → o ≡ None
none_of None e = refl
none_of (Some o) e = absurd cc

query_left : (s : HelperState) (h : Heard) (q : Query) → is_allowed (record s { heard = h }) (messages.Query q) ≡ true → (s.queries < most_queries) × (s.open_query ≡ None)
query_left s Nothing q allowed = absurd cc
query_left s (Part depth) q allowed = absurd cc
query_left s (Whole depth) q allowed =
    let front = and_parts (is_none s.open_query && nat_lt s.queries most_queries && is_built q) (is_below depth q) allowed in
    let two = and_parts (is_none s.open_query && nat_lt s.queries most_queries) (is_built q) front.0 in
    let one = and_parts (is_none s.open_query) (nat_lt s.queries most_queries) two.0 in
    (ltb-true s.queries most_queries one.1, none_of s.open_query one.0)

challenge_left : (s : HelperState) (r : ℕ) (q : Option OpenQuery) → depth_of s.heard ≤ most_depth → is_allowed (record s { open_query = q }) (messages.Reveal r) ≡ true → 1 + challenges_left (option_map (with_challenge r) q) ≤ challenges_left q
challenge_left s r None deep allowed = absurd cc
challenge_left s r (Some o) deep allowed =
    let below = ltb-true (length o.revealed + 1) (depth_of s.heard) (and_parts o.given (nat_lt (length o.revealed + 1) (depth_of s.heard)) allowed).1 in
    omega (arith, below, deep, length_push o.revealed r)

updates_light : (s : HelperState) (h : Heard) (us : ArrayVec Update) → is_allowed (record s { heard = h }) (messages.Updates us) ≡ true
    → (s.weights.first + weight us.items First ≤ most_weight) × (s.weights.second + weight us.items Second ≤ most_weight)
updates_light s Nothing us allowed = absurd cc
updates_light s (Whole depth) us allowed = absurd cc
updates_light s (Part depth) us allowed =
    light_parts (weights_after s.weights us.items) (and_parts (list_all (λ (u : Update). nat_lt u.item (2 ^ depth)) us.items) (is_light (weights_after s.weights us.items)) allowed).1

pub step_left : (version : Version) (s : HelperState) (memory : Bool) (m : Message) → depth_of s.heard ≤ most_depth → IsTrue (fits version m) → IsTrue (is_allowed s m) → (m ≡ messages.Bye → ⊥) → 1 + turns_left (step s memory m) ≤ turns_left s
step_left v s memory (messages.Open version depth) deep fit allowed other = omega (arith, open_left s s.heard version depth refl allowed)
step_left version s memory (messages.Updates us) deep fit allowed other =
    let more = updates_weigh version us.items fit in
    let light = updates_light s s.heard us allowed in
    omega (arith, more, light.0, light.1)
step_left version s memory messages.EndStream deep fit allowed other = omega (arith, end_left s s.heard allowed)
step_left version s memory (messages.Query q) deep fit allowed other =
    let may = query_left s s.heard q allowed in
    omega (arith, may.0, ap challenges_left may.1)
step_left version s memory (messages.Reveal r) deep fit allowed other = omega (arith, challenge_left s r s.open_query deep allowed)
step_left version s memory messages.Bye deep fit allowed other = absurd (other refl)
step_left version s memory (messages.Claim _) deep fit allowed other = absurd cc
step_left version s memory (messages.Poly _ _ _) deep fit allowed other = absurd cc
step_left version s memory (messages.Entries _) deep fit allowed other = absurd cc
step_left version s memory (messages.Siblings _ _) deep fit allowed other = absurd cc
step_left version s memory (messages.Leaves _) deep fit allowed other = absurd cc
step_left version s memory (messages.Nodes _) deep fit allowed other = absurd cc
step_left version s memory messages.LevelEnd deep fit allowed other = absurd cc
step_left version s memory (messages.Refuse _) deep fit allowed other = absurd cc
step_left version s memory (messages.AskLook code item) deep fit allowed other = absurd cc
step_left version s memory (messages.Found flag index) deep fit allowed other = absurd cc
step_left version s memory messages.End deep fit allowed other = absurd cc
step_left version s memory (messages.AskMoment side degree) deep fit allowed other = absurd cc
step_left version s memory (messages.Held held) deep fit allowed other = absurd cc
step_left version s memory (messages.Recall count) deep fit allowed other = absurd cc
step_left version s memory (messages.Marks v) deep fit allowed other = absurd cc
step_left version s memory (messages.Power v) deep fit allowed other = absurd cc

-- where no farewell may come, any other message may as where one may
pub hears_as : (s : HelperState) (m : Message) → (m ≡ messages.Bye → ⊥) → may_hear s m ≡ is_allowed s m
hears_as s messages.Bye other = absurd (other refl)
hears_as s (messages.Open _ _) other = refl
hears_as s (messages.Updates _) other = refl
hears_as s messages.EndStream other = refl
hears_as s (messages.Query _) other = refl
hears_as s (messages.Reveal _) other = refl
hears_as s (messages.Claim _) other = refl
hears_as s (messages.Poly _ _ _) other = refl
hears_as s (messages.Entries _) other = refl
hears_as s (messages.Siblings _ _) other = refl
hears_as s (messages.Leaves _) other = refl
hears_as s (messages.Nodes _) other = refl
hears_as s messages.LevelEnd other = refl
hears_as s (messages.Refuse _) other = refl
hears_as s (messages.AskLook code item) other = refl
hears_as s (messages.Found flag index) other = refl
hears_as s messages.End other = refl
hears_as s (messages.AskMoment _ _) other = refl
hears_as s (messages.Held _) other = refl
hears_as s (messages.Recall _) other = refl
hears_as s (messages.Marks _) other = refl
hears_as s (messages.Power v) other = refl

-- a message that may come and is no farewell leaves fewer turns, where it was heard
pub fewer_heard : {E : Type 0} (s next : HelperState) (m : Message) (heard : Result Unit E) → depth_of s.heard ≤ most_depth → IsTrue (fits Two m) → (IsOk heard → IsTrue (is_allowed s m))
    → OnOk heard ((memory : Bool) × (next ≡ step s memory m)) → OnOk heard (next.done ≡ false → turns_left next < turns_left s)
fewer_heard s next m (Err e) deep fit may did = tt
fewer_heard s next m (Ok x) deep fit may did =
    λ still. (let fall = step_left Two s did.0 m deep fit (may refl) (λ bye. both_ways next.done still (ap (λ (x : HelperState). x.done) did.1 ∙ ap (λ (x : Message). (step s did.0 x).done) bye)) in
    subst (λ (x : HelperState). turns_left x < turns_left s) (sym did.1) (omega (arith, fall)))

-- and so where no farewell may come
pub fewer_heard_on : {E : Type 0} (s next : HelperState) (m : Message) (heard : Result Unit E) → depth_of s.heard ≤ most_depth → IsTrue (fits Two m) → (m ≡ messages.Bye → ⊥) → (IsOk heard → IsTrue (is_allowed s m))
    → OnOk heard ((memory : Bool) × (next ≡ step s memory m)) → OnOk heard (turns_left next < turns_left s)
fewer_heard_on s next m (Err e) deep fit other may did = tt
fewer_heard_on s next m (Ok x) deep fit other may did =
    let fall = step_left Two s did.0 m deep fit (may refl) other in
    subst (λ (x : HelperState). turns_left x < turns_left s) (sym did.1) (omega (arith, fall))
