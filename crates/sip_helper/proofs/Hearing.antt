-- What messages that fit have, and which may never come.
use Rattle.std.proofs.Common.{◌≡◌, ℕ, ◌^◌, ◌<◌, ◌≤◌, Bool, true, false, cond, nat_lt, nat_le, ◌&&◌, if◌then◌else◌, List, [], ◌∷◌, Option, Some, None, inl, inr, refl, sym, ap, subst, ◌∙◌, arith}
use Rattle.std.specs.Prelude.{IfSome, IsTrue, is_none, ◌↔◌}
use Rattle.std.specs.List.{list_all}
use Rattle.std.specs.Option.{option_map}
use Rattle.std.proofs.lemmas.Bool.{and_parts, and_right, both_ways, leb-true}
use Rattle.std.proofs.lemmas.Bool.Decides.{nat_tests}
use Rattle.std.proofs.Math.Pow.{pow_mono}
use Rattle.arrayvec.specs.ArrayVec.{ArrayVec}
use Rattle.sip_field.specs.Moduli.{m61_modulus}
use Rattle.sip_vector.specs.declared.query.Query.{Query}
use Rattle.sip_vector.specs.declared.update.Update.{Update}
use Rattle.sip_vector.specs.Answers.{Fits}
use Rattle.sip_vector.specs.Built.{is_built}
use Rattle.sip_vector.specs.Limits.{most_depth}
use Rattle.std.proofs.lemmas.Bool.{cases_Bool}
use Rattle.sip_wire.specs.declared.message.Message.{Message}
use Rattle.sip_wire.specs.declared.message.Message.TheVariants as messages
use Rattle.sip_wire.specs.declared.kind.Kind.TheVariants as kinds
use Rattle.sip_wire.specs.declared.version.Version.{Version}
use Rattle.sip_wire.specs.declared.version.Version.TheVariants.{One, Two}
use Rattle.sip_wire.specs.Spelling.{fits, has_room, all_hold}
use Rattle.sip_wire.specs.Table.{most_queries, shape}
use Rattle.sip_wire.specs.Versions.{deepest, index_width, version_at}
use Rattle.sip_helper.specs.declared.asked.QueryUnderWay.{QueryUnderWay}
use Rattle.sip_helper.specs.declared.heard.Heard.{Heard}
use Rattle.sip_helper.specs.Vectors.{Vectors}
use Rattle.sip_helper.specs.declared.vectors.Weights.{Weights}
use Rattle.sip_helper.specs.inside.Answering.{CanReply}
use Rattle.sip_helper.specs.inside.Keeping.{IsCoherent}
use Rattle.sip_helper.specs.declared.heard.Heard.TheVariants.{Nothing, Part, Whole}
use Rattle.sip_helper.specs.Kinds.{is_below}
use Rattle.sip_helper.specs.inside.Legal.{HaveWeights, legal_weights}
use Rattle.sip_helper.specs.Turns.{HelperState, depth_of, is_allowed, is_light, part_of, stays_legal, version_opened, weights_after, whole_of, with_updates, zero_vectors}
use Rattle.sip_helper.proofs.EachKind.{fits_below}
use Rattle.sip_helper.proofs.LegalUpdates.{are_after, none_or_some, same_some}

-- ---- an opening

-- its number is that of a version, whose frames go as deep
pub record IsOpening (number depth : ℕ) : Type 0 where
  pub some : 1 ≤ depth
  pub version : Version
  pub is : version_at number ≡ Some version
  pub deep : depth ≤ deepest version

opening_of : (number depth : ℕ) (v : Option Version) → version_at number ≡ v → 1 ≤ depth → elim v [ Some version ↦ nat_le depth (deepest version) | None ↦ false ] ≡ true → IsOpening number depth
opening_of number depth None is some deep = absurd cc
opening_of number depth (Some v) is some deep = record { some = some; version = v; is = is; deep = leb-true depth (deepest v) deep }

pub opening_fits : (version : Version) (number depth : ℕ) → IsTrue (fits version (messages.Open number depth)) → IsOpening number depth
unfolding fits has_room all_hold
opening_fits version number depth h =
    let s = shape version kinds.Open in
    let ns = number ∷ depth ∷ [] in
    let last = and_parts (s.is_mark 0 && has_room (s.fields 0) ns && s.in_order 0 ns) (all_hold (s.fields 0) ns) h in
    let next = and_parts (s.is_mark 0 && has_room (s.fields 0) ns) (s.in_order 0 ns) last.0 in
    let held : ((nat_le 1 number && nat_le number 2) && ((nat_le 1 depth && nat_le depth most_depth) && true)) ≡ true = last.1 in
    let some = and_parts (nat_le 1 depth) (nat_le depth most_depth) (and_parts (nat_le 1 depth && nat_le depth most_depth) true (and_parts (nat_le 1 number && nat_le number 2) ((nat_le 1 depth && nat_le depth most_depth) && true) held).1).0 in
    opening_of number depth (version_at number) refl (leb-true 1 depth some.0) next.1

-- the version that it opens is that one
pub opened : (number : ℕ) (version : Version) → version_at number ≡ Some version → version_opened number ≡ version
opened number version is = ap (λ (v : Option Version). elim v [ Some w ↦ w | None ↦ One ]) is

pub opened_deep : (version : Version) (number depth : ℕ) → IsTrue (fits version (messages.Open number depth)) → depth ≤ deepest (version_opened number)
opened_deep version number depth h =
    let o = opening_fits version number depth h in
    subst (λ (v : Version). depth ≤ deepest v) (sym (opened number o.version o.is)) o.deep

-- no version goes deeper than the greatest depth
pub deepest_most : (version : Version) → deepest version ≤ most_depth
deepest_most One = omega arith
deepest_most Two = omega arith

-- an item below 2^depth has room where the version goes as deep
pub index_room : (version : Version) (depth hi : ℕ) → depth ≤ deepest version → hi < 2 ^ depth → hi < 256 ^ index_width version
index_room One depth hi deep below = let more = pow_mono deep in omega (arith, below, more)
index_room Two depth hi deep below = let more = pow_mono deep in omega (arith, below, more)

-- ---- other messages

pub element_fits : (version : Version) (challenge : ℕ) → IsTrue (fits version (messages.Reveal challenge)) → challenge < m61_modulus
unfolding fits has_room all_hold
element_fits version challenge h = grind (arith, nat_tests)

-- a refusal has a spelling
pub refusal_fits : (version : Version) (code : ℕ) → 1 ≤ code → code ≤ 4 → IsTrue (fits version (messages.Refuse code))
unfolding fits has_room all_hold
refusal_fits version code some most = grind (arith, nat_tests)

-- a query that does not fit the depth may not come
pub unfit_out : (version : Version) (s : HelperState) (depth : ℕ) (q : Query) (fit : Bool) → whole_of s.heard ≡ Some depth → IsTrue (fits version (messages.Query q)) → IsTrue fit ↔ Fits depth q → fit ≡ false → is_allowed s (messages.Query q) ≡ false
unfit_out version s depth q fit whole h tells no_fit = by_heard s.heard whole
  where
    too_high : is_below depth q ≡ false
    too_high = elim (cases_Bool (is_below depth q)) [ inl below ↦ absurd (both_ways fit no_fit (tells.1 (fits_below version depth q h below))) | inr high ↦ high ]

    by_heard : (heard : Heard) → whole_of heard ≡ Some depth → is_allowed (record s { heard = heard }) (messages.Query q) ≡ false
    by_heard Nothing is = absurd cc
    by_heard (Part d) is = absurd cc
    by_heard (Whole d) is =
        let same : d ≡ depth = cc in
        and_right (is_none s.open_query && nat_lt s.queries most_queries && is_built q) (is_below d q) (ap (λ k. is_below k q) same ∙ too_high)

-- a message of another kind may never come
pub others_out : (s : HelperState) (m : Message)
    → ((version depth : ℕ) → m ≡ messages.Open version depth → ⊥)
    → ((updates : ArrayVec Update) → m ≡ messages.Updates updates → ⊥)
    → (m ≡ messages.EndStream → ⊥)
    → ((query : Query) → m ≡ messages.Query query → ⊥)
    → ((challenge : ℕ) → m ≡ messages.Reveal challenge → ⊥)
    → (m ≡ messages.Bye → ⊥)
    → is_allowed s m ≡ false
others_out s (messages.Open version depth) a b c d e f = absurd (a version depth refl)
others_out s (messages.Updates updates) a b c d e f = absurd (b updates refl)
others_out s messages.EndStream a b c d e f = absurd (c refl)
others_out s (messages.Query query) a b c d e f = absurd (d query refl)
others_out s (messages.Reveal challenge) a b c d e f = absurd (e challenge refl)
others_out s messages.Bye a b c d e f = absurd (f refl)
others_out s (messages.Claim _) a b c d e f = refl
others_out s (messages.Poly _ _ _) a b c d e f = refl
others_out s (messages.Entries _) a b c d e f = refl
others_out s (messages.Siblings _ _) a b c d e f = refl
others_out s (messages.Leaves _) a b c d e f = refl
others_out s (messages.Nodes _) a b c d e f = refl
others_out s messages.LevelEnd a b c d e f = refl
others_out s (messages.Refuse _) a b c d e f = refl
others_out s (messages.AskLook code item) a b c d e f = refl
others_out s (messages.Found flag index) a b c d e f = refl
others_out s messages.End a b c d e f = refl
others_out s (messages.AskMoment side degree) a b c d e f = refl
others_out s (messages.Held held) a b c d e f = refl
others_out s (messages.Recall count) a b c d e f = refl
others_out s (messages.Marks v) a b c d e f = refl
others_out s (messages.Power v) a b c d e f = refl

-- the open query changed, and still stands
pub kept_with : (version : Version) (heard : Heard) (weights : Weights) (vectors : Option Vectors) (queries : ℕ) (asked : Option QueryUnderWay) (old new : QueryUnderWay)
    → IsCoherent version heard weights vectors queries asked → asked ≡ Some old → (CanReply (depth_of heard) vectors old → CanReply (depth_of heard) vectors new) → IsCoherent version heard weights vectors queries (Some new)
kept_with version heard weights vectors queries asked old new kept is still =
    let was = subst (IsCoherent version heard weights vectors queries) is kept in
    record { deep = was.deep; light = was.light; none = was.none; are = was.are; few = was.few; behind = was.behind; stands = still was.stands }

-- an opening was heard: there are no queries yet, and the vectors are zero
pub kept_open : (old version : Version) (heard : Heard) (weights : Weights) (vectors begun : Option Vectors) (queries : ℕ) (asked : Option QueryUnderWay) (depth : ℕ)
    → IsCoherent old heard weights vectors queries asked → heard ≡ Nothing → depth ≤ deepest version → IfSome begun (λ v. v ≡ zero_vectors depth) → IsCoherent version (Part depth) weights begun queries asked
kept_open old version (Part d) weights vectors begun queries asked depth kept is deep zero = absurd cc
kept_open old version (Whole d) weights vectors begun queries asked depth kept is deep zero = absurd cc
kept_open old version Nothing weights vectors begun queries asked depth kept is deep zero = record {
  deep = deep;
  light = kept.light;
  none = λ e. absurd (part_or_nothing depth e);
  are = zeros begun zero;
  few = kept.few;
  behind = none_open asked kept.behind;
  stands = none_stands asked kept.behind;
}
  where
    part_or_nothing : (k : ℕ) → Part k ≡ Nothing → ⊥
    part_or_nothing k e = cc

    nothing_or_whole : (k : ℕ) → Nothing ≡ Whole k → ⊥
    nothing_or_whole k e = cc

    zeros : (vs : Option Vectors) → IfSome vs (λ v. v ≡ zero_vectors depth) → IfSome vs (HaveWeights depth weights)
    zeros None zero = tt
    zeros (Some v) zero = subst (HaveWeights depth weights) (sym zero) (record { first = refl; second = refl; weights = sym (kept.none refl) })

    none_open : (a : Option QueryUnderWay) → IfSome a (λ _. Nothing ≡ Whole 0) → IfSome a (λ _. Part depth ≡ Whole depth)
    none_open None h = tt
    none_open (Some a) h = absurd (nothing_or_whole 0 h)

    none_stands : (a : Option QueryUnderWay) → IfSome a (λ _. Nothing ≡ Whole 0) → IfSome a (CanReply depth begun)
    none_stands None h = tt
    none_stands (Some a) h = absurd (nothing_or_whole 0 h)

-- ---- updates

legal_tells : (depth : ℕ) (w next : Weights) (us : List Update) → legal_weights depth w us ≡ Some next → (next ≡ weights_after w us) × IsTrue (is_light next)
legal_tells depth w next us e = elim (cases_Bool (stays_legal depth w us)) [
  | inl t ↦
      let same : next ≡ weights_after w us = same_some next (weights_after w us) (sym e ∙ ap (λ (b : Bool). cond b (Some (weights_after w us)) None) t) in
      let light = and_parts (list_all (λ (u : Update). nat_lt u.item (2 ^ depth)) us) (is_light (weights_after w us)) t in
      (same, subst (λ (x : Weights). IsTrue (is_light x)) (sym same) light.1)
  | inr t ↦ absurd (none_or_some next (sym e ∙ ap (λ (b : Bool). cond b (Some (weights_after w us)) None) t))
]

-- the vectors that are left, once updates were added or memory was refused
are_grown : (depth : ℕ) (w : Weights) (us : List Update) (vectors grown : Option Vectors) (refused : Bool) → IfSome vectors (HaveWeights depth w)
    → grown ≡ (if refused then None else option_map (λ v. with_updates v us) vectors) → IfSome grown (HaveWeights depth (weights_after w us))
are_grown depth w us vectors grown true are is = subst (λ (x : Option Vectors). IfSome x (HaveWeights depth (weights_after w us))) (sym is) tt
are_grown depth w us None grown false are is = subst (λ (x : Option Vectors). IfSome x (HaveWeights depth (weights_after w us))) (sym is) tt
are_grown depth w us (Some v) grown false are is = subst (λ (x : Option Vectors). IfSome x (HaveWeights depth (weights_after w us))) (sym is) (are_after depth w v us are)

none_behind : (d : ℕ) (vectors : Option Vectors) (asked : Option QueryUnderWay) → IfSome asked (λ _. Part d ≡ Whole d) → IfSome asked (CanReply d vectors)
none_behind d vectors None h = tt
none_behind d vectors (Some a) h = absurd (part_or_whole d h)
  where
    part_or_whole : (k : ℕ) → Part k ≡ Whole k → ⊥
    part_or_whole k e = cc

-- updates were heard: there is no open query, and the vectors have the new weights
pub kept_grown : (version : Version) (heard : Heard) (weights : Weights) (vectors : Option Vectors) (queries : ℕ) (asked : Option QueryUnderWay) (depth : ℕ) (us : List Update) (next : Weights) (grown : Option Vectors)
    → IsCoherent version heard weights vectors queries asked → part_of heard ≡ Some depth → legal_weights depth weights us ≡ Some next
    → ((refused : Bool) × (grown ≡ (if refused then None else option_map (λ v. with_updates v us) vectors))) → IsCoherent version heard next grown queries asked
kept_grown version Nothing weights vectors queries asked depth us next grown kept part legal more = absurd cc
kept_grown version (Whole d) weights vectors queries asked depth us next grown kept part legal more = absurd cc
kept_grown version (Part d) weights vectors queries asked depth us next grown kept part legal more =
    let tells = legal_tells depth weights next us legal in
    record {
      deep = kept.deep;
      light = tells.1;
      none = λ e. absurd (part_or_nothing d e);
      are = subst (λ (x : Weights). IfSome grown (HaveWeights d x)) (sym tells.0) (are_grown d weights us vectors grown more.0 kept.are more.1);
      few = kept.few;
      behind = kept.behind;
      stands = none_behind d grown asked kept.behind;
    }
  where
    part_or_nothing : (k : ℕ) → Part k ≡ Nothing → ⊥
    part_or_nothing k e = cc

pub same_grown : (refused : Bool) (a b : Option Vectors) (us vs : List Update) → a ≡ b → us ≡ vs
    → (if refused then None else option_map (λ v. with_updates v us) a) ≡ (if refused then None else option_map (λ v. with_updates v vs) b)
same_grown refused a b us vs e f =
    ap (λ (x : Option Vectors). if refused then None else option_map (λ v. with_updates v us) x) e
    ∙ ap (λ (x : List Update). if refused then None else option_map (λ v. with_updates v x) b) f
