-- What always holds of a check holds after one step more.
use Rattle.std.proofs.Common.{◌≡◌, ℕ, ◌+◌, ◌-◌, ◌^◌, ◌<◌, ◌≤◌, List, [], ◌∷◌, length, take, drop, All, None, Bool, true, false, Result, Ok, leb, ◌&&◌, ◌||◌, not, refl, sym, ap, arith, inl, inr, length-append}
use Rattle.std.proofs.lemmas.List.{length-drop}
use Rattle.std.proofs.lemmas.List.Elements.{All-nil, All-cons, All-take, All-drop, All-append, All-same, All-push}
use Rattle.std.specs.Prelude.{nat_lt, nat_le, int_le, pos, slice_index}
use Rattle.std.specs.List.{list_all}
use Rattle.std.proofs.lemmas.Bool.{cases_Bool, ltb-true, leb-true, and_parts}
use Rattle.sip_vector.specs.Steps.{◌>>=◌, needs}
use Rattle.sip_vector.specs.declared.update.Entry.{Entry}
use Rattle.sip_wire.specs.declared.message.Node.{Node}
use Rattle.sip_wire.specs.declared.message.Reason.{Reason}
use Rattle.sip_wire.specs.declared.message.Reason.TheVariants as reasons
use Rattle.sip_heavy.specs.declared.form.LeafForm.{LeafForm}
use Rattle.sip_heavy.specs.AcceptsHeavy.{HeavyQuestion, most_nodes, known_after, are_pairs, is_empty, end_test, nodes_below, pair_counts, joined, nodes_above, heavy_entries, value_of}
use Rattle.sip_heavy.specs.Checking.{Kept, IsSound, HasTaken, nothing, asked_of, passing, passing_all, folded, with_node, node_test}
use Rattle.sip_heavy.proofs.Merging.{take_below, length_below}

module _ (c : Kept) (sound : IsSound c) (i : ℕ) where
  abbrev rest : List Node
  rest = drop c.passed c.known

  small_below : All (λ x. x.count < 2 ^ 61) (nodes_below i rest)
  small_below = All-same (λ x. x.count < 2 ^ 61) (nodes_below i rest) (take (length (nodes_below i rest)) rest) (sym (take_below i rest))
      (All-take (λ x. x.count < 2 ^ 61) (length (nodes_below i rest)) rest (All-drop (λ x. x.count < 2 ^ 61) c.passed c.known sound.small_known))

  pub sound_passing : IsSound (passing c i)
  sound_passing =
      let below = length_below i rest in
      let len = length-drop c.passed c.known in
      record {
        depth = sound.depth;
        passes = omega (arith, sound.passes);
        fits = sound.fits;
        light = sound.light;
        few = omega (arith, sound.few, sound.passes, length-append c.nodes (nodes_below i rest));
        small_known = sound.small_known;
        small_nodes = All-append (λ x. x.count < 2 ^ 61) c.nodes (nodes_below i rest) sound.small_nodes small_below;
        shown = sound.shown;
      }

-- one node more, where there is room
pub sound_with : (c : Kept) (x : Node) → IsSound c → x.count < 2 ^ 61 → length c.nodes + (length c.known - c.passed) < c.most
    → IsSound (with_node c x)
sound_with c x sound small room = record {
  depth = sound.depth;
  passes = sound.passes;
  fits = sound.fits;
  light = sound.light;
  few = omega (arith, sound.few, length-append c.nodes (x ∷ []));
  small_known = sound.small_known;
  small_nodes = All-push (λ y. y.count < 2 ^ 61) c.nodes x sound.small_nodes small;
  shown = sound.shown;
}

-- a node that passes has room
pub test_room : (c : Kept) (x : Node) → node_test c x ≡ Ok tt → length c.nodes + (length c.known - c.passed) < c.most
test_room c x is = ltb-true (length c.nodes + (length c.known - c.passed)) c.most (room_passed _ _ _ is)
  where
    room_passed : (order room light : Bool) → ◌≡◌ {A = Result (Unit {0}) Reason} (needs order reasons.BadOrder >>= λ _. needs room reasons.TooMany >>= λ _. needs light reasons.HeavySibling) (Ok tt) → room ≡ true
    room_passed true true light e = refl
    room_passed true false light e = absurd cc
    room_passed false room light e = absurd cc

pub sound_passing_all : (c : Kept) → IsSound c → IsSound (passing_all c)
sound_passing_all c sound = record {
  depth = sound.depth;
  passes = omega arith;
  fits = sound.fits;
  light = sound.light;
  few = omega (arith, sound.few, length-append c.nodes (drop c.passed c.known), length-drop c.passed c.known);
  small_known = sound.small_known;
  small_nodes = All-append (λ x. x.count < 2 ^ 61) c.nodes (drop c.passed c.known) sound.small_nodes (All-drop (λ x. x.count < 2 ^ 61) c.passed c.known sound.small_known);
  shown = sound.shown;
}

-- the nodes above are half as many, and light
length_above : (p r : ℕ) (xs : List Node) → length (nodes_above p r xs) ≤ length xs
length_above p r [] = omega arith
length_above p r (l ∷ []) = omega arith
length_above p r (l ∷ h ∷ xs) = omega (arith, length_above p r xs)

small_above : (p r n : ℕ) (xs : List Node) → n < 2 ^ 61 → list_all (λ c. nat_le c n) (pair_counts xs) ≡ true → All (λ x. x.count < 2 ^ 61) (nodes_above p r xs)
small_above p r n [] light within = All-nil (λ x. x.count < 2 ^ 61)
small_above p r n (l ∷ []) light within = All-nil (λ x. x.count < 2 ^ 61)
small_above p r n (l ∷ h ∷ xs) light within =
    let parts = and_parts (leb (l.count + h.count) n) (list_all (λ c. nat_le c n) (pair_counts xs)) within in
    let here : l.count + h.count < 2 ^ 61 = omega (arith, leb-true (l.count + h.count) n parts.0) in
    All-cons (λ x. x.count < 2 ^ 61) (joined p r l h) (nodes_above p r xs) here (small_above p r n xs light parts.1)

pub sound_folded : (p : ℕ) (c : Kept) → IsSound c → c.level < length c.challenges → list_all (λ k. nat_le k c.total) (pair_counts c.nodes) ≡ true → IsSound (folded p c)
sound_folded p c sound left within = record {
  depth = omega arith;
  passes = omega arith;
  fits = sound.fits;
  light = sound.light;
  few = omega (arith, sound.few, length_above p (slice_index c.challenges c.level) c.nodes);
  small_known = small_above p (slice_index c.challenges c.level) c.total c.nodes sound.light within;
  small_nodes = All-nil (λ x. x.count < 2 ^ 61);
  shown = sound.shown;
}

-- the tests of a level, where the first two pass
pub end_says : (q : HeavyQuestion) (level : ℕ) (nodes : List Node) (w : Bool) → (are_pairs nodes && (nat_lt (level + 1) q.depth || not (is_empty nodes))) ≡ true → list_all (nat_le q.at_least) (pair_counts nodes) ≡ true
    → list_all (λ c. nat_le c q.total) (pair_counts nodes) ≡ w → end_test q level nodes ≡ needs w reasons.Total
end_says q level nodes w whole heavy within = rw (whole, heavy, within) refl

-- ---- the start

pub sound_nothing : (c : Kept) → c.level ≡ 0 → c.passed ≡ 0 → c.most ≤ c.room → c.total < 2 ^ 61 → c.known ≡ [] → c.nodes ≡ [] → c.found ≡ [] → IsSound c
sound_nothing c level passed fits light known nodes found = record {
  depth = omega (arith, level);
  passes = omega (arith, passed);
  fits = fits;
  light = light;
  few = rw (known, nodes) (omega arith);
  small_known = rw known (All-nil (λ x. x.count < 2 ^ 61));
  small_nodes = rw nodes (All-nil (λ x. x.count < 2 ^ 61));
  shown = rw found (omega arith);
}

pub HasTaken-nothing : (p : ℕ) (q : HeavyQuestion) (root : ℕ) (challenges : List ℕ) (c : Kept) → asked_of c ≡ q → c.most ≡ most_nodes q → c.challenges ≡ challenges → c.hash ≡ root → c.level ≡ 0
    → c.known ≡ [] → c.nodes ≡ [] → c.passed ≡ 0 → c.last ≡ None → c.found ≡ [] → HasTaken p q root challenges nothing c
unfolding known_after
HasTaken-nothing p q root challenges c asked most at for level known nodes passed last found = record {
  asked = asked;
  most = most;
  at_challenges = at;
  for_root = for;
  level = level;
  ended = ap (λ ks. Ok ks) (sym known);
  received = refl;
  merges = λ future. rw (known, nodes, passed) refl;
  passes = omega (arith, passed);
  size = rw (known, nodes) (omega arith);
  last = λ i. rw last refl;
  below = λ i above. rw passed refl;
  rises = rw known tt;
  found = found;
}

-- the heavy leaves are leaves
pub length_heavy : (p : ℕ) (form : LeafForm) (t : ℕ) (xs : List Node) → length (heavy_entries p form t xs) ≤ length xs
length_heavy p form t [] = omega arith
length_heavy p form t (x ∷ xs) = elim (cases_Bool (int_le (pos t) (value_of p form x))) [
  | inl s ↦ rw s (omega (arith, length_heavy p form t xs))
  | inr s ↦ rw s (omega (arith, length_heavy p form t xs))
]

-- the heavy leaves make no difference
pub sound_keeping : (c : Kept) (found : List Entry) → IsSound c → length found ≤ c.most → IsSound (record c { found = found })
sound_keeping c found sound few = record {
  depth = sound.depth;
  passes = sound.passes;
  fits = sound.fits;
  light = sound.light;
  few = sound.few;
  small_known = sound.small_known;
  small_nodes = sound.small_nodes;
  shown = few;
}
