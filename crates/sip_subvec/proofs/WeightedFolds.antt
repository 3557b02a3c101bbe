-- Folding what is stated keeps its weighted sum, so that the last fold is that sum alone.
use Rattle.std.proofs.Common.{◌≡◌, ℕ, ◌+◌, ◌-◌, ◌*◌, ◌/◌, ◌%◌, ◌^◌, ◌<◌, ◌≤◌, true, cond, eqb, Option, Some, None, List, [], ◌∷◌, ◌++◌, length, get_or, drop, fold, inl, inr, All, refl, sym, ap, ◌∙◌, arith, append-nil, length-append}
use Rattle.std.specs.Prelude.{option_to_list, is_some, is_none}
use Rattle.std.specs.List.{zip}
use Rattle.std.proofs.Math.Nat.{mod-lt, mod-eq_of_lt, pow-zero, pow-succ'}
use Rattle.std.proofs.lemmas.Bool.{and_parts, cases_eq, eq-eqb, ne_eqb}
use Rattle.std.proofs.lemmas.List.{drop_more, drop_all}
use Rattle.std.proofs.lemmas.List.Elements.{All-nil, All-cons}
use Rattle.sip_vector.specs.Trees.{up}
use Rattle.sip_vector.specs.Weights.{node_weight, weight_above, weighted_sum}
use Rattle.sip_vector.proofs.TreeResidues.{mod_plus}
use Rattle.sip_vector.proofs.TreeUpdates.{length-up}
use Rattle.sip_vector.proofs.TreeSums.{fold_keeps_sum, weighted_sum-cons, weighted_sum_push}
use Rattle.sip_subvec.specs.AcceptsSub.{Siblings, widened, next_level}
use Rattle.sip_subvec.specs.Replies.{are_asked}
use Rattle.sip_subvec.specs.Checking.{sibling_term, level_sum, siblings_sum, AreAsked}

-- ---- the two ends of a level

-- a left sibling stands before the first node, which has an odd index
module _ (p : ℕ) (challenges : List ℕ) (level lo : ℕ) (nodes : List ℕ) where
  left_odd : (left : Option ℕ) → lo % 2 ≡ 1 → is_some left ≡ true
      → weighted_sum p challenges level (2 * (lo / 2)) (option_to_list left ++ nodes) ≡ sibling_term p challenges level left (lo - 1) + weighted_sum p challenges level lo nodes
  left_odd None odd here = absurd cc
  left_odd (Some x) odd here =
      let first : 2 * (lo / 2) ≡ lo - 1 = omega arith in
      let next : lo - 1 + 1 ≡ lo = omega arith in
      ap (λ i. weighted_sum p challenges level i (x ∷ nodes)) first ∙ weighted_sum-cons p challenges level (lo - 1) x nodes
      ∙ ap (λ i. x * weight_above p challenges level (lo - 1) + weighted_sum p challenges level i nodes) next

  left_even : (left : Option ℕ) → lo % 2 ≡ 0 → is_none left ≡ true
      → weighted_sum p challenges level (2 * (lo / 2)) (option_to_list left ++ nodes) ≡ sibling_term p challenges level left (lo - 1) + weighted_sum p challenges level lo nodes
  left_even (Some x) even none = absurd cc
  left_even None even none =
      let first : 2 * (lo / 2) ≡ lo = omega arith in
      ap (λ i. weighted_sum p challenges level i nodes) first ∙ omega arith

  left_end : (left : Option ℕ) → cond (eqb (lo % 2) 1) (is_some left) (is_none left) ≡ true
      → weighted_sum p challenges level (2 * (lo / 2)) (option_to_list left ++ nodes) ≡ sibling_term p challenges level left (lo - 1) + weighted_sum p challenges level lo nodes
  left_end left asked = elim (cases_eq (lo % 2) 1) [
    | inl odd ↦ left_odd left odd (rw (eq-eqb (lo % 2) 1 odd) at asked)
    | inr not ↦ left_even left (omega arith) (rw (ne_eqb (lo % 2) 1 not) at asked)
  ]

  -- a right sibling stands behind the last node
  right_end : (right : Option ℕ) (hi : ℕ) → lo + length nodes ≡ hi + 1
      → weighted_sum p challenges level lo (nodes ++ option_to_list right) ≡ weighted_sum p challenges level lo nodes + sibling_term p challenges level right (hi + 1)
  right_end None hi long = rw (append-nil nodes) (omega arith)
  right_end (Some x) hi long =
      weighted_sum_push p challenges level lo nodes x ∙ ap (λ i. weighted_sum p challenges level lo nodes + x * weight_above p challenges level i) long

-- a sibling that is present is one number, and one that is not is none
pub by_some : (o : Option ℕ) → is_some o ≡ true → length (option_to_list o) ≡ 1
by_some None e = absurd cc
by_some (Some x) e = refl

pub by_none : (o : Option ℕ) → is_none o ≡ true → length (option_to_list o) ≡ 0
by_none None e = refl
by_none (Some x) e = absurd cc

left_length : (lo : ℕ) (left : Option ℕ) → cond (eqb (lo % 2) 1) (is_some left) (is_none left) ≡ true → length (option_to_list left) ≡ lo % 2
left_length lo left asked = elim (cases_eq (lo % 2) 1) [
  | inl odd ↦ by_some left (rw (eq-eqb (lo % 2) 1 odd) at asked) ∙ sym odd
  | inr not ↦ by_none left (rw (ne_eqb (lo % 2) 1 not) at asked) ∙ omega arith
]

right_length : (hi : ℕ) (right : Option ℕ) → cond (eqb (hi % 2) 0) (is_some right) (is_none right) ≡ true → length (option_to_list right) ≡ 1 - hi % 2
right_length hi right asked = elim (cases_eq (hi % 2) 0) [
  | inl even ↦ by_some right (rw (eq-eqb (hi % 2) 0 even) at asked) ∙ omega arith
  | inr not ↦ by_none right (rw (ne_eqb (hi % 2) 0 not) at asked) ∙ omega arith
]

-- ---- one level

module _ (lo hi : ℕ) (nodes : List ℕ) (s : Siblings) (order : lo ≤ hi) (long : length nodes ≡ hi + 1 - lo) (asked : are_asked lo hi s ≡ true) where
  -- with its siblings a level has whole pairs
  widened_length : length (widened nodes s) ≡ 2 * (hi / 2 + 1 - lo / 2)
  widened_length =
      let parts = and_parts (cond (eqb (lo % 2) 1) (is_some s.left) (is_none s.left)) (cond (eqb (hi % 2) 0) (is_some s.right) (is_none s.right)) asked in
      omega (arith, length-append (option_to_list s.left ++ nodes) (option_to_list s.right), length-append (option_to_list s.left) nodes, left_length lo s.left parts.0, right_length hi s.right parts.1)

  -- and they add their terms
  widened_sum : (p : ℕ) (challenges : List ℕ) (level : ℕ)
      → weighted_sum p challenges level (2 * (lo / 2)) (widened nodes s) ≡ level_sum p challenges level lo hi s + weighted_sum p challenges level lo nodes
  widened_sum p challenges level =
      let parts = and_parts (cond (eqb (lo % 2) 1) (is_some s.left) (is_none s.left)) (cond (eqb (hi % 2) 0) (is_some s.right) (is_none s.right)) asked in
      let size : 2 * (lo / 2) + length (option_to_list s.left ++ nodes) ≡ hi + 1 =
      omega (arith, length-append (option_to_list s.left) nodes, left_length lo s.left parts.0) in
      right_end p challenges level (2 * (lo / 2)) (option_to_list s.left ++ nodes) s.right hi size
      ∙ ap (λ k. k + sibling_term p challenges level s.right (hi + 1)) (left_end p challenges level lo nodes s.left parts.0)
      ∙ omega arith

-- ---- all levels

pub up_below : (p r : ℕ) (level : List ℕ) → 0 < p → All (λ x. x < p) (up p level r)
up_below p r [] some = All-nil (λ x. x < p)
up_below p r (u ∷ []) some = All-nil (λ x. x < p)
up_below p r (u ∷ w ∷ level) some = All-cons (λ x. x < p) ((u + r * w) % p) (up p level r) (mod-lt (u + r * w) some) (up_below p r level some)

-- the one node of the last level has the weight 1
top_node : (p : ℕ) (challenges : List ℕ) (level lo hi : ℕ) (nodes : List ℕ) → length challenges ≤ level → lo ≤ hi → hi < 1 → length nodes ≡ hi + 1 - lo → All (λ x. x < p) nodes
    → nodes ≡ ((weighted_sum p challenges level lo nodes + 0) % p) ∷ []
top_node p challenges level lo hi [] whole order one long below = absurd (omega arith)
top_node p challenges level lo hi (x ∷ y ∷ nodes) whole order one long below = absurd (omega arith)
top_node p challenges level lo hi (x ∷ []) whole order one long below =
    let weight : weight_above p challenges level lo ≡ 1 = ap (node_weight p lo) (drop_all level challenges whole) in
    let sum : weighted_sum p challenges level lo (x ∷ []) + 0 ≡ x =
    ap (λ k. k + 0) (weighted_sum-cons p challenges level lo x []) ∙ ap (λ w. x * w + 0 + 0) weight ∙ omega arith in
    let small : x < p = below 0 0 (omega arith) in
    ap (λ k. k ∷ []) (sym (ap (λ k. k % p) sum ∙ mod-eq_of_lt small))

-- a level's nodes, folded with the siblings of this level and those above it
pub fold_of_level : (p : ℕ) (challenges : List ℕ) (level lo hi : ℕ) (nodes : List ℕ) (ss : List Siblings)
    → 0 < p → level + length ss ≡ length challenges → lo ≤ hi → hi < 2 ^ length ss → length nodes ≡ hi + 1 - lo → All (λ x. x < p) nodes → AreAsked lo hi ss
    → fold (next_level p) nodes (zip ss (drop level challenges)) ≡ ((weighted_sum p challenges level lo nodes + siblings_sum p challenges level lo hi ss) % p) ∷ []
fold_of_level p challenges level lo hi nodes [] some whole order within long below asked =
    top_node p challenges level lo hi nodes (omega arith) order (rw (pow-zero 2) at within) long below
fold_of_level p challenges level lo hi nodes (s ∷ ss) some whole order within long below asked =
    let r : ℕ = get_or challenges level 0 in
    let inside : level < length challenges = omega arith in
    let pairs : length (widened nodes s) ≡ 2 * (hi / 2 + 1 - lo / 2) = widened_length lo hi nodes s order long asked.0 in
    let half : hi / 2 < 2 ^ length ss = omega (arith, pow-succ' 2 (length ss)) in
    let above : ℕ = siblings_sum p challenges (level + 1) (lo / 2) (hi / 2) ss in
    let kept : weighted_sum p challenges (level + 1) (lo / 2) (up p (widened nodes s) r) % p ≡ (level_sum p challenges level lo hi s + weighted_sum p challenges level lo nodes) % p =
    sym (fold_keeps_sum p challenges level (lo / 2) _ (widened nodes s) inside pairs)
    ∙ ap (λ k. k % p) (widened_sum lo hi nodes s order long asked.0 p challenges level) in
    ap (λ rs. fold (next_level p) nodes (zip (s ∷ ss) rs)) (drop_more challenges level 0 inside)
    ∙ fold_of_level p challenges (level + 1) (lo / 2) (hi / 2) (up p (widened nodes s) r) ss some (omega arith) (omega arith) half
    (length-up p r (widened nodes s) _ pairs) (up_below p r (widened nodes s) some) asked.1
    ∙ ap (λ k. k ∷ []) (mod_plus p _ _ above above kept refl ∙ ap (λ k. k % p) (omega arith))
