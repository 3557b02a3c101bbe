-- What holds of the nodes that a prover keeps, from level to level.
use Rattle.std.proofs.Common.{◌≡◌, ℕ, zero, suc, ◌+◌, ◌-◌, ◌*◌, ◌/◌, ◌%◌, ◌^◌, ◌<◌, ◌≤◌, Bool, true, false, ◌==◌, ◌||◌, List, [], ◌∷◌, length, drop, All, slice_get, Option, Some, refl, sym, ap, subst, ◌∙◌, inl, inr, arith}
use Rattle.std.specs.Prelude.{nat_lt, nat_le}
use Rattle.std.specs.List.Sorted.{IsPartitionPoint}
use Rattle.std.proofs.Math.Nat.{pow-le-pow_right, mod-lt}
use Rattle.std.proofs.lemmas.Bool.{cases_Bool}
use Rattle.std.proofs.lemmas.Option.{none-some, same_Some}
use Rattle.std.proofs.lemmas.List.Elements.{All-nil, All-cons, All-head, All-tail, All-append, All-filter}
use Rattle.sip_vector.specs.Limits.{most_depth}
use Rattle.sip_vector.specs.Trees.{up3}
use Rattle.sip_wire.specs.declared.message.Node.{Node}
use Rattle.sip_heavy.specs.declared.form.LeafForm.{LeafForm}
use Rattle.sip_heavy.specs.AcceptsHeavy.{joined}
use Rattle.sip_heavy.specs.Honest.{Proving, its_nodes, shown, shown_pair, shown_from}
use Rattle.sip_heavy.specs.Rising.{Rises}
use Rattle.sip_heavy.specs.Spots.{left_of, right_of, spots_above, shown_spots, from_on, whole_level, behind_place, IsKept}
use Rattle.sip_heavy.proofs.Shown.{all_in, half_indices, spots_rise, same_sum, skipped_at}
use Rattle.sip_heavy.proofs.Wholes.{whole_above, shown_is}
use Rattle.sip_heavy.proofs.HonestLists.{two_halves}

pub whole_long : (n i : ℕ) (xs : List Node) → length (whole_level n i xs) ≡ n
unfolding whole_level
whole_long zero i xs = refl
whole_long (suc n) i xs = ap suc (whole_long n (suc i) (behind_place i xs))

-- indices that rise and are all below a bound
rises_within : (least n m : ℕ) (xs : List Node) → Rises least n xs → All (λ x. x.index < m) xs → Rises least m xs
rises_within least n m [] rises all = tt
rises_within least n m (x ∷ xs) rises all =
    (rises.0, All-head (λ y. y.index < m) x xs all, rises_within (suc x.index) n m xs rises.2 (All-tail (λ y. y.index < m) x xs all))

hashes_above : (p r : ℕ) → 0 < p → (xs : List Node) → All (λ x. x.hash < p) (spots_above p r xs)
hashes_above p r some [] = All-nil (λ x. x.hash < p)
hashes_above p r some (x ∷ []) = All-cons (λ x. x.hash < p) (joined p r (left_of x) (right_of x)) [] (mod-lt _ some) (All-nil (λ x. x.hash < p))
hashes_above p r some (x ∷ y ∷ more) = elim (cases_Bool (x.index / 2 == y.index / 2)) [
  | inl t ↦ rw t (All-cons (λ x. x.hash < p) (joined p r x y) (spots_above p r more) (mod-lt _ some) (hashes_above p r some more))
  | inr t ↦ rw t (All-cons (λ x. x.hash < p) (joined p r (left_of x) (right_of x)) (spots_above p r (y ∷ more)) (mod-lt _ some) (hashes_above p r some (y ∷ more)))
]

-- ---- the level above

module _ (p r t left : ℕ) (xs : List Node) (kept : IsKept p t left xs) (level : 1 ≤ left) (some : 0 < p) where
  pub kept_above : IsKept p t (left - 1) (spots_above p r xs)
  kept_above =
      let halves = two_halves left level in
      let rises : Rises 0 (2 ^ left) (spots_above p r xs) = spots_rise p r (2 ^ left) 0 xs kept.rises in
      let below : All (λ x. x.index < 2 * 2 ^ (left - 1)) xs = subst (λ n. All (λ x. x.index < n) xs) (halves ∙ (let twice : 2 ^ (left - 1) + 2 ^ (left - 1) ≡ 2 * 2 ^ (left - 1) = omega arith in twice)) (all_in (2 ^ left) 0 xs kept.rises) in
      record {
        some = kept.some;
        levels = omega (arith, kept.levels);
        rises = rises_within 0 (2 ^ left) (2 ^ (left - 1)) (spots_above p r xs) rises (half_indices p r (2 ^ (left - 1)) xs below);
        light = rw (same_sum p r xs) kept.light;
        hashes = hashes_above p r some xs;
      }

  pub level_above : whole_level (2 ^ (left - 1)) 0 (spots_above p r xs) ≡ up3 p (whole_level (2 ^ left) 0 xs) r
  level_above = sym (rw (two_halves left level) (whole_above p r some (2 ^ (left - 1)) 0 (2 ^ left) xs kept.rises))

-- ---- what is shown

-- indices fit in 48 bits
pub kept_small : (p t left : ℕ) (xs : List Node) → IsKept p t left xs → All (λ x. x.index < 2 ^ 48) xs
kept_small p t left xs kept = all_in (2 ^ 48) 0 xs (rises_more left kept.levels 0 xs kept.rises)
  where
    rises_more : (left : ℕ) → left ≤ most_depth → (least : ℕ) (ys : List Node) → Rises least (2 ^ left) ys → Rises least (2 ^ 48) ys
    rises_more left deep least [] rises = tt
    rises_more left deep least (y ∷ ys) rises =
        let most : 2 ^ left ≤ 2 ^ 48 = pow-le-pow_right (let two : 0 < 2 = omega arith in two) deep in
        (rises.0, omega (arith, rises.1, most), rises_more left deep (suc y.index) ys rises.2)

pub shown_of_level : (p t left : ℕ) (is_leaf : Bool) (xs : List Node) → IsKept p t left xs → 1 ≤ left → shown_from t is_leaf 0 (whole_level (2 ^ left) 0 xs) ≡ shown_spots t is_leaf xs
shown_of_level p t left is_leaf xs kept level =
    let halves = two_halves left level in
    let ends : 2 ^ left ≡ 0 + 0 + (2 ^ (left - 1) + 2 ^ (left - 1)) = omega (arith, halves) in
    rw halves (shown_is t is_leaf kept.some (2 ^ (left - 1)) 0 xs (subst (λ n. Rises (0 + 0) n xs) ends kept.rises))

-- the nodes of earlier pairs can be passed over
first_of_level : (p t left : ℕ) (is_leaf : Bool) (from start : ℕ) (xs : List Node) → IsKept p t left xs → 1 ≤ left
    → IsPartitionPoint (λ y. nat_lt (y.index / 2) (from / 2) ≡ true) (λ y. nat_lt (y.index / 2) (from / 2) ≡ false) xs start
    → slice_get (from_on from (shown_spots t is_leaf (drop start xs))) 0 ≡ slice_get (from_on from (shown_from t is_leaf 0 (whole_level (2 ^ left) 0 xs))) 0
first_of_level p t left is_leaf from start xs kept level parts =
    ap (λ ys. slice_get ys 0) (skipped_at t is_leaf from start xs parts ∙ ap (from_on from) (sym (shown_of_level p t left is_leaf xs kept level)))

-- What a walk from the end of the earlier pairs finds is the first node that is shown.
pub first_found : (p t left : ℕ) (is_leaf : Bool) (from start : ℕ) (xs : List Node) → IsKept p t left xs → (left ≡ 0 → ⊥)
    → IsPartitionPoint (λ y. nat_lt (y.index / 2) (from / 2) ≡ true) (λ y. nat_lt (y.index / 2) (from / 2) ≡ false) xs start
    → (found : Option Node) → found ≡ slice_get (from_on from (shown_spots t is_leaf (drop start xs))) 0
    → (form : LeafForm) (k : Proving) → ◌≡◌ {A = Proving} (record { form = form; at_least = t; is_leaf = is_leaf; level = whole_level (2 ^ left) 0 xs }) k → found ≡ slice_get (from_on from (its_nodes k)) 0
first_found p t left is_leaf from start xs kept off parts found is form k view =
    is ∙ first_of_level p t left is_leaf from start xs kept (some_left left off) parts ∙ ap (λ (s : Proving). slice_get (from_on from (its_nodes s)) 0) view
  where
    some_left : (n : ℕ) → (n ≡ 0 → ⊥) → 1 ≤ n
    some_left zero none = absurd (none refl)
    some_left (suc n) none = omega arith

-- nothing is shown of the root
pub shown_of_root : (t left : ℕ) (is_leaf : Bool) (xs : List Node) → left ≡ 0 → shown_from t is_leaf 0 (whole_level (2 ^ left) 0 xs) ≡ []
unfolding whole_level
shown_of_root t left is_leaf xs is = rw is refl

-- hashes of what is shown are residues
module _ (p t : ℕ) (is_leaf : Bool) (some : 0 < p) where
  one_hash : (x : Node) → x.hash < p → All (λ y. y.hash < p) (shown t is_leaf x)
  one_hash x below = elim (cases_Bool (is_leaf || nat_lt x.count t)) [
    | inl s ↦ rw s (All-cons (λ y. y.hash < p) x [] below (All-nil (λ y. y.hash < p)))
    | inr s ↦ rw s (All-nil (λ y. y.hash < p))
  ]

  pair_hash : (l h : Node) → l.hash < p → h.hash < p → All (λ y. y.hash < p) (shown_pair t is_leaf l h)
  pair_hash l h left right = elim (cases_Bool (nat_le t (l.count + h.count))) [
    | inl s ↦ rw s (All-append (λ y. y.hash < p) (shown t is_leaf l) (shown t is_leaf h) (one_hash l left) (one_hash h right))
    | inr s ↦ rw s (All-nil (λ y. y.hash < p))
  ]

  left_hash : (x : Node) → x.hash < p → (left_of x).hash < p
  left_hash x below = elim (cases_Bool (x.index % 2 == 0)) [ inl s ↦ rw s below | inr s ↦ rw s some ]

  right_hash : (x : Node) → x.hash < p → (right_of x).hash < p
  right_hash x below = elim (cases_Bool (x.index % 2 == 0)) [ inl s ↦ rw s some | inr s ↦ rw s below ]

  pub shown_hashes : (xs : List Node) → All (λ y. y.hash < p) xs → All (λ y. y.hash < p) (shown_spots t is_leaf xs)
  shown_hashes [] all = All-nil (λ y. y.hash < p)
  shown_hashes (x ∷ []) all =
      let first = All-head (λ y. y.hash < p) x [] all in
      pair_hash (left_of x) (right_of x) (left_hash x first) (right_hash x first)
  shown_hashes (x ∷ y ∷ more) all =
      let first = All-head (λ y. y.hash < p) x (y ∷ more) all in
      let rest = All-tail (λ y. y.hash < p) x (y ∷ more) all in
      elim (cases_Bool (x.index / 2 == y.index / 2)) [
        | inl s ↦ rw s (All-append (λ y. y.hash < p) (shown_pair t is_leaf x y) (shown_spots t is_leaf more) (pair_hash x y first (All-head (λ y. y.hash < p) y more rest)) (shown_hashes more (All-tail (λ y. y.hash < p) y more rest)))
        | inr s ↦ rw s (All-append (λ y. y.hash < p) (shown_pair t is_leaf (left_of x) (right_of x)) (shown_spots t is_leaf (y ∷ more)) (pair_hash (left_of x) (right_of x) (left_hash x first) (right_hash x first)) (shown_hashes (y ∷ more) rest))
      ]

  -- so is that of the first one from an index on
  pub first_hash : (from : ℕ) (xs : List Node) (x : Node) → All (λ y. y.hash < p) xs → slice_get (from_on from (shown_spots t is_leaf xs)) 0 ≡ Some x → x.hash < p
  first_hash from xs x all is = head_hash (from_on from (shown_spots t is_leaf xs)) (All-filter (λ y. nat_le from y.index) (λ y. y.hash < p) (shown_spots t is_leaf xs) (shown_hashes xs all)) is
    where
      head_hash : (ys : List Node) → All (λ y. y.hash < p) ys → slice_get ys 0 ≡ Some x → x.hash < p
      head_hash [] each none = absurd (none-some x none)
      head_hash (y ∷ ys) each is = subst (λ z. z.hash < p) (same_Some y x is) (All-head (λ y. y.hash < p) y ys each)
