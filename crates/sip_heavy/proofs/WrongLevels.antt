-- One level: where some node is wrong, or no node stands at or above a heavy leaf yet, the level above clears that up for at most three challenges.
use Rattle.std.proofs.Common.{◌≡◌, ℕ, ◌+◌, ◌*◌, ◌/◌, ◌%◌, ◌<◌, ◌≤◌, Bool, true, false, ◌&&◌, ◌||◌, eqb, ltb, leb, List, [], ◌∷◌, map, refl, ap, sym, ◌∙◌, arith, inl, inr, ◌⊎◌}
use Rattle.std.specs.Prelude.{nat_lt, nat_le, ◌==◌, if◌then◌else◌}
use Rattle.std.specs.List.{list_all, list_any}
use Rattle.std.proofs.lemmas.Bool.{cases_Bool, cases_eq, eqb-true, eq-eqb, ltb-true, leb-true, le-leb, and_parts, and_from, and_cases, or_cases, or_left, or_right, both_ways, false_from_ne_true}
use Rattle.std.proofs.lemmas.List.Folds.{list_all-append, list_any-append}
use Rattle.sip_field.specs.Prime.{IsPrime}
use Rattle.sip_counts.specs.Counts.{count_below}
use Rattle.sip_counts.proofs.Sums.{count_below-grows, count_below-none}
use Rattle.sip_wire.specs.declared.message.Node.{Node}
use Rattle.sip_heavy.specs.AcceptsHeavy.{are_pairs, pair_counts, nodes_above, nodes_below, nodes_from, merged}
use Rattle.sip_heavy.proofs.Merging.{below_and_from}
use Rattle.sip_heavy.specs.TrueNodes.{Spot, is_spot, are_true, level_above}
use Rattle.sip_heavy.proofs.WrongNodes.{pair_at, few_true_above}

-- ---- what is clear

-- a node stands at this index
abbrev pub has : List Node → ℕ → Bool
has nodes i = list_any (λ k. k.index == i) nodes

-- those indices at which none stands
abbrev pub left_over : List Node → List ℕ → List ℕ
left_over nodes [] = []
left_over nodes (i ∷ rest) = if has nodes i then left_over nodes rest else (i ∷ left_over nodes rest)

-- the indices of the level above
abbrev pub halves : List ℕ → List ℕ
halves indices = map (λ i. i / 2) indices

-- no node is wrong, and at each of these indices one stands
abbrev pub is_clear : ℕ → (ℕ → Spot) → List ℕ → List Node → Bool
is_clear p truth heavy nodes = are_true p truth nodes && list_all (has nodes) heavy

-- the true counts at these indices are t or more
abbrev pub are_heavy : ℕ → (ℕ → Spot) → List ℕ → Bool
are_heavy t truth heavy = list_all (λ i. nat_le t (truth i).1) heavy

-- ---- merged lists

pub merged_all : (f : Node → Bool) (known received : List Node) → list_all f (merged known received) ≡ true → (list_all f known ≡ true) × (list_all f received ≡ true)
merged_all f known [] h = (h, refl)
merged_all f known (x ∷ received) h =
    let lower = nodes_below x.index known in
    let upper = nodes_from x.index known in
    let a = and_parts (list_all f lower) (f x && list_all f (merged upper received)) (sym (list_all-append f lower (x ∷ merged upper received)) ∙ h) in
    let b = and_parts (f x) (list_all f (merged upper received)) a.1 in
    let c = merged_all f upper received b.1 in (
      sym (ap (list_all f) (below_and_from x.index known)) ∙ list_all-append f lower upper ∙ and_from (list_all f lower) (list_all f upper) a.0 c.0,
      and_from (f x) (list_all f received) b.0 c.1,
    )

pub merged_any : (f : Node → Bool) (known received : List Node) → list_any f (merged known received) ≡ true → (list_any f known ≡ true) ⊎ (list_any f received ≡ true)
merged_any f known [] h = inl h
merged_any f known (x ∷ received) h =
    let lower = nodes_below x.index known in
    let upper = nodes_from x.index known in
    let whole : list_any f known ≡ (list_any f lower || list_any f upper) = sym (ap (list_any f) (below_and_from x.index known)) ∙ list_any-append f lower upper in
    elim (or_cases (list_any f lower) (f x || list_any f (merged upper received)) (sym (list_any-append f lower (x ∷ merged upper received)) ∙ h)) [
      | inl a ↦ inl (whole ∙ or_left (list_any f lower) (list_any f upper) a)
      | inr a ↦ elim (or_cases (f x) (list_any f (merged upper received)) a) [
        | inl b ↦ inr (or_left (f x) (list_any f received) b)
        | inr b ↦ elim (merged_any f upper received b) [
          | inl c ↦ inl (whole ∙ or_right (list_any f lower) (list_any f upper) c)
          | inr c ↦ inr (or_right (f x) (list_any f received) c)
        ]
      ]
    ]

-- ---- heavy leaves without a node

-- a node counts no more than the one above it
count_half : (truth : ℕ → Spot) (i : ℕ) → (truth i).1 ≤ (truth (2 * (i / 2))).1 + (truth (2 * (i / 2) + 1)).1
count_half truth i = elim (cases_eq i (2 * (i / 2))) [
  | inl e ↦ omega (arith, ap (λ k. (truth k).1) e)
  | inr e ↦ let odd : i ≡ 2 * (i / 2) + 1 = omega arith in omega (arith, ap (λ k. (truth k).1) odd)
]

-- what is above a heavy index is heavy
pub heavy_above : (p t x : ℕ) (truth : ℕ → Spot) (nodes : List Node) (heavy : List ℕ) → are_heavy t truth heavy ≡ true → are_heavy t (level_above p x truth) (halves (left_over nodes heavy)) ≡ true
heavy_above p t x truth nodes [] all = refl
heavy_above p t x truth nodes (i ∷ rest) all =
    let parts = and_parts (leb t (truth i).1) (are_heavy t truth rest) all in
    let ih = heavy_above p t x truth nodes rest parts.1 in
    elim (cases_Bool (has nodes i)) [
      | inl e ↦ rw e ih
      | inr e ↦
          let here : leb t ((truth (2 * (i / 2))).1 + (truth (2 * (i / 2) + 1)).1) ≡ true = le-leb t _ (omega (arith, count_half truth i, leb-true t (truth i).1 parts.0)) in
          rw e (and_from (leb t ((truth (2 * (i / 2))).1 + (truth (2 * (i / 2) + 1)).1)) (are_heavy t (level_above p x truth) (halves (left_over nodes rest))) here ih)
    ]

-- a heavy index without a node, and with one above it
record Uncovered (t : ℕ) (truth : ℕ → Spot) (nodes above : List Node) : Type 0 where
  at : ℕ
  heavy : t ≤ (truth at).1
  missing : has nodes at ≡ false
  found : has above (at / 2) ≡ true

some_left : (t : ℕ) (truth : ℕ → Spot) (nodes above : List Node) (heavy : List ℕ) → are_heavy t truth heavy ≡ true → list_all (has nodes) heavy ≡ false → list_all (has above) (halves (left_over nodes heavy)) ≡ true
    → Uncovered t truth nodes above
some_left t truth nodes above [] all missing found = absurd (cc)
some_left t truth nodes above (i ∷ rest) all missing found =
    let parts = and_parts (leb t (truth i).1) (are_heavy t truth rest) all in
    elim (cases_Bool (has nodes i)) [
      | inl e ↦ some_left t truth nodes above rest parts.1 (rw e at missing) (rw e at found)
      | inr e ↦
          let f : list_all (has above) (i / 2 ∷ halves (left_over nodes rest)) ≡ true = rw e at found in
          record {
            at = i;
            heavy = leb-true t (truth i).1 parts.0;
            missing = e;
            found = (and_parts (has above (i / 2)) (list_all (has above) (halves (left_over nodes rest))) f).0;
          }
    ]

-- where a known node stands above an index, one stands at it
has_below : (p x : ℕ) (nodes : List Node) (i : ℕ) → are_pairs nodes ≡ true → has (nodes_above p x nodes) (i / 2) ≡ true → has nodes i ≡ true
has_below p x [] i pairs found = absurd (cc)
has_below p x (l ∷ []) i pairs found = absurd (cc)
has_below p x (l ∷ h ∷ more) i pairs found =
    let at = pair_at l h more pairs in
    elim (or_cases (eqb (l.index / 2) (i / 2)) (has (nodes_above p x more) (i / 2)) found) [
      | inl e ↦
          let same : l.index / 2 ≡ i / 2 = eqb-true (l.index / 2) (i / 2) e in
          elim (cases_eq l.index i) [
            | inl a ↦ or_left (eqb l.index i) (has (h ∷ more) i) (eq-eqb l.index i a)
            | inr a ↦ or_right (eqb l.index i) (has (h ∷ more) i) (or_left (eqb h.index i) (has more i) (eq-eqb h.index i (omega (arith, at.0, at.1, same))))
          ]
      | inr e ↦ or_right (eqb l.index i) (has (h ∷ more) i) (or_right (eqb h.index i) (has more i) (has_below p x more i at.2 e))
    ]

-- where a light node stands that isn't wrong, the true count is light
light_below : (t p : ℕ) (truth : ℕ → Spot) (received : List Node) (i : ℕ) → list_all (λ y. nat_lt y.count t) received ≡ true → are_true p truth received ≡ true → has received i ≡ true → (truth i).1 < t
light_below t p truth [] i light right found = absurd (cc)
light_below t p truth (x ∷ rest) i light right found =
    let l = and_parts (ltb x.count t) (list_all (λ y. nat_lt y.count t) rest) light in
    let r = and_parts (is_spot p x (truth x.index)) (are_true p truth rest) right in
    elim (or_cases (eqb x.index i) (has rest i) found) [
      | inl e ↦
          let at : x.index ≡ i = eqb-true x.index i e in
          let same : x.count ≡ (truth x.index).1 = eqb-true x.count (truth x.index).1 (and_parts (eqb (x.hash % p) ((truth x.index).0 % p)) (eqb x.count (truth x.index).1) r.0).1 in
          omega (arith, ltb-true x.count t l.0, ap (λ k. (truth k).1) at)
      | inr e ↦ light_below t p truth rest i l.1 r.1 e
    ]

-- ---- one level

-- light nodes are received at the level above, and it is clear then
pub record ClearsAbove (p t : ℕ) (truth : ℕ → Spot) (heavy : List ℕ) (nodes : List Node) (x : ℕ) : Type 0 where
  pub received : List Node
  pub light : list_all (λ y. nat_lt y.count t) received ≡ true
  pub clear : is_clear p (level_above p x truth) (halves (left_over nodes heavy)) (merged (nodes_above p x nodes) received) ≡ true

module _ (p t : ℕ) (prime : IsPrime p) (truth : ℕ → Spot) (heavy : List ℕ) (nodes : List Node) (pairs : are_pairs nodes ≡ true) (small : list_all (λ c. nat_lt c p) (pair_counts nodes) ≡ true) (are : are_heavy t truth heavy ≡ true) where
  -- known nodes are right where the level above is clear
  known_right : (x : ℕ) → ClearsAbove p t truth heavy nodes x → are_true p (level_above p x truth) (nodes_above p x nodes) ≡ true
  known_right x c =
      (merged_all (λ y. is_spot p y (level_above p x truth y.index)) (nodes_above p x nodes) c.received
      (and_parts (are_true p (level_above p x truth) (merged (nodes_above p x nodes) c.received)) (list_all (has (merged (nodes_above p x nodes) c.received)) (halves (left_over nodes heavy))) c.clear).0).0

  -- no received node clears up a heavy leaf
  none_uncovers : (x : ℕ) → list_all (has nodes) heavy ≡ false → ClearsAbove p t truth heavy nodes x → ⊥
  none_uncovers x missing c =
      let above : List Node = merged (nodes_above p x nodes) c.received in
      let parts = and_parts (are_true p (level_above p x truth) above) (list_all (has above) (halves (left_over nodes heavy))) c.clear in
      let u = some_left t truth nodes above heavy are missing parts.1 in
      elim (merged_any (λ k. k.index == u.at / 2) (nodes_above p x nodes) c.received u.found) [
        | inl e ↦ both_ways (has nodes u.at) u.missing (has_below p x nodes u.at pairs e)
        | inr e ↦
            let right = (merged_all (λ y. is_spot p y (level_above p x truth y.index)) (nodes_above p x nodes) c.received parts.0).1 in
            let light = light_below t p (level_above p x truth) c.received (u.at / 2) c.light right e in
            absurd (omega (arith, light, count_half truth u.at, u.heavy))
      ]

  pub level_step : is_clear p truth heavy nodes ≡ false → (next : ℕ → Bool) → ((x : ℕ) → next x ≡ true → ClearsAbove p t truth heavy nodes x) → count_below p next ≤ 3
  level_step wrong next clears = elim (and_cases (are_true p truth nodes) (list_all (has nodes) heavy) wrong) [
    | inl bad ↦
        let few = few_true_above p prime truth nodes pairs small bad in
        let grows = count_below-grows p next (λ x. are_true p (level_above p x truth) (nodes_above p x nodes)) (λ x _ k. known_right x (clears x k)) in
        omega arith
    | inr missing ↦ omega (arith, count_below-none p next (λ x _. false_from_ne_true (next x) (λ k. none_uncovers x missing (clears x k))))
  ]
