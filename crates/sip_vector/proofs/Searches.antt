-- The search among a level's spots, and what the first node that is not 0 tells of the nodes.
use Rattle.std.proofs.Common.{◌≡◌, ◌≢◌, Bor, eqb, ◌&&◌, ℕ, zero, suc, ◌+◌, ◌<◌, ◌≤◌, Bool, true, false, not, leb, ltb, List, [], ◌∷◌, length, get_or, drop, map, filter, Option, Some, None, MatchOption, slice_get, refl, sym, ap, subst, ◌∙◌, inl, inr, arith}
use Rattle.std.specs.List.{enumerate_from}
use Rattle.std.specs.List.Sorted.{IsPartitionedBy, IsPartitionPoint}
use Rattle.std.proofs.lemmas.Bool.{ne_eqb, cases_lt}
use Rattle.std.specs.Option.{option_map, option_copied, is_some, IfSome}
use Rattle.std.proofs.lemmas.Option.{slice_get_past, slice_get_read}
use Rattle.std.proofs.lemmas.Bool.Decides.{leb_tells, eqb_tells, nat_tests}
use Rattle.sip_vector.specs.declared.level.Spot.{Spot}
use Rattle.sip_vector.specs.Sparse.{dense, IsSparse}
use Rattle.sip_vector.specs.Levels.{index_and_residue, nonzero_from}
use Rattle.sip_vector.proofs.Dense.{passing-dense}
use Rattle.sip_vector.proofs.Filters.{filter-both}

-- what `get` and `copied` give
pub copied-is : {X : Type 0} (xs : List X) (i : ℕ) (r : Option (Bor X)) → is_some r ≡ ltb i (length xs) → IfSome r (λ x. x.now ≡ get_or xs i x.now) → option_copied r ≡ slice_get xs i
copied-is xs i None e h = elim (leb_tells (suc i) (length xs)) [
  | inl t ↦ let f : false ≡ true = e ∙ t.0 in cc
  | inr t ↦ sym (slice_get_past xs i (omega (arith, t.1)))
]
copied-is xs i (Some x) e h = elim (leb_tells (suc i) (length xs)) [
  | inl t ↦ sym (slice_get_read xs (length xs) i x.now refl (omega (arith, t.1)) h)
  | inr t ↦ let f : true ≡ false = e ∙ t.0 in cc
]

module _ {F : Type 0} (number : F → ℕ) where
  abbrev pairs : List (Spot F) → List (ℕ × ℕ)
  pairs spots = map (index_and_residue number) spots

  least-le : (spots : List (Spot F)) (least n j : ℕ) (d : Spot F) → IsSparse 0 least n (pairs spots) → j < length spots → least ≤ (get_or spots j d).index
  least-le [] least n j d h below = absurd (omega arith)
  least-le (s ∷ spots) least n zero d h below = h.0
  least-le (s ∷ spots) least n (suc j) d h below =
      let tail = least-le spots (suc s.index) n j d h.3 (omega arith) in
      omega (arith, h.0, tail)

  rising : (spots : List (Spot F)) (least n i j : ℕ) (d : Spot F) → IsSparse 0 least n (pairs spots) → i ≤ j → j < length spots → (get_or spots i d).index ≤ (get_or spots j d).index
  rising [] least n i j d h le below = absurd (omega arith)
  rising (s ∷ spots) least n zero zero d h le below = omega arith
  rising (s ∷ spots) least n zero (suc j) d h le below =
      let tail = least-le spots (suc s.index) n j d h.3 (omega arith) in
      omega (arith, tail)
  rising (s ∷ spots) least n (suc i) zero d h le below = absurd (omega arith)
  rising (s ∷ spots) least n (suc i) (suc j) d h le below = rising spots (suc s.index) n i j d h.3 (omega arith) (omega arith)

  -- the spots before a bound come first
  pub spots-partitioned : (spots : List (Spot F)) (least n bound : ℕ) → IsSparse 0 least n (pairs spots) → IsPartitionedBy (λ s. ltb s.index bound) spots
  spots-partitioned spots least n bound h i j d le below passes =
      let up = rising spots least n i j d h le below in
      elim (leb_tells (suc (get_or spots i d).index) bound) [
        | inl t ↦ t.0
        | inr t ↦ elim (leb_tells (suc (get_or spots j d).index) bound) [
          | inl u ↦ absurd (omega (arith, t.1, u.1, up))
          | inr u ↦ let e : true ≡ false = sym passes ∙ u.0 in cc
        ]
      ]

  opposite : (k bound : ℕ) (b : Bool) → ltb k bound ≡ b → leb bound k ≡ not b
  opposite k bound b e = sym (rw (sym e) (grind (arith, nat_tests)))

  -- the others are those from the bound on
  filter-partitioned : (spots : List (Spot F)) (bound at : ℕ) → IsPartitionPoint (λ s. ltb s.index bound ≡ true) (λ s. ltb s.index bound ≡ false) spots at
      → filter (λ e. leb bound e.0) (pairs spots) ≡ pairs (drop at spots)
  filter-partitioned [] bound zero parts = refl
  filter-partitioned [] bound (suc at) parts = refl
  filter-partitioned (s ∷ spots) bound zero parts =
      let here : ltb s.index bound ≡ false = parts.1 0 s (omega arith) (omega arith) in
      rw (opposite s.index bound false here) (ap (λ es. index_and_residue number s ∷ es)
      (filter-partitioned spots bound zero (λ k d le lt. absurd (omega arith), λ k d le lt. parts.1 (suc k) d (omega arith) (omega arith))))
  filter-partitioned (s ∷ spots) bound (suc at) parts =
      let here : ltb s.index bound ≡ true = parts.0 0 s (omega arith) (omega arith) in
      rw (opposite s.index bound true here)
      (filter-partitioned spots bound at (λ k d le lt. parts.0 (suc k) d (omega arith) (omega arith), λ k d le lt. parts.1 (suc k) d (omega arith) (omega arith)))

  first-drop : (spots : List (Spot F)) (at : ℕ) → slice_get (pairs (drop at spots)) 0 ≡ option_map (index_and_residue number) (slice_get spots at)
  first-drop [] zero = refl
  first-drop [] (suc at) = refl
  first-drop (s ∷ spots) zero = refl
  first-drop (s ∷ spots) (suc at) = first-drop spots at

  -- the spot at the partition point is the first one that is not 0 from the bound on
  pub nonzero_from-is : (n bound at : ℕ) (spots : List (Spot F)) → IsSparse 0 0 n (pairs spots) → IsPartitionPoint (λ s. ltb s.index bound ≡ true) (λ s. ltb s.index bound ≡ false) spots at
      → option_map (index_and_residue number) (slice_get spots at) ≡ slice_get (nonzero_from bound (dense 0 n (pairs spots))) 0
  nonzero_from-is n bound at spots h parts =
      let all = enumerate_from 0 (dense 0 n (pairs spots)) in
      sym (ap (λ es. slice_get es 0) (filter-both (λ (e : ℕ × ℕ). leb bound e.0) (λ (e : ℕ × ℕ). not (eqb e.1 0)) all
      ∙ ap (filter (λ (e : ℕ × ℕ). leb bound e.0)) (passing-dense 0 (λ x. not (eqb x 0)) refl (λ x some. ap not (ne_eqb x 0 some)) 0 n (pairs spots) h)
      ∙ filter-partitioned spots bound at parts)
      ∙ first-drop spots at)

  not_below_0 : (i : ℕ) → ltb i 0 ≡ false
  not_below_0 i = grind (arith, nat_tests)

  -- from 0 on they are all spots
  pub nonzero_from-all : (n : ℕ) (spots : List (Spot F)) → IsSparse 0 0 n (pairs spots) → nonzero_from 0 (dense 0 n (pairs spots)) ≡ pairs spots
  nonzero_from-all n spots h =
      let all = enumerate_from 0 (dense 0 n (pairs spots)) in
      filter-both (λ (e : ℕ × ℕ). leb 0 e.0) (λ (e : ℕ × ℕ). not (eqb e.1 0)) all
      ∙ ap (filter (λ (e : ℕ × ℕ). leb 0 e.0)) (passing-dense 0 (λ x. not (eqb x 0)) refl (λ x some. ap not (ne_eqb x 0 some)) 0 n (pairs spots) h)
      ∙ filter-partitioned spots 0 0 (λ k d le lt. absurd (omega arith), λ k d le lt. not_below_0 (get_or spots k d).index)

-- ---- the first node that is not 0, and the nodes before it

-- s is the first of xs, numbered from `start` on, that is not 0 at `least` or after it
abbrev IsFirst : ℕ → ℕ → List ℕ → Option (ℕ × ℕ) → Type 0
IsFirst least start xs o = MatchOption o ((k : ℕ) → least ≤ start + k → get_or xs k 0 ≡ 0) (λ s.
    (j : ℕ) × (s.0 ≡ start + j) × (least ≤ s.0) × (get_or xs j 0 ≡ s.1) × ((k : ℕ) → least ≤ start + k → k < j → get_or xs k 0 ≡ 0))

is_first_later : (least start x : ℕ) (xs : List ℕ) (o : Option (ℕ × ℕ)) → (least ≤ start → x ≡ 0) → IsFirst least (start + 1) xs o → IsFirst least start (x ∷ xs) o
is_first_later least start x xs None zero_here h = by_place
  where
    by_place : (k : ℕ) → least ≤ start + k → get_or (x ∷ xs) k 0 ≡ 0
    by_place zero le = zero_here (omega arith)
    by_place (suc k) le = h k (omega arith)
is_first_later least start x xs (Some s) zero_here h = (suc h.0, omega (arith, h.1), h.2, h.3, by_place)
  where
    by_place : (k : ℕ) → least ≤ start + k → k < suc h.0 → get_or (x ∷ xs) k 0 ≡ 0
    by_place zero le lt = zero_here (omega arith)
    by_place (suc k) le lt = h.4 k (omega arith) (omega arith)

is_first : (least start : ℕ) (xs : List ℕ) → IsFirst least start xs (slice_get (filter (λ s. leb least s.0 && not (eqb s.1 0)) (enumerate_from start xs)) 0)
is_first least start [] = λ k le. refl
is_first least start (x ∷ xs) = elim (leb_tells least start) [
  | inl t ↦ elim (eqb_tells x 0) [
    | inl u ↦ rw (t.0, u.0) (is_first_later least start x xs _ (λ le. u.1) (is_first least (start + 1) xs))
    | inr u ↦ rw (t.0, u.0) (0, omega arith, t.1, refl, λ k le lt. absurd (omega arith))
  ]
  | inr t ↦ rw t.0 (is_first_later least start x xs _ (λ le. absurd (omega (arith, t.1))) (is_first least (start + 1) xs))
]

-- where there is none, or the first one comes later, the node is 0; where it comes there, it is
-- that one
pub node-none : (xs : List ℕ) (i : ℕ) → None ≡ slice_get (nonzero_from i xs) 0 → get_or xs i 0 ≡ 0
node-none xs i e = (subst (IsFirst i 0 xs) (sym e) (is_first i 0 xs)) i (omega arith)

pub node-later : (xs : List ℕ) (i j x : ℕ) → Some (j, x) ≡ slice_get (nonzero_from i xs) 0 → j ≢ i → get_or xs i 0 ≡ 0
node-later xs i j x e other =
    let h : IsFirst i 0 xs (Some (j, x)) = subst (IsFirst i 0 xs) (sym e) (is_first i 0 xs) in
    elim (cases_lt i h.0) [
      | inl lt ↦ h.4 i (omega arith) lt
      | inr le ↦ absurd (other (omega (arith, h.1, h.2)))
    ]

pub node-here : (xs : List ℕ) (i j x : ℕ) → Some (j, x) ≡ slice_get (nonzero_from i xs) 0 → j ≡ i → get_or xs i 0 ≡ x
node-here xs i j x e same =
    let h : IsFirst i 0 xs (Some (j, x)) = subst (IsFirst i 0 xs) (sym e) (is_first i 0 xs) in
    let place : h.0 ≡ i = omega (arith, h.1) in
    rw (← place) h.3
