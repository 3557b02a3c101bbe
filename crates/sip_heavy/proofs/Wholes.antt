-- The nodes above those that are not zero are those of the level above.
use Rattle.std.proofs.Common.{◌≡◌, ◌≢◌, ℕ, zero, suc, ◌+◌, ◌-◌, ◌*◌, ◌/◌, ◌%◌, ◌^◌, ◌<◌, ◌≤◌, Bool, true, false, pos, List, [], ◌∷◌, ◌++◌, eqb, refl, sym, ap, subst, ◌∙◌, arith, inl, inr}
use Rattle.std.specs.Prelude.{◌==◌}
use Rattle.std.proofs.Math.Nat.{mod-eq_of_lt}
use Rattle.std.proofs.lemmas.Bool.{eq-eqb, ne_eqb}
use Rattle.std.proofs.lemmas.Bool.Decides.{eqb_tells, leb_tells}
use Rattle.std.proofs.lemmas.List.{append-nil}
use Rattle.sip_vector.specs.Trees.{parent, up3}
use Rattle.sip_wire.specs.declared.message.Node.{Node}
use Rattle.sip_heavy.specs.AcceptsHeavy.{counted, joined}
use Rattle.sip_heavy.specs.Honest.{node_at, shown_pair, shown_from}
use Rattle.sip_heavy.specs.Spots.{left_of, right_of, shown_spots, spots_above, nothing, place, behind_place, whole_level}
use Rattle.sip_heavy.specs.Rising.{Rises}

-- nothing stands above nothing
zeros_above : (p r : ℕ) → 0 < p → parent p nothing nothing r ≡ nothing
zeros_above p r some =
    let z : 0 % p ≡ 0 = mod-eq_of_lt some in
    let e : 0 + 0 * r + 0 * r ^ 2 + 0 * r ^ 3 ≡ 0 = omega arith in
    let hash : (0 + 0 % p * r + 0 * r ^ 2 + 0 % p * r ^ 3) % p ≡ 0 = rw (z, e) z in
    ap (λ (h : ℕ). record { hash = h; count = pos 0 }) hash

-- the first node above lies above the first node
head_index : (p r : ℕ) (x : Node) → (joined p r (left_of x) (right_of x)).index ≡ x.index / 2
head_index p r x = elim (eqb_tells (x.index % 2) 0) [
  | inl s ↦ rw s.0 refl
  | inr s ↦ rw s.0 (omega (arith, s.1))
]

pub record Later (p r k : ℕ) (xs : List Node) : Type 0 where
  pub here : place k (spots_above p r xs) ≡ nothing
  pub rest : behind_place k (spots_above p r xs) ≡ spots_above p r xs

later_above : (p r k : ℕ) (x : Node) (xs : List Node) → x.index / 2 ≢ k → Later p r k (x ∷ xs)
later_above p r k x [] other =
    let off : (x.index / 2 == k) ≡ false = ne_eqb (x.index / 2) k other in
    record { here = rw (head_index p r x, off) refl; rest = rw (head_index p r x, off) refl }
later_above p r k x (y ∷ more) other =
    let off : (x.index / 2 == k) ≡ false = ne_eqb (x.index / 2) k other in
    elim (eqb_tells (x.index / 2) (y.index / 2)) [
      | inl s ↦ record { here = rw (s.0, off) refl; rest = rw (s.0, off) refl }
      | inr s ↦ record { here = rw (s.0, head_index p r x, off) refl; rest = rw (s.0, head_index p r x, off) refl }
    ]

-- the pair below one place
pub record Above (p r k : ℕ) (xs : List Node) : Type 0 where
  pub here : place k (spots_above p r xs) ≡ parent p (place (k + k) xs) (place (suc (k + k)) (behind_place (k + k) xs)) r
  pub rest : behind_place k (spots_above p r xs) ≡ spots_above p r (behind_place (suc (k + k)) (behind_place (k + k) xs))

module _ (p r : ℕ) (some : 0 < p) where
  pub above : (k n : ℕ) (xs : List Node) → Rises (k + k) n xs → Above p r k xs
  above k n [] rises = record { here = sym (zeros_above p r some); rest = refl }
  above k n (x ∷ xs) rises = elim (eqb_tells x.index (k + k)) [
    | inl s ↦ above_left k n x xs s.0 s.1 rises
    | inr s ↦ elim (eqb_tells x.index (suc (k + k))) [
      | inl t ↦ above_right k n x xs s.0 t.0 t.1 rises
      | inr t ↦
          let late = later_above p r k x xs (λ e. absurd (omega (arith, e, s.1, t.1, rises.0))) in
          record {
            here = late.here ∙ rw (s.0, t.0) (sym (zeros_above p r some));
            rest = late.rest ∙ rw (s.0, t.0) refl;
          }
    ]
  ]
    where
      above_left : (k n : ℕ) (x : Node) (xs : List Node) → eqb x.index (k + k) ≡ true → x.index ≡ k + k → Rises (k + k) n (x ∷ xs) → Above p r k (x ∷ xs)
      above_left k n x [] at is rises =
          let even : (x.index % 2 == 0) ≡ true = eq-eqb (x.index % 2) 0 (omega (arith, is)) in
          let half : (x.index / 2 == k) ≡ true = eq-eqb (x.index / 2) k (omega (arith, is)) in
          record { here = rw (at, even, half) refl; rest = rw (at, even, half) refl }
      above_left k n x (y ∷ more) at is rises =
          let even : (x.index % 2 == 0) ≡ true = eq-eqb (x.index % 2) 0 (omega (arith, is)) in
          let half : (x.index / 2 == k) ≡ true = eq-eqb (x.index / 2) k (omega (arith, is)) in
          elim (eqb_tells y.index (suc (k + k))) [
            | inl t ↦
                let same : (x.index / 2 == y.index / 2) ≡ true = eq-eqb (x.index / 2) (y.index / 2) (omega (arith, is, t.1)) in
                record { here = rw (at, same, half, t.0) refl; rest = rw (at, same, half, t.0) refl }
            | inr t ↦
                let other : (x.index / 2 == y.index / 2) ≡ false = ne_eqb (x.index / 2) (y.index / 2) (λ e. absurd (omega (arith, e, is, t.1, rises.2.0))) in
                record { here = rw (at, other, even, half, t.0) refl; rest = rw (at, other, even, half, t.0) refl }
          ]

      above_right : (k n : ℕ) (x : Node) (xs : List Node) → eqb x.index (k + k) ≡ false → eqb x.index (suc (k + k)) ≡ true → x.index ≡ suc (k + k) → Rises (k + k) n (x ∷ xs) → Above p r k (x ∷ xs)
      above_right k n x [] off at is rises =
          let odd : (x.index % 2 == 0) ≡ false = ne_eqb (x.index % 2) 0 (λ e. absurd (omega (arith, e, is))) in
          let half : ((x.index - 1) / 2 == k) ≡ true = eq-eqb ((x.index - 1) / 2) k (omega (arith, is)) in
          record { here = rw (off, at, odd, half) refl; rest = rw (off, at, odd, half) refl }
      above_right k n x (y ∷ more) off at is rises =
          let odd : (x.index % 2 == 0) ≡ false = ne_eqb (x.index % 2) 0 (λ e. absurd (omega (arith, e, is))) in
          let half : ((x.index - 1) / 2 == k) ≡ true = eq-eqb ((x.index - 1) / 2) k (omega (arith, is)) in
          let other : (x.index / 2 == y.index / 2) ≡ false = ne_eqb (x.index / 2) (y.index / 2) (λ e. absurd (omega (arith, e, is, rises.2.0))) in
          record { here = rw (off, at, other, odd, half) refl; rest = rw (off, at, other, odd, half) refl }

rises_behind : (n i : ℕ) (xs : List Node) → Rises i n xs → Rises (suc i) n (behind_place i xs)
rises_behind n i [] rises = tt
rises_behind n i (x ∷ xs) rises = elim (eqb_tells x.index i) [
  | inl s ↦ rw s.0 (subst (λ a. Rises (suc a) n xs) s.1 rises.2)
  | inr s ↦ rw s.0 (omega (arith, s.1, rises.0), rises.1, rises.2)
]

-- the list of the level above stands for the level above
pub whole_above : (p r : ℕ) → 0 < p → (m k n : ℕ) (xs : List Node) → Rises (k + k) n xs → up3 p (whole_level (m + m) (k + k) xs) r ≡ whole_level m k (spots_above p r xs)
unfolding whole_level
whole_above p r some zero k n xs rises = refl
whole_above p r some (suc m) k n xs rises =
    let e : suc m + suc m ≡ suc (suc (m + m)) = omega arith in
    let i : suc k + suc k ≡ suc (suc (k + k)) = omega arith in
    let one = above p r some k n xs rises in
    let left = behind_place (suc (k + k)) (behind_place (k + k) xs) in
    let later = rises_behind n (suc (k + k)) (behind_place (k + k) xs) (rises_behind n (k + k) xs rises) in
    rw (e, one.here, one.rest) (ap (λ ys. parent p (place (k + k) xs) (place (suc (k + k)) (behind_place (k + k) xs)) r ∷ ys)
    (subst (λ j. up3 p (whole_level (m + m) j left) r ≡ whole_level m (suc k) (spots_above p r left)) i (whole_above p r some m (suc k) n left (subst (λ j. Rises j n left) (sym i) later))))

-- ---- what is shown

node_is : (i : ℕ) (x : Node) → x.index ≡ i → node_at i (counted x) ≡ x
node_is i x is = ap (λ (j : ℕ). record { index = j; hash = x.hash; count = x.count }) (sym is)

none_shown : (t : ℕ) (is_leaf : Bool) (i j : ℕ) → 1 ≤ t → shown_pair t is_leaf (node_at i nothing) (node_at j nothing) ≡ []
none_shown t is_leaf i j some = elim (leb_tells t 0) [
  | inl s ↦ absurd (omega (arith, s.1))
  | inr s ↦ rw s.0 refl
]

module _ (t : ℕ) (is_leaf : Bool) (some : 1 ≤ t) where
  first_shown : (k n : ℕ) (xs : List Node) → Rises (k + k) n xs → shown_spots t is_leaf xs
      ≡ shown_pair t is_leaf (node_at (k + k) (place (k + k) xs)) (node_at (suc (k + k)) (place (suc (k + k)) (behind_place (k + k) xs)))
      ++ shown_spots t is_leaf (behind_place (suc (k + k)) (behind_place (k + k) xs))
  first_shown k n [] rises = rw (none_shown t is_leaf (k + k) (suc (k + k)) some) refl
  first_shown k n (x ∷ xs) rises = elim (eqb_tells x.index (k + k)) [
    | inl s ↦ shown_left k n x xs s.0 s.1 rises
    | inr s ↦ elim (eqb_tells x.index (suc (k + k))) [
      | inl u ↦ shown_right k n x xs s.0 u.0 u.1 rises
      | inr u ↦ rw (s.0, u.0, none_shown t is_leaf (k + k) (suc (k + k)) some) refl
    ]
  ]
    where
      shown_left : (k n : ℕ) (x : Node) (xs : List Node) → eqb x.index (k + k) ≡ true → x.index ≡ k + k → Rises (k + k) n (x ∷ xs) → shown_spots t is_leaf (x ∷ xs)
          ≡ shown_pair t is_leaf (node_at (k + k) (place (k + k) (x ∷ xs))) (node_at (suc (k + k)) (place (suc (k + k)) (behind_place (k + k) (x ∷ xs))))
          ++ shown_spots t is_leaf (behind_place (suc (k + k)) (behind_place (k + k) (x ∷ xs)))
      shown_left k n x [] at is rises =
          let even : (x.index % 2 == 0) ≡ true = eq-eqb (x.index % 2) 0 (omega (arith, is)) in
          let next : x.index + 1 ≡ suc (k + k) = omega (arith, is) in
          rw (at, even, next, node_is (k + k) x is) (sym (append-nil _))
      shown_left k n x (y ∷ more) at is rises =
          let even : (x.index % 2 == 0) ≡ true = eq-eqb (x.index % 2) 0 (omega (arith, is)) in
          let next : x.index + 1 ≡ suc (k + k) = omega (arith, is) in
          elim (eqb_tells y.index (suc (k + k))) [
            | inl u ↦
                let same : (x.index / 2 == y.index / 2) ≡ true = eq-eqb (x.index / 2) (y.index / 2) (omega (arith, is, u.1)) in
                rw (at, same, u.0, node_is (k + k) x is, node_is (suc (k + k)) y u.1) refl
            | inr u ↦
                let other : (x.index / 2 == y.index / 2) ≡ false = ne_eqb (x.index / 2) (y.index / 2) (λ e. absurd (omega (arith, e, is, u.1, rises.2.0))) in
                rw (at, other, even, u.0, next, node_is (k + k) x is) refl
          ]

      shown_right : (k n : ℕ) (x : Node) (xs : List Node) → eqb x.index (k + k) ≡ false → eqb x.index (suc (k + k)) ≡ true → x.index ≡ suc (k + k) → Rises (k + k) n (x ∷ xs) → shown_spots t is_leaf (x ∷ xs)
          ≡ shown_pair t is_leaf (node_at (k + k) (place (k + k) (x ∷ xs))) (node_at (suc (k + k)) (place (suc (k + k)) (behind_place (k + k) (x ∷ xs))))
          ++ shown_spots t is_leaf (behind_place (suc (k + k)) (behind_place (k + k) (x ∷ xs)))
      shown_right k n x [] off at is rises =
          let odd : (x.index % 2 == 0) ≡ false = ne_eqb (x.index % 2) 0 (λ e. absurd (omega (arith, e, is))) in
          let back : x.index - 1 ≡ k + k = omega (arith, is) in
          rw (off, at, odd, back, node_is (suc (k + k)) x is) (sym (append-nil _))
      shown_right k n x (y ∷ more) off at is rises =
          let odd : (x.index % 2 == 0) ≡ false = ne_eqb (x.index % 2) 0 (λ e. absurd (omega (arith, e, is))) in
          let back : x.index - 1 ≡ k + k = omega (arith, is) in
          let other : (x.index / 2 == y.index / 2) ≡ false = ne_eqb (x.index / 2) (y.index / 2) (λ e. absurd (omega (arith, e, is, rises.2.0))) in
          rw (off, at, other, odd, back, node_is (suc (k + k)) x is) refl

  -- what is shown of the list is what is shown of the level
  pub shown_is : (m k : ℕ) (xs : List Node) → Rises (k + k) (k + k + (m + m)) xs → shown_from t is_leaf (k + k) (whole_level (m + m) (k + k) xs) ≡ shown_spots t is_leaf xs
  unfolding whole_level
  shown_is zero k [] rises = refl
  shown_is zero k (x ∷ xs) rises = absurd (omega (arith, rises.0, rises.1))
  shown_is (suc m) k xs rises =
      let e : suc m + suc m ≡ suc (suc (m + m)) = omega arith in
      let i : suc k + suc k ≡ suc (suc (k + k)) = omega arith in
      let one : k + k + 1 ≡ suc (k + k) = omega arith in
      let two : k + k + 2 ≡ suc (suc (k + k)) = omega arith in
      let ends : k + k + (suc m + suc m) ≡ suc k + suc k + (m + m) = omega arith in
      let n : ℕ = k + k + (suc m + suc m) in
      let left = behind_place (suc (k + k)) (behind_place (k + k) xs) in
      let later : Rises (suc (suc (k + k))) n left = rises_behind n (suc (k + k)) (behind_place (k + k) xs) (rises_behind n (k + k) xs rises) in
      let rest : Rises (suc k + suc k) (suc k + suc k + (m + m)) left = subst (λ b. Rises (suc k + suc k) b left) ends (subst (λ j. Rises j n left) (sym i) later) in
      rw (e, one, two) (
      ap (λ ys. shown_pair t is_leaf (node_at (k + k) (place (k + k) xs)) (node_at (suc (k + k)) (place (suc (k + k)) (behind_place (k + k) xs))) ++ ys)
      (subst (λ j. shown_from t is_leaf j (whole_level (m + m) j left) ≡ shown_spots t is_leaf left) i (shown_is m (suc k) left rest))
      ∙ sym (first_shown k n xs rises)
      )
