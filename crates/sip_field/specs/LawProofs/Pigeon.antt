-- Different numbers below m are at most m.
use Rattle.std.proofs.Common.{◌≡◌, ◌≢◌, ℕ, zero, suc, ◌<◌, ◌≤◌, ◌⊎◌, inl, inr, cond, refl, sym, ◌∙◌}
use Rattle.std.proofs.Common.{arith, eq-eqb}
use Rattle.std.proofs.lemmas.Bool.{cases_eq, ne_eqb}
use Rattle.std.proofs.Math.Dec.{eqb}

-- c in the place of m
swapped : ℕ → ℕ → ℕ → ℕ
swapped m c a = cond (eqb a m) c a

-- m goes to c, and every other number to itself
swapped_cases : (m c a : ℕ) → ((a ≡ m) × (swapped m c a ≡ c)) ⊎ ((a ≢ m) × (swapped m c a ≡ a))
unfolding swapped
swapped_cases m c a = elim (cases_eq a m) [
  | inl same ↦ inl (same, rw (eq-eqb a m same) refl)
  | inr other ↦ inr (other, rw (ne_eqb a m other) refl)
]

-- so numbers up to m go below m, where m and c don't stand together
swapped_below : (m c a : ℕ) → a < suc m → c < suc m → (a ≡ m → c ≢ m) → swapped m c a < m
swapped_below m c a la lc ne = elim (swapped_cases m c a) [
  | inl h ↦ rw h.1 (let d : c ≢ m = ne h.0 in omega arith)
  | inr h ↦ rw h.1 (let d : a ≢ m = h.0 in omega arith)
]

-- and different numbers other than c go to different ones
swapped_differ : (m c a b : ℕ) → a ≢ b → a ≢ c → b ≢ c → swapped m c a ≢ swapped m c b
swapped_differ m c a b ab ac bc e = elim (swapped_cases m c a) [
  | inl h ↦ elim (swapped_cases m c b) [
    | inl k ↦ ab (h.0 ∙ sym k.0)
    | inr k ↦ bc (sym k.1 ∙ sym e ∙ h.1)
  ]
  | inr h ↦ elim (swapped_cases m c b) [
    | inl k ↦ ac (sym h.1 ∙ e ∙ k.1)
    | inr k ↦ ab (sym h.1 ∙ e ∙ k.1)
  ]
]

-- n different numbers below m: n is at most m
pub pigeon : (m n : ℕ) (f : ℕ → ℕ) → ((i : ℕ) → i < n → f i < m) →
    ((i j : ℕ) → i < j → j < n → f i ≢ f j) → n ≤ m
pigeon m zero f below differ = omega arith
pigeon zero (suc n) f below differ = absurd (let h : f 0 < 0 = below 0 (omega arith) in omega arith)
pigeon (suc m) (suc n) f below differ =
    let less : n ≤ m = pigeon m n (λ i. swapped m (f n) (f i))
    (λ i h. swapped_below m (f n) (f i) (below i (omega arith)) (below n (omega arith))
    (λ e d. differ i n h (omega arith) (e ∙ sym d)))
    (λ i j h k. swapped_differ m (f n) (f i) (f j) (differ i j h (omega arith))
    (differ i n (omega arith) (omega arith)) (differ j n k (omega arith))) in
    omega arith
