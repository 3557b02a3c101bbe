-- A level of the tree, its windows, and the level above them: compared modulo p.
use Rattle.std.proofs.Common.{◌≡◌, ℕ, zero, suc, ◌+◌, ◌*◌, ◌-◌, ◌%◌, ◌≤◌, Bool, true, false, eqb, ◌&&◌, List, [], ◌∷◌, ◌++◌, length, take, drop, refl, ap, arith, inl, inr}
use Rattle.std.proofs.Math.Nat.{mod-mod}
use Rattle.std.proofs.lemmas.Bool.{cases_Bool, cases_eq, eqb-true, eq-eqb, and_parts, and_from, both_ways}
use Rattle.std.proofs.lemmas.List.{take_at, drop_at, take-take, drop-drop, drop-take}
use Rattle.sip_field.specs.Prime.{IsPrime}
use Rattle.sip_vector.specs.Trees.{up}
use Rattle.sip_counts.specs.Counts.{count_below}
use Rattle.sip_counts.proofs.Sums.{count_below-grows}
use Rattle.sip_counts.proofs.Roots.{value}
use Rattle.sip_counts.proofs.Differences.{few_agree}

-- the two lists are as long, and their numbers are the same modulo p
unfoldable pub agree : ℕ → List ℕ → List ℕ → Bool
agree p [] [] = true
agree p (a ∷ xs) (b ∷ ys) = eqb (a % p) (b % p) && agree p xs ys
agree p [] (b ∷ ys) = false
agree p (a ∷ xs) [] = false

-- the numbers from lo to hi of a level
abbrev pub window : List ℕ → ℕ → ℕ → List ℕ
window level lo hi = take (hi + 1 - lo) (drop lo level)

-- ---- agreement

pub agree-same : (p : ℕ) (xs : List ℕ) → agree p xs xs ≡ true
unfolding agree
agree-same p [] = refl
agree-same p (x ∷ xs) = and_from (eqb (x % p) (x % p)) (agree p xs xs) (eq-eqb (x % p) (x % p) refl) (agree-same p xs)

agree-cons : (p a c : ℕ) (xs ys : List ℕ) → a % p ≡ c % p → agree p xs ys ≡ true → agree p (a ∷ xs) (c ∷ ys) ≡ true
unfolding agree
agree-cons p a c xs ys e h = and_from (eqb (a % p) (c % p)) (agree p xs ys) (eq-eqb (a % p) (c % p) e) h

pub agree-parts : (p a c : ℕ) (xs ys : List ℕ) → agree p (a ∷ xs) (c ∷ ys) ≡ true → (a % p ≡ c % p) × (agree p xs ys ≡ true)
unfolding agree
agree-parts p a c xs ys h = let both = and_parts (eqb (a % p) (c % p)) (agree p xs ys) h in (eqb-true (a % p) (c % p) both.0, both.1)

agree-drop : (p n : ℕ) (xs ys : List ℕ) → agree p xs ys ≡ true → agree p (drop n xs) (drop n ys) ≡ true
unfolding agree
agree-drop p zero xs ys h = h
agree-drop p (suc n) [] [] h = refl
agree-drop p (suc n) [] (c ∷ ys) h = absurd (cc)
agree-drop p (suc n) (a ∷ xs) [] h = absurd (cc)
agree-drop p (suc n) (a ∷ xs) (c ∷ ys) h = agree-drop p n xs ys (agree-parts p a c xs ys h).1

agree-take : (p n : ℕ) (xs ys : List ℕ) → agree p xs ys ≡ true → agree p (take n xs) (take n ys) ≡ true
unfolding agree
agree-take p zero xs ys h = refl
agree-take p (suc n) [] [] h = refl
agree-take p (suc n) [] (c ∷ ys) h = absurd (cc)
agree-take p (suc n) (a ∷ xs) [] h = absurd (cc)
agree-take p (suc n) (a ∷ xs) (c ∷ ys) h =
    let w = agree-parts p a c xs ys h in
    agree-cons p a c (take n xs) (take n ys) w.0 (agree-take p n xs ys w.1)

-- where a list with siblings agrees with the whole pairs of a level, it agrees with its own window
pub agree-inside : (p e n lo hi : ℕ) (left known right level : List ℕ) → lo ≡ e + length left → length known ≡ hi + 1 - lo → length left + length known ≤ n → agree p (left ++ (known ++ right)) (take n (drop e level)) ≡ true → agree p known (window level lo hi) ≡ true
agree-inside p e n lo hi left known right level start len fits h =
    let d = agree-drop p (length left) (left ++ (known ++ right)) (take n (drop e level)) h in
    let t = agree-take p (length known) (drop (length left) (left ++ (known ++ right))) (drop (length left) (take n (drop e level))) d in
    let one : take (length known) (drop (length left) (left ++ (known ++ right))) ≡ known = rw (drop_at left (known ++ right) (length left) refl) (take_at known right (length known) refl) in
    let split : n ≡ length left + (n - length left) = omega arith in
    let room : length known ≤ n - length left = omega arith in
    let two : take (length known) (drop (length left) (take n (drop e level))) ≡ take (hi + 1 - lo) (drop lo level) =
    rw (split, drop-take, take-take, drop-drop, len, start) refl in
    rw (one, two) at t

-- ---- the level above

-- two pairs that differ have the same parent for at most one challenge: a line is decided by two points
few_parents : (p : ℕ) → IsPrime p → (a b c d : ℕ) → (a % p ≡ c % p → b % p ≡ d % p → ⊥) → count_below p (λ x. eqb ((a + x * b) % p) ((c + x * d) % p)) ≤ 1
unfolding value
few_parents p prime a b c d ne =
    let line : (u v x : ℕ) → u + x * v ≡ u + x * (v + x * 0) = λ u v x. omega arith in
    let grows = count_below-grows p (λ x. eqb ((a + x * b) % p) ((c + x * d) % p)) (λ x. eqb (value (a ∷ b ∷ []) x % p) (value (c ∷ d ∷ []) x % p))
    (λ x _ e. rw (← line a b x, ← line c d x) e) in
    elim (cases_eq (a % p) (c % p)) [
      | inl e ↦ omega (arith, few_agree p 1 1 (a ∷ b ∷ []) (c ∷ d ∷ []) prime (omega arith) (omega arith) (λ z. ne e z))
      | inr f ↦ omega (arith, few_agree p 1 0 (a ∷ b ∷ []) (c ∷ d ∷ []) prime (omega arith) (omega arith) (λ z. f z))
    ]

-- two levels of whole pairs that differ modulo p have the same level above for at most one challenge
pub few_ups : (p : ℕ) → IsPrime p → (m : ℕ) (xs ys : List ℕ) → length xs ≡ 2 * m → length ys ≡ 2 * m → agree p xs ys ≡ false → count_below p (λ x. agree p (up p xs x) (up p ys x)) ≤ 1
unfolding agree
few_ups p prime m [] [] l k f = absurd (cc)
few_ups p prime m [] (c ∷ ys) l k f = absurd (omega arith)
few_ups p prime m (a ∷ []) ys l k f = absurd (omega arith)
few_ups p prime m (a ∷ b ∷ xs) [] l k f = absurd (omega arith)
few_ups p prime m (a ∷ b ∷ xs) (c ∷ []) l k f = absurd (omega arith)
few_ups p prime zero (a ∷ b ∷ xs) (c ∷ d ∷ ys) l k f = absurd (omega arith)
few_ups p prime (suc m) (a ∷ b ∷ xs) (c ∷ d ∷ ys) l k f =
    elim (cases_Bool (agree p xs ys)) [
      | inr e ↦
          let ih = few_ups p prime m xs ys (omega arith) (omega arith) e in
          let grows = count_below-grows p (λ x. agree p (up p (a ∷ b ∷ xs) x) (up p (c ∷ d ∷ ys) x)) (λ x. agree p (up p xs x) (up p ys x))
          (λ x _ h. (agree-parts p ((a + x * b) % p) ((c + x * d) % p) (up p xs x) (up p ys x) h).1) in
          omega arith
      | inl e ↦
          let pair = few_parents p prime a b c d (λ u v. both_ways (agree p (a ∷ b ∷ xs) (c ∷ d ∷ ys)) f (agree-cons p a c (b ∷ xs) (d ∷ ys) u (agree-cons p b d xs ys v e))) in
          let grows = count_below-grows p (λ x. agree p (up p (a ∷ b ∷ xs) x) (up p (c ∷ d ∷ ys) x)) (λ x. eqb ((a + x * b) % p) ((c + x * d) % p))
          (λ x _ h. eq-eqb ((a + x * b) % p) ((c + x * d) % p) (rw (← mod-mod (a + x * b) p, ← mod-mod (c + x * d) p) ((agree-parts p ((a + x * b) % p) ((c + x * d) % p) (up p xs x) (up p ys x) h).0))) in
          omega arith
    ]

double-suc : (m : ℕ) → 2 * suc m ≡ suc (suc (2 * m))
double-suc m = omega arith

drop-up : (p x m : ℕ) (xs : List ℕ) → drop m (up p xs x) ≡ up p (drop (2 * m) xs) x
drop-up p x zero xs = refl
drop-up p x (suc m) [] = rw (double-suc m) refl
drop-up p x (suc m) (a ∷ []) = rw (double-suc m) (refl)
drop-up p x (suc m) (a ∷ b ∷ xs) = rw (double-suc m) (drop-up p x m xs)

take-up : (p x m : ℕ) (xs : List ℕ) → take m (up p xs x) ≡ up p (take (2 * m) xs) x
take-up p x zero xs = refl
take-up p x (suc m) [] = rw (double-suc m) refl
take-up p x (suc m) (a ∷ []) = rw (double-suc m) refl
take-up p x (suc m) (a ∷ b ∷ xs) = rw (double-suc m) (ap (λ k. (a + x * b) % p ∷ k) (take-up p x m xs))

-- a window of the level above is above the pairs below it
pub window-up : (p x lo hi : ℕ) (xs : List ℕ) → window (up p xs x) lo hi ≡ up p (take (2 * (hi + 1 - lo)) (drop (2 * lo) xs)) x
window-up p x lo hi xs = rw drop-up (take-up p x (hi + 1 - lo) (drop (2 * lo) xs))
