-- Counts of vectors by their first challenge: of those that have none, and of those that have one.
use Rattle.std.proofs.Common.{◌≡◌, ℕ, suc, ◌≤◌, Bool, true, false, List, [], ◌∷◌, length, arith}
use Rattle.std.proofs.lemmas.Bool.{false_from_ne_true}
use Rattle.sip_counts.specs.Counts.{counted}
use Rattle.sip_counts.proofs.Vectors.{counted-grows, counted-none}

-- the empty vector does not pass
pub counted-empty : (p : ℕ) (test : List ℕ → Bool) → (test [] ≡ true → ⊥) → counted p test 0 ≡ 0
counted-empty p test never = counted-none p 0 test each
  where
    each : (v : List ℕ) → length v ≡ 0 → test v ≡ false
    each [] e = false_from_ne_true (test []) never
    each (x ∷ v) e = absurd (omega arith)

-- no other vector passes
pub counted-longer : (p m : ℕ) (test : List ℕ → Bool) → ((x : ℕ) (v : List ℕ) → test (x ∷ v) ≡ true → ⊥) → counted p test (suc m) ≡ 0
counted-longer p m test never = counted-none p (suc m) test each
  where
    each : (v : List ℕ) → length v ≡ suc m → test v ≡ false
    each [] e = absurd (omega arith)
    each (x ∷ v) e = false_from_ne_true (test (x ∷ v)) (never x v)

-- each other vector passes the second test where it passes the first
pub counted-longer_grows : (p m : ℕ) (s t : List ℕ → Bool) → ((x : ℕ) (v : List ℕ) → s (x ∷ v) ≡ true → t (x ∷ v) ≡ true) → counted p s (suc m) ≤ counted p t (suc m)
counted-longer_grows p m s t grows = counted-grows p s t (suc m) (λ v e _ h. each v e h)
  where
    each : (v : List ℕ) → length v ≡ suc m → s v ≡ true → t v ≡ true
    each [] e h = absurd (omega arith)
    each (x ∷ v) e h = grows x v h
