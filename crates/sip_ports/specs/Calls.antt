-- Calls are numbered from 1, and those whose numbers stand in a list fail.
use Rattle.std.specs.Prelude.{◌≡◌, ◌==◌, ℕ, zero, suc, ◌+◌, ◌-◌, ◌^◌, ◌<◌, ◌≤◌, min, Bool, true}
use Rattle.std.specs.Prelude.{false, ◌&&◌, nat_lt, List, [], refl}
use Rattle.std.specs.List.{list_any}
use Rattle.std.proofs.Common.{◌∷◌, arith, add-one}

-- the call of this number fails
abbrev pub fails_at : List ℕ → ℕ → Bool
fails_at fails number = list_any (λ n. n == number) fails

-- 1 for a call that fails
abbrev pub one_if : Bool → ℕ
one_if true = 1
one_if false = 0

-- how many of the first n calls failed
abbrev pub failed_of : List ℕ → ℕ → ℕ
failed_of fails zero = 0
failed_of fails (suc n) = failed_of fails n + one_if (fails_at fails (suc n))

-- the call after these fails: numbers end at 2^64 - 1, and a call without a number doesn't fail
abbrev pub next_fails : List ℕ → ℕ → Bool
next_fails fails calls = nat_lt calls (2 ^ 64 - 1) && fails_at fails (calls + 1)

-- One more call was made of a port: it has the next number and is a fault where that number fails.
-- Which calls fail, and how much a call moves, is as it was.
pub record MakesCall {P : Type 0} (fails : P → List ℕ) (calls chunk : P → ℕ) (before now : P)
    : Type 0 where
  pub numbered : calls now ≡ min (calls before + 1) (2 ^ 64 - 1)
  pub counted : failed_of (fails now) (calls now)
      ≡ failed_of (fails before) (calls before) + one_if (next_fails (fails before) (calls before))
  pub same_fails : fails now ≡ fails before
  pub same_chunk : chunk now ≡ chunk before

-- what the laws of the ports over memory rest on
one_if-le : (b : Bool) → one_if b ≤ 1
one_if-le true = omega arith
one_if-le false = omega arith

pub failed_of-le : (fails : List ℕ) (n : ℕ) → failed_of fails n ≤ n
failed_of-le fails zero = omega arith
failed_of-le fails (suc n) = omega (arith, failed_of-le fails n, one_if-le (fails_at fails (suc n)))

pub failed_of-fits : (fails : List ℕ) (n : ℕ) → n < 2 ^ 64 → failed_of fails n < 2 ^ 64
failed_of-fits fails n h = omega (arith, failed_of-le fails n)

pub failed_of-more : (fails : List ℕ) (n : ℕ)
    → failed_of fails (n + 1) ≡ failed_of fails n + one_if (fails_at fails (n + 1))
failed_of-more fails n = rw add-one refl

-- with no call to fail there is no fault, for good
pub failed_of-none : (n : ℕ) → failed_of [] n ≡ 0
failed_of-none zero = refl
failed_of-none (suc n) = omega (arith, failed_of-none n)

pub failed_of-sure : (fails : List ℕ) (n : ℕ) → fails ≡ [] → failed_of fails n ≡ 0
failed_of-sure [] n e = failed_of-none n
failed_of-sure (x ∷ xs) n e = cc

-- with no call to fail there is no fault, for a caller that wants no lemma's name
pub ruleset sure_ports = (failed_of-sure)
