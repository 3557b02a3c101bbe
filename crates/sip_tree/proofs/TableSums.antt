-- Sums over updates by tables, at whatever challenges these are for.
use Rattle.std.proofs.Common.{◌≡◌, ℕ, ◌+◌, ◌*◌, ◌/◌, ◌%◌, ◌^◌, ◌<◌, ◌≤◌, List, All, length, get_or, pos, take, ◌∙◌, ap, arith}
use Rattle.std.proofs.lemmas.List.Elements.{All-get_or}
use Rattle.sip_vector.specs.declared.update.Side.TheVariants.{First}
use Rattle.sip_vector.specs.declared.update.Update.{Update}
use Rattle.sip_vector.proofs.RunningSums.{after, sum_more}

-- one past the end of a slice
abbrev pub no_update : Update
no_update = record { side = First; item = 0; delta = pos 0 }

-- a sum keeps the residue of what is seen at challenges that so many tables are for, where the items of
-- these updates have a level for each
abbrev pub IsSum : ℕ → (List ℕ → Type 0) → ℕ → List Update → (List ℕ → ℕ) → ℕ → Type 0
IsSum p AreFor tables updates value sum =
    (challenges : List ℕ) → AreFor challenges → length challenges ≤ 8 * tables
    → All (λ u. u.item < 2 ^ length challenges) updates → sum % p ≡ value challenges

-- one update more
pub sum_next : (p : ℕ) (AreFor : List ℕ → Type 0) (tables : ℕ) (term : List ℕ → Update → ℕ) (start : ℕ) (updates : List Update) (k sum x : ℕ) → k < length updates
    → ((challenges : List ℕ) → AreFor challenges → length challenges ≤ 8 * tables → (get_or updates k no_update).item < 2 ^ length challenges
    → x % p ≡ term challenges (get_or updates k no_update) % p)
    → IsSum p AreFor tables updates (λ challenges. after p (term challenges) start (take k updates)) sum
    → IsSum p AreFor tables updates (λ challenges. after p (term challenges) start (take (k + 1) updates)) (sum + x)
sum_next p AreFor tables term start updates k sum x here weighed before challenges are long within =
    sum_more p (term challenges) start updates k no_update sum x here (before challenges are long within)
    (weighed challenges are long (All-get_or (λ u. u.item < 2 ^ length challenges) updates k no_update here within))

-- the halves of a sum of products, after the first updates: each half grows by a number of 64 bits
abbrev pub AreHalves : ℕ → (List ℕ → Type 0) → ℕ → List Update → (List ℕ → List Update → ℕ) → ℕ → ℕ → ℕ → Type 0
AreHalves p AreFor tables updates value k low high =
    record {
      lower : low < (k + 1) * 2 ^ 64;
      upper : high < (k + 1) * 2 ^ 64;
      is : IsSum p AreFor tables updates (λ challenges. value challenges (take k updates)) (low + high * 2 ^ 64);
    }

-- one update more, whose product is x
pub halves_next : (p : ℕ) (AreFor : List ℕ → Type 0) (tables : ℕ) (term : List ℕ → Update → ℕ) (start : ℕ) (updates : List Update) (k low high x : ℕ) → k < length updates
    → x < 2 ^ 64 * 2 ^ 64
    → ((challenges : List ℕ) → AreFor challenges → length challenges ≤ 8 * tables → (get_or updates k no_update).item < 2 ^ length challenges
    → x % p ≡ term challenges (get_or updates k no_update) % p)
    → AreHalves p AreFor tables updates (λ challenges. after p (term challenges) start) k low high
    → AreHalves p AreFor tables updates (λ challenges. after p (term challenges) start) (k + 1) (low + x % 2 ^ 64) (high + x / 2 ^ 64)
halves_next p AreFor tables term start updates k low high x here short weighed before =
    let same : low + x % 2 ^ 64 + (high + x / 2 ^ 64) * 2 ^ 64 ≡ low + high * 2 ^ 64 + x = omega arith in
    record {
      lower = omega (arith, before.lower);
      upper = omega (arith, before.upper, short);
      is = λ challenges are long within. ap (λ y. y % p) same
          ∙ sum_next p AreFor tables term start updates k (low + high * 2 ^ 64) x here weighed before.is challenges are long within;
    }
