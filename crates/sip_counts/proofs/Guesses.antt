-- The plans of the worked counts are such as the bound asks for.
use Rattle.std.proofs.Common.{◌≡◌, ℕ, ◌+◌, ◌%◌, ◌<◌, Bool, true, false, eqb, All, Option, Some, None, List, [], ◌∷◌, ◌++◌, ◌&&◌, subst, sym, take, drop, sum, refl, arith}
use Rattle.std.proofs.lemmas.List.Elements.{All-cons, All-from_recursion, All-nil}
use Rattle.std.proofs.lemmas.Bool.{eqb-true, eq-eqb}
use Rattle.sip_counts.specs.Counts.{count_below, counted_from, counted}
use Rattle.sip_counts.specs.Strategies.{IsOfBytes, all_there, is_wrong, takes_wrong}
use Rattle.sip_counts.specs.Late.{IsBounded, IsWithin, AreWithin, seat_of, seats_at}
use Rattle.sip_counts.specs.Examples.{crossed, guess_query, replies_by}
use Rattle.sip_counts.proofs.Sums.{count_below-grows, count_below-one}

-- a number that a reply can be the challenge at
only : Option (List ℕ) → ℕ
only (Some (y ∷ more)) = y
only (Some []) = 0
only None = 0

-- what is true and something else is true
first_of : (b c : Bool) → ((b && c) && true) && true ≡ true → (b ≡ true) × (c ≡ true)
first_of true true e = (refl, refl)
first_of true false e = absurd cc
first_of false c e = absurd cc

-- the one reply is accepted at no other challenge
at_one : (o : Option (List ℕ)) (x : ℕ)
    → is_wrong (guess_query.accepts (x ∷ [])) guess_query.is_right (all_there (o ∷ [])) ≡ true
    → eqb x (only o) ≡ true
unfolding only
at_one None x e = absurd cc
at_one (Some []) x e = absurd cc
at_one (Some (y ∷ [])) x e =
    eq-eqb x y (sym (eqb-true y x (first_of (eqb y x) true e).0))
at_one (Some (y ∷ z ∷ more)) x e = absurd (let no = (first_of (eqb y x) false e).1 in cc)

-- the vectors of one challenge are the challenges
counted_one : (p : ℕ) (t : List ℕ → Bool) → counted p t 1 ≡ count_below p (λ x. t (x ∷ []))
unfolding counted counted_from count_below
counted_one p t = refl

guess_bounded : IsBounded 5 1 guess_query
unfolding takes_wrong
guess_bounded strategy bytes =
    let test : List ℕ → Bool = takes_wrong guess_query.accepts guess_query.is_right strategy in
    let grows = count_below-grows 5 (λ x. test (x ∷ [])) (λ x. eqb x (only (strategy [])))
    (λ x _ e. at_one (strategy []) x e) in
    omega (arith, grows, count_below-one 5 (only (strategy [])), counted_one 5 test)

byte : (n : ℕ) → n < 256 → IsOfBytes (λ revealed. Some (n ∷ []))
byte n less revealed reply e =
    let same : n ∷ [] ≡ reply = cc in
    subst (λ (r : List ℕ). All (λ b. b < 256) r) same
    (All-cons (λ b. b < 256) n [] less (All-nil (λ b. b < 256)))

within : (number : ℕ → ℕ) → ((n : ℕ) → number n < 256) → (earlier block later : List ℕ)
    → IsWithin 5 1 (seat_of (replies_by number) earlier block later)
within number small earlier block later = record {
  few = guess_bounded;
  most = omega arith;
  bytes = byte (number (sum (earlier ++ later))) (small (sum (earlier ++ later)));
}

pub crossed_within : AreWithin 5 1 crossed
crossed_within v len below = All-from_recursion (IsWithin 5 1) (seats_at 1 crossed [] v) (
  within (λ other. other % 5) (λ n. omega arith) [] (take 1 v) (drop 1 v),
  (
    within (λ other. (other + 1) % 5) (λ n. omega arith) (take 1 v) (take 1 (drop 1 v))
        (drop 1 (drop 1 v)),
    tt,
  ),
)
