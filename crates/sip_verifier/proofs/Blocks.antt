-- Each query of a run has a block of as many challenges as the depth says, each below the modulus.
use Rattle.std.proofs.Common.{◌≡◌, ℕ, zero, suc, ◌+◌, ◌-◌, ◌*◌, ◌/◌, ◌<◌, ◌≤◌, Bool, true, false, Option, Some, None, List, length, take, drop, All, refl, ap, ◌∙◌, sym, arith, length-drop, length-take-le, if◌then◌else◌}
use Rattle.std.specs.Prelude.{nat_lt}
use Rattle.std.proofs.Math.Nat.{suc-mul, mul_comm, mul-add-div, div-eq_of_lt}
use Rattle.std.proofs.lemmas.Bool.Decides.{nat_tests}
use Rattle.std.proofs.lemmas.List.Elements.{All-cons, All-drop, All-nil, All-take}
use Rattle.sip_field.specs.Draw.{seed_words}
use Rattle.sip_field.specs.Moduli.{m61_modulus}
use Rattle.sip_vector.specs.Pieces.{pieces}
use Rattle.sip_verifier.specs.declared.task.Task.{Task}
use Rattle.sip_verifier.specs.Draws.{challenges_of, challenge_count, drawn, blocks}
use Rattle.sip_verifier.proofs.Challenges.{challenges-small}
use Rattle.sip_verifier.proofs.SeatsDrawn.{drawn-length}

-- ---- what is drawn

-- what is drawn where a seed is not too short is all there is
long_enough : (short : Bool) (all : Option (List ℕ)) (rs : List ℕ) → (if short then None else all) ≡ Some rs → all ≡ Some rs
long_enough true all rs e = absurd (cc)
long_enough false all rs e = e

-- as many challenges are drawn of a seed as were asked for
pub length-challenges : (count : ℕ) (seed rs : List ℕ) → challenges_of count seed ≡ Some rs → length rs ≡ count
unfolding challenges_of
length-challenges count seed rs e = drawn-length count (seed_words (take 32 seed)) rs (sym (long_enough (nat_lt (length seed) 32) _ rs e))

-- a seed that is too short gives none
pub none_drawn : (count : ℕ) (seed : List ℕ) → length seed < 32 → challenges_of count seed ≡ None
unfolding challenges_of
none_drawn count seed short = let test : nat_lt (length seed) 32 ≡ true = grind (arith, nat_tests) in rw test refl

-- and each is below the modulus
pub challenges-below : (count : ℕ) (seed rs : List ℕ) → challenges_of count seed ≡ Some rs → All (λ r. r < m61_modulus) rs
unfolding challenges_of
challenges-below count seed rs e = challenges-small count (take 32 seed) rs (long_enough (nat_lt (length seed) 32) _ rs e)

-- ---- how it is cut

-- a block has a challenge for each level
pub record IsBlock (depth : ℕ) (block : List ℕ) : Type 0 where
  pub size : length block ≡ depth
  pub below : All (λ r. r < m61_modulus) block

pieces_full : (k n : ℕ) (xs : List ℕ) → n * k ≤ length xs → All (λ r. r < m61_modulus) xs → All (IsBlock k) (pieces k n xs)
pieces_full k zero xs room below = All-nil (IsBlock k)
pieces_full k (suc n) xs room below =
    let Below : ℕ → Type 0 = λ r. r < m61_modulus in
    let more = suc-mul n k in
    All-cons (IsBlock k) (take k xs) (pieces k n (drop k xs)) (record { size = length-take-le k xs (omega arith); below = All-take Below k xs below })
    (pieces_full k n (drop k xs) (omega (arith, length-drop k xs)) (All-drop Below k xs below))

pub are_blocks : (task : Task) (seed challenges : List ℕ) → 1 ≤ task.depth → drawn task seed ≡ Some challenges → All (IsBlock task.depth) (blocks task challenges)
are_blocks task seed challenges some is =
    let k = task.depth in
    let n = length task.queries.items in
    let size : length challenges ≡ k * n = length-challenges (challenge_count task) seed challenges is in
    let below = challenges-below (challenge_count task) seed challenges is in
    let turned : k * n ≡ n * k = mul_comm k n in
    let part : (k - 1) / k ≡ 0 = div-eq_of_lt (omega arith) in
    let count : (length challenges + (k - 1)) / k ≡ n = ap (λ m. (m + (k - 1)) / k) size ∙ mul-add-div (omega arith) n (k - 1) ∙ (let whole = part in omega arith) in
    rw count (pieces_full k n challenges (omega arith) below)
