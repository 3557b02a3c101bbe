-- An end of an interval, level by level.
use Rattle.std.proofs.Common.{◌≡◌, ℕ, suc, ◌*◌, ◌/◌, ◌^◌, List, [], ◌∷◌, ◌++◌, length, sym, ap, ◌∙◌, arith, length-append}
use Rattle.std.proofs.Math.Nat.{div-one, pow-zero, pow-succ', div-div-eq-div-mul}
use Rattle.sip_subvec.specs.AcceptsSub.{Siblings}
use Rattle.sip_subvec.specs.Protocol.{at_level}

-- at level 0 it is as it was
pub whole : (n : ℕ) → n / 2 ^ 0 ≡ n
whole n = ap (λ m. n / m) (pow-zero 2) ∙ div-one n

-- one level more halves it before the others
pub halved : (n k : ℕ) → n / 2 ^ suc k ≡ n / 2 / 2 ^ k
halved n k = ap (λ m. n / m) (pow-succ' 2 k) ∙ sym (div-div-eq-div-mul n 2 (2 ^ k))

-- or after them
pub halved_last : (n k : ℕ) → n / 2 ^ suc k ≡ n / 2 ^ k / 2
halved_last n k =
    let power : 2 ^ suc k ≡ 2 ^ k * 2 = omega (arith, pow-succ' 2 k) in
    ap (λ m. n / m) power ∙ sym (div-div-eq-div-mul n (2 ^ k) 2)

-- behind one reply more the siblings of the level above come next
pub level_more : (x y : Siblings) (xs : List Siblings) (n m : ℕ) → at_level (x ∷ xs) n ≡ m
    → at_level (x ∷ (xs ++ y ∷ [])) n ≡ m / 2
level_more x y xs n m at =
    let count : length (x ∷ (xs ++ y ∷ []))
    ≡ suc (length (x ∷ xs)) = omega (arith, length-append xs (y ∷ [])) in
    ap (λ (k : ℕ). n / 2 ^ k) count
    ∙ halved_last n (length (x ∷ xs))
    ∙ ap (λ (k : ℕ). k / 2) at
