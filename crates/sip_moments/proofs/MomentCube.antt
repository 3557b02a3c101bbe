-- The polynomial of the round of a folded list is the sum over all lists of bits.
use Rattle.std.proofs.Common.{◌≡◌, ℕ, suc, ◌+◌, ◌%◌, ◌^◌, ◌<◌, ℤ, List, [], ◌∷◌, ◌++◌, length, map, fold, All, refl, ap, sym, ◌∙◌, arith}
use Rattle.std.specs.List.{range_with_len}
use Rattle.std.proofs.lemmas.List.Sums.{fold-append}
use Rattle.sip_field.specs.Residue.{residue}
use Rattle.sip_vector.specs.Extensions.{line}
use Rattle.sip_sums.specs.Honest.{over_cube, over_pairs}
use Rattle.sip_sums.proofs.CubeLemma.{over_cube_is}
use Rattle.sip_moments.specs.Honest.{Proving, begun, its_polynomial, learnt, of_first, proving, round_polynomial}
use Rattle.sip_moments.proofs.RangeSums.{map_same}

-- the list of a prover, folded by the challenges, and what stays as it was
pub proving_level : (p : ℕ) (s : Proving) (rs : List ℕ) → fold (learnt p) s rs ≡ record s { level = fold (line p) s.level rs }
proving_level p s [] = refl
proving_level p s (r ∷ rs) = proving_level p (learnt p s r) rs

pub proving-more : (p k : ℕ) (numbers : List ℤ) (revealed : List ℕ) (r : ℕ)
    → proving p k numbers (revealed ++ r ∷ []) ≡ learnt p (proving p k numbers revealed) r
proving-more p k numbers revealed r = fold-append (learnt p) (begun p k numbers) revealed (r ∷ [])

-- it is the one over the cube
pub polynomial-is : (p k : ℕ) (numbers : List ℤ) (revealed : List ℕ) (n : ℕ) → 1 < p → All (λ r. r < p) revealed
    → length numbers ≡ 2 ^ (length revealed + n + 1)
    → its_polynomial p (proving p k numbers revealed) ≡ round_polynomial p k numbers revealed n
polynomial-is p k numbers revealed n above below long =
    let level : List ℕ = fold (line p) (map (residue p) numbers) revealed in
    let size : length numbers ≡ 2 ^ (length revealed + suc n) = long ∙ ap (λ j. 2 ^ j) (let e : length revealed + n + 1 ≡ length revealed + suc n = omega arith in e) in
    ap (its_polynomial p) (proving_level p (begun p k numbers) revealed)
    ∙ map_same (λ m. over_pairs (of_first p k m) level level % p) (λ m. over_cube p (of_first p k m) numbers numbers revealed n % p) (range_with_len 0 (k + 1))
    (λ m. ap (λ j. j % p) (sym (over_cube_is p above numbers numbers revealed n below size size (of_first p k m))))
