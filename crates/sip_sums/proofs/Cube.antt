-- What a prover's lists are once more challenges were learnt, and the polynomial of its round.
use Rattle.std.proofs.Common.{◌≡◌, ℕ, suc, ◌+◌, ◌^◌, ◌<◌, ℤ, List, [], ◌∷◌, ◌++◌, length, ap, ◌∙◌, arith}
use Rattle.std.specs.List.{All}
use Rattle.std.proofs.lemmas.List.Sums.{fold-append}
use Rattle.sip_sums.specs.Honest.{begun, its_polynomial, learnt, proving, round_polynomial}
use Rattle.sip_sums.proofs.CubeLemma.{cube_lemma}

pub proving-more : (p : ℕ) (first second : List ℤ) (revealed : List ℕ) (r : ℕ)
    → proving p first second (revealed ++ r ∷ []) ≡ learnt p (proving p first second revealed) r
proving-more p first second revealed r = fold-append (learnt p) (begun p first second) revealed (r ∷ [])

-- it is the one over the cube
pub polynomial-is : (p : ℕ) → 1 < p → (first second : List ℤ) (revealed : List ℕ) (n : ℕ) → All (λ r. r < p) revealed
    → length first ≡ 2 ^ (length revealed + n + 1) → length second ≡ length first
    → its_polynomial p (proving p first second revealed) ≡ round_polynomial p first second revealed n
polynomial-is p some first second revealed n all long same =
    let sum : length revealed + n + 1 ≡ length revealed + suc n = omega arith in
    let levels = ap (λ k. 2 ^ k) sum in
    cube_lemma p first second revealed n some all (long ∙ levels) (same ∙ long ∙ levels)
