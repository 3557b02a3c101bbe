-- The polynomials of the folded lists are the true rounds of a moment.
use Rattle.std.proofs.Common.{◌≡◌, ℕ, suc, ◌+◌, ◌-◌, ◌%◌, ◌^◌, ◌<◌, List, [], ◌∷◌, length, map, All, ℤ, ap, sym, ◌∙◌, arith}
use Rattle.std.proofs.Math.Nat.{pow-succ'}
use Rattle.std.proofs.lemmas.List.{length-map}
use Rattle.std.proofs.lemmas.List.FromFn.{length-map-range_with_len}
use Rattle.std.proofs.lemmas.List.Sums.{fold-append}
use Rattle.sip_field.specs.Residue.{residue}
use Rattle.sip_vector.specs.Extensions.{ext, line}
use Rattle.sip_mle.proofs.Folding.{residues_below, fold_is_ext}
use Rattle.sip_counts.specs.Rounds.{AreRounds}
use Rattle.sip_sums.proofs.CubeLemma.{fold_level}
use Rattle.sip_sums.proofs.DegreeTwo.{level}
use Rattle.sip_moments.specs.AcceptsMoment.{power_at}
use Rattle.sip_moments.proofs.LevelPowers.{coefficient, polynomial_of, powers, value_is, ends_are}

abbrev pub rounds : ℕ → ℕ → List ℤ → List ℕ → List ℕ
rounds p k numbers v = polynomial_of p k (level p numbers v)

abbrev pub sums : ℕ → ℕ → List ℤ → List ℕ → ℕ
sums p k numbers v = powers k (level p numbers v) % p

pub are_rounds : (p k d : ℕ) (numbers : List ℤ) → 1 < p → length numbers ≡ 2 ^ d → AreRounds p k d (rounds p k numbers) (sums p k numbers)
are_rounds p k d numbers above long = record {
  few = λ v lt. omega (arith, length-map-range_with_len (λ m. coefficient p k (level p numbers v) m % p) 0 (k + 1));
  ends = λ v lt.
      let left : length v + suc (d - length v - 1) ≡ d = omega arith in
      let is = fold_level p above v (map (residue p) numbers) (suc (d - length v - 1)) (length-map numbers (residue p) ∙ long ∙ ap (λ n. 2 ^ n) (sym left)) (residues_below p numbers (omega arith)) in
      ends_are p k (2 ^ (d - length v - 1)) (level p numbers v) (is.size ∙ pow-succ' 2 (d - length v - 1)) is.below;
  values = λ v x lt. value_is p k x (level p numbers v) ∙ ap (λ l. powers k l % p) (sym (fold-append (line p) (map (residue p) numbers) v (x ∷ [])));
}

-- behind all of them the power of the extension is left
pub last_sum : (p k : ℕ) (numbers : List ℤ) (v : List ℕ) → 0 < p → All (λ x. x < p) v → length numbers ≡ 2 ^ length v → sums p k numbers v ≡ power_at p k numbers v
unfolding powers
last_sum p k numbers v some below long =
    ap (λ l. powers k l % p) (fold_is_ext p numbers v some below long)
    ∙ ap (λ n. n % p) (let e : ext p numbers v ^ k + 0 ≡ ext p numbers v ^ k = omega arith in e)
