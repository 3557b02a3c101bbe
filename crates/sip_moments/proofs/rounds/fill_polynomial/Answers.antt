use Rattle.std.proofs.Common.{◌≡◌, ℕ, ◌+◌, ◌-◌, ◌%◌, ◌^◌, ◌<◌, ◌≤◌, All, List, length, map, set, sum_by, ap, sym, subst, ◌∙◌, inl, inr, arith}
use Rattle.std.proofs.lemmas.Bool.{cases_lt}
use Rattle.std.proofs.lemmas.List.{length-map, length-set}
use Rattle.std.proofs.lemmas.List.Elements.{All-map}
use Rattle.sip_vector.specs.Levels.{index_and_residue}
use Rattle.sip_sums.specs.Honest.{over_pairs}
use Rattle.sip_sums.specs.Pairs.{Neighbours, paired, pairs_of}
use Rattle.sip_sums.proofs.ListPairs.{pairs_from}
use Rattle.sip_sums.proofs.RoundLists.{halves}
use Rattle.sip_moments.specs.Honest.{of_first}
use Rattle.sip_moments.specs.Powers.{mixed}
use Rattle.sip_moments.proofs.MixedSums.{coefficient-made, differences, first-row, last-sum, pairs-small, table}
use Rattle.sip_moments.proofs.Places.{at, kept, places, read, wrote}
use Rattle.sip_moments.proofs.rounds.fill_polynomial.Goals as goal

pub returns : goal.returns
returns g c =
    let number = g.F.Field.number in
    let p : ℕ = g.F.Field.MODULUS in
    let positive : 0 < p = omega (arith, g.met.F.Field.at_least) in
    let k : ℕ = c.args.degree in
    let level : List ℕ = c.args.level.now in
    let half : ℕ = 2 ^ (c.folds_left.result - 1) in
    let long = c.folds_left.ensures.exact ∙ halves c.folds_left.result _ c.folds_left.ensures.exact c.requires.left in
    let spots = c.nonzero.result.now in
    let pairs : List Neighbours = pairs_from 0 level in
    let same : pairs_of number spots ≡ pairs = ap paired c.nonzero.ensures.all in
    let small : All (λ (s : Neighbours). s.left ≤ p) pairs =
    subst (All (λ (s : Neighbours). s.left ≤ p)) same
    (pairs-small p (map (index_and_residue number) spots) (All-map (λ (e : ℕ × ℕ). e.1 < p) (index_and_residue number) spots (λ i d lt. g.met.F.Field.below _))) in
    let sums = c.fill_sums.new.sums in
    let last : ℕ = c.from-last.result in
    let v = c.minus.result in
    let is : last ≡ k = c.from-last.ensures in
    let size : length sums ≡ k + 1 = c.fill_sums.ensures.same ∙ c.requires.coefficients in
    let size_then : length (set sums last v) ≡ k + 1 = length-set sums last v ∙ size in
    let size_last : length c.take_differences.new.sums ≡ k + 1 = c.take_differences.ensures.same ∙ size_then in
    let sum_is : (j : ℕ) → j < k → at number sums j ≡ sum_by (mixed k j) pairs % p =
    λ j low. c.fill_sums.ensures.sums j low ∙ ap (λ ps. sum_by (mixed k j) ps % p) same in
    let last_is : number v ≡ sum_by (mixed k k) pairs % p =
    last-sum p k half (number c.args.expected) (number c.index-poly-0.result) (number v) level positive c.requires.some long c.requires.sum
    (read number sums 0 _ (omega (arith, size)) c.index-poly-0.is ∙ sum_is 0 (omega (arith, c.requires.some))) c.minus.ensures in
    let first : (j : ℕ) → j < k + 1 → at number (set sums last v) j ≡ table p k pairs 0 j % p = λ j low.
    elim (cases_lt j k) [
      | inl less ↦ kept number sums last j v (λ e. absurd (omega (arith, e, is, less))) ∙ sum_is j less ∙ ap (λ n. n % p) (sym (first-row p k j pairs))
      | inr high ↦
          let here : last ≡ j = omega (arith, is, high, low) in
          subst (λ i. at number (set sums last v) i ≡ table p k pairs 0 i % p) here
          (wrote number sums last v (omega (arith, size, is)) ∙ last_is ∙ ap (λ i. sum_by (mixed k i) pairs % p) (sym is) ∙ ap (λ n. n % p) (sym (first-row p k last pairs)))
    ] in
    let third : (m : ℕ) → m < k + 1 → at number c.take_differences.new.sums m ≡ table p k pairs m m % p = λ m low.
    c.take_differences.ensures.differences (table p k pairs) (λ i j le lt. differences p k pairs small i j le (subst (λ n. j + 1 < n) size_then lt))
    (λ j lt. first j (subst (λ n. j < n) size_then lt)) m (subst (λ n. m < n) (sym size_then) low) in
    let made : (m : ℕ) → m < k + 1 → at number c.weigh.new.sums m ≡ over_pairs (of_first p k m) level level % p = λ m low.
    let most : m ≤ k = omega (arith, low) in
    coefficient-made p k m half (at number c.weigh.new.sums m) (at number c.take_differences.new.sums m) level c.requires.some most long (third m low) (c.weigh.ensures.weighed m low) in
    places (λ m. over_pairs (of_first p k m) level level % p) (map number c.weigh.new.sums) (k + 1)
    (length-map c.weigh.new.sums number ∙ c.weigh.ensures.same ∙ size_last) made
