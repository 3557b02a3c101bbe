-- The polynomials of an honest helper add up to what is expected, round by round.
use Rattle.std.proofs.Common.{◌≡◌, ℕ, suc, ◌+◌, ◌-◌, ◌%◌, ◌^◌, ◌<◌, List, [], ◌∷◌, ◌++◌, length, map, fold, All, ℤ, sym, ◌∙◌, ap, arith}
use Rattle.std.proofs.Math.Nat.{mod-lt, pow-succ'}
use Rattle.std.proofs.lemmas.List.Sums.{fold-append}
use Rattle.sip_field.specs.Residue.{residue}
use Rattle.sip_vector.specs.Extensions.{ext, line}
use Rattle.sip_mle.proofs.Folding.{fold_is_ext}
use Rattle.sip_sums.specs.AcceptsSum.{Coefficients, value_at, sum_of_ends, product_at, total}
use Rattle.sip_sums.specs.Honest.{Proving, begun, learnt, proving, constant, linear, square, over_cube, round_polynomial, its_polynomial, CanBeSummed}
use Rattle.sip_sums.specs.Stating.{AreElements}
use Rattle.sip_sums.proofs.CubeLemma.{now_level, proving_lists, cube_lemma}
use Rattle.sip_sums.proofs.ResidueProducts.{dot, residue_of_total}
use Rattle.sip_sums.proofs.RoundSums.{value_is, ends_are}
use Rattle.sip_sums.proofs.DegreeTwo.{alone}

abbrev Residues : ℕ → List ℕ → Type 0
Residues p = All (λ x. x < p)

module _ (p depth : ℕ) (first second : List ℤ) (can : CanBeSummed p depth first second) where
  abbrev at : List ℕ → Proving
  at revealed = proving p first second revealed

  -- what is expected once these challenges are revealed
  abbrev pub due : List ℕ → ℕ
  due revealed = dot (at revealed).first (at revealed).second % p

  -- the polynomial that is sent then
  abbrev pub sent : List ℕ → Coefficients
  sent revealed = round_polynomial p first second revealed (depth - length revealed - 1)

  -- its coefficients have room in a frame
  pub sent_elements : (revealed : List ℕ) → AreElements (sent revealed)
  sent_elements revealed =
      let some : 0 < p = omega (arith, can.some) in
      let n : ℕ = depth - length revealed - 1 in
      let a : over_cube p (constant p) first second revealed n % p < p = mod-lt _ some in
      let b : over_cube p (linear p) first second revealed n % p < p = mod-lt _ some in
      let c : over_cube p (square p) first second revealed n % p < p = mod-lt _ some in
      (omega (arith, can.elements), omega (arith, can.elements), omega (arith, can.elements))

  module _ (revealed : List ℕ) (short : length revealed < depth) (rs : Residues p revealed) where
    abbrev left : ℕ
    left = depth - length revealed - 1

    whole : depth ≡ length revealed + suc left
    whole = omega arith

    size_one : length first ≡ 2 ^ (length revealed + suc left)
    size_one = can.size ∙ ap (λ n. 2 ^ n) whole

    size_two : length second ≡ 2 ^ (length revealed + suc left)
    size_two = can.same ∙ ap (λ n. 2 ^ n) whole

    is_sent : its_polynomial p (at revealed) ≡ sent revealed
    is_sent = cube_lemma p first second revealed left can.some rs size_one size_two

    abbrev xs : List ℕ
    xs = fold (line p) (map (residue p) first) revealed

    abbrev ys : List ℕ
    ys = fold (line p) (map (residue p) second) revealed

    lists : ((at revealed).first ≡ xs) × ((at revealed).second ≡ ys)
    lists = proving_lists p (begun p first second) revealed

    pub adds_up_to_due : sum_of_ends p (sent revealed) ≡ due revealed
    adds_up_to_due =
        let a = now_level p can.some first revealed left rs size_one in
        let b = now_level p can.some second revealed left rs size_two in
        let s = at revealed in
        let sum : sum_of_ends p (its_polynomial p (record s { first = xs; second = ys })) ≡ dot xs ys % p =
        ends_are p (2 ^ left) xs ys (a.size ∙ pow-succ' 2 left) (b.size ∙ pow-succ' 2 left) a.below b.below in
        ap (sum_of_ends p) (sym is_sent)
        ∙ ap (λ l. sum_of_ends p (its_polynomial p (record s { first = l }))) lists.0
        ∙ ap (λ l. sum_of_ends p (its_polynomial p (record s { first = xs; second = l }))) lists.1
        ∙ sum ∙ ap (λ l. dot xs l % p) (sym lists.1) ∙ ap (λ l. dot l (at revealed).second % p) (sym lists.0)

    pub value_is_due : (r : ℕ) → value_at p (sent revealed) r ≡ due (revealed ++ r ∷ [])
    value_is_due r =
        ap (λ c. value_at p c r) (sym is_sent) ∙ value_is p r (at revealed).first (at revealed).second
        ∙ ap (λ (s : Proving). dot s.first s.second % p) (sym (fold-append (learnt p) (begun p first second) revealed (r ∷ [])))

  -- at first the sum is expected
  pub first_due : due [] ≡ residue p (total first second)
  first_due = sym (residue_of_total p first second (omega (arith, can.some)))

  -- and at the end the product of the extensions
  pub last_due : (challenges : List ℕ) → length challenges ≡ depth → Residues p challenges → due challenges ≡ product_at p first second challenges
  last_due challenges all rs =
      let some : 0 < p = omega (arith, can.some) in
      let lists = proving_lists p (begun p first second) challenges in
      let one = fold_is_ext p first challenges some rs (rw all can.size) in
      let two = fold_is_ext p second challenges some rs (rw all can.same) in
      sym (ap (λ k. k % p) (alone (ext p first challenges) (ext p second challenges) (at challenges).first (at challenges).second (lists.0 ∙ one) (lists.1 ∙ two)))
