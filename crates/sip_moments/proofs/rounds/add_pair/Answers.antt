use Rattle.std.proofs.Common.{◌≡◌, ℕ, ◌+◌, ◌%◌, ◌<◌, length, set, subst, ◌∙◌, inl, inr, arith}
use Rattle.std.proofs.lemmas.Bool.{cases_lt}
use Rattle.sip_sums.specs.Pairs.{Neighbours, neighbours_of}
use Rattle.sip_moments.specs.Powers.{mixed}
use Rattle.sip_moments.proofs.MixedSums.{first-added, no_left, no_right, unchanged}
use Rattle.sip_moments.proofs.Places.{at, below, kept, wrote}
use Rattle.sip_moments.proofs.rounds.add_pair.Goals as goal

pub returns-then-number-eq0-clause-sums : goal.returns-then-number-eq0-clause-sums
returns-then-number-eq0-clause-sums g c j low =
    let number = g.F.Field.number in
    let p : ℕ = g.F.Field.MODULUS in
    let k : ℕ = c.args.degree in
    let sums = c.args.sums.now in
    let pair : Neighbours = neighbours_of number c.args.pair in
    let v = c.plus.result in
    let within : 0 < length sums = omega (arith, c.requires.places) in
    let zero : pair.right ≡ 0 = omega (arith, c.number.ensures, c.if-number-eq0.true) in
    let here = first-added number p k sums pair _ c.power.result v within c.index-sums-0.is c.power.ensures c.plus.ensures in
    elim (cases_lt j 1) [
      | inl first ↦ subst (λ i. at number (set sums 0 v) i ≡ (at number sums i + mixed k i pair) % p) (let e : 0 ≡ j = omega (arith, first) in e) (wrote number sums 0 v within ∙ here)
      | inr later ↦
          kept number sums 0 j v (λ e. absurd (omega (arith, e, later)))
          ∙ unchanged p (at number sums j) (mixed k j pair) (below number p (omega (arith, g.met.F.Field.at_least)) g.met.F.Field.below sums j) (no_right k j pair later zero)
    ]

pub returns-else-number-ne0-clause-sums : goal.returns-else-number-ne0-clause-sums
returns-else-number-ne0-clause-sums g c j low =
    let number = g.F.Field.number in
    let p : ℕ = g.F.Field.MODULUS in
    let k : ℕ = c.args.degree in
    let sums = c.args.sums.now in
    let pair : Neighbours = neighbours_of number c.args.pair in
    let zero : pair.left ≡ 0 = omega (arith, c.number-else-number-eq0.ensures, c.if-number-ne0.false) in
    unchanged p (at number sums j) (mixed k j pair) (below number p (omega (arith, g.met.F.Field.at_least)) g.met.F.Field.below sums j) (no_left k j pair low zero)
