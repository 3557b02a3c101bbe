use Rattle.std.proofs.Common.{ℕ, ◌%◌, ◌^◌, ◌≤◌, List, length, map, sum_by, subst, sym, ap, ◌∙◌}
use Rattle.sip_field.specs.Polynomial.{polynomial}
use Rattle.sip_vector.specs.Extensions.{line}
use Rattle.sip_moments.proofs.LevelPowers.{powers-sum, value_is}
use Rattle.sip_moments.proofs.prover.MomentProver.learn.Goals as goal

pub refill-requires-clause-sum : goal.refill-requires-clause-sum
refill-requires-clause-sum g c left =
    let number = g.F.Field.number in
    let p : ℕ = g.F.Field.MODULUS in
    let k : ℕ = c.self.inside.degree in
    let r : ℕ = number c.args.r in
    let level : List ℕ = c.self.inside.level in
    let some : 2 ≤ length level = subst (λ s. 2 ≤ length s.level) (sym c.self.view_is) c.requires in
    c.horner-expected.ensures ∙ ap (λ items. polynomial r (map number items) % p) c.deref.ensures.value
    ∙ ap (λ coefficients. polynomial r coefficients % p) (c.self.invariant.3 some) ∙ value_is p k r level
    ∙ ap (λ n. n % p) (powers-sum k (line p level r)) ∙ ap (λ l. sum_by (λ x. x ^ k) l % p) (sym c.fold_line.ensures.above)
