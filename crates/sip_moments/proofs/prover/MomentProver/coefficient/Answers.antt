use Rattle.std.proofs.Common.{◌≡◌, ℕ, ◌+◌, ◌≤◌, length, get_or, subst, ap, ◌∙◌, arith}
use Rattle.std.proofs.lemmas.List.FromFn.{get_or-map-range_with_len}
use Rattle.sip_moments.specs.Honest.{its_coefficient}
use Rattle.sip_moments.proofs.Places.{read}
use Rattle.sip_moments.proofs.prover.MomentProver.coefficient.Goals as goal

pub returns : goal.returns
returns g c =
    let number = g.F.Field.number in
    let p : ℕ = g.F.Field.MODULUS in
    let value = c.index.result.now in
    let at : ℕ = c.from.result in
    subst (λ s. 2 ≤ length s.level → c.args.place ≤ s.degree → number value ≡ its_coefficient p s c.args.place) c.self.view_is
    (λ left low.
    read number c.self.inside.polynomial.items at value (omega (arith, c.from.ensures, low, c.self.invariant.2)) c.index.ensures
    ∙ ap (λ ns. get_or ns at 0) (c.self.invariant.3 left)
    ∙ get_or-map-range_with_len _ 0 (c.self.inside.degree + 1) at c.args.place 0 (omega (arith, c.from.ensures, low)) (omega (arith, c.from.ensures)))
    c.requires.left c.requires.place
