use Rattle.std.proofs.Common.{◌≡◌, ◌%◌, ◌^◌, ◌+◌, ◌/◌, arith, ap, sym, ◌∙◌}
use Rattle.sip_moments.proofs.PowerSteps.{first-power, power-double, power-next}
use Rattle.sip_moments.proofs.powers.+power.Goals as goal

pub returns-then-degree-eq1 : goal.returns-then-degree-eq1
returns-then-degree-eq1 g t c =
    let number = g.F.Field.number c.args.x in
    first-power g.F.Field.MODULUS number (g.met.F.Field.below c.args.x)
    ∙ ap (λ k. (number ^ k) % g.F.Field.MODULUS) (sym c.if-degree-eq1.true)

pub returns-then-degree-eq2 : goal.returns-then-degree-eq2
returns-then-degree-eq2 g t c =
    let number = g.F.Field.number c.args.x in
    let once : number ≡ (number ^ 1) % g.F.Field.MODULUS = first-power g.F.Field.MODULUS number (g.met.F.Field.below c.args.x) in
    power-double g.F.Field.MODULUS number 1 _ _ once c.times.ensures
    ∙ ap (λ k. (number ^ k) % g.F.Field.MODULUS) (sym c.if-degree-eq2.true)

pub returns-then-degree-eq0-2 : goal.returns-then-degree-eq0-2
returns-then-degree-eq0-2 g t c =
    let number = g.F.Field.number c.args.x in
    let half = c.args.degree / 2 in
    let twice : half + half ≡ c.args.degree = omega (arith, c.if-degree-eq0-2.true) in
    power-double g.F.Field.MODULUS number half _ _ c.power-half.ensures c.times-square.ensures
    ∙ ap (λ k. (number ^ k) % g.F.Field.MODULUS) twice

pub returns-else-degree-eq0-2 : goal.returns-else-degree-eq0-2
returns-else-degree-eq0-2 g t c =
    let number = g.F.Field.number c.args.x in
    let half = c.args.degree / 2 in
    let all : half + half + 1 ≡ c.args.degree = omega (arith, c.if-degree-eq0-2.false) in
    power-next g.F.Field.MODULUS number (half + half) _ _
    (power-double g.F.Field.MODULUS number half _ _ c.power-half.ensures c.times-square.ensures)
    c.times-else-degree-eq0-2.ensures
    ∙ ap (λ k. (number ^ k) % g.F.Field.MODULUS) all
