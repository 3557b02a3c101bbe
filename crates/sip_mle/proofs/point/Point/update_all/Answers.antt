-- By the tables that are kept, and from the new value what the point stands for.
use Rattle.std.proofs.Common.{◌≡◌, ℕ, List, ◌+◌, ◌/◌, ◌<◌, length, sym, ◌∙◌, ap, subst, arith}
use Rattle.sip_field.specs.Products.{AreTables, zero_factor}
use Rattle.sip_vector.specs.Weights.{numbers_after}
use Rattle.sip_field.specs.declared.factors.Factors.TheVariants.{Extension}
use Rattle.sip_mle.specs.Blocks.{point_after}
use Rattle.sip_mle.specs.StandsFor.{PointStandsFor}
use Rattle.sip_mle.proofs.Blocks.{point_is_products, point_stands_after}
use Rattle.sip_mle.proofs.point.Point.update_all.Goals as goal

pub returns-in-None-clause-stands : goal.returns-in-None-clause-stands
returns-in-None-clause-stands g c numbers stands =
    let some : 0 < g.F.Field.MODULUS = omega (arith, g.met.F.Field.at_least) in
    subst (λ rs. PointStandsFor g.F.Field.MODULUS rs c.update_anew.new.self.value (numbers_after numbers c.args.updates.now)) (sym c.update_anew.ensures.seat)
    (point_stands_after g.F.Field.MODULUS c.args.self.now.seat some c.args.updates.now c.args.self.now.value c.update_anew.new.self.value numbers c.requires.items
    c.update_anew.ensures.value stands)

pub returns-clause-value : goal.returns-clause-value
returns-clause-value g c =
    let p : ℕ = g.F.Field.MODULUS in
    let seat : List ℕ = c.args.self.now.seat in
    let same : c.deref.result.now ≡ c.in-Some.tables.items = c.deref.ensures.value in
    let made : AreTables p (zero_factor p Extension) seat c.in-Some.tables.items = c.args.self.now.made c.in-Some.tables c.in-Some.is in
    let enough : length c.in-Some.tables.items ≡ (length seat + 7) / 8 = c.args.self.now.enough c.in-Some.tables c.in-Some.is in
    c.number-value.ensures
    ∙ c.added_by_tables.ensures (zero_factor p Extension) seat (subst (AreTables p (zero_factor p Extension) seat) (sym same) made)
    (omega (arith, enough, ap length same)) c.requires.items
    ∙ point_is_products p seat (g.F.Field.number c.of_number.result) c.args.updates.now
    ∙ ap (λ v. point_after p seat v c.args.updates.now) c.of_number.ensures

pub returns-clause-stands : goal.returns-clause-stands
returns-clause-stands g c numbers stands =
    let some : 0 < g.F.Field.MODULUS = omega (arith, g.met.F.Field.at_least) in
    point_stands_after g.F.Field.MODULUS c.args.self.now.seat some c.args.updates.now c.args.self.now.value c.number-value.result numbers c.requires.items
    (returns-clause-value g c) stands
