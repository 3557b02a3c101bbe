use Rattle.std.proofs.Common.{◌≡◌, ℕ, [], ◌*◌, ◌/◌, ◌%◌, ◌^◌, ◌<◌, drop, length, sym, ◌∙◌, ap, subst, arith}
use Rattle.std.proofs.Math.Nat.{mod-eq_of_lt}
use Rattle.std.proofs.lemmas.List.{drop_all}
use Rattle.sip_field.specs.Products.{bits_product}
use Rattle.sip_field.proofs.BitProducts.{one_table, high_part, eight_more}
use Rattle.sip_field.proofs.factors.by_tables.Goals as goal

pub loop-table-preserved : goal.loop-table-preserved
loop-table-preserved g c zero challenges are within =
    let p : ℕ = g.F.Field.MODULUS in
    let above : 1 < p = omega (arith, g.met.F.Field.at_least) in
    let k : ℕ = c.loop-table.table-index in
    let before = c.loop-table.invariant zero challenges are within in (
      subst (λ rs. c.loop-table.path / 256 < 2 ^ length rs) (sym (eight_more k challenges)) (high_part 8 c.loop-table.path (drop (8 * k) challenges) before.0),
      one_table p zero above (g.F.Field.number c.args.start) c.args.index challenges c.args.tables.now k c.loop-table.path (g.F.Field.number c.loop-table.product) _ are
          c.loop-table-test.true before.0 c.times_eighth-product.ensures before.1,
    )

pub returns : goal.returns
returns g c zero challenges are enough within =
    let p : ℕ = g.F.Field.MODULUS in
    let v : ℕ = g.F.Field.number c.loop-table.product in
    let none : drop (8 * c.loop-table.table-index) challenges ≡ [] = drop_all _ challenges (omega (arith, enough, c.loop-table-test.false)) in
    let last = c.loop-table.invariant zero challenges are within in
    sym (mod-eq_of_lt (g.met.F.Field.below c.loop-table.product)) ∙ ap (λ x. x % p) (let same : v ≡ v * 1 = omega arith in same)
    ∙ ap (λ rest. (v * bits_product p zero c.loop-table.path rest) % p) (sym none) ∙ last.1
