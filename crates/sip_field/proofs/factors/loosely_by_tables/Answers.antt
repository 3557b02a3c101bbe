use Rattle.std.proofs.Common.{◌≡◌, ℕ, [], ◌+◌, ◌*◌, ◌/◌, ◌%◌, ◌^◌, ◌<◌, drop, get_or, length, refl, sym, ◌∙◌, ap, subst, arith}
use Rattle.std.proofs.lemmas.List.{drop_all}
use Rattle.std.proofs.lemmas.Nat.{mul-mod_first}
use Rattle.sip_field.specs.Products.{bits_product}
use Rattle.sip_field.proofs.BitProducts.{one_table, high_part, eight_more}
use Rattle.sip_field.proofs.factors.loosely_by_tables.Goals as goal

pub loop-group-init : goal.loop-group-init
loop-group-init g c = record {
  most = omega (arith, c.requires.most);
  is = λ zero challenges are within. (within, refl);
}

pub loop-group-preserved : goal.loop-group-preserved
loop-group-preserved g c =
    let p : ℕ = g.F.Field.MODULUS in
    let above : 1 < p = omega (arith, g.met.F.Field.at_least) in
    let k : ℕ = c.loop-group.group in
    let path : ℕ = c.loop-group.path in
    let u : ℕ = c.loop-group.product in
    let entry : ℕ = get_or (get_or c.args.tables.now k []) (path % 256) 0 in
    let made : ℕ = c.loose_eighth-product.result in
    let times : (y : ℕ) → entry ≡ 8 * y → made % p ≡ (u * y) % p =
    λ y is. c.loose_eighth-product.ensures.residue y is in
    record {
      most = omega (arith, c.loose_eighth-product.ensures.most, c.loop-group.invariant.most);
      is = λ zero challenges are within.
          let before = c.loop-group.invariant.is zero challenges are within in
          let here : k < length c.args.tables.now = omega (arith, c.requires.exact, c.loop-group-test.true) in
          let rest : ℕ = bits_product p zero (path / 256) (drop (8 * (k + 1)) challenges) in (
            subst (λ rs. path / 256 < 2 ^ length rs) (sym (eight_more k challenges)) (high_part 8 path (drop (8 * k) challenges) before.0),
            sym (mul-mod_first made rest p)
                ∙ one_table p zero above c.args.start c.args.index challenges c.args.tables.now k path u (made % p) are here before.0 times before.1,
          );
    }

pub returns : goal.returns
returns g c zero challenges are enough within =
    let p : ℕ = g.F.Field.MODULUS in
    let v : ℕ = c.loop-group.product in
    let none : drop (8 * c.loop-group.group) challenges ≡ [] = drop_all _ challenges (omega (arith, enough, c.requires.exact, c.loop-group-test.false)) in
    let last = c.loop-group.invariant.is zero challenges are within in
    ap (λ x. x % p) (let same : v ≡ v * 1 = omega arith in same)
    ∙ ap (λ rest. (v * bits_product p zero c.loop-group.path rest) % p) (sym none) ∙ last.1
