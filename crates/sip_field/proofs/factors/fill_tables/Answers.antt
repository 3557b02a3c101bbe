use Rattle.std.proofs.Common.{◌≡◌, ℕ, List, [], ◌+◌, ◌*◌, ◌/◌, ◌<◌, length, take, drop, refl, sym, ◌∙◌, subst, arith}
use Rattle.std.proofs.lemmas.List.{length-set, length-take-le, get_or-take}
use Rattle.sip_field.specs.Products.{zero_factor, HasProducts}
use Rattle.sip_field.proofs.Doubling.{each_set}
use Rattle.sip_field.proofs.factors.fill_tables.Goals as goal

pub loop-group-init : goal.loop-group-init
loop-group-init g c = record {
  long = refl;
  products = λ k none. absurd (let no : ⊥ = omega (arith, none) in no);
}

pub loop-group-preserved : goal.loop-group-preserved
loop-group-preserved g c =
    let p : ℕ = g.F.Field.MODULUS in
    let tables : List (List ℕ) = c.loop-group.tables in
    let k : ℕ = c.loop-group.group in
    let within : k < length tables =
    omega (arith, c.loop-group.invariant.long, c.loop-group-test.true, c.depth.ensures.exact, c.requires) in
    record {
      long = length-set tables k c.products.new.table ∙ c.loop-group.invariant.long;
      products = each_set [] (λ j t. HasProducts p (zero_factor p c.args.factors) (take 8 (drop (8 * j) c.args.seat.now)) t) tables k c.products.new.table within
          c.products.ensures c.loop-group.invariant.products;
    }

pub returns-clause-tables : goal.returns-clause-tables
returns-clause-tables g c k low =
    let p : ℕ = g.F.Field.MODULUS in
    let n : ℕ = (c.depth.result + 7) / 8 in
    let tables : List (List ℕ) = c.loop-group.tables in
    let long : length (take n tables) ≡ n =
    length-take-le n tables (omega (arith, c.loop-group.invariant.long, c.depth.ensures.exact, c.requires)) in
    subst (HasProducts p (zero_factor p c.args.factors) (take 8 (drop (8 * k) c.args.seat.now)))
    (sym (get_or-take n tables k [] (omega (arith, long, low))))
    (c.loop-group.invariant.products k (omega (arith, long, low, c.loop-group-test.false)))
