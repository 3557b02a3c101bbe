-- The lowest tables, and the others.
use Rattle.std.proofs.Common.{◌≡◌, ℕ, List, ◌*◌, ◌≤◌, length, drop, take, ap, sym, subst, arith}
use Rattle.std.proofs.lemmas.List.{length-drop}
use Rattle.sip_field.specs.Products.{zero_factor, AreTables}
use Rattle.sip_field.specs.declared.factors.Factors.TheVariants.{Tree}
use Rattle.sip_subvec.proofs.NearEntries.{tables_above, tables_below}
use Rattle.sip_subvec.proofs.nodes.weighed.Goals as goal

pub returns : goal.returns
returns g c challenges size are long =
    let p : ℕ = g.F.Field.MODULUS in
    let zero : ℕ → ℕ = zero_factor p Tree in
    let own : ℕ = c.own_tables-own.result in
    let tables : List (List ℕ) = c.args.tables.now in
    let low = c.split_at.result.0.now in
    let high = c.split_at.result.1.now in
    let n : 8 * own ≡ 8 * length low = ap (λ k. 8 * k) (sym c.split_at.ensures.front_len) in
    let below : AreTables p zero (take (8 * length low) challenges) low =
    subst (λ m. AreTables p zero (take m challenges) low) n (subst (AreTables p zero (take (8 * own) challenges)) (sym c.split_at.ensures.front) (tables_below p zero own challenges tables c.own_tables-own.ensures.most are)) in
    let above : AreTables p zero (drop (8 * length low) challenges) high =
    subst (λ m. AreTables p zero (drop m challenges) high) n (subst (AreTables p zero (drop (8 * own) challenges)) (sym c.split_at.ensures.back) (tables_above p zero own challenges tables are)) in
    let enough : length (drop (8 * length low) challenges) ≤ 8 * length high = omega (arith, length-drop (8 * length low) challenges, long, c.split_at.ensures.back_len, c.split_at.ensures.front_len) in
    c.weighed_by.ensures challenges size below above enough
