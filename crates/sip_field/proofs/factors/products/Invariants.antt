use Rattle.std.proofs.Common.{◌≡◌, ◌*◌, ◌^◌, length, drop, take}
use Rattle.sip_field.specs.Products.{zero_factor, bits_product}
use Rattle.sip_field.proofs.Doubling.{Filled, Between}
use Rattle.sip_field.proofs.factors.products.Given as goal

-- the first entries are the products for the levels that were taken
abbrev pub invariant-loop-level : goal.invariant-loop-level
invariant-loop-level g l =
    let p = g.F.Field.MODULUS in
    record {
      count : l.filled ≡ 2 ^ l.level;
      long : length l.table ≡ 256;
      products : Filled 0 (λ level e x. x ≡ 8 * bits_product p (zero_factor p l.fn.factors) e (take level (drop l.fn.from l.fn.seat))) l.level l.filled l.table;
    }

-- the first of them are split, into themselves and those behind
abbrev pub invariant-loop-entry : goal.invariant-loop-entry
invariant-loop-entry g l =
    let p = g.F.Field.MODULUS in
    record {
      long : length l.table ≡ 256;
      between : Between 0 (λ level e x. x ≡ 8 * bits_product p (zero_factor p l.fn.factors) e (take level (drop l.fn.from l.fn.seat))) l.level l.filled l.entry l.table;
    }
