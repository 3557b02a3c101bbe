use Rattle.std.proofs.Common.{◌≡◌, ℕ, List, ◌+◌, ◌*◌, ◌%◌, ◌^◌, ◌<◌, ◌≤◌, length, drop}
use Rattle.sip_field.specs.Products.{bits_product, AreTables}
use Rattle.sip_field.proofs.factors.loosely_by_tables.Given as goal

-- the product, times that of what is left of the path, is what is wanted, and each of the
-- tables makes it longer by less than 2^61
abbrev pub invariant-loop-group : goal.invariant-loop-group
invariant-loop-group g l =
    let p = g.F.Field.MODULUS in
    record {
      most : l.product + l.group ≤ 2 ^ 62 + 1 + l.group * 2 ^ 61;
      is : (zero : ℕ → ℕ) (challenges : List ℕ) → AreTables p zero challenges l.tables → l.fn.index < 2 ^ length challenges →
          (l.path < 2 ^ length (drop (8 * l.group) challenges))
          × ((l.product * bits_product p zero l.path (drop (8 * l.group) challenges)) % p
          ≡ (l.fn.start * bits_product p zero l.fn.index challenges) % p);
    }
