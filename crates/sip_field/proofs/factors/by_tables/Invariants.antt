use Rattle.std.proofs.Common.{◌≡◌, ℕ, List, ◌*◌, ◌%◌, ◌^◌, ◌<◌, length, drop}
use Rattle.sip_field.specs.Products.{bits_product, AreTables}
use Rattle.sip_field.proofs.factors.by_tables.Given as goal

-- the product, times that of what is left of the path, is what is wanted
abbrev pub invariant-loop-table : goal.invariant-loop-table
invariant-loop-table g l =
    let p = g.F.Field.MODULUS in
    let number = g.F.Field.number in
    (zero : ℕ → ℕ) (challenges : List ℕ) → AreTables p zero challenges l.tables → l.fn.index < 2 ^ length challenges →
    (l.path < 2 ^ length (drop (8 * l.table-index) challenges))
    × ((number l.product * bits_product p zero l.path (drop (8 * l.table-index) challenges)) % p
    ≡ (number l.fn.start * bits_product p zero l.fn.index challenges) % p)
