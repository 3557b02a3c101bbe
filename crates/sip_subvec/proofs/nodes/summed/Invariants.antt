use Rattle.std.proofs.Common.{◌≡◌, ℕ, List, ◌+◌, ◌*◌, ◌%◌, ◌^◌, ◌<◌, ◌≤◌, drop, length, take}
use Rattle.sip_field.specs.Products.{zero_factor, bits_product, AreTables}
use Rattle.sip_field.specs.declared.factors.Factors.TheVariants.{Tree}
use Rattle.sip_subvec.specs.Checking.{entries_sum}
use Rattle.sip_subvec.proofs.nodes.summed.Given as goal

-- the sums are together that of the first entries, and each of these adds a number of 64 bits
abbrev pub invariant-loop-entry : goal.invariant-loop-entry
invariant-loop-entry g l =
    let p = g.F.Field.MODULUS in
    let n = 8 * length l.fn.low in
    record {
      most : l.sums.near < (l.entry-index + 1) * 2 ^ 64;
      is : (challenges : List ℕ) → l.fn.size ≡ 2 ^ length challenges → AreTables p (zero_factor p Tree) (take n challenges) l.fn.low → AreTables p (zero_factor p Tree) (drop n challenges) l.fn.high
          → length (drop n challenges) ≤ 8 * length l.fn.high
          → (l.sums.path < 2 ^ length (drop n challenges))
          × ((g.F.Field.number l.sums.sum + l.sums.near * bits_product p (zero_factor p Tree) l.sums.path (drop n challenges)) % p ≡ entries_sum p challenges (take l.entry-index l.fn.entries) % p);
    }
