use Rattle.std.proofs.Common.{◌≡◌, ℕ, ◌*◌, ◌<◌, [], length, take, drop, get_or}
use Rattle.sip_field.specs.Products.{zero_factor, HasProducts}
use Rattle.sip_field.proofs.factors.fill_tables.Given as goal

-- the first tables are those of the seat
abbrev pub invariant-loop-group : goal.invariant-loop-group
invariant-loop-group g l =
    let p = g.F.Field.MODULUS in
    record {
      long : length l.tables ≡ length l.fn.tables;
      products : (k : ℕ) → k < l.group → HasProducts p (zero_factor p l.fn.factors) (take 8 (drop (8 * k) l.fn.seat)) (get_or l.tables k []);
    }
