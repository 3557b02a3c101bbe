use Rattle.std.proofs.Common.{◌≡◌, ℕ, List, ◌+◌, ◌*◌, ◌%◌, ◌^◌, ◌<◌, ◌≤◌, length, take}
use Rattle.std.specs.Prelude.{All}
use Rattle.sip_field.specs.Products.{AreTables}
use Rattle.sip_vector.specs.Running.{number_after}
use Rattle.sip_vector.proofs.adding.added.Given as goal

-- the sum is the number after the first updates, and each adds a number of 64 bits
abbrev pub invariant-loop-update : goal.invariant-loop-update
invariant-loop-update g l =
    let p = g.F.Field.MODULUS in
    record {
      most : l.sum < (l.update-index + 1) * 2 ^ 64;
      is : (zero : ℕ → ℕ) (challenges : List ℕ) → AreTables p zero challenges l.tables → length challenges ≤ 8 * length l.tables
          → All (λ u. u.item < 2 ^ length challenges) l.updates
          → l.sum % p ≡ number_after p zero challenges (g.F.Field.number l.fn.value) (take l.update-index l.updates);
    }
