use Rattle.std.proofs.Common.{◌≡◌, ◌+◌, ◌≤◌, ◌+ℤ◌, length}
use Rattle.sip_vector.specs.Streams.{most_weight}
use Rattle.sip_vector.specs.inside.Gathered.{abs_sum}
use Rattle.sip_sums.specs.Claims.{products_sum, RisesFrom}
use Rattle.sip_sums.proofs.ClaimWalks.{HasRoom}
use Rattle.sip_sums.proofs.claims.sum_of_products.Given as goal

-- with the products that are left the sum is that of all, and there is room for them
abbrev pub invariant-loop-one : goal.invariant-loop-one
invariant-loop-one l = record {
  order : RisesFrom 0 l.first;
  order_too : RisesFrom 0 l.second;
  light : abs_sum l.second ≤ most_weight;
  room : HasRoom l.sum l.first;
  sum : l.sum +ℤ products_sum l.second l.first ≡ products_sum l.fn.second l.fn.first;
}

abbrev pub decreases-loop-one : goal.decreases-loop-one
decreases-loop-one l = length l.first + length l.second
