-- The sum over a vector's entries is that over its numbers, and the entries are no heavier than the vector.
use Rattle.std.proofs.Common.{◌≡◌, ℕ, ◌-◌, ◌^◌, ◌<◌, ◌≤◌, cond, w64, to_z, of_z, List, length, map, sum_by, ℤ, pos, nat_abs, ap, ◌∙◌, arith}
use Rattle.std.specs.List.{range_with_len}
use Rattle.std.proofs.lemmas.Int.{fits_signed_from_abs, to_z-of_z}
use Rattle.sip_vector.specs.Answers.{is_within}
use Rattle.sip_vector.specs.Extensions.{ones}
use Rattle.sip_vector.specs.Streams.{most_weight}
use Rattle.sip_vector.specs.Vectors.{nonzero}
use Rattle.sip_vector.specs.declared.update.Entry.{Entry}
use Rattle.sip_vector.specs.inside.Gathered.{abs_sum}
use Rattle.sip_sums.specs.AcceptsSum.{total}
use Rattle.sip_sums.specs.Claims.{squares_sum, products_sum, range_sum, RisesFrom}
use Rattle.sip_sums.proofs.ClaimSums.{kept-rise, kept-light, squares-total, products-total, range-total}

module _ (numbers : List ℤ) (es : List Entry) (is : es ≡ nonzero numbers) where
  pub entries-light : (weight : ℕ) → sum_by nat_abs numbers ≤ weight → weight ≤ most_weight → abs_sum es ≤ most_weight
  entries-light weight light most = rw is (omega (arith, kept-light 0 numbers, light, most))

  pub entries-rise : RisesFrom 0 es
  entries-rise = rw is (kept-rise 0 numbers)

  same : (z : ℤ) → nat_abs z < 2 ^ 63 → to_z w64 (of_z w64 z) ≡ z
  same z small = to_z-of_z w64 z (fits_signed_from_abs w64 z small)

  pub squares-of : (sum : ℤ) → sum ≡ squares_sum es → nat_abs sum ≤ 2 ^ 60 - 1 → to_z w64 (of_z w64 sum) ≡ total numbers numbers
  squares-of sum e fits = same sum (omega (arith, fits)) ∙ e ∙ ap squares_sum is ∙ squares-total 0 numbers

  pub range-of : (lo hi depth depth' : ℕ) (sum : ℤ) → sum ≡ range_sum lo hi es → nat_abs sum ≤ most_weight → length numbers ≡ 2 ^ depth' → depth' ≡ depth
      → to_z w64 (of_z w64 sum) ≡ total numbers (ones depth lo hi)
  range-of lo hi depth depth' sum e fits long deep =
      same sum (omega (arith, fits)) ∙ e ∙ ap (range_sum lo hi) is ∙ range-total lo hi 0 numbers
      ∙ ap (λ n. total numbers (map (λ i. cond (is_within lo hi i) (pos 1) (pos 0)) (range_with_len 0 n))) (long ∙ ap (λ d. 2 ^ d) deep)

  pub products-of : (others : List ℤ) (claim : ℤ) → length others ≡ length numbers → claim ≡ products_sum (nonzero others) es → claim ≡ total numbers others
  products-of others claim long e = e ∙ ap (products_sum (nonzero others)) is ∙ products-total 0 numbers others long
