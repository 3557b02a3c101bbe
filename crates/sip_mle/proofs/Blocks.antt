-- Blocks of updates: the factors that tables of products give, and what a point stands for after
-- each update.
use Rattle.std.proofs.Common.{◌≡◌, ℕ, ◌+◌, ◌*◌, ◌/◌, ◌%◌, ◌^◌, ◌<◌, ◌==◌, if◌then◌else◌, ℤ, List, [], ◌∷◌, length, refl, sym, ap, subst}
use Rattle.std.specs.Prelude.{All}
use Rattle.std.proofs.lemmas.List.Elements.{All-head, All-tail}
use Rattle.sip_field.specs.Residue.{residue, difference_mod}
use Rattle.sip_field.specs.Products.{zero_factor, bits_product}
use Rattle.sip_field.specs.declared.factors.Factors.TheVariants.{Extension}
use Rattle.sip_vector.specs.Extensions.{chi}
use Rattle.sip_vector.specs.Weights.{raised_numbers, numbers_after}
use Rattle.sip_vector.specs.Running.{number_after}
use Rattle.sip_vector.specs.declared.update.Update.{Update}
use Rattle.sip_vector.proofs.RunningSums.{after_same, product_term}
use Rattle.sip_mle.specs.Blocks.{point_after}
use Rattle.sip_mle.specs.StandsFor.{PointStandsFor}
use Rattle.sip_mle.proofs.Weighing.{point_stands}

-- an entry's factor is a product over the bits of its index
pub factor_is_product : (p i : ℕ) (challenges : List ℕ) → bits_product p (zero_factor p Extension) i challenges ≡ chi p i challenges
factor_is_product p i [] = refl
factor_is_product p i (r ∷ challenges) = ap (λ w. ((if i % 2 == 1 then r else difference_mod p 1 r) * w) % p) (factor_is_product p (i / 2) challenges)

-- what an update adds to a point
abbrev pub point_term : ℕ → List ℕ → Update → ℕ
point_term p challenges u = residue p u.delta * chi p u.item challenges

-- a point is a running number in which an entry counts by a product
pub point_is_products : (p : ℕ) (challenges : List ℕ) (value : ℕ) (updates : List Update) →
    number_after p (zero_factor p Extension) challenges value updates ≡ point_after p challenges value updates
point_is_products p challenges =
    after_same p (product_term p (zero_factor p Extension) challenges) (point_term p challenges)
    (λ u. ap (λ w. residue p u.delta * w) (factor_is_product p u.item challenges))

module _ (p : ℕ) (challenges : List ℕ) where
  -- a point stands for the numbers after the updates that it got
  pub point_stands_after : 0 < p → (updates : List Update) (old new : ℕ) (numbers : List ℤ) → All (λ u. u.item < 2 ^ length challenges) updates →
      new ≡ point_after p challenges old updates → PointStandsFor p challenges old numbers → PointStandsFor p challenges new (numbers_after numbers updates)
  point_stands_after some [] old new numbers within is h = subst (λ v. PointStandsFor p challenges v numbers) (sym is) h
  point_stands_after some (u ∷ updates) old new numbers within is h =
      let next : ℕ = (old + residue p u.delta * chi p u.item challenges) % p in
      point_stands_after some updates next new (raised_numbers numbers u.item u.delta)
      (All-tail (λ v. v.item < 2 ^ length challenges) u updates within) is
      (point_stands p challenges u.item u.delta old next numbers some (All-head (λ v. v.item < 2 ^ length challenges) u updates within) refl h)
