-- Blocks of updates: the weights that tables of products give, and what a root stands for after
-- each update.
use Rattle.std.proofs.Common.{◌≡◌, ℕ, ◌+◌, ◌*◌, ◌/◌, ◌%◌, ◌^◌, ◌<◌, ◌==◌, if◌then◌else◌, ℤ, ◌+ℤ◌, List, [], ◌∷◌, length, get_or, take, refl, sym, ◌∙◌, ap, subst}
use Rattle.std.specs.Prelude.{All}
use Rattle.std.proofs.lemmas.List.Elements.{All-head, All-tail}
use Rattle.std.proofs.lemmas.List.Sums.{fold_more}
use Rattle.sip_field.specs.Residue.{residue}
use Rattle.sip_field.specs.Products.{zero_factor, bits_product}
use Rattle.sip_field.specs.declared.factors.Factors.TheVariants.{Tree}
use Rattle.sip_vector.specs.Weights.{raised_numbers, numbers_after, node_weight, hash_weight}
use Rattle.sip_vector.specs.declared.update.Update.{Update}
pub use Rattle.sip_vector.proofs.RunningSums.{one_more, sum_begins, sum_grows, sum_more}
use Rattle.sip_vector.proofs.RunningSums.{after_same, product_term}
use Rattle.sip_vector.specs.Running.{number_after}
use Rattle.sip_tree.specs.Blocks.{root_after, hash_after, total_after}
use Rattle.sip_tree.specs.StandsFor.{RootStandsFor, AugRootStandsFor}
use Rattle.sip_tree.proofs.StandsLemmas.{root_stands, augroot_stands}

-- the terms of a root and of an augmented root
abbrev pub root_term : ℕ → List ℕ → Update → ℕ
root_term p challenges u = residue p u.delta * node_weight p u.item challenges

abbrev pub hash_term : ℕ → List ℕ → Update → ℕ
hash_term p challenges u = residue p u.delta * hash_weight p u.item challenges

-- a node's weight is a product over the bits of its index
pub weight_is_product : (p i : ℕ) (challenges : List ℕ) → bits_product p (zero_factor p Tree) i challenges ≡ node_weight p i challenges
weight_is_product p i [] = refl
weight_is_product p i (r ∷ challenges) = ap (λ w. ((if i % 2 == 1 then r else 1) * w) % p) (weight_is_product p (i / 2) challenges)

-- a root is a running number in which an entry counts by a product
pub root_is_products : (p : ℕ) (challenges : List ℕ) (value : ℕ) (updates : List Update) →
    number_after p (zero_factor p Tree) challenges value updates ≡ root_after p challenges value updates
root_is_products p challenges =
    after_same p (product_term p (zero_factor p Tree) challenges) (root_term p challenges)
    (λ u. ap (λ w. residue p u.delta * w) (weight_is_product p u.item challenges))

module _ (p : ℕ) (challenges : List ℕ) where
  -- a root stands for the numbers after the updates that it got
  pub root_stands_after : 0 < p → (updates : List Update) (old new : ℕ) (numbers : List ℤ) → All (λ u. u.item < 2 ^ length challenges) updates →
      new ≡ root_after p challenges old updates → RootStandsFor p challenges old numbers → RootStandsFor p challenges new (numbers_after numbers updates)
  root_stands_after some [] old new numbers within is h = subst (λ v. RootStandsFor p challenges v numbers) (sym is) h
  root_stands_after some (u ∷ updates) old new numbers within is h =
      let next : ℕ = (old + residue p u.delta * node_weight p u.item challenges) % p in
      root_stands_after some updates next new (raised_numbers numbers u.item u.delta)
      (All-tail (λ v. v.item < 2 ^ length challenges) u updates within) is
      (root_stands p challenges u.item u.delta some (All-head (λ v. v.item < 2 ^ length challenges) u updates within) old next numbers refl h)

  -- likewise for an augmented root
  pub augroot_stands_after : 0 < p → (updates : List Update) (old new : ℕ) (before after : ℤ) (numbers : List ℤ) → All (λ u. u.item < 2 ^ length challenges) updates →
      new ≡ hash_after p challenges old updates → after ≡ total_after before updates →
      AugRootStandsFor p challenges old before numbers → AugRootStandsFor p challenges new after (numbers_after numbers updates)
  augroot_stands_after some [] old new before after numbers within is also h =
      subst (λ v. AugRootStandsFor p challenges v after numbers) (sym is) (subst (λ t. AugRootStandsFor p challenges old t numbers) (sym also) h)
  augroot_stands_after some (u ∷ updates) old new before after numbers within is also h =
      let next : ℕ = (old + residue p u.delta * hash_weight p u.item challenges) % p in
      augroot_stands_after some updates next new (before +ℤ u.delta) after (raised_numbers numbers u.item u.delta)
      (All-tail (λ v. v.item < 2 ^ length challenges) u updates within) is also
      (augroot_stands p challenges u.item u.delta some (All-head (λ v. v.item < 2 ^ length challenges) u updates within) old next before (before +ℤ u.delta) numbers refl refl h)

pub one_total : (total : ℤ) (updates : List Update) (k : ℕ) (d : Update) (sum : ℤ) → k < length updates →
    sum ≡ total_after total (take k updates) → sum +ℤ (get_or updates k d).delta ≡ total_after total (take (k + 1) updates)
one_total total updates k d sum within before =
    let add : ℤ → Update → ℤ = λ t u. t +ℤ u.delta in
    ap (λ t. add t (get_or updates k d)) before ∙ sym (fold_more add total updates k d within)
