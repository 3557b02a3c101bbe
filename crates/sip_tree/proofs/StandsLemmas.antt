-- An update goes from a vector to the same with one entry raised, and an absorbed root to the
-- entrywise sum.
use Rattle.std.proofs.Common.{◌≡◌, ℕ, ◌+◌, ◌*◌, ◌%◌, ◌^◌, ◌<◌, ℤ, pos, ◌+ℤ◌, List, length, get_or, sym, ◌∙◌, ap, subst, arith}
use Rattle.std.proofs.lemmas.List.{length-set}
use Rattle.sip_field.specs.Residue.{residue}
use Rattle.sip_vector.specs.Lines.{added_numbers}
use Rattle.sip_vector.specs.Trees.{root, augroot}
use Rattle.sip_vector.specs.Weights.{raised_numbers, node_weight, hash_weight}
use Rattle.sip_vector.proofs.Lines.{length-added, root_added, augroot_added, joined}
use Rattle.sip_vector.proofs.TreeUpdates.{root_raised}
use Rattle.sip_vector.proofs.TreeCounted.{augroot_raised, raised_node, same_node}
use Rattle.sip_tree.specs.StandsFor.{RootStandsFor, AugRootStandsFor}

module _ (p : ℕ) (challenges : List ℕ) (i : ℕ) (delta : ℤ) (some : 0 < p) (within : i < 2 ^ length challenges) where
  as_long : (numbers : List ℤ) → length numbers ≡ 2 ^ length challenges → length (raised_numbers numbers i delta) ≡ 2 ^ length challenges
  as_long numbers whole = length-set numbers i (get_or numbers i (pos 0) +ℤ delta) ∙ whole

  pub root_stands : (old new : ℕ) (numbers : List ℤ) → new ≡ (old + residue p delta * node_weight p i challenges) % p →
      RootStandsFor p challenges old numbers → RootStandsFor p challenges new (raised_numbers numbers i delta)
  root_stands old new numbers is h =
      let inside : i < length numbers = omega (arith, h.whole) in
      record {
        whole = as_long numbers h.whole;
        same = is ∙ ap (λ v. (v + residue p delta * node_weight p i challenges) % p) h.same ∙ sym (root_raised p numbers challenges i delta some h.whole inside);
      }

  pub augroot_stands : (old new : ℕ) (before after : ℤ) (numbers : List ℤ) → new ≡ (old + residue p delta * hash_weight p i challenges) % p → after ≡ before +ℤ delta →
      AugRootStandsFor p challenges old before numbers → AugRootStandsFor p challenges new after (raised_numbers numbers i delta)
  augroot_stands old new before after numbers is also h =
      let inside : i < length numbers = omega (arith, h.whole) in
      record {
        whole = as_long numbers h.whole;
        same = same_node _ _ _ _ is also ∙ ap (λ node. raised_node p node (hash_weight p i challenges) delta) h.same ∙ sym (augroot_raised p numbers challenges i delta some h.whole inside);
      }

-- two roots at one seat
module _ (p : ℕ) (challenges others_seat : List ℕ) (some : 0 < p) (seat : others_seat ≡ challenges) where
  whole_sum : (numbers others : List ℤ) → length numbers ≡ 2 ^ length challenges → length numbers ≡ length others → length (added_numbers numbers others) ≡ 2 ^ length challenges
  whole_sum numbers others whole long = length-added numbers others long ∙ whole

  pub roots_stand : (a b new : ℕ) (numbers others : List ℤ) → new ≡ (a + b) % p → RootStandsFor p challenges a numbers → RootStandsFor p others_seat b others
      → RootStandsFor p challenges new (added_numbers numbers others)
  roots_stand a b new numbers others is f g =
      let h : RootStandsFor p challenges b others = subst (λ rs. RootStandsFor p rs b others) seat g in
      let long : length numbers ≡ length others = f.whole ∙ sym h.whole in
      record {
        whole = whole_sum numbers others f.whole long;
        same = is ∙ ap (λ k. (k + b) % p) f.same ∙ ap (λ k. (root p numbers challenges + k) % p) h.same ∙ sym (root_added p numbers others challenges some long);
      }

  pub augroots_stand : (a b new : ℕ) (m n after : ℤ) (numbers others : List ℤ) → new ≡ (a + b) % p → after ≡ m +ℤ n
      → AugRootStandsFor p challenges a m numbers → AugRootStandsFor p others_seat b n others → AugRootStandsFor p challenges new after (added_numbers numbers others)
  augroots_stand a b new m n after numbers others is also f g =
      let h : AugRootStandsFor p challenges b n others = subst (λ rs. AugRootStandsFor p rs b n others) seat g in
      let long : length numbers ≡ length others = f.whole ∙ sym h.whole in
      record {
        whole = whole_sum numbers others f.whole long;
        same = same_node _ _ _ _ is also ∙ ap (λ x. joined p x (record { hash = b; count = n })) f.same ∙ ap (joined p (augroot p numbers challenges)) h.same
            ∙ sym (augroot_added p numbers others challenges some long);
      }
