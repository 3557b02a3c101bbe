-- The split root: what an update adds to it, and which lists it stands for.
use Rattle.std.proofs.Common.{◌≡◌, ℕ, zero, suc, ◌+◌, ◌-◌, ◌*◌, ◌/◌, ◌%◌, ◌^◌, ◌<◌, ◌≤◌, ℤ, pos, negsuc, ◌+ℤ◌, nat_abs, List, [], ◌∷◌, ◌++◌, length, get_or, map, take, refl, sym, ◌∙◌, ap, subst, arith}
use Rattle.std.specs.Prelude.{All, ◌<ℤ◌}
use Rattle.std.proofs.Math.Nat.{mod-lt, mod-mod, mod-add-div, zero-mod, add-mul-mod_self_left}
use Rattle.std.proofs.lemmas.Int.{ints}
use Rattle.std.proofs.lemmas.List.{length-set}
use Rattle.std.proofs.lemmas.List.Elements.{All-head, All-tail}
use Rattle.std.proofs.lemmas.List.Sums.{fold_more}
use Rattle.std.proofs.lemmas.Nat.{mul-mod_first, mul-mod_second}
use Rattle.sip_field.specs.Residue.{residue}
use Rattle.sip_vector.specs.Lines.{added_numbers}
use Rattle.sip_vector.specs.Splits.{absolute, weights, splittop, value_factor, weight_factor}
use Rattle.sip_vector.specs.Streams.{vector}
use Rattle.sip_vector.specs.Trees.{Counted}
use Rattle.sip_vector.specs.Weights.{raised_numbers, numbers_after, hash_weight_from}
use Rattle.sip_vector.specs.declared.update.Side.{Side}
use Rattle.sip_vector.specs.declared.update.Update.{Update}
use Rattle.sip_vector.proofs.Lines.{joined, length-added, vector_joined}
use Rattle.sip_vector.proofs.Splits.{weights_joined}
use Rattle.sip_vector.proofs.SplitTree.{splittop_added, splittop_raised, weight_is_line}
use Rattle.sip_vector.proofs.TreeCounted.{same_node}
use Rattle.sip_vector.proofs.TreeResidues.{mod_plus, mod_cancel}
use Rattle.sip_tree.specs.Blocks.{split_term, split_after, weight_after}
use Rattle.sip_tree.specs.StandsFor.{SplitRootStandsFor}
use Rattle.sip_tree.specs.Steps.{sign}

-- ---- signs

pub sign_below : (z : ℤ) → z <ℤ pos 0 → sign z ≡ negsuc 0
sign_below (pos n) low = absurd (let no : ⊥ = omega (arith, ints, low) in no)
sign_below (negsuc n) low = refl

pub sign_above : (z : ℤ) → (z <ℤ pos 0 → ⊥) → sign z ≡ pos 1
sign_above (pos n) high = refl
sign_above (negsuc n) high = absurd (high (omega (arith, ints)))

-- a number is its sign times its size
residue_is_signed : (p : ℕ) (z : ℤ) → 0 < p → (residue p (sign z) * nat_abs z) % p ≡ residue p z % p
residue_is_signed p (pos n) some = mul-mod_first 1 n p ∙ ap (λ k. k % p) (let same : 1 * n ≡ n = omega arith in same) ∙ sym (mod-mod n p)
residue_is_signed zero (negsuc n) some = absurd (omega (arith, some))
residue_is_signed (suc q) (negsuc n) some =
    let p : ℕ = suc q in
    let none : 0 % p ≡ 0 = zero-mod p in
    let less : p - 1 - 0 % p ≡ q = omega (arith, none) in
    let left : q * suc n + suc n ≡ 0 + p * suc n = grind arith in
    let cut : n % p < p = mod-lt n some in
    let right : p - 1 - n % p + suc n ≡ 0 + p * (n / p + 1) = omega (arith, mod-add-div n p, cut) in
    ap (λ k. (k * suc n) % p) less
    ∙ mod_cancel p (q * suc n) (p - 1 - n % p) (suc n) some
    (ap (λ k. k % p) left ∙ add-mul-mod_self_left 0 p (suc n) ∙ sym (add-mul-mod_self_left 0 p (n / p + 1)) ∙ ap (λ k. k % p) (sym right))

-- the size of a delta, times what the levels make of its sign, is what the update adds
pub term_is : (p item : ℕ) (challenges : List ℕ) (delta : ℤ) (x : ℕ) → 0 < p →
    x % p ≡ (nat_abs delta * hash_weight_from p (residue p (sign delta)) item challenges) % p → x % p ≡ split_term p challenges item delta % p
term_is p item challenges delta x some is =
    let n : ℕ = nat_abs delta in
    let s : ℕ = residue p (sign delta) in
    let h : ℕ = hash_weight_from p s item challenges in
    let g : ℕ = value_factor p item challenges in
    let k : ℕ = weight_factor p item challenges in
    is ∙ sym (mul-mod_second n h p) ∙ ap (λ y. (n * y) % p) (weight_is_line p s item challenges) ∙ mul-mod_second n (s * g + k) p
    ∙ ap (λ y. y % p) (let same : n * (s * g + k) ≡ s * n * g + n * k = omega arith in same)
    ∙ mod_plus p (s * n * g) (residue p delta * g) (n * k) (n * k)
    (sym (mul-mod_first (s * n) g p) ∙ ap (λ y. (y * g) % p) (residue_is_signed p delta some) ∙ mul-mod_first (residue p delta) g p) refl

-- ---- many updates

-- the term of an update
abbrev pub signed_term : ℕ → List ℕ → Update → ℕ
signed_term p challenges u = split_term p challenges u.item u.delta

pub one_weight : (weight : ℕ) (updates : List Update) (k : ℕ) (d : Update) (sum : ℕ) → k < length updates →
    sum ≡ weight_after weight (take k updates) → sum + nat_abs (get_or updates k d).delta ≡ weight_after weight (take (k + 1) updates)
one_weight weight updates k d sum within before =
    let add : ℕ → Update → ℕ = λ w u. w + nat_abs u.delta in
    ap (λ w. add w (get_or updates k d)) before ∙ sym (fold_more add weight updates k d within)

-- weights only grow
grows : (weight : ℕ) (updates : List Update) → weight ≤ weight_after weight updates
grows weight [] = omega arith
grows weight (u ∷ updates) = omega (arith, grows (weight + nat_abs u.delta) updates)

pub front_is_light : (weight : ℕ) (updates : List Update) (k : ℕ) → weight_after weight (take k updates) ≤ weight_after weight updates
front_is_light weight updates zero = grows weight updates
front_is_light weight [] (suc k) = omega arith
front_is_light weight (u ∷ updates) (suc k) = front_is_light (weight + nat_abs u.delta) updates k

-- ---- which lists a root stands for

pub split_root_stands : (p : ℕ) (challenges : List ℕ) (i : ℕ) (delta : ℤ) (old new before after : ℕ) (values weights : List ℤ) → 0 < p → i < 2 ^ length challenges →
    new ≡ (old + split_term p challenges i delta) % p → after ≡ before + nat_abs delta →
    SplitRootStandsFor p challenges old before values weights →
    SplitRootStandsFor p challenges new after (raised_numbers values i delta) (raised_numbers weights i (pos (nat_abs delta)))
split_root_stands p challenges i delta old new before after values weights some within is also h =
    let g : ℕ = value_factor p i challenges in
    let k : ℕ = weight_factor p i challenges in
    let n : ℕ = nat_abs delta in
    let raised : Counted → Counted = λ node. record {
      hash = (node.hash + residue p delta * g + residue p (pos n) * k) % p;
      count = node.count +ℤ pos n;
    } in
    let hash : new ≡ (old + residue p delta * g + n % p * k) % p =
    is ∙ ap (λ y. y % p) (let same : old + (residue p delta * g + n * k) ≡ old + residue p delta * g + n * k = omega arith in same)
    ∙ mod_plus p (old + residue p delta * g) (old + residue p delta * g) (n * k) (n % p * k) refl (sym (mul-mod_first n k p)) in
    record {
      whole = length-set values i _ ∙ h.whole;
      weighed = length-set weights i _ ∙ h.weighed;
      same = same_node _ _ _ _ hash (ap pos also) ∙ ap raised h.same
          ∙ sym (splittop_raised p values weights challenges i delta (pos n) some h.whole h.weighed (omega (arith, h.whole)));
    }

pub split_root_stands_after : (p : ℕ) (challenges : List ℕ) → 0 < p → (updates : List Update) (old new before after : ℕ) (values weights : List ℤ) →
    All (λ u. u.item < 2 ^ length challenges) updates → new ≡ split_after p challenges old updates → after ≡ weight_after before updates →
    SplitRootStandsFor p challenges old before values weights →
    SplitRootStandsFor p challenges new after (numbers_after values updates) (numbers_after weights (map absolute updates))
split_root_stands_after p challenges some [] old new before after values weights within is also h =
    subst (λ v. SplitRootStandsFor p challenges v after values weights) (sym is) (subst (λ w. SplitRootStandsFor p challenges old w values weights) (sym also) h)
split_root_stands_after p challenges some (u ∷ updates) old new before after values weights within is also h =
    let next : ℕ = (old + split_term p challenges u.item u.delta) % p in
    split_root_stands_after p challenges some updates next new (before + nat_abs u.delta) after
    (raised_numbers values u.item u.delta) (raised_numbers weights u.item (pos (nat_abs u.delta)))
    (All-tail (λ v. v.item < 2 ^ length challenges) u updates within) is also
    (split_root_stands p challenges u.item u.delta old next before (before + nat_abs u.delta) values weights some
    (All-head (λ v. v.item < 2 ^ length challenges) u updates within) refl refl h)

pub split_roots_stand : (p : ℕ) (challenges others_seat : List ℕ) (a b new m n after : ℕ) (values weights others more : List ℤ) → 0 < p → others_seat ≡ challenges →
    new ≡ (a + b) % p → after ≡ m + n → SplitRootStandsFor p challenges a m values weights → SplitRootStandsFor p others_seat b n others more →
    SplitRootStandsFor p challenges new after (added_numbers values others) (added_numbers weights more)
split_roots_stand p challenges others_seat a b new m n after values weights others more some seat is also f g =
    let h : SplitRootStandsFor p challenges b n others more = subst (λ rs. SplitRootStandsFor p rs b n others more) seat g in
    let one : length values ≡ length weights = f.whole ∙ sym f.weighed in
    let two : length others ≡ length more = h.whole ∙ sym h.weighed in
    let both : length values ≡ length others = f.whole ∙ sym h.whole in
    let right : Counted = record { hash = b; count = pos n } in
    record {
      whole = length-added values others both ∙ f.whole;
      weighed = length-added weights more (f.weighed ∙ sym h.weighed) ∙ f.weighed;
      same = same_node _ _ _ _ is (ap pos also) ∙ ap (λ x. joined p x right) f.same ∙ ap (joined p (splittop p values weights challenges)) h.same
          ∙ sym (splittop_added p values others weights more challenges some one two both);
    }

-- what stands for the entrywise sums stands for both streams, one behind the other
pub split_root_joins : (p : ℕ) (challenges : List ℕ) (hash weight depth : ℕ) (s t : List Update) (side : Side) →
    SplitRootStandsFor p challenges hash weight (added_numbers (vector depth s side) (vector depth t side)) (added_numbers (weights depth s side) (weights depth t side)) →
    SplitRootStandsFor p challenges hash weight (vector depth (s ++ t) side) (weights depth (s ++ t) side)
split_root_joins p challenges hash weight depth s t side h =
    subst (λ vs. SplitRootStandsFor p challenges hash weight vs (weights depth (s ++ t) side)) (sym (vector_joined depth s t side))
    (subst (λ ws. SplitRootStandsFor p challenges hash weight (added_numbers (vector depth s side) (vector depth t side)) ws) (sym (weights_joined depth s t side)) h)
