-- What is kept for an open question for large entries stands for it, and goes on doing so.
use Rattle.std.proofs.Common.{◌≡◌, ℕ, ◌+◌, ◌-◌, ◌*◌, ◌/◌, ◌%◌, ◌^◌, ◌<◌, ◌≤◌, false, List, [], ◌∷◌, ◌++◌, length, All, ℤ, pos, nat_abs, sum_by, Option, Some, Result, Ok, refl, sym, ap, subst, ◌∙◌, arith}
use native.Mathlib.Numerals.{unary_clauses}
use Rattle.std.specs.Prelude.{◌≤ℤ◌}
use Rattle.std.specs.List.{AllByRecursion, zip}
use Rattle.std.proofs.Math.Nat.{mod-eq_of_lt}
use Rattle.std.proofs.lemmas.Int.{ints}
use Rattle.std.proofs.lemmas.List.{length_push}
use Rattle.std.proofs.lemmas.List.Elements.{All-from_recursion, All-nil, All-push, recursion_from_All}
use Rattle.std.proofs.lemmas.List.Sums.{sum_by-cons}
use Rattle.sip_field.specs.Moduli.{m61_modulus}
use Rattle.sip_vector.specs.Streams.{int_sum, most_weight}
use Rattle.sip_vector.proofs.Folds.{folds_left-two}
use Rattle.sip_wire.specs.declared.version.Version.TheVariants.{Two}
use Rattle.sip_wire.specs.Versions.{deepest}
use Rattle.sip_heavy.specs.declared.form.LeafForm.TheVariants as forms
use Rattle.sip_heavy.specs.Counting.{IsWeighed}
use Rattle.sip_heavy.specs.Honest.{Proving, learnt}
use Rattle.sip_heavy.specs.HonestMarks.{CanBeMarked, begun_above, mark_leaves}
use Rattle.sip_heavy.proofs.FewFooledByBytes.{positive_is}
use Rattle.sip_heavy.proofs.HonestReplies.{leaves-push}
use Rattle.sip_heavy.proofs.TrueLevels.{sum_positive}
use Rattle.sip_helper.proofs.SubVectors.{half_of}
use Rattle.sip_above.specs.declared.large.Large.{Large}
use Rattle.sip_above.specs.declared.under_way.LargeUnderWay.{LargeUnderWay}
use Rattle.sip_above.specs.Serving.{Weighed, is_many, newly_asked}
use Rattle.sip_above.specs.UnderWay.{CanReply, HasLevel, IsMade, open_of, wants_memory}

-- ---- a side that can be marked

-- values within their weights are small where they add up to little
weighs : (values weights : List ℤ) → sum_by nat_abs values ≤ most_weight
    → AllByRecursion (λ x. pos (nat_abs x.0) ≤ℤ x.1) (zip values weights)
    → AllByRecursion (λ x. IsWeighed m61_modulus x.0 x.1) (zip values weights)
weighs [] weights light all = tt
weighs (a ∷ values) [] light all = tt
weighs (a ∷ values) (w ∷ weights) light all =
    let sum = sum_by-cons nat_abs a values in
    let room : most_weight ≤ (m61_modulus - 1) / 2 = omega arith in (
      record { within = all.0; small = omega (arith, sum, light, room) },
      weighs values weights (omega (arith, sum, light)) all.1,
    )

-- and no weight is below 0
positive : (values weights : List ℤ) → length values ≡ length weights
    → AllByRecursion (λ x. pos (nat_abs x.0) ≤ℤ x.1) (zip values weights)
    → AllByRecursion (λ w. pos 0 ≤ℤ w) weights
positive [] [] long all = tt
positive [] (w ∷ weights) long all = absurd (omega (arith, long))
positive (a ∷ values) [] long all = absurd (omega (arith, long))
positive (a ∷ values) (w ∷ weights) long all =
    let within = all.0 in
    (omega (arith, ints, within), positive values weights (omega (arith, long)) all.1)

pub can_be_marked : (depth : ℕ) (values weights : List ℤ) → 1 ≤ depth → depth ≤ deepest Two
    → length values ≡ 2 ^ depth → length weights ≡ 2 ^ depth
    → sum_by nat_abs values ≤ most_weight → nat_abs (int_sum weights) ≤ most_weight
    → All (λ x. pos (nat_abs x.0) ≤ℤ x.1) (zip values weights)
    → (n : ℕ) × CanBeMarked m61_modulus depth n values weights
can_be_marked depth values weights some deep size heavy light weight all =
    let by = recursion_from_All (λ (x : ℤ × ℤ). pos (nat_abs x.0) ≤ℤ x.1) (zip values weights) all in
    let long : length values ≡ length weights = size ∙ sym heavy in
    let sum = positive_is (int_sum weights) (sum_positive weights (positive values weights long by)) in
    let few : most_weight < m61_modulus = omega arith in (
      sum.0,
      record {
        weighed = record {
          modulus = omega arith;
          levels = some;
          long = long;
          size = heavy;
          weighed = All-from_recursion (λ (x : ℤ × ℤ). IsWeighed m61_modulus x.0 x.1) (zip values weights) (weighs values weights light by);
          total = sum.1;
          light = omega (arith, ap nat_abs sum.1, weight, few);
        };
        elements = omega arith;
        shallow = deep;
      },
    )

-- ---- the prover at hand

pub at_hand : (depth : ℕ) (side : Option Weighed) (q : LargeUnderWay) (prover : Proving)
    → q.made ≡ Ok prover → CanReply depth side q
    → HasLevel depth side q.large q.revealed.items prover
at_hand depth side q prover is can =
    subst (λ (made : Result Proving ℕ). IsMade depth side q.large q.revealed.items made) is can.made

-- its level has two nodes at least
pub tall_at_hand : (depth : ℕ) (side : Option Weighed) (q : LargeUnderWay) (prover : Proving)
    → q.made ≡ Ok prover → CanReply depth side q → 2 ≤ length prover.level
tall_at_hand depth side q prover is can =
    let has = at_hand depth side q prover is can in
    let n = depth - length q.revealed.items in
    let left = can.left in
    omega (arith, folds_left-two n (omega (arith, left)), has.height)

-- ---- a question that was asked

pub asked_is : (q : LargeUnderWay) (large : Large) (made : Result Proving ℕ) → q.large ≡ large
    → q.made ≡ made → q.revealed.items ≡ [] → q.given ≡ false
    → open_of q ≡ newly_asked large (wants_memory made)
asked_is q large made a b c d = cc

-- it can be replied to
pub ready_by : (depth : ℕ) (side : Option Weighed) (q : LargeUnderWay) (large : Large)
    (made : Result Proving ℕ) → 1 ≤ depth → q.large ≡ large → q.made ≡ made
    → q.revealed.items ≡ [] → q.given ≡ false → IsMade depth side large [] made
    → CanReply depth side q
ready_by depth side q large made some own is none owed so = record {
  left = let count = ap length none in omega (arith, count, some);
  elements = subst (All (λ (r : ℕ). r < m61_modulus)) (sym none) (All-nil (λ r. r < m61_modulus));
  made = rw (own, is, none) so;
  owed = λ _. owed;
}

-- a prover that begins has the lowest level
pub begun_has : (depth : ℕ) (v : Weighed) (large : Large) (n : ℕ) (prover : Proving)
    → CanBeMarked m61_modulus depth n v.values v.weights → is_many v large ≡ false
    → prover ≡ begun_above m61_modulus v.values v.weights large.at_least
    → length prover.level ≡ 2 ^ depth → HasLevel depth (Some v) large [] prover
begun_has depth v large n prover can few is long = record {
  shown = v;
  is = refl;
  total = n;
  can = can;
  few = few;
  level = is;
  height = simp unary_clauses long;
}

-- ---- a challenge

-- a prover that learns one more challenge has the next level
pub learnt_has : (depth : ℕ) (side : Option Weighed) (large : Large) (revealed : List ℕ)
    (prover after : Proving) (r s : ℕ) → HasLevel depth side large revealed prover
    → r < m61_modulus → s ≡ r % m61_modulus → after ≡ learnt m61_modulus prover s
    → 2 * length after.level ≡ length prover.level → length revealed + 1 < depth
    → HasLevel depth side large (revealed ++ r ∷ []) after
learnt_has depth side large revealed prover after r s has element is above half less =
    let same : s ≡ r = is ∙ mod-eq_of_lt element in
    let leaves = mark_leaves m61_modulus has.shown.values has.shown.weights in
    record {
      shown = has.shown;
      is = has.is;
      total = has.total;
      can = has.can;
      few = has.few;
      level = above ∙ ap (learnt m61_modulus prover) same
          ∙ ap (λ (x : Proving). learnt m61_modulus x r) has.level
          ∙ sym (leaves-push m61_modulus forms.Mark leaves large.at_least revealed r);
      height = half_of depth (length revealed) (length prover.level) (length after.level) half
          has.height less
          ∙ ap (λ (n : ℕ). 2 ^ (depth - n)) (sym (length_push revealed r));
    }

-- the question stands behind the challenge
pub stands_higher : (depth : ℕ) (side : Option Weighed) (q next : LargeUnderWay)
    (made : Result Proving ℕ) (r : ℕ) → CanReply depth side q → r < m61_modulus
    → length q.revealed.items + 1 < depth → next.large ≡ q.large → next.made ≡ made
    → next.revealed.items ≡ q.revealed.items ++ r ∷ [] → next.given ≡ false
    → IsMade depth side q.large (q.revealed.items ++ r ∷ []) made → CanReply depth side next
stands_higher depth side q next made r can element less own is more owed so =
    let count : length next.revealed.items ≡ length q.revealed.items + 1 =
    ap length more ∙ length_push q.revealed.items r in
    record {
      left = omega (arith, count, less);
      elements = subst (All (λ (r : ℕ). r < m61_modulus)) (sym more)
          (All-push (λ r. r < m61_modulus) q.revealed.items r can.elements element);
      made = rw (own, is, more) so;
      owed = λ _. owed;
    }
