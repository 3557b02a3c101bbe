-- Leaves that stand for numbers, and what of them can be counted and sent.
use Rattle.std.proofs.Common.{◌≡◌, ℕ, ◌^◌, ◌<◌, ◌≤◌, List, [], ◌∷◌, length, map, ℤ, pos, ◌+ℤ◌, nat_abs, refl, sym, ap, subst, ◌∙◌, arith}
use Rattle.std.specs.Prelude.{◌≤ℤ◌}
use Rattle.std.specs.List.{AllByRecursion, zip}
use Rattle.std.proofs.Math.Nat.{mod-eq_of_lt}
use Rattle.std.proofs.lemmas.Int.{ints}
use Rattle.std.proofs.lemmas.List.{length-map}
use Rattle.std.proofs.lemmas.List.Elements.{recursion_from_All}
use Rattle.sip_field.specs.Moduli.{m61_modulus}
use Rattle.sip_field.specs.Residue.{residue}
use Rattle.sip_vector.specs.Streams.{int_sum}
use Rattle.sip_vector.specs.Trees.{Counted, leaf}
use Rattle.sip_vector.proofs.TreeResidues.{residue_below}
use Rattle.sip_wire.specs.declared.version.Version.{Version}
use Rattle.sip_wire.specs.declared.version.Version.TheVariants.{Two}
use Rattle.sip_wire.specs.Versions.{deepest}
use Rattle.sip_heavy.specs.declared.form.LeafForm.{LeafForm}
use Rattle.sip_heavy.specs.declared.form.LeafForm.TheVariants as forms
use Rattle.sip_heavy.specs.AcceptsHeavy.{signed}
use Rattle.sip_heavy.specs.Counting.{LeavesStand, IsWeighed}
use Rattle.sip_heavy.specs.Honest.{CanBeCounted, CanBeSent}
use Rattle.sip_heavy.specs.HonestMarks.{mark_leaves, CanBeWeighed, CanBeMarked}
use Rattle.sip_heavy.proofs.CountLeaves.{counts_stand}
use Rattle.sip_heavy.proofs.HeavyPairs.{counts, AreCounts}
use Rattle.sip_heavy.proofs.HonestFrames.{AreHashed, AreMarks, AreShown, IsMarked, leaves_are_leaves, leaves_hashed}
use Rattle.sip_heavy.proofs.MarkLeaves.{long_marks, marks_stand, signed_of, weight_is, weights_of}

-- Leaves stand for numbers, and the sum of their counts, which is n, is itself a residue.
pub record AreCounted (p : ℕ) (form : LeafForm) (depth n : ℕ) (leaves : List Counted) (numbers : List ℤ) : Type 0 where
  pub modulus : 0 < p
  pub levels : 1 ≤ depth
  pub size : length leaves ≡ 2 ^ depth
  pub stand : LeavesStand p form leaves numbers
  pub hashed : AreHashed p leaves
  pub total : counts leaves ≡ n
  pub light : n < p

-- They and the nodes over them can be sent in this version.
pub record AreSendable (version : Version) (p : ℕ) (form : LeafForm) (depth n : ℕ) (leaves : List Counted) (numbers : List ℤ) : Type 0 where
  pub counted : AreCounted p form depth n leaves numbers
  pub elements : p ≤ m61_modulus
  pub shallow : depth ≤ deepest version
  pub shown : AreShown version p form leaves

-- ---- counts

pub are_counts : (p : ℕ) (form : LeafForm) (leaves : List Counted) (numbers : List ℤ) → LeavesStand p form leaves numbers → AreCounts leaves
are_counts p form [] numbers stand = tt
are_counts p form (c ∷ leaves) [] stand = absurd stand
are_counts p form (c ∷ leaves) (a ∷ numbers) stand =
    let is = stand.0.counts.1 in (is ∙ ap (λ n. pos n) (sym (ap nat_abs is)), are_counts p form leaves numbers stand.1)

-- their sum
sum_counts : (leaves : List Counted) → AreCounts leaves → int_sum (map (λ c. c.count) leaves) ≡ pos (counts leaves)
sum_counts [] are = refl
sum_counts (c ∷ leaves) are = ap (λ z. z +ℤ int_sum (map (λ (x : Counted). x.count) leaves)) are.0 ∙ ap (λ z. pos (nat_abs c.count) +ℤ z) (sum_counts leaves are.1)

pub counts_are : (leaves : List Counted) (sums : List ℤ) (n : ℕ) → AreCounts leaves → map (λ c. c.count) leaves ≡ sums → int_sum sums ≡ pos n → counts leaves ≡ n
counts_are leaves sums n are same total = ap nat_abs (sym (sum_counts leaves are) ∙ ap int_sum same ∙ total)

-- ---- leaves that count

pub numbers_of : (p : ℕ) (numbers : List ℤ) → map (λ c. c.count) (map (leaf p) numbers) ≡ numbers
numbers_of p [] = refl
numbers_of p (a ∷ numbers) = ap (λ zs. a ∷ zs) (numbers_of p numbers)

pub counts_counted : (p depth n : ℕ) (numbers : List ℤ) → CanBeCounted p depth n numbers → AreCounted p forms.Count depth n (map (leaf p) numbers) numbers
counts_counted p depth n numbers can =
    let stand = counts_stand p numbers can.strict in
    record {
      modulus = can.modulus;
      levels = can.levels;
      size = length-map numbers (leaf p) ∙ can.size;
      stand = stand;
      hashed = leaves_hashed p can.modulus numbers;
      total = counts_are (map (leaf p) numbers) numbers n (are_counts p forms.Count (map (leaf p) numbers) numbers stand) (numbers_of p numbers) can.total;
      light = can.light;
    }

pub counts_sendable : (version : Version) (p depth n : ℕ) (numbers : List ℤ) → CanBeSent version p depth n numbers → AreSendable version p forms.Count depth n (map (leaf p) numbers) numbers
counts_sendable version p depth n numbers can =
    let counted = counts_counted p depth n numbers can.counted in
    record {
      counted = counted;
      elements = can.elements;
      shallow = can.shallow;
      shown = leaves_are_leaves p numbers can.counted.strict (omega (arith, counted.total, counted.light));
    }

pub counts_total : (p depth n : ℕ) (numbers : List ℤ) → AreCounted p forms.Count depth n (map (leaf p) numbers) numbers → int_sum numbers ≡ pos n
counts_total p depth n numbers can =
    ap int_sum (sym (numbers_of p numbers)) ∙ sum_counts (map (leaf p) numbers) (are_counts p forms.Count (map (leaf p) numbers) numbers can.stand) ∙ ap (λ k. pos k) can.total

-- ---- marks

marks_hashed : (p : ℕ) → 0 < p → (values weights : List ℤ) → AreHashed p (mark_leaves p values weights)
marks_hashed p some [] weights = tt
marks_hashed p some (a ∷ values) [] = tt
marks_hashed p some (a ∷ values) (w ∷ weights) = (residue_below p a some, marks_hashed p some values weights)

is_marked : (p : ℕ) (a w : ℤ) → 0 < p → IsWeighed p a w → IsMarked p (residue p a) (nat_abs w)
is_marked p a w some weighed =
    let same : signed p (residue p a) ≡ a = signed_of p (residue p a) a some weighed.small (mod-eq_of_lt (residue_below p a some)) in
    let size = ap nat_abs same in
    let weight = weight_is a w weighed.within in
    let within : pos (nat_abs a) ≤ℤ pos weight.0 = subst (λ z. pos (nat_abs a) ≤ℤ z) weight.1 weighed.within in
    record {
      back = ap (residue p) same;
      within = omega (arith, ints, size, within, ap nat_abs weight.1);
      small = omega (arith, size, weighed.small);
    }

are_marks : (p : ℕ) → 0 < p → (values weights : List ℤ) → AllByRecursion (λ x. IsWeighed p x.0 x.1) (zip values weights) → AreMarks p (mark_leaves p values weights)
are_marks p some [] weights all = tt
are_marks p some (a ∷ values) [] all = tt
are_marks p some (a ∷ values) (w ∷ weights) all = (is_marked p a w some all.0, are_marks p some values weights all.1)

pub marks_counted : (p depth n : ℕ) (values weights : List ℤ) → CanBeWeighed p depth n values weights → AreCounted p forms.Mark depth n (mark_leaves p values weights) values
marks_counted p depth n values weights can =
    let stand = marks_stand p can.modulus values weights can.long can.weighed in
    record {
      modulus = can.modulus;
      levels = can.levels;
      size = long_marks p values weights can.long ∙ can.size;
      stand = stand;
      hashed = marks_hashed p can.modulus values weights;
      total = counts_are (mark_leaves p values weights) weights n (are_counts p forms.Mark (mark_leaves p values weights) values stand) (weights_of p values weights can.long) can.total;
      light = can.light;
    }

pub marks_sendable : (p depth n : ℕ) (values weights : List ℤ) → CanBeMarked p depth n values weights → AreSendable Two p forms.Mark depth n (mark_leaves p values weights) values
marks_sendable p depth n values weights can = record {
  counted = marks_counted p depth n values weights can.weighed;
  elements = can.elements;
  shallow = can.shallow;
  shown = (refl, are_marks p can.weighed.modulus values weights (recursion_from_All (λ x. IsWeighed p x.0 x.1) (zip values weights) can.weighed.weighed));
}
