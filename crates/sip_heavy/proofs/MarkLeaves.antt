-- Marks whose values are within their weights stand for the values.
use Rattle.std.proofs.Common.{◌≡◌, ℕ, suc, ◌-◌, ◌/◌, ◌%◌, ◌<◌, ◌≤◌, true, false, eqb, leb, ℤ, pos, negsuc, ◌≤ℤ◌, ◌-ℤ◌, nat_abs, List, [], ◌∷◌, length, map, refl, ap, ◌∙◌, arith}
use Rattle.std.specs.List.{AllByRecursion, zip}
use Rattle.std.proofs.Math.Nat.{mod-eq_of_lt}
use Rattle.std.proofs.lemmas.Int.{ints}
use Rattle.std.proofs.lemmas.Bool.{and_parts, eqb-true, le-leb, lt-leb}
use Rattle.std.proofs.lemmas.List.Elements.{recursion_from_All}
use Rattle.sip_field.specs.Residue.{residue}
use Rattle.sip_vector.specs.Splits.{split_leaf}
use Rattle.sip_vector.specs.Streams.{int_sum}
use Rattle.sip_vector.proofs.TreeResidues.{residue_below}
use Rattle.sip_heavy.specs.declared.form.LeafForm.TheVariants as forms
use Rattle.sip_heavy.specs.AcceptsHeavy.{signed}
use Rattle.sip_heavy.specs.Counting.{LeafStands, LeavesStand, IsWeighed, AreWeighed}
use Rattle.sip_heavy.specs.HonestMarks.{mark_leaves}
use Rattle.sip_heavy.specs.Protocol.{count_of}
use Rattle.sip_heavy.proofs.TrueLevels.{sum_of}

-- ---- a number from its residue

pub signed_of : (p h : ℕ) (a : ℤ) → 0 < p → nat_abs a ≤ (p - 1) / 2 → h % p ≡ residue p a → signed p h ≡ a
signed_of p h (pos n) some small is =
    let below : n < p = omega arith in
    let same : h % p ≡ n = is ∙ mod-eq_of_lt below in
    let within : leb n ((p - 1) / 2) ≡ true = le-leb n ((p - 1) / 2) (omega arith) in
    rw (same, within) refl
signed_of p h (negsuc n) some small is =
    let below : n < p = omega arith in
    let same : h % p ≡ p - 1 - n = is ∙ ap (λ m. p - 1 - m) (mod-eq_of_lt below) in
    let above : leb (p - 1 - n) ((p - 1) / 2) ≡ false = lt-leb (p - 1 - n) ((p - 1) / 2) (omega arith) in
    let less : pos (p - 1 - n) -ℤ pos p ≡ negsuc n = omega (arith, ints) in
    rw (same, above) less

-- ---- leaves

pub weight_is : (a w : ℤ) → pos (nat_abs a) ≤ℤ w → (n : ℕ) × (w ≡ pos n)
weight_is a (pos n) within = (n, refl)
weight_is a (negsuc n) within = absurd (omega (arith, ints, within))

value_within : (a w : ℤ) → pos (nat_abs a) ≤ℤ w → a ≤ℤ w
value_within (pos n) w within = within
value_within (negsuc n) w within = omega (arith, ints, within)

mark_stands : (p : ℕ) → 0 < p → (a w : ℤ) → IsWeighed p a w → LeafStands p forms.Mark (split_leaf p a w) a
mark_stands p some a w weighed = record {
  counts = weight_is a w weighed.within;
  within = value_within a w weighed.within;
  reads = λ x right.
      let same : x.hash % p ≡ residue p a % p = eqb-true (x.hash % p) (residue p a % p) (and_parts (eqb (x.hash % p) (residue p a % p)) (eqb x.count (nat_abs w)) right).0 in
      signed_of p x.hash a some weighed.small (same ∙ mod-eq_of_lt (residue_below p a some));
}

stand_for : (p : ℕ) → 0 < p → (values weights : List ℤ) → length values ≡ length weights → AllByRecursion (λ x. IsWeighed p x.0 x.1) (zip values weights) → LeavesStand p forms.Mark (mark_leaves p values weights) values
stand_for p some [] weights long all = tt
stand_for p some (a ∷ values) [] long all = absurd (omega arith)
stand_for p some (a ∷ values) (w ∷ weights) long all = (mark_stands p some a w all.0, stand_for p some values weights (omega arith) all.1)

pub marks_stand : (p : ℕ) → 0 < p → (values weights : List ℤ) → length values ≡ length weights → AreWeighed p values weights → LeavesStand p forms.Mark (mark_leaves p values weights) values
marks_stand p some values weights long all = stand_for p some values weights long (recursion_from_All (λ x. IsWeighed p x.0 x.1) (zip values weights) all)

pub long_marks : (p : ℕ) (values weights : List ℤ) → length values ≡ length weights → length (mark_leaves p values weights) ≡ length weights
long_marks p [] [] long = refl
long_marks p [] (w ∷ weights) long = absurd (omega arith)
long_marks p (a ∷ values) [] long = absurd (omega arith)
long_marks p (a ∷ values) (w ∷ weights) long = ap suc (long_marks p values weights (omega arith))

-- the leaves' counts are the weights
pub weights_of : (p : ℕ) (values weights : List ℤ) → length values ≡ length weights → map (λ c. c.count) (mark_leaves p values weights) ≡ weights
weights_of p [] [] long = refl
weights_of p [] (w ∷ weights) long = absurd (omega arith)
weights_of p (a ∷ values) [] long = absurd (omega arith)
weights_of p (a ∷ values) (w ∷ weights) long = ap (λ ws. w ∷ ws) (weights_of p values weights (omega arith))

pub marks_sum : (p : ℕ) (values weights : List ℤ) → length values ≡ length weights → sum_of (mark_leaves p values weights) ≡ count_of (int_sum weights)
marks_sum p values weights long = ap (λ zs. count_of (int_sum zs)) (weights_of p values weights long)
