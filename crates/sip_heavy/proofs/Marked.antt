-- The marks that a prover begins with stand for the lowest level.
use Rattle.std.proofs.Common.{◌≡◌, ℕ, suc, ◌+◌, ◌<◌, ◌≤◌, true, false, ◌==◌, List, [], ◌∷◌, length, map, All, ℤ, pos, negsuc, nat_abs, sum_by, refl, sym, ap, subst, ◌∙◌, inl, inr, arith}
use Rattle.std.specs.Bool.{Decides}
use Rattle.std.specs.Prelude.{◌≤ℤ◌, int_le}
use Rattle.std.specs.List.{AllByRecursion, zip}
use Rattle.std.proofs.Math.Bool.{and-false}
use Rattle.std.proofs.lemmas.Bool.{eq-eqb, ne_eqb}
use Rattle.std.proofs.lemmas.Bool.Decides.{nat_tests, Decides-and}
use Rattle.std.proofs.lemmas.Int.{ints}
use Rattle.std.proofs.lemmas.List.Elements.{All-nil, All-cons, All-from_recursion, recursion_from_All}
use Rattle.std.proofs.lemmas.List.Sums.{sum_by-cons}
use Rattle.sip_field.specs.Residue.{residue}
use Rattle.sip_vector.specs.declared.update.Entry.{Entry}
use Rattle.sip_vector.specs.Splits.{split_leaf}
use Rattle.sip_vector.proofs.Filters.{as_entry}
use Rattle.sip_vector.proofs.Kept.{is_zero_tells}
use Rattle.sip_vector.proofs.TreeResidues.{residue_below}
use Rattle.sip_wire.specs.declared.message.Node.{Node}
use Rattle.sip_heavy.specs.AcceptsHeavy.{counted}
use Rattle.sip_heavy.specs.HonestMarks.{mark_leaves}
use Rattle.sip_heavy.specs.Rising.{Rises}
use Rattle.sip_heavy.specs.Spots.{are_covered, behind_value, leaf_of_entry, mark_of_entry, marked_entries, value_at, whole_level}
use Rattle.sip_heavy.proofs.Leaves.{kept_from, leaf_zero, leaves_light, leaves_rise, place_before, behind_before}

-- ---- as the leaves of the weights, but for the hashes

marked_rise : (p least n : ℕ) (values es : List Entry) → Rises least n (map (leaf_of_entry p) es) → Rises least n (marked_entries p values es)
marked_rise p least n values [] rises = tt
marked_rise p least n values (e ∷ es) rises = (rises.0, rises.1, marked_rise p (suc e.index) n (behind_value e.index values) es rises.2)

pub marks_rise : (p : ℕ) → 0 < p → (i least n : ℕ) (values : List Entry) (weights : List ℤ) → least ≤ i → i + length weights ≤ n → Rises least n (marked_entries p values (kept_from i weights))
marks_rise p some i least n values weights le within = marked_rise p least n values (kept_from i weights) (leaves_rise p some i least n weights le within)

marked_light : (p : ℕ) (values es : List Entry) → sum_by (λ x. x.count) (marked_entries p values es) ≡ sum_by (λ x. x.count) (map (leaf_of_entry p) es)
marked_light p values [] = refl
marked_light p values (e ∷ es) =
    let f : Node → ℕ = λ x. x.count in
    let rest : List Node = marked_entries p (behind_value e.index values) es in
    sum_by-cons f (mark_of_entry p (value_at e.index values) e) rest ∙ ap (λ n. nat_abs e.value + n) (marked_light p (behind_value e.index values) es) ∙ sym (sum_by-cons f (leaf_of_entry p e) (map (leaf_of_entry p) es))

pub marks_light : (p i : ℕ) (values : List Entry) (weights : List ℤ) → sum_by (λ x. x.count) (marked_entries p values (kept_from i weights)) ≡ sum_by nat_abs weights
marks_light p i values weights = marked_light p values (kept_from i weights) ∙ leaves_light p i weights

pub marks_hashed : (p : ℕ) → 0 < p → (values es : List Entry) → All (λ x. x.hash < p) (marked_entries p values es)
marks_hashed p some values [] = All-nil (λ x. x.hash < p)
marks_hashed p some values (e ∷ es) =
    All-cons (λ x. x.hash < p) (mark_of_entry p (value_at e.index values) e) (marked_entries p (behind_value e.index values) es) (residue_below p (value_at e.index values) some) (marks_hashed p some (behind_value e.index values) es)

-- ---- the level

-- the first of the entries that are kept
record First (i : ℕ) (a : ℤ) (values : List ℤ) (es : List Entry) : Type 0 where
  value : value_at i es ≡ a
  behind : behind_value i es ≡ kept_from (i + 1) values

late : (i : ℕ) (values : List ℤ) (j : ℕ) → i < j → (value_at i (kept_from j values) ≡ pos 0) × (behind_value i (kept_from j values) ≡ kept_from j values)
late i [] j less = (refl, refl)
late i (a ∷ values) j less =
    elim (is_zero_tells a) [
      | inl t ↦ rw t.0 (late i values (j + 1) (omega (arith, less)))
      | inr t ↦ let off : (j == i) ≡ false = ne_eqb j i (λ e. absurd (omega (arith, e, less))) in rw (t.0, off) (refl, refl)
    ]

first : (i : ℕ) (a : ℤ) (values : List ℤ) → First i a values (kept_from i (a ∷ values))
first i a values =
    let later = late i values (i + 1) (omega arith) in
    let here : (i == i) ≡ true = eq-eqb i i refl in
    elim (is_zero_tells a) [
      | inl t ↦ record { value = rw t.0 (later.0 ∙ sym t.1); behind = rw t.0 later.1 }
      | inr t ↦ record { value = rw (t.0, here) refl; behind = rw (t.0, here) refl }
    ]

whole_weight : (a w : ℤ) → pos (nat_abs a) ≤ℤ w → pos (nat_abs w) ≡ w
whole_weight a (pos n) within = refl
whole_weight a (negsuc n) within = absurd (omega (arith, ints, within))

no_value : (a w : ℤ) → pos (nat_abs a) ≤ℤ w → w ≡ pos 0 → a ≡ pos 0
no_value (pos n) w within zero = let order : pos n ≤ℤ pos 0 = subst (λ z. pos n ≤ℤ z) zero within in ap (λ k. pos k) (let none : n ≡ 0 = omega (arith, ints, order) in none)
no_value (negsuc n) w within zero = absurd (let order : pos (suc n) ≤ℤ pos 0 = subst (λ z. pos (suc n) ≤ℤ z) zero within in omega (arith, ints, order))

mark_is : (p i : ℕ) (a w : ℤ) → pos (nat_abs a) ≤ℤ w → counted (mark_of_entry p a (as_entry (i, w))) ≡ split_leaf p a w
mark_is p i a w within = ap (λ (c : ℤ). record { hash = residue p a; count = c }) (whole_weight a w within)

module _ (p : ℕ) (some : 0 < p) where
  stand_from : (i : ℕ) (values weights : List ℤ) → length values ≡ length weights → AllByRecursion (λ x. pos (nat_abs x.0) ≤ℤ x.1) (zip values weights)
      → whole_level (length weights) i (marked_entries p (kept_from i values) (kept_from i weights)) ≡ mark_leaves p values weights
  unfolding whole_level
  stand_from i [] [] long all = refl
  stand_from i [] (w ∷ weights) long all = absurd (omega (arith, long))
  stand_from i (a ∷ values) [] long all = absurd (omega (arith, long))
  stand_from i (a ∷ values) (w ∷ weights) long all =
      let n : ℕ = i + 1 + length weights in
      let one : suc i ≡ i + 1 = omega arith in
      let less : i < i + 1 = omega arith in
      let more : List Entry = kept_from (i + 1) values in
      let rest : List Node = marked_entries p more (kept_from (i + 1) weights) in
      let rises : Rises (i + 1) n rest = marks_rise p some (i + 1) (i + 1) n more weights (omega arith) (omega arith) in
      let later = stand_from (i + 1) values weights (omega (arith, long)) all.1 in
      let here : (i == i) ≡ true = eq-eqb i i refl in
      let head = first i a values in
      elim (is_zero_tells w) [
        | inl t ↦
            let gone = no_value a w all.0 t.1 in
            let kept : kept_from i (a ∷ values) ≡ more = rw (gone) refl in
            rw (t.0, kept, one, place_before p some i (i + 1) n rest rises less, behind_before p some i (i + 1) n rest rises less, later, t.1, gone, leaf_zero p some) refl
        | inr t ↦ rw (t.0, here, one, head.value, head.behind, later, mark_is p i a w all.0) refl
      ]

  pub marks_stand_for : (values weights : List ℤ) → length values ≡ length weights → All (λ x. pos (nat_abs x.0) ≤ℤ x.1) (zip values weights)
      → whole_level (length weights) 0 (marked_entries p (kept_from 0 values) (kept_from 0 weights)) ≡ mark_leaves p values weights
  marks_stand_for values weights long all = stand_from 0 values weights long (recursion_from_All (λ x. pos (nat_abs x.0) ≤ℤ x.1) (zip values weights) all)

-- ---- weights cover their values

reaches : (n : ℕ) (w : ℤ) → Decides (int_le (pos n) w) (pos n ≤ℤ w)
reaches n (pos m) = (λ e. grind (arith, ints), λ h. grind (arith, ints))
reaches n (negsuc m) = (λ e. grind (arith, ints), λ h. grind (arith, ints))

-- a value that no weight stands at is left
passed_by : (e : Entry) (more : List Entry) (j : ℕ) (weights : List ℤ) → e.index < j → are_covered (e ∷ more) (kept_from j weights) ≡ false
passed_by e more j [] less = grind (arith, nat_tests)
passed_by e more j (w ∷ weights) less =
    let later = passed_by e more (j + 1) weights (omega (arith, less)) in
    let off : (e.index == j) ≡ false = ne_eqb e.index j (λ q. absurd (omega (arith, q, less))) in
    elim (is_zero_tells w) [
      | inl t ↦ rw t.0 later
      | inr t ↦ rw (t.0, off, later) (and-false (int_le (pos 0) w))
    ]

covered_from : (i : ℕ) (values weights : List ℤ) → length values ≡ length weights
    → Decides (are_covered (kept_from i values) (kept_from i weights)) (AllByRecursion (λ x. pos (nat_abs x.0) ≤ℤ x.1) (zip values weights))
covered_from i [] [] long = (λ _. tt, λ _. refl)
covered_from i [] (w ∷ weights) long = absurd (omega (arith, long))
covered_from i (a ∷ values) [] long = absurd (omega (arith, long))
covered_from i (a ∷ values) (w ∷ weights) long =
    let later = covered_from (i + 1) values weights (omega (arith, long)) in
    let more : List Entry = kept_from (i + 1) values in
    let here : (i == i) ≡ true = eq-eqb i i refl in
    let head = first i a values in
    elim (is_zero_tells w) [
      | inl t ↦ elim (is_zero_tells a) [
        | inl z ↦ rw (t.0, z.0) (λ e. (let both : pos (nat_abs a) ≤ℤ w = rw (z.1, t.1) (omega (arith, ints)) in both, later.0 e), λ all. later.1 all.1)
        | inr z ↦
            let left = passed_by (as_entry (i, a)) more (i + 1) weights (omega arith) in
            rw (t.0, z.0) (λ e. absurd (let no : false ≡ true = sym left ∙ e in cc), λ all. absurd (z.1 (no_value a w all.0 t.1)))
      ]
      | inr t ↦ rw (t.0, head.value, head.behind) (Decides-and (int_le (pos (nat_abs a)) w) (are_covered more (kept_from (i + 1) weights)) (reaches (nat_abs a) w) later)
    ]

pub covered : (values weights : List ℤ) → length values ≡ length weights
    → Decides (are_covered (kept_from 0 values) (kept_from 0 weights)) (All (λ x. pos (nat_abs x.0) ≤ℤ x.1) (zip values weights))
covered values weights long =
    let P : ℤ × ℤ → Type 0 = λ x. pos (nat_abs x.0) ≤ℤ x.1 in
    let test = covered_from 0 values weights long in
    (λ e. All-from_recursion P (zip values weights) (test.0 e), λ all. test.1 (recursion_from_All P (zip values weights) all))
