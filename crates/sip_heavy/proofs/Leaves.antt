-- The leaves that a prover begins with stand for the lowest level.
use Rattle.std.proofs.Common.{◌≡◌, ℕ, suc, ◌+◌, ◌%◌, ◌<◌, ◌≤◌, true, false, not, ◌==◌, List, [], ◌∷◌, length, map, filter, All, ℤ, pos, negsuc, nat_abs, sum_by, refl, sym, ap, subst, ◌∙◌, inl, inr, arith}
use Rattle.std.specs.Prelude.{◌≤ℤ◌}
use Rattle.std.specs.List.{enumerate_from}
use Rattle.std.proofs.Math.Nat.{mod-eq_of_lt}
use Rattle.std.proofs.lemmas.Bool.{cases_Bool, eq-eqb, ne_eqb}
use Rattle.std.proofs.lemmas.List.Elements.{All-nil, All-cons, All-head, All-tail}
use Rattle.std.proofs.lemmas.List.Sums.{sum_by-cons}
use Rattle.sip_field.specs.Residue.{residue}
use Rattle.sip_vector.specs.declared.update.Entry.{Entry}
use Rattle.sip_vector.specs.Answers.{is_zero}
use Rattle.sip_vector.specs.Trees.{leaf}
use Rattle.sip_vector.proofs.Filters.{as_entry}
use Rattle.sip_vector.proofs.Kept.{is_zero_tells}
use Rattle.sip_vector.proofs.TreeResidues.{residue_below}
use Rattle.sip_wire.specs.declared.message.Node.{Node}
use Rattle.sip_heavy.specs.AcceptsHeavy.{counted}
use Rattle.sip_heavy.specs.Rising.{Rises}
use Rattle.sip_heavy.specs.Spots.{place, behind_place, whole_level, leaf_of_entry, nothing}

-- the entries that are not 0, of numbers whose first index is this
abbrev pub kept_from : ℕ → List ℤ → List Entry
kept_from i numbers = filter (λ e. not (is_zero e.value)) (map as_entry (enumerate_from i numbers))

-- no entry that is kept is negative
pub kept_strict : (i : ℕ) (numbers : List ℤ) → All (λ a. pos 0 ≤ℤ a) numbers → All (λ e. pos 0 ≤ℤ e.value) (kept_from i numbers)
kept_strict i [] strict = All-nil (λ e. pos 0 ≤ℤ e.value)
kept_strict i (a ∷ numbers) strict =
    let rest = kept_strict (i + 1) numbers (All-tail (λ b. pos 0 ≤ℤ b) a numbers strict) in
    elim (cases_Bool (not (is_zero a))) [
      | inl t ↦ rw t (All-cons (λ e. pos 0 ≤ℤ e.value) (as_entry (i, a)) (kept_from (i + 1) numbers) (All-head (λ b. pos 0 ≤ℤ b) a numbers strict) rest)
      | inr t ↦ rw t rest
    ]

module _ (p : ℕ) (some : 0 < p) where
  pub leaf_zero : leaf p (pos 0) ≡ nothing
  leaf_zero = let z : 0 % p ≡ 0 = mod-eq_of_lt some in rw z refl

  -- their leaves rise from the index on
  pub leaves_rise : (i least n : ℕ) (numbers : List ℤ) → least ≤ i → i + length numbers ≤ n → Rises least n (map (leaf_of_entry p) (kept_from i numbers))
  leaves_rise i least n [] le within = tt
  leaves_rise i least n (a ∷ numbers) le within =
      elim (cases_Bool (not (is_zero a))) [
        | inl t ↦ rw t (le, omega (arith, within), (let one : i + 1 ≡ suc i = omega arith in subst (λ j. Rises j n (map (leaf_of_entry p) (kept_from (i + 1) numbers))) one (leaves_rise (i + 1) (i + 1) n numbers (omega arith) (omega (arith, within)))))
        | inr t ↦ rw t (leaves_rise (i + 1) least n numbers (omega (arith, le)) (omega (arith, within)))
      ]

  -- their hashes are residues
  pub leaves_hashed : (es : List Entry) → All (λ x. x.hash < p) (map (leaf_of_entry p) es)
  leaves_hashed [] = All-nil (λ x. x.hash < p)
  leaves_hashed (e ∷ es) = All-cons (λ x. x.hash < p) (leaf_of_entry p e) (map (leaf_of_entry p) es) (residue_below p e.value some) (leaves_hashed es)

  -- no node stands before the first
  pub place_before : (i least n : ℕ) (xs : List Node) → Rises least n xs → i < least → place i xs ≡ nothing
  place_before i least n [] rises less = refl
  place_before i least n (x ∷ xs) rises less =
      let off : (x.index == i) ≡ false = ne_eqb x.index i (λ e. absurd (omega (arith, e, rises.0, less))) in
      rw off refl

  pub behind_before : (i least n : ℕ) (xs : List Node) → Rises least n xs → i < least → behind_place i xs ≡ xs
  behind_before i least n [] rises less = refl
  behind_before i least n (x ∷ xs) rises less =
      let off : (x.index == i) ≡ false = ne_eqb x.index i (λ e. absurd (omega (arith, e, rises.0, less))) in
      rw off refl

  whole_number : (a : ℤ) → pos 0 ≤ℤ a → pos (nat_abs a) ≡ a
  whole_number (pos n) h = refl
  whole_number (negsuc n) h = absurd h.le

  leaf_is : (i : ℕ) (a : ℤ) → pos 0 ≤ℤ a → counted (leaf_of_entry p (as_entry (i, a))) ≡ leaf p a
  leaf_is i a h = ap (λ (c : ℤ). record { hash = residue p a; count = c }) (whole_number a h)

  -- they stand for all leaves
  pub leaves_stand : (i : ℕ) (numbers : List ℤ) → All (λ a. pos 0 ≤ℤ a) numbers → whole_level (length numbers) i (map (leaf_of_entry p) (kept_from i numbers)) ≡ map (leaf p) numbers
  unfolding whole_level
  leaves_stand i [] strict = refl
  leaves_stand i (a ∷ numbers) strict =
      let n : ℕ = i + 1 + length numbers in
      let rest : List Node = map (leaf_of_entry p) (kept_from (i + 1) numbers) in
      let rises : Rises (i + 1) n rest = leaves_rise (i + 1) (i + 1) n numbers (omega arith) (omega arith) in
      let one : suc i ≡ i + 1 = omega arith in
      let less : i < i + 1 = omega arith in
      let later = leaves_stand (i + 1) numbers (All-tail (λ b. pos 0 ≤ℤ b) a numbers strict) in
      let here : (i == i) ≡ true = eq-eqb i i refl in
      elim (is_zero_tells a) [
        | inl t ↦ rw (t.0, one, place_before i (i + 1) n rest rises less, behind_before i (i + 1) n rest rises less, later, t.1, leaf_zero) refl
        | inr t ↦ rw (t.0, here, one, later, leaf_is i a (All-head (λ b. pos 0 ≤ℤ b) a numbers strict)) refl
      ]

-- the sum of their counts is that of the numbers' absolute values
pub leaves_light : (p i : ℕ) (numbers : List ℤ) → sum_by (λ x. x.count) (map (leaf_of_entry p) (kept_from i numbers)) ≡ sum_by nat_abs numbers
leaves_light p i [] = refl
leaves_light p i (a ∷ numbers) =
    let f : Node → ℕ = λ x. x.count in
    let rest : List Node = map (leaf_of_entry p) (kept_from (i + 1) numbers) in
    elim (is_zero_tells a) [
      | inl t ↦
          let none : 0 + sum_by nat_abs numbers ≡ sum_by nat_abs numbers = omega arith in
          let whole : sum_by nat_abs (a ∷ numbers) ≡ sum_by nat_abs numbers = sum_by-cons nat_abs a numbers ∙ ap (λ n. n + sum_by nat_abs numbers) (ap nat_abs t.1) ∙ none in
          rw t.0 (leaves_light p (i + 1) numbers ∙ sym whole)
      | inr t ↦ rw t.0 (sum_by-cons f (leaf_of_entry p (as_entry (i, a))) rest ∙ ap (λ n. nat_abs a + n) (leaves_light p (i + 1) numbers) ∙ sym (sum_by-cons nat_abs a numbers))
    ]
