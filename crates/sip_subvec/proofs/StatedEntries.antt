-- Entries whose level agrees with the numbers modulo p are the entries of the numbers that are not 0.
use Rattle.std.proofs.Common.{◌≡◌, ℕ, zero, suc, ◌+◌, ◌-◌, ◌/◌, ◌%◌, ◌<◌, ◌≤◌, true, false, not, leb, List, [], ◌∷◌, length, get_or, map, filter, drop, All, ℤ, pos, nat_abs, refl, ap, sym, ◌∙◌, arith, inl, inr, get_or-take, get_or-drop}
use Rattle.std.specs.List.{list_all, enumerate_from}
use Rattle.std.proofs.Math.Nat.{mod-eq_of_lt}
use Rattle.std.proofs.lemmas.Bool.{cases_eq, cases_lt, eq-eqb, ne_eqb, leb-true, le-leb, lt-leb, and_parts, and_from, and_left, and_right, not_from_true, not_from_false}
use Rattle.std.proofs.lemmas.List.{get_or-map}
use Rattle.std.proofs.lemmas.List.Elements.{All-get_or}
use Rattle.std.proofs.lemmas.List.FromFn.{get_or-map-range_with_len}
use Rattle.sip_field.specs.Residue.{residue}
use Rattle.sip_vector.specs.declared.update.Entry.{Entry}
use Rattle.sip_vector.specs.Answers.{is_within, is_zero}
use Rattle.sip_vector.specs.Vectors.{is_nonzero_within, nonzero_within}
use Rattle.sip_vector.proofs.TreeResidues.{residue_below, same_from_residue}
use Rattle.sip_subvec.specs.AcceptsSub.{stated_value, stated_level}
use Rattle.sip_subvec.specs.Counting.{has_small_value, rise_within}
use Rattle.sip_subvec.proofs.Stretches.{agree, agree-parts, window}

-- ---- what is stated at an index

pub within-parts : (lo hi i : ℕ) → is_within lo hi i ≡ true → (lo ≤ i) × (i ≤ hi)
within-parts lo hi i h = let both = and_parts (leb lo i) (leb i hi) h in (leb-true lo i both.0, leb-true i hi both.1)

pub within-from : (lo hi i : ℕ) → lo ≤ i → i ≤ hi → is_within lo hi i ≡ true
within-from lo hi i a b = and_from (leb lo i) (leb i hi) (le-leb lo i a) (le-leb i hi b)

pub rise-parts : (lo hi : ℕ) (e : Entry) (es : List Entry) → rise_within lo hi (e ∷ es) ≡ true → (lo ≤ e.index) × (e.index ≤ hi) × (rise_within (suc e.index) hi es ≡ true)
unfolding rise_within
rise-parts lo hi e es h =
    let both = and_parts (is_within lo hi e.index) (rise_within (suc e.index) hi es) h in
    let w = within-parts lo hi e.index both.0 in
    (w.0, w.1, both.1)

pub rise-from : (lo hi : ℕ) (e : Entry) (es : List Entry) → lo ≤ e.index → e.index ≤ hi → rise_within (suc e.index) hi es ≡ true → rise_within lo hi (e ∷ es) ≡ true
unfolding rise_within
rise-from lo hi e es a b h = and_from (is_within lo hi e.index) (rise_within (suc e.index) hi es) (within-from lo hi e.index a b) h

pub rise-nil : (lo hi : ℕ) → rise_within lo hi [] ≡ true
unfolding rise_within
rise-nil lo hi = refl

value-here : (e : Entry) (es : List Entry) (i : ℕ) → e.index ≡ i → stated_value (e ∷ es) i ≡ e.value
value-here e es i is = rw (eq-eqb e.index i is) refl

-- an entry at another index states nothing here
pub value-there : (e : Entry) (es : List Entry) (i : ℕ) → (e.index ≡ i → ⊥) → stated_value (e ∷ es) i ≡ stated_value es i
value-there e es i other = rw (ne_eqb e.index i other) refl

-- nothing is stated before the first index
value-before : (lo hi i : ℕ) (es : List Entry) → rise_within lo hi es ≡ true → i < lo → stated_value es i ≡ pos 0
value-before lo hi i [] h lt = refl
value-before lo hi i (e ∷ es) h lt =
    let w = rise-parts lo hi e es h in
    value-there e es i (λ is. omega arith) ∙ value-before (suc e.index) hi i es w.2 (omega arith)

small-parts : (p : ℕ) (e : Entry) (es : List Entry) → list_all (has_small_value p) (e ∷ es) ≡ true → (1 ≤ nat_abs e.value) × (nat_abs e.value ≤ (p - 1) / 2) × (list_all (has_small_value p) es ≡ true)
small-parts p e es h =
    let both = and_parts (has_small_value p e) (list_all (has_small_value p) es) h in
    let small = and_parts (leb 1 (nat_abs e.value)) (leb (nat_abs e.value) ((p - 1) / 2)) both.0 in
    (leb-true 1 (nat_abs e.value) small.0, leb-true (nat_abs e.value) ((p - 1) / 2) small.1, both.1)

value-small : (p i : ℕ) (es : List Entry) → list_all (has_small_value p) es ≡ true → nat_abs (stated_value es i) ≤ (p - 1) / 2
value-small p i [] h = omega arith
value-small p i (e ∷ es) h =
    let w = small-parts p e es h in
    elim (cases_eq e.index i) [
      | inl is ↦ rw (value-here e es i is) w.1
      | inr other ↦ rw (value-there e es i other) (value-small p i es w.2)
    ]

-- ---- the entries of numbers from an index on

abbrev entry_at : ℕ → ℤ → Entry
entry_at i v = record { index = i; value = v }

-- the entries that are not 0, of these numbers from index n on
kept : ℕ → ℕ → ℕ → List ℤ → List Entry
kept lo hi n xs = filter (is_nonzero_within lo hi) (map (λ x. entry_at x.0 x.1) (enumerate_from n xs))

kept-all : (lo hi : ℕ) (numbers : List ℤ) → kept lo hi 0 numbers ≡ nonzero_within lo hi numbers
unfolding kept
kept-all lo hi numbers = refl

kept-nil : (lo hi n : ℕ) → kept lo hi n [] ≡ []
unfolding kept
kept-nil lo hi n = refl

kept-here : (lo hi n : ℕ) (x : ℤ) (xs : List ℤ) → lo ≤ n → n ≤ hi → 1 ≤ nat_abs x → kept lo hi n (x ∷ xs) ≡ entry_at n x ∷ kept lo hi (n + 1) xs
unfolding kept
kept-here lo hi n x xs a b some =
    let yes : is_nonzero_within lo hi (entry_at n x) ≡ true = and_from (is_within lo hi n) (not (is_zero x)) (within-from lo hi n a b) (not_from_false (is_zero x) (ne_eqb (nat_abs x) 0 (λ z. omega arith))) in
    rw yes refl

not_kept : (lo hi n : ℕ) (x : ℤ) → (lo ≤ n → n ≤ hi → x ≡ pos 0) → is_nonzero_within lo hi (entry_at n x) ≡ false
not_kept lo hi n x none = elim (cases_lt n lo) [
  | inl less ↦ and_left (is_within lo hi n) (not (is_zero x)) (and_left (leb lo n) (leb n hi) (lt-leb lo n less))
  | inr le ↦ elim (cases_lt hi n) [
    | inl more ↦ and_left (is_within lo hi n) (not (is_zero x)) (and_right (leb lo n) (leb n hi) (lt-leb n hi more))
    | inr ge ↦ and_right (is_within lo hi n) (not (is_zero x)) (not_from_true (is_zero x) (eq-eqb (nat_abs x) 0 (ap nat_abs (none le ge))))
  ]
]

kept-not : (lo hi n : ℕ) (x : ℤ) (xs : List ℤ) → (lo ≤ n → n ≤ hi → x ≡ pos 0) → kept lo hi n (x ∷ xs) ≡ kept lo hi (n + 1) xs
unfolding kept
kept-not lo hi n x xs none = rw (not_kept lo hi n x none) refl

entry_is : (e : Entry) (n : ℕ) (x : ℤ) → e.index ≡ n → x ≡ e.value → e ≡ entry_at n x
entry_is e n x is value = ap (λ i. entry_at i e.value) is ∙ ap (entry_at n) (sym value)

-- entries that rise from m on, and have the values of these numbers, are those that are kept
entries-kept : (p lo hi n m : ℕ) (xs : List ℤ) (es : List Entry) → n ≤ m → lo ≤ m → hi < n + length xs → rise_within m hi es ≡ true → list_all (has_small_value p) es ≡ true
    → ((i : ℕ) → i < length xs → lo ≤ n + i → n + i ≤ hi → get_or xs i (pos 0) ≡ stated_value es (n + i)) → es ≡ kept lo hi n xs
entries-kept p lo hi n m [] [] a b c rise small values = sym (kept-nil lo hi n)
entries-kept p lo hi n m [] (e ∷ es) a b c rise small values = absurd (let w = rise-parts m hi e es rise in omega arith)
entries-kept p lo hi n m (x ∷ xs) [] a b c rise small values =
    entries-kept p lo hi (n + 1) (suc m) xs [] (omega arith) (omega arith) (omega arith) (rise-nil (suc m) hi) small
    (λ i lt le ge. values (suc i) (omega arith) (omega arith) (omega arith))
    ∙ sym (kept-not lo hi n x xs (λ le ge. values 0 (omega arith) (omega arith) (omega arith)))
entries-kept p lo hi n m (x ∷ xs) (e ∷ es) a b c rise small values =
    let w = rise-parts m hi e es rise in
    let s = small-parts p e es small in
    elim (cases_eq e.index n) [
      | inl is ↦
          let value : x ≡ e.value = values 0 (omega arith) (omega arith) (omega arith) ∙ value-here e es (n + 0) (omega arith) in
          let some : 1 ≤ nat_abs x = omega (arith, ap nat_abs value, s.0) in
          let rest = entries-kept p lo hi (n + 1) (suc e.index) xs es (omega arith) (omega arith) (omega arith) w.2 s.2
          (λ i lt le ge.
          let at : n + suc i ≡ n + 1 + i = omega arith in
          values (suc i) (omega arith) (omega arith) (omega arith) ∙ value-there e es (n + suc i) (λ other. omega arith) ∙ ap (stated_value es) at) in
          ap (λ k. k ∷ es) (entry_is e n x is value) ∙ ap (λ k. entry_at n x ∷ k) rest ∙ sym (kept-here lo hi n x xs (omega arith) (omega arith) some)
      | inr other ↦
          let before : stated_value (e ∷ es) (n + 0) ≡ pos 0 = value-before e.index hi (n + 0) (e ∷ es) (rise-from e.index hi e es (omega arith) w.1 w.2) (omega arith) in
          entries-kept p lo hi (n + 1) e.index xs (e ∷ es) (omega arith) (omega arith) (omega arith) (rise-from e.index hi e es (omega arith) w.1 w.2) small
          (λ i lt le ge.
          let at : n + suc i ≡ n + 1 + i = omega arith in
          values (suc i) (omega arith) (omega arith) (omega arith) ∙ ap (stated_value (e ∷ es)) at)
          ∙ sym (kept-not lo hi n x xs (λ le ge. values 0 (omega arith) (omega arith) (omega arith) ∙ before))
    ]

-- ---- the level that they state

agree-at : (p : ℕ) (xs ys : List ℕ) (i : ℕ) → agree p xs ys ≡ true → get_or xs i 0 % p ≡ get_or ys i 0 % p
unfolding agree
agree-at p [] [] i h = refl
agree-at p [] (b ∷ ys) i h = absurd (cc)
agree-at p (a ∷ xs) [] i h = absurd (cc)
agree-at p (a ∷ xs) (b ∷ ys) zero h = (agree-parts p a b xs ys h).0
agree-at p (a ∷ xs) (b ∷ ys) (suc i) h = agree-at p xs ys i (agree-parts p a b xs ys h).1

-- a residue that agrees is the same
residues-same : (p : ℕ) (a b : ℤ) (u v : ℕ) → 0 < p → u ≡ residue p a → v ≡ residue p b → u % p ≡ v % p → residue p a ≡ residue p b
residues-same p a b u v some eu ev e =
    let x : residue p a % p ≡ residue p a = mod-eq_of_lt (residue_below p a some) in
    let y : residue p b % p ≡ residue p b = mod-eq_of_lt (residue_below p b some) in
    sym x ∙ ap (λ k. k % p) (sym eu) ∙ e ∙ ap (λ k. k % p) ev ∙ y

-- where the stated level agrees with the numbers', each stated value is the number
value-right : (p lo hi k : ℕ) (numbers : List ℤ) (es : List Entry) → 0 < p → k < hi + 1 - lo → lo + k < length numbers → All (λ a. nat_abs a ≤ (p - 1) / 2) numbers → list_all (has_small_value p) es ≡ true
    → agree p (stated_level p lo hi es) (window (map (residue p) numbers) lo hi) ≡ true → get_or numbers (lo + k) (pos 0) ≡ stated_value es (lo + k)
value-right p lo hi k numbers es some lt len all small h =
    let a : ℤ = get_or numbers (lo + k) (pos 0) in
    let b : ℤ = stated_value es (lo + k) in
    let stated : get_or (stated_level p lo hi es) k 0 ≡ residue p b = get_or-map-range_with_len (λ i. residue p (stated_value es i)) lo (hi + 1 - lo) k (lo + k) 0 lt refl in
    let true_one : get_or (window (map (residue p) numbers) lo hi) k 0 ≡ residue p a =
    get_or-take (hi + 1 - lo) (drop lo (map (residue p) numbers)) k 0 lt ∙ get_or-drop lo (map (residue p) numbers) k 0 ∙ get_or-map (residue p) numbers (lo + k) (pos 0) 0 len in
    let same = agree-at p (stated_level p lo hi es) (window (map (residue p) numbers) lo hi) k h in
    same_from_residue p a b some (All-get_or (λ (z : ℤ). nat_abs z ≤ (p - 1) / 2) numbers (lo + k) (pos 0) len all) (value-small p (lo + k) es small)
    (sym (residues-same p b a (get_or (stated_level p lo hi es) k 0) (get_or (window (map (residue p) numbers) lo hi) k 0) some stated true_one same))

pub entries-right : (p lo hi : ℕ) (numbers : List ℤ) (es : List Entry) → 0 < p → hi < length numbers → All (λ a. nat_abs a ≤ (p - 1) / 2) numbers → rise_within lo hi es ≡ true → list_all (has_small_value p) es ≡ true
    → agree p (stated_level p lo hi es) (window (map (residue p) numbers) lo hi) ≡ true → es ≡ nonzero_within lo hi numbers
entries-right p lo hi numbers es some lt all rise small h =
    entries-kept p lo hi 0 lo numbers es (omega arith) (omega arith) (omega arith) rise small
    (λ i len le ge.
    let e : lo + (i - lo) ≡ i = omega arith in
    let f : lo + (i - lo) ≡ 0 + i = omega arith in
    ap (λ j. get_or numbers j (pos 0)) (sym e) ∙ value-right p lo hi (i - lo) numbers es some (omega arith) (omega arith) all small h ∙ ap (stated_value es) f)
    ∙ kept-all lo hi numbers
