-- Walking over the entries that are not 0, from each to the next.
use Rattle.std.proofs.Common.{◌≡◌, ◌≢◌, ℕ, zero, suc, ◌+◌, ◌<◌, ◌≤◌, Bool, true, false, not, ◌&&◌, cond, leb, List, [], ◌∷◌, length, get_or, map, filter, ℤ, pos, Option, Some, None, slice_get, refl, sym, ap, ◌∙◌, inl, inr, arith}
use Rattle.std.specs.List.{enumerate_from}
use Rattle.std.proofs.lemmas.Bool.{cases_Bool}
use Rattle.std.proofs.lemmas.Bool.Decides.{leb_tells}
use Rattle.sip_vector.specs.declared.update.Entry.{Entry}
use Rattle.sip_vector.specs.Answers.{is_zero}
use Rattle.sip_vector.specs.Vectors.{is_nonzero_within, nonzero_within}
use Rattle.sip_vector.specs.inside.Gathered.{IsFirstOf}
use Rattle.sip_vector.proofs.Filters.{as_entry, not_zero}

-- those of xs, numbered from `start` on
abbrev walk : ℕ → ℕ → ℕ → List ℤ → List Entry
walk lo hi start xs = filter (is_nonzero_within lo hi) (map as_entry (enumerate_from start xs))

-- whether an entry passes depends on the lower end only by the first test
passes_from : (lo hi start : ℕ) (x : ℤ) → lo ≤ start → is_nonzero_within lo hi (as_entry (start, x)) ≡ (leb start hi && not (is_zero x))
passes_from lo hi start x le = elim (leb_tells lo start) [ inl t ↦ rw t.0 refl | inr t ↦ absurd (omega (arith, t.1)) ]

fails_before : (lo hi start : ℕ) (x : ℤ) → start < lo → is_nonzero_within lo hi (as_entry (start, x)) ≡ false
fails_before lo hi start x lt = elim (leb_tells lo start) [ inl t ↦ absurd (omega (arith, t.1)) | inr t ↦ rw t.0 refl ]

within_from : (lo hi start : ℕ) (x : ℤ) → is_nonzero_within lo hi (as_entry (start, x)) ≡ true → lo ≤ start
within_from lo hi start x passes = elim (leb_tells lo start) [
  | inl t ↦ t.1
  | inr t ↦ let e : true ≡ false = sym passes ∙ fails_before lo hi start x t.1 in cc
]

walk-cons : (lo hi start : ℕ) (x : ℤ) (xs : List ℤ) (b : Bool) → is_nonzero_within lo hi (as_entry (start, x)) ≡ b → walk lo hi start (x ∷ xs) ≡ cond b (as_entry (start, x) ∷ walk lo hi (start + 1) xs) (walk lo hi (start + 1) xs)
walk-cons lo hi start x xs b e = ap (λ c. cond c (as_entry (start, x) ∷ walk lo hi (start + 1) xs) (walk lo hi (start + 1) xs)) e

-- a lower end before the first index makes no difference
walk_same : (lo low hi start : ℕ) (xs : List ℤ) → lo ≤ start → low ≤ start → walk lo hi start xs ≡ walk low hi start xs
walk_same lo low hi start [] a b = refl
walk_same lo low hi start (x ∷ xs) a b =
    let test = leb start hi && not (is_zero x) in
    walk-cons lo hi start x xs test (passes_from lo hi start x a)
    ∙ ap (λ es. cond test (as_entry (start, x) ∷ es) es) (walk_same lo low hi (start + 1) xs (omega arith) (omega arith))
    ∙ sym (walk-cons low hi start x xs test (passes_from low hi start x b))

-- an entry that is found is not before the start
walk_least : (lo hi start : ℕ) (xs : List ℤ) (e : Entry) → slice_get (walk lo hi start xs) 0 ≡ Some e → start ≤ e.index
walk_least lo hi start [] e found = cc
walk_least lo hi start (x ∷ xs) e found = elim (cases_Bool (is_nonzero_within lo hi (as_entry (start, x)))) [
  | inl t ↦
      let first : Some (as_entry (start, x)) ≡ Some e = sym (ap (λ es. slice_get es 0) (walk-cons lo hi start x xs true t)) ∙ found in
      let same : as_entry (start, x) ≡ e = cc in
      let index : start ≡ e.index = ap (λ (y : Entry). y.index) same in
      omega arith
  | inr t ↦
      let later : slice_get (walk lo hi (start + 1) xs) 0 ≡ Some e = sym (ap (λ es. slice_get es 0) (walk-cons lo hi start x xs false t)) ∙ found in
      omega (arith, walk_least lo hi (start + 1) xs e later)
]

walk_next : (lo hi start : ℕ) (xs : List ℤ) (e : Entry) → slice_get (walk lo hi start xs) 0 ≡ Some e → walk lo hi start xs ≡ e ∷ walk (e.index + 1) hi start xs
walk_next lo hi start [] e found = cc
walk_next lo hi start (x ∷ xs) e found = elim (cases_Bool (is_nonzero_within lo hi (as_entry (start, x)))) [
  | inl t ↦
      let first : Some (as_entry (start, x)) ≡ Some e = sym (ap (λ es. slice_get es 0) (walk-cons lo hi start x xs true t)) ∙ found in
      let same : as_entry (start, x) ≡ e = cc in
      let index : start ≡ e.index = ap (λ (y : Entry). y.index) same in
      let skipped = walk-cons (e.index + 1) hi start x xs false (fails_before (e.index + 1) hi start x (omega arith)) in
      let within : lo ≤ start = within_from lo hi start x t in
      walk-cons lo hi start x xs true t
      ∙ ap (λ y. y ∷ walk lo hi (start + 1) xs) same
      ∙ ap (λ es. e ∷ es) (walk_same lo (e.index + 1) hi (start + 1) xs (omega arith) (omega arith) ∙ sym skipped)
  | inr t ↦
      let later : slice_get (walk lo hi (start + 1) xs) 0 ≡ Some e = sym (ap (λ es. slice_get es 0) (walk-cons lo hi start x xs false t)) ∙ found in
      let least = walk_least lo hi (start + 1) xs e later in
      walk-cons lo hi start x xs false t
      ∙ walk_next lo hi (start + 1) xs e later
      ∙ ap (λ es. e ∷ es) (sym (walk-cons (e.index + 1) hi start x xs false (fails_before (e.index + 1) hi start x (omega (arith, least)))))
]

-- the first entry and those after it are all
pub nonzero_within-next : (lo hi : ℕ) (numbers : List ℤ) (e : Entry) → slice_get (nonzero_within lo hi numbers) 0 ≡ Some e → nonzero_within lo hi numbers ≡ e ∷ nonzero_within (e.index + 1) hi numbers
nonzero_within-next lo hi numbers e found = walk_next lo hi 0 numbers e found

empty_from_none : (es : List Entry) → slice_get es 0 ≡ None → es ≡ []
empty_from_none [] e = refl
empty_from_none (x ∷ es) e = cc

pub nonzero_within-last : (lo hi : ℕ) (numbers : List ℤ) → slice_get (nonzero_within lo hi numbers) 0 ≡ None → nonzero_within lo hi numbers ≡ []
nonzero_within-last lo hi numbers none = empty_from_none (nonzero_within lo hi numbers) none

-- ---- the first entry, told by the numbers

fails_zero : (lo hi start : ℕ) (x : ℤ) → (lo ≤ start → start ≤ hi → x ≡ pos 0) → is_nonzero_within lo hi (as_entry (start, x)) ≡ false
fails_zero lo hi start x none = elim (leb_tells lo start) [
  | inl t ↦ elim (leb_tells start hi) [ inl u ↦ rw (t.0, u.0, none t.1 u.1) refl | inr u ↦ rw (t.0, u.0) refl ]
  | inr t ↦ rw t.0 refl
]

passes_some : (lo hi start : ℕ) (x : ℤ) → lo ≤ start → start ≤ hi → x ≢ pos 0 → is_nonzero_within lo hi (as_entry (start, x)) ≡ true
passes_some lo hi start x above below some = elim (leb_tells lo start) [
  | inl t ↦ elim (leb_tells start hi) [ inl u ↦ rw (t.0, u.0) (not_zero x some) | inr u ↦ absurd (omega (arith, u.1)) ]
  | inr t ↦ absurd (omega (arith, t.1))
]

walk-none : (lo hi start : ℕ) (xs : List ℤ) → ((k : ℕ) → lo ≤ start + k → start + k ≤ hi → get_or xs k (pos 0) ≡ pos 0) → walk lo hi start xs ≡ []
walk-none lo hi start [] zeros = refl
walk-none lo hi start (x ∷ xs) zeros =
    walk-cons lo hi start x xs false (fails_zero lo hi start x (λ above below. zeros 0 (omega arith) (omega arith)))
    ∙ walk-none lo hi (start + 1) xs (λ k above below. zeros (suc k) (omega arith) (omega arith))

walk-first : (lo hi start j : ℕ) (xs : List ℤ) (v : ℤ) → lo ≤ start + j → start + j ≤ hi → j < length xs → get_or xs j (pos 0) ≡ v → v ≢ pos 0
    → ((k : ℕ) → lo ≤ start + k → k < j → get_or xs k (pos 0) ≡ pos 0) → slice_get (walk lo hi start xs) 0 ≡ Some (as_entry (start + j, v))
walk-first lo hi start j [] v above below inside is some zeros = absurd (omega arith)
walk-first lo hi start zero (x ∷ xs) v above below inside is some zeros =
    let place : start + 0 ≡ start = omega arith in
    rw (place, ← is) (ap (λ es. slice_get es 0) (walk-cons lo hi start x xs true (passes_some lo hi start x (omega arith) (omega arith) (λ e. some (sym is ∙ e)))))
walk-first lo hi start (suc j) (x ∷ xs) v above below inside is some zeros =
    let place : start + suc j ≡ start + 1 + j = omega arith in
    rw place (ap (λ es. slice_get es 0) (walk-cons lo hi start x xs false (fails_zero lo hi start x (λ a b. zeros 0 (omega arith) (omega arith))))
    ∙ walk-first lo hi (start + 1) j xs v (omega arith) (omega arith) (omega arith) is some (λ k a b. zeros (suc k) (omega arith) (omega arith)))

pub next-is : (numbers : List ℤ) (from hi : ℕ) (o : Option Entry) → hi < length numbers → IsFirstOf numbers from hi o → o ≡ slice_get (nonzero_within from hi numbers) 0
next-is numbers from hi None inside first = sym (ap (λ es. slice_get es 0) (walk-none from hi 0 numbers (λ k above below. first k (omega arith) (omega arith))))
next-is numbers from hi (Some e) inside first =
    let place : 0 + e.index ≡ e.index = omega arith in
    sym (walk-first from hi 0 e.index numbers e.value (omega (arith, first.0)) (omega (arith, first.1)) (omega (arith, first.1)) first.3 first.2 (λ k above below. first.4 k (omega arith) below)
    ∙ ap (λ i. Some (as_entry (i, e.value))) place)

-- an entry that is found is within
walk_within : (lo hi start : ℕ) (xs : List ℤ) (e : Entry) → slice_get (walk lo hi start xs) 0 ≡ Some e → (lo ≤ e.index) × (e.index ≤ hi)
walk_within lo hi start [] e found = cc
walk_within lo hi start (x ∷ xs) e found = elim (cases_Bool (is_nonzero_within lo hi (as_entry (start, x)))) [
  | inl t ↦
      let first : Some (as_entry (start, x)) ≡ Some e = sym (ap (λ es. slice_get es 0) (walk-cons lo hi start x xs true t)) ∙ found in
      let same : as_entry (start, x) ≡ e = cc in
      let index : start ≡ e.index = ap (λ (y : Entry). y.index) same in
      let above : lo ≤ start = within_from lo hi start x t in
      elim (leb_tells start hi) [
        | inl u ↦ (omega arith, omega (arith, u.1))
        | inr u ↦ elim (leb_tells lo start) [
          | inl w ↦ (let no : is_nonzero_within lo hi (as_entry (start, x)) ≡ false = rw (w.0, u.0) refl in let f : true ≡ false = sym t ∙ no in cc)
          | inr w ↦ absurd (omega (arith, w.1))
        ]
      ]
  | inr t ↦
      let later : slice_get (walk lo hi (start + 1) xs) 0 ≡ Some e = sym (ap (λ es. slice_get es 0) (walk-cons lo hi start x xs false t)) ∙ found in
      walk_within lo hi (start + 1) xs e later
]

pub nonzero_within-found : (lo hi : ℕ) (numbers : List ℤ) (e : Entry) → slice_get (nonzero_within lo hi numbers) 0 ≡ Some e → (lo ≤ e.index) × (e.index ≤ hi)
nonzero_within-found lo hi numbers e found = walk_within lo hi 0 numbers e found
