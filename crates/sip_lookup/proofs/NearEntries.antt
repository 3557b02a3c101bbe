-- The entries of the interval of a place that stands alone state the true answer.
use Rattle.std.proofs.Common.{◌≡◌, ◌≢◌, ℕ, zero, suc, ◌+◌, ◌-◌, ◌<◌, ◌≤◌, ◌^◌, true, false, List, [], ◌∷◌, length, map, ℤ, pos, Option, Some, None, slice_get, refl, sym, ap, subst, ◌∙◌, inl, inr, arith, leb, eqb, ltb}
use Rattle.std.specs.Prelude.{nat_eq, option_to_list}
use Rattle.std.specs.Cmp.{signed_Decides}
use Rattle.std.specs.Cmp.Lexicographic.{pointwise}
use Rattle.std.proofs.lemmas.Bool.{cases_Bool, and_parts}
use Rattle.std.proofs.lemmas.Bool.Decides.{leb_tells}
use Rattle.sip_vector.specs.declared.update.Entry.{Entry}
use Rattle.sip_vector.specs.Answers.{is_zero}
use Rattle.sip_vector.specs.Vectors.{last_of, nonzero_within, number_at}
use Rattle.sip_vector.specs.inside.Gathered.{IsFirstOf}
use Rattle.sip_vector.proofs.LastEntry.{last_behind}
use Rattle.sip_vector.proofs.Walks.{next-is, nonzero_within-next, nonzero_within-last}
use Rattle.sip_replies.proofs.SameEntries.{same_entries}
use Rattle.sip_subvec.specs.AcceptsSub.{stated_value}
use Rattle.sip_subvec.proofs.HonestEntries.{value_stated, zero_is}
use Rattle.sip_lookup.specs.declared.lookup.Lookup.{Lookup}
use Rattle.sip_lookup.specs.declared.lookup.Lookup.TheVariants.{Index, Pred, Succ}
use Rattle.sip_lookup.specs.Lookups.{Looked, value, nearest, item_of, near, is_same_answer, is_possible, range_of, are_alone, stated_answer}

pub le_from : (a b : ℕ) → leb a b ≡ true → a ≤ b
le_from a b h = elim (leb_tells a b) [ inl t ↦ t.1 | inr t ↦ (let f : true ≡ false = sym h ∙ t.0 in cc) ]

-- the interval of a place that may be found is one of the vector
pub range_fits : (d : ℕ) (l : Lookup) (found : Option ℕ) → item_of l < 2 ^ d → is_possible d l found ≡ true → ((range_of d l found).0 ≤ (range_of d l found).1) × ((range_of d l found).1 < 2 ^ d)
range_fits d (Index i) found item h = (omega arith, item)
range_fits d (Pred i) None item h = (omega arith, item)
range_fits d (Pred i) (Some j) item h = (le_from j i h, item)
range_fits d (Succ i) None item h = (omega (arith, item), omega (arith, item))
range_fits d (Succ i) (Some j) item h =
    let both = and_parts (leb i j) (ltb j (2 ^ d)) h in
    (le_from i j both.0, le_from (suc j) (2 ^ d) both.1)

-- ---- first entries

pub some_is : (x : ℤ) → is_zero x ≡ false → x ≢ pos 0
some_is x h e = let f : true ≡ false = rw e at h in absurd cc

abbrev pub the_entry : ℕ → ℤ → Entry
the_entry i v = record { index = i; value = v }

-- a number that is 0 is passed over
first_later : (numbers : List ℤ) (from hi : ℕ) (o : Option Entry) → number_at numbers from ≡ pos 0 → IsFirstOf numbers (from + 1) hi o → IsFirstOf numbers from hi o
first_later numbers from hi None none first = λ k above below. elim (leb_tells (from + 1) k) [
  | inl t ↦ first k t.1 below
  | inr t ↦ let same : k ≡ from = omega (arith, t.1, above) in rw same none
]
first_later numbers from hi (Some e) none first = (
  omega (arith, first.0),
  first.1,
  first.2,
  first.3,
  λ k above below. elim (leb_tells (from + 1) k) [
    | inl t ↦ first.4 k t.1 below
    | inr t ↦ let same : k ≡ from = omega (arith, t.1, above) in rw same none
  ],
)

pub first_here : (numbers : List ℤ) (from hi : ℕ) → from ≤ hi → number_at numbers from ≢ pos 0 → IsFirstOf numbers from hi (Some (the_entry from (number_at numbers from)))
first_here numbers from hi le some = (omega arith, le, some, refl, λ k above below. absurd (omega (arith, above, below)))

-- the n numbers from an index on have a first one that is not 0, or none
pub first_among : (n : ℕ) (numbers : List ℤ) (from hi : ℕ) → from + n ≡ hi + 1 → (o : Option Entry) × IsFirstOf numbers from hi o
first_among zero numbers from hi size = (None, λ k above below. absurd (omega (arith, size, above, below)))
first_among (suc n) numbers from hi size = elim (cases_Bool (is_zero (number_at numbers from))) [
  | inl t ↦
      let later = first_among n numbers (from + 1) hi (omega (arith, size)) in
      (later.0, first_later numbers from hi later.0 (zero_is _ t) later.1)
  | inr t ↦ (Some _, first_here numbers from hi (omega (arith, size)) (some_is _ t))
]

-- what is found first is the first one
pub found_first : (numbers : List ℤ) (from hi : ℕ) (e : Entry) → from ≤ hi → hi < length numbers → slice_get (nonzero_within from hi numbers) 0 ≡ Some e → IsFirstOf numbers from hi (Some e)
found_first numbers from hi e le inside found =
    let first = first_among (hi + 1 - from) numbers from hi (omega (arith, le)) in
    subst (IsFirstOf numbers from hi) (next-is numbers from hi first.0 inside first.1 ∙ found) first.1

-- it is the first one of a longer interval too
first_kept : (numbers : List ℤ) (from hi top : ℕ) (e : Entry) → from ≤ hi → hi ≤ top → top < length numbers → slice_get (nonzero_within from hi numbers) 0 ≡ Some e → slice_get (nonzero_within from top numbers) 0 ≡ Some e
first_kept numbers from hi top e le up inside found =
    let first = found_first numbers from hi e le (omega (arith, up, inside)) found in
    sym (next-is numbers from top (Some e) inside (first.0, omega (arith, first.1, up), first.2, first.3, first.4))

-- ---- last entries

-- a number that is 0 makes no difference
pub without_zero : (numbers : List ℤ) (from hi : ℕ) → from ≤ hi → hi < length numbers → number_at numbers from ≡ pos 0 → nonzero_within from hi numbers ≡ nonzero_within (from + 1) hi numbers
without_zero numbers from hi le inside none =
    let later = first_among (hi - from) numbers (from + 1) hi (omega (arith, le)) in
    by_first later.0 later.1
  where
    by_first : (o : Option Entry) → IsFirstOf numbers (from + 1) hi o → nonzero_within from hi numbers ≡ nonzero_within (from + 1) hi numbers
    by_first None first =
        nonzero_within-last from hi numbers (sym (next-is numbers from hi None inside (first_later numbers from hi None none first)))
        ∙ sym (nonzero_within-last (from + 1) hi numbers (sym (next-is numbers (from + 1) hi None inside first)))
    by_first (Some e) first =
        nonzero_within-next from hi numbers e (sym (next-is numbers from hi (Some e) inside (first_later numbers from hi (Some e) none first)))
        ∙ sym (nonzero_within-next (from + 1) hi numbers e (sym (next-is numbers (from + 1) hi (Some e) inside first)))

-- an entry that stands alone from its place on is the last one of a longer interval too
last_kept : (n : ℕ) (numbers : List ℤ) (from j hi : ℕ) (e : Entry) (o : Option Entry) → from + n ≡ j → j ≤ hi → hi < length numbers → nonzero_within j hi numbers ≡ e ∷ [] → last_behind o (nonzero_within from hi numbers) ≡ Some e
last_kept zero numbers from j hi e o place le inside alone =
    let same : from ≡ j = omega (arith, place) in
    rw same (ap (last_behind o) alone)
last_kept (suc n) numbers from j hi e o place le inside alone = elim (cases_Bool (is_zero (number_at numbers from))) [
  | inl t ↦
      ap (last_behind o) (without_zero numbers from hi (omega (arith, place, le)) inside (zero_is _ t))
      ∙ last_kept n numbers (from + 1) j hi e o (omega (arith, place)) le inside alone
  | inr t ↦
      let here = next-is numbers from hi _ inside (first_here numbers from hi (omega (arith, place, le)) (some_is _ t)) in
      ap (last_behind o) (nonzero_within-next from hi numbers _ (sym here))
      ∙ last_kept n numbers (from + 1) j hi e _ (omega (arith, place)) le inside alone
]

-- ---- entries that stand alone

pub alone_none : (es : List Entry) → pointwise nat_eq (map (λ (e : Entry). e.index) es) [] ≡ true → es ≡ []
alone_none [] h = refl
alone_none (e ∷ es) h = absurd cc

pub alone_some : (es : List Entry) (j : ℕ) → pointwise nat_eq (map (λ (e : Entry). e.index) es) (j ∷ []) ≡ true → (e : Entry) × (es ≡ e ∷ [])
alone_some [] j h = absurd cc
alone_some (e ∷ []) j h = (e, refl)
alone_some (e ∷ f ∷ es) j h = let both = and_parts (eqb e.index j) _ h in absurd cc

-- ---- the answer

value_here : (numbers : List ℤ) (i : ℕ) → i < length numbers → stated_value (nonzero_within i i numbers) i ≡ number_at numbers i
value_here numbers i inside =
    ap (stated_value (nonzero_within i i numbers)) (let place : i ≡ 0 + i = omega arith in place)
    ∙ value_stated i i 0 numbers i inside (omega arith) (omega arith)

-- what accepted entries state is the answer, where they are the true ones
pub alone_is_near : (d : ℕ) (numbers : List ℤ) (l : Lookup) (found : Option ℕ) → length numbers ≡ 2 ^ d → item_of l < 2 ^ d → is_possible d l found ≡ true
    → are_alone l found (nonzero_within (range_of d l found).0 (range_of d l found).1 numbers) ≡ true → stated_answer l (nonzero_within (range_of d l found).0 (range_of d l found).1 numbers) ≡ near numbers l
alone_is_near d numbers (Index i) found len item possible alone = ap value (value_here numbers i (omega (arith, len, item)))
alone_is_near d numbers (Pred i) None len item possible alone =
    let none = alone_none (nonzero_within 0 i numbers) alone in
    ap (λ es. nearest (slice_get es 0)) none ∙ sym (ap (λ es. nearest (last_of es)) none)
alone_is_near d numbers (Pred i) (Some j) len item possible alone =
    let one = alone_some (nonzero_within j i numbers) j alone in
    ap (λ es. nearest (slice_get es 0)) one.1
    ∙ sym (ap nearest (last_kept j numbers 0 j i one.0 None (omega arith) (le_from j i possible) (omega (arith, len, item)) one.1))
alone_is_near d numbers (Succ i) None len item possible alone =
    ap (λ n. nearest (slice_get (nonzero_within i (n - 1) numbers) 0)) (sym len)
alone_is_near d numbers (Succ i) (Some j) len item possible alone =
    let both = and_parts (leb i j) (ltb j (2 ^ d)) possible in
    let one = alone_some (nonzero_within i j numbers) j alone in
    let top : j ≤ length numbers - 1 = omega (arith, le_from (suc j) (2 ^ d) both.1, len) in
    let found = ap (λ es. slice_get es 0) one.1 in
    ap nearest (found ∙ sym (first_kept numbers i j (length numbers - 1) one.0 (le_from i j both.0) top (omega (arith, len, item)) found))

pub same_answer : (y : Looked) → is_same_answer y y ≡ true
same_answer (value a) = (signed_Decides a a).1 refl
same_answer (nearest o) = (same_entries (option_to_list o) (option_to_list o)).1 refl

-- two optional entries whose lists are the same
same_option : (a b : Option Entry) → option_to_list a ≡ option_to_list b → a ≡ b
same_option None None e = refl
same_option None (Some y) e = absurd cc
same_option (Some x) None e = absurd cc
same_option (Some x) (Some y) e = cc

-- answers that pass the test are the same
pub equal_answers : (x y : Looked) → is_same_answer x y ≡ true → x ≡ y
equal_answers (value a) (value b) same = ap value ((signed_Decides a b).0 same)
equal_answers (value a) (nearest o) same = absurd cc
equal_answers (nearest o) (value b) same = absurd cc
equal_answers (nearest a) (nearest b) same =
    ap nearest (same_option a b ((same_entries (option_to_list a) (option_to_list b)).0 same))
