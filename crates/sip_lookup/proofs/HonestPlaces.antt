-- The place that an honest helper finds may be found, and the entries of its interval stand alone.
use Rattle.std.proofs.Common.{◌≡◌, ◌⊎◌, ℕ, zero, suc, ◌+◌, ◌-◌, ◌<◌, ◌≤◌, ◌^◌, true, false, List, [], ◌∷◌, length, ℤ, Option, Some, None, slice_get, refl, sym, ap, subst, ◌∙◌, inl, inr, arith}
use Rattle.std.specs.Option.{option_map}
use Rattle.std.proofs.lemmas.Bool.{and_from, cases_Bool, eq-eqb, le-leb, lt-ltb}
use Rattle.sip_vector.specs.declared.update.Entry.{Entry}
use Rattle.sip_vector.specs.Answers.{is_zero}
use Rattle.sip_vector.specs.Vectors.{last_of, nonzero_within, number_at}
use Rattle.sip_vector.proofs.Walks.{next-is, nonzero_within-next, nonzero_within-last}
use Rattle.sip_subvec.proofs.HonestEntries.{zero_is}
use Rattle.sip_lookup.specs.declared.lookup.Lookup.{Lookup}
use Rattle.sip_lookup.specs.declared.lookup.Lookup.TheVariants.{Index, Pred, Succ}
use Rattle.sip_lookup.specs.Lookups.{are_alone, honest_found, is_possible, item_of, range_of}
use Rattle.sip_vector.proofs.LastEntry.{last_behind}
use Rattle.sip_lookup.proofs.NearEntries.{first_here, found_first, some_is, the_entry, without_zero}

-- a place may be found, and the entries of its interval stand alone and are one at most
pub record IsProved (d : ℕ) (numbers : List ℤ) (l : Lookup) (found : Option ℕ) : Type 0 where
  pub possible : is_possible d l found ≡ true
  pub alone : are_alone l found (nonzero_within (range_of d l found).0 (range_of d l found).1 numbers) ≡ true
  pub few : length (nonzero_within (range_of d l found).0 (range_of d l found).1 numbers) ≤ 1

-- ---- entries of short intervals

-- behind its end an interval has none
none_behind : (numbers : List ℤ) (hi : ℕ) → hi < length numbers → nonzero_within (hi + 1) hi numbers ≡ []
none_behind numbers hi inside =
    nonzero_within-last (hi + 1) hi numbers (sym (next-is numbers (hi + 1) hi None inside (λ k above below. absurd (omega (arith, above, below)))))

-- an entry that is not 0 is the first from its place on
here_first : (numbers : List ℤ) (from hi : ℕ) → from ≤ hi → hi < length numbers → is_zero (number_at numbers from) ≡ false
    → nonzero_within from hi numbers ≡ the_entry from (number_at numbers from) ∷ nonzero_within (from + 1) hi numbers
here_first numbers from hi le inside some =
    nonzero_within-next from hi numbers (the_entry from (number_at numbers from)) (sym (next-is numbers from hi _ inside (first_here numbers from hi le (some_is _ some))))

-- one item has one at most
one_here : (numbers : List ℤ) (i : ℕ) → i < length numbers → length (nonzero_within i i numbers) ≤ 1
one_here numbers i inside = elim (cases_Bool (is_zero (number_at numbers i))) [
  | inl t ↦
      let none = ap (λ (es : List Entry). length es) (without_zero numbers i i (omega arith) inside (zero_is _ t) ∙ none_behind numbers i inside) in
      omega (arith, none)
  | inr t ↦
      let one = ap (λ (es : List Entry). length es) (here_first numbers i i (omega arith) inside t ∙ ap (λ es. the_entry i (number_at numbers i) ∷ es) (none_behind numbers i inside)) in
      omega (arith, one)
]

-- ---- the last entry

some_last : (es : List Entry) (e : Entry) → last_behind (Some e) es ≡ None → ⊥
some_last [] e none = cc
some_last (f ∷ es) e none = some_last es f none

none_last : (es : List Entry) → last_of es ≡ None → es ≡ []
none_last [] none = refl
none_last (e ∷ es) none = absurd (some_last es e none)

-- from its place on it stands alone
abbrev StandsLast : List ℤ → ℕ → ℕ → Entry → Type 0
StandsLast numbers from hi e = (from ≤ e.index) × (e.index ≤ hi) × (nonzero_within e.index hi numbers ≡ e ∷ [])

same_entry : (x y : Entry) → Some x ≡ Some y → x ≡ y
same_entry x y e = cc

last_stands : (n : ℕ) (numbers : List ℤ) (from hi : ℕ) (o : Option Entry) (e : Entry) → from + n ≡ hi + 1 → hi < length numbers → last_behind o (nonzero_within from hi numbers) ≡ Some e
    → ((o ≡ Some e) × (nonzero_within from hi numbers ≡ [])) ⊎ StandsLast numbers from hi e
last_stands zero numbers from hi o e size inside last =
    let past : from ≡ hi + 1 = omega (arith, size) in
    let none : nonzero_within from hi numbers ≡ [] = rw past (none_behind numbers hi inside) in
    inl (sym (ap (last_behind o) none) ∙ last, none)
last_stands (suc n) numbers from hi o e size inside last = elim (cases_Bool (is_zero (number_at numbers from))) [
  | inl t ↦
      let less = without_zero numbers from hi (omega (arith, size)) inside (zero_is _ t) in
      elim (last_stands n numbers (from + 1) hi o e (omega (arith, size)) inside (sym (ap (last_behind o) less) ∙ last)) [
        | inl a ↦ inl (a.0, less ∙ a.1)
        | inr b ↦ inr (omega (arith, b.0), b.1, b.2)
      ]
  | inr t ↦
      let own = the_entry from (number_at numbers from) in
      let more = here_first numbers from hi (omega (arith, size)) inside t in
      elim (last_stands n numbers (from + 1) hi (Some own) e (omega (arith, size)) inside (sym (ap (last_behind o) more) ∙ last)) [
        | inl a ↦
            let same : own ≡ e = same_entry own e a.0 in
            let place : from ≡ e.index = ap (λ (x : Entry). x.index) same in
            let alone : nonzero_within from hi numbers ≡ e ∷ [] = more ∙ ap (λ es. own ∷ es) a.1 ∙ ap (λ x. x ∷ []) same in
            inr (omega (arith, place), omega (arith, place, size), subst (λ k. nonzero_within k hi numbers ≡ e ∷ []) place alone)
        | inr b ↦ inr (omega (arith, b.0), b.1, b.2)
      ]
]

-- ---- the first entry

first_stands : (numbers : List ℤ) (from hi : ℕ) (e : Entry) → from ≤ hi → hi < length numbers → slice_get (nonzero_within from hi numbers) 0 ≡ Some e
    → (from ≤ e.index) × (e.index ≤ hi) × (nonzero_within from e.index numbers ≡ e ∷ [])
first_stands numbers from hi e le inside found =
    let first = found_first numbers from hi e le inside found in
    let short : e.index < length numbers = omega (arith, first.1, inside) in
    let here = next-is numbers from e.index (Some e) short (first.0, (let same : e.index ≤ e.index = omega arith in same), first.2, first.3, first.4) in (
      first.0,
      first.1,
      nonzero_within-next from e.index numbers e (sym here) ∙ ap (λ es. e ∷ es) (none_behind numbers e.index short),
    )

-- ---- the place of each lookup

-- an entry stands alone
one_alone : (i : ℕ) (numbers : List ℤ) (lo hi : ℕ) (e : Entry) → nonzero_within lo hi numbers ≡ e ∷ []
    → (are_alone (Pred i) (Some e.index) (nonzero_within lo hi numbers) ≡ true) × (length (nonzero_within lo hi numbers) ≤ 1)
one_alone i numbers lo hi e is = (
  ap (are_alone (Pred i) (Some e.index)) is ∙ and_from _ _ (eq-eqb e.index e.index refl) refl,
  omega (arith, ap (λ (es : List Entry). length es) is),
)

module _ (d : ℕ) (numbers : List ℤ) (len : length numbers ≡ 2 ^ d) (i : ℕ) (item : i < 2 ^ d) where
  abbrev place : Option Entry → Option ℕ
  place o = option_map (λ (e : Entry). e.index) o

  below_proved : (o : Option Entry) → last_of (nonzero_within 0 i numbers) ≡ o → IsProved d numbers (Pred i) (place o)
  below_proved None is =
      let none = none_last (nonzero_within 0 i numbers) is in
      record { possible = refl; alone = ap (are_alone (Pred i) None) none; few = omega (arith, ap (λ (es : List Entry). length es) none) }
  below_proved (Some e) is = elim (last_stands (i + 1) numbers 0 i None e (omega arith) (omega (arith, len, item)) is) [
    | inl a ↦ absurd (let no = a.0 in cc)
    | inr b ↦
        let one = one_alone i numbers e.index i e b.2 in
        record { possible = le-leb e.index i b.1; alone = one.0; few = one.1 }
  ]

  above_proved : (o : Option Entry) → slice_get (nonzero_within i (length numbers - 1) numbers) 0 ≡ o → IsProved d numbers (Succ i) (place o)
  above_proved None is =
      let top : length numbers - 1 ≡ 2 ^ d - 1 = ap (λ n. n - 1) len in
      let none : nonzero_within i (2 ^ d - 1) numbers ≡ [] = subst (λ n. nonzero_within i n numbers ≡ []) top (nonzero_within-last i (length numbers - 1) numbers is) in
      record { possible = refl; alone = ap (are_alone (Succ i) None) none; few = omega (arith, ap (λ (es : List Entry). length es) none) }
  above_proved (Some e) is =
      let f = first_stands numbers i (length numbers - 1) e (omega (arith, len, item)) (omega (arith, len, item)) is in
      let one = one_alone i numbers i e.index e f.2 in
      record { possible = and_from _ _ (le-leb i e.index f.0) (lt-ltb e.index (2 ^ d) (omega (arith, f.1, len, item))); alone = one.0; few = one.1 }

pub place_proved : (d : ℕ) (numbers : List ℤ) (l : Lookup) → length numbers ≡ 2 ^ d → item_of l < 2 ^ d → IsProved d numbers l (honest_found numbers l)
place_proved d numbers (Index i) len item = record { possible = eq-eqb i i refl; alone = refl; few = one_here numbers i (omega (arith, len, item)) }
place_proved d numbers (Pred i) len item = below_proved d numbers len i item (last_of (nonzero_within 0 i numbers)) refl
place_proved d numbers (Succ i) len item = above_proved d numbers len i item (slice_get (nonzero_within i (length numbers - 1) numbers) 0) refl
