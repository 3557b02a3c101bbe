-- The entries of an interval that are not 0 pass each test, and state the residues of the interval.
use Rattle.std.proofs.Common.{◌≡◌, ℕ, zero, suc, ◌+◌, ◌-◌, ◌<◌, ◌≤◌, Bool, true, false, not, ◌&&◌, nat_lt, cond, List, [], ◌∷◌, ◌++◌, length, map, filter, drop, get_or, ℤ, pos, Result, Ok, inl, inr, refl, sym, ap, ◌∙◌, arith}
use Rattle.std.specs.List.{enumerate_from, list_all}
use Rattle.std.proofs.lemmas.Bool.{and_from, and_parts, cases_Bool, lt-ltb, ltb-true, eq-eqb, ne_eqb}
use Rattle.std.proofs.lemmas.Bool.Decides.{leb_tells}
use Rattle.std.proofs.lemmas.List.{append-nil, append_assoc, ext_get_or, get_or-map, get_or-drop, get_or-take, length-map, length-drop, length-append, length-take-le}
use Rattle.std.proofs.lemmas.List.FromFn.{length-map-range_with_len, get_or-map-range_with_len}
use Rattle.sip_field.specs.Residue.{residue}
use Rattle.sip_vector.specs.declared.update.Entry.{Entry}
use Rattle.sip_vector.specs.Answers.{is_within, is_zero}
use Rattle.sip_vector.specs.Vectors.{is_nonzero_within, nonzero_within}
use Rattle.sip_vector.specs.Steps.{◌>>=◌, needs}
use Rattle.sip_vector.proofs.Filters.{as_entry}
use Rattle.sip_wire.specs.declared.message.Reason.{Reason}
use Rattle.sip_wire.specs.declared.message.Reason.TheVariants as reasons
use Rattle.sip_subvec.specs.AcceptsSub.{stated_value, stated_level}
use Rattle.sip_subvec.specs.Replies.{with_entries, most_entries}
use Rattle.sip_subvec.proofs.Windows.{window}

-- those of xs, numbered from k on
abbrev pub found : ℕ → ℕ → ℕ → List ℤ → List Entry
found lo hi k xs = filter (is_nonzero_within lo hi) (map as_entry (enumerate_from k xs))

pub found-cons : (lo hi k : ℕ) (x : ℤ) (xs : List ℤ) (b : Bool) → is_nonzero_within lo hi (as_entry (k, x)) ≡ b → found lo hi k (x ∷ xs) ≡ cond b (as_entry (k, x) ∷ found lo hi (k + 1) xs) (found lo hi (k + 1) xs)
found-cons lo hi k x xs b e = ap (λ c. cond c (as_entry (k, x) ∷ found lo hi (k + 1) xs) (found lo hi (k + 1) xs)) e

-- ---- they rise

-- these entries lie before an index
abbrev all_below : ℕ → List Entry → Bool
all_below k es = list_all (λ b. nat_lt b.index k) es

below_more : (k : ℕ) (es : List Entry) → all_below k es ≡ true → all_below (k + 1) es ≡ true
below_more k [] h = refl
below_more k (e ∷ es) h =
    let both = and_parts (nat_lt e.index k) (all_below k es) h in
    let less = ltb-true e.index k both.0 in
    and_from _ _ (lt-ltb e.index (k + 1) (omega arith)) (below_more k es both.1)

below_push : (k : ℕ) (es : List Entry) (x : ℤ) → all_below k es ≡ true → all_below (k + 1) (es ++ as_entry (k, x) ∷ []) ≡ true
below_push k [] x h = and_from _ _ (lt-ltb k (k + 1) (omega arith)) refl
below_push k (e ∷ es) x h =
    let both = and_parts (nat_lt e.index k) (all_below k es) h in
    let less = ltb-true e.index k both.0 in
    and_from _ _ (lt-ltb e.index (k + 1) (omega arith)) (below_push k es x both.1)

-- one entry that passes, and others
entry_passes : (lo hi : ℕ) (before es : List Entry) (e : Entry) → is_within lo hi e.index ≡ true → all_below e.index before ≡ true → length before < most_entries
    → with_entries lo hi before (e ∷ es) ≡ with_entries lo hi (before ++ e ∷ []) es
entry_passes lo hi before es e within rises few = rw (within, rises, lt-ltb (length before) most_entries few) refl

pub found_pass : (lo hi k : ℕ) (xs : List ℤ) (before : List Entry) → all_below k before ≡ true → length before + length (found lo hi k xs) ≤ most_entries
    → with_entries lo hi before (found lo hi k xs) ≡ Ok (before ++ found lo hi k xs)
found_pass lo hi k [] before rises few = ap (λ es. Ok es) (sym (append-nil before))
found_pass lo hi k (x ∷ xs) before rises few = elim (cases_Bool (is_nonzero_within lo hi (as_entry (k, x)))) [
  | inl t ↦
      let e = as_entry (k, x) in
      let rest = found lo hi (k + 1) xs in
      let is = found-cons lo hi k x xs true t in
      let within = (and_parts (is_within lo hi k) (not (is_zero x)) t).0 in
      let size : length (found lo hi k (x ∷ xs)) ≡ suc (length rest) = ap length is in
      let pushed = length-append before (e ∷ []) in
      ap (with_entries lo hi before) is ∙ entry_passes lo hi before rest e within rises (omega arith)
      ∙ found_pass lo hi (k + 1) xs (before ++ e ∷ []) (below_push k before x rises) (omega arith)
      ∙ ap (λ es. Ok es) (append_assoc before (e ∷ []) rest ∙ ap (λ es. before ++ es) (sym is))
  | inr t ↦
      let is = found-cons lo hi k x xs false t in
      let size = ap length is in
      ap (with_entries lo hi before) is ∙ found_pass lo hi (k + 1) xs before (below_more k before rises) (omega arith)
      ∙ ap (λ es. Ok (before ++ es)) (sym is)
]

-- the entries of a vector pass from the first to the last
pub nonzero_pass : (lo hi : ℕ) (numbers : List ℤ) → length (nonzero_within lo hi numbers) ≤ most_entries → with_entries lo hi [] (nonzero_within lo hi numbers) ≡ Ok (nonzero_within lo hi numbers)
nonzero_pass lo hi numbers few = found_pass lo hi 0 numbers [] refl (omega arith)

-- ---- a part of entries that pass

-- what passes is put behind what stood there, a front of it too, and then the rest of it
pub record Parts (lo hi : ℕ) (before xs ys : List Entry) (all : List Entry) : Type 0 where
  pub front : with_entries lo hi before xs ≡ Ok (before ++ xs)
  pub rest : with_entries lo hi (before ++ xs) ys ≡ Ok all

step : Bool → Bool → Result (List Entry) Reason → Result (List Entry) Reason
step a b r = needs a reasons.BadOrder >>= λ _. needs b reasons.TooMany >>= λ _. r

both_hold : (a b : Bool) (r : Result (List Entry) Reason) (all : List Entry) → step a b r ≡ Ok all → (a ≡ true) × (b ≡ true) × (r ≡ Ok all)
unfolding step
both_hold true true r all e = (refl, refl, e)
both_hold true false r all e = absurd cc
both_hold false b r all e = absurd cc

pub with_entries-parts : (lo hi : ℕ) (before xs ys all : List Entry) → with_entries lo hi before (xs ++ ys) ≡ Ok all → Parts lo hi before xs ys all
unfolding step
with_entries-parts lo hi before [] ys all e = record {
  front = ap (λ es. Ok es) (sym (append-nil before));
  rest = ap (λ es. with_entries lo hi es ys) (append-nil before) ∙ e;
}
with_entries-parts lo hi before (x ∷ xs) ys all e =
    let a = is_within lo hi x.index && list_all (λ b. nat_lt b.index x.index) before in
    let b = nat_lt (length before) most_entries in
    let h = both_hold a b (with_entries lo hi (before ++ x ∷ []) (xs ++ ys)) all e in
    let more = with_entries-parts lo hi (before ++ x ∷ []) xs ys all h.2 in
    let joined = append_assoc before (x ∷ []) xs in
    record {
      front = rw (h.0, h.1) (more.front ∙ ap (λ es. Ok es) joined);
      rest = ap (λ es. with_entries lo hi es ys) (sym joined) ∙ more.rest;
    }

-- ---- what they state

-- where an index isn't theirs, nothing
none_stated : (lo hi k i : ℕ) (xs : List ℤ) → i < k → stated_value (found lo hi k xs) i ≡ pos 0
none_stated lo hi k i [] less = refl
none_stated lo hi k i (x ∷ xs) less = elim (cases_Bool (is_nonzero_within lo hi (as_entry (k, x)))) [
  | inl t ↦
      ap (λ es. stated_value es i) (found-cons lo hi k x xs true t)
      ∙ rw (ne_eqb k i (λ e. absurd (omega (arith, e)))) (none_stated lo hi (k + 1) i xs (omega arith))
  | inr t ↦ ap (λ es. stated_value es i) (found-cons lo hi k x xs false t) ∙ none_stated lo hi (k + 1) i xs (omega arith)
]

pub zero_is : (x : ℤ) → is_zero x ≡ true → x ≡ pos 0
zero_is x h = grind arith

-- a value that isn't among them is 0
left_out : (lo hi k : ℕ) (x : ℤ) → lo ≤ k → k ≤ hi → is_nonzero_within lo hi (as_entry (k, x)) ≡ false → x ≡ pos 0
left_out lo hi k x low high out = elim (cases_Bool (is_zero x)) [
  | inl t ↦ zero_is x t
  | inr t ↦ elim (leb_tells lo k) [
    | inl a ↦ elim (leb_tells k hi) [
      | inl b ↦ absurd (let e : true ≡ false = sym (rw (a.0, b.0, t) refl) ∙ out in cc)
      | inr b ↦ absurd (omega (arith, b.1))
    ]
    | inr a ↦ absurd (omega (arith, a.1))
  ]
]

pub value_stated : (lo hi k : ℕ) (xs : List ℤ) (j : ℕ) → j < length xs → lo ≤ k + j → k + j ≤ hi → stated_value (found lo hi k xs) (k + j) ≡ get_or xs j (pos 0)
value_stated lo hi k [] j inside low high = absurd (omega arith)
value_stated lo hi k (x ∷ xs) zero inside low high =
    let here : k + 0 ≡ k = omega arith in
    rw here (elim (cases_Bool (is_nonzero_within lo hi (as_entry (k, x)))) [
      | inl t ↦ ap (λ es. stated_value es k) (found-cons lo hi k x xs true t) ∙ rw (eq-eqb k k refl) refl
      | inr t ↦
          ap (λ es. stated_value es k) (found-cons lo hi k x xs false t) ∙ none_stated lo hi (k + 1) k xs (omega arith)
          ∙ sym (left_out lo hi k x (omega arith) (omega arith) t)
    ])
value_stated lo hi k (x ∷ xs) (suc j) inside low high =
    let there : k + suc j ≡ k + 1 + j = omega arith in
    let later = value_stated lo hi (k + 1) xs j (omega arith) (omega arith) (omega arith) in
    rw there (elim (cases_Bool (is_nonzero_within lo hi (as_entry (k, x)))) [
      | inl t ↦ ap (λ es. stated_value es (k + 1 + j)) (found-cons lo hi k x xs true t) ∙ rw (ne_eqb k (k + 1 + j) (λ e. absurd (omega (arith, e)))) later
      | inr t ↦ ap (λ es. stated_value es (k + 1 + j)) (found-cons lo hi k x xs false t) ∙ later
    ])

-- the stated level is the part of the lowest level
pub stated_window : (p lo hi : ℕ) (numbers : List ℤ) → lo ≤ hi → hi < length numbers → stated_level p lo hi (nonzero_within lo hi numbers) ≡ window lo hi (map (residue p) numbers)
stated_window p lo hi numbers order within =
    let es = nonzero_within lo hi numbers in
    let n : ℕ = hi + 1 - lo in
    let level = map (residue p) numbers in
    let long = length-map-range_with_len (λ i. residue p (stated_value es i)) lo n in
    let size = length-take-le n (drop lo level) (omega (arith, length-drop lo level, length-map numbers (residue p))) in
    ext_get_or 0 (stated_level p lo hi es) (window lo hi level) (long ∙ sym size) (λ i below.
    let inside : i < n = omega arith in
    get_or-map-range_with_len (λ k. residue p (stated_value es k)) lo n i (lo + i) 0 inside refl
    ∙ ap (λ k. residue p (stated_value es k)) (let same : lo + i ≡ 0 + (lo + i) = omega arith in same)
    ∙ ap (residue p) (value_stated lo hi 0 numbers (lo + i) (omega arith) (omega arith) (omega arith))
    ∙ sym (get_or-map (residue p) numbers (lo + i) (pos 0) 0 (omega arith))
    ∙ sym (get_or-drop lo level i 0)
    ∙ sym (get_or-take n (drop lo level) i 0 inside))
