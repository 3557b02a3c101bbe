-- The entries of a vector are such that frames have room for them, and stand in frames one after another.
use Rattle.std.proofs.Common.{◌≡◌, ◌⊎◌, ℕ, suc, ◌+◌, ◌-◌, ◌/◌, ◌^◌, ◌<◌, ◌≤◌, Bool, true, not, cond, nat_le, List, [], ◌∷◌, ◌++◌, length, drop, map, filter, ℤ, nat_abs, sum_by, All, Some, sym, ap, subst, ◌∙◌, inl, inr, arith, append-nil, length-append}
use Rattle.std.specs.Prelude.{slice_get}
use Rattle.std.specs.List.{enumerate_from, flat_map}
use Rattle.std.proofs.lemmas.Bool.{and_parts, leb-true}
use Rattle.std.proofs.lemmas.Bool.Decides.{eqb_tells}
use Rattle.std.proofs.lemmas.List.{take_at, drop_at, take_all}
use Rattle.std.proofs.lemmas.List.Elements.{All-nil, All-cons, All-head, All-tail}
use Rattle.std.proofs.lemmas.List.Sums.{sum_by-cons}
use Rattle.sip_vector.specs.declared.update.Entry.{Entry}
use Rattle.sip_vector.specs.Answers.{entries, is_within, is_zero}
use Rattle.sip_vector.specs.Pieces.{cut, pieces}
use Rattle.sip_vector.specs.Streams.{most_weight}
use Rattle.sip_vector.specs.Vectors.{is_nonzero_within, nonzero_within}
use Rattle.std.proofs.lemmas.Bool.{cases_Bool}
use Rattle.sip_vector.proofs.Walks.{nonzero_within-next}
use Rattle.sip_wire.specs.declared.message.Message.TheVariants as messages
use Rattle.sip_wire.specs.declared.version.Version.{Version}
use Rattle.sip_wire.specs.Spelling.{spelling}
use Rattle.sip_wire.specs.Versions.{index_width}
use Rattle.sip_subvec.specs.Honest.{entry_frames}
use Rattle.sip_subvec.proofs.HonestFrames.{IsRow}
use Rattle.sip_vector.proofs.Kept.{not_is_zero}

-- what passes a test has what the test and the list give
filtered : {X : Type 0} (p : X → Bool) (P Q : X → Type 0) (xs : List X) → ((x : X) → p x ≡ true → P x → Q x) → ((x : X) → P x) → All Q (filter p xs)
filtered p P Q [] gives has = All-nil Q
filtered p P Q (x ∷ xs) gives has = elim (cases_Bool (p x)) [
  | inl t ↦ subst (λ (b : Bool). All Q (cond b (x ∷ filter p xs) (filter p xs))) (sym t) (All-cons Q x (filter p xs) (gives x t (has x)) (filtered p P Q xs gives has))
  | inr t ↦ subst (λ (b : Bool). All Q (cond b (x ∷ filter p xs) (filter p xs))) (sym t) (filtered p P Q xs gives has)
]

-- each entry is within the interval
entries_within : (lo hi : ℕ) (numbers : List ℤ) → All (λ (e : Entry). e.index ≤ hi) (nonzero_within lo hi numbers)
entries_within lo hi numbers =
    filtered (is_nonzero_within lo hi) (λ _. Unit {0}) (λ (e : Entry). e.index ≤ hi) (entries numbers)
    (λ e t _. leb-true e.index hi (and_parts (nat_le lo e.index) (nat_le e.index hi) (and_parts (is_within lo hi e.index) (not (is_zero e.value)) t).0).1) (λ _. tt)

-- so is the first one
pub first_within : (lo hi : ℕ) (numbers : List ℤ) (e : Entry) → slice_get (nonzero_within lo hi numbers) 0 ≡ Some e → e.index ≤ hi
first_within lo hi numbers e first =
    let W : Entry → Type 0 = λ x. x.index ≤ hi in
    All-head W e (nonzero_within (e.index + 1) hi numbers) (subst (All W) (nonzero_within-next lo hi numbers e first) (entries_within lo hi numbers))

-- ---- each has room in a frame

-- an entry of the numbers from an index on, which are no heavier than this
abbrev IsLight : ℕ → Entry → Type 0
IsLight bound e = nat_abs e.value ≤ bound

abbrev entry_of : ℕ × ℤ → Entry
entry_of x = record { index = x.0; value = x.1 }

entries_light : (bound k : ℕ) (xs : List ℤ) → sum_by nat_abs xs ≤ bound → All (IsLight bound) (map entry_of (enumerate_from k xs))
entries_light bound k [] h = All-nil (IsLight bound)
entries_light bound k (x ∷ xs) h =
    let sum = sum_by-cons nat_abs x xs in
    All-cons (IsLight bound) (entry_of (k, x)) (map entry_of (enumerate_from (k + 1) xs)) (omega (arith, sum)) (entries_light bound (k + 1) xs (omega (arith, sum)))

passed_rows : (version : Version) (lo hi : ℕ) (es : List Entry) → hi < 256 ^ index_width version → All (IsLight most_weight) es → All (IsRow version) (filter (is_nonzero_within lo hi) es)
passed_rows version lo hi [] small light = All-nil (IsRow version)
passed_rows version lo hi (e ∷ es) small light =
    let later = passed_rows version lo hi es small (All-tail (IsLight most_weight) e es light) in
    elim (cases_Bool (is_nonzero_within lo hi e)) [
      | inl t ↦
          let both = and_parts (is_within lo hi e.index) (not (is_zero e.value)) t in
          let below : e.index ≤ hi = leb-true e.index hi (and_parts (nat_le lo e.index) (nat_le e.index hi) both.0).1 in
          let size = All-head (IsLight most_weight) e es light in
          let row : IsRow version e = record { index = omega (arith, below); some = not_is_zero e.value both.1; small = omega (arith, size) } in
          subst (λ (b : Bool). All (IsRow version) (cond b (e ∷ filter (is_nonzero_within lo hi) es) (filter (is_nonzero_within lo hi) es))) (sym t) (All-cons (IsRow version) e (filter (is_nonzero_within lo hi) es) row later)
      | inr t ↦ subst (λ (b : Bool). All (IsRow version) (cond b (e ∷ filter (is_nonzero_within lo hi) es) (filter (is_nonzero_within lo hi) es))) (sym t) later
    ]

pub nonzero_rows : (version : Version) (lo hi : ℕ) (numbers : List ℤ) → hi < 256 ^ index_width version → sum_by nat_abs numbers ≤ most_weight → All (IsRow version) (nonzero_within lo hi numbers)
nonzero_rows version lo hi numbers small light = passed_rows version lo hi (entries numbers) small (entries_light most_weight 0 numbers light)

-- ---- frames one after another

-- the bytes of entries in frames
abbrev pub framed : Version → List Entry → List ℕ
framed version es = flat_map (spelling version) (entry_frames es)

-- a piece that is full or the last one is cut off in front
cut-step : (xs ys : List Entry) → 0 < length xs → length xs ≤ 512 → (length xs < 512 → ys ≡ []) → cut 512 (xs ++ ys) ≡ xs ∷ cut 512 ys
cut-step xs ys some most last = elim (full_or_last xs ys most last) [
  | inl full ↦
      let total = length-append xs ys in
      let count : (length (xs ++ ys) + (512 - 1)) / 512 ≡ suc ((length ys + (512 - 1)) / 512) = omega arith in
      ap (λ n. pieces 512 n (xs ++ ys)) count
      ∙ ap (λ l. l ∷ pieces 512 ((length ys + (512 - 1)) / 512) (drop 512 (xs ++ ys))) (take_at xs ys 512 full)
      ∙ ap (λ l. xs ∷ pieces 512 ((length ys + (512 - 1)) / 512) l) (drop_at xs ys 512 full)
  | inr none ↦
      let count : (length xs + (512 - 1)) / 512 ≡ suc 0 = omega arith in
      ap (λ l. cut 512 (xs ++ l)) none
      ∙ ap (cut 512) (append-nil xs)
      ∙ ap (λ n. pieces 512 n xs) count
      ∙ ap (λ l. l ∷ []) (take_all 512 xs most)
      ∙ ap (λ l. xs ∷ cut 512 l) (sym none)
]
  where
    full_or_last : (front rest : List Entry) → length front ≤ 512 → (length front < 512 → rest ≡ []) → (length front ≡ 512) ⊎ (rest ≡ [])
    full_or_last front rest le none = elim (eqb_tells (length front) 512) [ inl t ↦ inl t.1 | inr t ↦ inr (none (omega (arith, t.1))) ]

pub framed-step : (version : Version) (xs ys : List Entry) → 0 < length xs → length xs ≤ 512 → (length xs < 512 → ys ≡ []) → framed version (xs ++ ys) ≡ spelling version (messages.Entries (record { items = xs })) ++ framed version ys
framed-step version xs ys some most last = ap (λ l. flat_map (spelling version) (map (λ piece. messages.Entries (record { items = piece })) l)) (cut-step xs ys some most last)
