-- Filters of lists, and the entries that are not 0.
use Rattle.std.proofs.Common.{◌≡◌, ◌≢◌, ℕ, ◌<◌, Bool, true, false, not, ◌&&◌, List, [], ◌∷◌, map, filter, ℤ, pos, refl, ap, inl, inr, arith}
use Rattle.std.proofs.lemmas.Bool.{cases_Bool}
use Rattle.std.proofs.lemmas.Bool.Decides.{leb_tells}
use Rattle.sip_vector.specs.declared.update.Entry.{Entry}
use Rattle.sip_vector.specs.Answers.{entries, is_zero}
use Rattle.sip_vector.specs.Vectors.{is_nonzero_within, nonzero_within}
use Rattle.sip_vector.proofs.Kept.{is_zero-false}

pub filter-map : {X Y : Type 0} (p : Y → Bool) (f : X → Y) (xs : List X) → filter p (map f xs) ≡ map f (filter (λ x. p (f x)) xs)
filter-map p f [] = refl
filter-map p f (x ∷ xs) = elim (cases_Bool (p (f x))) [
  | inl e ↦ rw e (ap (λ ys. f x ∷ ys) (filter-map p f xs))
  | inr e ↦ rw e (filter-map p f xs)
]

pub filter-both : {X : Type 0} (p q : X → Bool) (xs : List X) → filter (λ x. p x && q x) xs ≡ filter p (filter q xs)
filter-both p q [] = refl
filter-both p q (x ∷ xs) = elim (cases_Bool (p x)) [
  | inl e ↦ elim (cases_Bool (q x)) [
    | inl f ↦ rw (e, f, e) (ap (λ ys. x ∷ ys) (filter-both p q xs))
    | inr f ↦ rw (e, f) (filter-both p q xs)
  ]
  | inr e ↦ elim (cases_Bool (q x)) [
    | inl f ↦ rw (e, f, e) (filter-both p q xs)
    | inr f ↦ rw (e, f) (filter-both p q xs)
  ]
]

pub filter-none : {X : Type 0} (p : X → Bool) (xs : List X) → ((x : X) → p x ≡ false) → filter p xs ≡ []
filter-none p [] none = refl
filter-none p (x ∷ xs) none = rw (none x) (filter-none p xs none)

-- an index and a number as an `Entry`
abbrev pub as_entry : ℕ × ℤ → Entry
as_entry x = record { index = x.0; value = x.1 }

pub not_zero : (z : ℤ) → z ≢ pos 0 → not (is_zero z) ≡ true
not_zero z some = ap not (is_zero-false z some)

-- there are none where hi is below lo
pub nonzero_within-none : (lo hi : ℕ) (numbers : List ℤ) → hi < lo → nonzero_within lo hi numbers ≡ []
nonzero_within-none lo hi numbers less = filter-none (is_nonzero_within lo hi) (entries numbers) (λ e. elim (leb_tells lo e.index) [
  | inl t ↦ elim (leb_tells e.index hi) [ inl u ↦ absurd (omega (arith, t.1, u.1)) | inr u ↦ rw (t.0, u.0) refl ]
  | inr t ↦ rw t.0 refl
])
