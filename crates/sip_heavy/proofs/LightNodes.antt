-- Nodes that are light together with the one behind them show nothing, whoever their siblings are.
use Rattle.std.proofs.Common.{◌≡◌, ℕ, zero, suc, ◌+◌, ◌/◌, ◌%◌, ◌<◌, ◌≤◌, Bool, List, [], ◌∷◌, length, get_or, drop, refl, sym, inl, inr, arith}
use Rattle.std.proofs.lemmas.Bool.Decides.{eqb_tells, leb_tells}
use Rattle.sip_wire.specs.declared.message.Node.{Node}
use Rattle.sip_heavy.specs.Honest.{shown_pair}
use Rattle.sip_heavy.specs.Spots.{left_of, right_of, shown_spots, count_at}
use Rattle.sip_heavy.specs.Rising.{Rises}

module _ (t : ℕ) (is_leaf : Bool) where
  light_pair : (l h : Node) → l.count + h.count < t → shown_pair t is_leaf l h ≡ []
  light_pair l h less = elim (leb_tells t (l.count + h.count)) [
    | inl s ↦ absurd (omega (arith, s.1, less))
    | inr s ↦ rw s.0 refl
  ]

  light_alone : (x : Node) → x.count < t → shown_pair t is_leaf (left_of x) (right_of x) ≡ []
  light_alone x less = elim (eqb_tells (x.index % 2) 0) [
    | inl s ↦ rw s.0 (light_pair x _ (omega (arith, less)))
    | inr s ↦ rw s.0 (light_pair _ x (omega (arith, less)))
  ]

  -- a light node whose sibling does not follow shows nothing
  light_first : (least n : ℕ) (y : Node) (more : List Node) → Rises least n (y ∷ more) → y.count < t → (before : Node) → before.index / 2 ≡ y.index / 2 → before.index < y.index
      → shown_spots t is_leaf (y ∷ more) ≡ shown_spots t is_leaf more
  light_first least n y [] rises less before same earlier = light_alone y less
  light_first least n y (z ∷ more) rises less before same earlier = elim (eqb_tells (y.index / 2) (z.index / 2)) [
    | inl s ↦ absurd (omega (arith, s.1, same, earlier, rises.2.0))
    | inr s ↦ rw (s.0, light_alone y less) refl
  ]

  first_light : (least n : ℕ) (xs : List Node) → Rises least n xs → 0 < length xs → count_at 0 xs + count_at 1 xs < t → shown_spots t is_leaf xs ≡ shown_spots t is_leaf (drop 1 xs)
  first_light least n [] rises some less = absurd (omega arith)
  first_light least n (x ∷ []) rises some less = light_alone x (omega (arith, less))
  first_light least n (x ∷ y ∷ more) rises some less = elim (eqb_tells (x.index / 2) (y.index / 2)) [
    | inl s ↦ rw (s.0, light_pair x y less) (sym (light_first (suc x.index) n y more rises.2 (omega (arith, less)) x s.1 (omega (arith, rises.2.0))))
    | inr s ↦ rw (s.0, light_alone x (omega (arith, less))) refl
  ]

  light_from : (k least n : ℕ) (xs : List Node) → Rises least n xs → k < length xs → count_at k xs + count_at (suc k) xs < t → shown_spots t is_leaf (drop k xs) ≡ shown_spots t is_leaf (drop (suc k) xs)
  light_from zero least n xs rises some less = first_light least n xs rises some less
  light_from (suc k) least n [] rises some less = absurd (omega arith)
  light_from (suc k) least n (x ∷ xs) rises some less = light_from k (suc x.index) n xs rises.2 (omega (arith, some)) less

  pub light_at : (k least n : ℕ) (xs : List Node) → Rises least n xs → k < length xs → count_at k xs + count_at (k + 1) xs < t → shown_spots t is_leaf (drop k xs) ≡ shown_spots t is_leaf (drop (k + 1) xs)
  light_at k least n xs rises some less = let next : k + 1 ≡ suc k = omega arith in rw next (light_from k least n xs rises some (rw next at less))

-- the count at a place
pub count_there : (i : ℕ) (xs : List Node) (d : Node) → i < length xs → (get_or xs i d).count ≡ count_at i xs
count_there i [] d less = absurd (omega arith)
count_there zero (x ∷ xs) d less = refl
count_there (suc i) (x ∷ xs) d less = count_there i xs d (omega arith)

pub none_there : (i : ℕ) (xs : List Node) → length xs ≤ i → 0 ≡ count_at i xs
none_there i [] past = refl
none_there zero (x ∷ xs) past = absurd (omega arith)
none_there (suc i) (x ∷ xs) past = none_there i xs (omega arith)
