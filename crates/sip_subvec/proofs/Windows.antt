-- The part of a level above an interval, with the true siblings beside it, folds to the part of the level above.
use Rattle.std.proofs.Common.{◌≡◌, ℕ, zero, suc, ◌+◌, ◌-◌, ◌*◌, ◌/◌, ◌%◌, ◌^◌, ◌<◌, ◌≤◌, true, List, [], ◌∷◌, ◌++◌, length, get_or, take, drop, fold, zip, option_to_list, inl, inr, refl, sym, ap, ◌∙◌, arith}
use Rattle.std.specs.Prelude.{nat_eq}
use Rattle.std.specs.Cmp.Lexicographic.{pointwise}
use Rattle.std.proofs.Math.Nat.{pow-zero, pow-succ'}
use Rattle.std.proofs.lemmas.Bool.{eq-eqb}
use Rattle.std.proofs.lemmas.Bool.Decides.{eqb_tells}
use Rattle.std.proofs.lemmas.List.{append-nil, append_assoc, drop_more, take_more, get_or-drop, length-drop}
use Rattle.sip_vector.specs.Trees.{up}
use Rattle.sip_vector.proofs.TreeUpdates.{length-up}
use Rattle.sip_subvec.specs.AcceptsSub.{Siblings, widened, next_level}
use Rattle.sip_subvec.specs.Honest.{honest_siblings}

-- the nodes of a level from lo to hi
abbrev pub window : ℕ → ℕ → List ℕ → List ℕ
window lo hi level = take (hi + 1 - lo) (drop lo level)

-- ---- above whole pairs

up-drop : (p r : ℕ) (level : List ℕ) (k : ℕ) → up p (drop (k + k) level) r ≡ drop k (up p level r)
up-drop p r level zero = refl
up-drop p r [] (suc k) = let e : suc k + suc k ≡ suc (suc (k + k)) = omega arith in rw e refl
up-drop p r (u ∷ []) (suc k) = let e : suc k + suc k ≡ suc (suc (k + k)) = omega arith in rw e refl
up-drop p r (u ∷ w ∷ level) (suc k) = let e : suc k + suc k ≡ suc (suc (k + k)) = omega arith in rw e (up-drop p r level k)

up-take : (p r : ℕ) (level : List ℕ) (k : ℕ) → up p (take (k + k) level) r ≡ take k (up p level r)
up-take p r level zero = refl
up-take p r [] (suc k) = let e : suc k + suc k ≡ suc (suc (k + k)) = omega arith in rw e refl
up-take p r (u ∷ []) (suc k) = let e : suc k + suc k ≡ suc (suc (k + k)) = omega arith in rw e refl
up-take p r (u ∷ w ∷ level) (suc k) =
    let e : suc k + suc k ≡ suc (suc (k + k)) = omega arith in
    rw e (ap (λ xs. ((u + r * w) % p) ∷ xs) (up-take p r level k))

pub up-window : (p r a b : ℕ) (level : List ℕ) → up p (window (a + a) (b + b + 1) level) r ≡ window a b (up p level r)
up-window p r a b level =
    let n : ℕ = b + 1 - a in
    let twice : b + b + 1 + 1 - (a + a) ≡ n + n = omega arith in
    ap (λ k. up p (take k (drop (a + a) level)) r) twice ∙ up-take p r (drop (a + a) level) n ∙ ap (take n) (up-drop p r level a)

-- ---- the siblings complete the pairs

left_more : (level : List ℕ) (k j n : ℕ) → j ≡ k + 1 → k < length level → get_or level k 0 ∷ take n (drop j level) ≡ take (n + 1) (drop k level)
left_more level k j n is within =
    let e : n + 1 ≡ suc n = omega arith in
    rw (e, drop_more level k 0 within) (ap (λ i. get_or level k 0 ∷ take n (drop i level)) is)

right_more : (level : List ℕ) (lo hi : ℕ) → lo ≤ hi → hi + 1 < length level → window lo hi level ++ get_or level (hi + 1) 0 ∷ [] ≡ take (hi + 2 - lo) (drop lo level)
right_more level lo hi order within =
    let n : ℕ = hi + 1 - lo in
    let more : hi + 2 - lo ≡ n + 1 = omega arith in
    let place : lo + n ≡ hi + 1 = omega arith in
    let size = length-drop lo level in
    rw (more, take_more (drop lo level) n 0 (omega arith), get_or-drop lo level n 0, place) refl

module _ (level : List ℕ) (lo hi half : ℕ) (even : length level ≡ 2 * half) (order : lo ≤ hi) (within : hi < length level) where
  with_right : window lo hi level ++ option_to_list (honest_siblings level lo hi).right ≡ take (2 * (hi / 2) + 2 - lo) (drop lo level)
  with_right = elim (eqb_tells (hi % 2) 0) [
    | inl t ↦
        let is : 2 * (hi / 2) + 2 - lo ≡ hi + 2 - lo = omega (arith, t.1) in
        rw (t.0, is) (right_more level lo hi order (omega (arith, t.1)))
    | inr t ↦
        let is : 2 * (hi / 2) + 2 - lo ≡ hi + 1 - lo = omega (arith, t.1) in
        rw (t.0, is) (append-nil (window lo hi level))
  ]

  with_left : (n : ℕ) → option_to_list (honest_siblings level lo hi).left ++ take n (drop lo level) ≡ take (n + lo % 2) (drop (2 * (lo / 2)) level)
  with_left n = elim (eqb_tells (lo % 2) 1) [
    | inl t ↦
        let before : lo - 1 ≡ 2 * (lo / 2) = omega (arith, t.1) in
        let same : lo % 2 ≡ 1 = t.1 in
        rw t.0 (ap (λ k. get_or level k 0 ∷ take n (drop lo level)) before ∙ left_more level (2 * (lo / 2)) lo n (omega (arith, t.1)) (omega (arith, t.1)) ∙ ap (λ k. take (n + k) (drop (2 * (lo / 2)) level)) (sym same))
    | inr t ↦
        let none : lo % 2 ≡ 0 = omega (arith, t.1) in
        let here : lo ≡ 2 * (lo / 2) = omega (arith, none) in
        let count : n ≡ n + lo % 2 = omega (arith, none) in
        rw t.0 (ap (λ k. take k (drop lo level)) count ∙ ap (λ k. take (n + lo % 2) (drop k level)) here)
  ]

  widened_is : widened (window lo hi level) (honest_siblings level lo hi) ≡ window (lo / 2 + lo / 2) (hi / 2 + hi / 2 + 1) level
  widened_is =
      let s = honest_siblings level lo hi in
      let n : ℕ = 2 * (hi / 2) + 2 - lo in
      let count : n + lo % 2 ≡ hi / 2 + hi / 2 + 1 + 1 - (lo / 2 + lo / 2) = omega arith in
      let first : 2 * (lo / 2) ≡ lo / 2 + lo / 2 = omega arith in
      append_assoc (option_to_list s.left) (window lo hi level) (option_to_list s.right) ∙ ap (λ xs. option_to_list s.left ++ xs) with_right ∙ with_left n ∙ ap (λ k. take k (drop (2 * (lo / 2)) level)) count
      ∙ ap (λ k. take (hi / 2 + hi / 2 + 1 + 1 - (lo / 2 + lo / 2)) (drop k level)) first

  pub next_window : (p r : ℕ) → next_level p (window lo hi level) (honest_siblings level lo hi, r) ≡ window (lo / 2) (hi / 2) (up p level r)
  next_window p r = ap (λ xs. up p xs r) widened_is ∙ up-window p r (lo / 2) (hi / 2) level

-- ---- all levels

-- the true siblings of the level and of those above it, one for each challenge
abbrev pub siblings_above : ℕ → List ℕ → ℕ → ℕ → List ℕ → List Siblings
siblings_above p level lo hi [] = []
siblings_above p level lo hi (r ∷ challenges) = honest_siblings level lo hi ∷ siblings_above p (up p level r) (lo / 2) (hi / 2) challenges

half_of : (n h : ℕ) → n ≡ 2 ^ suc h → n ≡ 2 * 2 ^ h
half_of n h e = e ∙ pow-succ' 2 h

whole_window : (level : List ℕ) (lo hi : ℕ) → length level ≡ 1 → lo ≤ hi → hi < length level → window lo hi level ≡ level
whole_window [] lo hi one order within = absurd (omega arith)
whole_window (x ∷ y ∷ level) lo hi one order within = absurd (omega arith)
whole_window (x ∷ []) lo hi one order within =
    let first : lo ≡ 0 = omega arith in
    let last : hi ≡ 0 = omega arith in
    rw (first, last) refl

-- the part of the lowest level folds to the top
pub windows_fold : (p : ℕ) (challenges level : List ℕ) (lo hi : ℕ) → length level ≡ 2 ^ length challenges → lo ≤ hi → hi < length level
    → fold (next_level p) (window lo hi level) (zip (siblings_above p level lo hi challenges) challenges) ≡ fold (up p) level challenges
windows_fold p [] level lo hi size order within = whole_window level lo hi (size ∙ pow-zero 2) order within
windows_fold p (r ∷ challenges) level lo hi size order within =
    let half = half_of (length level) (length challenges) size in
    let long = length-up p r level (2 ^ length challenges) half in
    ap (λ xs. fold (next_level p) xs (zip (siblings_above p (up p level r) (lo / 2) (hi / 2) challenges) challenges)) (next_window level lo hi (2 ^ length challenges) half order within p r)
    ∙ windows_fold p challenges (up p level r) (lo / 2) (hi / 2) long (omega arith) (omega arith)

-- the top is alone
alone : (xs : List ℕ) → length xs ≡ 1 → pointwise nat_eq xs (get_or xs 0 0 ∷ []) ≡ true
alone [] one = absurd (omega arith)
alone (x ∷ y ∷ xs) one = absurd (omega arith)
alone (x ∷ []) one = rw (eq-eqb x x refl) refl

pub top_alone : (p : ℕ) (challenges level : List ℕ) → length level ≡ 2 ^ length challenges → pointwise nat_eq (fold (up p) level challenges) (get_or (fold (up p) level challenges) 0 0 ∷ []) ≡ true
top_alone p [] level size = alone level (size ∙ pow-zero 2)
top_alone p (r ∷ challenges) level size = top_alone p challenges (up p level r) (length-up p r level (2 ^ length challenges) (half_of (length level) (length challenges) size))
