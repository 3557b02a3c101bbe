-- A rising list that a test cuts in two: the parts merge to it, and the nodes of one part pass behind those of the other.
use Rattle.std.proofs.Common.{◌≡◌, ◌⊎◌, ℕ, suc, ◌+◌, ◌<◌, ◌≤◌, Bool, true, false, not, ◌==◌, ◌||◌, List, [], ◌∷◌, ◌++◌, length, filter, Ok, refl, sym, ap, ◌∙◌, inl, inr, arith, append_assoc}
use Rattle.std.specs.Prelude.{nat_lt}
use Rattle.std.specs.List.{list_all, list_any}
use Rattle.std.proofs.lemmas.Bool.{and_parts, cases_Bool, ltb-true, lt-ltb, ne_eqb}
use Rattle.std.proofs.lemmas.Bool.Decides.{leb_tells}
use Rattle.std.proofs.lemmas.List.{append-nil}
use Rattle.sip_wire.specs.declared.message.Node.{Node}
use Rattle.sip_heavy.specs.AcceptsHeavy.{HeavyQuestion, most_nodes, width, merged, is_next, with_nodes}
use Rattle.sip_heavy.specs.Rising.{Rises}
use Rattle.sip_heavy.proofs.Shown.{rises_more}

-- ---- a cut list rises

pub filter_rises : (g : Node → Bool) (least n : ℕ) (xs : List Node) → Rises least n xs → Rises least n (filter g xs)
filter_rises g least n [] rises = tt
filter_rises g least n (x ∷ xs) rises = elim (cases_Bool (g x)) [
  | inl t ↦ rw t (rises.0, rises.1, filter_rises g (suc x.index) n xs rises.2)
  | inr t ↦ rw t (rises_more n least (suc x.index) (filter g xs) (omega (arith, rises.0)) (filter_rises g (suc x.index) n xs rises.2))
]

-- ---- the parts merge

pub ltb_tells : (a b : ℕ) → ((nat_lt a b ≡ true) × (a < b)) ⊎ ((nat_lt a b ≡ false) × (b ≤ a))
ltb_tells a b = elim (leb_tells (suc a) b) [
  | inl s ↦ inl (s.0, omega (arith, s.1))
  | inr s ↦ inr (s.0, omega (arith, s.1))
]

not_less : (a b : ℕ) → b < a → nat_lt a b ≡ false
not_less a b less = elim (ltb_tells a b) [ inl s ↦ absurd (omega (arith, s.1, less)) | inr s ↦ s.0 ]

merge_front : (y : Node) (n : ℕ) (known received : List Node) → Rises (suc y.index) n received → merged (y ∷ known) received ≡ y ∷ merged known received
merge_front y n known [] rises = refl
merge_front y n known (x ∷ xs) rises = rw (lt-ltb y.index x.index (omega (arith, rises.0))) refl

merge_next : (x : Node) (n : ℕ) (known received : List Node) → Rises (suc x.index) n known → merged known (x ∷ received) ≡ x ∷ merged known received
merge_next x n [] received rises = refl
merge_next x n (k ∷ known) received rises = rw (not_less k.index x.index (omega (arith, rises.0))) refl

pub merge_back : (f : Node → Bool) (least n : ℕ) (xs : List Node) → Rises least n xs → merged (filter (λ x. not (f x)) xs) (filter f xs) ≡ xs
merge_back f least n [] rises = refl
merge_back f least n (x ∷ xs) rises =
    let others = filter (λ y. not (f y)) xs in
    let kept = filter f xs in
    elim (cases_Bool (f x)) [
      | inl t ↦ rw t (merge_next x n others kept (filter_rises (λ y. not (f y)) (suc x.index) n xs rises.2) ∙ ap (λ ys. x ∷ ys) (merge_back f (suc x.index) n xs rises.2))
      | inr t ↦ rw t (merge_front x n others kept (filter_rises f (suc x.index) n xs rises.2) ∙ ap (λ ys. x ∷ ys) (merge_back f (suc x.index) n xs rises.2))
    ]

pub cut_long : (f : Node → Bool) (xs : List Node) → length (filter (λ x. not (f x)) xs) + length (filter f xs) ≡ length xs
cut_long f [] = refl
cut_long f (x ∷ xs) = let rest = cut_long f xs in elim (cases_Bool (f x)) [
  | inl t ↦ rw t (omega (arith, rest))
  | inr t ↦ rw t (omega (arith, rest))
]

-- ---- no node of one is in the other

-- none of these nodes has the index of a known one
abbrev pub Apart : List Node → List Node → Type 0
Apart known [] = Unit {0}
Apart known (x ∷ xs) = (list_any (λ k. k.index == x.index) known ≡ false) × Apart known xs

none_below : (i least n : ℕ) (xs : List Node) → i < least → Rises least n xs → list_any (λ k. k.index == i) xs ≡ false
none_below i least n [] less rises = refl
none_below i least n (x ∷ xs) less rises =
    rw (ne_eqb x.index i (λ e. absurd (omega (arith, e, less, rises.0)))) (none_below i (suc x.index) n xs (omega (arith, less, rises.0)) rises.2)

apart_more : (y : Node) (least n : ℕ) (known xs : List Node) → y.index < least → Rises least n xs → Apart known xs → Apart (y ∷ known) xs
apart_more y least n known [] less rises apart = tt
apart_more y least n known (x ∷ xs) less rises apart =
    (rw (ne_eqb y.index x.index (λ e. absurd (omega (arith, e, less, rises.0)))) apart.0, apart_more y (suc x.index) n known xs (omega (arith, less, rises.0)) rises.2 apart.1)

pub cut_apart : (f : Node → Bool) (least n : ℕ) (xs : List Node) → Rises least n xs → Apart (filter (λ x. not (f x)) xs) (filter f xs)
cut_apart f least n [] rises = tt
cut_apart f least n (x ∷ xs) rises =
    let others = filter (λ y. not (f y)) xs in
    let kept = filter f xs in
    let rest = cut_apart f (suc x.index) n xs rises.2 in
    elim (cases_Bool (f x)) [
      | inl t ↦ rw t (none_below x.index (suc x.index) n others (omega arith) (filter_rises (λ y. not (f y)) (suc x.index) n xs rises.2), rest)
      | inr t ↦ rw t (apart_more x (suc x.index) n others kept (omega arith) (filter_rises f (suc x.index) n xs rises.2) rest)
    ]

pub cut_passes : (f : Node → Bool) (xs : List Node) → list_all f (filter f xs) ≡ true
cut_passes f [] = refl
cut_passes f (x ∷ xs) = elim (cases_Bool (f x)) [
  | inl t ↦ rw (t, t) (cut_passes f xs)
  | inr t ↦ rw t (cut_passes f xs)
]

-- ---- the tests of the received nodes

all_below : (least i : ℕ) (xs : List Node) → least ≤ i → list_all (λ b. nat_lt b.index least) xs ≡ true → list_all (λ b. nat_lt b.index i) xs ≡ true
all_below least i [] le below = refl
all_below least i (x ∷ xs) le below =
    let parts = and_parts (nat_lt x.index least) (list_all (λ b. nat_lt b.index least) xs) below in
    let less = ltb-true x.index least parts.0 in
    rw (lt-ltb x.index i (omega (arith, less, le))) (all_below least i xs le parts.1)

one_more : (i : ℕ) (x : Node) (xs : List Node) → x.index < i → list_all (λ b. nat_lt b.index i) xs ≡ true → list_all (λ b. nat_lt b.index i) (xs ++ x ∷ []) ≡ true
one_more i x [] less below = rw (lt-ltb x.index i less) refl
one_more i x (y ∷ ys) less below =
    let parts = and_parts (nat_lt y.index i) (list_all (λ b. nat_lt b.index i) ys) below in
    rw parts.0 (one_more i x ys less parts.1)

module _ (q : HeavyQuestion) (level : ℕ) (known : List Node) where
  -- a node above the leaves is light
  abbrev pub is_light : Node → Bool
  is_light x = level == 0 || nat_lt x.count q.at_least

  -- nodes that rise, are light and not known, and are not too many, pass
  pub all_pass : (least : ℕ) (before xs : List Node) → list_all (λ b. nat_lt b.index least) before ≡ true → Rises least (width q level) xs → Apart known xs
      → list_all is_light xs ≡ true → length known + length before + length xs ≤ most_nodes q → with_nodes q level known before xs ≡ Ok (before ++ xs)
  all_pass least before [] below rises apart light few = ap Ok (sym (append-nil before))
  all_pass least before (x ∷ xs) below rises apart light few =
      let here = all_below least x.index before rises.0 below in
      let next : is_next q level known before x.index ≡ true = rw (here, lt-ltb x.index (width q level) rises.1, apart.0) refl in
      let room : nat_lt (length known + length before) (most_nodes q) ≡ true = lt-ltb (length known + length before) (most_nodes q) (omega (arith, few)) in
      let parts = and_parts (is_light x) (list_all is_light xs) light in
      let long : length (before ++ x ∷ []) ≡ length before + 1 = length_more before in
      rw (next, room, parts.0)
      (all_pass (suc x.index) (before ++ x ∷ []) xs (one_more (suc x.index) x before (omega arith) (all_below least (suc x.index) before (omega (arith, rises.0)) below)) rises.2 apart.1 parts.1 (omega (arith, few, long))
      ∙ ap Ok (append_assoc before (x ∷ []) xs))
    where
      length_more : (ys : List Node) → length (ys ++ x ∷ []) ≡ length ys + 1
      length_more [] = refl
      length_more (y ∷ ys) = let rest = length_more ys in omega (arith, rest)
