-- The pairs of neighbours in which the entries of a list stand that are not 0.
use Rattle.std.proofs.Common.{◌≡◌, ◌≢◌, ℕ, zero, suc, ◌+◌, ◌*◌, ◌/◌, ◌%◌, ◌<◌, ◌≤◌, not, ◌&&◌, cond, leb, eqb, List, [], ◌∷◌, length, get_or, filter, refl, ap, ◌∙◌, inl, inr, arith}
use Rattle.std.specs.List.{enumerate_from}
use Rattle.std.proofs.lemmas.Bool.{eq-eqb, ne_eqb}
use Rattle.std.proofs.lemmas.Bool.Decides.{eqb_tells, leb_tells}
use Rattle.sip_vector.specs.Levels.{before}
use Rattle.sip_sums.specs.Pairs.{Neighbours, neighbours, alone, paired, pair_at, Rises}

-- the entries that are not 0 of a list whose first index is i
abbrev pub entries_from : ℕ → List ℕ → List (ℕ × ℕ)
entries_from i xs = filter (λ s. leb 0 s.0 && not (eqb s.1 0)) (enumerate_from i xs)

entries-first : (i x : ℕ) (xs : List ℕ) → entries_from i (x ∷ xs) ≡ before i x (entries_from (i + 1) xs)
entries-first i x xs = elim (leb_tells 0 i) [
  | inl low ↦ elim (eqb_tells x 0) [
    | inl t ↦ rw (low.0, t.0) refl
    | inr t ↦ rw (low.0, t.0) refl
  ]
  | inr high ↦ absurd (omega (arith, high.1))
]

-- the first entry, if there is one, is not before `least`
abbrev BeginsFrom : ℕ → List (ℕ × ℕ) → Type 0
BeginsFrom least [] = Unit {0}
BeginsFrom least (e ∷ es) = least ≤ e.0

begins-earlier : (least later : ℕ) (es : List (ℕ × ℕ)) → least ≤ later → BeginsFrom later es → BeginsFrom least es
begins-earlier least later [] le h = tt
begins-earlier least later (e ∷ es) le h = omega (arith, le, h)

entries-begin : (i : ℕ) (xs : List ℕ) → BeginsFrom i (entries_from i xs)
entries-begin i [] = tt
entries-begin i (x ∷ xs) = elim (eqb_tells x 0) [
  | inl t ↦ rw (entries-first i x xs, t.0) (begins-earlier i (i + 1) (entries_from (i + 1) xs) (omega arith) (entries-begin (i + 1) xs))
  | inr t ↦ rw (entries-first i x xs, t.0) (omega arith)
]

-- a pair before others, left out where both its entries are 0
abbrev pub pair_before : ℕ → ℕ → ℕ → List Neighbours → List Neighbours
pair_before k u w ss = cond (eqb u 0 && eqb w 0) ss (neighbours k u w ∷ ss)

alone-left : (k u : ℕ) → alone (2 * k, u) ≡ neighbours k u 0
alone-left k u =
    let bit : (2 * k) % 2 ≡ 0 = omega arith in
    let half : (2 * k) / 2 ≡ k = omega arith in
    rw (bit, half) refl

alone-right : (k w : ℕ) → alone (2 * k + 1, w) ≡ neighbours k 0 w
alone-right k w =
    let bit : (2 * k + 1) % 2 ≡ 1 = omega arith in
    let half : (2 * k + 1) / 2 ≡ k = omega arith in
    rw (bit, half) refl

-- an entry alone, before others of later pairs
paired-one : (k i x : ℕ) (es : List (ℕ × ℕ)) → i / 2 ≡ k → BeginsFrom (2 * k + 2) es → paired ((i, x) ∷ es) ≡ alone (i, x) ∷ paired es
paired-one k i x [] half later = refl
paired-one k i x (g ∷ es) half later =
    let other : i / 2 ≢ g.0 / 2 = (λ e. absurd (omega (arith, e, half, later))) in
    rw (ne_eqb (i / 2) (g.0 / 2) other) refl

paired-two : (k u w : ℕ) (es : List (ℕ × ℕ)) → paired ((2 * k, u) ∷ (2 * k + 1, w) ∷ es) ≡ neighbours k u w ∷ paired es
paired-two k u w es =
    let half : (2 * k) / 2 ≡ k = omega arith in
    let half_too : (2 * k + 1) / 2 ≡ k = omega arith in
    rw (half, half_too, eq-eqb k k refl) refl

paired-before : (k u w : ℕ) (es : List (ℕ × ℕ)) → BeginsFrom (2 * k + 2) es → paired (before (2 * k) u (before (2 * k + 1) w es)) ≡ pair_before k u w (paired es)
paired-before k u w es later = elim (eqb_tells u 0) [
  | inl t ↦ elim (eqb_tells w 0) [
    | inl v ↦ rw (t.0, v.0) refl
    | inr v ↦ rw (t.0, v.0, t.1) (paired-one k (2 * k + 1) w es (omega arith) later ∙ ap (λ s. s ∷ paired es) (alone-right k w))
  ]
  | inr t ↦ elim (eqb_tells w 0) [
    | inl v ↦ rw (t.0, v.0, v.1) (paired-one k (2 * k) u es (omega arith) later ∙ ap (λ s. s ∷ paired es) (alone-left k u))
    | inr v ↦ rw (t.0, v.0) (paired-two k u w es)
  ]
]

-- the pairs of a list whose first index is 2 * k
abbrev pub pairs_from : ℕ → List ℕ → List Neighbours
pairs_from k xs = paired (entries_from (2 * k) xs)

pub pairs-first : (k u w : ℕ) (xs : List ℕ) → pairs_from k (u ∷ w ∷ xs) ≡ pair_before k u w (pairs_from (k + 1) xs)
pairs-first k u w xs =
    let next : 2 * k + 1 + 1 ≡ 2 * (k + 1) = omega arith in
    let same : 2 * (k + 1) ≡ 2 * k + 2 = omega arith in
    let later : BeginsFrom (2 * k + 2) (entries_from (2 * (k + 1)) xs) = rw (← same) (entries-begin (2 * (k + 1)) xs) in
    ap paired (entries-first (2 * k) u (w ∷ xs) ∙ ap (before (2 * k) u) (entries-first (2 * k + 1) w xs ∙ ap (λ i. before (2 * k + 1) w (entries_from i xs)) next))
    ∙ paired-before k u w (entries_from (2 * (k + 1)) xs) later

pub rises-earlier : (least later n : ℕ) (ss : List Neighbours) → least ≤ later → Rises later n ss → Rises least n ss
rises-earlier least later n [] le h = tt
rises-earlier least later n (s ∷ ss) le h = (omega (arith, le, h.0), h.1, h.2)

later_by_one : (k n : ℕ) (ss : List Neighbours) → Rises (k + 1) n ss → Rises (suc k) n ss
later_by_one k n ss h = let next : k + 1 ≡ suc k = omega arith in rw next at h

rises-before : (k n u w : ℕ) (ss : List Neighbours) → k < n → Rises (suc k) n ss → Rises k n (pair_before k u w ss)
rises-before k n u w ss below h = elim (eqb_tells u 0) [
  | inl t ↦ elim (eqb_tells w 0) [
    | inl v ↦ rw (t.0, v.0) (rises-earlier k (suc k) n ss (omega arith) h)
    | inr v ↦ rw (t.0, v.0) (omega arith, below, h)
  ]
  | inr t ↦ rw t.0 (omega arith, below, h)
]

-- they rise, and lie within the list
pub pairs-rise : (k m n : ℕ) (xs : List ℕ) → length xs ≡ 2 * m → k + m ≡ n → Rises k n (pairs_from k xs)
pairs-rise k m n [] long end = tt
pairs-rise k m n (u ∷ []) long end = absurd (omega (arith, long))
pairs-rise k zero n (u ∷ w ∷ xs) long end = absurd (omega (arith, long))
pairs-rise k (suc m) n (u ∷ w ∷ xs) long end =
    let rest : Rises (k + 1) n (pairs_from (k + 1) xs) = pairs-rise (k + 1) m n xs (omega (arith, long)) (omega (arith, end)) in
    rw (pairs-first k u w xs) (rises-before k n u w (pairs_from (k + 1) xs) (omega (arith, end)) (later_by_one k n (pairs_from (k + 1) xs) rest))

-- ---- the pair at an index

-- there is none before the first one
pub pair_at-earlier : (least n k : ℕ) (ss : List Neighbours) → Rises least n ss → k < least → pair_at ss k ≡ neighbours k 0 0
pair_at-earlier least n k [] h lt = refl
pair_at-earlier least n k (s ∷ ss) h lt =
    let other : s.index ≢ k = (λ e. absurd (omega (arith, e, h.0, lt))) in
    rw (ne_eqb s.index k other) (pair_at-earlier (suc s.index) n k ss h.2 (omega (arith, h.0, lt)))

-- the first one, or one of the others
pub pair_at-here : (s : Neighbours) (ss : List Neighbours) (k : ℕ) → s.index ≡ k → pair_at (s ∷ ss) k ≡ s
pair_at-here s ss k same = rw (eq-eqb s.index k same) refl

pub pair_at-later : (s : Neighbours) (ss : List Neighbours) (k : ℕ) → s.index ≢ k → pair_at (s ∷ ss) k ≡ pair_at ss k
pair_at-later s ss k other = rw (ne_eqb s.index k other) refl

before-here : (k n u w : ℕ) (ss : List Neighbours) → Rises (suc k) n ss → pair_at (pair_before k u w ss) k ≡ neighbours k u w
before-here k n u w ss h = elim (eqb_tells u 0) [
  | inl t ↦ elim (eqb_tells w 0) [
    | inl v ↦ rw (t.0, v.0, t.1, v.1) (pair_at-earlier (suc k) n k ss h (omega arith))
    | inr v ↦ rw (t.0, v.0) (pair_at-here (neighbours k u w) ss k refl)
  ]
  | inr t ↦ rw t.0 (pair_at-here (neighbours k u w) ss k refl)
]

before-later : (k j u w : ℕ) (ss : List Neighbours) → k < j → pair_at (pair_before k u w ss) j ≡ pair_at ss j
before-later k j u w ss lt =
    let other : k ≢ j = (λ e. absurd (omega (arith, e, lt))) in
    elim (eqb_tells u 0) [
      | inl t ↦ elim (eqb_tells w 0) [
        | inl v ↦ rw (t.0, v.0) refl
        | inr v ↦ rw (t.0, v.0) (pair_at-later (neighbours k u w) ss j other)
      ]
      | inr t ↦ rw t.0 (pair_at-later (neighbours k u w) ss j other)
    ]

-- it has the two entries of the list
pub pair_at-pairs : (k m j : ℕ) (xs : List ℕ) → length xs ≡ 2 * m → pair_at (pairs_from k xs) (k + j) ≡ neighbours (k + j) (get_or xs (2 * j) 0) (get_or xs (2 * j + 1) 0)
pair_at-pairs k m j [] long = refl
pair_at-pairs k m j (u ∷ []) long = absurd (omega (arith, long))
pair_at-pairs k zero j (u ∷ w ∷ xs) long = absurd (omega (arith, long))
pair_at-pairs k (suc m) zero (u ∷ w ∷ xs) long =
    let here : k + 0 ≡ k = omega arith in
    let rest : Rises (k + 1) (k + 1 + m) (pairs_from (k + 1) xs) = pairs-rise (k + 1) m (k + 1 + m) xs (omega (arith, long)) refl in
    rw (here, pairs-first k u w xs) (before-here k (k + 1 + m) u w (pairs_from (k + 1) xs) (later_by_one k (k + 1 + m) (pairs_from (k + 1) xs) rest))
pair_at-pairs k (suc m) (suc j) (u ∷ w ∷ xs) long =
    let there : k + suc j ≡ k + 1 + j = omega arith in
    let left : 2 * suc j ≡ suc (suc (2 * j)) = omega arith in
    let right : suc (suc (2 * j)) + 1 ≡ suc (suc (2 * j + 1)) = omega arith in
    rw (there, left, right, pairs-first k u w xs)
    (before-later k (k + 1 + j) u w (pairs_from (k + 1) xs) (omega arith) ∙ pair_at-pairs (k + 1) m j xs (omega (arith, long)))
