-- The entries of a level's residues, and of the level above.
use Rattle.std.proofs.Common.{◌≡◌, ℕ, zero, suc, ◌+◌, ◌-◌, ◌*◌, ◌/◌, ◌%◌, ◌^◌, ◌<◌, ◌≤◌, List, [], ◌∷◌, length, get_or, set, replicate, map, ℤ, pos, refl, sym, ap, ◌∙◌, inl, inr, arith}
use Rattle.std.proofs.Math.Nat.{mod-eq_of_lt, add-mul-mod_self_left, pow-succ', one-le-pow}
use Rattle.std.proofs.lemmas.Bool.Decides.{eqb_tells}
use Rattle.std.proofs.lemmas.List.{length-set, get_or-set_same, set-set, map-set}
use Rattle.sip_field.specs.Residue.{residue, difference_mod}
use Rattle.sip_vector.specs.Sparse.{dense, IsSparse}
use Rattle.sip_vector.specs.Extensions.{line}
use Rattle.sip_vector.specs.Trees.{up}
use Rattle.sip_vector.specs.Levels.{level_above, residue_above, before, residues_of, above_one, folded}
use Rattle.sip_vector.specs.declared.level.Rule.{Rule}
use Rattle.sip_vector.specs.declared.level.Rule.TheVariants.{Tree, Line}
use Rattle.sip_vector.proofs.Dense.{set_same, IsSparse-earlier, length-dense, get_or-dense_below}

-- ---- an entry before later ones, left out where it is 0

pub dense-before : (n index x : ℕ) (es : List (ℕ × ℕ)) → IsSparse 0 (suc index) n es → dense 0 n (before index x es) ≡ set (dense 0 n es) index x
unfolding dense
dense-before n index x es h = elim (eqb_tells x 0) [
  | inl t ↦ rw t.0 (rw t.1 (sym (set_same (dense 0 n es) index 0 (get_or-dense_below 0 (suc index) n index es h (omega arith)))))
  | inr t ↦ rw t.0 refl
]

pub IsSparse-before : (least n index x : ℕ) (es : List (ℕ × ℕ)) → least ≤ index → index < n → IsSparse 0 (suc index) n es → IsSparse 0 least n (before index x es)
IsSparse-before least n index x es le below h = elim (eqb_tells x 0) [
  | inl t ↦ rw t.0 (IsSparse-earlier 0 least (suc index) n es (omega arith) h)
  | inr t ↦ rw t.0 (le, below, t.1, h)
]

-- ---- the residues of a vector

pub IsSparse-residues_of : (p least n : ℕ) (es : List (ℕ × ℤ)) → IsSparse (pos 0) least n es → IsSparse 0 least n (residues_of p es)
IsSparse-residues_of p least n [] h = tt
IsSparse-residues_of p least n (e ∷ es) h =
    IsSparse-before least n e.0 (residue p e.1) _ h.0 h.1 (IsSparse-residues_of p (suc e.0) n es h.3)

map-zeros : (p n : ℕ) → 0 < p → map (residue p) (replicate n (pos 0)) ≡ replicate n 0
map-zeros p zero some = refl
map-zeros p (suc n) some = rw (mod-eq_of_lt some) (ap (λ xs. 0 ∷ xs) (map-zeros p n some))

pub dense-residues_of : (p least n : ℕ) (es : List (ℕ × ℤ)) → 0 < p → IsSparse (pos 0) least n es → dense 0 n (residues_of p es) ≡ map (residue p) (dense (pos 0) n es)
unfolding dense
dense-residues_of p least n [] some h = sym (map-zeros p n some)
dense-residues_of p least n (e ∷ es) some h =
    dense-before n e.0 (residue p e.1) _ (IsSparse-residues_of p (suc e.0) n es h.3)
    ∙ ap (λ d. set d e.0 (residue p e.1)) (dense-residues_of p (suc e.0) n es some h.3)
    ∙ sym (map-set (residue p) (dense (pos 0) n es) e.0 e.1)

-- ---- a list of pairs of neighbours, each joined

abbrev pub joined : (ℕ → ℕ → ℕ) → List ℕ → List ℕ
joined join (u ∷ w ∷ level) = join u w ∷ joined join level
joined join (u ∷ []) = []
joined join [] = []

module _ (join : ℕ → ℕ → ℕ) (nothing : join 0 0 ≡ 0) where
  joined-zeros : (n : ℕ) → joined join (replicate (n + n) 0) ≡ replicate n 0
  joined-zeros zero = refl
  joined-zeros (suc n) =
      let twice : suc n + suc n ≡ suc (suc (n + n)) = omega arith in
      rw (twice, nothing) (ap (λ xs. 0 ∷ xs) (joined-zeros n))

  -- a write to a left one, and to a right one
  joined-set_left : (xs : List ℕ) (m x : ℕ) → m + m + 1 < length xs → joined join (set xs (m + m) x) ≡ set (joined join xs) m (join x (get_or xs (m + m + 1) 0))
  joined-set_left [] m x below = absurd (omega arith)
  joined-set_left (u ∷ []) m x below = absurd (omega arith)
  joined-set_left (u ∷ w ∷ xs) zero x below = refl
  joined-set_left (u ∷ w ∷ xs) (suc m) x below =
      let here : suc m + suc m ≡ suc (suc (m + m)) = omega arith in
      let there : suc (suc (m + m)) + 1 ≡ suc (suc (m + m + 1)) = omega arith in
      rw (here, there) (ap (λ t. join u w ∷ t) (joined-set_left xs m x (omega arith)))

  joined-set_right : (xs : List ℕ) (m x : ℕ) → m + m + 1 < length xs → joined join (set xs (m + m + 1) x) ≡ set (joined join xs) m (join (get_or xs (m + m) 0) x)
  joined-set_right [] m x below = absurd (omega arith)
  joined-set_right (u ∷ []) m x below = absurd (omega arith)
  joined-set_right (u ∷ w ∷ xs) zero x below = refl
  joined-set_right (u ∷ w ∷ xs) (suc m) x below =
      let here : suc m + suc m ≡ suc (suc (m + m)) = omega arith in
      let there : suc (suc (m + m)) + 1 ≡ suc (suc (m + m + 1)) = omega arith in
      rw (here, there) (ap (λ t. join u w ∷ t) (joined-set_right xs m x (omega arith)))

  -- one entry before others that lie above other pairs
  joined-one : (n m : ℕ) (e : ℕ × ℕ) (es : List (ℕ × ℕ)) → e.0 / 2 ≡ m → e.0 < n + n → IsSparse 0 (m + m + 2) (n + n) es
      → joined join (dense 0 (n + n) (e ∷ es)) ≡ set (joined join (dense 0 (n + n) es)) m (above_one join e)
  unfolding dense
  joined-one n m e es half below h =
      let xs = dense 0 (n + n) es in
      let len = length-dense 0 (n + n) es in
      let fits : m + m + 1 < length xs = omega arith in
      let left : get_or xs (m + m) 0 ≡ 0 = get_or-dense_below 0 (m + m + 2) (n + n) (m + m) es h (omega arith) in
      let right : get_or xs (m + m + 1) 0 ≡ 0 = get_or-dense_below 0 (m + m + 2) (n + n) (m + m + 1) es h (omega arith) in
      elim (eqb_tells (e.0 % 2) 0) [
        | inl t ↦
            let place : e.0 ≡ m + m = omega (arith, t.1) in
            rw (t.0, place) (joined-set_left xs m e.1 fits ∙ rw right refl)
        | inr t ↦
            let place : e.0 ≡ m + m + 1 = omega (arith, t.1) in
            rw (t.0, place) (joined-set_right xs m e.1 fits ∙ rw left refl)
      ]

  -- two neighbours before others
  joined-two : (n m : ℕ) (e g : ℕ × ℕ) (es : List (ℕ × ℕ)) → e.0 ≡ m + m → g.0 ≡ m + m + 1 → g.0 < n + n
      → joined join (dense 0 (n + n) (e ∷ g ∷ es)) ≡ set (joined join (dense 0 (n + n) es)) m (join e.1 g.1)
  unfolding dense
  joined-two n m e g es left right below =
      let xs = dense 0 (n + n) es in
      let len = length-dense 0 (n + n) es in
      let len_set = length-set xs (m + m + 1) g.1 in
      let read : get_or (set xs (m + m + 1) g.1) (m + m + 1) 0 ≡ g.1 = get_or-set_same xs (m + m + 1) g.1 0 (omega arith) in
      rw (left, right) (joined-set_left (set xs (m + m + 1) g.1) m e.1 (omega arith)
      ∙ rw (read, joined-set_right xs m g.1 (omega arith)) (set-set (joined join xs) m (join (get_or xs (m + m) 0) g.1) (join e.1 g.1)))

  -- what `folded` gives are the entries of the joined list
  pub record Folds (least n : ℕ) (es : List (ℕ × ℕ)) : Type 0 where
    pub same : dense 0 n (folded join es) ≡ joined join (dense 0 (n + n) es)
    pub sparse : IsSparse 0 (least / 2) n (folded join es)

  folds_before : (least n m x : ℕ) (es rest : List (ℕ × ℕ)) → least / 2 ≤ m → m < n → Folds (m + m + 2) n es
      → joined join (dense 0 (n + n) rest) ≡ set (joined join (dense 0 (n + n) es)) m x
      → record { same : dense 0 n (before m x (folded join es)) ≡ joined join (dense 0 (n + n) rest); sparse : IsSparse 0 (least / 2) n (before m x (folded join es)) }
  folds_before least n m x es rest le below h e =
      let later : IsSparse 0 (suc m) n (folded join es) = IsSparse-earlier 0 (suc m) ((m + m + 2) / 2) n (folded join es) (omega arith) h.sparse in
      record {
        same = dense-before n m x (folded join es) later ∙ ap (λ d. set d m x) h.same ∙ sym e;
        sparse = IsSparse-before (least / 2) n m x (folded join es) le below later;
      }

  pub folds : (least n : ℕ) (es : List (ℕ × ℕ)) → IsSparse 0 least (n + n) es → Folds least n es
  unfolding dense
  folds least n [] h = record { same = sym (joined-zeros n); sparse = tt }
  folds least n (e ∷ []) h =
      let m = e.0 / 2 in
      let f = folds_before least n m (above_one join e) [] (e ∷ []) (omega (arith, h.0)) (omega (arith, h.1)) (folds (m + m + 2) n [] tt) (joined-one n m e [] refl h.1 tt) in
      record { same = f.same; sparse = f.sparse }
  folds least n (e ∷ g ∷ es) h = elim (eqb_tells (e.0 / 2) (g.0 / 2)) [
    | inl t ↦
        let m = e.0 / 2 in
        let left : e.0 ≡ m + m = omega (arith, t.1, h.3.0) in
        let right : g.0 ≡ m + m + 1 = omega (arith, t.1, h.3.0) in
        let rest : IsSparse 0 (m + m + 2) (n + n) es = IsSparse-earlier 0 (m + m + 2) (suc g.0) (n + n) es (omega arith) h.3.3 in
        let f = folds_before least n m (join e.1 g.1) es (e ∷ g ∷ es) (omega (arith, h.0)) (omega (arith, h.1)) (folds (m + m + 2) n es rest) (joined-two n m e g es left right h.3.1) in
        record { same = rw t.0 f.same; sparse = rw t.0 f.sparse }
    | inr t ↦
        let m = e.0 / 2 in
        let rest : IsSparse 0 (m + m + 2) (n + n) (g ∷ es) = (omega (arith, t.1, h.3.0), h.3.1, h.3.2, h.3.3) in
        let f = folds_before least n m (above_one join e) (g ∷ es) (e ∷ g ∷ es) (omega (arith, h.0)) (omega (arith, h.1)) (folds (m + m + 2) n (g ∷ es) rest) (joined-one n m e (g ∷ es) refl h.1 rest) in
        record { same = rw t.0 f.same; sparse = rw t.0 f.sparse }
  ]

-- ---- the two rules

up-is : (p r : ℕ) (xs : List ℕ) → up p xs r ≡ joined (residue_above p Tree r) xs
up-is p r [] = refl
up-is p r (u ∷ []) = refl
up-is p r (u ∷ w ∷ xs) = ap (λ t. residue_above p Tree r u w ∷ t) (up-is p r xs)

line-is : (p r : ℕ) (xs : List ℕ) → line p xs r ≡ joined (residue_above p Line r) xs
line-is p r [] = refl
line-is p r (u ∷ []) = refl
line-is p r (u ∷ w ∷ xs) = ap (λ t. residue_above p Line r u w ∷ t) (line-is p r xs)

pub level_above-is : (p : ℕ) (rule : Rule) (r : ℕ) (xs : List ℕ) → level_above p rule r xs ≡ joined (residue_above p rule r) xs
level_above-is p Tree r xs = up-is p r xs
level_above-is p Line r xs = line-is p r xs

-- nothing above two zeros
pub residue_above-zeros : (p : ℕ) (rule : Rule) (r : ℕ) → 0 < p → residue_above p rule r 0 0 ≡ 0
residue_above-zeros p Tree r some =
    let e : 0 + r * 0 ≡ 0 = omega arith in
    rw e (mod-eq_of_lt some)
residue_above-zeros p Line r some =
    let zero_difference : difference_mod p 0 0 ≡ 0 = ap (λ n. n % p) (let e : 0 + (p - 0) ≡ 0 + p * 1 = omega arith in e) ∙ add-mul-mod_self_left 0 p 1 ∙ mod-eq_of_lt some in
    let e : 0 + r * 0 ≡ 0 = omega arith in
    rw zero_difference (rw e (mod-eq_of_lt some))

-- each level has half the entries
pub length-joined : (join : ℕ → ℕ → ℕ) (n : ℕ) (xs : List ℕ) → length xs ≡ n + n → length (joined join xs) ≡ n
length-joined join zero [] e = refl
length-joined join (suc n) [] e = absurd (omega arith)
length-joined join n (u ∷ []) e = absurd (omega arith)
length-joined join zero (u ∷ w ∷ xs) e = absurd (omega arith)
length-joined join (suc n) (u ∷ w ∷ xs) e = ap suc (length-joined join n xs (omega arith))

-- ---- a level by its entries

-- a list of two or more has a fold left
pub folds_left-some : (j : ℕ) → 2 ≤ 2 ^ j → 1 ≤ j
folds_left-some zero two = let e : 2 ^ 0 ≡ 1 = refl in absurd (omega (arith, two, e))
folds_left-some (suc j) two = omega arith

pub folds_left-two : (j : ℕ) → 0 < j → 2 ≤ 2 ^ j
folds_left-two zero some = absurd (omega arith)
folds_left-two (suc j) some =
    let twice : 2 ^ suc j ≡ 2 * 2 ^ j = pow-succ' 2 j in
    let one : 1 ≤ 2 ^ j = one-le-pow j 2 (omega arith) in
    omega arith

-- the entries of the level above, and how many it has
pub record IsAbove (p : ℕ) (rule : Rule) (r j : ℕ) (es : List (ℕ × ℕ)) : Type 0 where
  pub same : dense 0 (2 ^ (j - 1)) (folded (residue_above p rule r) es) ≡ level_above p rule r (dense 0 (2 ^ j) es)
  pub sparse : IsSparse 0 0 (2 ^ (j - 1)) (folded (residue_above p rule r) es)
  pub half : 2 * 2 ^ (j - 1) ≡ 2 ^ j

above_at : (p : ℕ) (rule : Rule) (r j i : ℕ) (es : List (ℕ × ℕ)) → 0 < p → j - 1 ≡ i → 2 ^ j ≡ 2 ^ i + 2 ^ i → IsSparse 0 0 (2 ^ j) es → IsAbove p rule r j es
above_at p rule r j i es some less twice h =
    let join = residue_above p rule r in
    let f = folds join (residue_above-zeros p rule r some) 0 (2 ^ i) es (rw twice at h) in
    record {
      same = rw (less, twice) (f.same ∙ sym (level_above-is p rule r (dense 0 (2 ^ i + 2 ^ i) es)));
      sparse = rw less f.sparse;
      half = rw (less, twice) (omega arith);
    }

pub is_above : (p : ℕ) (rule : Rule) (r j : ℕ) (es : List (ℕ × ℕ)) → 0 < p → 1 ≤ j → IsSparse 0 0 (2 ^ j) es → IsAbove p rule r j es
is_above p rule r zero es some one h = absurd (omega arith)
is_above p rule r (suc i) es some one h = above_at p rule r (suc i) i es some (omega arith) (pow-succ' 2 i ∙ (let e : 2 * 2 ^ i ≡ 2 ^ i + 2 ^ i = omega arith in e)) h
