-- A node of a level is the weighted sum of the entries below it.
use Rattle.std.proofs.Common.{◌≡◌, ℕ, zero, suc, ◌+◌, ◌-◌, ◌*◌, ◌/◌, ◌%◌, ◌^◌, ◌<◌, ◌≤◌, Bool, true, false, not, ltb, leb, ◌==◌, if◌then◌else◌, ℤ, pos, List, [], ◌∷◌, ◌++◌, length, get_or, take, drop, map, fold, filter, inl, inr, All, refl, sym, ap, ◌∙◌, arith}
use Rattle.std.specs.List.{range_with_len, enumerate_from}
use Rattle.std.proofs.Math.Nat.{mod-eq_of_lt, mod-mod, pow-succ', pow-le-pow_right}
use Rattle.std.proofs.lemmas.Bool.{cases_Bool, cases_eq, eq-eqb, ne_eqb}
use Rattle.std.proofs.lemmas.Nat.{pow_pos, shl_below, shl_whole, one_shl}
use Rattle.std.proofs.lemmas.List.{ext_get_or, get_or-map, length-map, take_more, take_all, get_or-drop, get_or-take, length-drop, length-take-le, drop_more}
use Rattle.std.proofs.lemmas.List.Elements.{All-map, All-get_or}
use Rattle.std.proofs.lemmas.List.FromFn.{length-map-range_with_len, get_or-map-range_with_len}
use Rattle.std.proofs.lemmas.List.Sums.{fold-append, sum_by_push}
use Rattle.std.proofs.lemmas.Bool.Decides.{nat_tests}
use Rattle.std.specs.List.Sorted.{IsPartitionPoint, IsNonDecreasingBy}
use Rattle.sip_vector.specs.Answers.{is_zero}
use Rattle.sip_vector.specs.Vectors.{is_nonzero_within, nonzero_within, nonzero}
use Rattle.sip_vector.proofs.Filters.{as_entry, filter-both}
use Rattle.sip_vector.proofs.Finds.{filter-taken, filter-dropped}
use Rattle.sip_subvec.proofs.HonestEntries.{value_stated}
use Rattle.sip_field.specs.Residue.{residue}
use Rattle.sip_field.proofs.Doubling.{low_bit, low_half}
use Rattle.sip_vector.specs.Answers.{is_within}
use Rattle.sip_vector.specs.Trees.{up}
use Rattle.sip_vector.specs.Limits.{most_depth}
use Rattle.sip_vector.specs.Weights.{node_weight, weight_above, weighted_sum}
use Rattle.sip_vector.specs.declared.update.Entry.{Entry}
use Rattle.sip_vector.proofs.TreeResidues.{residue_below, mod_plus}
use Rattle.sip_vector.proofs.TreeUpdates.{length-up}
use Rattle.sip_vector.proofs.TreeSums.{fold_keeps_sum, weighted_sum-cons}
use Rattle.sip_subvec.specs.AcceptsSub.{stated_value, stated_level}
use Rattle.sip_subvec.specs.Checking.{entries_sum}
use Rattle.sip_subvec.specs.Summing.{Rises, level_over, entries_below}
use Rattle.sip_subvec.proofs.StatedEntries.{value-there, within-parts, within-from}
use Rattle.sip_subvec.proofs.StatedSums.{AreRising, level_of_rising}
use Rattle.sip_subvec.proofs.WeightedFolds.{up_below}
use Rattle.sip_subvec.proofs.Windows.{window, up-window}

-- ---- powers of two

twice : (l k : ℕ) → 2 ^ suc l * k ≡ 2 * (2 ^ l * k)
twice l k = ap (λ x. x * k) (pow-succ' 2 l) ∙ (let same : 2 * 2 ^ l * k ≡ 2 * (2 ^ l * k) = omega arith in same)

pub powers : (d a b : ℕ) → d ≡ a + b → 2 ^ d ≡ 2 ^ b * 2 ^ a
powers d a zero is = ap (λ k. 2 ^ k) (let same : d ≡ a = omega (arith, is) in same) ∙ omega arith
powers d a (suc b) is =
    let before = powers (a + b) a b refl in
    let more : d ≡ suc (a + b) = omega (arith, is) in
    ap (λ k. 2 ^ k) more ∙ omega (arith, pow-succ' 2 (a + b), twice b (2 ^ a), before)

-- the first index below a node, and how many there are, as 64 bits hold them
pub record Shifted (height k : ℕ) : Type 0 where
  pub one : 1 * 2 ^ height % 2 ^ 64 ≡ 2 ^ height
  pub first : k * 2 ^ height % 2 ^ 64 ≡ 2 ^ height * k
  pub fits : 2 ^ height * k + 2 ^ height ≤ 2 ^ 49

pub shifted : (height k : ℕ) → height ≤ most_depth → k < 2 ^ (most_depth - height) → Shifted height k
shifted height k deep inside =
    let turned : k * 2 ^ height ≡ 2 ^ height * k = omega arith in
    let all : most_depth - height + height ≡ most_depth = omega (arith, deep) in
    let below : k * 2 ^ height < 2 ^ (most_depth - height + height) = shl_below k (most_depth - height) height inside in
    let whole : k * 2 ^ height < 2 ^ 48 = rw all at below in
    let most : 2 ^ height ≤ 2 ^ 48 = pow-le-pow_right (let two : 0 < 2 = omega arith in two) deep in
    record {
      one = one_shl height 64 (omega (arith, deep));
      first = shl_whole k (most_depth - height) height 64 inside (omega (arith, all)) ∙ turned;
      fits = omega (arith, whole, most, turned);
    }

-- ---- the part of a level below one node

fold_length : (p : ℕ) (challenges level : List ℕ) (n : ℕ) → length level ≡ 2 ^ length challenges * n → length (fold (up p) level challenges) ≡ n
fold_length p [] level n size = omega (arith, size)
fold_length p (r ∷ challenges) level n size =
    let long : length level ≡ 2 * (2 ^ length challenges * n) = omega (arith, size, twice (length challenges) n) in
    fold_length p challenges (up p level r) n (length-up p r level _ long)

fold_below : (p : ℕ) (challenges level : List ℕ) → 0 < p → All (λ x. x < p) level → All (λ x. x < p) (fold (up p) level challenges)
fold_below p [] level some below = below
fold_below p (r ∷ challenges) level some below = fold_below p challenges (up p level r) some (up_below p r level some)

-- a fold keeps the sum of whole stretches
stretch_sum : (p : ℕ) (challenges : List ℕ) (first n : ℕ) (nodes : List ℕ) → length nodes ≡ 2 ^ length challenges * n
    → weighted_sum p challenges 0 (2 ^ length challenges * first) nodes % p ≡ weighted_sum p [] 0 first (fold (up p) nodes challenges) % p
stretch_sum p [] first n nodes size = ap (λ i. weighted_sum p [] 0 i nodes % p) (let same : 1 * first ≡ first = omega arith in same)
stretch_sum p (r ∷ challenges) first n nodes size =
    let m : ℕ = 2 ^ length challenges in
    let start : 2 ^ suc (length challenges) * first ≡ 2 * (m * first) = twice (length challenges) first in
    let long : length nodes ≡ 2 * (m * n) = omega (arith, size, twice (length challenges) n) in
    ap (λ i. weighted_sum p (r ∷ challenges) 0 i nodes % p) start
    ∙ fold_keeps_sum p (r ∷ challenges) 0 (m * first) (m * n) nodes (omega arith) long
    ∙ stretch_sum p challenges first n (up p nodes r) (length-up p r nodes (m * n) long)

-- the part below one node folds to that node
fold_window : (p : ℕ) (challenges level : List ℕ) (k : ℕ)
    → fold (up p) (window (2 ^ length challenges * k) (2 ^ length challenges * k + (2 ^ length challenges - 1)) level) challenges ≡ window k k (fold (up p) level challenges)
fold_window p [] level k =
    let first : 1 * k ≡ k = omega arith in
    let last : 1 * k + (1 - 1) ≡ k = omega arith in
    ap (λ i. window i (1 * k + (1 - 1)) level) first ∙ ap (λ i. window k i level) last
fold_window p (r ∷ challenges) level k =
    let m : ℕ = 2 ^ length challenges in
    let a : ℕ = m * k in
    let b : ℕ = m * k + (m - 1) in
    let some : 0 < m = pow_pos (length challenges) in
    let first : 2 ^ suc (length challenges) * k ≡ a + a = omega (arith, twice (length challenges) k) in
    let last : 2 ^ suc (length challenges) * k + (2 ^ suc (length challenges) - 1) ≡ b + b + 1 = omega (arith, twice (length challenges) k, pow-succ' 2 (length challenges), some) in
    ap (λ i. fold (up p) (window i (2 ^ suc (length challenges) * k + (2 ^ suc (length challenges) - 1)) level) (r ∷ challenges)) first
    ∙ ap (λ i. fold (up p) (window (a + a) i level) (r ∷ challenges)) last
    ∙ ap (λ nodes. fold (up p) nodes challenges) (up-window p r a b level)
    ∙ fold_window p challenges (up p level r) k

window_one : (xs : List ℕ) (k : ℕ) → k < length xs → window k k xs ≡ get_or xs k 0 ∷ []
window_one xs k inside =
    let one : k + 1 - k ≡ 1 = omega arith in
    ap (λ n. take n (drop k xs)) one ∙ ap (take 1) (drop_more xs k 0 inside)

window_long : (xs : List ℕ) (a m : ℕ) → 0 < m → a + m ≤ length xs → length (window a (a + (m - 1)) xs) ≡ m
window_long xs a m some inside = length-take-le (a + (m - 1) + 1 - a) (drop a xs) (omega (arith, length-drop a xs)) ∙ omega arith

-- a node is the weighted sum of the part below it
node_sum : (p : ℕ) (challenges level : List ℕ) (n k : ℕ) → 0 < p → length level ≡ 2 ^ length challenges * n → k < n → All (λ x. x < p) level
    → get_or (fold (up p) level challenges) k 0 ≡ weighted_sum p challenges 0 (2 ^ length challenges * k) (window (2 ^ length challenges * k) (2 ^ length challenges * k + (2 ^ length challenges - 1)) level) % p
node_sum p challenges level n k some size inside below =
    let m : ℕ = 2 ^ length challenges in
    let a : ℕ = m * k in
    let positive : 0 < m = pow_pos (length challenges) in
    let nodes : List ℕ = window a (a + (m - 1)) level in
    let top : List ℕ = fold (up p) level challenges in
    let high : length top ≡ n = fold_length p challenges level n size in
    let x : ℕ = get_or top k 0 in
    let small : x < p = All-get_or (λ (y : ℕ). y < p) top k 0 (omega arith) (fold_below p challenges level some below) in
    let ends : a + m ≤ length level = node_ends m k n (length level) size inside in
    let long : length nodes ≡ m * 1 = window_long level a m positive ends ∙ omega arith in
    let one : fold (up p) nodes challenges ≡ x ∷ [] = fold_window p challenges level k ∙ window_one top k (omega arith) in
    let alone : weighted_sum p [] 0 k (x ∷ []) ≡ x = weighted_sum-cons p [] 0 k x [] ∙ (let same : x * 1 + 0 ≡ x = omega arith in same) in
    sym (mod-eq_of_lt small) ∙ ap (λ y. y % p) (sym alone) ∙ ap (λ xs. weighted_sum p [] 0 k xs % p) (sym one) ∙ sym (stretch_sum p challenges k 1 nodes long)
  where
    node_ends : (m k n l : ℕ) → l ≡ m * n → k < n → m * k + m ≤ l
    node_ends m k n l size inside =
        let rest : n ≡ k + 1 + (n - k - 1) = omega arith in
        let parts : m * n ≡ m * k + m + m * (n - k - 1) = ap (λ i. m * i) rest ∙ omega arith in
        omega (arith, size, parts)

-- ---- entries within an interval

within_of : (a b : ℕ) → Entry → Bool
within_of a b e = is_within a b e.index

kept-cons : (a b : ℕ) (e : Entry) (es : List Entry) (t : Bool) → is_within a b e.index ≡ t
    → filter (λ e. is_within a b e.index) (e ∷ es) ≡ (if t then e ∷ filter (λ e. is_within a b e.index) es else filter (λ e. is_within a b e.index) es)
kept-cons a b e es t is = ap (λ c. if c then e ∷ filter (λ e. is_within a b e.index) es else filter (λ e. is_within a b e.index) es) is

-- they state the same values there
pub value_kept : (a b : ℕ) (es : List Entry) (i : ℕ) → a ≤ i → i ≤ b → stated_value (filter (λ e. is_within a b e.index) es) i ≡ stated_value es i
value_kept a b [] i low high = refl
value_kept a b (e ∷ es) i low high = elim (cases_Bool (is_within a b e.index)) [
  | inl t ↦ ap (λ xs. stated_value xs i) (kept-cons a b e es true t) ∙ (elim (cases_eq e.index i) [
    | inl here ↦ rw (eq-eqb e.index i here) refl
    | inr other ↦ rw (ne_eqb e.index i other) (value_kept a b es i low high)
  ])
  | inr t ↦
      let other : e.index ≡ i → ⊥ = λ same. (let yes : true ≡ false = sym (within-from a b e.index (omega arith) (omega arith)) ∙ t in cc) in
      ap (λ xs. stated_value xs i) (kept-cons a b e es false t) ∙ value_kept a b es i low high ∙ sym (value-there e es i other)
]

-- and rise within it
kept_rise : (a b m least : ℕ) (es : List Entry) → ((i : ℕ) → least ≤ i → a ≤ i → m ≤ i) → Rises least es → AreRising m b (filter (λ e. is_within a b e.index) es)
kept_rise a b m least [] above rise = tt
kept_rise a b m least (e ∷ es) above rise = elim (cases_Bool (is_within a b e.index)) [
  | inl t ↦
      let w = within-parts a b e.index t in
      rw (kept-cons a b e es true t) (above e.index rise.0 w.0, w.1, kept_rise a b (e.index + 1) (e.index + 1) es (λ i le _. le) rise.1)
  | inr t ↦ rw (kept-cons a b e es false t) (kept_rise a b m (e.index + 1) es (λ i le low. above i (omega (arith, rise.0)) low) rise.1)
]

-- the part of the lowest level is what they state
window_stated : (p n a b : ℕ) (es : List Entry) → a ≤ b → b < n
    → window a b (map (λ i. residue p (stated_value es i)) (range_with_len 0 n)) ≡ stated_level p a b (filter (λ e. is_within a b e.index) es)
window_stated p n a b es order inside =
    let kept : List Entry = filter (λ e. is_within a b e.index) es in
    let m : ℕ = b + 1 - a in
    let all : List ℕ = map (λ i. residue p (stated_value es i)) (range_with_len 0 n) in
    let whole = length-map-range_with_len (λ i. residue p (stated_value es i)) 0 n in
    let long = length-map-range_with_len (λ i. residue p (stated_value kept i)) a m in
    let size = length-take-le m (drop a all) (omega (arith, length-drop a all, whole)) in
    ext_get_or 0 (window a b all) (stated_level p a b kept) (size ∙ sym long) (λ i below.
    let here : i < m = omega (arith, size) in
    get_or-take m (drop a all) i 0 here ∙ get_or-drop a all i 0
    ∙ get_or-map-range_with_len (λ j. residue p (stated_value es j)) 0 n (a + i) (a + i) 0 (omega arith) (omega arith)
    ∙ ap (residue p) (sym (value_kept a b es (a + i) (omega arith) (omega arith)))
    ∙ sym (get_or-map-range_with_len (λ j. residue p (stated_value kept j)) a m i (a + i) 0 here refl))

-- ---- levels over entries

pub level_long : (p depth left : ℕ) (es : List Entry) (challenges : List ℕ) → depth ≡ left + length challenges → length (level_over p depth es challenges) ≡ 2 ^ left
unfolding level_over
level_long p depth left es challenges is =
    let whole : length (map (λ i. residue p (stated_value es i)) (range_with_len 0 (2 ^ depth))) ≡ 2 ^ length challenges * 2 ^ left =
    length-map-range_with_len (λ i. residue p (stated_value es i)) 0 (2 ^ depth) ∙ powers depth left (length challenges) is in
    fold_length p challenges _ (2 ^ left) whole

pub level_more : (p depth : ℕ) (es : List Entry) (challenges : List ℕ) (r : ℕ) → level_over p depth es (challenges ++ r ∷ []) ≡ up p (level_over p depth es challenges) r
unfolding level_over
level_more p depth es challenges r = fold-append (up p) (map (λ i. residue p (stated_value es i)) (range_with_len 0 (2 ^ depth))) challenges (r ∷ [])

-- a node over entries
pub node_over : (p depth left : ℕ) (es : List Entry) (challenges : List ℕ) (k : ℕ) → 0 < p → depth ≡ left + length challenges → k < 2 ^ left → Rises 0 es
    → get_or (level_over p depth es challenges) k 0 ≡ entries_sum p challenges (entries_below (length challenges) k es) % p
unfolding level_over
node_over p depth left es challenges k some is inside rise =
    let m : ℕ = 2 ^ length challenges in
    let a : ℕ = m * k in
    let b : ℕ = a + (m - 1) in
    let positive : 0 < m = pow_pos (length challenges) in
    let numbers : List ℕ = map (λ i. residue p (stated_value es i)) (range_with_len 0 (2 ^ depth)) in
    let whole : 2 ^ depth ≡ m * 2 ^ left = powers depth left (length challenges) is in
    let last : b < 2 ^ depth = last_below m k (2 ^ left) (2 ^ depth) whole inside positive in
    let below : All (λ x. x < p) numbers = All-map (λ (x : ℕ). x < p) (λ i. residue p (stated_value es i)) (range_with_len 0 (2 ^ depth)) (λ j d h. residue_below p _ some) in
    node_sum p challenges numbers (2 ^ left) k some (length-map-range_with_len (λ i. residue p (stated_value es i)) 0 (2 ^ depth) ∙ whole) inside below
    ∙ ap (λ xs. weighted_sum p challenges 0 a xs % p) (window_stated p (2 ^ depth) a b es (omega arith) last)
    ∙ ap (λ s. s % p) (level_of_rising p a b challenges some (entries_below (length challenges) k es) (kept_rise a b a 0 es (λ i _ low. low) rise))
  where
    last_below : (m k n l : ℕ) → l ≡ m * n → k < n → 0 < m → m * k + (m - 1) < l
    last_below m k n l size inside positive =
        let rest : n ≡ k + 1 + (n - k - 1) = omega arith in
        let parts : m * n ≡ m * k + m + m * (n - k - 1) = ap (λ i. m * i) rest ∙ omega arith in
        omega (arith, size, parts)

-- ---- weights by the low bits alone

pub low_weight : (p i : ℕ) (challenges : List ℕ) → node_weight p (i % 2 ^ length challenges) challenges ≡ node_weight p i challenges
low_weight p i [] = refl
low_weight p i (r ∷ challenges) =
    let m : ℕ = 2 ^ length challenges in
    let some : 0 < m = pow_pos (length challenges) in
    rw (pow-succ' 2 (length challenges), low_bit i m some, low_half i m some)
    (ap (λ w. ((if i % 2 == 1 then r else 1) * w) % p) (low_weight p (i / 2) challenges))

-- ---- a vector's entries that are not 0

rises_from : (k least : ℕ) (xs : List ℤ) → least ≤ k → Rises least (filter (λ e. not (is_zero e.value)) (map as_entry (enumerate_from k xs)))
rises_from k least [] le = tt
rises_from k least (x ∷ xs) le = elim (cases_Bool (not (is_zero x))) [
  | inl t ↦ rw t (le, rises_from (k + 1) (k + 1) xs (omega arith))
  | inr t ↦ rw t (rises_from (k + 1) least xs (omega arith))
]

-- they rise
pub nonzero_rises : (numbers : List ℤ) → Rises 0 (nonzero numbers)
nonzero_rises numbers = rises_from 0 0 numbers (omega arith)

all_within : (hi k : ℕ) (xs : List ℤ) → k + length xs ≤ hi + 1
    → filter (is_nonzero_within 0 hi) (map as_entry (enumerate_from k xs)) ≡ filter (λ e. not (is_zero e.value)) (map as_entry (enumerate_from k xs))
all_within hi k [] le = refl
all_within hi k (x ∷ xs) le =
    let inside : is_within 0 hi k ≡ true = within-from 0 hi k (omega arith) (omega arith) in
    let rest = all_within hi (k + 1) xs (omega arith) in
    elim (cases_Bool (not (is_zero x))) [
      | inl t ↦ rw (inside, t) (ap (λ es. as_entry (k, x) ∷ es) rest)
      | inr t ↦ rw (inside, t) rest
    ]

pub nonzero_all : (hi : ℕ) (numbers : List ℤ) → length numbers ≡ hi + 1 → nonzero_within 0 hi numbers ≡ nonzero numbers
nonzero_all hi numbers size = all_within hi 0 numbers (omega arith)

-- without a challenge the level is that of all residues
pub level_begun : (p depth : ℕ) (numbers : List ℤ) → length numbers ≡ 2 ^ depth → level_over p depth (nonzero numbers) [] ≡ map (residue p) numbers
unfolding level_over
level_begun p depth numbers size =
    let es : List Entry = nonzero numbers in
    let n : ℕ = 2 ^ depth in
    let some : 0 < n = pow_pos depth in
    let long = length-map-range_with_len (λ i. residue p (stated_value es i)) 0 n in
    ext_get_or 0 (map (λ i. residue p (stated_value es i)) (range_with_len 0 n)) (map (residue p) numbers) (long ∙ sym size ∙ sym (length-map numbers (residue p))) (λ i below.
    let here : i < n = omega (arith, long) in
    get_or-map-range_with_len (λ j. residue p (stated_value es j)) 0 n i i 0 here (omega arith)
    ∙ ap (residue p) (ap (λ xs. stated_value xs i) (sym (nonzero_all (n - 1) numbers (omega (arith, size, some))))
    ∙ ap (λ j. stated_value (nonzero_within 0 (n - 1) numbers) j) (let same : i ≡ 0 + i = omega arith in same)
    ∙ value_stated 0 (n - 1) 0 numbers i (omega (arith, size)) (omega arith) (omega arith))
    ∙ sym (get_or-map (residue p) numbers i (pos 0) 0 (omega (arith, size))))

-- ---- the stretch of a node, and its sum

least-le : (es : List Entry) (least j : ℕ) (d : Entry) → Rises least es → j < length es → least ≤ (get_or es j d).index
least-le [] least j d rise below = absurd (omega arith)
least-le (e ∷ es) least zero d rise below = rise.0
least-le (e ∷ es) least (suc j) d rise below = omega (arith, rise.0, least-le es (e.index + 1) j d rise.1 (omega arith))

never_falls : (es : List Entry) (least : ℕ) → Rises least es → IsNonDecreasingBy (λ (e : Entry). e.index) es
never_falls [] least rise i j d le below = absurd (omega arith)
never_falls (e ∷ es) least rise zero zero d le below = omega arith
never_falls (e ∷ es) least rise zero (suc j) d le below = omega (arith, least-le es (e.index + 1) j d rise.1 (omega arith))
never_falls (e ∷ es) least rise (suc i) zero d le below = absurd (omega arith)
never_falls (e ∷ es) least rise (suc i) (suc j) d le below = never_falls es (e.index + 1) rise.1 i j d (omega arith) (omega arith)

pub rising_entries : (es : List Entry) → Rises 0 es → IsNonDecreasingBy (λ (e : Entry). e.index) es
rising_entries es rise = never_falls es 0 rise

-- two partition points cut the stretch out
pub stretch_is : (es : List Entry) (first last to from : ℕ) → IsPartitionPoint (λ e. leb e.index last ≡ true) (λ e. leb e.index last ≡ false) es to
    → IsPartitionPoint (λ e. ltb e.index first ≡ true) (λ e. ltb e.index first ≡ false) (take to es) from
    → take (length (take to es) - from) (drop from (take to es)) ≡ filter (λ e. is_within first last e.index) es
stretch_is es first last to from high low =
    take_all (length (take to es) - from) (drop from (take to es)) (omega (arith, length-drop from (take to es)))
    ∙ sym (filter-dropped (λ (e : Entry). leb first e.index) (λ (e : Entry). ltb e.index first) from_below (take to es) from low)
    ∙ ap (filter (λ (e : Entry). leb first e.index)) (sym (filter-taken (λ (e : Entry). leb e.index last) es to high))
    ∙ sym (filter-both (λ (e : Entry). leb first e.index) (λ (e : Entry). leb e.index last) es)
  where
    from_below : (e : Entry) → leb first e.index ≡ not (ltb e.index first)
    from_below e = grind (arith, nat_tests)

-- one entry more
pub one_entry : (p : ℕ) (challenges : List ℕ) (es : List Entry) (k : ℕ) (d : Entry) (sum term new : ℕ) → k < length es
    → sum ≡ entries_sum p challenges (take k es) % p
    → term ≡ (residue p (get_or es k d).value * node_weight p ((get_or es k d).index % 2 ^ length challenges) challenges) % p
    → new ≡ (sum + term) % p
    → new ≡ entries_sum p challenges (take (k + 1) es) % p
one_entry p challenges es k d sum term new inside before weighed is =
    let e : Entry = get_or es k d in
    let more : entries_sum p challenges (take (k + 1) es) ≡ entries_sum p challenges (take k es) + residue p e.value * node_weight p e.index challenges =
    ap (entries_sum p challenges) (take_more es k d inside) ∙ sum_by_push (λ (x : Entry). residue p x.value * weight_above p challenges 0 x.index) (take k es) e in
    let same : term ≡ (residue p e.value * node_weight p e.index challenges) % p = weighed ∙ ap (λ w. (residue p e.value * w) % p) (low_weight p e.index challenges) in
    is ∙ mod_plus p sum (entries_sum p challenges (take k es)) term (residue p e.value * node_weight p e.index challenges) (ap (λ x. x % p) before ∙ mod-mod _ p) (ap (λ x. x % p) same ∙ mod-mod _ p)
    ∙ ap (λ x. x % p) (sym more)
