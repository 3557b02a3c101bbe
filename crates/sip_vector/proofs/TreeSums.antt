-- The root is the sum of a level's nodes, each times its weight.
use Rattle.std.proofs.Common.{◌≡◌, ℕ, zero, suc, ◌+◌, ◌-◌, ◌*◌, ◌/◌, ◌%◌, ◌^◌, ◌<◌, ◌≤◌, ℤ, List, [], ◌∷◌, ◌++◌, length, get_or, take, drop, map, fold, refl, sym, ◌∙◌, ap, arith}
use Rattle.std.specs.List.{sum_by, enumerate_from}
use Rattle.std.proofs.Math.Nat.{mod-lt, mod-eq_of_lt, pow-succ'}
use Rattle.std.proofs.lemmas.Nat.{mul-mod_first, mul-mod_second}
use Rattle.std.proofs.lemmas.List.{length-map, length-drop, length-take-le, take-append-drop, drop_more}
use Rattle.std.proofs.lemmas.List.Sums.{sum_by-cons, fold-append}
use Rattle.sip_field.specs.Residue.{residue}
use Rattle.sip_vector.specs.Trees.{up, tree, root}
use Rattle.sip_vector.specs.Weights.{node_weight, weight_above, weighted_sum}
use Rattle.sip_vector.proofs.TreeResidues.{residue_below, mod_plus}
use Rattle.sip_vector.proofs.TreeUpdates.{top, length-up}

-- the numbers from this index on, each times its weight
abbrev sum_from : ℕ → List ℕ → ℕ → List ℕ → ℕ
sum_from p challenges i level = sum_by (λ x. x.1 * node_weight p x.0 challenges) (enumerate_from i level)

sum_from-cons : (p i u : ℕ) (challenges level : List ℕ) → sum_from p challenges i (u ∷ level) ≡ u * node_weight p i challenges + sum_from p challenges (i + 1) level
sum_from-cons p i u challenges level = sum_by-cons (λ (x : ℕ × ℕ). x.1 * node_weight p x.0 challenges) (i, u) (enumerate_from (i + 1) level)

-- the weights of a pair
even_weight : (p r a : ℕ) (challenges : List ℕ) → node_weight p (2 * a) (r ∷ challenges) ≡ (1 * node_weight p a challenges) % p
even_weight p r a challenges =
    let even : 2 * a % 2 ≡ 0 = omega arith in let half : 2 * a / 2 ≡ a = omega arith in rw (even, half)

odd_weight : (p r a : ℕ) (challenges : List ℕ) → node_weight p (2 * a + 1) (r ∷ challenges) ≡ (r * node_weight p a challenges) % p
odd_weight p r a challenges =
    let odd : (2 * a + 1) % 2 ≡ 1 = omega arith in let half : (2 * a + 1) / 2 ≡ a = omega arith in rw (odd, half)

-- a pair's two terms are the term of the node above
pair_term : (p u w r n x y s t : ℕ) → x ≡ (1 * n) % p → y ≡ (r * n) % p → s % p ≡ t % p → (u * x + (w * y + s)) % p ≡ ((u + r * w) % p * n + t) % p
pair_term p u w r n x y s t left right e =
    rw (left, right) (mod_plus p _ _ _ _ (mul-mod_second u (1 * n) p) (mod_plus p _ _ s t (mul-mod_second w (r * n) p) e))
    ∙ ap (λ k. k % p) (let same : u * (1 * n) + (w * (r * n) + t) ≡ (u + r * w) * n + t = omega arith in same)
    ∙ sym (mod_plus p _ _ t t (mul-mod_first (u + r * w) n p) refl)

sum_up : (p r a : ℕ) (challenges level : List ℕ) (n : ℕ) → length level ≡ 2 * n →
    sum_from p (r ∷ challenges) (2 * a) level % p ≡ sum_from p challenges a (up p level r) % p
sum_up p r a challenges [] n e = refl
sum_up p r a challenges (u ∷ []) n e = absurd (omega arith)
sum_up p r a challenges (u ∷ w ∷ level) n e =
    let rest : length level ≡ 2 * (n - 1) = omega arith in
    let next : 2 * a + 1 + 1 ≡ 2 * (a + 1) = omega arith in
    let others : sum_from p (r ∷ challenges) (2 * a + 1 + 1) level % p ≡ sum_from p challenges (a + 1) (up p level r) % p =
    ap (λ i. sum_from p (r ∷ challenges) i level % p) next ∙ sum_up p r (a + 1) challenges level (n - 1) rest in
    ap (λ k. k % p) (sum_from-cons p (2 * a) u (r ∷ challenges) (w ∷ level)
    ∙ ap (λ k. u * node_weight p (2 * a) (r ∷ challenges) + k) (sum_from-cons p (2 * a + 1) w (r ∷ challenges) level))
    ∙ pair_term p u w r (node_weight p a challenges) _ _ _ _ (even_weight p r a challenges) (odd_weight p r a challenges) others
    ∙ ap (λ k. k % p) (sym (sum_from-cons p a ((u + r * w) % p) challenges (up p level r)))

top_sum : (p : ℕ) (challenges level : List ℕ) → length level ≡ 2 ^ length challenges → top p level challenges % p ≡ sum_from p challenges 0 level % p
top_sum p [] [] e = absurd (omega arith)
top_sum p [] (x ∷ []) e = ap (λ k. k % p) (let same : x ≡ 0 + x * 1 = omega arith in same)
top_sum p [] (x ∷ y ∷ level) e = absurd (omega arith)
top_sum p (r ∷ challenges) level e =
    let twice : length level ≡ 2 * 2 ^ length challenges = e ∙ pow-succ' 2 (length challenges) in
    top_sum p challenges (up p level r) (length-up p r level _ twice) ∙ sym (sum_up p r 0 challenges level _ twice)

-- nodes are residues
up_below : (p r : ℕ) (level : List ℕ) (k : ℕ) → 0 < p → get_or (up p level r) k 0 < p
up_below p r [] k some = some
up_below p r (u ∷ []) k some = some
up_below p r (u ∷ w ∷ level) zero some = mod-lt _ some
up_below p r (u ∷ w ∷ level) (suc k) some = up_below p r level k some

top_below : (p : ℕ) (challenges level : List ℕ) → 0 < p → get_or level 0 0 < p → top p level challenges < p
top_below p [] level some h = h
top_below p (r ∷ challenges) level some h = top_below p challenges (up p level r) some (up_below p r level 0 some)

residues_below : (p : ℕ) (numbers : List ℤ) → 0 < p → get_or (map (residue p) numbers) 0 0 < p
residues_below p [] some = some
residues_below p (x ∷ numbers) some = residue_below p x some

pub root_below : (p : ℕ) (numbers : List ℤ) (challenges : List ℕ) → 0 < p → root p numbers challenges < p
root_below p numbers challenges some = top_below p challenges (map (residue p) numbers) some (residues_below p numbers some)

-- the length of a level
fold_length : (p : ℕ) (below level : List ℕ) (m : ℕ) → length level ≡ 2 ^ (length below + m) → length (fold (up p) level below) ≡ 2 ^ m
fold_length p [] level m e = rw e (ap (λ k. 2 ^ k) (let same : 0 + m ≡ m = omega arith in same))
fold_length p (r ∷ below) level m e =
    let more : suc (length below) + m ≡ suc (length below + m) = omega arith in
    let twice : length level ≡ 2 * 2 ^ (length below + m) = e ∙ ap (λ k. 2 ^ k) more ∙ pow-succ' 2 (length below + m) in
    fold_length p below (up p level r) m (length-up p r level _ twice)

pub length-tree : (p : ℕ) (numbers : List ℤ) (challenges : List ℕ) (level : ℕ) → length numbers ≡ 2 ^ length challenges → level ≤ length challenges →
    length (tree p numbers (take level challenges)) ≡ 2 ^ (length challenges - level)
length-tree p numbers challenges level l h =
    let parts : length challenges ≡ length (take level challenges) + (length challenges - level) = omega (arith, length-take-le level challenges h) in
    fold_length p (take level challenges) (map (residue p) numbers) (length challenges - level) (length-map numbers (residue p) ∙ l ∙ ap (λ k. 2 ^ k) parts)

-- the root is the sum of a level's nodes, each times its weight
pub root_is_sum : (p : ℕ) (numbers : List ℤ) (challenges : List ℕ) (level : ℕ) → 0 < p → length numbers ≡ 2 ^ length challenges → level ≤ length challenges →
    root p numbers challenges ≡ weighted_sum p challenges level 0 (tree p numbers (take level challenges)) % p
root_is_sum p numbers challenges level some l h =
    let nodes : List ℕ = tree p numbers (take level challenges) in
    let size : length nodes ≡ 2 ^ length (drop level challenges) = length-tree p numbers challenges level l h ∙ ap (λ k. 2 ^ k) (sym (length-drop level challenges)) in
    let split : root p numbers challenges ≡ top p nodes (drop level challenges) =
    ap (λ rs. root p numbers rs) (sym (take-append-drop level challenges)) ∙ ap (λ xs. get_or xs 0 0) (fold-append (up p) (map (residue p) numbers) (take level challenges) (drop level challenges)) in
    sym (mod-eq_of_lt (root_below p numbers challenges some)) ∙ ap (λ k. k % p) split ∙ top_sum p (drop level challenges) nodes size

-- a fold of a stretch that begins at an even index keeps its sum
pub fold_keeps_sum : (p : ℕ) (challenges : List ℕ) (level first n : ℕ) (nodes : List ℕ) → level < length challenges → length nodes ≡ 2 * n →
    weighted_sum p challenges level (2 * first) nodes % p ≡ weighted_sum p challenges (level + 1) first (up p nodes (get_or challenges level 0)) % p
fold_keeps_sum p challenges level first n nodes h e =
    ap (λ rs. sum_from p rs (2 * first) nodes % p) (drop_more challenges level 0 h) ∙ sum_up p (get_or challenges level 0) first (drop (level + 1) challenges) nodes n e

-- one node more at either end
pub weighted_sum-cons : (p : ℕ) (challenges : List ℕ) (level first x : ℕ) (nodes : List ℕ) →
    weighted_sum p challenges level first (x ∷ nodes) ≡ x * weight_above p challenges level first + weighted_sum p challenges level (first + 1) nodes
weighted_sum-cons p challenges level first x nodes = sum_from-cons p first x (drop level challenges) nodes

pub weighted_sum_push : (p : ℕ) (challenges : List ℕ) (level first : ℕ) (nodes : List ℕ) (x : ℕ) →
    weighted_sum p challenges level first (nodes ++ x ∷ []) ≡ weighted_sum p challenges level first nodes + x * weight_above p challenges level (first + length nodes)
weighted_sum_push p challenges level first [] x =
    weighted_sum-cons p challenges level first x [] ∙ ap (λ i. x * weight_above p challenges level i + 0) (let same : first ≡ first + 0 = omega arith in same) ∙ omega arith
weighted_sum_push p challenges level first (y ∷ nodes) x =
    let next : first + 1 + length nodes ≡ first + suc (length nodes) = omega arith in
    let more : weighted_sum p challenges level (first + 1) (nodes ++ x ∷ []) ≡ weighted_sum p challenges level (first + 1) nodes + x * weight_above p challenges level (first + suc (length nodes)) =
    weighted_sum_push p challenges level (first + 1) nodes x ∙ ap (λ i. weighted_sum p challenges level (first + 1) nodes + x * weight_above p challenges level i) next in
    let front : weighted_sum p challenges level first (y ∷ nodes) ≡ y * weight_above p challenges level first + weighted_sum p challenges level (first + 1) nodes =
    weighted_sum-cons p challenges level first y nodes in
    weighted_sum-cons p challenges level first y (nodes ++ x ∷ []) ∙ ap (λ s. y * weight_above p challenges level first + s) more ∙ omega (arith, front)
