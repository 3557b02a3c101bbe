-- The true levels of numbers of which none is negative: the augmented tree, as hashes and counts by index.
use Rattle.std.proofs.Common.{◌≡◌, ℕ, zero, suc, ◌+◌, ◌-◌, ◌*◌, ◌%◌, ◌^◌, ℤ, pos, negsuc, ◌≤ℤ◌, nat_abs, List, [], ◌∷◌, length, map, fold, get_or, refl, ap, sym, ◌∙◌, arith}
use Rattle.std.specs.List.{All, AllByRecursion}
use Rattle.std.proofs.Math.Nat.{pow-succ', zero-mod}
use Rattle.std.proofs.lemmas.Int.{ints}
use Rattle.std.proofs.lemmas.List.{length-map}
use Rattle.std.proofs.lemmas.List.Elements.{recursion_from_All}
use Rattle.sip_vector.specs.Streams.{int_sum}
use Rattle.sip_vector.specs.Trees.{Counted, leaf, parent, up3, augroot}
use Rattle.sip_vector.proofs.TreeCounted.{length-up3}
use Rattle.sip_heavy.specs.Counting.{top_of}
use Rattle.sip_heavy.specs.Protocol.{count_of}
use Rattle.sip_heavy.specs.TrueNodes.{Spot, spot_above, level_above}
use Rattle.sip_heavy.proofs.AcceptedLevels.{level_after}

abbrev pub spot_of : Counted → Spot
spot_of c = (c.hash, nat_abs c.count)

-- what stands at an index of a level
abbrev pub true_level : ℕ → List Counted → ℕ → Spot
true_level p level i = spot_of (get_or level i (leaf p (pos 0)))

-- a count is not negative
abbrev pub IsCount : Counted → Type 0
IsCount c = (n : ℕ) × (c.count ≡ pos n)

abbrev pub AreCounts : List Counted → Type 0
AreCounts = AllByRecursion IsCount

-- ---- one level

spot_of_parent : (p r : ℕ) (l h : Counted) → IsCount l → IsCount h → spot_of (parent p l h r) ≡ spot_above p r (spot_of l) (spot_of h)
spot_of_parent p r l h a b = rw (a.1, b.1) refl

counts_above : (p r : ℕ) (level : List Counted) → AreCounts level → AreCounts (up3 p level r)
counts_above p r [] all = tt
counts_above p r (l ∷ []) all = tt
counts_above p r (l ∷ h ∷ level) all = ((all.0.0 + all.1.0.0, rw (all.0.1, all.1.0.1) refl), counts_above p r level all.1.1)

-- where nothing stands, nothing is above
nothing_above : (p r : ℕ) → spot_of (leaf p (pos 0)) ≡ spot_above p r (spot_of (leaf p (pos 0))) (spot_of (leaf p (pos 0)))
nothing_above p r =
    let none : 0 % p ≡ 0 = zero-mod p in
    let sum : 0 ≡ 0 + 0 * r + 0 * r ^ 2 + 0 * r ^ 3 = omega arith in
    rw none (ap (λ (k : ℕ). let s : Spot = (k, 0) in s) (sym none ∙ ap (λ k. k % p) sum))

true_above : (p r n : ℕ) (level : List Counted) → length level ≡ 2 * n → AreCounts level → (i : ℕ) → level_above p r (true_level p level) i ≡ true_level p (up3 p level r) i
true_above p r n [] long all i = sym (nothing_above p r)
true_above p r n (l ∷ []) long all i = absurd (omega arith)
true_above p r n (l ∷ h ∷ level) long all zero = sym (spot_of_parent p r l h all.0 all.1.0)
true_above p r n (l ∷ h ∷ level) long all (suc i) =
    let left : 2 * suc i ≡ suc (suc (2 * i)) = omega arith in
    let right : 2 * suc i + 1 ≡ suc (suc (2 * i + 1)) = omega arith in
    rw (right, left) (true_above p r (n - 1) level (omega arith) all.1.1 i)

-- ---- all levels

after_same : (p : ℕ) (v : List ℕ) (f g : ℕ → Spot) → ((i : ℕ) → f i ≡ g i) → (i : ℕ) → level_after p v f i ≡ level_after p v g i
after_same p [] f g same i = same i
after_same p (x ∷ v) f g same i =
    after_same p v (level_above p x f) (level_above p x g)
    (λ m. ap (λ s. spot_above p x s (f (2 * m + 1))) (same (2 * m)) ∙ ap (λ s. spot_above p x (g (2 * m)) s) (same (2 * m + 1))) i

top_after : (p : ℕ) (v : List ℕ) (level : List Counted) → length level ≡ 2 ^ length v → AreCounts level → level_after p v (true_level p level) 0 ≡ true_level p (fold (up3 p) level v) 0
top_after p [] level long all = refl
top_after p (x ∷ v) level long all =
    let twice : length level ≡ 2 * 2 ^ length v = long ∙ pow-succ' 2 (length v) in
    after_same p v (level_above p x (true_level p level)) (true_level p (up3 p level x)) (true_above p x (2 ^ length v) level twice all) 0
    ∙ top_after p v (up3 p level x) (length-up3 p x level (2 ^ length v) twice) (counts_above p x level all)

-- ---- the total

counts_of : List Counted → List ℤ
counts_of level = map (λ c. c.count) level

sum_above : (p r n : ℕ) (level : List Counted) → length level ≡ 2 * n → int_sum (counts_of (up3 p level r)) ≡ int_sum (counts_of level)
unfolding counts_of
sum_above p r n [] long = refl
sum_above p r n (l ∷ []) long = absurd (omega arith)
sum_above p r n (l ∷ h ∷ level) long = omega (arith, ints, sum_above p r (n - 1) level (omega arith))

top_sum : (p : ℕ) (v : List ℕ) (level : List Counted) → length level ≡ 2 ^ length v → (get_or (fold (up3 p) level v) 0 (leaf p (pos 0))).count ≡ int_sum (counts_of level)
unfolding counts_of
top_sum p [] [] long = absurd (omega arith)
top_sum p [] (c ∷ []) long = omega (arith, ints)
top_sum p [] (c ∷ d ∷ level) long = absurd (omega arith)
top_sum p (x ∷ v) level long =
    let twice : length level ≡ 2 * 2 ^ length v = long ∙ pow-succ' 2 (length v) in
    top_sum p v (up3 p level x) (length-up3 p x level (2 ^ length v) twice) ∙ sum_above p x (2 ^ length v) level twice

counts_of_leaves : (p : ℕ) (numbers : List ℤ) → counts_of (map (leaf p) numbers) ≡ numbers
unfolding counts_of
counts_of_leaves p [] = refl
counts_of_leaves p (a ∷ numbers) = ap (λ xs. a ∷ xs) (counts_of_leaves p numbers)

leaves_count : (p : ℕ) (numbers : List ℤ) → AllByRecursion (λ a. pos 0 ≤ℤ a) numbers → AreCounts (map (leaf p) numbers)
leaves_count p [] all = tt
leaves_count p (pos n ∷ numbers) all = ((n, refl), leaves_count p numbers all.1)
leaves_count p (negsuc n ∷ numbers) all = absurd (omega (arith, ints, all.0))

-- where none is negative, the sum isn't
pub sum_positive : (numbers : List ℤ) → AllByRecursion (λ a. pos 0 ≤ℤ a) numbers → pos 0 ≤ℤ int_sum numbers
sum_positive [] all = omega (arith, ints)
sum_positive (a ∷ numbers) all = omega (arith, ints, all.0, sum_positive numbers all.1)

count_positive : (z : ℤ) → pos 0 ≤ℤ z → nat_abs z ≡ count_of z
count_positive (pos n) at_least = refl
count_positive (negsuc n) at_least = absurd (omega (arith, ints, at_least))

pub count_is_sum : (numbers : List ℤ) → All (λ a. pos 0 ≤ℤ a) numbers → nat_abs (int_sum numbers) ≡ count_of (int_sum numbers)
count_is_sum numbers strict = count_positive (int_sum numbers) (sum_positive numbers (recursion_from_All (λ a. pos 0 ≤ℤ a) numbers strict))

-- the count of an augmented root is the sum of the numbers
pub root_counts_all : (p : ℕ) (numbers : List ℤ) (v : List ℕ) → length numbers ≡ 2 ^ length v → (augroot p numbers v).count ≡ int_sum numbers
root_counts_all p numbers v long = top_sum p v (map (leaf p) numbers) (length-map numbers (leaf p) ∙ long) ∙ ap int_sum (counts_of_leaves p numbers)

-- leaves that count have no sum below 0
counts_positive : (level : List Counted) → AreCounts level → AllByRecursion (λ a. pos 0 ≤ℤ a) (counts_of level)
unfolding counts_of
counts_positive [] all = tt
counts_positive (c ∷ level) all = (rw all.0.1 (omega (arith, ints)), counts_positive level all.1)

-- the sum of all counts
abbrev pub sum_of : List Counted → ℕ
sum_of leaves = count_of (int_sum (map (λ c. c.count) leaves))

count_is : (z : ℤ) → pos 0 ≤ℤ z → (n : ℕ) × (z ≡ pos n)
count_is (pos n) least = (n, refl)
count_is (negsuc n) least = absurd (omega (arith, ints, least))

pub sum_is : (leaves : List Counted) → AreCounts leaves → (n : ℕ) × (int_sum (map (λ c. c.count) leaves) ≡ pos n)
unfolding counts_of
sum_is leaves are = count_is (int_sum (counts_of leaves)) (sum_positive (counts_of leaves) (counts_positive leaves are))

-- of leaves that count numbers
pub sum_of_counts : (p : ℕ) (numbers : List ℤ) → sum_of (map (leaf p) numbers) ≡ count_of (int_sum numbers)
unfolding counts_of
sum_of_counts p numbers = ap (λ zs. count_of (int_sum zs)) (counts_of_leaves p numbers)

module _ (p : ℕ) (leaves : List Counted) (v : List ℕ) (long : length leaves ≡ 2 ^ length v) (are : AreCounts leaves) where
  at_top : level_after p v (true_level p leaves) 0 ≡ spot_of (top_of p leaves v)
  at_top = top_after p v leaves long are

  -- the top has the root's hash and the sum of all counts
  pub top_hash : (level_after p v (true_level p leaves) 0).0 ≡ (top_of p leaves v).hash
  top_hash = ap (λ (s : Spot). s.0) at_top

  pub top_count : (level_after p v (true_level p leaves) 0).1 ≡ sum_of leaves
  unfolding counts_of
  top_count = ap (λ (s : Spot). s.1) at_top ∙ ap nat_abs (top_sum p v leaves long) ∙ count_positive (int_sum (counts_of leaves)) (sum_positive (counts_of leaves) (counts_positive leaves are))
