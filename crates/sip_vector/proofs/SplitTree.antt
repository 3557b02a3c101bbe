-- The split tree: what entrywise sums, zeros and a raised value and weight make of its top.
use Rattle.std.proofs.Common.{◌≡◌, ℕ, zero, suc, ◌+◌, ◌*◌, ◌/◌, ◌%◌, ◌^◌, ◌<◌, ◌==◌, if◌then◌else◌, Bool, true, false, ℤ, pos, ◌+ℤ◌, ◌-ℤ◌, List, [], ◌∷◌, ◌++◌, length, get_or, set, map, replicate, refl, sym, ◌∙◌, ap, arith}
use Rattle.std.specs.List.{zip}
use Rattle.std.proofs.Math.Nat.{mod-mod, zero-mod}
use Rattle.std.proofs.lemmas.Int.{ints}
use Rattle.std.proofs.lemmas.List.{length-set}
use Rattle.std.proofs.lemmas.Nat.{mul-mod_first, mul-mod_second}
use Rattle.sip_field.specs.Residue.{residue}
use Rattle.sip_vector.specs.Lines.{added_numbers}
use Rattle.sip_vector.specs.Splits.{absolute, weights, split_leaf, splittop, splitroot, value_factor, weight_factor}
use Rattle.sip_vector.specs.Streams.{vector}
use Rattle.sip_vector.specs.Trees.{Counted, leaf}
use Rattle.sip_vector.specs.Weights.{raised_numbers, hash_weight, hash_weight_from}
use Rattle.sip_vector.specs.declared.update.Side.{Side}
use Rattle.sip_vector.specs.declared.update.Update.{Update}
use Rattle.sip_vector.proofs.Lines.{vector_joined, joined, joined_nodes, counted_top_added}
use Rattle.sip_vector.proofs.Sides.{length-vector}
use Rattle.sip_vector.proofs.Splits.{weights_joined}
use Rattle.sip_vector.proofs.TreeCounted.{counted_top, raised_node, same_node, top_raise3}
use Rattle.sip_vector.proofs.TreeResidues.{mod_plus, residue_of_sum}
use Rattle.sip_vector.proofs.TreeZeros.{nothing, counted_top_zeros}

abbrev pub leaves : ℕ → List ℤ → List ℤ → List Counted
leaves p values weights = map (λ x. split_leaf p x.0 x.1) (zip values weights)

leaves_long : (p : ℕ) (values weights : List ℤ) → length values ≡ length weights → length (leaves p values weights) ≡ length values
leaves_long p [] weights e = refl
leaves_long p (a ∷ values) [] e = absurd (omega (arith, e))
leaves_long p (a ∷ values) (w ∷ weights) e = ap suc (leaves_long p values weights (omega (arith, e)))

leaves_added : (p : ℕ) (values others weights more : List ℤ) → 0 < p →
    leaves p (added_numbers values others) (added_numbers weights more) ≡ joined_nodes p (leaves p values weights) (leaves p others more)
leaves_added p [] others weights more some = refl
leaves_added p (a ∷ values) [] [] more some = refl
leaves_added p (a ∷ values) [] (w ∷ weights) more some = refl
leaves_added p (a ∷ values) (b ∷ others) [] more some = refl
leaves_added p (a ∷ values) (b ∷ others) (w ∷ weights) [] some = refl
leaves_added p (a ∷ values) (b ∷ others) (w ∷ weights) (v ∷ more) some =
    ap (λ x. x ∷ leaves p (added_numbers values others) (added_numbers weights more)) (same_node _ _ _ _ (residue_of_sum p a b some) refl)
    ∙ ap (λ xs. joined p (split_leaf p a w) (split_leaf p b v) ∷ xs) (leaves_added p values others weights more some)

-- the top over entrywise sums
pub splittop_added : (p : ℕ) (values others weights more : List ℤ) (challenges : List ℕ) → 0 < p →
    length values ≡ length weights → length others ≡ length more → length values ≡ length others →
    splittop p (added_numbers values others) (added_numbers weights more) challenges ≡ joined p (splittop p values weights challenges) (splittop p others more challenges)
splittop_added p values others weights more challenges some one two both =
    ap (λ level. counted_top p level challenges) (leaves_added p values others weights more some)
    ∙ counted_top_added p challenges (leaves p values weights) (leaves p others more) some (leaves_long p values weights one ∙ both ∙ sym (leaves_long p others more two))

-- so the root of two streams, one behind the other, is the sum of both
pub splitroot_joined : (p depth : ℕ) (s t : List Update) (side : Side) (challenges : List ℕ) → 0 < p →
    splitroot p (vector depth (s ++ t) side) (weights depth (s ++ t) side) challenges
    ≡ (splitroot p (vector depth s side) (weights depth s side) challenges + splitroot p (vector depth t side) (weights depth t side) challenges) % p
splitroot_joined p depth s t side challenges some =
    let long : (r : List Update) → length (vector depth r side) ≡ 2 ^ depth = λ r. length-vector depth r side in
    let weighed : (r : List Update) → length (weights depth r side) ≡ 2 ^ depth = λ r. length-vector depth (map absolute r) side in
    ap (λ values. splitroot p values (weights depth (s ++ t) side) challenges) (vector_joined depth s t side)
    ∙ ap (λ ws. splitroot p (added_numbers (vector depth s side) (vector depth t side)) ws challenges) (weights_joined depth s t side)
    ∙ ap (λ (node : Counted). node.hash)
    (splittop_added p (vector depth s side) (vector depth t side) (weights depth s side) (weights depth t side) challenges some
    (long s ∙ sym (weighed s)) (long t ∙ sym (weighed t)) (long s ∙ sym (long t)))

-- the top over zeros
leaves_of_zeros : (p n : ℕ) → leaves p (replicate n (pos 0)) (replicate n (pos 0)) ≡ replicate n nothing
leaves_of_zeros p zero = refl
leaves_of_zeros p (suc n) =
    ap (λ x. x ∷ leaves p (replicate n (pos 0)) (replicate n (pos 0))) (same_node _ _ _ _ (zero-mod p) refl) ∙ ap (λ xs. nothing ∷ xs) (leaves_of_zeros p n)

pub splittop_of_zeros : (p n : ℕ) (challenges : List ℕ) → splittop p (replicate n (pos 0)) (replicate n (pos 0)) challenges ≡ nothing
splittop_of_zeros p n challenges = ap (λ level. counted_top p level challenges) (leaves_of_zeros p n) ∙ counted_top_zeros p n challenges

-- the top over a value and a weight that were raised, where the value's residue is h times the
-- weight's
leaves_set : (p : ℕ) (values weights : List ℤ) (i : ℕ) (a w : ℤ) → length values ≡ length weights → leaves p (set values i a) (set weights i w) ≡ set (leaves p values weights) i (split_leaf p a w)
leaves_set p [] [] i a w e = refl
leaves_set p [] (y ∷ weights) i a w e = absurd (omega (arith, e))
leaves_set p (x ∷ values) [] i a w e = absurd (omega (arith, e))
leaves_set p (x ∷ values) (y ∷ weights) zero a w e = refl
leaves_set p (x ∷ values) (y ∷ weights) (suc i) a w e = ap (λ xs. split_leaf p x y ∷ xs) (leaves_set p values weights i a w (omega (arith, e)))

leaf_at : (p : ℕ) (values weights : List ℤ) (i : ℕ) → length values ≡ length weights → i < length values →
    get_or (leaves p values weights) i (leaf p (pos 0)) ≡ split_leaf p (get_or values i (pos 0)) (get_or weights i (pos 0))
leaf_at p [] weights i e within = absurd (omega (arith, within))
leaf_at p (x ∷ values) [] i e within = absurd (omega (arith, e))
leaf_at p (x ∷ values) (y ∷ weights) zero e within = refl
leaf_at p (x ∷ values) (y ∷ weights) (suc i) e within = leaf_at p values weights i (omega (arith, e)) (omega (arith, within))

raised_alike : (p : ℕ) (values weights : List ℤ) (challenges : List ℕ) (i h : ℕ) (a w : ℤ) → 0 < p →
    length values ≡ 2 ^ length challenges → length weights ≡ 2 ^ length challenges → i < length values → residue p a % p ≡ (residue p w * h) % p →
    splittop p (raised_numbers values i a) (raised_numbers weights i w) challenges ≡ raised_node p (splittop p values weights challenges) (hash_weight_from p h i challenges) w
raised_alike p values weights challenges i h a w some long weighed within alike =
    let even : length values ≡ length weights = long ∙ sym weighed in
    let level : List Counted = leaves p values weights in
    let deep : length level ≡ 2 ^ length challenges = leaves_long p values weights even ∙ long in
    let x : ℤ = get_or values i (pos 0) in
    let y : ℤ = get_or weights i (pos 0) in
    let one : split_leaf p (x +ℤ a) (y +ℤ w) ≡ raised_node p (split_leaf p x y) h w =
    same_node _ _ _ _ (residue_of_sum p x a some ∙ mod_plus p (residue p x) (residue p x) _ _ refl alike) refl in
    ap (λ l. counted_top p l challenges)
    (leaves_set p values weights i (x +ℤ a) (y +ℤ w) even ∙ ap (set level i) (one ∙ ap (λ n. raised_node p n h w) (sym (leaf_at p values weights i even within))))
    ∙ top_raise3 p h w challenges level i some deep (omega (arith, leaves_long p values weights even, within))

-- a number that is raised twice
raised_twice : (numbers : List ℤ) (i : ℕ) (a b : ℤ) → i < length numbers → raised_numbers numbers i (a +ℤ b) ≡ raised_numbers (raised_numbers numbers i a) i b
raised_twice [] i a b within = refl
raised_twice (x ∷ numbers) zero a b within = let same : x +ℤ (a +ℤ b) ≡ x +ℤ a +ℤ b = omega (arith, ints) in ap (λ y. y ∷ numbers) same
raised_twice (x ∷ numbers) (suc i) a b within = ap (λ xs. x ∷ xs) (raised_twice numbers i a b (omega (arith, within)))

-- What levels make of a hash is a line in it: the slope is the factor of a value, and the rest that
-- of a weight.
line_step : (p h r g k rest : ℕ) (right : Bool) → rest % p ≡ ((if right then 0 * r ^ 2 + r ^ 3 else 0 + r) % p * g + k) % p →
    ((if right then h * r ^ 2 + r ^ 3 else h + r) % p * g + k) % p ≡ (h * (((if right then r ^ 2 else 1) * g) % p) + rest) % p
line_step p h r g k rest true is =
    mod_plus p _ _ k k (mul-mod_first (h * r ^ 2 + r ^ 3) g p) refl
    ∙ ap (λ n. n % p) (let same : (h * r ^ 2 + r ^ 3) * g + k ≡ h * (r ^ 2 * g) + ((0 * r ^ 2 + r ^ 3) * g + k) = omega arith in same)
    ∙ sym (mod_plus p _ _ rest _ (mul-mod_second h (r ^ 2 * g) p) (is ∙ mod_plus p _ _ k k (mul-mod_first (0 * r ^ 2 + r ^ 3) g p) refl))
line_step p h r g k rest false is =
    mod_plus p _ _ k k (mul-mod_first (h + r) g p) refl
    ∙ ap (λ n. n % p) (let same : (h + r) * g + k ≡ h * (1 * g) + ((0 + r) * g + k) = omega arith in same)
    ∙ sym (mod_plus p _ _ rest _ (mul-mod_second h (1 * g) p) (is ∙ mod_plus p _ _ k k (mul-mod_first (0 + r) g p) refl))

pub weight_is_line : (p h i : ℕ) (challenges : List ℕ) → hash_weight_from p h i challenges % p ≡ (h * value_factor p i challenges + weight_factor p i challenges) % p
weight_is_line p h i [] = ap (λ n. n % p) (let same : h ≡ h * 1 + 0 = omega arith in same)
weight_is_line p h i (r ∷ challenges) =
    let right : Bool = i % 2 == 1 in
    let first : ℕ = (if right then 0 * r ^ 2 + r ^ 3 else 0 + r) % p in
    weight_is_line p ((if right then h * r ^ 2 + r ^ 3 else h + r) % p) (i / 2) challenges
    ∙ line_step p h r (value_factor p (i / 2) challenges) (weight_factor p (i / 2) challenges) (hash_weight_from p first (i / 2) challenges) right
    (weight_is_line p first (i / 2) challenges)

-- a value and a weight that are raised raise the hash by what was added times their factors, and
-- the count by what was added to the weight
pub splittop_raised : (p : ℕ) (values weights : List ℤ) (challenges : List ℕ) (i : ℕ) (a w : ℤ) → 0 < p →
    length values ≡ 2 ^ length challenges → length weights ≡ 2 ^ length challenges → i < length values →
    splittop p (raised_numbers values i a) (raised_numbers weights i w) challenges
    ≡ (let node : Counted = record {
      hash = ((splittop p values weights challenges).hash + residue p a * value_factor p i challenges + residue p w * weight_factor p i challenges) % p;
      count = (splittop p values weights challenges).count +ℤ w;
    } in node)
splittop_raised p values weights challenges i a w some long weighed within =
    let h : ℕ = hash_weight p i challenges in
    let g : ℕ = value_factor p i challenges in
    let k : ℕ = weight_factor p i challenges in
    let d : ℕ = residue p a in
    let b : ℤ = w -ℤ a in
    let e : ℕ = residue p b in
    let old : ℕ = (splittop p values weights challenges).hash in
    let values_as : a ≡ a +ℤ pos 0 = omega (arith, ints) in
    let weights_as : w ≡ a +ℤ b = omega (arith, ints) in
    let behind : i < length weights = omega (arith, long, weighed, within) in
    let nothing_more : residue p (pos 0) % p ≡ (e * 0) % p = ap (λ n. n % p) (zero-mod p ∙ (let z : 0 ≡ e * 0 = omega arith in z)) in
    let more : residue p w ≡ (d + e) % p = ap (residue p) weights_as ∙ residue_of_sum p a b some in
    let first : h % p ≡ (g + k) % p = weight_is_line p 1 i challenges ∙ ap (λ n. n % p) (let same : 1 * g + k ≡ g + k = omega arith in same) in
    ap (λ x. splittop p (raised_numbers values i x) (raised_numbers weights i w) challenges) values_as
    ∙ ap (λ x. splittop p (raised_numbers values i (a +ℤ pos 0)) (raised_numbers weights i x) challenges) weights_as
    ∙ ap (λ x. splittop p x (raised_numbers weights i (a +ℤ b)) challenges) (raised_twice values i a (pos 0) within)
    ∙ ap (λ x. splittop p (raised_numbers (raised_numbers values i a) i (pos 0)) x challenges) (raised_twice weights i a b behind)
    ∙ raised_alike p (raised_numbers values i a) (raised_numbers weights i a) challenges i 0 (pos 0) b some
    (length-set values i _ ∙ long) (length-set weights i _ ∙ weighed) (omega (arith, length-set values i (get_or values i (pos 0) +ℤ a), within)) nothing_more
    ∙ ap (λ n. raised_node p n k b)
    (raised_alike p values weights challenges i 1 a a some long weighed within (ap (λ n. n % p) (let same : d ≡ d * 1 = omega arith in same)))
    ∙ same_node _ _ _ _
    (mod_plus p _ _ (e * k) (e * k) (mod-mod (old + d * h) p) refl
    ∙ mod_plus p (old + d * h) (old + d * (g + k)) (e * k) (e * k) (mod_plus p old old (d * h) (d * (g + k)) refl (sym (mul-mod_second d h p) ∙ ap (λ n. (d * n) % p) first ∙ mul-mod_second d (g + k) p)) refl
    ∙ ap (λ n. n % p) (let same : old + d * (g + k) + e * k ≡ old + d * g + (d + e) * k = omega arith in same)
    ∙ mod_plus p (old + d * g) (old + d * g) _ _ refl (sym (mul-mod_first (d + e) k p) ∙ ap (λ n. (n * k) % p) (sym more)))
    (omega (arith, ints))
