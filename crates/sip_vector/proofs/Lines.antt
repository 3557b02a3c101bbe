-- What is linear in numbers: vectors of streams, levels of both trees, and their tops.
use Rattle.std.proofs.Common.{◌≡◌, ℕ, suc, ◌+◌, ◌*◌, ◌%◌, ◌^◌, ◌<◌, ℤ, pos, ◌+ℤ◌, List, [], ◌∷◌, ◌++◌, length, map, refl, sym, ◌∙◌, ap, arith}
use Rattle.std.specs.List.{range_with_len, zip}
use Rattle.std.proofs.Math.Nat.{mod-mod, mod-add-mod, add-mod-mod, zero-mod}
use Rattle.std.proofs.lemmas.Nat.{mul-mod_first, mul-mod_second}
use Rattle.std.proofs.lemmas.Int.{ints}
use Rattle.sip_field.specs.Residue.{residue}
use Rattle.sip_vector.specs.Lines.{added_numbers, AddsUp, IsLinear}
use Rattle.sip_vector.specs.Streams.{frequency, vector}
use Rattle.sip_vector.specs.Trees.{Counted, leaf, parent, up, up3, root, augroot}
use Rattle.sip_vector.specs.declared.update.Side.{Side}
use Rattle.sip_vector.specs.declared.update.Update.{Update}
use Rattle.sip_vector.proofs.Sides.{frequency-append, length-vector}
use Rattle.sip_vector.proofs.TreeCounted.{counted_top, same_node}
use Rattle.sip_vector.proofs.TreeResidues.{mod_plus, residue_of_sum}
use Rattle.sip_vector.proofs.TreeUpdates.{top}

-- ---- lists of numbers

pub length-added : (numbers others : List ℤ) → length numbers ≡ length others → length (added_numbers numbers others) ≡ length numbers
length-added [] others e = refl
length-added (a ∷ numbers) [] e = absurd (omega (arith, e))
length-added (a ∷ numbers) (b ∷ others) e = omega (arith, length-added numbers others (omega (arith, e)))

map_added : (f g h : ℕ → ℤ) → ((i : ℕ) → h i ≡ f i +ℤ g i) → (is : List ℕ) → map h is ≡ added_numbers (map f is) (map g is)
map_added f g h e [] = refl
map_added f g h e (i ∷ is) = rw (e i, map_added f g h e is) refl

-- the vector of two streams, one behind the other
pub vector_joined : (depth : ℕ) (s t : List Update) (side : Side) → vector depth (s ++ t) side ≡ added_numbers (vector depth s side) (vector depth t side)
vector_joined depth s t side =
    map_added (frequency s side) (frequency t side) (frequency (s ++ t) side) (frequency-append s t side) (range_with_len 0 (2 ^ depth))

-- so what is linear in the numbers adds up over streams
pub adds_up : (kept : ℕ → List ℤ → List ℕ → ℕ) → IsLinear kept → AddsUp kept
adds_up kept linear p depth s t side challenges some =
    ap (λ numbers. kept p numbers challenges) (vector_joined depth s t side)
    ∙ linear p (vector depth s side) (vector depth t side) challenges some (length-vector depth s side ∙ sym (length-vector depth t side))

-- ---- levels of residues

abbrev pub sums : ℕ → List ℕ → List ℕ → List ℕ
sums p level others = map (λ x. (x.0 + x.1) % p) (zip level others)

pub residues_added : (p : ℕ) (numbers others : List ℤ) → 0 < p → map (residue p) (added_numbers numbers others) ≡ sums p (map (residue p) numbers) (map (residue p) others)
residues_added p [] others some = refl
residues_added p (a ∷ numbers) [] some = refl
residues_added p (a ∷ numbers) (b ∷ others) some =
    ap (λ x. x ∷ map (residue p) (added_numbers numbers others)) (residue_of_sum p a b some)
    ∙ ap (λ xs. ((residue p a + residue p b) % p) ∷ xs) (residues_added p numbers others some)

node_added : (p u x w y r : ℕ) → ((u + x) % p + r * ((w + y) % p)) % p ≡ ((u + r * w) % p + (x + r * y) % p) % p
node_added p u x w y r =
    mod-add-mod (u + x) p (r * ((w + y) % p)) ∙ mod_plus p (u + x) (u + x) _ _ refl (mul-mod_second r (w + y) p)
    ∙ ap (λ n. n % p) (let same : u + x + r * (w + y) ≡ u + r * w + (x + r * y) = omega arith in same)
    ∙ sym (mod-add-mod (u + r * w) p ((x + r * y) % p) ∙ add-mod-mod (u + r * w) (x + r * y) p)

up_added : (p r : ℕ) (level others : List ℕ) → up p (sums p level others) r ≡ sums p (up p level r) (up p others r)
up_added p r [] others = refl
up_added p r (u ∷ []) [] = refl
up_added p r (u ∷ []) (x ∷ others) = refl
up_added p r (u ∷ w ∷ level) [] = refl
up_added p r (u ∷ w ∷ level) (x ∷ []) = refl
up_added p r (u ∷ w ∷ level) (x ∷ y ∷ others) =
    ap (λ n. n ∷ up p (sums p level others) r) (node_added p u x w y r)
    ∙ ap (λ ns. (((u + r * w) % p + (x + r * y) % p) % p) ∷ ns) (up_added p r level others)

up_long : (p r : ℕ) (level others : List ℕ) → length level ≡ length others → length (up p level r) ≡ length (up p others r)
up_long p r [] [] e = refl
up_long p r [] (x ∷ others) e = absurd (omega (arith, e))
up_long p r (u ∷ level) [] e = absurd (omega (arith, e))
up_long p r (u ∷ []) (x ∷ []) e = refl
up_long p r (u ∷ []) (x ∷ y ∷ others) e = absurd (omega (arith, e))
up_long p r (u ∷ w ∷ level) (x ∷ []) e = absurd (omega (arith, e))
up_long p r (u ∷ w ∷ level) (x ∷ y ∷ others) e = ap suc (up_long p r level others (omega (arith, e)))

top_added : (p : ℕ) (challenges level others : List ℕ) → length level ≡ length others
    → top p (sums p level others) challenges ≡ (top p level challenges + top p others challenges) % p
top_added p [] [] [] e = sym (zero-mod p)
top_added p [] [] (x ∷ others) e = absurd (omega (arith, e))
top_added p [] (u ∷ level) [] e = absurd (omega (arith, e))
top_added p [] (u ∷ level) (x ∷ others) e = refl
top_added p (r ∷ challenges) level others e =
    ap (λ l. top p l challenges) (up_added p r level others) ∙ top_added p challenges (up p level r) (up p others r) (up_long p r level others e)

map_long : {Y : Type 0} (f : ℤ → Y) (numbers others : List ℤ) → length numbers ≡ length others → length (map f numbers) ≡ length (map f others)
map_long f [] [] e = refl
map_long f [] (b ∷ others) e = absurd (omega (arith, e))
map_long f (a ∷ numbers) [] e = absurd (omega (arith, e))
map_long f (a ∷ numbers) (b ∷ others) e = ap suc (map_long f numbers others (omega (arith, e)))

-- the root of an entrywise sum
pub root_added : IsLinear root
root_added p numbers others challenges some e =
    ap (λ level. top p level challenges) (residues_added p numbers others some)
    ∙ top_added p challenges (map (residue p) numbers) (map (residue p) others) (map_long (residue p) numbers others e)

-- ---- levels of nodes that count

abbrev pub joined : ℕ → Counted → Counted → Counted
joined p x y = record { hash = (x.hash + y.hash) % p; count = x.count +ℤ y.count }

abbrev pub joined_nodes : ℕ → List Counted → List Counted → List Counted
joined_nodes p level others = map (λ x. joined p x.0 x.1) (zip level others)

hash_added : (p l m a b h k c d r : ℕ) →
    ((l + m) % p + (a + b) % p * r + (h + k) % p * r ^ 2 + (c + d) % p * r ^ 3) % p
    ≡ ((l + a * r + h * r ^ 2 + c * r ^ 3) % p + (m + b * r + k * r ^ 2 + d * r ^ 3) % p) % p
hash_added p l m a b h k c d r =
    let x : ℕ = l + a * r + h * r ^ 2 + c * r ^ 3 in
    let y : ℕ = m + b * r + k * r ^ 2 + d * r ^ 3 in
    mod_plus p _ _ _ _
    (mod_plus p _ _ _ _
    (mod_plus p ((l + m) % p) (l + m) _ _ (mod-mod (l + m) p) (mul-mod_first (a + b) r p))
    (mul-mod_first (h + k) (r ^ 2) p))
    (mul-mod_first (c + d) (r ^ 3) p)
    ∙ ap (λ n. n % p) (let same : l + m + (a + b) * r + (h + k) * r ^ 2 + (c + d) * r ^ 3 ≡ x + y = omega arith in same)
    ∙ sym (mod-add-mod x p (y % p) ∙ add-mod-mod x y p)

parent_added : (p : ℕ) (x y z w : Counted) (r : ℕ) → 0 < p → parent p (joined p x y) (joined p z w) r ≡ joined p (parent p x z r) (parent p y w r)
parent_added p x y z w r some =
    rw (residue_of_sum p x.count y.count some, residue_of_sum p z.count w.count some)
    (same_node _ _ _ _
    (hash_added p x.hash y.hash (residue p x.count) (residue p y.count) z.hash w.hash (residue p z.count) (residue p w.count) r)
    (omega (arith, ints)))

up3_added : (p r : ℕ) (level others : List Counted) → 0 < p → up3 p (joined_nodes p level others) r ≡ joined_nodes p (up3 p level r) (up3 p others r)
up3_added p r [] others some = refl
up3_added p r (x ∷ []) [] some = refl
up3_added p r (x ∷ []) (y ∷ others) some = refl
up3_added p r (x ∷ z ∷ level) [] some = refl
up3_added p r (x ∷ z ∷ level) (y ∷ []) some = refl
up3_added p r (x ∷ z ∷ level) (y ∷ w ∷ others) some =
    ap (λ n. n ∷ up3 p (joined_nodes p level others) r) (parent_added p x y z w r some)
    ∙ ap (λ ns. joined p (parent p x z r) (parent p y w r) ∷ ns) (up3_added p r level others some)

up3_long : (p r : ℕ) (level others : List Counted) → length level ≡ length others → length (up3 p level r) ≡ length (up3 p others r)
up3_long p r [] [] e = refl
up3_long p r [] (y ∷ others) e = absurd (omega (arith, e))
up3_long p r (x ∷ level) [] e = absurd (omega (arith, e))
up3_long p r (x ∷ []) (y ∷ []) e = refl
up3_long p r (x ∷ []) (y ∷ w ∷ others) e = absurd (omega (arith, e))
up3_long p r (x ∷ z ∷ level) (y ∷ []) e = absurd (omega (arith, e))
up3_long p r (x ∷ z ∷ level) (y ∷ w ∷ others) e = ap suc (up3_long p r level others (omega (arith, e)))

-- the top over two levels that are joined node by node
pub counted_top_added : (p : ℕ) (challenges : List ℕ) (level others : List Counted) → 0 < p → length level ≡ length others
    → counted_top p (joined_nodes p level others) challenges ≡ joined p (counted_top p level challenges) (counted_top p others challenges)
counted_top_added p [] [] [] some e =
    let none : residue p (pos 0) ≡ 0 = zero-mod p in
    same_node _ _ _ _ (rw none (sym (zero-mod p))) refl
counted_top_added p [] [] (y ∷ others) some e = absurd (omega (arith, e))
counted_top_added p [] (x ∷ level) [] some e = absurd (omega (arith, e))
counted_top_added p [] (x ∷ level) (y ∷ others) some e = refl
counted_top_added p (r ∷ challenges) level others some e =
    ap (λ l. counted_top p l challenges) (up3_added p r level others some)
    ∙ counted_top_added p challenges (up3 p level r) (up3 p others r) some (up3_long p r level others e)

leaves_added : (p : ℕ) (numbers others : List ℤ) → 0 < p → map (leaf p) (added_numbers numbers others) ≡ joined_nodes p (map (leaf p) numbers) (map (leaf p) others)
leaves_added p [] others some = refl
leaves_added p (a ∷ numbers) [] some = refl
leaves_added p (a ∷ numbers) (b ∷ others) some =
    ap (λ x. x ∷ map (leaf p) (added_numbers numbers others)) (same_node _ _ _ _ (residue_of_sum p a b some) refl)
    ∙ ap (λ xs. joined p (leaf p a) (leaf p b) ∷ xs) (leaves_added p numbers others some)

-- the augmented root of an entrywise sum
pub augroot_added : (p : ℕ) (numbers others : List ℤ) (challenges : List ℕ) → 0 < p → length numbers ≡ length others
    → augroot p (added_numbers numbers others) challenges ≡ joined p (augroot p numbers challenges) (augroot p others challenges)
augroot_added p numbers others challenges some e =
    ap (λ level. counted_top p level challenges) (leaves_added p numbers others some)
    ∙ counted_top_added p challenges (map (leaf p) numbers) (map (leaf p) others) some (map_long (leaf p) numbers others e)
