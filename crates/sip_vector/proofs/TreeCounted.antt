-- A raised number raises the hash of each augmented node above it by its weight, and the count by
-- itself.
use Rattle.std.proofs.Common.{◌≡◌, ℕ, zero, suc, ◌+◌, ◌-◌, ◌*◌, ◌/◌, ◌%◌, ◌^◌, ◌<◌, ◌==◌, if◌then◌else◌, ℤ, pos, ◌+ℤ◌, List, [], ◌∷◌, length, get_or, set, map, fold, refl, sym, ◌∙◌, ap, arith}
use Rattle.std.proofs.Math.Nat.{mod-mod, pow-succ'}
use Rattle.std.proofs.lemmas.Nat.{mul-mod_first, mul-mod_second}
use Rattle.std.proofs.lemmas.Int.{ints}
use Rattle.std.proofs.lemmas.List.{map-set, length-map, get_or-map}
use Rattle.sip_field.specs.Residue.{residue}
use Rattle.sip_vector.specs.Trees.{Counted, leaf, parent, up3, augroot}
use Rattle.sip_vector.specs.Weights.{raised_numbers, hash_weight, hash_weight_from}
use Rattle.sip_vector.proofs.TreeResidues.{residue_of_sum, mod_plus}

-- a node without numbers below it, as `augroot` has it
abbrev none : ℕ → Counted
none p = leaf p (pos 0)

-- the node that a level folds to
abbrev pub counted_top : ℕ → List Counted → List ℕ → Counted
counted_top p level challenges = get_or (fold (up3 p) level challenges) 0 (none p)

-- a node over a number that was raised by delta, where h is the number's weight in the node's hash
abbrev pub raised_node : ℕ → Counted → ℕ → ℤ → Counted
raised_node p node h delta = record { hash = (node.hash + residue p delta * h) % p; count = node.count +ℤ delta }

-- its weight in the hash above
abbrev climbed : ℕ → ℕ → ℕ → ℕ → ℕ
climbed p h i r = (if i % 2 == 1 then h * r ^ 2 + r ^ 3 else h + r) % p

abbrev raise : ℕ → List Counted → ℕ → ℕ → ℤ → List Counted
raise p level i h delta = set level i (raised_node p (get_or level i (none p)) h delta)

-- a level is half as long as the one below
pub length-up3 : (p r : ℕ) (level : List Counted) (n : ℕ) → length level ≡ 2 * n → length (up3 p level r) ≡ n
length-up3 p r [] n e = omega arith
length-up3 p r (x ∷ []) n e = absurd (omega arith)
length-up3 p r (x ∷ y ∷ level) n e =
    let rest : length level ≡ 2 * (n - 1) = omega arith in omega (arith, length-up3 p r level (n - 1) rest)

-- nodes with one hash and one count are the same
pub same_node : (h k : ℕ) (a b : ℤ) → h ≡ k → a ≡ b → (let x : Counted = record { hash = h; count = a } in x) ≡ (let y : Counted = record { hash = k; count = b } in y)
same_node h k a b e f = ap (λ n. let x : Counted = record { hash = n; count = a } in x) e ∙ ap (λ z. let x : Counted = record { hash = k; count = z } in x) f

-- the hash above a left node that was raised: e is the residue of what was added
left_hash : (p l a h b r w e : ℕ) →
    ((l + e * w) % p + (a + e) % p * r + h * r ^ 2 + b * r ^ 3) % p ≡ ((l + a * r + h * r ^ 2 + b * r ^ 3) % p + e * ((w + r) % p)) % p
left_hash p l a h b r w e =
    mod_plus p _ _ (b * r ^ 3) _ (mod_plus p _ _ (h * r ^ 2) _ (mod_plus p _ (l + e * w) _ ((a + e) * r) (mod-mod (l + e * w) p) (mul-mod_first (a + e) r p)) refl) refl
    ∙ ap (λ n. n % p) (let same : l + e * w + (a + e) * r + h * r ^ 2 + b * r ^ 3 ≡ l + a * r + h * r ^ 2 + b * r ^ 3 + e * (w + r) = omega arith in same)
    ∙ sym (mod_plus p _ _ _ _ (mod-mod (l + a * r + h * r ^ 2 + b * r ^ 3) p) (mul-mod_second e (w + r) p))

right_hash : (p l a h b r w e : ℕ) →
    (l + a * r + (h + e * w) % p * r ^ 2 + (b + e) % p * r ^ 3) % p ≡ ((l + a * r + h * r ^ 2 + b * r ^ 3) % p + e * ((w * r ^ 2 + r ^ 3) % p)) % p
right_hash p l a h b r w e =
    mod_plus p _ _ _ _ (mod_plus p (l + a * r) _ _ _ refl (mul-mod_first (h + e * w) (r ^ 2) p)) (mul-mod_first (b + e) (r ^ 3) p)
    ∙ ap (λ n. n % p) (let same : l + a * r + (h + e * w) * r ^ 2 + (b + e) * r ^ 3 ≡ l + a * r + h * r ^ 2 + b * r ^ 3 + e * (w * r ^ 2 + r ^ 3) = omega arith in same)
    ∙ sym (mod_plus p _ _ _ _ (mod-mod (l + a * r + h * r ^ 2 + b * r ^ 3) p) (mul-mod_second e (w * r ^ 2 + r ^ 3) p))

parent_left : (p : ℕ) (x y : Counted) (r h : ℕ) (delta : ℤ) → 0 < p → parent p (raised_node p x h delta) y r ≡ raised_node p (parent p x y r) ((h + r) % p) delta
parent_left p x y r h delta some =
    rw (residue_of_sum p x.count delta some)
    (same_node _ _ _ _ (left_hash p x.hash (residue p x.count) y.hash (residue p y.count) r h (residue p delta)) (omega (arith, ints)))

parent_right : (p : ℕ) (x y : Counted) (r h : ℕ) (delta : ℤ) → 0 < p → parent p x (raised_node p y h delta) r ≡ raised_node p (parent p x y r) ((h * r ^ 2 + r ^ 3) % p) delta
parent_right p x y r h delta some =
    rw (residue_of_sum p y.count delta some)
    (same_node _ _ _ _ (right_hash p x.hash (residue p x.count) y.hash (residue p y.count) r h (residue p delta)) (omega (arith, ints)))

raise_up3 : (p r : ℕ) (level : List Counted) (n i h : ℕ) (delta : ℤ) → 0 < p → length level ≡ 2 * n → i < length level →
    up3 p (raise p level i h delta) r ≡ raise p (up3 p level r) (i / 2) (climbed p h i r) delta
raise_up3 p r [] n i h delta some l within = absurd (omega arith)
raise_up3 p r (x ∷ []) n i h delta some l within = absurd (omega arith)
raise_up3 p r (x ∷ y ∷ level) n zero h delta some l within = ap (λ z. z ∷ up3 p level r) (parent_left p x y r h delta some)
raise_up3 p r (x ∷ y ∷ level) n (suc zero) h delta some l within = ap (λ z. z ∷ up3 p level r) (parent_right p x y r h delta some)
raise_up3 p r (x ∷ y ∷ level) n (suc (suc i)) h delta some l within =
    let rest : length level ≡ 2 * (n - 1) = omega arith in
    let inside : i < length level = omega arith in
    let half : suc (suc i) / 2 ≡ suc (i / 2) = omega arith in
    let same : suc (suc i) % 2 ≡ i % 2 = omega arith in
    rw (half, same) (ap (λ xs. parent p x y r ∷ xs) (raise_up3 p r level (n - 1) i h delta some rest inside))

pub top_raise3 : (p h : ℕ) (delta : ℤ) (challenges : List ℕ) (level : List Counted) (i : ℕ) → 0 < p → length level ≡ 2 ^ length challenges → i < length level →
    counted_top p (raise p level i h delta) challenges ≡ raised_node p (counted_top p level challenges) (hash_weight_from p h i challenges) delta
top_raise3 p h delta [] [] i some l within = absurd (omega arith)
top_raise3 p h delta [] (x ∷ level) zero some l within = refl
top_raise3 p h delta [] (x ∷ level) (suc i) some l within = absurd (omega arith)
top_raise3 p h delta (r ∷ challenges) level i some l within =
    let twice : length level ≡ 2 * 2 ^ length challenges = l ∙ pow-succ' 2 (length challenges) in
    let above : length (up3 p level r) ≡ 2 ^ length challenges = length-up3 p r level _ twice in
    let inside : i / 2 < length (up3 p level r) = omega arith in
    rw (raise_up3 p r level _ i h delta some twice within)
    (top_raise3 p (climbed p h i r) delta challenges (up3 p level r) (i / 2) some above inside)

-- an entry raised by a signed number raises the hash by the number times the entry's weight, and
-- the count by the number
pub augroot_raised : (p : ℕ) (numbers : List ℤ) (challenges : List ℕ) (i : ℕ) (delta : ℤ) → 0 < p → length numbers ≡ 2 ^ length challenges → i < length numbers →
    augroot p (raised_numbers numbers i delta) challenges ≡ raised_node p (augroot p numbers challenges) (hash_weight p i challenges) delta
augroot_raised p numbers challenges i delta some l within =
    let level : List Counted = map (leaf p) numbers in
    let long : length level ≡ 2 ^ length challenges = length-map numbers (leaf p) ∙ l in
    let inside : i < length level = omega (arith, length-map numbers (leaf p)) in
    let entry : ℤ = get_or numbers i (pos 0) in
    let at : get_or level i (none p) ≡ leaf p entry = get_or-map (leaf p) numbers i (pos 0) (none p) within in
    let one : leaf p (entry +ℤ delta) ≡ raised_node p (leaf p entry) 1 delta =
    same_node _ _ _ _ (residue_of_sum p entry delta some ∙ ap (λ n. (residue p entry + n) % p) (let e : residue p delta ≡ residue p delta * 1 = omega arith in e)) refl in
    let leaves : map (leaf p) (raised_numbers numbers i delta) ≡ raise p level i 1 delta =
    map-set (leaf p) numbers i _ ∙ ap (set level i) (one ∙ ap (λ x. raised_node p x 1 delta) (sym at)) in
    ap (λ leaf. counted_top p leaf challenges) leaves ∙ top_raise3 p 1 delta challenges level i some long inside
