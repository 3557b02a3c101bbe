-- Entries near each other: one product for what their indices have in common.
use Rattle.std.proofs.Common.{◌≡◌, ℕ, List, [], ◌+◌, ◌-◌, ◌*◌, ◌%◌, ◌<◌, ◌≤◌, length, drop, take, get_or, sym, ap, subst, ◌∙◌, arith}
use Rattle.std.proofs.Math.Nat.{mod-add-mod, add-mod-mod, mod-eq_of_lt}
use Rattle.std.proofs.lemmas.List.{drop-drop, drop-take, take-take, length-drop, length-take-le, get_or-drop, get_or-take}
use Rattle.std.proofs.lemmas.Nat.{mul-mod_first, mul-mod_second}
use Rattle.sip_field.specs.Products.{HasProducts, AreTables}

-- the tables behind the first k are those of the challenges behind their groups
pub tables_above : (p : ℕ) (zero : ℕ → ℕ) (k : ℕ) (seat : List ℕ) (tables : List (List ℕ)) → AreTables p zero seat tables → AreTables p zero (drop (8 * k) seat) (drop k tables)
tables_above p zero k seat tables are g inside =
    let here : k + g < length tables = omega (arith, inside, length-drop k tables) in
    let place : drop (8 * (k + g)) seat ≡ drop (8 * g) (drop (8 * k) seat) =
    ap (λ i. drop i seat) (let same : 8 * (k + g) ≡ 8 * k + 8 * g = omega arith in same) ∙ sym (drop-drop (8 * g) (8 * k) seat) in
    subst (λ cs. HasProducts p zero (take 8 cs) (get_or (drop k tables) g [])) place
    (subst (λ t. HasProducts p zero (take 8 (drop (8 * (k + g)) seat)) t) (sym (get_or-drop k tables g [])) (are (k + g) here))

-- and the first k are those of the challenges of their groups
pub tables_below : (p : ℕ) (zero : ℕ → ℕ) (k : ℕ) (seat : List ℕ) (tables : List (List ℕ)) → k ≤ length tables → AreTables p zero seat tables → AreTables p zero (take (8 * k) seat) (take k tables)
tables_below p zero k seat tables few are g inside =
    let below : g < k = omega (arith, inside, length-take-le k tables few) in
    let left : ℕ = 8 * k - 8 * g in
    let whole : 8 * k ≡ 8 * g + left = omega arith in
    let group : take 8 (drop (8 * g) (take (8 * k) seat)) ≡ take 8 (drop (8 * g) seat) =
    ap (λ n. take 8 (drop (8 * g) (take n seat))) whole ∙ ap (take 8) (drop-take (8 * g) left seat) ∙ take-take 8 left (drop (8 * g) seat) (omega arith) in
    subst (λ cs. HasProducts p zero cs (get_or (take k tables) g [])) (sym group)
    (subst (λ t. HasProducts p zero (take 8 (drop (8 * g) seat)) t) (sym (get_or-take k tables g [] below)) (are g (omega (arith, below, few))))

-- one term more, where a is the product of the low bits, b that of the path, and x has the residue of the term
pub near_more : (p sum near b a r x : ℕ) → x % p ≡ (r * a) % p → (sum + (near + x) * b) % p ≡ ((sum + near * b) % p + (r * ((a * b) % p)) % p) % p
near_more p sum near b a r x is =
    let whole : ℕ = sum + near * b in
    let apart : sum + (near + x) * b ≡ whole + x * b = omega arith in
    let same : r * a * b ≡ r * (a * b) = omega arith in
    let term : (x * b) % p ≡ (r * (a * b)) % p = sym (mul-mod_first x b p) ∙ ap (λ y. (y * b) % p) is ∙ mul-mod_first (r * a) b p ∙ ap (λ y. y % p) same in
    ap (λ y. y % p) apart ∙ sym (add-mod-mod whole (x * b) p) ∙ ap (λ y. (whole + y) % p) term ∙ add-mod-mod whole (r * (a * b)) p
    ∙ sym (ap (λ y. (whole % p + y) % p) (mul-mod_second r (a * b) p) ∙ add-mod-mod (whole % p) (r * (a * b)) p ∙ mod-add-mod whole p (r * (a * b)))

-- the sum where the path is left, at any other path
pub near_left : (p sum near b c : ℕ) → ((sum + (near * b) % p) % p + 0 * c) % p ≡ (sum + near * b) % p
near_left p sum near b c =
    mod-add-mod (sum + (near * b) % p) p (0 * c) ∙ ap (λ x. x % p) (let same : sum + (near * b) % p + 0 * c ≡ sum + (near * b) % p = omega arith in same) ∙ add-mod-mod sum (near * b) p

-- before the first term
pub near_none : (p b : ℕ) → 0 < p → (0 % p + 0 * b) % p ≡ 0 % p
near_none p b some =
    let none : 0 % p ≡ 0 = mod-eq_of_lt some in
    rw none (ap (λ x. x % p) (let same : 0 + 0 * b ≡ 0 = omega arith in same) ∙ none)
