-- A raised number raises each node above it by its weight.
use Rattle.std.proofs.Common.{◌≡◌, ℕ, zero, suc, ◌+◌, ◌-◌, ◌*◌, ◌/◌, ◌%◌, ◌^◌, ◌<◌, ℤ, pos, List, [], ◌∷◌, length, get_or, set, map, fold, eqb, cond, refl, sym, ◌∙◌, ap, arith}
use Rattle.std.proofs.Math.Nat.{mod-add-mod, pow-succ'}
use Rattle.std.proofs.lemmas.Nat.{mul-mod_second}
use Rattle.std.proofs.lemmas.List.{map-set, length-map, get_or-map}
use Rattle.sip_field.specs.Residue.{residue}
use Rattle.sip_vector.specs.Trees.{up, root}
use Rattle.sip_vector.specs.Weights.{raised_numbers, node_weight}
use Rattle.sip_vector.proofs.TreeResidues.{residue_of_sum, mod_plus}

-- the number that a level of residues folds to
abbrev pub top : ℕ → List ℕ → List ℕ → ℕ
top p level challenges = get_or (fold (up p) level challenges) 0 0

-- how a pair counts its left or its right number
abbrev pub factor : ℕ → ℕ → ℕ
factor i r = cond (eqb (i % 2) 1) r 1

-- a level with the residue e added to one of its numbers
abbrev pub raise : ℕ → List ℕ → ℕ → ℕ → List ℕ
raise p level i e = set level i ((get_or level i 0 + e) % p)

-- a level is half as long as the one below
pub length-up : (p r : ℕ) (level : List ℕ) (n : ℕ) → length level ≡ 2 * n → length (up p level r) ≡ n
length-up p r [] n e = omega arith
length-up p r (u ∷ []) n e = absurd (omega arith)
length-up p r (u ∷ w ∷ level) n e =
    let rest : length level ≡ 2 * (n - 1) = omega arith in omega (arith, length-up p r level (n - 1) rest)

left_raised : (p u w r e : ℕ) → ((u + e) % p + r * w) % p ≡ ((u + r * w) % p + e * 1) % p
left_raised p u w r e = simp mod-add-mod (ap (λ n. n % p) (omega arith))

right_raised : (p u w r e : ℕ) → (u + r * ((w + e) % p)) % p ≡ ((u + r * w) % p + e * r) % p
right_raised p u w r e =
    mod_plus p u u _ _ refl (mul-mod_second r (w + e) p)
    ∙ ap (λ n. n % p) (let same : u + r * (w + e) ≡ u + r * w + e * r = omega arith in same) ∙ sym (mod-add-mod (u + r * w) p (e * r))

raise_up : (p r : ℕ) (level : List ℕ) (n i e : ℕ) → length level ≡ 2 * n → i < length level →
    up p (raise p level i e) r ≡ raise p (up p level r) (i / 2) (e * factor i r)
raise_up p r [] n i e l h = absurd (omega arith)
raise_up p r (u ∷ []) n i e l h = absurd (omega arith)
raise_up p r (u ∷ w ∷ level) n zero e l h = ap (λ x. x ∷ up p level r) (left_raised p u w r e)
raise_up p r (u ∷ w ∷ level) n (suc zero) e l h = ap (λ x. x ∷ up p level r) (right_raised p u w r e)
raise_up p r (u ∷ w ∷ level) n (suc (suc i)) e l h =
    let rest : length level ≡ 2 * (n - 1) = omega arith in
    let within : i < length level = omega arith in
    let half : suc (suc i) / 2 ≡ suc (i / 2) = omega arith in
    let same : suc (suc i) % 2 ≡ i % 2 = omega arith in
    rw (half, same) (ap (λ xs. ((u + r * w) % p) ∷ xs) (raise_up p r level (n - 1) i e rest within))

-- a product of three, in the order in which a weight is made
weighted : (p a e f w : ℕ) → (a + e * f * w) % p ≡ (a + e * ((f * w) % p)) % p
weighted p a e f w = mod_plus p a a _ _ refl (ap (λ n. n % p) (let same : e * f * w ≡ e * (f * w) = omega arith in same) ∙ sym (mul-mod_second e (f * w) p))

pub top_raise : (p e : ℕ) (challenges level : List ℕ) (i : ℕ) → length level ≡ 2 ^ length challenges → i < length level →
    top p (raise p level i e) challenges ≡ (top p level challenges + e * node_weight p i challenges) % p
top_raise p e [] [] i l h = absurd (omega arith)
top_raise p e [] (x ∷ level) zero l h = ap (λ n. (x + n) % p) (let k : e ≡ e * 1 = omega arith in k)
top_raise p e [] (x ∷ level) (suc i) l h = absurd (omega arith)
top_raise p e (r ∷ challenges) level i l h =
    let twice : length level ≡ 2 * 2 ^ length challenges = l ∙ pow-succ' 2 (length challenges) in
    let above : length (up p level r) ≡ 2 ^ length challenges = length-up p r level _ twice in
    let within : i / 2 < length (up p level r) = omega arith in
    rw (raise_up p r level _ i e twice h)
    (top_raise p (e * factor i r) challenges (up p level r) (i / 2) above within
    ∙ weighted p (top p (up p level r) challenges) e (factor i r) (node_weight p (i / 2) challenges))

-- the residues of numbers, one of them raised by a signed number, are the residues of the numbers
-- with its residue added to that one
pub residues_raised : (p : ℕ) (numbers : List ℤ) (i : ℕ) (delta : ℤ) → 0 < p → i < length numbers →
    map (residue p) (raised_numbers numbers i delta) ≡ raise p (map (residue p) numbers) i (residue p delta)
residues_raised p numbers i delta some h =
    let at : get_or (map (residue p) numbers) i 0 ≡ residue p (get_or numbers i (pos 0)) = get_or-map (residue p) numbers i (pos 0) 0 h in
    map-set (residue p) numbers i _
    ∙ ap (set (map (residue p) numbers) i) (residue_of_sum p _ delta some ∙ ap (λ n. (n + residue p delta) % p) (sym at))

-- an entry raised by a signed number raises the root by the number times the entry's weight
pub root_raised : (p : ℕ) (numbers : List ℤ) (challenges : List ℕ) (i : ℕ) (delta : ℤ) → 0 < p → length numbers ≡ 2 ^ length challenges → i < length numbers →
    root p (raised_numbers numbers i delta) challenges ≡ (root p numbers challenges + residue p delta * node_weight p i challenges) % p
root_raised p numbers challenges i delta some l h =
    let level : List ℕ = map (residue p) numbers in
    let long : length level ≡ 2 ^ length challenges = length-map numbers (residue p) ∙ l in
    let within : i < length level = omega (arith, length-map numbers (residue p)) in
    ap (λ leaf. top p leaf challenges) (residues_raised p numbers i delta some h) ∙ top_raise p (residue p delta) challenges level i long within
