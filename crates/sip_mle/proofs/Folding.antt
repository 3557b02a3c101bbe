-- A list folded by one challenge has the same extension at the others.
use Rattle.std.proofs.Common.{◌≡◌, ℕ, zero, suc, ◌+◌, ◌-◌, ◌*◌, ◌/◌, ◌%◌, ◌^◌, ◌<◌, ◌≤◌, ℤ, List, [], ◌∷◌, length, get_or, drop, map, fold, refl, sym, ◌∙◌, ap, arith}
use Rattle.std.proofs.Math.Nat.{mod-lt, mod-eq_of_lt, pow-succ', add-mul-mod_self_left}
use Rattle.std.proofs.lemmas.Nat.{mul-mod_first, mul-mod_second}
use Rattle.std.proofs.lemmas.List.{length-map, drop_more}
use Rattle.std.proofs.lemmas.List.Elements.{All-map}
use Rattle.std.specs.List.{All}
use Rattle.sip_field.specs.Residue.{residue, difference_mod}
use Rattle.sip_vector.specs.Extensions.{chi, ext, line}
use Rattle.sip_vector.proofs.TreeResidues.{mod_plus, residue_below}
use Rattle.sip_mle.proofs.Weighing.{weigh, ext_is}

-- numbers below p
abbrev pub Residues : ℕ → List ℕ → Type 0
Residues p = All (λ x. x < p)

tail_below : (p x : ℕ) (xs : List ℕ) → Residues p (x ∷ xs) → Residues p xs
tail_below p x xs h k d lt = h (suc k) d (omega arith)

head_below : (p x : ℕ) (xs : List ℕ) → Residues p (x ∷ xs) → x < p
head_below p x xs h = h 0 0 (omega arith)

-- folded lists are half as long
pub length-line : (p r : ℕ) (level : List ℕ) (n : ℕ) → length level ≡ 2 * n → length (line p level r) ≡ n
length-line p r [] n e = omega arith
length-line p r (u ∷ []) n e = absurd (omega arith)
length-line p r (u ∷ w ∷ level) n e =
    let rest : length level ≡ 2 * (n - 1) = omega arith in omega (arith, length-line p r level (n - 1) rest)

-- an entry is made of a pair
pub line_at : (p r : ℕ) (level : List ℕ) (k : ℕ) → k * 2 + 1 < length level →
    get_or (line p level r) k 0 ≡ (get_or level (k * 2) 0 + r * difference_mod p (get_or level (k * 2 + 1) 0) (get_or level (k * 2) 0)) % p
line_at p r [] k h = absurd (omega arith)
line_at p r (u ∷ []) k h = absurd (omega arith)
line_at p r (u ∷ w ∷ level) zero h = refl
line_at p r (u ∷ w ∷ level) (suc k) h =
    let rest : k * 2 + 1 < length level = omega arith in
    let left : suc k * 2 ≡ suc (suc (k * 2)) = omega arith in
    let right : suc (suc (k * 2)) + 1 ≡ suc (suc (k * 2 + 1)) = omega arith in
    rw (left, right) (line_at p r level k rest)

-- and is a residue
pub line_below : (p r : ℕ) (level : List ℕ) → 0 < p → Residues p (line p level r)
line_below p r [] some k d h = absurd (omega arith)
line_below p r (u ∷ []) some k d h = absurd (omega arith)
line_below p r (u ∷ w ∷ level) some zero d h = mod-lt _ some
line_below p r (u ∷ w ∷ level) some (suc k) d h = line_below p r level some k d (omega arith)

-- the same number up to multiples of p, on both sides of a fold
multiples : (p u u' w r r' c : ℕ) → p ≡ u + u' → p ≡ r + r' →
    u * ((1 + r') * c) + w * (r * c) + p * (r * c) ≡ (u + r * (w + u')) * c + p * (u * c)
multiples p u u' w r r' c of_u of_r =
    omega (arith, ap (λ x. x * (r * c)) of_u, ap (λ x. x * (u * c)) of_r)

-- a pair of entries, times the factors of both, is what the pair becomes times the factor above
fold_pair : (p u w r c : ℕ) → u ≤ p → r ≤ p →
    (u * ((difference_mod p 1 r * c) % p) + w * ((r * c) % p)) % p ≡ (((u + r * difference_mod p w u) % p) * c) % p
fold_pair p u w r c below also =
    let of_u : p ≡ u + (p - u) = omega arith in
    let of_r : p ≡ r + (p - r) = omega arith in
    let left : (u * ((difference_mod p 1 r * c) % p)) % p ≡ (u * ((1 + (p - r)) * c)) % p =
    ap (λ x. (u * x) % p) (mul-mod_first (1 + (p - r)) c p) ∙ mul-mod_second u ((1 + (p - r)) * c) p in
    let right : (w * ((r * c) % p)) % p ≡ (w * (r * c)) % p = mul-mod_second w (r * c) p in
    let above : (u + r * difference_mod p w u) % p ≡ (u + r * (w + (p - u))) % p =
    mod_plus p u u (r * difference_mod p w u) (r * (w + (p - u))) refl (mul-mod_second r (w + (p - u)) p) in
    mod_plus p (u * ((difference_mod p 1 r * c) % p)) (u * ((1 + (p - r)) * c)) (w * ((r * c) % p)) (w * (r * c)) left right
    ∙ sym (add-mul-mod_self_left (u * ((1 + (p - r)) * c) + w * (r * c)) p (r * c))
    ∙ ap (λ x. x % p) (multiples p u (p - u) w r (p - r) c of_u of_r)
    ∙ add-mul-mod_self_left ((u + r * (w + (p - u))) * c) p (u * c)
    ∙ sym (mul-mod_first (u + r * (w + (p - u))) c p) ∙ ap (λ x. (x * c) % p) (sym above)

-- the factors of a pair
even_factor : (p r k : ℕ) (challenges : List ℕ) → chi p (2 * k) (r ∷ challenges) ≡ (difference_mod p 1 r * chi p k challenges) % p
even_factor p r k challenges =
    let bit : (2 * k) % 2 ≡ 0 = omega arith in
    let half : (2 * k) / 2 ≡ k = omega arith in
    rw (bit, half) refl

odd_factor : (p r k : ℕ) (challenges : List ℕ) → chi p (2 * k + 1) (r ∷ challenges) ≡ (r * chi p k challenges) % p
odd_factor p r k challenges =
    let bit : (2 * k + 1) % 2 ≡ 1 = omega arith in
    let half : (2 * k + 1) / 2 ≡ k = omega arith in
    rw (bit, half) refl

pub weigh_line : (p r : ℕ) (challenges level : List ℕ) (n k : ℕ) → r < p → Residues p level → length level ≡ 2 * n →
    weigh p (r ∷ challenges) (2 * k) level % p ≡ weigh p challenges k (line p level r) % p
weigh_line p r challenges [] n k below all e = refl
weigh_line p r challenges (u ∷ []) n k below all e = absurd (omega arith)
weigh_line p r challenges (u ∷ w ∷ level) n k below all e =
    let rest : length level ≡ 2 * (n - 1) = omega arith in
    let more : Residues p level = tail_below p w level (tail_below p u (w ∷ level) all) in
    let first : u < p = head_below p u (w ∷ level) all in
    let c : ℕ = chi p k challenges in
    let next : 2 * k + 1 + 1 ≡ 2 * (k + 1) = omega arith in
    let behind : ℕ = weigh p (r ∷ challenges) (2 * (k + 1)) level in
    let before : ℕ = u * ((difference_mod p 1 r * c) % p) in
    let after : ℕ = w * ((r * c) % p) in
    ap (λ x. (u * x + (w * chi p (2 * k + 1) (r ∷ challenges) + weigh p (r ∷ challenges) (2 * k + 1 + 1) level)) % p) (even_factor p r k challenges)
    ∙ ap (λ x. (before + (w * x + weigh p (r ∷ challenges) (2 * k + 1 + 1) level)) % p) (odd_factor p r k challenges)
    ∙ ap (λ x. (before + (after + weigh p (r ∷ challenges) x level)) % p) next
    ∙ ap (λ x. x % p) (let same : before + (after + behind) ≡ before + after + behind = omega arith in same)
    ∙ mod_plus p (before + after) (((u + r * difference_mod p w u) % p) * c) behind (weigh p challenges (k + 1) (line p level r))
    (fold_pair p u w r c (omega arith) (omega arith)) (weigh_line p r challenges level (n - 1) (k + 1) below more rest)

-- a list of one residue is its own extension
pub weigh_one : (p : ℕ) (level : List ℕ) → Residues p level → length level ≡ 1 → weigh p [] 0 level % p ≡ get_or level 0 0
weigh_one p [] all e = absurd (omega arith)
weigh_one p (x ∷ []) all e =
    ap (λ n. n % p) (let same : x * 1 + 0 ≡ x = omega arith in same) ∙ mod-eq_of_lt (head_below p x [] all)
weigh_one p (x ∷ y ∷ level) all e = absurd (omega arith)

single : (level : List ℕ) → length level ≡ 1 → level ≡ get_or level 0 0 ∷ []
single [] e = absurd (omega arith)
single (x ∷ []) e = refl
single (x ∷ y ∷ level) e = absurd (omega arith)

fold_is : (p : ℕ) (challenges level : List ℕ) → 0 < p → Residues p challenges → Residues p level → length level ≡ 2 ^ length challenges →
    fold (line p) level challenges ≡ (weigh p challenges 0 level % p) ∷ []
fold_is p [] level some rs all e = single level e ∙ ap (λ x. x ∷ []) (sym (weigh_one p level all e))
fold_is p (r ∷ challenges) level some rs all e =
    let twice : length level ≡ 2 * 2 ^ length challenges = e ∙ pow-succ' 2 (length challenges) in
    let above : length (line p level r) ≡ 2 ^ length challenges = length-line p r level _ twice in
    let below : r < p = head_below p r challenges rs in
    fold_is p challenges (line p level r) some (tail_below p r challenges rs) (line_below p r level some) above
    ∙ ap (λ x. x ∷ []) (sym (weigh_line p r challenges level _ 0 below all twice))

pub residues_below : (p : ℕ) (numbers : List ℤ) → 0 < p → Residues p (map (residue p) numbers)
residues_below p numbers some = All-map (λ x. x < p) (residue p) numbers (λ k d h. residue_below p _ some)

-- a list that is folded by one challenge after another becomes its extension
pub fold_is_ext : (p : ℕ) (numbers : List ℤ) (challenges : List ℕ) → 0 < p → Residues p challenges → length numbers ≡ 2 ^ length challenges →
    fold (line p) (map (residue p) numbers) challenges ≡ ext p numbers challenges ∷ []
fold_is_ext p numbers challenges some rs e =
    fold_is p challenges (map (residue p) numbers) some rs (residues_below p numbers some) (length-map numbers (residue p) ∙ e)
    ∙ ap (λ x. x ∷ []) (sym (ext_is p numbers challenges))

-- one challenge more
pub fold_step : (p : ℕ) (seat list new : List ℕ) (k r v : ℕ) → k < length seat → r ≡ get_or seat k 0 → r < p → Residues p list →
    length list ≡ 2 ^ (length seat - k) → new ≡ line p list r → weigh p (drop k seat) 0 list % p ≡ v → weigh p (drop (k + 1) seat) 0 new % p ≡ v
fold_step p seat list new k r v within at below all e is before =
    let more : length seat - k ≡ suc (length seat - k - 1) = omega arith in
    let twice : length list ≡ 2 * 2 ^ (length seat - k - 1) = e ∙ ap (λ n. 2 ^ n) more ∙ pow-succ' 2 (length seat - k - 1) in
    ap (λ l. weigh p (drop (k + 1) seat) 0 l % p) is ∙ sym (weigh_line p r (drop (k + 1) seat) list _ 0 below all twice)
    ∙ ap (λ s. weigh p s 0 list % p) (ap (λ x. x ∷ drop (k + 1) seat) at ∙ sym (drop_more seat k 0 within)) ∙ before
