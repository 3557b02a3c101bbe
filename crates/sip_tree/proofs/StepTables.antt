-- Tables of steps: what levels make of a hash is what the upper ones make of what the lower ones
-- do.
use Rattle.std.proofs.Common.{◌≡◌, ℕ, zero, suc, ◌+◌, ◌-◌, ◌*◌, ◌/◌, ◌%◌, ◌^◌, ◌<◌, ◌≤◌, ◌==◌, if◌then◌else◌, negsuc, List, [], ◌∷◌, length, get_or, take, drop, refl, sym, ◌∙◌, ap, arith}
use Rattle.std.proofs.Math.Nat.{zero-mod, mod-eq_of_lt, pow-succ', div-div-eq-div-mul, div-eq_of_lt, mod-add-mod, add-mod-mod, mod-mod, add-mul-mod_self_left}
use Rattle.std.specs.List.{AllZip}
use Rattle.std.specs.Prelude.{All}
use Rattle.std.proofs.lemmas.List.{drop_more, drop-take}
use Rattle.std.proofs.lemmas.List.Elements.{All-get_or}
use Rattle.std.proofs.lemmas.Nat.{mul-mod_first, mul-mod_second, pow_pos, mod-mul-add, div-mul-add}
use Rattle.sip_field.proofs.Doubling.{low_bit, low_half, take_shorter}
use Rattle.sip_field.proofs.BitProducts.{low_part, eight_more}
use Rattle.sip_field.specs.Residue.{residue, difference_mod}
use Rattle.sip_vector.specs.Weights.{hash_weight_from}
use Rattle.sip_vector.proofs.TreeResidues.{mod_plus, mod_cancel}
use Rattle.sip_tree.specs.Steps.{no_step, start_of, IsStep, IsBelow, AreStepTables}
use Rattle.sip_tree.specs.declared.steps.Step.{Step}
use Rattle.sip_tree.proofs.WeightSteps.{by_powers}

-- an index's low n bits go along the first n challenges, and the others along the others
pub split_hash : (p h i n : ℕ) (rs : List ℕ) →
    hash_weight_from p h i rs ≡ hash_weight_from p (hash_weight_from p h (i % 2 ^ n) (take n rs)) (i / 2 ^ n) (drop n rs)
split_hash p h i zero rs = let whole : i / 2 ^ 0 ≡ i = omega arith in rw whole refl
split_hash p h i (suc n) [] = refl
split_hash p h i (suc n) (r ∷ rs) =
    let more : 2 ^ suc n ≡ 2 * 2 ^ n = pow-succ' 2 n in
    let bit : i % 2 ≡ i % 2 ^ suc n % 2 = sym (ap (λ k. i % k % 2) more ∙ low_bit i (2 ^ n) (pow_pos n)) in
    let half : i / 2 % 2 ^ n ≡ i % 2 ^ suc n / 2 = sym (ap (λ k. i % k / 2) more ∙ low_half i (2 ^ n) (pow_pos n)) in
    let rest : i / 2 / 2 ^ n ≡ i / 2 ^ suc n = div-div-eq-div-mul i 2 (2 ^ n) ∙ ap (λ k. i / k) (sym more) in
    let up : ℕ → ℕ = λ b. (if b == 1 then h * r ^ 2 + r ^ 3 else h + r) % p in
    split_hash p (up (i % 2)) (i / 2) n rs
    ∙ ap (λ b. hash_weight_from p (hash_weight_from p (up b) (i / 2 % 2 ^ n) (take n rs)) (i / 2 / 2 ^ n) (drop n rs)) bit
    ∙ ap (λ x. hash_weight_from p (hash_weight_from p (up (i % 2 ^ suc n % 2)) x (take n rs)) (i / 2 / 2 ^ n) (drop n rs)) half
    ∙ ap (λ x. hash_weight_from p (hash_weight_from p (up (i % 2 ^ suc n % 2)) (i % 2 ^ suc n / 2) (take n rs)) x (drop n rs)) rest

abbrev pub alone : List ℕ → ℕ → List ℕ
alone rs n = take 1 (drop n rs)

-- what a step is split into by the challenge at n
pub record Split (p : ℕ) (rs : List ℕ) (n : ℕ) (whole left right : Step) : Type 0 where
  pub left_is : (h : ℕ) → hash_weight_from p ((h * whole.scale + whole.shift) % p) 0 (alone rs n) ≡ (h * left.scale + left.shift) % p
  pub right_is : (h : ℕ) → hash_weight_from p ((h * whole.scale + whole.shift) % p) 1 (alone rs n) ≡ (h * right.scale + right.shift) % p

pub split_by : (p : ℕ) (rs : List ℕ) (n : ℕ) (whole left right : Step) (r : ℕ) → n < length rs → r ≡ get_or rs n 0 →
    left.scale ≡ whole.scale → left.shift ≡ (whole.shift + r) % p →
    right.scale ≡ (whole.scale * ((r * r) % p)) % p → right.shift ≡ (left.shift * ((r * r) % p)) % p → Split p rs n whole left right
split_by p rs n whole left right r within is ls lt rs' rt =
    let here : alone rs n ≡ get_or rs n 0 ∷ [] = ap (take 1) (drop_more rs n 0 within) in
    let at : get_or rs n 0 ≡ r = sym is in
    let a : ℕ = whole.scale in
    let b : ℕ = whole.shift in
    let q : ℕ = r * r in
    record {
      left_is = λ h.
          let w : ℕ = h * a + b in
          rw (here, at, ls, lt)
          (mod-add-mod w p r ∙ sym (add-mod-mod (h * a) (b + r) p ∙ ap (λ x. x % p) (let same : h * a + (b + r) ≡ h * a + b + r = omega arith in same)));
      right_is = λ h.
          let w : ℕ = h * a + b in
          let first : (h * ((a * (q % p)) % p)) % p ≡ (h * a * q) % p =
          mul-mod_second h (a * (q % p)) p ∙ ap (λ x. x % p) (let same : h * (a * (q % p)) ≡ h * a * (q % p) = omega arith in same) ∙ mul-mod_second (h * a) q p in
          let second : (((b + r) % p * (q % p)) % p) % p ≡ ((b + r) * q) % p =
          mod-mod ((b + r) % p * (q % p)) p ∙ mul-mod_first (b + r) (q % p) p ∙ mul-mod_second (b + r) q p in
          let powers : (w % p * r ^ 2 + r ^ 3) % p ≡ ((w + r) * q) % p =
          ap (λ x. x % p) (sym (by_powers (w % p) r)) ∙ sym (mul-mod_first (w % p + r) q p) ∙ ap (λ x. (x * q) % p) (mod-add-mod w p r) ∙ mul-mod_first (w + r) q p in
          rw (here, at, rs', rt, lt)
          (powers ∙ ap (λ x. x % p) (let same : (h * a + b + r) * q ≡ h * a * q + (b + r) * q = omega arith in same)
          ∙ sym (mod_plus p (h * ((a * (q % p)) % p)) (h * a * q) (((b + r) % p * (q % p)) % p) ((b + r) * q) first second));
    }

module _ (p start e n : ℕ) (rs : List ℕ) (whole left right : Step) (low : e < 2 ^ n) (split : Split p rs n whole left right) (is : IsStep p start (take n rs) e whole) where
  pub left_step : IsStep p start (take (n + 1) rs) e left
  left_step h small =
      let within : e % 2 ^ n ≡ e = mod-eq_of_lt low in
      let none : e / 2 ^ n ≡ 0 = div-eq_of_lt low in
      split_hash p ((start + h) % p) e n (take (n + 1) rs) ∙ rw (within, none, take_shorter n rs, drop-take n 1 rs, is h small) (split.left_is h)

  pub right_step : IsStep p start (take (n + 1) rs) (2 ^ n + e) right
  right_step h small =
      let turned : 2 ^ n + e ≡ 1 * 2 ^ n + e = omega arith in
      let within : (2 ^ n + e) % 2 ^ n ≡ e = ap (λ x. x % 2 ^ n) turned ∙ mod-mul-add 1 (2 ^ n) e low in
      let one : (2 ^ n + e) / 2 ^ n ≡ 1 = ap (λ x. x / 2 ^ n) turned ∙ div-mul-add 1 (2 ^ n) e low in
      split_hash p ((start + h) % p) (2 ^ n + e) n (take (n + 1) rs) ∙ rw (within, one, take_shorter n rs, drop-take n 1 rs, is h small) (split.right_is h)

-- what a read of the tables gives is below the modulus
pub below_step : (p : ℕ) (tables : List (List Step)) (k e : ℕ) → k < length tables → e < length (get_or tables k []) → All (All (IsBelow p)) tables →
    IsBelow p (get_or (get_or tables k []) e no_step)
below_step p tables k e here low all =
    All-get_or (IsBelow p) (get_or tables k []) e no_step low (All-get_or (All (IsBelow p)) tables k [] here all)

-- of the hash below another table than the first one nothing is known
pub later_start : (k : ℕ) → 1 ≤ k → start_of k ≡ 0
later_start zero later = absurd (let no : ⊥ = omega (arith, later) in no)
later_start (suc k) later = refl

-- the first table, where the hash below is h more than 1
pub first_table : (p index h : ℕ) (seat : List ℕ) (tables : List (List Step)) (v : ℕ) → AreStepTables p seat tables → 0 < length tables → h < p →
    index < 2 ^ length seat →
    v ≡ (h * (get_or (get_or tables 0 []) (index % 256) no_step).scale + (get_or (get_or tables 0 []) (index % 256) no_step).shift) % p →
    hash_weight_from p v (index / 256) (drop 8 seat) ≡ hash_weight_from p ((1 + h) % p) index seat
first_table p index h seat tables v are within small inside made =
    let entry : hash_weight_from p ((1 + h) % p) (index % 256) (take 8 seat) ≡ v =
    are 0 within (index % 256) (low_part 8 index seat inside) h small ∙ sym made in
    ap (λ x. hash_weight_from p x (index / 256) (drop 8 seat)) (sym entry) ∙ sym (split_hash p ((1 + h) % p) index 8 seat)

-- where it is 1
pub first_step_table : (p index : ℕ) (seat : List ℕ) (tables : List (List Step)) → 1 < p → AreStepTables p seat tables → 0 < length tables →
    (get_or (get_or tables 0 []) (index % 256) no_step).shift < p → index < 2 ^ length seat →
    hash_weight_from p (get_or (get_or tables 0 []) (index % 256) no_step).shift (index / 256) (drop 8 seat) ≡ hash_weight_from p 1 index seat
first_step_table p index seat tables above are within small inside =
    let step : Step = get_or (get_or tables 0 []) (index % 256) no_step in
    let made : step.shift ≡ (0 * step.scale + step.shift) % p =
    sym (mod-eq_of_lt small) ∙ ap (λ x. x % p) (let same : step.shift ≡ 0 * step.scale + step.shift = omega arith in same) in
    first_table p index 0 seat tables step.shift are within (omega (arith, above)) inside made
    ∙ ap (λ x. hash_weight_from p x index seat) (let one : (1 + 0) % p ≡ 1 = mod-eq_of_lt above in one)

-- and where it is -1
less_twice : (p a b : ℕ) → 1 < p → b < p → ((a + (p - b)) % p + (p - b)) % p ≡ ((p - 2) * b + a) % p
less_twice zero a b above small = absurd (omega (arith, above))
less_twice (suc zero) a b above small = absurd (omega (arith, above))
less_twice (suc (suc q)) a b above small =
    let p : ℕ = suc (suc q) in
    let left : a + (p - b) + (p - b) + 2 * b ≡ a + p * 2 = omega (arith, small) in
    let right : (p - 2) * b + a + 2 * b ≡ a + p * b = grind arith in
    mod-add-mod (a + (p - b)) p (p - b)
    ∙ mod_cancel p (a + (p - b) + (p - b)) ((p - 2) * b + a) (2 * b) (omega (arith, above))
    (ap (λ x. x % p) left ∙ add-mul-mod_self_left a p 2 ∙ sym (add-mul-mod_self_left a p b) ∙ ap (λ x. x % p) (sym right))

pub first_negative_table : (p index : ℕ) (seat : List ℕ) (tables : List (List Step)) (v : ℕ) → 1 < p → AreStepTables p seat tables → 0 < length tables →
    (get_or (get_or tables 0 []) (index % 256) no_step).scale < p → index < 2 ^ length seat →
    v ≡ difference_mod p (difference_mod p (get_or (get_or tables 0 []) (index % 256) no_step).shift (get_or (get_or tables 0 []) (index % 256) no_step).scale)
    (get_or (get_or tables 0 []) (index % 256) no_step).scale →
    hash_weight_from p v (index / 256) (drop 8 seat) ≡ hash_weight_from p (residue p (negsuc 0)) index seat
first_negative_table p index seat tables v above are within small inside made =
    let step : Step = get_or (get_or tables 0 []) (index % 256) no_step in
    let none : 0 % p ≡ 0 = zero-mod p in
    let less : (1 + (p - 2)) % p ≡ residue p (negsuc 0) =
    ap (λ x. x % p) (let same : 1 + (p - 2) ≡ p - 1 = omega (arith, above) in same) ∙ mod-eq_of_lt (omega (arith, above)) ∙ (let same : p - 1 ≡ p - 1 - 0 % p = omega (arith, none) in same) in
    first_table p index (p - 2) seat tables v are within (omega (arith, above)) inside (made ∙ less_twice p step.shift step.scale above small)
    ∙ ap (λ x. hash_weight_from p x index seat) less

-- one table more
pub one_step_table : (p whole : ℕ) (seat : List ℕ) (tables : List (List Step)) (k path u v : ℕ) → AreStepTables p seat tables → 1 ≤ k → k < length tables → u < p →
    path < 2 ^ length (drop (8 * k) seat) →
    v ≡ (u * (get_or (get_or tables k []) (path % 256) no_step).scale + (get_or (get_or tables k []) (path % 256) no_step).shift) % p →
    hash_weight_from p u path (drop (8 * k) seat) ≡ whole →
    hash_weight_from p v (path / 256) (drop (8 * (k + 1)) seat) ≡ whole
one_step_table p whole seat tables k path u v are later within small inside made before =
    let rs : List ℕ = drop (8 * k) seat in
    let start : (start_of k + u) % p ≡ u = ap (λ s. (s + u) % p) (later_start k later) ∙ ap (λ x. x % p) (let same : 0 + u ≡ u = omega arith in same) ∙ mod-eq_of_lt small in
    let entry : hash_weight_from p u (path % 256) (take 8 rs) ≡ v =
    ap (λ h. hash_weight_from p h (path % 256) (take 8 rs)) (sym start) ∙ are k within (path % 256) (low_part 8 path rs inside) u small ∙ sym made in
    rw (eight_more k seat) (ap (λ x. hash_weight_from p x (path / 256) (drop 8 rs)) (sym entry) ∙ sym (split_hash p u path 8 rs) ∙ before)

-- copies of steps are the same steps
pub equal_copies : (xs ys : List Step) → AllZip (λ x y. y ≡ x) xs ys → ys ≡ xs
equal_copies [] [] h = refl
equal_copies [] (y ∷ ys) h = absurd h
equal_copies (x ∷ xs) [] h = absurd h
equal_copies (x ∷ xs) (y ∷ ys) h = ap (λ z. z ∷ ys) h.0 ∙ ap (λ zs. x ∷ zs) (equal_copies xs ys h.1)
