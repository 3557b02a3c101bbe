-- One node more of a level that is folded in place.
use Rattle.std.proofs.Common.{◌≡◌, ℕ, zero, suc, ◌+◌, ◌-◌, ◌*◌, ◌%◌, ◌<◌, ◌≤◌, List, [], ◌∷◌, ◌++◌, length, get_or, set, take, drop, refl, sym, ◌∙◌, ap, arith}
use Rattle.std.proofs.lemmas.List.{append_assoc, length-append, length-take-le, length-drop, set_at, drop_more, take_more, get_or-append_right, get_or-drop, take_all, take_at}
use Rattle.std.proofs.Math.Nat.{add-mod-mod}
use Rattle.sip_field.specs.Residue.{sum_mod, product_mod}
use Rattle.sip_vector.specs.Trees.{up}
use Rattle.sip_vector.proofs.TreeUpdates.{length-up}

-- a node is made of a pair
pub node_at : (p r : ℕ) (level : List ℕ) (n k : ℕ) → length level ≡ 2 * n → k < n →
    get_or (up p level r) k 0 ≡ (get_or level (2 * k) 0 + r * get_or level (2 * k + 1) 0) % p
node_at p r [] n k e h = absurd (omega arith)
node_at p r (u ∷ []) n k e h = absurd (omega arith)
node_at p r (u ∷ w ∷ level) n zero e h = refl
node_at p r (u ∷ w ∷ level) n (suc k) e h =
    let rest : length level ≡ 2 * (n - 1) = omega arith in
    let inside : k < n - 1 = omega arith in
    let left : 2 * suc k ≡ suc (suc (2 * k)) = omega arith in
    let right : suc (suc (2 * k)) + 1 ≡ suc (suc (2 * k + 1)) = omega arith in
    rw (left, right) (node_at p r level (n - 1) k rest inside)

-- a level that is folded up to its first k pairs
abbrev pub half_way : ℕ → ℕ → List ℕ → ℕ → List ℕ
half_way p r level k = take k (up p level r) ++ drop k level

module _ (p r : ℕ) (level : List ℕ) (n k : ℕ) (twice : length level ≡ 2 * n) (inside : k < n) where
  long : length (up p level r) ≡ n
  long = length-up p r level n twice

  front : length (take k (up p level r)) ≡ k
  front = length-take-le k (up p level r) (omega (arith, long))

  pub length-half_way : length (half_way p r level k) ≡ 2 * n
  length-half_way = omega (arith, length-append (take k (up p level r)) (drop k level), front, length-drop k level)

  -- what is not written yet is as it was
  unwritten : (j : ℕ) → k ≤ j → get_or (half_way p r level k) j 0 ≡ get_or level j 0
  unwritten j later =
      get_or-append_right (take k (up p level r)) (drop k level) k j 0 front later ∙ get_or-drop k level (j - k) 0
      ∙ ap (λ i. get_or level i 0) (let same : k + (j - k) ≡ j = omega arith in same)

  written : set (half_way p r level k) k (get_or (up p level r) k 0) ≡ half_way p r level (k + 1)
  written =
      let here : k < length level = omega arith in
      let there : k < length (up p level r) = omega (arith, long) in
      let node : ℕ = get_or (up p level r) k 0 in
      rw (drop_more level k 0 here, take_more (up p level r) k 0 there)
      (set_at (take k (up p level r)) (get_or level k 0) (drop (k + 1) level) node k front ∙ sym (append_assoc (take k (up p level r)) (node ∷ []) (drop (k + 1) level)))

  -- one pair more, where u and w are what stands at its places
  pub one_pair : (now : List ℕ) (u w v : ℕ) → now ≡ half_way p r level k → u ≡ get_or now (2 * k) 0 → w ≡ get_or now (2 * k + 1) 0 →
      v ≡ sum_mod p u (product_mod p r w) → set now k v ≡ half_way p r level (k + 1)
  one_pair now u w v is left right made =
      let before : u ≡ get_or level (2 * k) 0 = left ∙ ap (λ xs. get_or xs (2 * k) 0) is ∙ unwritten (2 * k) (omega arith) in
      let behind : w ≡ get_or level (2 * k + 1) 0 = right ∙ ap (λ xs. get_or xs (2 * k + 1) 0) is ∙ unwritten (2 * k + 1) (omega arith) in
      let node : v ≡ get_or (up p level r) k 0 =
      made ∙ add-mod-mod u (r * w) p ∙ ap (λ x. (x + r * w) % p) before ∙ ap (λ x. (get_or level (2 * k) 0 + r * x) % p) behind ∙ sym (node_at p r level n k twice inside) in
      ap (λ xs. set xs k v) is ∙ ap (set (half_way p r level k) k) node ∙ written

-- where all pairs are folded, the front is the level above
pub all_pairs : (p r : ℕ) (level : List ℕ) (n k : ℕ) → length level ≡ 2 * n → n ≤ k → take n (half_way p r level k) ≡ up p level r
all_pairs p r level n k twice done =
    let long : length (up p level r) ≡ n = length-up p r level n twice in
    ap (λ xs. take n (xs ++ drop k level)) (take_all k (up p level r) (omega arith)) ∙ take_at (up p level r) (drop k level) n long
