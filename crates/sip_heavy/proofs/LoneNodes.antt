-- The node above one that has a zero beside it.
use Rattle.std.proofs.Common.{◌≡◌, ℕ, ◌+◌, ◌-◌, ◌*◌, ◌/◌, ◌%◌, ◌^◌, ◌<◌, ◌==◌, true, false, sym, ap, ◌∙◌, arith}
use Rattle.std.proofs.Math.Nat.{mod-eq_of_lt, mod-add-mod}
use Rattle.std.proofs.lemmas.Bool.{eq-eqb, ne_eqb}
use Rattle.sip_field.specs.Residue.{product_mod}
use Rattle.sip_wire.specs.declared.message.Node.{Node}
use Rattle.sip_heavy.specs.AcceptsHeavy.{joined}
use Rattle.sip_heavy.specs.Spots.{left_of, right_of}
use Rattle.sip_heavy.proofs.Pairs.{half_hash, right_residue}

-- the node above x that has this hash
abbrev pub above : Node → ℕ → Node
above x h = record { index = x.index / 2; hash = h; count = x.count }

module _ (p r : ℕ) (some : 0 < p) (x : Node) (half : ℕ) (is : half % p ≡ half_hash r x.hash (x.count % p) % p) where
  none : 0 % p ≡ 0
  none = mod-eq_of_lt some

  pub left_above : x.index % 2 ≡ 0 → above x (half % p) ≡ joined p r (left_of x) (right_of x)
  left_above even =
      let left : (x.index % 2 == 0) ≡ true = eq-eqb (x.index % 2) 0 even in
      let n : ℕ = x.count % p in
      let alone : x.hash + n * r ≡ x.hash + n * r + 0 * r ^ 2 + 0 * r ^ 3 = omega arith in
      let hash : half % p ≡ (x.hash + n * r + 0 * r ^ 2 + 0 % p * r ^ 3) % p = rw none (is ∙ ap (λ k. k % p) alone) in
      let count : x.count ≡ x.count + 0 = omega arith in
      rw (left, hash) (ap (λ (k : ℕ). record { index = x.index / 2; hash = (x.hash + n * r + 0 * r ^ 2 + 0 % p * r ^ 3) % p; count = k }) count)

  pub right_above : (s c : ℕ) → s ≡ product_mod p r r → c % p ≡ product_mod p half s → (x.index % 2 ≡ 0 → ⊥) → above x (c % p) ≡ joined p r (left_of x) (right_of x)
  right_above s c squared product odd =
      let right : (x.index % 2 == 0) ≡ false = ne_eqb (x.index % 2) 0 odd in
      let n : ℕ = x.count % p in
      let reduced : half % p ≡ half_hash r (x.hash % p) n % p = is ∙ sym (mod-add-mod x.hash p (n * r)) in
      let alone : x.hash * r ^ 2 + n * r ^ 3 ≡ 0 + 0 * r + x.hash * r ^ 2 + n * r ^ 3 = omega arith in
      let hash : c % p ≡ (0 + 0 % p * r + x.hash * r ^ 2 + n * r ^ 3) % p = rw none (right_residue p r x.hash n half s c reduced squared product ∙ ap (λ k. k % p) alone) in
      let index : x.index / 2 ≡ (x.index - 1) / 2 = omega (arith, odd) in
      let count : x.count ≡ 0 + x.count = omega arith in
      rw (right, index, hash) (ap (λ (k : ℕ). record { index = (x.index - 1) / 2; hash = (0 + 0 % p * r + x.hash * r ^ 2 + n * r ^ 3) % p; count = k }) count)
