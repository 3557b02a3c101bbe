-- The level that a prover stands for, by the entries and the challenges that it keeps.
use Rattle.std.proofs.Common.{◌≡◌, ℕ, zero, suc, ◌+◌, ◌-◌, ◌*◌, ◌/◌, ◌%◌, ◌^◌, ◌<◌, ◌≤◌, ◌==◌, if◌then◌else◌, List, [], ◌∷◌, ◌++◌, length, get_or, map, Some, None, refl, sym, ap, ◌∙◌, arith}
use Rattle.std.proofs.Math.Nat.{pow-succ', pow-le-pow_right}
use Rattle.std.proofs.lemmas.Bool.{eq-eqb, ne_eqb}
use Rattle.std.proofs.lemmas.List.{length-map, length-append, map-append}
use Rattle.sip_vector.specs.Limits.{most_depth}
use Rattle.sip_vector.specs.Trees.{up}
use Rattle.sip_vector.specs.declared.update.Entry.{Entry}
use Rattle.sip_subvec.specs.Checking.{entries_sum}
use Rattle.sip_subvec.specs.Summing.{Rises, level_over, entries_below, IsSumming}
use Rattle.sip_subvec.proofs.SummedNodes.{level_long, level_more, node_over}

-- the level above has half as many nodes
pub half_of : (left above n : ℕ) → 1 ≤ left → above ≡ 2 ^ (left - 1) → n ≡ 2 ^ left → 2 * above ≡ n
half_of zero above n some half is = absurd (omega arith)
half_of (suc left) above n some half is = let one : suc left - 1 ≡ left = omega arith in ap (λ k. 2 * k) (half ∙ ap (λ k. 2 ^ k) one) ∙ sym (is ∙ pow-succ' 2 left)

-- the interval above is in order and within the level above
pub is_learnt : (es : List Entry) (taken capacity left lo hi taken' capacity' : ℕ) → IsSumming es taken capacity left lo hi → 1 ≤ left → taken' ≡ taken + 1 → capacity ≤ capacity' → IsSumming es taken' capacity' (left - 1) (lo / 2) (hi / 2)
is_learnt es taken capacity zero lo hi taken' capacity' is some more room = absurd (omega arith)
is_learnt es taken capacity (suc left) lo hi taken' capacity' is some more room = record {
  deep = omega (arith, is.deep, more);
  rise = is.rise;
  order = omega (arith, is.order);
  within = (let one : suc left - 1 ≡ left = omega arith in rw one (let half : hi / 2 < 2 ^ left = omega (arith, is.within, pow-succ' 2 left) in half));
  room = omega (arith, is.room, more, room);
}

-- the nodes beside the interval are indices that 64 bits hold
module _ (es : List Entry) (taken capacity left lo hi : ℕ) (is : IsSumming es taken capacity left lo hi) where
  pub levels_fit : 2 ^ left ≤ 2 ^ (most_depth - taken)
  levels_fit = pow-le-pow_right (let two : 0 < 2 = omega arith in two) (omega (arith, is.deep))

  pub left_within : lo - 1 < 2 ^ left
  left_within = omega (arith, is.order, is.within)

  pub right_within : 1 ≤ left → hi % 2 ≡ 0 → hi + 1 < 2 ^ left
  right_within some even = by_left left some is.within
    where
      by_left : (n : ℕ) → 1 ≤ n → hi < 2 ^ n → hi + 1 < 2 ^ n
      by_left zero some within = absurd (omega arith)
      by_left (suc n) some within = omega (arith, within, even, pow-succ' 2 n)

module _ (p : ℕ) {F : Type 0} (number : F → ℕ) (es : List Entry) (items : List F) (left : ℕ) where
  as_long : left + length items ≡ left + length (map number items)
  as_long = ap (λ n. left + n) (sym (length-map items number))

  pub level_size : length (level_over p (left + length items) es (map number items)) ≡ 2 ^ left
  level_size = level_long p (left + length items) left es (map number items) as_long

  -- one challenge more gives the level above
  pub level_learnt : (r : F) (items' : List F) → 1 ≤ left → items' ≡ items ++ r ∷ []
      → level_over p (left - 1 + length items') es (map number items') ≡ up p (level_over p (left + length items) es (map number items)) (number r)
  level_learnt r items' some is =
      let depth : left - 1 + length items' ≡ left + length items = omega (arith, some, ap length is, length-append items (r ∷ [])) in
      ap (λ d. level_over p d es (map number items')) depth
      ∙ ap (λ cs. level_over p (left + length items) es cs) (ap (map number) is ∙ map-append number items (r ∷ []))
      ∙ level_more p (left + length items) es (map number items) (number r)

  -- a sum over the entries below a node is the node
  pub node_at : (height k x : ℕ) → 0 < p → length items ≡ height → k < 2 ^ left → Rises 0 es → x ≡ entries_sum p (map number items) (entries_below height k es) % p
      → x ≡ get_or (level_over p (left + length items) es (map number items)) k 0
  node_at height k x some high inside rise is =
      is ∙ ap (λ h. entries_sum p (map number items) (entries_below h k es) % p) (sym (length-map items number ∙ high))
      ∙ sym (node_over p (left + length items) left es (map number items) k some as_long inside rise)

-- a sibling is there where the end of the interval asks for it
pub is_there : (m n : ℕ) (x : ℕ) → m ≡ n → Some x ≡ (if m == n then Some x else None)
is_there m n x is = rw (eq-eqb m n is) refl

pub not_there : (m n : ℕ) (x : ℕ) → (m ≡ n → ⊥) → None ≡ (if m == n then Some x else None)
not_there m n x not = rw (ne_eqb m n not) refl
