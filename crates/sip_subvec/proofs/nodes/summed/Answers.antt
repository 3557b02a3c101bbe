-- The sums by the tables, entry by entry.
use Rattle.std.proofs.Common.{rules, ◌≡◌, ℕ, List, pos, FitsSigned, w64, to_z, of_z, ◌+◌, ◌*◌, ◌/◌, ◌%◌, ◌^◌, ◌<◌, ◌≤◌, length, get_or, drop, take, ◌∙◌, ap, sym, subst, arith}
use Rattle.std.proofs.Math.Nat.{mod-lt, add-mod-mod}
use Rattle.std.proofs.lemmas.Int.{to_z-of_z}
use Rattle.std.proofs.lemmas.List.{take_all, length-take}
use Rattle.std.proofs.lemmas.Nat.{mul-mod_first, pow_pos, one_shl}
use Rattle.sip_field.specs.Products.{zero_factor, bits_product}
use Rattle.sip_field.specs.declared.factors.Factors.TheVariants.{Tree}
use Rattle.sip_field.specs.Residue.{residue}
use Rattle.sip_field.proofs.BitProducts.{low_part, high_part, split_product}
use Rattle.sip_vector.specs.Weights.{node_weight}
use Rattle.sip_vector.specs.declared.update.Entry.{Entry}
use Rattle.sip_tree.proofs.Blocks.{weight_is_product}
use Rattle.sip_subvec.specs.Checking.{entries_sum}
use Rattle.sip_subvec.proofs.NearEntries.{near_more, near_none}
use Rattle.sip_subvec.proofs.SummedNodes.{one_entry}
use Rattle.sip_subvec.proofs.nodes.summed.Goals as goal

-- one past the end of a slice
abbrev none : Entry
none = record { index = 0; value = pos 0 }

pub loop-entry-init : goal.loop-entry-init
loop-entry-init g c =
    let p : ℕ = g.F.Field.MODULUS in
    let n : ℕ = 8 * length c.args.low.now in
    let some : 0 < p = omega (arith, g.met.F.Field.at_least) in
    record {
      most = omega arith;
      is = λ challenges size below above enough. (
        pow_pos (length (drop n challenges)),
        rw c.of.ensures (near_none p (bits_product p (zero_factor p Tree) 0 (drop n challenges)) some),
      );
    }

pub overflow_add-sums : goal.overflow_add-sums
overflow_add-sums g c =
    let short : length c.args.entries.now < 2 ^ 64 = search rules in
    let more : c.from.result < 2 ^ 64 = omega (arith, c.from.ensures, c.loosely_by_tables.type_inv) in
    omega (arith, short, more, c.moved_to-sums.ensures.near, c.loop-entry.invariant.most, c.loop-entry-test.true)

pub loop-entry-preserved : goal.loop-entry-preserved
loop-entry-preserved g c =
    let p : ℕ = g.F.Field.MODULUS in
    let one : 1 < p = omega (arith, g.met.F.Field.at_least) in
    let zero : ℕ → ℕ = zero_factor p Tree in
    let n : ℕ = 8 * length c.args.low.now in
    let reach_n : 8 * g.row.N ≡ n = ap (λ k. 8 * k) (sym c.requires.exact) in
    let reach : 1 * 2 ^ (8 * g.row.N) % 18446744073709551616 ≡ 2 ^ n = one_shl (8 * g.row.N) 64 (omega (arith, c.requires.few)) ∙ ap (λ m. 2 ^ m) reach_n in
    let entries = c.args.entries.now in
    let k : ℕ = c.loop-entry.entry-index in
    let e : Entry = get_or entries k none in
    let here : k < length entries = c.loop-entry-test.true in
    let fits : FitsSigned w64 e.value = search rules in
    let kept : to_z w64 (of_z w64 e.value) ≡ e.value = to_z-of_z w64 e.value fits in
    let place : ℕ = e.index % c.args.size in
    let path : place / (1 * 2 ^ (8 * g.row.N) % 18446744073709551616) ≡ place / 2 ^ n = ap (λ m. place / m) reach in
    let low : place % (1 * 2 ^ (8 * g.row.N) % 18446744073709551616) ≡ place % 2 ^ n = ap (λ m. place % m) reach in
    let path_is = c.moved_to-sums.ensures.path ∙ path in
    let r : ℕ = residue p e.value in
    let sum : ℕ = g.F.Field.number c.moved_to-sums.result.sum in
    let near : ℕ = c.moved_to-sums.result.near in
    let x : ℕ = c.from.result in
    let v : ℕ = c.loose_signed-value.result in
    let more : x < 2 ^ 64 = omega (arith, c.from.ensures, c.loosely_by_tables.type_inv) in
    record {
      most = omega (arith, more, c.moved_to-sums.ensures.near, c.loop-entry.invariant.most);
      is = λ challenges size below above enough.
          let rest : List ℕ = drop n challenges in
          let front : List ℕ = take n challenges in
          let short : length front ≤ 8 * length c.args.low.now = omega (arith, length-take n challenges) in
          let before = c.loop-entry.invariant.is challenges size below above enough in
          let same : place ≡ e.index % 2 ^ length challenges = ap (λ m. e.index % m) size in
          let within : place < 2 ^ length challenges = omega (arith, same, mod-lt e.index (pow_pos (length challenges))) in
          let b : ℕ = bits_product p zero (place / 2 ^ n) rest in
          let a : ℕ = bits_product p zero (place % 2 ^ n) front in
          let moved_as = c.moved_to-sums.ensures.sum rest above enough before.0 ∙ before.1 in
          let moved : (sum + near * b) % p ≡ entries_sum p challenges (take k entries) % p = ap (λ q. (sum + near * bits_product p zero q rest) % p) (sym path) ∙ moved_as in
          let inside : place % (1 * 2 ^ (8 * g.row.N) % 18446744073709551616) < 2 ^ length front = subst (λ q. q < 2 ^ length front) (sym low) (low_part n place challenges within) in
          let product : (a * b) % p ≡ bits_product p zero place challenges = sym (split_product p zero one place n challenges) in
          let weight : (a * b) % p ≡ node_weight p (e.index % 2 ^ length challenges) challenges =
          product ∙ weight_is_product p place challenges ∙ ap (λ i. node_weight p i challenges) same in
          let term : x % p ≡ (r * a) % p =
          ap (λ y. y % p) c.from.ensures ∙ c.loosely_by_tables.ensures zero front below short inside
          ∙ ap (λ q. (v * bits_product p zero q front) % p) low
          ∙ sym (mul-mod_first v a p) ∙ ap (λ y. (y * a) % p) (c.loose_signed-value.ensures.residue ∙ ap (residue p) kept) in
          let new : ℕ = (sum + (near + x) * b) % p in
          let made : new ≡ ((sum + near * b) % p + (r * ((a * b) % p)) % p) % p = near_more p sum near b a r x term in (
            subst (λ q. q < 2 ^ length rest) (sym path_is) (high_part n place challenges within),
            ap (λ q. (sum + (near + x) * bits_product p zero q rest) % p) path_is
                ∙ one_entry p challenges entries k none ((sum + near * b) % p) ((r * ((a * b) % p)) % p) new here moved (ap (λ w. (r * w) % p) weight) made,
          );
    }

pub returns : goal.returns
returns g c challenges size below above enough =
    let p : ℕ = g.F.Field.MODULUS in
    let zero : ℕ → ℕ = zero_factor p Tree in
    let rest : List ℕ = drop (8 * length c.args.low.now) challenges in
    let before = c.loop-entry.invariant.is challenges size below above enough in
    let sum : ℕ = g.F.Field.number c.loop-entry.sums.sum in
    let near : ℕ = c.loop-entry.sums.near in
    let b : ℕ = bits_product p zero c.loop-entry.sums.path rest in
    let left : g.F.Field.number c.by_tables.result ≡ (near * b) % p = c.by_tables.ensures zero rest above enough before.0 ∙ ap (λ y. (y * b) % p) c.of_wide.ensures ∙ mul-mod_first near b p in
    c.plus.ensures ∙ ap (λ x. (sum + x) % p) left ∙ add-mod-mod sum (near * b) p ∙ before.1
    ∙ ap (λ es. entries_sum p challenges es % p) (take_all c.loop-entry.entry-index c.args.entries.now c.loop-entry-test.false)
