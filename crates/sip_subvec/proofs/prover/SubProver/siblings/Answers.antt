-- A sibling that is asked for is the node that the sum gives.
use Rattle.std.proofs.Common.{◌≡◌, ℕ, ◌+◌, ◌-◌, ◌*◌, ◌%◌, ◌^◌, ◌<◌, ◌≤◌, ◌==◌, if◌then◌else◌, List, Vec, Global, Some, None, length, get_or, map, take, sym, ap, subst, ◌∙◌, arith}
use Rattle.std.specs.Option.{option_map}
use Rattle.std.proofs.lemmas.List.{length-map, length-take-le}
use Rattle.sip_field.specs.Products.{zero_factor, AreTables}
use Rattle.sip_field.specs.declared.factors.Factors.TheVariants.{Tree}
use Rattle.sip_vector.specs.declared.update.Entry.{Entry}
use Rattle.sip_tree.proofs.Heights.{has_level}
use Rattle.sip_subvec.specs.Checking.{entries_sum}
use Rattle.sip_subvec.specs.Honest.{Proving, its_siblings}
use Rattle.sip_subvec.specs.Summing.{Rises, level_over, entries_below}
use Rattle.sip_subvec.proofs.Provers.{level_size, levels_fit, left_within, right_within, node_at, is_there, not_there}
use Rattle.sip_subvec.proofs.prover.SubProver.siblings.Given as given
use Rattle.sip_subvec.proofs.prover.SubProver.siblings.Goals as goal
use Rattle.sip_subvec.proofs.prover.SubProver.siblings.Goals.{then-self-eq1, else-self-eq1, then-self-eq0, else-self-eq0}

pub node-requires-clause-within : goal.node-requires-clause-within
node-requires-clause-within g c =
    let es = c.self.inside.entries.value.items in
    let taken : ℕ = length c.self.inside.challenges.items in
    let height : c.len-height.result ≡ taken = c.len-height.ensures ∙ c.self.inside.challenges.ok.0 in
    let fit = levels_fit es taken _ c.self.inside.levels_left c.self.inside.lo c.self.inside.hi c.self.invariant in
    let inside = left_within es taken _ c.self.inside.levels_left c.self.inside.lo c.self.inside.hi c.self.invariant in
    rw height (omega (arith, fit, inside))

pub node-requires-then-self-eq0-clause-within : goal.node-requires-then-self-eq0-clause-within
node-requires-then-self-eq0-clause-within g c =
    let es = c.self.inside.entries.value.items in
    let items = c.self.inside.challenges.items in
    let left : ℕ = c.self.inside.levels_left in
    let height : c.len-height.result ≡ length items = c.len-height.ensures ∙ c.self.inside.challenges.ok.0 in
    let size : length c.args.self.now.level ≡ 2 ^ left = ap (λ (s : Proving). length s.level) (sym c.self.view_is) ∙ level_size g.F.Field.MODULUS g.F.Field.number es items left in
    let some = has_level left (length c.args.self.now.level) size c.requires in
    let fit = levels_fit es (length items) _ left c.self.inside.lo c.self.inside.hi c.self.invariant in
    let inside = right_within es (length items) _ left c.self.inside.lo c.self.inside.hi c.self.invariant some c.if-self-eq0.true in
    rw height (omega (arith, fit, inside))

-- what is lent of a shared list is its items
same_items : {entries : List Entry} {lent list : Vec Entry Global} → entries ≡ lent.items → lent ≡ list → entries ≡ list.items
same_items items same = items ∙ ap (λ (v : Vec Entry Global). v.items) same

-- what a call for a node gives is the node
its_node : (g : given.Over) (c : goal.Joined-self-eq0 g) (entries : List Entry) (k x : ℕ) → entries ≡ c.self.inside.entries.value.items → k < 2 ^ c.self.inside.levels_left
    → ((challenges : List ℕ) → length challenges ≡ c.len-height.result
    → AreTables g.F.Field.MODULUS (zero_factor g.F.Field.MODULUS Tree) challenges (take c.tables_of-count.result c.tables_of-count.new.tables)
    → length challenges ≤ 8 * length (take c.tables_of-count.result c.tables_of-count.new.tables) → Rises 0 entries
    → x ≡ entries_sum g.F.Field.MODULUS challenges (entries_below c.len-height.result k entries) % g.F.Field.MODULUS)
    → x ≡ get_or (level_over g.F.Field.MODULUS (c.self.inside.levels_left + length c.self.inside.challenges.items) c.self.inside.entries.value.items (map g.F.Field.number c.self.inside.challenges.items)) k 0
its_node g c entries k x same inside ensures =
    let p : ℕ = g.F.Field.MODULUS in
    let es = c.self.inside.entries.value.items in
    let items = c.self.inside.challenges.items in
    let n : ℕ = c.tables_of-count.result in
    let height : length items ≡ c.len-height.result = sym c.self.inside.challenges.ok.0 ∙ sym c.len-height.ensures in
    let tables = subst (λ xs. AreTables p (zero_factor p Tree) (map g.F.Field.number xs) (take n c.tables_of-count.new.tables)) c.deref.ensures.value c.tables_of-count.ensures.tables in
    let count : length (take n c.tables_of-count.new.tables) ≡ n = length-take-le n c.tables_of-count.new.tables (omega (arith, c.tables_of-count.array_long, c.tables_of-count.ensures.count)) in
    let mapped : length (map g.F.Field.number items) ≡ length items = length-map items g.F.Field.number in
    let long : length (map g.F.Field.number items) ≤ 8 * length (take n c.tables_of-count.new.tables) =
    omega (arith, mapped, count, c.tables_of-count.ensures.all, ap length c.deref.ensures.value) in
    let rise : Rises 0 entries = subst (λ xs. Rises 0 xs) (sym same) c.self.invariant.rise in
    node_at p g.F.Field.number es items c.self.inside.levels_left c.len-height.result k x (omega (arith, g.met.F.Field.at_least)) height inside c.self.invariant.rise
    (ensures (map g.F.Field.number items) (mapped ∙ height) tables long rise ∙ ap (λ xs. entries_sum p (map g.F.Field.number items) (entries_below c.len-height.result k xs) % p) same)

pub returns-clause-left : goal.returns-clause-left
returns-clause-left g c =
    let p : ℕ = g.F.Field.MODULUS in
    let es = c.self.inside.entries.value.items in
    let items = c.self.inside.challenges.items in
    let left : ℕ = c.self.inside.levels_left in
    let lo : ℕ = c.self.inside.lo in
    let x : ℕ = get_or (level_over p (left + length items) es (map g.F.Field.number items)) (lo - 1) 0 in
    let here : option_map g.F.Field.number c.if-self-eq1.left ≡ (if lo % 2 == 1 then Some x else None) = elim c.if-self-eq1.branch [
      | then-self-eq1 w ↦
          let inside = left_within es (length items) _ left lo c.self.inside.hi c.self.invariant in
          ap (option_map g.F.Field.number) w.left-is
          ∙ ap (λ y. Some y) (its_node g c w.deref-then-self-eq1-2.result.now (lo - 1) (g.F.Field.number w.node.result) (same_items w.deref-then-self-eq1-2.ensures.value w.deref-then-self-eq1.ensures) inside w.node.ensures)
          ∙ is_there (lo % 2) 1 x w.if-self-eq1.true
      | else-self-eq1 w ↦ ap (option_map g.F.Field.number) w.left-is ∙ not_there (lo % 2) 1 x w.if-self-eq1.false
    ] in
    here ∙ ap (λ (s : Proving). (its_siblings s).left) c.self.view_is

pub returns-clause-right : goal.returns-clause-right
returns-clause-right g c =
    let p : ℕ = g.F.Field.MODULUS in
    let es = c.self.inside.entries.value.items in
    let items = c.self.inside.challenges.items in
    let left : ℕ = c.self.inside.levels_left in
    let hi : ℕ = c.self.inside.hi in
    let x : ℕ = get_or (level_over p (left + length items) es (map g.F.Field.number items)) (hi + 1) 0 in
    let size : length c.args.self.now.level ≡ 2 ^ left = ap (λ (s : Proving). length s.level) (sym c.self.view_is) ∙ level_size p g.F.Field.number es items left in
    let some = has_level left (length c.args.self.now.level) size c.requires in
    let here : option_map g.F.Field.number c.if-self-eq0.right ≡ (if hi % 2 == 0 then Some x else None) = elim c.if-self-eq0.branch [
      | then-self-eq0 w ↦
          let inside = right_within es (length items) _ left c.self.inside.lo hi c.self.invariant some w.if-self-eq0.true in
          ap (option_map g.F.Field.number) w.right-is
          ∙ ap (λ y. Some y) (its_node g c w.deref-then-self-eq0-2.result.now (hi + 1) (g.F.Field.number w.node-then-self-eq0.result) (same_items w.deref-then-self-eq0-2.ensures.value w.deref-then-self-eq0.ensures) inside w.node-then-self-eq0.ensures)
          ∙ is_there (hi % 2) 0 x w.if-self-eq0.true
      | else-self-eq0 w ↦ ap (option_map g.F.Field.number) w.right-is ∙ not_there (hi % 2) 0 x w.if-self-eq0.false
    ] in
    here ∙ ap (λ (s : Proving). (its_siblings s).right) c.self.view_is
