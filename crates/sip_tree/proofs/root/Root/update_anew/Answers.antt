-- The new value by the clauses of the calls, and from it what the root stands for.
use Rattle.std.proofs.Common.{rules, ◌≡◌, ℕ, List, pos, FitsSigned, w64, to_z, of_z, ◌+◌, ◌*◌, ◌%◌, ◌^◌, ◌<◌, take, length, get_or, refl, sym, ◌∙◌, ap, subst, arith}
use Rattle.std.proofs.lemmas.Int.{to_z-of_z}
use Rattle.std.proofs.lemmas.List.{take_all, length-take-le}
use Rattle.std.proofs.lemmas.List.Elements.{All-get_or}
use Rattle.sip_field.specs.Residue.{residue}
use Rattle.sip_vector.specs.Weights.{node_weight}
use Rattle.sip_vector.specs.declared.update.Side.TheVariants.{First}
use Rattle.sip_vector.specs.declared.update.Update.{Update}
use Rattle.sip_tree.specs.Blocks.{root_after}
use Rattle.sip_field.specs.Products.{zero_factor}
use Rattle.sip_field.specs.declared.factors.Factors.TheVariants.{Tree}
use Rattle.sip_tree.proofs.Blocks.{one_more, root_is_products, root_term}
use Rattle.sip_tree.proofs.root.Root.update_anew.Goals as goal

pub loop-update-init : goal.loop-update-init
loop-update-init g c = record { seat = refl; value = refl }

-- one past the end of a slice
abbrev none : Update
none = record { side = First; item = 0; delta = pos 0 }

pub update-requires : goal.update-requires
update-requires g c = (
  search rules,
  subst (λ seat. (get_or c.args.updates.now c.loop-update.update-index none).item < 2 ^ length seat) (sym c.loop-update.invariant.seat)
      (All-get_or (λ u. u.item < 2 ^ length c.args.self.now.seat) c.args.updates.now c.loop-update.update-index none c.loop-update-test.true c.requires.items),
)

pub loop-update-preserved : goal.loop-update-preserved
loop-update-preserved g c =
    let p : ℕ = g.F.Field.MODULUS in
    let seat : List ℕ = c.args.self.now.seat in
    let updates : List Update = c.args.updates.now in
    let k : ℕ = c.loop-update.update-index in
    let u : Update = get_or updates k none in
    let v : ℕ = c.loop-update.self.value in
    let fits : FitsSigned w64 u.delta = search rules in
    let kept : to_z w64 (of_z w64 u.delta) ≡ u.delta = to_z-of_z w64 u.delta fits in
    record {
      seat = c.update.ensures.seat ∙ c.loop-update.invariant.seat;
      value = one_more p (root_term p seat) c.args.self.now.value updates k none v _ c.loop-update-test.true c.loop-update.invariant.value
          (c.update.ensures.value ∙ ap (λ d. (v + residue p d * node_weight p u.item c.loop-update.self.seat) % p) kept
          ∙ ap (λ rs. (v + residue p u.delta * node_weight p u.item rs) % p) c.loop-update.invariant.seat);
    }

pub returns-after-loop-update-clause-value : goal.returns-after-loop-update-clause-value
returns-after-loop-update-clause-value g c =
    c.loop-update.invariant.value
    ∙ ap (root_after g.F.Field.MODULUS c.args.self.now.seat c.args.self.now.value) (take_all c.loop-update.update-index c.args.updates.now c.loop-update-test.false)

-- the root by the tables
pub returns-else-updates-lt-BLOCK-clause-value : goal.returns-else-updates-lt-BLOCK-clause-value
returns-else-updates-lt-BLOCK-clause-value g c =
    let seat : List ℕ = c.args.self.now.seat in
    let n : ℕ = c.fill_tables-count.result in
    let long : length (take n c.fill_tables-count.new.tables) ≡ n =
    length-take-le n c.fill_tables-count.new.tables (omega (arith, c.fill_tables-count.ensures.count, c.fill_tables-count.ensures.length)) in
    let p : ℕ = g.F.Field.MODULUS in
    c.number-self.ensures
    ∙ c.added_by_tables.ensures (zero_factor p Tree) seat c.fill_tables-count.ensures.tables (omega (arith, long, c.fill_tables-count.ensures.exact)) c.requires.items
    ∙ root_is_products p seat (g.F.Field.number c.of_number-root.result) c.args.updates.now
    ∙ ap (λ v. root_after p seat v c.args.updates.now) c.of_number-root.ensures
