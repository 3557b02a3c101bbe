-- The lookups of a task that can be done, over seats that were gathered for it.
use Rattle.std.proofs.Common.{◌≡◌, ◌≤◌, List, length, sym, ap, subst, ◌∙◌, arith, rules}
use Rattle.std.specs.Prelude.{IsTrue, nat_lt, ◌^◌}
use Rattle.std.specs.List.{list_all}
use Rattle.sip_vector.specs.Limits.{most_depth}
use Rattle.sip_wire.specs.declared.version.Version.{Version}
use Rattle.sip_wire.specs.Versions.{deepest}
use Rattle.sip_lookup.specs.declared.lookup.Lookup.{Lookup}
use Rattle.sip_lookup.specs.Lookups.{item_of}
use Rattle.sip_lookup.proofs.RootedTasks.{any_speaks, items_below}
use Rattle.sip_lookup.proofs.asker.Looker.new.Goals as goal

pub invariant_of-result : goal.invariant_of-result
invariant_of-result c =
    let d = c.args.task.now.depth in
    let copied : c.try_extend_from_slice.new.self.items ≡ c.args.task.now.lookups.items = search rules in
    let most : d ≤ most_depth = omega (arith, c.get-levels.ensures.same, c.get-levels.ensures.most) in
    let below : IsTrue (list_all (λ (l : Lookup). nat_lt (item_of l) (2 ^ d)) c.try_extend_from_slice.new.self.items) = subst (λ (ls : List Lookup). IsTrue (list_all (λ (l : Lookup). nat_lt (item_of l) (2 ^ d)) ls)) (sym copied) (items_below d c.args.task.now.lookups.items c.requires.can.items) in
    let shallow : d ≤ deepest c.version.result = subst (λ (v : Version). d ≤ deepest v) (sym c.version.ensures) (any_speaks d 0 0 most).shallow in
    (c.requires.levels, (c.requires.each ∙ ap (λ (ls : List Lookup). length ls) (sym copied), (c.requires.rooted, (omega arith, (below, (shallow, (omega (arith, c.requires.room), tt)))))))
