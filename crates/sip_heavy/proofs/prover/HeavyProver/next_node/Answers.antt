use Rattle.std.proofs.Common.{◌≡◌, ◌^◌, ◌<◌, ℕ, drop, length, slice_get, Some, sym, ap, ◌∙◌, arith}
use Rattle.std.specs.Option.{option_map}
use Rattle.std.proofs.Math.Nat.{mod-eq_of_lt}
use Rattle.std.proofs.lemmas.List.Elements.{All-drop}
use Rattle.sip_wire.specs.declared.message.Node.{Node}
use Rattle.sip_heavy.specs.Honest.{Proving, its_nodes, node_of}
use Rattle.sip_heavy.specs.Spots.{from_on}
use Rattle.sip_heavy.proofs.Kept.{kept_small, first_found, shown_of_root, first_hash}
use Rattle.sip_heavy.proofs.ShownWalks.{first_inside, nodes_rise}
use Rattle.sip_heavy.proofs.prover.HeavyProver.next_node.Goals as goal

pub returns-then-self-eq0-clause-first : goal.returns-then-self-eq0-clause-first
returns-then-self-eq0-clause-first g c =
    let s = c.self.inside in
    sym (ap (λ (k : Proving). slice_get (from_on c.args.from (its_nodes k)) 0) (sym c.self.view_is) ∙ ap (λ xs. slice_get (from_on c.args.from xs) 0) (shown_of_root s.at_least s.levels_left s.is_leaf s.spots.items c.if-self-eq0.true))

pub place_of-start-requires : goal.place_of-start-requires
place_of-start-requires g c =
    let rises = c.self.invariant.rises in
    record { rises = (0, 2 ^ c.self.inside.levels_left, rw c.deref.ensures.value rises) }

pub first_shown-requires-clause-small : goal.first_shown-requires-clause-small
first_shown-requires-clause-small g c =
    let spots = c.self.inside.spots.items in
    rw c.deref-2.ensures.value (kept_small g.F.Field.MODULUS c.self.inside.at_least c.self.inside.levels_left spots c.self.invariant)

pub first_shown-requires-clause-rises : goal.first_shown-requires-clause-rises
first_shown-requires-clause-rises g c =
    let rises = c.self.invariant.rises in
    (0, 2 ^ c.self.inside.levels_left, rw c.deref-2.ensures.value rises)

pub returns-in_err-node-clause-first : goal.returns-in_err-node-clause-first
returns-in_err-node-clause-first g c =
    let s = c.self.inside in
    let first = first_found g.F.Field.MODULUS s.at_least s.levels_left s.is_leaf c.args.from c.place_of-start.result s.spots.items c.self.invariant c.if-self-eq0.false
    (rw c.deref.ensures.value at c.place_of-start.ensures.parts) c.first_shown.result (rw c.deref-2.ensures.value at c.first_shown.ensures) s.form c.args.self.now c.self.view_is in
    ap (option_map (node_of g.F.Field.number)) c.from_residual.ensures ∙ sym c.in_err-node.was ∙ first

pub returns-clause-first : goal.returns-clause-first
returns-clause-first g c =
    let s = c.self.inside in
    let spots = s.spots.items in
    let from = c.args.from in
    let start = c.place_of-start.result in
    let found = rw c.deref-2.ensures.value at c.first_shown.ensures in
    let first = first_found g.F.Field.MODULUS s.at_least s.levels_left s.is_leaf from start spots c.self.invariant c.if-self-eq0.false
    (rw c.deref.ensures.value at c.place_of-start.ensures.parts) c.first_shown.result found s.form c.args.self.now c.self.view_is in
    let node = c.in_ok-node.node in
    let p : ℕ = g.F.Field.MODULUS in
    let shown = sym found ∙ c.in_ok-node.was in
    let below : node.hash < p = first_hash p s.at_least s.is_leaf (omega (arith, g.met.F.Field.at_least)) from (drop start spots) node (All-drop (λ x. x.hash < p) start spots c.self.invariant.hashes) shown in
    let hash : g.F.Field.number c.of.result ≡ node.hash = c.of.ensures ∙ mod-eq_of_lt below in
    ap (λ (h : ℕ). Some (let x : Node = record { index = node.index; hash = h; count = node.count } in x)) hash ∙ sym c.in_ok-node.was ∙ first

pub returns-clause-within : goal.returns-clause-within
returns-clause-within g c =
    let s = c.self.inside in
    let now = c.args.self.now in
    let first = first_found g.F.Field.MODULUS s.at_least s.levels_left s.is_leaf c.args.from c.place_of-start.result s.spots.items c.self.invariant c.if-self-eq0.false
    (rw c.deref.ensures.value at c.place_of-start.ensures.parts) c.first_shown.result (rw c.deref-2.ensures.value at c.first_shown.ensures) s.form now c.self.view_is in
    (first_inside c.args.from 0 (length now.level) (its_nodes now) c.in_ok-node.node (nodes_rise now) (sym first ∙ c.in_ok-node.was)).1
