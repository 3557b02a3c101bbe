use Rattle.std.proofs.Common.{sym, ap, subst, ◌∙◌}
use Rattle.sip_vector.specs.inside.Gathered.{IsListOf}
use Rattle.sip_vector.specs.Vectors.{StoredVector, contents}
use Rattle.sip_vector.proofs.Gathers.{IsListOf-settled, nonzero-list}
use Rattle.sip_vector.proofs.vector.Vector.shared_entries.Goals as goal

pub returns-in_ok-clone-clause-exact : goal.returns-in_ok-clone-clause-exact
returns-in_ok-clone-clause-exact c =
    let inside = c.self.inside in
    let none = ap (λ (v : StoredVector). v.is_settled) c.self.view_is ∙ sym c.is_settled.ensures ∙ c.if-is_settled.true in
    let list = IsListOf-settled inside.depth inside.list.value.items inside.pending.items inside.total inside.weight c.self.invariant none in
    let shown = subst (λ (v : StoredVector). IsListOf (contents v) inside.list.value.items) c.self.view_is list in
    rw c.in_ok-clone.ensures.cases (nonzero-list (contents c.args.self.now) inside.list.value.items shown)
