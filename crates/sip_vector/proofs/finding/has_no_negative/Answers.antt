use Rattle.std.proofs.Common.{◌↔◌, IsTrue, All, pos, ◌≤ℤ◌, rules}
use Rattle.sip_vector.specs.declared.update.Entry.{Entry}
use Rattle.sip_vector.proofs.Gathers.{not_negative-is}
use Rattle.sip_vector.proofs.finding.has_no_negative.Goals as goal

pub returns : goal.returns
returns c vector is =
    let h : IsTrue c.all.result ↔ All (λ (e : Entry). pos 0 ≤ℤ e.value) c.args.list.now = search rules in
    let k = not_negative-is vector c.args.list.now is in
    (λ t. k.0 (h.0 t), λ all. h.1 (k.1 all))
