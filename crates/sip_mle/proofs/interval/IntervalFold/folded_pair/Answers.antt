-- An entry of the folded list is made of a pair.
use Rattle.std.proofs.Common.{◌*◌, ◌+◌, ◌/◌, get_or, sym, ◌∙◌}
use Rattle.std.proofs.Math.Nat.{add-mod-mod}
use Rattle.sip_field.specs.Residue.{difference_mod}
use Rattle.sip_mle.proofs.Folding.{line_at}
use Rattle.sip_mle.proofs.interval.IntervalFold.folded_pair.Goals as goal

pub returns : goal.returns
returns g c =
    let p = g.F.Field.MODULUS in
    let list = c.args.self.now in
    let r = g.F.Field.number c.args.r in
    let u = get_or list (c.args.index / 2 * 2) 0 in
    let w = get_or list (c.args.index / 2 * 2 + 1) 0 in
    rw (c.plus.ensures, c.times.ensures, c.minus.ensures, c.at-u.ensures, c.at-w.ensures)
    (add-mod-mod u (r * difference_mod p w u) p ∙ sym (line_at p r list (c.args.index / 2) c.requires))
