use Rattle.std.proofs.Common.{◌*◌, ◌-◌, ◌^◌, ◌<◌, ◌≤◌, length, map, sym, ap, subst, ◌∙◌, arith}
use Rattle.sip_vector.specs.Levels.{index_and_residue}
use Rattle.sip_vector.proofs.Dense.{length-dense}
use Rattle.sip_vector.proofs.Folds.{folds_left-some, is_above}
use Rattle.sip_vector.proofs.level.Level.fold.Goals as goal

pub overflow_sub-self : goal.overflow_sub-self
overflow_sub-self g c =
    let two : 2 ≤ length c.args.self.now = c.requires in
    let len = length-dense 0 (2 ^ c.self.inside.folds_left) (map (index_and_residue g.F.Field.number) c.self.inside.spots.items) in
    folds_left-some c.self.inside.folds_left (subst (λ n. 2 ≤ n) (ap length (sym c.self.view_is) ∙ len) two)

pub invariant_of-self : goal.invariant_of-self
invariant_of-self g c =
    let some : 0 < g.F.Field.MODULUS = omega (arith, g.met.F.Field.at_least) in
    let len = length-dense 0 (2 ^ c.self.inside.folds_left) (map (index_and_residue g.F.Field.number) c.self.inside.spots.items) in
    let one = folds_left-some c.self.inside.folds_left (subst (λ n. 2 ≤ n) (ap length (sym c.self.view_is) ∙ len) c.requires) in
    let above = is_above g.F.Field.MODULUS c.args.rule (g.F.Field.number c.args.r) c.self.inside.folds_left _ some one c.self.invariant.1 in
    (omega (arith, c.self.invariant.0), rw c.fold_spots.ensures above.sparse)

pub returns-clause-above : goal.returns-clause-above
returns-clause-above g c =
    let some : 0 < g.F.Field.MODULUS = omega (arith, g.met.F.Field.at_least) in
    let len = length-dense 0 (2 ^ c.self.inside.folds_left) (map (index_and_residue g.F.Field.number) c.self.inside.spots.items) in
    let one = folds_left-some c.self.inside.folds_left (subst (λ n. 2 ≤ n) (ap length (sym c.self.view_is) ∙ len) c.requires) in
    let above = is_above g.F.Field.MODULUS c.args.rule (g.F.Field.number c.args.r) c.self.inside.folds_left _ some one c.self.invariant.1 in
    rw (← c.self.view_is, c.fold_spots.ensures) above.same

pub returns-clause-half : goal.returns-clause-half
returns-clause-half g c =
    let some : 0 < g.F.Field.MODULUS = omega (arith, g.met.F.Field.at_least) in
    let len = length-dense 0 (2 ^ c.self.inside.folds_left) (map (index_and_residue g.F.Field.number) c.self.inside.spots.items) in
    let len_new = length-dense 0 (2 ^ (c.self.inside.folds_left - 1)) (map (index_and_residue g.F.Field.number) c.fold_spots.new.spots.items) in
    let one = folds_left-some c.self.inside.folds_left (subst (λ n. 2 ≤ n) (ap length (sym c.self.view_is) ∙ len) c.requires) in
    let above = is_above g.F.Field.MODULUS c.args.rule (g.F.Field.number c.args.r) c.self.inside.folds_left _ some one c.self.invariant.1 in
    ap (λ n. 2 * n) len_new ∙ above.half ∙ sym len ∙ ap length c.self.view_is
