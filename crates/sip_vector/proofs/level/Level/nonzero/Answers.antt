use Rattle.std.proofs.Common.{◌^◌, map, sym, refl}
use Rattle.sip_vector.specs.Levels.{index_and_residue}
use Rattle.sip_vector.proofs.Dense.{length-dense}
use Rattle.sip_vector.proofs.Searches.{nonzero_from-all}
use Rattle.sip_vector.proofs.level.Level.nonzero.Goals as goal

pub returns-clause-all : goal.returns-clause-all
returns-clause-all g c =
    rw (← c.self.view_is, c.deref.ensures.value) (sym (nonzero_from-all g.F.Field.number (2 ^ c.self.inside.folds_left) c.self.inside.spots.items c.self.invariant.1))

pub returns-clause-sparse : goal.returns-clause-sparse
returns-clause-sparse g c =
    let len = length-dense 0 (2 ^ c.self.inside.folds_left) (map (index_and_residue g.F.Field.number) c.self.inside.spots.items) in
    rw (← c.self.view_is, c.deref.ensures.value, len) c.self.invariant.1

pub returns-clause-level : goal.returns-clause-level
returns-clause-level g c =
    let len = length-dense 0 (2 ^ c.self.inside.folds_left) (map (index_and_residue g.F.Field.number) c.self.inside.spots.items) in
    rw (← c.self.view_is, c.deref.ensures.value, len) refl
