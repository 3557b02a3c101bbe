use Rattle.std.proofs.Common.{◌^◌, ◌<◌, ◌≤◌, ◌↔◌, map}
use Rattle.sip_vector.specs.Levels.{index_and_residue}
use Rattle.sip_vector.proofs.Dense.{length-dense}
use Rattle.sip_vector.proofs.Folds.{folds_left-some, folds_left-two}
use Rattle.sip_vector.proofs.level.Level.folds_left.Goals as goal

pub returns-clause-exact : goal.returns-clause-exact
returns-clause-exact g c = rw (← c.self.view_is) (length-dense 0 (2 ^ c.self.inside.folds_left) (map (index_and_residue g.F.Field.number) c.self.inside.spots.items))

pub returns-clause-some : goal.returns-clause-some
returns-clause-some g c =
    let len = length-dense 0 (2 ^ c.self.inside.folds_left) (map (index_and_residue g.F.Field.number) c.self.inside.spots.items) in
    let two : (0 < c.self.inside.folds_left) ↔ (2 ≤ 2 ^ c.self.inside.folds_left) = (folds_left-two c.self.inside.folds_left, folds_left-some c.self.inside.folds_left) in
    rw (← c.self.view_is, len) two
