use Rattle.std.proofs.Common.{length, ap, sym, ◌∙◌}
use Rattle.sip_tree.proofs.Heights.{has_level, has_pair}
use Rattle.sip_subvec.specs.Honest.{Proving}
use Rattle.sip_subvec.proofs.Provers.{level_size}
use Rattle.sip_subvec.proofs.prover.SubProver.levels_left.Goals as goal

pub returns-clause-exact : goal.returns-clause-exact
returns-clause-exact g c =
    ap (λ (s : Proving). length s.level) (sym c.self.view_is)
    ∙ level_size g.F.Field.MODULUS g.F.Field.number c.self.inside.entries.value.items c.self.inside.challenges.items c.self.inside.levels_left

pub returns-clause-some : goal.returns-clause-some
returns-clause-some g c = (
  λ some. has_pair c.self.inside.levels_left (length c.args.self.now.level) (returns-clause-exact g c) some,
  λ two. has_level c.self.inside.levels_left (length c.args.self.now.level) (returns-clause-exact g c) two,
)
