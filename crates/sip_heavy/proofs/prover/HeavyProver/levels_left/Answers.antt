use Rattle.std.proofs.Common.{◌≡◌, ◌^◌, length, sym, ap, ◌∙◌}
use Rattle.sip_tree.proofs.Heights.{has_level, has_pair}
use Rattle.sip_heavy.specs.Honest.{Proving}
use Rattle.sip_heavy.proofs.Kept.{whole_long}
use Rattle.sip_heavy.proofs.prover.HeavyProver.levels_left.Goals as goal

pub returns-clause-exact : goal.returns-clause-exact
returns-clause-exact g c = ap (λ (s : Proving). length s.level) (sym c.self.view_is) ∙ whole_long (2 ^ c.self.inside.levels_left) 0 c.self.inside.spots.items

pub returns-clause-some : goal.returns-clause-some
returns-clause-some g c =
    let size : length c.args.self.now.level ≡ 2 ^ c.self.inside.levels_left = ap (λ (s : Proving). length s.level) (sym c.self.view_is) ∙ whole_long (2 ^ c.self.inside.levels_left) 0 c.self.inside.spots.items in
    (λ some. has_pair c.self.inside.levels_left (length c.args.self.now.level) size some, λ two. has_level c.self.inside.levels_left (length c.args.self.now.level) size two)
