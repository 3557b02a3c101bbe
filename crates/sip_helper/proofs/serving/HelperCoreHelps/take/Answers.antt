-- A message that is heard leaves fewer turns.
use Rattle.std.proofs.Common.{subst, ◌≤◌, ℕ}
use Rattle.sip_vector.specs.Limits.{most_depth}
use Rattle.sip_helper.proofs.Falling.{fewer_heard}
use Rattle.sip_helper.proofs.serving.HelperCoreHelps.take.Goals as goal

pub returns-clause-fewer : goal.returns-clause-fewer
returns-clause-fewer c = fewer_heard c.args.self.now c.hear.new.self c.args.message.now c.hear.result (subst (λ (n : ℕ). n ≤ most_depth) c.levels.ensures.same c.levels.ensures.most) c.requires.fits c.hear.ensures.turn.0 c.hear.ensures.heard
