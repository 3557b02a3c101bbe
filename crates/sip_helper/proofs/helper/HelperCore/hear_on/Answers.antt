-- Any message but a farewell is heard as by `hear`.
use Rattle.std.proofs.Common.{◌≤◌, ℕ, sym, subst, ◌∙◌}
use Rattle.sip_vector.specs.Limits.{most_depth}
use Rattle.sip_helper.proofs.Falling.{fewer_heard_on, hears_as}
use Rattle.sip_helper.proofs.helper.HelperCore.hear_on.Goals as goal

pub returns-in_default : goal.returns-in_default
returns-in_default c =
    let same = hears_as c.args.self.now c.args.message.now c.in_default.not-Bye in
    record {
      turn = (λ ok. same ∙ c.hear.ensures.turn.0 ok, λ may. c.hear.ensures.turn.1 (sym same ∙ may));
      heard = c.hear.ensures.heard;
      same = c.hear.ensures.same;
      fewer = fewer_heard_on c.args.self.now c.hear.new.self c.args.message.now c.hear.result (subst (λ (n : ℕ). n ≤ most_depth) c.levels.ensures.same c.levels.ensures.most) c.requires.fits c.in_default.not-Bye c.hear.ensures.turn.0 c.hear.ensures.heard;
    }
