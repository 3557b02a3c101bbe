-- What was due was said, and nothing waits.
use Rattle.std.proofs.Common.{ap, ◌∙◌}
use Rattle.sip_runs.specs.Runs.{step_after}
use Rattle.sip_runs.proofs.SentOn.{sent_on}
use Rattle.sip_runs.proofs.following.Following.sent.Goals as goal

pub returns-clause-followed : goal.returns-clause-followed
returns-clause-followed c = λ p stream events is.
    sent_on p stream events c.args.self.now c.pass_on.new.self c.after-self.result is (c.pass_on.ensures.passed p stream events is) c.requires.due
    (c.after-self.ensures ∙ ap step_after c.pass_on.ensures.step)
