use Rattle.std.proofs.Common.{subst}
use Rattle.sip_cli.specs.Statuses.{Ends}
use Rattle.sip_words.proofs.Refusals.{command_once, spelled_not_refused}
use Rattle.sip_cli.proofs.RunLemmas.{usage_at}
use Rattle.sip.proofs.obey_words.Goals as goal

pub returns-in-Ok-clause-spelled : goal.returns-in-Ok-clause-spelled
returns-in-Ok-clause-spelled c = λ command spells none.
    subst (λ k. Ends k c.obey_command.result) (command_once _ _ command c.in-Ok.ensures.command spells)
    (c.obey_command.ensures.spelled none)

pub returns-in-Ok-clause-usage : goal.returns-in-Ok-clause-usage
returns-in-Ok-clause-usage c = λ word. (
  λ e. absurd (c.obey_command.ensures.usage word e),
  λ refused. absurd (spelled_not_refused _ _ word c.in-Ok.ensures.command refused),
)

pub returns-in-Err-clause-spelled : goal.returns-in-Err-clause-spelled
returns-in-Err-clause-spelled c = λ command spells none.
    absurd (spelled_not_refused _ command _ spells c.in-Err.ensures.refused)

pub returns-in-Err-clause-usage : goal.returns-in-Err-clause-usage
returns-in-Err-clause-usage c = λ word. usage_at _ _ word c.in-Err.ensures.refused
