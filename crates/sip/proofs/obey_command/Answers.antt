use Rattle.sip_cli.specs.Statuses.{Ends}
use Rattle.sip_words.proofs.Refusals.{spelled_not_refused}
use Rattle.sip_cli.proofs.RunLemmas.{usage_never}
use Rattle.sip.proofs.Endings.{ends_or_wants, never_of_page}
use Rattle.sip.proofs.obey_command.Goals as goal

pub returns-in-Some-clause-spelled : goal.returns-in-Some-clause-spelled
returns-in-Some-clause-spelled c = λ none.
    absurd (none _ c.in-Some.ensures)

pub returns-in-Some-clause-usage : goal.returns-in-Some-clause-usage
returns-in-Some-clause-usage c = λ word e.
    never_of_page _ _ _ _ word c.write_page.ensures.page e

pub returns-in-None-clause-spelled : goal.returns-in-None-clause-spelled
returns-in-None-clause-spelled c = λ none.
    rw c.unwrap_or.ensures (ends_or_wants _ _ c.obey_opened.ensures)

pub returns-in-None-clause-usage : goal.returns-in-None-clause-usage
returns-in-None-clause-usage c = λ word e.
    let ends : Ends c.args.command.now c.unwrap_or.result = rw c.unwrap_or.ensures (ends_or_wants _ _ c.obey_opened.ensures) in
    spelled_not_refused _ _ word c.requires ((usage_never _ _ _ word c.requires ends).0 e)
