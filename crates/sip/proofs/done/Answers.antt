use Rattle.std.proofs.Common.{inr}
use Rattle.sip_words.proofs.Refusals.{spelled_not_refused}
use Rattle.sip.proofs.Endings.{never_of_page}
use Rattle.sip.proofs.done.Goals as goal

pub returns-in-Some-clause-spelled : goal.returns-in-Some-clause-spelled
returns-in-Some-clause-spelled c = λ command spells none.
    let refused = c.in-Some.ensures.refused (cc) in
    absurd (spelled_not_refused _ command _ spells refused.1)

pub returns-in-Some-clause-usage : goal.returns-in-Some-clause-usage
returns-in-Some-clause-usage c = λ word e.
    absurd (never_of_page _ _ _ _ word c.write_page.ensures.page e)

pub returns-in-None-clause-usage : goal.returns-in-None-clause-usage
returns-in-None-clause-usage c = λ word e. (c.obey_words.ensures.usage word).0 e

pub returns-in-None-clause-refused : goal.returns-in-None-clause-refused
returns-in-None-clause-refused c = λ word refused. inr ((c.obey_words.ensures.usage word).1 refused)
