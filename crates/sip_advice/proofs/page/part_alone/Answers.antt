-- Words of a command are refused nowhere.
use Rattle.std.proofs.Common.{◌≡◌, None, Some}
use Rattle.sip_words.proofs.Refusals.{spelled_not_refused}
use Rattle.sip_advice.proofs.page.part_alone.Goals as goal

pub returns-in-Ok-clause-part : goal.returns-in-Ok-clause-part
returns-in-Ok-clause-part c = λ text n asks refused. absurd (spelled_not_refused c.args.words.now c.in-Ok.field-0 n c.in-Ok.ensures.command refused)

pub returns-in_err-text-clause-part : goal.returns-in_err-text-clause-part
returns-in_err-text-clause-part c = λ text n asks refused. absurd (let h : None ≡ Some text = c.in_err-text.ensures.part text asks in cc)
