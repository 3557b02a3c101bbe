-- Words of a command are refused nowhere.
use Rattle.std.proofs.Common.{◌≡◌, None, Some}
use Rattle.sip_words.proofs.Refusals.{spelled_not_refused}
use Rattle.sip_advice.proofs.page.page_without_file.Goals as goal

pub returns-in-Err-clause-part : goal.returns-in-Err-clause-part
returns-in-Err-clause-part c = λ text command asks spells. absurd (spelled_not_refused c.args.words.now command c.in-Err.field-0.word spells c.in-Err.ensures.refused)

pub returns-in_err-text-clause-part : goal.returns-in_err-text-clause-part
returns-in_err-text-clause-part c = λ text command asks spells. absurd (let h : None ≡ Some text = c.in_err-text.ensures.part text asks in cc)
