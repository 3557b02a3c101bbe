use Rattle.sip_heavy.proofs.HonestSpellings.{marks_spelled}
use Rattle.sip_heavy.proofs.marks.honest_marks_have_spellings.Goals as goal

pub returns : goal.returns
returns c = λ p depth t n values weights can revealed. marks_spelled p depth n values weights can t revealed
