use Rattle.sip_heavy.specs.declared.form.LeafForm.TheVariants as forms
use Rattle.sip_heavy.specs.HonestMarks.{mark_leaves}
use Rattle.sip_heavy.proofs.HonestLists.{lists_accepted}
use Rattle.sip_heavy.proofs.Sendable.{marks_counted}
use Rattle.sip_heavy.proofs.marks.honest_mark_lists_are_accepted.Goals as goal

pub returns : goal.returns
returns c = λ p depth t n values weights challenges can some reached size. lists_accepted p forms.Mark depth t n (mark_leaves p values weights) values (marks_counted p depth n values weights can) some reached challenges size
