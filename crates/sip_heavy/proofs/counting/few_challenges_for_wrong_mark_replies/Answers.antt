use Rattle.std.proofs.Common.{◌∙◌}
use Rattle.sip_heavy.specs.declared.form.LeafForm.TheVariants as forms
use Rattle.sip_heavy.specs.Counting.{asking_for}
use Rattle.sip_heavy.proofs.FewBytes.{few_fooled_by_bytes}
use Rattle.sip_heavy.specs.HonestMarks.{mark_leaves}
use Rattle.sip_heavy.proofs.MarkLeaves.{long_marks, marks_stand, marks_sum}
use Rattle.sip_heavy.proofs.counting.few_challenges_for_wrong_mark_replies.Goals as goal

pub returns : goal.returns
returns c = λ version p d t values weights strategy prime some size long weighed few.
    few_fooled_by_bytes version p (asking_for forms.Mark d t weights) (mark_leaves p values weights) values strategy prime (long_marks p values weights size ∙ long) (marks_stand p some values weights size weighed) (marks_sum p values weights size) few
