use Rattle.sip_wire.specs.declared.version.Version.TheVariants.{Two}
use Rattle.sip_heavy.specs.declared.form.LeafForm.TheVariants as forms
use Rattle.sip_heavy.specs.HonestMarks.{above_messages, mark_leaves}
use Rattle.sip_heavy.proofs.HonestVerdicts.{marks_asked, whole_unfinished, front_unfinished}
use Rattle.sip_heavy.proofs.marks.honest_mark_replies_have_no_fault.Goals as goal

pub returns-clause-whole : goal.returns-clause-whole
unfolding above_messages
returns-clause-whole c = λ p depth t n values weights revealed more can some reached short.
    whole_unfinished Two p forms.Mark depth t n (mark_leaves p values weights) values (marks_asked p depth t n values weights can some reached) revealed more short

pub returns-clause-front : goal.returns-clause-front
unfolding above_messages
returns-clause-front c = λ p depth t n values weights can some reached revealed r more front rest short is.
    front_unfinished Two p forms.Mark depth t n (mark_leaves p values weights) values (marks_asked p depth t n values weights can some reached) revealed r more short front rest is
