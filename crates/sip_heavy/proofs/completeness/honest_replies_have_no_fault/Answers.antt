use Rattle.std.proofs.Common.{map}
use Rattle.sip_vector.specs.Trees.{leaf}
use Rattle.sip_heavy.specs.declared.form.LeafForm.TheVariants as forms
use Rattle.sip_heavy.specs.Honest.{honest_messages}
use Rattle.sip_heavy.proofs.HonestVerdicts.{asked_of, whole_unfinished, front_unfinished}
use Rattle.sip_heavy.proofs.completeness.honest_replies_have_no_fault.Goals as goal

pub returns-clause-whole : goal.returns-clause-whole
unfolding honest_messages
returns-clause-whole c = λ version p depth t n numbers revealed more can some reached short.
    whole_unfinished version p forms.Count depth t n (map (leaf p) numbers) numbers (asked_of version p depth t n numbers can some reached) revealed more short

pub returns-clause-front : goal.returns-clause-front
unfolding honest_messages
returns-clause-front c = λ version p depth t n numbers can some reached revealed r more front rest short is.
    front_unfinished version p forms.Count depth t n (map (leaf p) numbers) numbers (asked_of version p depth t n numbers can some reached) revealed r more short front rest is
