use Rattle.std.proofs.Common.{map}
use Rattle.sip_vector.specs.Trees.{leaf}
use Rattle.sip_heavy.specs.declared.form.LeafForm.TheVariants as forms
use Rattle.sip_heavy.proofs.HonestLists.{lists_accepted}
use Rattle.sip_heavy.proofs.Sendable.{counts_counted}
use Rattle.sip_heavy.proofs.completeness.honest_lists_are_accepted.Goals as goal

pub returns : goal.returns
returns c = λ p depth t n numbers challenges can some reached size. lists_accepted p forms.Count depth t n (map (leaf p) numbers) numbers (counts_counted p depth n numbers can) some reached challenges size
