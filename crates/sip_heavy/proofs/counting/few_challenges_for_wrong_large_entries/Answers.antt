use Rattle.std.proofs.Common.{◌∙◌, arith}
use Rattle.sip_field.specs.LawProofs.Primes.{m61_prime}
use Rattle.sip_field.specs.Moduli.{m61_modulus}
use Rattle.sip_vector.specs.Splits.{weights}
use Rattle.sip_vector.specs.Streams.{vector}
use Rattle.sip_heavy.specs.declared.form.LeafForm.TheVariants as forms
use Rattle.sip_heavy.specs.Counting.{asking_for}
use Rattle.sip_heavy.proofs.FewBytes.{few_fooled_by_bytes}
use Rattle.sip_heavy.proofs.LegalMarks.{legal_weighed, legal_weight, long_weights, same_length}
use Rattle.sip_heavy.specs.HonestMarks.{mark_leaves}
use Rattle.sip_heavy.proofs.MarkLeaves.{long_marks, marks_stand, marks_sum}
use Rattle.sip_heavy.proofs.counting.few_challenges_for_wrong_large_entries.Goals as goal

pub returns : goal.returns
returns c = λ version d t stream side strategy legal.
    let values = vector d stream side in
    let counts = weights d stream side in
    let size = same_length d stream side in
    few_fooled_by_bytes version m61_modulus (asking_for forms.Mark d t counts) (mark_leaves m61_modulus values counts) values strategy m61_prime (long_marks m61_modulus values counts size ∙ long_weights d stream side)
    (marks_stand m61_modulus (omega arith) values counts size (legal_weighed d stream side legal)) (marks_sum m61_modulus values counts size) (legal_weight d stream side legal)
