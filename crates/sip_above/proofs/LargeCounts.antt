-- Wrong large entries are accepted at few challenges, and what accepted replies state is counted.
use Rattle.std.proofs.Common.{◌≡◌, ℕ, List, ℤ, subst, ◌∙◌, arith}
use Rattle.sip_field.specs.LawProofs.Primes.{m61_prime}
use Rattle.sip_field.specs.Moduli.{m61_modulus}
use Rattle.sip_vector.specs.declared.update.Entry.{Entry}
use Rattle.sip_vector.specs.declared.update.Update.{Update}
use Rattle.sip_vector.specs.Answers.{pairs}
use Rattle.sip_vector.specs.Streams.{IsLegal}
use Rattle.sip_vector.specs.Trees.{Counted}
use Rattle.sip_wire.specs.declared.version.Version.{Version}
use Rattle.sip_replies.specs.Replies.{IsAccepted}
use Rattle.sip_heavy.specs.declared.form.LeafForm.TheVariants as forms
use Rattle.sip_heavy.specs.AcceptsHeavy.{HeavyQuestion}
use Rattle.sip_heavy.specs.Counting.{asking_for}
use Rattle.sip_heavy.specs.HonestMarks.{mark_leaves}
use Rattle.sip_heavy.proofs.FewBytes.{few_fooled_by_bytes, written_counts}
use Rattle.sip_heavy.proofs.LegalMarks.{legal_weighed, legal_weight, long_weights, same_length}
use Rattle.sip_heavy.proofs.MarkLeaves.{long_marks, marks_stand, marks_sum}
use Rattle.sip_verifier.specs.runs.Manners.{Question}
use Rattle.sip_above.specs.declared.large.Large.{Large}
use Rattle.sip_above.specs.Manner.{CountsFor, FewFor, protocol_of, values_of, weights_of}

module _ (version : Version) (depth : ℕ) (stream : List Update) (l : Large) (legal : IsLegal depth stream) where
  abbrev values : List ℤ
  values = values_of depth stream l

  abbrev heavy : List ℤ
  heavy = weights_of depth stream l

  abbrev q : HeavyQuestion
  q = asking_for forms.Mark depth l.at_least heavy

  abbrev leaves : List Counted
  leaves = mark_leaves m61_modulus values heavy

  pub few_large : FewFor version depth stream l
  few_large = λ strategy bytes.
      let size = same_length depth stream l.side in
      few_fooled_by_bytes version m61_modulus q leaves values strategy m61_prime (long_marks m61_modulus values heavy size ∙ long_weights depth stream l.side)
      (marks_stand m61_modulus (omega arith) values heavy size (legal_weighed depth stream l.side legal)) (marks_sum m61_modulus values heavy size) (legal_weight depth stream l.side legal)

pub large_counts : (version : Version) (depth : ℕ) (stream : List Update) (q : Question Large) (written : List Entry) → IsLegal depth stream
    → IsAccepted (protocol_of version depth stream q) q.block q.replies (pairs written) → CountsFor version depth stream q written
large_counts version depth stream question written legal accepted = record {
  few = few_large version depth stream question.query legal;
  counts = λ strategy stated talk same wrong.
      let is : written ≡ stated = cc in
      written_counts version m61_modulus (q version depth stream question.query legal) (leaves version depth stream question.query legal) (values version depth stream question.query legal) strategy question.block question.replies stated
      (subst (λ (es : List Entry). IsAccepted (protocol_of version depth stream question) question.block question.replies (pairs es)) is accepted) talk wrong;
}
