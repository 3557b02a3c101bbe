-- A challenge that has a spelling is an element of the field.
use Rattle.std.proofs.Common.{◌≡◌, Option, Some, sym, subst, ◌∙◌}
use Rattle.std.specs.Prelude.{IfSome, IsTrue}
use Rattle.sip_wire.specs.declared.message.Message.{Message}
use Rattle.sip_wire.specs.declared.version.Version.TheVariants.{Two}
use Rattle.sip_wire.specs.Spelling.{fits}
use Rattle.sip_helper.specs.Turns.{depth_of}
use Rattle.sip_helper.proofs.Hearing.{element_fits}
use Rattle.sip_above.specs.declared.under_way.LargeUnderWay.{LargeUnderWay}
use Rattle.sip_questions.specs.inside.Keeping.{IsShown, again_of}
use Rattle.sip_questions.proofs.LargeKept.{shown_revealed}
use Rattle.sip_questions.proofs.serving.QuestionCore.learn_large.Goals.{in-Reveal, in_default-message}
use Rattle.sip_questions.proofs.serving.QuestionCore.learn_large.Goals as goal

pub reveal-requires-clause-element : goal.reveal-requires-clause-element
reveal-requires-clause-element c =
    element_fits Two c.in-Reveal.challenge
    (subst (λ (m : Message). IsTrue (fits Two m)) c.in-Reveal.is c.requires.fits)

pub invariant_of-self-2 : goal.invariant_of-self-2
invariant_of-self-2 c =
    let own = c.self.invariant in
    let core = c.self.inside.core in
    let again = again_of core c.self.inside.sizes in
    let shown : IsShown core again c.in-Some.large = subst (λ (o : Option LargeUnderWay). IfSome o (IsShown core again)) c.in-Some.is own.shown in
    let deep : c.in-Some-whole.depth ≡ depth_of core.heard = (let e : Some c.in-Some-whole.depth ≡ Some (depth_of core.heard) = sym c.in-Some-whole.is ∙ c.whole.ensures ∙ shown.whole in cc) in
    elim c.match-message.branch [
      | in-Reveal w ↦
          rw w.self-inside-is (record {
            few_lookups = own.few_lookups;
            few_moments = own.few_moments;
            sayable = own.sayable;
            ready = own.ready;
            read = own.read;
            shown = shown_revealed core again c.in-Some.large _ shown w.reveal.result w.get.result _ (w.get.ensures.same ∙ deep) w.reveal.ensures.revealed w.reveal.ensures.same w.reveal.ensures.stands;
          })
      | in_default-message w ↦
          rw w.self-inside-is (record {
            few_lookups = own.few_lookups;
            few_moments = own.few_moments;
            sayable = own.sayable;
            ready = own.ready;
            read = own.read;
            shown = shown;
          })
    ]
