-- The reply that is owed about large entries.
use Rattle.std.proofs.Common.{◌≡◌, ℕ, List, Option, Some, ap, sym, subst, ◌∙◌}
use Rattle.std.specs.Prelude.{IfSome}
use Rattle.std.specs.Option.{option_map}
use Rattle.std.proofs.lemmas.Result.{err_from_is_err_and}
use Rattle.sip_ports.specs.Ports.{GoesOn, SendsWhole, outs}
use Rattle.sip_helper.specs.Turns.{depth_of}
use Rattle.sip_above.specs.declared.under_way.LargeUnderWay.{LargeUnderWay}
use Rattle.sip_above.specs.UnderWay.{open_of}
use Rattle.sip_questions.specs.Serving.{weighed}
use Rattle.sip_questions.specs.inside.Keeping.{IsShown, again_of}
use Rattle.sip_questions.proofs.LargeKept.{level_owed, shown_after}
use Rattle.sip_questions.proofs.serving.QuestionCore.say_level.Goals as goal
use Rattle.sip_questions.proofs.serving.QuestionCore.say_level.Goals.{in-Some-take, in-None}

pub returns-in_err-put_reply-clause-talk : goal.returns-in_err-put_reply-clause-talk
returns-in_err-put_reply-clause-talk g c =
    let core = c.self.inside.core in
    let again = again_of core c.self.inside.sizes in
    let q = c.in-Some.large in
    let shown : IsShown core again q = subst (λ (o : Option LargeUnderWay). IfSome o (IsShown core again)) c.in-Some.is c.self.invariant.shown in
    let owed_is = level_owed _ c.args.self.now (open_of q) c.self.view_is c.requires.none (ap (option_map open_of) c.in-Some.is) c.requires.owes shown.two in
    let p = err_from_is_err_and c.from_residual.result c.from_residual.ensures.1 in
    let sent = c.in_err-put_reply.ensures.talk (depth_of core.heard) (weighed core again q.large.side) shown.can in
    subst (λ (l : List ℕ). SendsWhole (g.K.Sink.talk c.args.out.now) (g.K.Sink.talk c.put_reply.new.out) c.from_residual.result l) owed_is (rw p.1 sent)

pub invariant_of-self : goal.invariant_of-self
invariant_of-self g c =
    let own = c.self.invariant in
    let core = c.self.inside.core in
    let again = again_of core c.self.inside.sizes in
    let q = c.in-Some.large in
    let shown : IsShown core again q = subst (λ (o : Option LargeUnderWay). IfSome o (IsShown core again)) c.in-Some.is own.shown in
    let deep : c.in-Some-whole.depth ≡ depth_of core.heard = (let e : Some c.in-Some-whole.depth ≡ Some (depth_of core.heard) = sym c.in-Some-whole.is ∙ c.whole.ensures ∙ shown.whole in cc) in
    record {
      few_lookups = own.few_lookups;
      few_moments = own.few_moments;
      sayable = own.sayable;
      ready = own.ready;
      read = own.read;
      shown = elim c.match-take.branch [
        | in-Some-take w ↦
            let taken = subst (λ (o : Option LargeUnderWay). IfSome o (IsShown core again)) (sym w.in-Some-take.ensures.value) own.shown in
            rw w.t-17-is (shown_after core again w.in-Some-take.large w.get.result w.after_reply.result taken (w.get.ensures.same ∙ deep) w.after_reply.ensures.after w.after_reply.ensures.stands)
        | in-None w ↦ rw w.t-17-is tt
      ];
    }

pub returns-clause-talk : goal.returns-clause-talk
returns-clause-talk g c =
    let core = c.self.inside.core in
    let again = again_of core c.self.inside.sizes in
    let q = c.in-Some.large in
    let shown : IsShown core again q = subst (λ (o : Option LargeUnderWay). IfSome o (IsShown core again)) c.in-Some.is c.self.invariant.shown in
    let owed_is = level_owed _ c.args.self.now (open_of q) c.self.view_is c.requires.none (ap (option_map open_of) c.in-Some.is) c.requires.owes shown.two in
    let sent = c.in_ok-put_reply.ensures.talk (depth_of core.heard) (weighed core again q.large.side) shown.can in
    subst (λ (l : List ℕ). GoesOn (g.K.Sink.talk c.args.out.now) (g.K.Sink.talk c.put_reply.new.out) (outs l)) owed_is sent
