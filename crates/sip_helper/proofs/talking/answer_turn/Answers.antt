-- A message may come or not, and its reply goes out whole or not.
use Rattle.std.proofs.Common.{◌≡◌, true, false, List, ℕ, rules, refl, sym, ap, subst, ◌∙◌}
use Rattle.std.specs.Prelude.{is_err, Err}
use Rattle.std.proofs.lemmas.Result.{err_from_is_err_and}
use Rattle.sip_ports.specs.Ports.{GoesOn, SendsWhole, outs}
use Rattle.sip_ports.proofs.TalkLemmas.{GoesOn-refl}
use Rattle.sip_helper.proofs.Turning.{refusal_cut, reply_cut, is_heard, not_allowed}
use Rattle.sip_helper.proofs.talking.answer_turn.Goals as goal

pub returns-in_err-refuse-clause-turn : goal.returns-in_err-refuse-clause-turn
returns-in_err-refuse-clause-turn g c =
    let failed : is_err c.take.result ≡ true = search rules in
    let r = g.H.Helps.rules in
    let out = not_allowed c.take.result (r.is_allowed c.args.helper.now c.args.message.now) c.take.ensures.turn failed in
    let p = err_from_is_err_and c.from_residual.result c.from_residual.ensures.1 in
    rw (p.1, p.2) (refusal_cut r c.args.helper.now c.args.message.now _ _ c.take.new.self c.args.offset c.in_err-refuse.field-0.0 out (rw c.version_due-version.ensures at c.in_err-refuse.ensures.talk))

pub returns-then-is_err-clause-turn : goal.returns-then-is_err-clause-turn
returns-then-is_err-clause-turn g c =
    let failed : is_err c.take.result ≡ true = search rules in
    let out = not_allowed c.take.result (g.H.Helps.rules.is_allowed c.args.helper.now c.args.message.now) c.take.ensures.turn failed in
    (refl, record { out = out; same = search rules; sent = rw c.version_due-version.ensures at c.in_ok-refuse.ensures.talk })

pub returns-in_err-send_reply-clause-turn : goal.returns-in_err-send_reply-clause-turn
returns-in_err-send_reply-clause-turn g c =
    let r = g.H.Helps.rules in
    let s = c.args.helper.now in
    let m = c.args.message.now in
    let heard = is_heard r s c.take.new.self m c.take.result (search rules) c.take.ensures.turn c.take.ensures.heard in
    let p = err_from_is_err_and c.from_residual-in_err-send_reply.result c.from_residual-in_err-send_reply.ensures.1 in
    let sent = subst (λ h. SendsWhole {T = Unit {0}} (g.K.Sink.talk c.args.out.now) (g.K.Sink.talk c.send_reply.new.out) (Err c.in_err-send_reply.field-0.0) (r.owed h)) heard.1.1 c.in_err-send_reply.ensures.talk in
    rw (p.1, p.2) (reply_cut r s m _ _ c.send_reply.new.self c.args.offset c.in_err-send_reply.field-0.0 heard.0 heard.1.0 sent)

pub returns-in_ok-send_reply-clause-turn : goal.returns-in_ok-send_reply-clause-turn
returns-in_ok-send_reply-clause-turn g c =
    let r = g.H.Helps.rules in
    let s = c.args.helper.now in
    let m = c.args.message.now in
    let heard = is_heard r s c.take.new.self m c.take.result (search rules) c.take.ensures.turn c.take.ensures.heard in
    record {
      allowed = heard.0;
      refused = heard.1.0;
      state = c.in_ok-send_reply.ensures.given ∙ ap r.after_answer heard.1.1;
      going = c.in_ok-send_reply.ensures.going;
      sent = subst (λ h. GoesOn (g.K.Sink.talk c.args.out.now) (g.K.Sink.talk c.send_reply.new.out) (outs (r.owed h))) heard.1.1 c.in_ok-send_reply.ensures.talk;
    }

pub returns-else-owes_reply-clause-turn : goal.returns-else-owes_reply-clause-turn
returns-else-owes_reply-clause-turn g c =
    let r = g.H.Helps.rules in
    let s = c.args.helper.now in
    let m = c.args.message.now in
    let heard = is_heard r s c.take.new.self m c.take.result (search rules) c.take.ensures.turn c.take.ensures.heard in
    let going : r.is_done c.take.new.self ≡ false = search rules in
    let nothing = c.owes_reply.ensures.none c.if-owes_reply.false in
    let same = c.owes_reply.ensures.same c.if-owes_reply.false in
    let talk = g.K.Sink.talk c.args.out.now in
    record {
      allowed = heard.0;
      refused = heard.1.0;
      state = sym same ∙ ap r.after_answer heard.1.1;
      going = going;
      sent = subst (λ (l : List ℕ). GoesOn talk talk (outs l)) (sym nothing ∙ ap r.owed heard.1.1) (GoesOn-refl talk);
    }
