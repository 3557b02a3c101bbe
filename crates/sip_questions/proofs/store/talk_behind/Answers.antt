-- Turn after turn.
use Rattle.std.proofs.Common.{Err, List, ◌∙◌, ap, length, subst, sym}
use Rattle.std.specs.Prelude.{IsTrue, not}
use Rattle.sip_ports.proofs.FaultLemmas.{Lasts-refl, Lasts-trans}
use Rattle.sip_vector.specs.declared.update.Update.{Update}
use Rattle.sip_wire.specs.Frames.{frame_bytes}
use Rattle.sip_wire.proofs.Wider.{fits_two}
use Rattle.sip_helper.specs.Turns.{HelperState}
use Rattle.sip_helper.proofs.Turning.{in_version, message_came, no_message, turn_taken}
use Rattle.sip_questions.specs.Serving.{QuestionHelper, question_rules}
use Rattle.sip_questions.specs.StoreFronts.{Recalls}
use Rattle.sip_questions.specs.inside.StoreTurns.{IsBehind}
use Rattle.sip_questions.proofs.BehindHeld.{answers_then, behind_begins, heard_of_it, room_left, tried_on, tries_keep, tries_out, turn_on}
use Rattle.sip_questions.proofs.store.talk_behind.Goals as goal

pub loop-fault-init : goal.loop-fault-init
loop-fault-init g c =
    let (r, us, is) = c.requires.stands in
    let again = g.B.Source.left c.args.again.now in
    let start = g.L.Sink.talk c.args.link.now in
    let core = c.args.core.now in
    let before = c.args.asked.received in
    record {
      goes = λ q vs it. behind_begins q vs c.args.form again core before start c.args.asked c.args.told.now it;
      room = room_left r us c.args.form again core before start start again _ core before (behind_begins r us c.args.form again core before start c.args.asked c.args.told.now is);
      live = ap (λ (s : QuestionHelper). not s.helper.spent) is.state;
      going = ap (λ (s : QuestionHelper). s.helper.done) is.state;
      again = Lasts-refl g.B.Source.faults g.B.Source.wants g.B.Source.is_sure c.args.again.now;
      lasts = Lasts-refl g.L.Sink.faults g.L.Sink.wants g.L.Sink.is_sure c.args.link.now;
    }

pub returns-in-Err-clause-serves : goal.returns-in-Err-clause-serves
returns-in-Err-clause-serves g c = λ r us is.
    let s = c.loop-fault.core in
    let goes = c.loop-fault.invariant.goes r us is in
    let did = in_version question_rules s _ _ _ _ _ _ _ _ c.version_due-version.ensures c.place_due-place.ensures c.in-Err.ensures.did in
    let stop = no_message question_rules s _ _ _ _ _ c.loop-fault.offset c.in-Err.fault did in
    rw c.of_fault.ensures (answers_then r us c.args.form (g.B.Source.left c.args.again.now) c.args.core.now c.args.asked.received (g.L.Sink.talk c.args.link.now) (g.L.Sink.talk c.loop-fault.link) (g.B.Source.left c.loop-fault.again) c.loop-fault.tried s c.loop-fault.offset goes is.state is.received _ _ stop)

pub try_again-tried-requires : goal.try_again-tried-requires
try_again-tried-requires g c =
    let (r, us, is) = c.requires.stands in
    let goes = c.loop-fault.invariant.goes r us is in
    record { stands = (r, us, heard_of_it r us c.args.form (g.B.Source.left c.args.again.now) c.args.core.now c.args.asked.received (g.L.Sink.talk c.args.link.now) (g.L.Sink.talk c.loop-fault.link) (g.B.Source.left c.loop-fault.again) c.loop-fault.tried c.loop-fault.core c.loop-fault.offset goes c.args.asked c.args.told.now is.count is.comes) }

pub answer_turn-requires : goal.answer_turn-requires
answer_turn-requires g c =
    let (r, us, is) = c.requires.stands in
    let goes = c.loop-fault.invariant.goes r us is in
    let heard = heard_of_it r us c.args.form (g.B.Source.left c.args.again.now) c.args.core.now c.args.asked.received (g.L.Sink.talk c.args.link.now) (g.L.Sink.talk c.loop-fault.link) (g.B.Source.left c.loop-fault.again) c.loop-fault.tried c.loop-fault.core c.loop-fault.offset goes c.args.asked c.args.told.now is.count is.comes in
    let kept = tries_keep r us c.args.form _ _ c.loop-fault.tried c.try_again-tried.result c.loop-fault.core c.try_again-tried.new.core c.message-came.result.now (c.try_again-tried.ensures.tries r us heard) in
    let did = rw (← c.message-came.ensures) at c.in_default.ensures.did in
    record {
      fits = fits_two c.version_due-version.result c.message-came.result.now did.answer.has_spelling;
      live = subst (λ (h : HelperState). IsTrue (not h.spent)) (sym kept.0) c.loop-fault.invariant.live;
      going = ap (λ (h : HelperState). h.done) kept.0 ∙ c.loop-fault.invariant.going;
    }

pub returns-in-Err-answer_turn-clause-serves : goal.returns-in-Err-answer_turn-clause-serves
returns-in-Err-answer_turn-clause-serves g c = λ r us is.
    let again = g.B.Source.left c.args.again.now in
    let start = g.L.Sink.talk c.args.link.now in
    let now = g.L.Sink.talk c.loop-fault.link in
    let unread = g.B.Source.left c.loop-fault.again in
    let later = g.B.Source.left c.try_again-tried.new.again in
    let s = c.loop-fault.core in
    let next = c.try_again-tried.new.core in
    let m = c.message-came.result.now in
    let goes = c.loop-fault.invariant.goes r us is in
    let heard = heard_of_it r us c.args.form again c.args.core.now c.args.asked.received start now unread c.loop-fault.tried s c.loop-fault.offset goes c.args.asked c.args.told.now is.count is.comes in
    let tries = c.try_again-tried.ensures.tries r us heard in
    let then_goes = tried_on r us c.args.form again c.args.core.now c.args.asked.received start now unread c.loop-fault.tried s c.loop-fault.offset goes m later next c.try_again-tried.result tries in
    let kept = tries_keep r us c.args.form unread later c.loop-fault.tried c.try_again-tried.result s next m tries in
    let did = rw (← c.message-came.ensures) at c.in_default.ensures.did in
    let same = c.version_due-version.ensures ∙ ap (λ (h : HelperState). h.version) (sym kept.0) in
    let came = message_came question_rules next _ _ _ _ _ m (in_version question_rules next _ _ _ _ _ _ _ _ same c.place_due-place.ensures did) in
    let stop = turn_taken question_rules next m _ _ _ came.0 came.1 c.answer_turn.new.helper c.loop-fault.offset _ came.2 (Err c.in-Err-answer_turn.status) c.in-Err-answer_turn.ensures.turn in
    answers_then r us c.args.form again c.args.core.now c.args.asked.received start now later c.try_again-tried.result next c.loop-fault.offset then_goes is.state is.received _ _ stop

pub loop-fault-preserved : goal.loop-fault-preserved
loop-fault-preserved g c =
    let again = g.B.Source.left c.args.again.now in
    let start = g.L.Sink.talk c.args.link.now in
    let now = g.L.Sink.talk c.loop-fault.link in
    let unread = g.B.Source.left c.loop-fault.again in
    let later = g.B.Source.left c.try_again-tried.new.again in
    let s = c.loop-fault.core in
    let next = c.try_again-tried.new.core in
    let m = c.message-came.result.now in
    let turned = λ (r : Recalls) (us : List Update) (is : IsBehind r us c.args.asked c.args.told.now c.args.core.now).
    let goes = c.loop-fault.invariant.goes r us is in
    let heard = heard_of_it r us c.args.form again c.args.core.now c.args.asked.received start now unread c.loop-fault.tried s c.loop-fault.offset goes c.args.asked c.args.told.now is.count is.comes in
    let tries = c.try_again-tried.ensures.tries r us heard in
    let then_goes = tried_on r us c.args.form again c.args.core.now c.args.asked.received start now unread c.loop-fault.tried s c.loop-fault.offset goes m later next c.try_again-tried.result tries in
    let kept = tries_keep r us c.args.form unread later c.loop-fault.tried c.try_again-tried.result s next m tries in
    let did = rw (← c.message-came.ensures) at c.in_default.ensures.did in
    let same = c.version_due-version.ensures ∙ ap (λ (h : HelperState). h.version) (sym kept.0) in
    let came = message_came question_rules next _ _ _ _ _ m (in_version question_rules next _ _ _ _ _ _ _ _ same c.place_due-place.ensures did) in
    turn_on r us c.args.form again c.args.core.now c.args.asked.received start now later c.try_again-tried.result next c.loop-fault.offset then_goes _ (g.L.Sink.talk c.answer_turn.new.out) m c.answer_turn.new.helper came.0 came.1 c.in_default-answer_turn.ensures.turn
    (tries_out r us c.args.form unread later c.loop-fault.tried c.try_again-tried.result s next m tries)
    (frame_bytes c.decode_within.new.frame) (length c.bytes.result.now) came.2 (ap length c.bytes.ensures) c.in_default-answer_turn.ensures.fewer in
    let (r, us, is) = c.requires.stands in
    record {
      goes = turned;
      room = room_left r us c.args.form again c.args.core.now c.args.asked.received start _ later c.try_again-tried.result c.answer_turn.new.helper _ (turned r us is);
      live = c.in_default-answer_turn.ensures.live;
      going = c.in_default-answer_turn.ensures.turn.going;
      again = Lasts-trans g.B.Source.faults g.B.Source.wants g.B.Source.is_sure c.args.again.now c.loop-fault.again c.try_again-tried.new.again c.loop-fault.invariant.again c.try_again-tried.ensures.again;
      lasts = Lasts-trans g.L.Sink.faults g.L.Sink.wants g.L.Sink.is_sure c.args.link.now c.decode_within.new.link c.answer_turn.new.out
          (Lasts-trans g.L.Sink.faults g.L.Sink.wants g.L.Sink.is_sure c.args.link.now c.loop-fault.link c.decode_within.new.link c.loop-fault.invariant.lasts c.decode_within.ensures.lasts)
          c.answer_turn.ensures.lasts;
    }
