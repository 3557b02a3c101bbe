-- A message came, and is answered.
use Rattle.sip_wire.proofs.Wider.{fits_two}
use Rattle.sip_helper.proofs.Turning.{in_version, message_came, turn_taken}
use Rattle.sip_helper.proofs.talking.take_turn.Goals as goal

pub answer_turn-requires-clause-fits : goal.answer_turn-requires-clause-fits
answer_turn-requires-clause-fits g c =
    let did = rw (← c.message.ensures) at c.in_default.ensures.did in
    fits_two c.version_due-version.result c.message.result.now did.answer.has_spelling

pub returns-clause-turn : goal.returns-clause-turn
returns-clause-turn g c =
    let r = g.H.Helps.rules in
    let did = rw (← c.message.ensures) at c.in_default.ensures.did in
    let came = message_came r c.args.helper.now _ _ _ _ _ c.message.result.now (in_version r c.args.helper.now _ _ _ _ _ _ _ _ c.version_due-version.ensures c.place_due-place.ensures did) in
    turn_taken r c.args.helper.now c.message.result.now _ _ _ came.0 came.1 c.answer_turn.new.helper c.args.offset _ came.2 c.answer_turn.result c.answer_turn.ensures.turn
