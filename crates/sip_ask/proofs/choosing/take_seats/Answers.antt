-- Each question was found to fit.
use Rattle.sip_ask.proofs.Tested.{all-fitting}
use Rattle.sip_ask.proofs.choosing.take_seats.Goals as goal

pub seat_for-requires-clause-fits : goal.seat_for-requires-clause-fits
seat_for-requires-clause-fits c =
    all-fitting c.args.sketch.now.depth c.args.questions.now c.requires.fit c.loop-question.question-index _ c.loop-question-test.true
