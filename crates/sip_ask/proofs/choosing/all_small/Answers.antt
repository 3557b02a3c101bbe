-- Each question was found to fit.
use Rattle.sip_ask.proofs.Tested.{all-fitting}
use Rattle.sip_ask.proofs.choosing.all_small.Goals as goal

pub is_small-requires-clause-fits : goal.is_small-requires-clause-fits
is_small-requires-clause-fits c =
    (c.args.depth, all-fitting c.args.depth c.args.questions.now c.requires.fit c.loop-index.index _ c.loop-index-test.true)
