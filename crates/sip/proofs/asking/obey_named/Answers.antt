-- The words ask these questions.
use Rattle.sip.proofs.asking.obey_named.Goals as goal

pub ask_to_end-done-requires : goal.ask_to_end-done-requires
ask_to_end-done-requires c = (c.args.words.now, c.requires)
