-- The questions are those of the run, with the numbers of its stream.
use Rattle.sip_pieces.proofs.asking.run.Goals as goal

pub ask_all-requires : goal.ask_all-requires
ask_all-requires g c =
    let run = c.follow.ensures in
    (run.0, run.1, (c.in_ok-to_ask.ensures run.0 run.1 run.2 run.3).0)
