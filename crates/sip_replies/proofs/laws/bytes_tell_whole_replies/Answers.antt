use Rattle.sip_replies.proofs.Agreeing.{run_same}
use Rattle.sip_replies.proofs.laws.bytes_tell_whole_replies.Goals as goal

pub returns : goal.returns
returns g c rules block some others rest last t u first second count e =
    run_same rules 0 block rules.start some others rest last t u first second count e
