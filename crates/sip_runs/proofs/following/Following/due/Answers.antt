-- What was due was said behind what was said before.
use Rattle.std.proofs.Common.{◌++◌}
use Rattle.sip_ports.specs.Ports.{outs}
use Rattle.sip_runs.specs.Runs.{due_bytes}
use Rattle.sip_runs.proofs.following.Following.due.Goals as goal

pub returns-clause-begun : goal.returns-clause-begun
returns-clause-begun g c =
    let (p, stream, events, is) = c.requires.begun in
    (p, stream, events ++ outs (due_bytes c.args.self.now), c.sent.ensures.followed p stream events is)
