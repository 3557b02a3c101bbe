use Rattle.std.proofs.Common.{rules}
use Rattle.sip_transcript.specs.Pasts.{events}
use Rattle.sip_transcript.proofs.Replaying.{count_received, told_received}
use Rattle.sip_transcript.proofs.link.TranscriptLinkLink.recv.Goals as goal

pub invariant_of-self-2-clause-replays : goal.invariant_of-self-2-clause-replays
invariant_of-self-2-clause-replays g c =
    told_received g.O.Origin.first (g.T.Loan.left c.args.self.now.source) _ (events c.args.self.now.past) (events c.received.new.self) c.in_ok-came.came c.read.new.buf
    c.received.ensures (search rules) c.in_ok-came.ensures.bytes c.args.self.now.replays

pub invariant_of-self-2-clause-counts : goal.invariant_of-self-2-clause-counts
invariant_of-self-2-clause-counts g c =
    let old = c.args.self.now.counts in
    let added = count_received (events c.args.self.now.past) (events c.received.new.self) c.in_ok-came.came c.read.new.buf c.received.ensures (search rules) in
    search (rules, old, added)
