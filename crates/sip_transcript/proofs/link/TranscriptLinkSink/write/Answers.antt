use Rattle.std.proofs.Common.{◌∙◌, sym}
use Rattle.sip_transcript.specs.Pasts.{events}
use Rattle.sip_transcript.proofs.Replaying.{count_sent, told_sent}
use Rattle.sip_transcript.proofs.link.TranscriptLinkSink.write.Goals as goal

pub invariant_of-self-clause-replays : goal.invariant_of-self-clause-replays
invariant_of-self-clause-replays g c = told_sent g.O.Origin.first _ (events c.args.self.now.past) (events c.sent.new.self) c.args.buf.now c.sent.ensures c.args.self.now.replays

pub invariant_of-self-clause-counts : goal.invariant_of-self-clause-counts
invariant_of-self-clause-counts g c = c.args.self.now.counts ∙ sym (count_sent (events c.args.self.now.past) (events c.sent.new.self) c.args.buf.now c.sent.ensures)
