use Rattle.sip_transcript.proofs.Replaying.{replays_none}
use Rattle.sip_transcript.proofs.link.TranscriptLink.new.Goals as goal

pub invariant_of-result-clause-replays : goal.invariant_of-result-clause-replays
invariant_of-result-clause-replays g c = replays_none g.O.Origin.first _ c.requires.first
