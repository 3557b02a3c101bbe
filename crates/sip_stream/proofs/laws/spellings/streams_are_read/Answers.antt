use Rattle.sip_stream.proofs.ReadStreams.{stream_back}
use Rattle.sip_stream.proofs.laws.spellings.streams_are_read.Goals as goal

pub returns : goal.returns
returns c = stream_back
