use Rattle.sip_ask.proofs.StreamBytes.{spelled-back}
use Rattle.sip_ask.proofs.laws.each_legal_stream_has_bytes.Goals as goal

pub returns : goal.returns
returns c = spelled-back
