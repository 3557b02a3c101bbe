use Rattle.sip_words.proofs.Spared.{spared_alike}
use Rattle.sip_words.proofs.sparing.unless.Goals as goal

pub returns : goal.returns
returns c = spared_alike c.is_among.ensures c.spared_if.ensures
