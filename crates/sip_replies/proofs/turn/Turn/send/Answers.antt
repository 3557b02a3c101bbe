use Rattle.std.proofs.Common.{subst}
use Rattle.sip_replies.specs.Following.{IsBelow}
use Rattle.sip_replies.proofs.Saying.{reveal_fits}
use Rattle.sip_replies.proofs.turn.Turn.send.Goals as goal

pub encode_reveal-requires : goal.encode_reveal-requires
encode_reveal-requires g c = reveal_fits c.args.self.now.version c.in-Reveals.challenge (subst IsBelow c.in-Reveals.is c.requires.below)
