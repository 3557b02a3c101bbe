use Rattle.sip_helper.proofs.Hearing.{refusal_fits}
use Rattle.sip_helper.proofs.refusal.put_refusal.Goals as goal

pub encode-requires : goal.encode-requires
encode-requires g c = refusal_fits c.args.version c.args.code c.requires.some c.requires.most
