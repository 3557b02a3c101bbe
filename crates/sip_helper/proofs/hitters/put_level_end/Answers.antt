-- The end of a level has a spelling in each version.
use Rattle.sip_heavy.proofs.HonestFrames.{end_fits}
use Rattle.sip_helper.proofs.hitters.put_level_end.Goals as goal

pub encode-requires : goal.encode-requires
encode-requires g c = end_fits c.args.version
