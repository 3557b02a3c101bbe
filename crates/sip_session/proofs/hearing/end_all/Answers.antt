use Rattle.sip_verifier.proofs.FramesFit.{end_fits}
use Rattle.sip_session.proofs.hearing.end_all.Goals as goal

pub say_all-requires : goal.say_all-requires
say_all-requires g c = end_fits c.args.version
