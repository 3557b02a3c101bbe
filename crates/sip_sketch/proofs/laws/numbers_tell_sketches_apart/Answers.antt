use Rattle.sip_sketch.proofs.Apart.{sketches_same}
use Rattle.sip_sketch.proofs.laws.numbers_tell_sketches_apart.Goals as goal

pub returns : goal.returns
returns c = sketches_same
