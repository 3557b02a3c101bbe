use Rattle.sip_heavy.proofs.HonestStreams.{none_weighed}
use Rattle.sip_wire.specs.declared.version.Version.TheVariants.{Two}
use Rattle.sip_heavy.proofs.marks.no_marks_are_asked_below.Goals as goal

pub returns : goal.returns
returns c = none_weighed Two
