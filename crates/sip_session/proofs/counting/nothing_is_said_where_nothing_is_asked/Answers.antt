use Rattle.sip_vector.specs.Streams.{vector}
use Rattle.sip_wire.specs.declared.version.Version.TheVariants.{One}
use Rattle.sip_verifier.proofs.JointReports.{none_heavy}
use Rattle.sip_session.proofs.Unasked.{accepted, none_said, none_shared}
use Rattle.sip_session.proofs.counting.nothing_is_said_where_nothing_is_asked.Goals as goal

pub returns-clause-heavy : goal.returns-clause-heavy
returns-clause-heavy c = λ version p depth n t stream side block strict sum less. (
  accepted version p depth n t stream side block sum less,
  none_said version p depth t (vector depth stream side),
  none_heavy version p depth n t stream side block strict sum less,
)

pub returns-clause-share : goal.returns-clause-share
returns-clause-share c = λ depth n num den stream side legal strict some sum less. none_shared One depth n num den stream side legal strict some sum less
