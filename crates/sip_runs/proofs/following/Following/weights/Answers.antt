-- The weights are those of the stream that was measured.
use Rattle.sip_runs.proofs.Weighed.{weighed}
use Rattle.sip_runs.proofs.following.Following.weights.Goals as goal

pub returns : goal.returns
returns c = λ p stream events is. weighed stream c.args.self.now.measure _ is.measured c.weight.ensures c.weight-2.ensures
