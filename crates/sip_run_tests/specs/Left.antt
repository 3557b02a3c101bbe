-- Questions of a run that are left.
use Rattle.std.specs.Prelude.{List}
use Rattle.sip_vector.specs.declared.update.Update.{Update}
use Rattle.sip_runs.specs.declared.to_ask.ToAsk.{ToAsk}
use Rattle.sip_runs.specs.Plans.{Plan}
use Rattle.sip_runs.specs.Runs.{IsToBeAsked}

-- they are those of some plan, with the numbers of some stream
abbrev pub AreLeft : ToAsk → Type 0
AreLeft t = (p : Plan) × (stream : List Update) × IsToBeAsked p stream t
