-- Before the stream has ended a message is heard as by a helper of queries.
use Rattle.std.specs.Option.{option_map}
use Rattle.sip_moments.specs.Serving.{MomentHelper}
use Rattle.sip_moments.specs.UnderWay.{open_of}
use Rattle.sip_moments.proofs.StreamTurns.{heard_on}
use Rattle.sip_moments.proofs.serving.MomentCoreHelps.take.Goals as goal

pub returns-in_default-clause-heard : goal.returns-in_default-clause-heard
returns-in_default-clause-heard c =
    let inside = c.self.inside in
    let s : MomentHelper = record {
      helper = inside.core;
      asked = inside.asked;
      question = option_map open_of inside.question;
      done = inside.done;
    } in
    rw (← c.self.view_is)
    (heard_on c.hear_on.result s c.hear_on.new.self c.args.message.now
    c.self.invariant.none c.hear_on.ensures.turn.0 c.hear_on.ensures.heard)
