-- Bytes came.
use Rattle.std.proofs.Common.{◌++◌, take, subst}
use Rattle.sip_ports.specs.Ports.{ins}
use Rattle.sip_steps.specs.declared.question.QuestionAsking.{QuestionAsking}
use Rattle.sip_steps.specs.Questioned.{IsAskedOf, by_opening}
use Rattle.sip_steps.proofs.Calls.{opened_begun, opened_more, sought_more}
use Rattle.sip_steps.proofs.question.QuestionAsking.feed.Goals as goal

pub feed-requires : goal.feed-requires
feed-requires c =
    let b = c.requires.begun in
    record { begun = opened_begun b.0 b.1 c.in-Posed.posing (subst (λ (a : QuestionAsking). IsAskedOf b.0 b.1 a) c.in-Posed.is b.2) }

pub returns-in-Posed-clause-asked : goal.returns-in-Posed-clause-asked
returns-in-Posed-clause-asked c q events is =
    let own = subst (λ (a : QuestionAsking). IsAskedOf q events a) c.in-Posed.is is in
    opened_more q events c.in-Posed.posing c.feed.new.self (events ++ ins (take c.feed.result c.args.bytes.now)) own (c.feed.ensures.posed (by_opening q own.opening) events own.talk)

pub returns-in-Posed-clause-begun : goal.returns-in-Posed-clause-begun
returns-in-Posed-clause-begun c =
    let b = c.requires.begun in
    (b.0, b.1 ++ ins (take c.feed.result c.args.bytes.now), returns-in-Posed-clause-asked c b.0 b.1 b.2)

pub returns-in-Looked-clause-asked : goal.returns-in-Looked-clause-asked
returns-in-Looked-clause-asked c q events is =
    let own = subst (λ (a : QuestionAsking). IsAskedOf q events a) c.in-Looked.is is in
    sought_more q events c.in-Looked.looking c.feed-in-Looked.new.self (events ++ ins (take c.feed-in-Looked.result c.args.bytes.now)) own c.feed-in-Looked.ensures.asks (c.feed-in-Looked.ensures.looked events own.talk)
