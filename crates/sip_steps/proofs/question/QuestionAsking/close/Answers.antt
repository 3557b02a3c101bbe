-- The other end closed.
use Rattle.std.proofs.Common.{◌++◌, List, sym, ap, subst}
use Rattle.sip_ports.specs.declared.port.TalkEvent.{TalkEvent}
use Rattle.sip_steps.specs.declared.question.QuestionAsking.{QuestionAsking}
use Rattle.sip_steps.specs.Questioned.{IsAskedOf, IsOpened, IsSought, by_opening, end_of}
use Rattle.sip_steps.proofs.Calls.{opened_begun, opened_more, sought_more}
use Rattle.sip_steps.proofs.question.QuestionAsking.close.Goals as goal

pub close-requires : goal.close-requires
close-requires c =
    let b = c.requires.begun in
    record { begun = opened_begun b.0 b.1 c.in-Posed.posing (subst (λ (a : QuestionAsking). IsAskedOf b.0 b.1 a) c.in-Posed.is b.2) }

pub returns-in-Posed-clause-asked : goal.returns-in-Posed-clause-asked
returns-in-Posed-clause-asked c q events is =
    let own = subst (λ (a : QuestionAsking). IsAskedOf q events a) c.in-Posed.is is in
    subst (λ (e : List TalkEvent). IsOpened q (events ++ e) c.close.new.self) (ap end_of (sym c.in-Posed.is))
    (opened_more q events c.in-Posed.posing c.close.new.self _ own (c.close.ensures.posed (by_opening q own.opening) events own.talk))

pub returns-in-Posed-clause-begun : goal.returns-in-Posed-clause-begun
returns-in-Posed-clause-begun c =
    let b = c.requires.begun in
    (b.0, b.1 ++ end_of c.args.self.now, returns-in-Posed-clause-asked c b.0 b.1 b.2)

pub returns-in-Looked-clause-asked : goal.returns-in-Looked-clause-asked
returns-in-Looked-clause-asked c q events is =
    let own = subst (λ (a : QuestionAsking). IsAskedOf q events a) c.in-Looked.is is in
    subst (λ (e : List TalkEvent). IsSought q (events ++ e) c.close-in-Looked.new.self) (ap end_of (sym c.in-Looked.is))
    (sought_more q events c.in-Looked.looking c.close-in-Looked.new.self _ own c.close-in-Looked.ensures.asks (c.close-in-Looked.ensures.looked events own.talk))
