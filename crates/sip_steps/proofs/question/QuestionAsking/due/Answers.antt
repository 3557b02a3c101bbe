-- What is due goes out.
use Rattle.std.proofs.Common.{◌++◌, List, ℕ, sym, ap, subst, ◌∙◌}
use Rattle.sip_ports.specs.Ports.{outs}
use Rattle.sip_steps.specs.declared.question.QuestionAsking.{QuestionAsking}
use Rattle.sip_steps.specs.declared.question.QuestionAsking.TheVariants as askings
use Rattle.sip_steps.specs.Questioned.{IsAskedOf, IsOpened, IsSought, by_opening, due_of}
use Rattle.sip_steps.proofs.Calls.{opened_begun, opened_more, question_after, sought_more}
use Rattle.sip_steps.proofs.Cases.{on_err, on_ok}
use Rattle.sip_steps.proofs.question.QuestionAsking.due.Goals as goal

pub due-requires : goal.due-requires
due-requires g c =
    let b = c.requires.begun in
    record { begun = opened_begun b.0 b.1 c.in-Posed.posing (subst (λ (a : QuestionAsking). IsAskedOf b.0 b.1 a) c.in-Posed.is b.2) }

pub returns-in-Posed-clause-asked : goal.returns-in-Posed-clause-asked
returns-in-Posed-clause-asked g c q events is =
    let own = subst (λ (a : QuestionAsking). IsAskedOf q events a) c.in-Posed.is is in
    on_ok c.due.result
    (λ talk. subst (λ (b : List ℕ). IsOpened q (events ++ outs b) c.due.new.self) (ap due_of (sym c.in-Posed.is)) (opened_more q events c.in-Posed.posing c.due.new.self _ own talk))
    (c.due.ensures.posed (by_opening q own.opening) events own.talk)

pub returns-in-Posed-clause-begun : goal.returns-in-Posed-clause-begun
returns-in-Posed-clause-begun g c =
    let b = c.requires.begun in
    question_after c.due.result b.0 b.1 (b.1 ++ outs (due_of c.args.self.now)) c.args.self.now (askings.Posed c.due.new.self) b.2
    (returns-in-Posed-clause-asked g c b.0 b.1 b.2)
    (on_err c.due.result (λ same. ap askings.Posed same ∙ sym c.in-Posed.is) c.due.ensures.same)

pub returns-in-Looked-clause-asked : goal.returns-in-Looked-clause-asked
returns-in-Looked-clause-asked g c q events is =
    let own = subst (λ (a : QuestionAsking). IsAskedOf q events a) c.in-Looked.is is in
    on_ok c.due-in-Looked.result
    (λ talk. subst (λ (b : List ℕ). IsSought q (events ++ outs b) c.due-in-Looked.new.self) (ap due_of (sym c.in-Looked.is)) (sought_more q events c.in-Looked.looking c.due-in-Looked.new.self _ own c.due-in-Looked.ensures.asks talk))
    (c.due-in-Looked.ensures.looked events own.talk)
