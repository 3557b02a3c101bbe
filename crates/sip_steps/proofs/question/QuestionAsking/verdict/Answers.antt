-- What is said of a question is what whoever asks over a link has.
use Rattle.std.proofs.Common.{◌≡◌, None, Option, Result, Some, not, rules, sym, ap, subst, ◌∙◌}
use Rattle.sip_replies.proofs.Stepping.{open_of}
use Rattle.sip_verifier.specs.declared.asker.Unanswered.{Unanswered}
use Rattle.sip_lookup.specs.declared.answer.LookAnswer.{LookAnswer}
use Rattle.sip_steps.specs.declared.opening.Opening.{Opening}
use Rattle.sip_steps.specs.declared.question.QuestionAsking.{QuestionAsking}
use Rattle.sip_steps.specs.Looked.{SaysLooked}
use Rattle.sip_steps.specs.Questioned.{IsAskedOf, by_opening, given_of, look_given}
use Rattle.sip_steps.specs.Posed.{stage_at}
use Rattle.sip_steps.proofs.Calls.{posed_opening}
use Rattle.sip_steps.proofs.Judged.{posed_judged, sought_judged, verdict_closes}
use Rattle.sip_steps.proofs.Questionings.{posed_open, posed_said, sought_open, sought_said}
use Rattle.sip_steps.proofs.question.QuestionAsking.verdict.Goals as goal

pub returns-in_err-asked-in-Posed-clause-comes : goal.returns-in_err-asked-in-Posed-clause-comes
returns-in_err-asked-in-Posed-clause-comes c q stream events of is =
    let p = c.in-Posed.posing in
    let own = subst (λ (a : QuestionAsking). IsAskedOf q events a) c.in-Posed.is is in
    let none : c.verdict.result ≡ None = search rules in
    let unsaid : c.from_residual.result ≡ None = search rules in
    rw unsaid (posed_open q stream events p of own (sym c.verdict.ensures ∙ none))

pub returns-in_ok-asked-in-Posed-clause-comes : goal.returns-in_ok-asked-in-Posed-clause-comes
returns-in_ok-asked-in-Posed-clause-comes c q stream events of is =
    let p = c.in-Posed.posing in
    let own = subst (λ (a : QuestionAsking). IsAskedOf q events a) c.in-Posed.is is in
    let asked = c.in_ok-asked-in-Posed.asked in
    let some : c.verdict.result ≡ Some asked = search rules in
    let opening = c.opening.ensures ∙ posed_opening (by_opening q own.opening) events p own.talk in
    let same = c.given_of.ensures ∙ ap (λ (o : Opening). given_of o asked) opening in
    rw (same, c.in-Posed.is) (posed_said q stream events p of own asked (sym c.verdict.ensures ∙ some))

pub returns-in_err-looked-in-Looked-clause-comes : goal.returns-in_err-looked-in-Looked-clause-comes
returns-in_err-looked-in-Looked-clause-comes c q stream events of is =
    let l = c.in-Looked.looking in
    let own = subst (λ (a : QuestionAsking). IsAskedOf q events a) c.in-Looked.is is in
    let none : c.verdict-in-Looked.result ≡ None = search rules in
    let unsaid : c.from_residual-in_err-looked-in-Looked.result ≡ None = search rules in
    let says = subst (λ (r : Option (Result LookAnswer Unanswered)). SaysLooked l.depth l.lookup l.step r) none c.verdict-in-Looked.ensures in
    rw unsaid (sought_open q stream events l of own says)

pub returns-in_ok-looked-in-Looked-clause-comes : goal.returns-in_ok-looked-in-Looked-clause-comes
returns-in_ok-looked-in-Looked-clause-comes c q stream events of is =
    let l = c.in-Looked.looking in
    let own = subst (λ (a : QuestionAsking). IsAskedOf q events a) c.in-Looked.is is in
    let looked = c.in_ok-looked-in-Looked.looked in
    let some : c.verdict-in-Looked.result ≡ Some looked = search rules in
    let says = subst (λ (r : Option (Result LookAnswer Unanswered)). SaysLooked l.depth l.lookup l.step r) some c.verdict-in-Looked.ensures in
    let same = c.look_given.ensures ∙ ap (λ x. look_given x looked) c.lookup.ensures in
    rw (same, c.in-Looked.is) (sought_said q stream events l of own looked says)

-- where nothing is said yet there is no verdict, and else there is

pub returns-in_err-asked-in-Posed-clause-open : goal.returns-in_err-asked-in-Posed-clause-open
returns-in_err-asked-in-Posed-clause-open c =
    let none : c.verdict.result ≡ None = search rules in
    let unsaid : c.from_residual.result ≡ None = search rules in
    rw (unsaid, c.in-Posed.is) (sym (open_of (stage_at c.in-Posed.posing) (sym c.verdict.ensures ∙ none)))

pub returns-in_ok-asked-in-Posed-clause-open : goal.returns-in_ok-asked-in-Posed-clause-open
returns-in_ok-asked-in-Posed-clause-open c =
    let some : c.verdict.result ≡ Some c.in_ok-asked-in-Posed.asked = search rules in
    rw c.in-Posed.is (sym (verdict_closes (stage_at c.in-Posed.posing) c.in_ok-asked-in-Posed.asked (sym c.verdict.ensures ∙ some)))

pub returns-in_ok-asked-in-Posed-clause-judged : goal.returns-in_ok-asked-in-Posed-clause-judged
returns-in_ok-asked-in-Posed-clause-judged c =
    let asked = c.in_ok-asked-in-Posed.asked in
    let some : c.verdict.result ≡ Some asked = search rules in
    rw c.given_of.ensures (posed_judged c.opening.result (stage_at c.in-Posed.posing) asked (sym c.verdict.ensures ∙ some))

pub returns-in_err-looked-in-Looked-clause-open : goal.returns-in_err-looked-in-Looked-clause-open
returns-in_err-looked-in-Looked-clause-open c =
    let l = c.in-Looked.looking in
    let none : c.verdict-in-Looked.result ≡ None = search rules in
    let unsaid : c.from_residual-in_err-looked-in-Looked.result ≡ None = search rules in
    let says = subst (λ (r : Option (Result LookAnswer Unanswered)). SaysLooked l.depth l.lookup l.step r) none c.verdict-in-Looked.ensures in
    rw (unsaid, c.in-Looked.is) (sym (ap not says))

pub returns-in_ok-looked-in-Looked-clause-open : goal.returns-in_ok-looked-in-Looked-clause-open
returns-in_ok-looked-in-Looked-clause-open c =
    let l = c.in-Looked.looking in
    let some : c.verdict-in-Looked.result ≡ Some c.in_ok-looked-in-Looked.looked = search rules in
    let says = subst (λ (r : Option (Result LookAnswer Unanswered)). SaysLooked l.depth l.lookup l.step r) some c.verdict-in-Looked.ensures in
    rw c.in-Looked.is (sym (ap not says.0))

pub returns-in_ok-looked-in-Looked-clause-judged : goal.returns-in_ok-looked-in-Looked-clause-judged
returns-in_ok-looked-in-Looked-clause-judged c =
    let l = c.in-Looked.looking in
    let looked = c.in_ok-looked-in-Looked.looked in
    let some : c.verdict-in-Looked.result ≡ Some looked = search rules in
    let says = subst (λ (r : Option (Result LookAnswer Unanswered)). SaysLooked l.depth l.lookup l.step r) some c.verdict-in-Looked.ensures in
    let same = c.look_given.ensures ∙ ap (λ x. look_given x looked) c.lookup.ensures in
    rw same (sought_judged l.depth l.lookup l.step looked says)
