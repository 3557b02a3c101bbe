-- A fault, a message that asks nothing, and a query.
use Rattle.std.proofs.Common.{sym, ap, ◌∙◌, rules}
use Rattle.sip_verifier.specs.Tasks.{CanBeAsked}
use Rattle.sip_transcript.specs.Fields.{if_fits}
use Rattle.sip_transcript.proofs.Framing.{asked_of, asks-none, asks-query, unfit}
use Rattle.sip_transcript.proofs.fields.query_in.Goals as goal

pub returns-in-Err : goal.returns-in-Err
returns-in-Err c = asks-none c.args.version c.args.depth c.args.frame.now c.read-outcome.result c.read-outcome.ensures.answer c.read-outcome.ensures.closed (ap (asked_of c.args.depth) c.in-Err.is)

pub returns-in-None : goal.returns-in-None
returns-in-None c =
    let none = sym c.query_of-question.ensures ∙ c.in-None.is in
    asks-none c.args.version c.args.depth c.args.frame.now c.read-outcome.result c.read-outcome.ensures.answer c.read-outcome.ensures.closed (ap (asked_of c.args.depth) c.in-Ok.is ∙ ap (if_fits c.args.depth) none)

pub returns-then-can_be_asked : goal.returns-then-can_be_asked
returns-then-can_be_asked c =
    let took = rw c.in-Ok.is at c.read-outcome.ensures.answer in
    let fit : CanBeAsked c.args.depth c.in-Some.query = search rules in
    asks-query c.args.version c.args.depth c.args.frame.now c.in-Ok.message c.in-Some.query took (sym c.query_of-question.ensures ∙ c.in-Some.is) fit

pub returns-else-can_be_asked : goal.returns-else-can_be_asked
returns-else-can_be_asked c =
    let is = sym c.query_of-question.ensures ∙ c.in-Some.is in
    asks-none c.args.version c.args.depth c.args.frame.now c.read-outcome.result c.read-outcome.ensures.answer c.read-outcome.ensures.closed
    (ap (asked_of c.args.depth) c.in-Ok.is ∙ ap (if_fits c.args.depth) is ∙ unfit c.args.depth c.in-Some.query (λ fit. search rules))
