-- The talk ended as the call that served it says, and what it said is what was new on the link.
use Rattle.sip_cli.proofs.ServeTalks.{said_over_store}
use Rattle.sip_cli.proofs.serving.serve.Goals as goal

pub returns-clause-serves : goal.returns-clause-serves
returns-clause-serves g c = (c.serve_store.result, c.status_of.ensures.status, c.serve_store.ensures.serves)

pub returns-clause-said : goal.returns-clause-said
returns-clause-said g c = said_over_store _ _ _ _ _ _ _ _ c.serve_store.ensures.serves

pub returns-clause-fault : goal.returns-clause-fault
returns-clause-fault g c = λ second seconds report reports keep keeps.
    c.status_of.ensures.fault _ _ c.serve_store.ensures.read c.serve_store.ensures.cause
