-- The talk ended as the call that served it says, and what it said is what was new on the link.
use Rattle.sip_cli.proofs.helping.help_look.Goals as goal

pub returns-clause-help : goal.returns-clause-help
returns-clause-help g c = (c.serve_look.result, c.status_of.ensures.status, c.serve_look.ensures.serves)

pub returns-clause-ends : goal.returns-clause-ends
returns-clause-ends g c = record {
  said = (let serves = c.serve_look.ensures.serves in (_, serves.talk));
  fault = λ first firsts second seconds report reports keep keeps. c.status_of.ensures.fault _ _ c.serve_look.ensures.cause;
  listed = c.status_of.ensures.listed;
}
