use Rattle.std.proofs.Common.{inl}
use Rattle.sip_advice.proofs.advice.write_hint.Goals as goal

pub returns-in-Some-clause-written : goal.returns-in-Some-clause-written
returns-in-Some-clause-written g c =
    inl (c.in-Some.line.items, c.in-Some.ensures, c.send.ensures.talk)
