-- Each write so far was interrupted.
use Rattle.sip_ports.specs.Retried.{Interruptions, writing}
use Rattle.sip_ports.proofs.uninterrupted.write_settled.Given as goal

abbrev pub invariant-tries : goal.invariant-tries
invariant-tries g l =
    Interruptions (writing g.W.WritesOnce.gives) l.counter l.initial.writer l.fn.buf l.writer l.fn.buf
