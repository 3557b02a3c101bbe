-- Each read so far was interrupted.
use Rattle.sip_ports.specs.Retried.{Interruptions}
use Rattle.sip_ports.proofs.uninterrupted.read_settled.Given as goal

abbrev pub invariant-tries : goal.invariant-tries
invariant-tries g l =
    Interruptions g.R.ReadsOnce.gives l.counter l.initial.reader l.initial.buf l.reader l.buf
