-- A part of the line went out, and what is gathered goes on with it.
use Rattle.std.proofs.Common.{◌≡◌, ◌<◌, ◌≤◌, ℕ, List, ◌++◌, length}
use Rattle.sip_ports.specs.Ports.{GoesOn, outs}
use Rattle.sip_verifier.proofs.Lines.{so_far}
use Rattle.sip_verifier.proofs.report.write_pairs.Given as goal

abbrev pub invariant-loop-entry : goal.invariant-loop-entry
invariant-loop-entry g l =
    ((sent : List ℕ) × (so_far l.query l.entries l.entry-index ≡ sent ++ l.gathered.items) × GoesOn (g.K.Sink.talk l.fn.sink) (g.K.Sink.talk l.sink) (outs sent))
    × (length l.gathered.items < 1024)
    × (g.K.Sink.faults l.fn.sink ≤ g.K.Sink.faults l.sink)
    × (g.K.Sink.wants l.fn.sink ≤ g.K.Sink.wants l.sink)
    × (g.K.Sink.is_sure l.fn.sink → g.K.Sink.is_sure l.sink)
