-- The bytes taken so far stand in the line, and no line feed is among them.
use Rattle.std.proofs.Common.{◌≡◌, ◌≤◌, ◌-◌, ℕ, List, Some, length}
use Rattle.std.specs.Prelude.{IsSome}
use Rattle.sip_ports.specs.Ports.{Lasts}
use Rattle.sip_stream.specs.Pieces.{IsBegun}
use Rattle.sip_stream.proofs.line_reader.take_line.Given as goal

abbrev pub invariant-loop-byte : goal.invariant-loop-byte
invariant-loop-byte g l = record {
  begun : (bytes : List ℕ) → g.S.Source.left l.fn.source ≡ Some bytes → (rest : List ℕ) × (g.S.Source.left l.source ≡ Some rest) × IsBegun bytes l.line.items rest;
  fits : length l.line.items ≤ 40;
  told : IsSome (g.S.Source.left l.fn.source) → IsSome (g.S.Source.left l.source);
  lasts : Lasts g.S.Source.faults g.S.Source.wants g.S.Source.is_sure l.fn.source l.source;
}

abbrev pub decreases-loop-byte : goal.decreases-loop-byte
decreases-loop-byte g l = 40 - length l.line.items
