use Rattle.std.proofs.Common.{◌≡◌}
use Rattle.std.specs.Prelude.{All}
use Rattle.sip_bench.proofs.many.raise_all.Given as goal

abbrev pub invariant-loop-number : goal.invariant-loop-number
invariant-loop-number g l = All (λ n. g.N.Number.deep n ≡ l.fn.depth) l.numbers
