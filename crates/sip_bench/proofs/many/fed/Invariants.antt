use Rattle.std.proofs.Common.{◌≡◌}
use Rattle.std.specs.Prelude.{All}
use Rattle.sip_bench.proofs.many.fed.Given as goal

abbrev pub invariant-loop-number : goal.invariant-loop-number
invariant-loop-number g l = All (λ n. g.N.Number.deep n ≡ l.depth) l.numbers.items

abbrev pub invariant-loop : goal.invariant-loop
invariant-loop g l = All (λ n. g.N.Number.deep n ≡ l.depth) l.numbers.items
