use Rattle.std.proofs.Common.{length, ◌∙◌, arith}
use Rattle.sip_moments.proofs.MixedSums.{rows_next}
use Rattle.sip_moments.proofs.Places.{at}
use Rattle.sip_moments.proofs.rounds.take_differences.Goals as goal

pub loop-row-preserved : goal.loop-row-preserved
loop-row-preserved g c = record {
  long = c.take_row.ensures.same ∙ c.loop-row.invariant.long;
  rows = λ table steps first.
      rows_next g.F.Field.MODULUS (length c.args.sums.now) c.loop-row.row table (at g.F.Field.number c.loop-row.sums) (at g.F.Field.number c.take_row.new.sums)
      (omega (arith, g.met.F.Field.at_least)) c.loop-row.auto.row steps (c.loop-row.invariant.rows table steps first) c.take_row.ensures.kept
      (λ j le lt. c.take_row.ensures.differences j le (omega (arith, lt, c.loop-row.invariant.long)));
}

pub returns-clause-differences : goal.returns-clause-differences
returns-clause-differences g c table steps first j inside =
    (c.loop-row.invariant.rows table steps first).0 j (omega (arith, inside, c.loop-row-test.false, c.loop-row.invariant.long)) inside
