-- A moment that is low is one more of those before the first.
use Rattle.std.proofs.Common.{sym, ◌∙◌}
use Rattle.sip_vector.specs.declared.update.Side.TheVariants.{First}
use Rattle.sip_moments.proofs.HighMoments.{high_here, low_so_far}
use Rattle.sip_moments.proofs.stream.first_high.Goals as goal

pub loop-index-preserved : goal.loop-index-preserved
loop-index-preserved c = λ stream are.
    low_so_far c.args.weights.now stream are c.args.moments.now c.loop-index.index
    (record { side = First; degree = 0 }) c.loop-index-test.true (c.loop-index.invariant stream are)
    (rw c.of.ensures at (sym c.is_too_high.ensures ∙ c.if-is_too_high.false))

pub returns-then-is_too_high : goal.returns-then-is_too_high
returns-then-is_too_high c = λ stream are.
    sym (high_here c.args.weights.now stream are c.args.moments.now c.loop-index.index
    (record { side = First; degree = 0 }) c.loop-index-test.true (c.loop-index.invariant stream are)
    (rw c.of.ensures at (sym c.is_too_high.ensures ∙ c.if-is_too_high.true)))
