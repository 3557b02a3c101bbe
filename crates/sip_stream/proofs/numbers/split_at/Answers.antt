-- The first mark, or none so far.
use Rattle.sip_stream.proofs.Parts.{split_there, split_whole, split_more}
use Rattle.sip_stream.proofs.numbers.split_at.Goals as goal

pub returns-then-text-index-clause-parts : goal.returns-then-text-index-clause-parts
returns-then-text-index-clause-parts c = split_there c.args.text.now c.args.mark c.loop-index.index c.loop-index-test.true c.loop-index.invariant.clean c.if-text-index.true

pub loop-index-preserved : goal.loop-index-preserved
loop-index-preserved c = record { clean = split_more c.args.text.now c.args.mark c.loop-index.index c.loop-index-test.true c.loop-index.invariant.clean c.if-text-index.false }

pub returns-then-text-index-clause-whole : goal.returns-then-text-index-clause-whole
returns-then-text-index-clause-whole c = split_whole c.args.text.now c.args.mark c.loop-index.index c.loop-index-test.true c.if-text-index.true
