-- One challenge more.
use Rattle.std.proofs.Common.{◌≡◌, ◌++◌, get_or, rules, arith}
use Rattle.std.specs.Int.{w64, to_be_bytes}
use Rattle.sip_sketch.proofs.Putting.{block_all, block_more, block_none}
use Rattle.sip_sketch.proofs.writing.put_block.Goals as goal

pub loop-level-init : goal.loop-level-init
loop-level-init c = record {
  all = c.depth-level-end.ensures.exact;
  len = search rules;
  capacity = search rules;
  puts = λ behind. block_none c.args.out.now.items c.args.block.now behind;
}

pub loop-level-preserved : goal.loop-level-preserved
loop-level-preserved c =
    let kept = c.loop-level.invariant in
    let more : c.put.new.out.items ≡ c.loop-level.out.items ++ to_be_bytes w64 (get_or c.args.block.now c.loop-level.level 0) = search rules in
    record {
      all = kept.all;
      len = search rules;
      capacity = search rules;
      puts = λ behind. block_more c.args.out.now.items c.loop-level.out.items c.put.new.out.items c.args.block.now c.loop-level.level behind
          (omega (arith, c.loop-level-test.true, kept.all)) more (kept.puts behind);
    }

pub returns-clause-puts : goal.returns-clause-puts
returns-clause-puts c = λ behind. block_all c.args.out.now.items c.loop-level.out.items c.args.block.now c.loop-level.level behind
    (omega (arith, c.loop-level-test.false, c.loop-level.invariant.all)) (c.loop-level.invariant.puts behind)
