-- The updates so far may come, and these are the weights behind them.
use Rattle.std.proofs.Common.{◌≡◌, ◌+◌, take}
use Rattle.sip_vector.specs.Streams.{weight}
use Rattle.sip_vector.specs.declared.update.Side.TheVariants.{First, Second}
use Rattle.sip_sketch.specs.Standing.{MayCome}
use Rattle.sip_sketch.proofs.sketch.Sketch.takes.Given as goal

abbrev pub invariant-loop-update : goal.invariant-loop-update
invariant-loop-update l = record {
  come : MayCome l.fn.self (take l.update-index l.updates);
  first : l.first ≡ l.fn.self.tally.first + weight (take l.update-index l.updates) First;
  second : l.second ≡ l.fn.self.tally.second + weight (take l.update-index l.updates) Second;
}
