-- Of the first ones the sizes were taken.
use Rattle.std.proofs.Common.{◌≡◌, ◌≤◌, ◌++◌, map, nat_abs, take, drop}
use Rattle.std.specs.Prelude.{All}
use Rattle.sip_vector.specs.declared.update.Update.{Update}
use Rattle.sip_vector.specs.Splits.{absolute}
use Rattle.sip_vector.specs.Streams.{most_weight}
use Rattle.sip_questions.proofs.store_hearing.take_sizes.Given as goal

abbrev pub invariant-loop-index : goal.invariant-loop-index
invariant-loop-index l = record {
  taken : l.block ≡ map absolute (take l.index l.fn.block) ++ drop l.index l.fn.block;
  small : All (λ (u : Update). nat_abs u.delta ≤ most_weight) l.block;
}
