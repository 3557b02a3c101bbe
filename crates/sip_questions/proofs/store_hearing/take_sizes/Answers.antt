-- One more size was taken.
use Rattle.std.proofs.Common.{◌≤◌, nat_abs, rules}
use Rattle.std.proofs.lemmas.List.{drop_all, take_all}
use Rattle.std.proofs.lemmas.List.Edits.{map_over_more}
use Rattle.std.proofs.lemmas.List.Elements.{All-set}
use Rattle.sip_vector.specs.declared.update.Update.{Update}
use Rattle.sip_vector.specs.Splits.{absolute}
use Rattle.sip_vector.specs.Streams.{most_weight}
use Rattle.sip_questions.proofs.store_hearing.take_sizes.Goals as goal

pub loop-index-preserved : goal.loop-index-preserved
loop-index-preserved c = search (rules, map_over_more absolute, All-set (λ (u : Update). nat_abs u.delta ≤ most_weight))

pub returns : goal.returns
returns c = search (rules, take_all, drop_all)
