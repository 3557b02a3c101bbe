use Rattle.std.proofs.Common.{[]}
use Rattle.std.proofs.lemmas.List.Folds.{Any-from_list_any, list_any-from_Any}
use Rattle.sip_counts.specs.Late.{is_fooled, seats_at, some_fooled}
use Rattle.sip_counts.proofs.late.one_fooled_seat_is_enough.Goals as goal

pub returns-clause-counted : goal.returns-clause-counted
unfolding some_fooled
returns-clause-counted c = λ d plans v. list_any-from_Any is_fooled (seats_at d plans [] v)

pub returns-clause-only : goal.returns-clause-only
unfolding some_fooled
returns-clause-only c = λ d plans v. Any-from_list_any is_fooled (seats_at d plans [] v)
