-- The turns of the questions so far make all of them whole, with those of the others.
use Rattle.std.proofs.Common.{◌≡◌, length}
use Rattle.sip_ask_steps.specs.Plans.{plan_of}
use Rattle.sip_ask_steps.proofs.AllTurns.{Whole}
use Rattle.sip_ask_steps.proofs.beginning.turns_for.Given as goal

abbrev pub invariant-loop-index : goal.invariant-loop-index
invariant-loop-index l = record {
  whole : Whole (plan_of l.sketch l.questions l.places.items) l.questions l.places.items l.index l.turns.items;
  few : length l.turns.items ≡ l.index;
}
