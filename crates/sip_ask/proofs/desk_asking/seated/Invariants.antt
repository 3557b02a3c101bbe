-- The seats of the questions so far, and behind them those of the others.
use Rattle.std.proofs.Common.{◌≡◌, ℕ, ◌++◌, List, None, drop, map}
use Rattle.std.specs.Prelude.{All}
use Rattle.sip_vector.specs.declared.update.Update.{Update}
use Rattle.sip_questions.specs.Questions.{version_for}
use Rattle.sip_questions.specs.Sittings.{CanAsk, StandsAt, ask_at, refusal_at}
use Rattle.sip_sketch.specs.Standing.{Stands}
use Rattle.sip_ask.specs.Choosing.{weight_told}
use Rattle.sip_ask.specs.inside.Steps.{asks_at}
use Rattle.sip_ask.proofs.desk_asking.seated.Given as goal

abbrev pub invariant-loop-index : goal.invariant-loop-index
invariant-loop-index l = record {
  asks : map ask_at l.seats.items ++ asks_at l.sketch (drop l.index l.questions) (drop l.index l.places.items) ≡ asks_at l.sketch l.questions l.places.items;
  can : All (CanAsk (version_for l.sketch.depth l.questions) l.sketch.depth) l.seats.items;
  stands : (stream : List Update) → Stands stream l.sketch → All (StandsAt l.sketch.depth stream) l.seats.items;
  free : All (λ seat. (k : ℕ) → refusal_at (weight_told l.sketch.tally) k seat ≡ None) l.seats.items;
}
