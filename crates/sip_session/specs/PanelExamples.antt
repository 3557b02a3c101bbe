-- The turns of a panel that the laws work out, and a stream.
use Rattle.std.specs.Prelude.{ℕ, negsuc, List, [], ◌∷◌}
use Rattle.sip_vector.specs.declared.query.Query.TheVariants.{Sub}
use Rattle.sip_vector.specs.declared.update.Side.TheVariants.{First}
use Rattle.sip_vector.specs.declared.update.Update.{Update}
use Rattle.sip_vector.specs.Answers.{pairs}
use Rattle.sip_wire.specs.declared.message.Reason.TheVariants as reasons
use Rattle.sip_session.specs.Panels.{Attempt, Outcome, accepted, rejected}

-- a helper is asked for the entry 0, and this comes of it
abbrev pub attempt : ℕ → ℕ → Outcome → Attempt
attempt helper number outcome = record {
  turn = record { helper = helper; number = number };
  question = record { query = Sub 0 0; block = []; replies = [] };
  outcome = outcome;
}

-- The first helper is dropped at the first query, which the second one answers. That one is dropped
-- at the second query, which the third one answers.
abbrev pub three_helpers : List Attempt
three_helpers =
    attempt 1 1 (rejected (record { round = 2; reason = reasons.Root }))
    ∷ attempt 2 1 (accepted (pairs []))
    ∷ attempt 2 2 (rejected (record { round = 0; reason = reasons.Closed }))
    ∷ attempt 3 2 (accepted (pairs [])) ∷ []

-- the item 0 was counted down once, and so its entry is negative
abbrev pub one_below : List Update
one_below = record { side = First; item = 0; delta = negsuc 0 } ∷ []
