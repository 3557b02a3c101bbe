-- Which sides had a delta below 0, of those whose large entries are asked for: of such a side the
-- answer is right only if no entry of its vector is below 0.
use Rattle.std.specs.Prelude.{◌≡◌, ◌⊎◌, ℕ, Bool, true, false, ◌&&◌, int_lt, pos, List, IsTrue}
use Rattle.std.specs.Prelude.{Result, Ok, Err}
use Rattle.std.specs.List.{list_any}
use Rattle.sip_vector.specs.declared.query.Query.{Query}
use Rattle.sip_vector.specs.declared.tally.Negatives.{Negatives}
use Rattle.sip_vector.specs.declared.update.Side.{Side}
use Rattle.sip_vector.specs.declared.update.Side.TheVariants.{First, Second}
use Rattle.sip_vector.specs.declared.update.Update.{Update}
use Rattle.sip_vector.specs.Tallies.{has_negative}
use Rattle.sip_verifier.specs.declared.status.Status.{Status}
use Rattle.sip_verifier.specs.declared.status.Status.TheVariants.{Accepted, Rejected}
use Rattle.sip_verifier.specs.declared.task.Task.{Task}
use Rattle.sip_verifier.specs.Gathering.{legal}
use Rattle.sip_verifier.specs.QuerySeats.{RunningNumbers, Seated, aug_root_is, is_heavy_of}

-- one of the queries is for large entries of this side
abbrev pub asks_heavy : List Query → Side → Bool
asks_heavy queries side = list_any (λ q. is_heavy_of q side) queries

abbrev pub heavy_negatives : List Query → List Update → Negatives
heavy_negatives queries stream = record {
  first = asks_heavy queries First && has_negative stream First;
  second = asks_heavy queries Second && has_negative stream Second;
}

abbrev pub no_negatives : Negatives
no_negatives = record { first = false; second = false }

-- ---- of a run

-- of the stream that was gathered, or none where it was not
abbrev pub gathered_negatives : {S : Type 0} → Task → List ℕ → Result S Status → Negatives
gathered_negatives task bytes (Ok _) = heavy_negatives task.queries.items (legal task bytes)
gathered_negatives task bytes (Err _) = no_negatives

-- replies were judged, and so the stream was read to its end
abbrev pub is_judged : Status → Bool
is_judged Accepted = true
is_judged (Rejected _ _ _) = true
is_judged _ = false

-- What a run over these bytes that ends so tells of negative deltas: those of its stream, where
-- replies were judged, and else those or none.
pub record NegativesClause (task : Task) (bytes : List ℕ) (status : Status)
    (negatives : Negatives) : Type 0 where
  pub judged : IsTrue (is_judged status)
      → negatives ≡ heavy_negatives task.queries.items (legal task bytes)
  pub other : (negatives ≡ heavy_negatives task.queries.items (legal task bytes))
      ⊎ (negatives ≡ no_negatives)

-- ---- by what a seat keeps

-- a total that is kept is below this weight
abbrev pub is_light : RunningNumbers → ℕ → Bool
is_light (aug_root_is hash total) weight = int_lt total (pos weight)
is_light _ weight = false

-- the seat is for large entries of this side, and its total is below this weight
abbrev pub has_light : Seated → Side → ℕ → Bool
has_light s side weight = is_heavy_of s.query side && is_light s.running weight
