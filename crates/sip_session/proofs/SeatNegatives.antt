-- What the seats of a panel tell of deltas below 0 its queries tell.
use Rattle.std.proofs.Common.{◌≡◌, ℕ, ◌<◌, List, inl, inr, ◌∙◌}
use Rattle.std.specs.Prelude.{◌&&◌}
use Rattle.sip_vector.specs.declared.query.Query.{Query}
use Rattle.sip_vector.specs.declared.tally.Negatives.{Negatives}
use Rattle.sip_vector.specs.declared.update.Side.TheVariants.{First, Second}
use Rattle.sip_vector.specs.declared.update.Update.{Update}
use Rattle.sip_vector.specs.Tallies.{has_negative}
use Rattle.sip_verifier.specs.declared.status.Status.{Status}
use Rattle.sip_verifier.specs.declared.task.Task.{Task}
use Rattle.sip_verifier.specs.Gathering.{legal}
use Rattle.sip_verifier.specs.Negatives.{NegativesClause, heavy_negatives}
use Rattle.sip_verifier.specs.QuerySeats.{is_heavy_of}
use Rattle.sip_session.specs.inside.Beginning.{task_of_seats}
use Rattle.sip_session.specs.Panels.{seat_queries}
use Rattle.sip_session.proofs.Seats.{any_seats}

-- large entries of a side are asked for by a seat exactly where they are by a query
pub seats_negatives : (helpers : ℕ) (queries : List Query) (stream : List Update) → 0 < helpers
    → heavy_negatives (seat_queries helpers queries) stream ≡ heavy_negatives queries stream
seats_negatives helpers queries stream some =
    let first = any_seats (λ q. is_heavy_of q First) helpers queries some in
    let second = any_seats (λ q. is_heavy_of q Second) helpers queries some in
    λ i. record {
      first = first i && has_negative stream First;
      second = second i && has_negative stream Second;
    }

-- so what is told of the task of the seats is told of the panel's
pub of_seats : (helpers : ℕ) (task : Task) (bytes : List ℕ) (status : Status)
    (negatives : Negatives) → 0 < helpers
    → NegativesClause (task_of_seats helpers task) bytes status negatives
    → NegativesClause task bytes status negatives
of_seats helpers task bytes status negatives some told =
    let same = seats_negatives helpers task.queries.items (legal task bytes) some in
    record {
      judged = λ judged. told.judged judged ∙ same;
      other = elim told.other [
        | inl are ↦ inl (are ∙ same)
        | inr none ↦ inr none
      ];
    }
