-- The joint count of a panel: that of its seats.
--
-- A joint helper sees all challenges that were revealed to any helper so far, and the whole blocks
-- of earlier seats, used or not; so the helpers may act as one. Each attempt is counted at its own
-- seat. A seat without a line counts as one that has no reply and the right answer.
use Rattle.std.specs.Prelude.{◌==◌, ℕ, List, [], ◌∷◌, map, if◌then◌else◌}
use Rattle.std.specs.List.{enumerate_from, zip}
use Rattle.sip_vector.specs.declared.query.Query.{Query}
use Rattle.sip_vector.specs.declared.update.Update.{Update}
use Rattle.sip_vector.specs.Answers.{answer}
use Rattle.sip_verifier.specs.declared.task.Task.{Task}
use Rattle.sip_verifier.specs.Asking.{question_of}
use Rattle.sip_verifier.specs.CountClause.{Written}
use Rattle.sip_verifier.specs.JointClause.{JointClause}
use Rattle.sip_verifier.specs.Questions.{Question}
use Rattle.sip_verifier.specs.Gathering.{legal}
use Rattle.sip_session.specs.PanelExchanges.{PanelExchange, without_links}
use Rattle.sip_session.specs.Panels.{Attempt, Outcome, accepted, rejected, inquiry_of_seats}
use Rattle.sip_session.specs.Panels.{seat_at, seat_blocks, seat_queries}

-- a seat with this query and block that has no line
abbrev pub unwritten : ℕ → List Update → Query × List ℕ → Written
unwritten depth stream seat = record {
  question = question_of seat.0 seat.1 [];
  answer = answer depth stream seat.0;
}

-- what is written for an attempt: its answer, or else this
abbrev pub written_or : Written → Question → Outcome → Written
written_or other q (accepted given) = record { question = q; answer = given }
written_or other q (rejected fault) = other

-- The line of a seat, which has this number, counted from 0: that of the attempt at the seat, where
-- there is one and it has an answer; else this.
abbrev pub written_at : ℕ → ℕ → Written → List Attempt → Written
written_at helpers number other [] = other
written_at helpers number other (a ∷ attempts) =
    if seat_at helpers a.turn == number then written_or other a.question a.outcome
    else written_at helpers number other attempts

module _ (helpers : ℕ) (task : Task) (x : PanelExchange) where
  -- the lines of the seats in order
  abbrev pub seats_written : List Attempt → List Written
  seats_written attempts =
      map (λ s. written_at helpers s.0 (unwritten task.depth (legal task x.stream) s.1) attempts)
      (enumerate_from 0 (zip (seat_queries helpers task.queries.items)
      (seat_blocks (inquiry_of_seats helpers task x.seed))))

  -- few vectors of the challenges of all seats mislead, and the run's is among them where a line
  -- has a wrong answer, for every joint strategy that replies as the talks show
  abbrev pub JointCountOnPanel : List Attempt → Type 0
  JointCountOnPanel attempts = JointClause (inquiry_of_seats helpers task x.seed) (without_links x)
      (seats_written attempts)
