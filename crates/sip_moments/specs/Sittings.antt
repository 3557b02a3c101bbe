-- What is seen of the moments of a run that are asked one after another.
use Rattle.std.specs.Prelude.{◌≡◌, ℕ, Bool, ℤ, pos, List, drop, map, Result, Ok, Err}
use Rattle.std.specs.List.{zip}
use Rattle.sip_replies.specs.declared.asking.AskStop.{AskStop}
use Rattle.sip_replies.specs.declared.check.Said.{Said}
use Rattle.sip_replies.specs.declared.check.Said.TheVariants as saids
use Rattle.sip_vector.specs.declared.query.Query.{Query}
use Rattle.sip_vector.specs.declared.query.Query.TheVariants.{F2}
use Rattle.sip_vector.specs.declared.update.Update.{Update}
use Rattle.sip_wire.specs.declared.version.Version.{Version}
use Rattle.sip_verifier.specs.declared.asker.Unanswered.{Unanswered}
use Rattle.sip_verifier.specs.Seats.{AreSeats, Seating}
use Rattle.sip_verifier.specs.runs.Askers.{Remaining, unanswered_by}
use Rattle.sip_moments.specs.declared.asker.MomentGiven.{MomentGiven}
use Rattle.sip_moments.specs.declared.moment.Moment.{Moment}

-- The version of the talk, the moments of the run, the seats that keep the extension of each one's
-- side, how many were asked, and whether it is over before its time.
pub record Sitting : Type 0 where
  pub version : Version
  pub moments : List Moment
  pub seats : Seating
  pub asked : ℕ
  pub spent : Bool

-- The seat of a second moment keeps the extension of its side, and nothing else: what any moment of
-- the side wants.
abbrev pub square_of : Moment → Query
square_of m = F2 m.side

-- each moment's block of challenges
abbrev pub blocks_of : Seating → List (List ℕ)
blocks_of seats = map (λ seat. seat.block) seats.seats

-- what is still to be asked
abbrev pub remaining_of : Sitting → Remaining Moment
remaining_of s = record {
  version = s.version;
  depth = s.seats.depth;
  left = drop s.asked (zip s.moments (blocks_of s.seats));
  spent = s.spent;
}

-- the seats stand for this stream
pub record StandsFor (stream : List Update) (s : Sitting) : Type 0 where
  pub at_blocks : List (List ℕ)
  pub stand : AreSeats s.seats.depth (map square_of s.moments) at_blocks stream s.seats

-- what was given states this number for this moment
pub record States (given : MomentGiven) (m : Moment) (z : ℤ) : Type 0 where
  pub asked : given.moment ≡ m
  pub same : given.value ≡ z

-- what came of a question for a moment; it is never answered by pairs
abbrev pub verdict_of : Result Said AskStop → Result ℤ Unanswered
verdict_of (Ok (saids.Number value)) = Ok value
verdict_of (Ok (saids.Pairs found)) = Ok (pos 0)
verdict_of (Err stop) = Err (unanswered_by stop)
