-- A refusal is what a run of questions starts with, where there is one.
use Rattle.std.proofs.Common.{◌≡◌, ℕ, suc, Bool, true, false, List, [], ◌∷◌, Option, Some, None, Err, pos}
use Rattle.std.specs.Prelude.{if◌then◌else◌}
use Rattle.sip_vector.specs.declared.update.Side.{Side}
use Rattle.sip_vector.specs.Thresholds.{is_wide}
use Rattle.sip_wire.specs.declared.version.Version.{Version}
use Rattle.sip_verifier.specs.declared.status.Status.{Status}
use Rattle.sip_verifier.specs.declared.status.Status.TheVariants as statuses
use Rattle.sip_verifier.specs.Widths.{is_wide_seat}
use Rattle.sip_moments.specs.Moments.{is_too_high}
use Rattle.sip_questions.specs.declared.seat.QuestionSeat.{QuestionSeat}
use Rattle.sip_questions.specs.declared.seat.QuestionSeat.TheVariants as seats
use Rattle.sip_questions.specs.Questions.{first_by, or_else}
use Rattle.sip_questions.specs.Sittings.{Starts, refusal_at}

-- want of memory is none
one_other : (test : Bool) (status : Status) (later : Option Status) → (status ≡ statuses.OutOfMemory → ⊥) → (later ≡ Some statuses.OutOfMemory → ⊥)
    → or_else (if test then Some status else None) later ≡ Some statuses.OutOfMemory → ⊥
one_other true status later other behind e = other (let same : status ≡ statuses.OutOfMemory = cc in same)
one_other false status later other behind e = behind e

module _ (version : Version) (depth : ℕ) (weight : Side → ℕ) where
  never_memory : (number : ℕ) (all : List QuestionSeat) → first_by (refusal_at weight) number all ≡ Some statuses.OutOfMemory → ⊥
  never_memory number [] e = let no = e in cc
  never_memory number (seats.Query seat ∷ more) e =
      one_other (is_wide_seat seat.query seat.running) (statuses.TooWide number) (first_by (refusal_at weight) (suc number) more) (λ is. let no = is in cc) (never_memory (suc number) more) e
  never_memory number (seats.Lookup lookup root ∷ more) e = never_memory (suc number) more e
  never_memory number (seats.Large large root ∷ more) e =
      one_other (is_wide large.at_least (pos root.weight)) (statuses.TooWide number) (first_by (refusal_at weight) (suc number) more) (λ is. let no = is in cc) (never_memory (suc number) more) e
  never_memory number (seats.Moment moment point ∷ more) e =
      one_other (is_too_high (weight moment.side) moment.degree) (statuses.TooHigh number) (first_by (refusal_at weight) (suc number) more) (λ is. let no = is in cc) (never_memory (suc number) more) e

  pub refused_starts : (all : List QuestionSeat) (status : Status) → first_by (refusal_at weight) 1 all ≡ Some status → Starts version depth weight all (Err status)
  refused_starts all statuses.OutOfMemory e = absurd (never_memory 1 all e)
  refused_starts all statuses.Accepted e = e
  refused_starts all statuses.Served e = e
  refused_starts all statuses.Wrote e = e
  refused_starts all (statuses.Rejected query round reason) e = e
  refused_starts all (statuses.Usage word) e = e
  refused_starts all (statuses.BadStream at why) e = e
  refused_starts all statuses.BadSeed e = e
  refused_starts all statuses.SeedSpent e = e
  refused_starts all (statuses.BadTranscript offset) e = e
  refused_starts all (statuses.BadFrame offset) e = e
  refused_starts all (statuses.TooWide query) e = e
  refused_starts all (statuses.TooHigh query) e = e
  refused_starts all (statuses.ReadFault port) e = e
  refused_starts all (statuses.WriteFault port) e = e
  refused_starts all statuses.PeerFault e = e
  refused_starts all statuses.PeerClosed e = e
