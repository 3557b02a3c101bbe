-- What a run tells of negative deltas are those of the stream that it gathered.
use Rattle.std.proofs.Common.{◌≡◌, ℕ, ◌<◌, ◌^◌, false, true, List, All, Option, inl, inr}
use Rattle.std.specs.Prelude.{IsTrue, IfOk, MatchResult, Result, Ok, Err}
use Rattle.sip_ports.specs.declared.port.TalkEvent.{TalkEvent}
use Rattle.sip_stream.proofs.LegalRecords.{records_legal}
use Rattle.sip_vector.specs.declared.query.Query.{Query}
use Rattle.sip_vector.specs.declared.tally.Negatives.{Negatives}
use Rattle.sip_vector.specs.declared.update.Update.{Update}
use Rattle.sip_verifier.specs.declared.status.Status.{Status}
use Rattle.sip_verifier.specs.declared.status.Status.TheVariants.{Accepted, Served, Wrote, Rejected, Usage, BadStream, BadSeed, SeedSpent, BadTranscript, BadFrame, TooWide, TooHigh, ReadFault, WriteFault, PeerFault, PeerClosed, OutOfMemory}
use Rattle.sip_verifier.specs.declared.task.Task.{Task}
use Rattle.sip_verifier.specs.declared.weights.Weights.{Weights}
use Rattle.sip_verifier.specs.Draws.{blocks}
use Rattle.sip_verifier.specs.Gathering.{Gathers, legal}
use Rattle.sip_verifier.specs.Negatives.{NegativesClause, gathered_negatives, heavy_negatives, is_judged, no_negatives}
use Rattle.sip_verifier.specs.Seats.{AreSeats, Seating}
use Rattle.sip_verifier.specs.Statuses.{stops_gathering}
use Rattle.sip_verifier.specs.Weights.{AreWeights}

pub gathered_are : (task : Task) (bytes seed : List ℕ) (left : Option (List ℕ)) (old new : Option (List TalkEvent)) (gathered : Result Seating Status) (weights : Weights) (negatives : Negatives)
    → Gathers task bytes seed left old new gathered
    → IfOk gathered (λ _. AreWeights (legal task bytes) weights)
    → MatchResult gathered
    (λ seats. (depth : ℕ) (queries : List Query) (at_blocks : List (List ℕ)) (stream : List Update) → All (λ (u : Update). u.item < 2 ^ depth) stream
    → AreSeats depth queries at_blocks stream seats → AreWeights stream weights → negatives ≡ heavy_negatives queries stream)
    (λ _. negatives ≡ no_negatives)
    → negatives ≡ gathered_negatives task bytes gathered
gathered_are task bytes seed left old new (Ok seats) weights negatives gathers weighed says =
    says task.depth task.queries.items (blocks task gathers.challenges) (legal task bytes) (records_legal task.depth task.form bytes).items gathers.passed.stand weighed
gathered_are task bytes seed left old new (Err status) weights negatives gathers weighed says = says

-- a run that stopped before its first query judged none
unjudged : (status : Status) → IsTrue (stops_gathering status) → IsTrue (is_judged status) → ⊥
unjudged Accepted stops judged = let no : false ≡ true = stops in absurd cc
unjudged Served stops judged = let no : false ≡ true = judged in absurd cc
unjudged Wrote stops judged = let no : false ≡ true = judged in absurd cc
unjudged (Rejected query round reason) stops judged = let no : false ≡ true = stops in absurd cc
unjudged (Usage word) stops judged = let no : false ≡ true = judged in absurd cc
unjudged (BadStream at why) stops judged = let no : false ≡ true = judged in absurd cc
unjudged BadSeed stops judged = let no : false ≡ true = judged in absurd cc
unjudged SeedSpent stops judged = let no : false ≡ true = judged in absurd cc
unjudged (BadTranscript offset) stops judged = let no : false ≡ true = judged in absurd cc
unjudged (BadFrame offset) stops judged = let no : false ≡ true = judged in absurd cc
unjudged (TooWide query) stops judged = let no : false ≡ true = judged in absurd cc
unjudged (TooHigh query) stops judged = let no : false ≡ true = judged in absurd cc
unjudged (ReadFault port) stops judged = let no : false ≡ true = judged in absurd cc
unjudged (WriteFault port) stops judged = let no : false ≡ true = judged in absurd cc
unjudged PeerFault stops judged = let no : false ≡ true = judged in absurd cc
unjudged PeerClosed stops judged = let no : false ≡ true = judged in absurd cc
unjudged OutOfMemory stops judged = let no : false ≡ true = judged in absurd cc

pub of_stopped : (task : Task) (bytes : List ℕ) (status : Status) (negatives : Negatives) → IsTrue (stops_gathering status) → negatives ≡ no_negatives → NegativesClause task bytes status negatives
of_stopped task bytes status negatives stops none = record { judged = λ judged. absurd (unjudged status stops judged); other = inr none }

pub of_gathered : (task : Task) (bytes : List ℕ) (status : Status) (negatives : Negatives) → negatives ≡ heavy_negatives task.queries.items (legal task bytes) → NegativesClause task bytes status negatives
of_gathered task bytes status negatives are = record { judged = λ _. are; other = inl are }
