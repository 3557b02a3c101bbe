-- A session goes on behind a stream that its seats stand for.
use Rattle.std.proofs.Common.{◌≡◌, ℕ, Ok, Option, Some, List, [], ◌++◌, sym, ap, subst, ◌∙◌}
use Rattle.std.specs.Prelude.{All, map}
use Rattle.sip_ports.specs.declared.port.TalkEvent.{TalkEvent}
use Rattle.sip_ports.specs.Ports.{GoesOn, outs}
use Rattle.sip_stream.proofs.LegalRecords.{records_legal}
use Rattle.sip_vector.specs.Pieces.{cut}
use Rattle.sip_vector.specs.declared.query.Query.{Query}
use Rattle.sip_vector.specs.declared.update.Update.{Update}
use Rattle.sip_wire.specs.declared.version.Version.{Version}
use Rattle.sip_verifier.specs.Concluding.{GoesBehind}
use Rattle.sip_verifier.specs.Exchanges.{Exchange}
use Rattle.sip_verifier.specs.Inquiries.{Inquiry}
use Rattle.sip_verifier.specs.Questions.{IsLegalToEnd, updates}
use Rattle.sip_verifier.specs.QuerySeats.{Seated, StandsFor}
use Rattle.sip_verifier.specs.Seats.{AreSeats, Seating}
use Rattle.sip_verifier.specs.Sittings.{Sitting, Starts}
use Rattle.sip_verifier.specs.Talks.{stream_sent}
use Rattle.sip_verifier.proofs.WideSeats.{first_is}

-- it has all seats to ask
pub seats_left : (depth : ℕ) (queries : List Query) (blocks : List (List ℕ)) (stream : List Update) (seats : Seating) (version : Version) (s : Sitting) → AreSeats depth queries blocks stream seats → Starts version seats (Ok s)
    → (map (λ seat. seat.query) s.left ≡ queries) × All (StandsFor s.depth stream) s.left
seats_left depth queries blocks stream seats version s are starts = (
  ap (λ (l : List Seated). map (λ (seat : Seated). seat.query) l) starts.2 ∙ are.asked,
  subst (λ (n : ℕ). All (StandsFor n stream) s.left) (sym (starts.1 ∙ are.levels)) (subst (All (StandsFor depth stream)) (sym starts.2) are.stand),
)

-- and what it says and writes may be the rest of an exchange
pub seated_behind : (i : Inquiry) (x : Exchange) (challenges : List ℕ) (seats : Seating) (s : Sitting) (old new blank full : Option (List TalkEvent)) {version : Version}
    → i.challenges ≡ Some challenges → AreSeats i.depth i.queries (cut i.depth challenges) (updates i x) seats → Starts version seats (Ok s) → version ≡ i.version → IsLegalToEnd i x → x.unread ≡ []
    → ((said : List TalkEvent) → GoesOn old new said → x.talk ≡ stream_sent i.version i.depth (updates i x) ++ said)
    → ((bytes : List ℕ) → GoesOn blank full (outs bytes) → x.report ≡ bytes)
    → GoesBehind i x s old new blank full
seated_behind i x challenges seats s old new blank full drawn are starts said legal read talk report = record {
  version = starts.0 ∙ said;
  depth = starts.1 ∙ are.levels;
  challenges = challenges;
  drawn = drawn;
  asked = ap (λ (l : List Seated). map (λ (seat : Seated). seat.query) l) starts.2 ∙ are.asked;
  at_blocks = ap (λ (l : List Seated). map (λ (seat : Seated). seat.block) l) starts.2 ∙ are.at_blocks;
  stand = subst (All (StandsFor i.depth (updates i x))) (sym starts.2) are.stand;
  legal = legal;
  read = read;
  narrow = sym (first_is i.depth i.queries (cut i.depth challenges) (updates i x) seats are (records_legal i.depth i.form x.stream).items) ∙ starts.5;
  talk = talk;
  report = report;
}
