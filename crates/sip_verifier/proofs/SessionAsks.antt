-- The queries of a session, as those of a run.
use Rattle.std.proofs.Common.{◌≡◌, ℕ, List, [], ◌∷◌, Option, Result, Err, drop, refl, ap, sym, subst, ◌∙◌, arith}
use Rattle.std.specs.Prelude.{map, All}
use Rattle.std.proofs.lemmas.List.Elements.{All-drop}
use Rattle.sip_ports.specs.declared.port.TalkEvent.{TalkEvent}
use Rattle.sip_vector.specs.declared.query.Query.{Query}
use Rattle.sip_vector.specs.declared.update.Entry.{Entry}
use Rattle.sip_vector.specs.declared.update.Update.{Update}
use Rattle.sip_vector.specs.Answers.{Answer}
use Rattle.sip_wire.specs.declared.version.Version.{Version}
use Rattle.sip_verifier.specs.declared.session.SessionFault.{SessionFault}
use Rattle.sip_verifier.specs.declared.session.SessionFault.TheVariants as faults
use Rattle.sip_verifier.specs.declared.asker.Unanswered.TheVariants as unanswered
use Rattle.sip_verifier.specs.declared.session.Verdict.{Verdict}
use Rattle.sip_verifier.specs.Asking.{Asks}
use Rattle.sip_verifier.specs.Concluding as sessions
use Rattle.sip_verifier.specs.Exchanges.{Exchange}
use Rattle.sip_verifier.specs.Inquiries.{Inquiry}
use Rattle.sip_verifier.specs.NextSeat.{IsNext}
use Rattle.sip_verifier.specs.Questions.{asking, updates}
use Rattle.sip_verifier.specs.QuerySeats.{Seated, StandsFor}
use Rattle.sip_verifier.specs.runs.Askers as runs
use Rattle.sip_verifier.specs.runs.Askers.{GoesBehind, IsFirst, blocks_in, queries_in}
use Rattle.sip_verifier.specs.Sittings.{Sitting, asks_left, remaining_of}

-- the queries of seats, and their blocks
pub queries_left : (seats : List Seated) → queries_in (asks_left seats) ≡ map (λ seat. seat.query) seats
queries_left [] = refl
queries_left (seat ∷ seats) = ap (λ (l : List Query). seat.query ∷ l) (queries_left seats)

pub blocks_left : (seats : List Seated) → blocks_in (asks_left seats) ≡ map (λ seat. seat.block) seats
blocks_left [] = refl
blocks_left (seat ∷ seats) = ap (λ (l : List (List ℕ)). seat.block ∷ l) (blocks_left seats)

-- a session that goes on behind a stream goes on as what asks the queries of a run
pub goes_on : (i : Inquiry) (x : Exchange) (s : Sitting) (old new blank full : Option (List TalkEvent)) → sessions.GoesBehind i x s old new blank full → GoesBehind asking i x (remaining_of s) old new blank full
goes_on i x s old new blank full b = record {
  version = b.version;
  depth = b.depth;
  challenges = b.challenges;
  drawn = b.drawn;
  asked = queries_left s.left ∙ b.asked;
  at_blocks = blocks_left s.left ∙ b.at_blocks;
  legal = b.legal;
  read = b.read;
  may = b.narrow;
  talk = b.talk;
  report = b.report;
}

-- and its seats stand for the stream
pub all_stand : (i : Inquiry) (x : Exchange) (s : Sitting) (old new blank full : Option (List TalkEvent)) → sessions.GoesBehind i x s old new blank full → All (StandsFor s.depth (updates i x)) s.left
all_stand i x s old new blank full b = subst (λ (n : ℕ). All (StandsFor n (updates i x)) s.left) (sym b.depth) b.stand

-- the seat of the first query that is left
pub record FirstSeat (depth : ℕ) (stream : List Update) (left : List Seated) (ask : Query × List ℕ) : Type 0 where
  pub seat : Seated
  pub next : IsNext depth stream left ask.0 seat
  pub at : seat.block ≡ ask.1

pub first_seat : (depth : ℕ) (stream : List Update) (left : List Seated) (ask : Query × List ℕ) (more : List (Query × List ℕ)) → All (StandsFor depth stream) left → asks_left left ≡ ask ∷ more → FirstSeat depth stream left ask
first_seat depth stream [] ask more all e = absurd cc
first_seat depth stream (seat ∷ seats) ask more all e =
    let same : (seat.query, seat.block) ≡ ask = cc in
    record {
      seat = seat;
      next = record { more = seats; first = refl; asks = ap (λ (a : Query × List ℕ). a.0) same; stands = all 0 seat (omega arith) };
      at = ap (λ (a : Query × List ℕ). a.1) same;
    }

-- what came of the first query that is left
pub asked_first : (s : Sitting) (stream : List Update) (ask : Query × List ℕ) (old new : Option (List TalkEvent)) (entries : List Entry) (result : Result Verdict SessionFault) → All (StandsFor s.depth stream) s.left → IsFirst (remaining_of s) ask
    → ((query : Query) (seat : Seated) → IsNext s.depth stream s.left query seat → Asks s.version s.depth stream query seat.block old new entries result) → Asks s.version s.depth stream ask.0 ask.1 old new entries result
asked_first s stream ask old new entries result all first asks =
    let f = first_seat s.depth stream s.left ask first.more all first.first in
    subst (λ (b : List ℕ). Asks s.version s.depth stream ask.0 b old new entries result) f.at (asks ask.0 f.seat f.next)

-- that query
query_of : (left : List Seated) (ask : Query × List ℕ) (more : List (Query × List ℕ)) (query : Query) → asks_left left ≡ ask ∷ more → ((seat : Seated) (others : List Seated) → left ≡ seat ∷ others → query ≡ seat.query) → query ≡ ask.0
query_of [] ask more query e is = absurd cc
query_of (seat ∷ seats) ask more query e is =
    let same : (seat.query, seat.block) ≡ ask = cc in
    is seat seats refl ∙ ap (λ (a : Query × List ℕ). a.0) same

pub query_first : (s : Sitting) (ask : Query × List ℕ) (query : Query) → IsFirst (remaining_of s) ask → ((seat : Seated) (others : List Seated) → s.left ≡ seat ∷ others → query ≡ seat.query) → query ≡ ask.0
query_first s ask query first is = query_of s.left ask first.more query first.first is

-- a query without a verdict
pub fault_first : (version : Version) (depth : ℕ) (stream : List Update) (ask : Query × List ℕ) (old new : Option (List TalkEvent)) (entries : List Entry) {G : Type 0} (States : G → Answer → Type 0) (fault : SessionFault)
    → Asks version depth stream ask.0 ask.1 old new entries (Err fault) → runs.Asks (asking version depth stream) ask old new {G = G} States (Err (unanswered.Fault fault))
fault_first version depth stream ask old new entries States faults.PeerFault asks = asks
fault_first version depth stream ask old new entries States faults.KeepFault asks = asks
fault_first version depth stream ask old new entries States faults.OutOfMemory asks = asks

-- the seats that are left then stand for the same stream
pub still_stand : (old new : Sitting) (stream : List Update) → new.left ≡ drop 1 old.left → new.depth ≡ old.depth → All (StandsFor old.depth stream) old.left → All (StandsFor new.depth stream) new.left
still_stand old new stream left depth all =
    subst (λ (n : ℕ). All (StandsFor n stream) new.left) (sym depth) (subst (All (StandsFor old.depth stream)) (sym left) (All-drop (StandsFor old.depth stream) 1 old.left all))
