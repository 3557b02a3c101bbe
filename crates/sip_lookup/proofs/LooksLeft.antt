-- The lookups that are left to be asked, each beside its seat.
use Rattle.std.proofs.Common.{◌≡◌, ℕ, Bool, true, false, true≢false, zero, suc, ◌+◌, ◌<◌, ◌^◌, List, [], ◌∷◌, length, drop, get_or, map, Option, Some, Result, Ok, Err, sym, ap, subst, ◌∙◌, arith, inl, inr, length-drop}
use Rattle.std.specs.Prelude.{All, IsTrue, nat_lt, slice_get}
use Rattle.std.specs.List.{list_all, zip}
use Rattle.std.proofs.lemmas.Bool.{and_parts, ltb-true}
use Rattle.std.proofs.lemmas.List.{drop-drop, drop-map, length-map}
use Rattle.std.proofs.lemmas.Slice.Zip.{length-zip}
use Rattle.std.proofs.lemmas.List.Elements.{All-drop, All-head}
use Rattle.sip_field.specs.Moduli.{m61_modulus}
use Rattle.sip_tree.specs.StandsFor.{RootStandsFor}
use Rattle.sip_vector.specs.declared.query.Query.{Query}
use Rattle.sip_vector.specs.declared.query.Query.TheVariants.{Sub, Range, F2, Inner, Heavy, Share, Above}
use Rattle.sip_vector.specs.declared.update.Side.TheVariants.{First}
use Rattle.sip_vector.specs.declared.update.Update.{Update}
use Rattle.sip_vector.specs.Streams.{vector}
use Rattle.sip_wire.specs.declared.version.Version.{Version}
use Rattle.sip_verifier.specs.QuerySeats.{RunsOn, Seated, StandsFor, root_is}
use Rattle.sip_ports.specs.declared.port.TalkEvent.{TalkEvent}
use Rattle.sip_verifier.specs.declared.asker.Unanswered.{Unanswered}
use Rattle.sip_verifier.specs.declared.asker.Unanswered.TheVariants as unanswered
use Rattle.sip_verifier.specs.declared.session.SessionFault.TheVariants as faults
use Rattle.sip_verifier.specs.runs.Askers.{Asks, IsFirst, behind}
use Rattle.sip_verifier.specs.runs.Asking.{IsAnswered, IsInterrupted, IsRejected, IsUnrecorded}
use Rattle.sip_verifier.specs.runs.Manners.{Manner}
use Rattle.sip_verifier.specs.Seats.{Seating}
use Rattle.sip_verifier.specs.SeatNumbers.{KeepsOne, has_root, has_root_at, queries_of}
use Rattle.sip_lookup.specs.declared.answer.LookAnswer.{LookAnswer}
use Rattle.sip_lookup.specs.declared.asker.LookGiven.{LookGiven}
use Rattle.sip_lookup.specs.declared.lookup.Lookup.{Lookup}
use Rattle.sip_lookup.specs.Lookups.{Looked, item_of}
use Rattle.sip_lookup.specs.Sittings.{IsGiven, LookSitting, StandsOn, looked_of, remaining_of}

-- what holds of a seat with a root is that the root is the stream's
root_runs : (depth : ℕ) (stream : List Update) (query : Query) (block : List ℕ) (value : ℕ) → RunsOn depth stream query block (root_is value) → RootStandsFor m61_modulus block value (vector depth stream First)
root_runs depth stream (Sub lo hi) block value runs = runs
root_runs depth stream (Range side lo hi) block value runs = absurd runs
root_runs depth stream (F2 side) block value runs = absurd runs
root_runs depth stream Inner block value runs = absurd runs
root_runs depth stream (Heavy side least) block value runs = absurd runs
root_runs depth stream (Share side num den) block value runs = absurd runs
root_runs depth stream (Above side least) block value runs = absurd runs

-- the pair at a place, and those behind it
zip-drop : (lookups : List Lookup) (seats : List Seated) (n : ℕ) (seat : Seated) (d : Lookup) → n < length lookups → slice_get seats n ≡ Some seat
    → drop n (zip lookups seats) ≡ (get_or lookups n d, seat) ∷ drop (suc n) (zip lookups seats)
zip-drop [] seats n seat d less at = absurd (omega (arith, less))
zip-drop (l ∷ lookups) [] n seat d less at = absurd (let no = at in cc)
zip-drop (l ∷ lookups) (s ∷ seats) zero seat d less at =
    let same : s ≡ seat = cc in
    ap (λ (x : Seated). (l, x) ∷ zip lookups seats) same
zip-drop (l ∷ lookups) (s ∷ seats) (suc n) seat d less at = zip-drop lookups seats n seat d (omega (arith, less)) at

-- the seat of the first lookup that is left keeps its root
module _ (version : Version) (depth : ℕ) (lookups : List Lookup) (seats : Seating) (n : ℕ) (spent : Bool) (d : Lookup) (block : List ℕ) (value : ℕ) (less : n < length lookups) (keeps : KeepsOne seats n block (root_is value)) where
  abbrev sitting : LookSitting
  sitting = record { version = version; depth = depth; left = drop n (zip lookups seats.seats); spent = spent }

  left_is : drop n (zip lookups seats.seats) ≡ (get_or lookups n d, keeps.seat) ∷ drop (suc n) (zip lookups seats.seats)
  left_is = zip-drop lookups seats.seats n keeps.seat d less keeps.at

  -- the first is asked at the root's challenges
  pub first_is : (ask : Lookup × List ℕ) → IsFirst (remaining_of sitting) ask → ask ≡ (get_or lookups n d, block)
  first_is ask first =
      let own : (get_or lookups n d, keeps.seat.block) ∷ map (λ (x : Lookup × Seated). (x.0, x.1.block)) (drop (suc n) (zip lookups seats.seats)) ≡ ask ∷ first.more =
      sym (ap (map (λ (x : Lookup × Seated). (x.0, x.1.block))) left_is) ∙ first.first in
      let same : (get_or lookups n d, keeps.seat.block) ≡ ask = cc in
      sym same ∙ ap (λ (b : List ℕ). (get_or lookups n d, b)) keeps.challenges

  -- its root is that of the stream
  pub root_stands : (stream : List Update) → StandsOn stream sitting → RootStandsFor m61_modulus block value (vector depth stream First)
  root_stands stream stands =
      let head : StandsFor depth stream keeps.seat = All-head (λ (x : Lookup × Seated). StandsFor depth stream x.1) (get_or lookups n d, keeps.seat) (drop (suc n) (zip lookups seats.seats))
      (subst (All (λ (x : Lookup × Seated). StandsFor depth stream x.1)) left_is stands) in
      let at_block : RunsOn depth stream keeps.seat.query block keeps.seat.running = subst (λ (b : List ℕ). RunsOn depth stream keeps.seat.query b keeps.seat.running) keeps.challenges head in
      root_runs depth stream keeps.seat.query block value (subst (RunsOn depth stream keeps.seat.query block) keeps.keeps at_block)

-- ---- where one is left

-- a lookup and the block of its seat
abbrev pub asked_of : Lookup × Seated → Lookup × List ℕ
asked_of x = (x.0, x.1.block)

-- what is seen of the lookups once n of them were asked
abbrev pub sitting_at : Version → ℕ → List Lookup → Seating → ℕ → Bool → LookSitting
sitting_at version depth lookups seats n spent = record {
  version = version;
  depth = depth;
  left = drop n (zip lookups seats.seats);
  spent = spent;
}

module _ (version : Version) (depth : ℕ) (lookups : List Lookup) (seats : Seating) (n : ℕ) (was : Bool) (now : LookSitting) (is : sitting_at version depth lookups seats n was ≡ now) where
  abbrev pairs : List (Lookup × Seated)
  pairs = zip lookups seats.seats

  -- there is a next lookup
  pub still_left : length seats.seats ≡ length lookups → 0 < length (remaining_of now).left → n < length lookups
  still_left each left =
      let there : 0 < length (map asked_of (drop n pairs)) = subst (λ (s : LookSitting). 0 < length (remaining_of s).left) (sym is) left in
      let same : length (map asked_of (drop n pairs)) ≡ length (drop n pairs) = length-map (drop n pairs) asked_of in
      omega (arith, there, same, length-drop n pairs, length-zip lookups seats.seats, each)

  left_behind : drop (n + 1) pairs ≡ drop 1 (drop n pairs)
  left_behind = sym (drop-drop 1 n pairs)

  -- one lookup less is left behind it, and a call failed or not
  pub behind_now : (spent failed : Bool) → spent ≡ failed → remaining_of (sitting_at version depth lookups seats (n + 1) spent) ≡ behind failed (remaining_of now)
  behind_now spent failed same =
      let less : map (λ (x : Lookup × Seated). (x.0, x.1.block)) (drop (n + 1) pairs) ≡ drop 1 (map (λ (x : Lookup × Seated). (x.0, x.1.block)) (drop n pairs)) =
      ap (map (λ (x : Lookup × Seated). (x.0, x.1.block))) left_behind ∙ sym (drop-map (λ (x : Lookup × Seated). (x.0, x.1.block)) 1 (drop n pairs)) in
      ap (λ (l : List (Lookup × List ℕ)). record (remaining_of (sitting_at version depth lookups seats n was)) { left = l; spent = spent }) less
      ∙ ap (λ (s : LookSitting). behind spent (remaining_of s)) is
      ∙ ap (λ (b : Bool). behind b (remaining_of now)) same

  -- the roots of those behind it stand as before
  pub stand_behind : (stream : List Update) (spent : Bool) → StandsOn stream now → StandsOn stream (sitting_at version depth lookups seats (n + 1) spent)
  stand_behind stream spent stands =
      subst (All (λ (x : Lookup × Seated). StandsFor depth stream x.1)) (sym left_behind)
      (All-drop (λ (x : Lookup × Seated). StandsFor depth stream x.1) 1 (drop n pairs) (subst (StandsOn stream) (sym is) stands))

-- its item is one of the vector's
pub item_at : (depth : ℕ) (lookups : List Lookup) (n : ℕ) (d : Lookup) → IsTrue (list_all (λ (l : Lookup). nat_lt (item_of l) (2 ^ depth)) lookups) → n < length lookups → item_of (get_or lookups n d) < 2 ^ depth
item_at depth [] n d all less = absurd (omega (arith, less))
item_at depth (l ∷ lookups) zero d all less = ltb-true _ _ (and_parts _ _ all).0
item_at depth (l ∷ lookups) (suc n) d all less = item_at depth lookups n d (and_parts _ _ all).1 (omega (arith, less))

-- and its seat has a root
rooted_at : (seats : List Seated) (n : ℕ) → IsTrue (list_all (λ (s : Seated). has_root s.query) seats) → n < length seats → has_root_at (map (λ (s : Seated). s.query) seats) n ≡ true
rooted_at [] n all less = absurd (omega (arith, less))
rooted_at (s ∷ seats) zero all less = (and_parts _ _ all).0
rooted_at (s ∷ seats) (suc n) all less = rooted_at seats n (and_parts _ _ all).1 (omega (arith, less))

pub no_root : (seats : Seating) (n : ℕ) → IsTrue (list_all (λ (s : Seated). has_root s.query) seats.seats) → n < length seats.seats → false ≡ has_root_at (queries_of seats) n → ⊥
no_root seats n all less none = true≢false (sym (none ∙ rooted_at seats.seats n all less))

-- ---- what came of it

module _ (m : Manner Lookup Looked) (ask : Lookup × List ℕ) (lookup : Lookup) (block : List ℕ) (old new : Option (List TalkEvent)) (same : ask ≡ (lookup, block)) where
  abbrev Came : Result LookAnswer Unanswered → Type 0
  Came asked = Asks m (lookup, block) old new (λ given stated. looked_of given ≡ stated) asked

  -- an answer was given
  pub given_next : (answer : LookAnswer) (given : LookGiven) → given.lookup ≡ lookup → given.answer ≡ answer → Came (Ok answer) → Asks m ask old new (λ (g : LookGiven). IsGiven g ask.0) (Ok given)
  given_next answer given lookups answers asks = record {
    answer = asks.answer;
    answered = subst (λ (a : Lookup × List ℕ). IsAnswered m a.0 a.1 old new asks.answer) (sym same) asks.answered;
    states = record {
      asked = lookups ∙ ap (λ (a : Lookup × List ℕ). a.0) (sym same);
      same = ap looked_of answers ∙ asks.states;
    };
  }

  -- none was
  pub none_next : (S : LookGiven → Looked → Type 0) (why : Unanswered) → Came (Err why) → Asks m ask old new S (Err why)
  none_next S (unanswered.Rejected round reason) r = subst (λ (a : Lookup × List ℕ). IsRejected m a.0 a.1 old new round reason) (sym same) r
  none_next S (unanswered.Fault faults.PeerFault) i = subst (λ (a : Lookup × List ℕ). IsInterrupted m a.0 a.1 old new) (sym same) i
  none_next S (unanswered.Fault faults.KeepFault) u = subst (λ (a : Lookup × List ℕ). IsUnrecorded m a.0 a.1 old new) (sym same) u
  none_next S (unanswered.Fault faults.OutOfMemory) (inl i) = inl (subst (λ (a : Lookup × List ℕ). IsInterrupted m a.0 a.1 old new) (sym same) i)
  none_next S (unanswered.Fault faults.OutOfMemory) (inr u) = inr (subst (λ (a : Lookup × List ℕ). IsUnrecorded m a.0 a.1 old new) (sym same) u)
