-- The seats of a run before and after more updates.
use Rattle.std.proofs.Common.{◌≡◌, ℕ, ℤ, zero, suc, ◌+◌, ◌<◌, ◌≤◌, List, [], ◌∷◌, ◌++◌, length, map, All, false, get_or, set, take, drop, refl, sym, ap, ◌∙◌, subst, arith}
use Rattle.std.specs.Prelude.{IsTrue}
use Rattle.std.specs.List.{list_all, refill}
use Rattle.std.proofs.Math.Seq.{take-append_seam}
use Rattle.std.proofs.lemmas.Bool.{and_from, and_parts}
use Rattle.std.proofs.lemmas.List.Elements.{All-nil, All-cons, All-head, All-tail}
use Rattle.sip_vector.specs.declared.query.Query.{Query}
use Rattle.sip_vector.specs.declared.query.Query.TheVariants.{Sub, Range, F2, Inner, Heavy, Share, Above}
use Rattle.sip_vector.specs.declared.update.Side.{Side}
use Rattle.sip_vector.specs.declared.update.Side.TheVariants.{First, Second}
use Rattle.sip_vector.specs.declared.update.Update.{Update}
use Rattle.sip_vector.specs.Streams.{of_side}
use Rattle.sip_verifier.specs.QuerySeats.{HasRoom, HaveRoom, RunningNumbers, Seated, StandsFor, aug_root_is, split_root_is, can_be_asked, concerns, is_heavy_of, is_seat, keeps}
use Rattle.sip_verifier.specs.Seats.{AreSeats, Seating}
use Rattle.sip_verifier.specs.inside.Raising.{AreLeft}
use Rattle.sip_verifier.proofs.Seating.{AreSame, of_own, runs_on, same_runs, seat_from, seat_parts}

-- what they make of a seat
pub record IsRaised (side : Side) (updates : List Update) (old new : Seated) : Type 0 where
  pub query : new.query ≡ old.query
  pub block : new.block ≡ old.block
  pub kept : keeps old.query new.running ≡ keeps old.query old.running
  pub stands : (depth : ℕ) (stream : List Update) → StandsFor depth stream old → StandsFor depth (stream ++ updates) new
  pub others : concerns old.query side ≡ false → new ≡ old

-- they have come to the first so many seats, and the others are as they were
abbrev pub RaisedTo : Side → List Update → ℕ → List Seated → List Seated → Type 0
RaisedTo side updates zero old new = new ≡ old
RaisedTo side updates (suc k) [] new = new ≡ []
RaisedTo side updates (suc k) (s ∷ old) [] = ⊥
RaisedTo side updates (suc k) (s ∷ old) (s' ∷ new) = IsRaised side updates s s' × RaisedTo side updates k old new

-- one more seat
raised-next : (side : Side) (updates : List Update) (k : ℕ) (old new : List Seated) (d s : Seated) → RaisedTo side updates k old new → k < length new → IsRaised side updates (get_or new k d) s → RaisedTo side updates (suc k) old (set new k s)
raised-next side updates zero [] new d s so lt one = absurd (omega (arith, ap length so))
raised-next side updates zero (x ∷ old) [] d s so lt one = absurd (omega (arith, lt))
raised-next side updates zero (x ∷ old) (y ∷ new) d s so lt one = let same : y ≡ x = cc in let rest : new ≡ old = cc in (subst (λ z. IsRaised side updates z s) same one, rest)
raised-next side updates (suc k) [] new d s so lt one = absurd (omega (arith, ap length so))
raised-next side updates (suc k) (x ∷ old) [] d s so lt one = absurd so
raised-next side updates (suc k) (x ∷ old) (y ∷ new) d s so lt one = (so.0, raised-next side updates k old new d s so.1 (omega (arith, lt)) one)

pub raised-more : (side : Side) (updates : List Update) (k : ℕ) (old new : List Seated) (d s : Seated) → RaisedTo side updates k old new → k < length new → IsRaised side updates (get_or new k d) s → RaisedTo side updates (k + 1) old (set new k s)
raised-more side updates k old new d s so lt one = let next : suc k ≡ k + 1 = omega arith in subst (λ n. RaisedTo side updates n old (set new k s)) next (raised-next side updates k old new d s so lt one)

-- the queries stay
pub raised-queries : (side : Side) (updates : List Update) (k : ℕ) (old new : List Seated) → RaisedTo side updates k old new → map (λ s. s.query) new ≡ map (λ s. s.query) old
raised-queries side updates zero old new so = ap (map (λ (s : Seated). s.query)) so
raised-queries side updates (suc k) [] new so = ap (map (λ (s : Seated). s.query)) so
raised-queries side updates (suc k) (x ∷ old) [] so = absurd so
raised-queries side updates (suc k) (x ∷ old) (y ∷ new) so = let one = so.0.query in let more = raised-queries side updates k old new so.1 in rw (one, more) refl

-- so do the challenges
pub raised-blocks : (side : Side) (updates : List Update) (k : ℕ) (old new : List Seated) → RaisedTo side updates k old new → map (λ (s : Seated). s.block) new ≡ map (λ (s : Seated). s.block) old
raised-blocks side updates zero old new so = ap (map (λ (s : Seated). s.block)) so
raised-blocks side updates (suc k) [] new so = ap (map (λ (s : Seated). s.block)) so
raised-blocks side updates (suc k) (x ∷ old) [] so = absurd so
raised-blocks side updates (suc k) (x ∷ old) (y ∷ new) so = let one = so.0.block in let more = raised-blocks side updates k old new so.1 in rw (one, more) refl

-- seats stay seats
pub raised-seats : (side : Side) (updates : List Update) (depth k : ℕ) (old new : List Seated) → RaisedTo side updates k old new → IsTrue (list_all (is_seat depth) old) → IsTrue (list_all (is_seat depth) new)
raised-seats side updates depth zero old new so all = subst (λ l. IsTrue (list_all (is_seat depth) l)) (sym so) all
raised-seats side updates depth (suc k) [] new so all = subst (λ l. IsTrue (list_all (is_seat depth) l)) (sym so) all
raised-seats side updates depth (suc k) (x ∷ old) [] so all = absurd so
raised-seats side updates depth (suc k) (x ∷ old) (y ∷ new) so all =
    let both = and_parts (is_seat depth x) (list_all (is_seat depth) old) all in
    let parts = seat_parts depth x both.0 in
    let can = subst (λ (q : Query). IsTrue (can_be_asked depth q)) (sym so.0.query) parts.0 in
    let kept = subst (λ (q : Query). IsTrue (keeps q y.running)) (sym so.0.query) (so.0.kept ∙ parts.2) in
    let here = seat_from depth y can (ap length so.0.block ∙ parts.1) kept in
    and_from _ _ here (raised-seats side updates depth k old new so.1 both.1)

-- all of them stand for the longer stream in the end
pub raised-stand : (side : Side) (updates : List Update) (k : ℕ) (old new : List Seated) (depth : ℕ) (stream : List Update) → RaisedTo side updates k old new → length old ≤ k → All (StandsFor depth stream) old → All (StandsFor depth (stream ++ updates)) new
raised-stand side updates zero [] new depth stream so le all = subst (All (StandsFor depth (stream ++ updates))) (sym so) (All-nil (StandsFor depth (stream ++ updates)))
raised-stand side updates zero (x ∷ old) new depth stream so le all = absurd (omega (arith, le))
raised-stand side updates (suc k) [] new depth stream so le all = subst (All (StandsFor depth (stream ++ updates))) (sym so) (All-nil (StandsFor depth (stream ++ updates)))
raised-stand side updates (suc k) (x ∷ old) [] depth stream so le all = absurd so
raised-stand side updates (suc k) (x ∷ old) (y ∷ new) depth stream so le all =
    let here = so.0.stands depth stream (All-head (StandsFor depth stream) x old all) in
    All-cons (StandsFor depth (stream ++ updates)) y new here (raised-stand side updates k old new depth stream so.1 (omega (arith, le)) (All-tail (StandsFor depth stream) x old all))

-- the next one is as it was
pub raised-next-old : (side : Side) (updates : List Update) (k : ℕ) (old new : List Seated) (d : Seated) → RaisedTo side updates k old new → k < length new
    → (k < length old) × (get_or new k d ≡ get_or old k d)
raised-next-old side updates zero old new d so lt = (omega (arith, ap length so, lt), ap (λ (l : List Seated). get_or l 0 d) so)
raised-next-old side updates (suc k) [] new d so lt = absurd (omega (arith, ap length so, lt))
raised-next-old side updates (suc k) (x ∷ old) [] d so lt = absurd so
raised-next-old side updates (suc k) (x ∷ old) (y ∷ new) d so lt =
    let rest = raised-next-old side updates k old new d so.1 (omega (arith, lt)) in
    (omega (arith, rest.0), rest.1)

-- one that keeps a sum is for heavy hitters
heavy_alone : (query : Query) (side : Side) (hash : ℕ) (total : ℤ) → IsTrue (concerns query side) → IsTrue (keeps query (aug_root_is hash total)) → IsTrue (is_heavy_of query side)
heavy_alone (Sub lo hi) side hash total concerned kept = absurd cc
heavy_alone (Range own lo hi) side hash total concerned kept = absurd cc
heavy_alone (F2 own) side hash total concerned kept = absurd cc
heavy_alone Inner side hash total concerned kept = absurd cc
heavy_alone (Heavy own least) side hash total concerned kept = concerned
heavy_alone (Share own num den) side hash total concerned kept = concerned
heavy_alone (Above own least) side hash total concerned kept = absurd cc

-- and one that keeps a weight is of no run
weight_alone : (depth : ℕ) (query : Query) (hash weight : ℕ) → IsTrue (can_be_asked depth query) → IsTrue (keeps query (split_root_is hash weight)) → ⊥
weight_alone depth (Sub lo hi) hash weight can kept = absurd cc
weight_alone depth (Range own lo hi) hash weight can kept = absurd cc
weight_alone depth (F2 own) hash weight can kept = absurd cc
weight_alone depth Inner hash weight can kept = absurd cc
weight_alone depth (Heavy own least) hash weight can kept = absurd cc
weight_alone depth (Share own num den) hash weight can kept = absurd cc
weight_alone depth (Above own least) hash weight can kept = absurd cc

-- so there is room where there was room before
pub raised-room : (side : Side) (updates : List Update) (k depth : ℕ) (old new : List Seated) (d : Seated) → RaisedTo side updates k old new → k < length new
    → All (λ u. u.side ≡ side) updates → IsTrue (is_seat depth (get_or new k d)) → HaveRoom old updates side → IsTrue (concerns (get_or new k d).query side) → HasRoom (get_or new k d).running updates
raised-room side updates k depth old new d so lt own is room concerned =
    let parts = seat_parts depth (get_or new k d) is in
    record {
      sums = λ hash total sums.
          let kept = subst (λ (r : RunningNumbers). IsTrue (keeps (get_or new k d).query r)) sums parts.2 in
          let heavy = heavy_alone (get_or new k d).query side hash total concerned kept in
          let here = raised-next-old side updates k old new d so lt in
          let there = room k d here.0 (subst (λ (s : Seated). IsTrue (is_heavy_of s.query side)) here.1 heavy) in
          let same = subst (λ (s : Seated). HasRoom s.running updates) (sym here.1) (subst (HasRoom (get_or old k d).running) (of_own updates side own) there) in
          same.sums hash total sums;
      weights = λ hash weight keeps_it.
          absurd (weight_alone depth (get_or new k d).query hash weight parts.0 (subst (λ (r : RunningNumbers). IsTrue (keeps (get_or new k d).query r)) keeps_it parts.2));
    }

-- those that the side does not concern are as they were
pub raised-left : (side : Side) (updates : List Update) (k : ℕ) (old new : List Seated) → RaisedTo side updates k old new → length old ≤ k → AreLeft side old new
raised-left side updates zero [] new so le = subst (AreLeft side []) (sym so) tt
raised-left side updates zero (x ∷ old) new so le = absurd (omega (arith, le))
raised-left side updates (suc k) [] new so le = subst (AreLeft side []) (sym so) tt
raised-left side updates (suc k) (x ∷ old) [] so le = absurd so
raised-left side updates (suc k) (x ∷ old) (y ∷ new) so le = (
  λ alone. so.0.others (ap (λ (q : Query). concerns q side) (sym so.0.query) ∙ alone),
  raised-left side updates k old new so.1 (omega (arith, le)),
)

pub none-left : (side : Side) (seats : List Seated) → AreLeft side seats seats
none-left side [] = tt
none-left side (x ∷ seats) = (λ alone. refl, none-left side seats)

-- a query for heavy hitters of the second side is not concerned by the first one
not_first : (query : Query) → IsTrue (is_heavy_of query Second) → concerns query First ≡ false
not_first (Sub lo hi) heavy = absurd cc
not_first (Range side lo hi) heavy = absurd cc
not_first (F2 side) heavy = absurd cc
not_first Inner heavy = absurd cc
not_first (Heavy First least) heavy = absurd cc
not_first (Heavy Second least) heavy = refl
not_first (Share First num den) heavy = absurd cc
not_first (Share Second num den) heavy = refl
not_first (Above side least) heavy = absurd cc

-- after the updates of the first side there is still room for those of the second
pub room-left : (updates : List Update) (old new : List Seated) → AreLeft First old new → HaveRoom old updates Second → HaveRoom new updates Second
room-left updates [] [] left room = room
room-left updates [] (y ∷ new) left room = absurd left
room-left updates (x ∷ old) [] left room = absurd left
room-left updates (x ∷ old) (y ∷ new) left room =
    let Room : Seated → Type 0 = λ s. IsTrue (is_heavy_of s.query Second) → HasRoom s.running (of_side updates Second) in
    let here : Room y = λ heavy.
    (let same : y ≡ x = left.0 (not_first y.query heavy) in
    subst (λ (s : Seated). HasRoom s.running (of_side updates Second)) (sym same)
    (All-head Room x old room (subst (λ (s : Seated). IsTrue (is_heavy_of s.query Second)) same heavy)))
    in
    All-cons Room y new here (room-left updates old new left.1 (All-tail Room x old room))

-- a seat has a challenge for each level
pub seat-levels : (depth k : ℕ) (seats : List Seated) (d : Seated) → IsTrue (list_all (is_seat depth) seats) → k < length seats → length (get_or seats k d).block ≡ depth
seat-levels depth k [] d all lt = absurd (omega (arith, lt))
seat-levels depth zero (x ∷ seats) d all lt = (seat_parts depth x (and_parts (is_seat depth x) (list_all (is_seat depth) seats) all).0).1
seat-levels depth (suc k) (x ∷ seats) d all lt = seat-levels depth k seats d (and_parts (is_seat depth x) (list_all (is_seat depth) seats) all).1 (omega (arith, lt))

-- the places of as many seats hold them
pub refilled : (old new : List Seated) → length new ≡ length old → refill (length old) old new ≡ new
refilled old new len = ap (λ n. take n (new ++ drop (length new) old)) (sym len) ∙ take-append_seam new (drop (length new) old)

-- seats stand for each stream with the same vectors
pub same_seats : (depth : ℕ) (queries : List Query) (blocks : List (List ℕ)) (one other : List Update) (s : Seating)
    → AreSame depth one other → AreSeats depth queries blocks one s → AreSeats depth queries blocks other s
same_seats depth queries blocks one other s same are = record {
  levels = are.levels;
  asked = are.asked;
  at_blocks = are.at_blocks;
  stand = λ k d lt. let seat = get_or s.seats k d in same_runs depth one other seat.block seat.query seat.running same (are.stand k d lt);
}

-- seats that updates of a side do not concern stand for the longer stream as they are
pub over-stand : (side : Side) (updates : List Update) (seats : List Seated) (depth : ℕ) (stream : List Update) → All (λ (s : Seated). concerns s.query side ≡ false) seats → All (λ (u : Update). u.side ≡ side) updates
    → All (StandsFor depth stream) seats → All (StandsFor depth (stream ++ updates)) seats
over-stand side updates [] depth stream others own all = All-nil (StandsFor depth (stream ++ updates))
over-stand side updates (s ∷ seats) depth stream others own all =
    let Other : Seated → Type 0 = λ (x : Seated). concerns x.query side ≡ false in
    let here = runs_on depth stream updates s.block side s.query s.running own (All-head Other s seats others) (All-head (StandsFor depth stream) s seats all) in
    All-cons (StandsFor depth (stream ++ updates)) s seats here (over-stand side updates seats depth stream (All-tail Other s seats others) own (All-tail (StandsFor depth stream) s seats all))
