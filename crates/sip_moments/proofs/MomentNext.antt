-- What came of the next moment came of the first that is left.
use Rattle.std.proofs.Common.{◌≡◌, ℕ, ◌+◌, ◌<◌, ◌%◌, ◌^◌, Bool, true, false, true≢false, is_some, ℤ, Option, Some, Ok, Err, List, length, map, drop, get_or, sym, ap, subst, ◌∙◌, inl, inr, arith}
use Rattle.std.specs.List.{slice_get, zip}
use Rattle.std.proofs.lemmas.List.{drop-drop}
use Rattle.std.proofs.lemmas.Option.{slice_get-get_or}
use Rattle.sip_field.specs.Moduli.{m61_modulus}
use Rattle.sip_ports.specs.declared.port.TalkEvent.{TalkEvent}
use Rattle.sip_vector.specs.declared.update.Update.{Update}
use Rattle.sip_verifier.specs.declared.asker.Unanswered.{Unanswered}
use Rattle.sip_verifier.specs.declared.asker.Unanswered.TheVariants as unanswered
use Rattle.sip_verifier.specs.declared.session.SessionFault.TheVariants as faults
use Rattle.sip_vector.specs.declared.query.Query.{Query}
use Rattle.sip_vector.specs.declared.update.Side.TheVariants.{First}
use Rattle.sip_verifier.specs.SeatNumbers.{IsPointAt, point_side_at, queries_of}
use Rattle.sip_verifier.specs.Seats.{Seating}
use Rattle.sip_verifier.specs.runs.Askers.{Asks, IsFirst, behind}
use Rattle.sip_verifier.specs.runs.Asking.{IsInterrupted, IsRejected, IsUnrecorded, IsAnswered}
use Rattle.sip_verifier.specs.runs.Manners.{Manner}
use Rattle.sip_moments.specs.declared.asker.MomentGiven.{MomentGiven}
use Rattle.sip_moments.specs.declared.moment.Moment.{Moment}
use Rattle.sip_moments.specs.AcceptsMoment.{power_at}
use Rattle.sip_moments.specs.Manner.{numbers_of}
use Rattle.sip_moments.specs.Sittings.{Sitting, StandsFor, States, blocks_of, remaining_of, square_of}
use Rattle.sip_moments.proofs.MomentSeats.{block_is, power_is, side_at}
use Rattle.sip_moments.proofs.MomentSittings.{first_at, left_is}

-- ---- which one it is

-- It is the moment that was read, at the challenges of its seat, and the power of the number that
-- the seat shows is that of the extension.
pub record IsNext (s : Sitting) (stream : List Update) (ask : Moment × List ℕ) (moment : Moment)
    (block : List ℕ) (value : ℕ) : Type 0 where
  pub same : (moment, block) ≡ ask
  pub power : (value ^ moment.degree) % m61_modulus
      ≡ power_at m61_modulus moment.degree (numbers_of s.seats.depth stream moment) block

one_value : {X : Type 0} (o : Option X) (x y : X) → o ≡ Some x → o ≡ Some y → x ≡ y
one_value o x y e f = cc

pub next_is : (s : Sitting) (stream : List Update) (ask : Moment × List ℕ) (moment : Moment)
    (block : List ℕ) (value : ℕ) → StandsFor stream s → IsFirst (remaining_of s) ask
    → slice_get s.moments s.asked ≡ Some moment → IsPointAt s.seats s.asked block value
    → IsNext s stream ask moment block value
next_is s stream ask moment block value stands first read point =
    let at = first_at s.moments (blocks_of s.seats) s.asked ask first.more first.first in
    let its = block_is s.seats s.moments s.asked block value s.seats.depth stands.at_blocks stream
    point stands.stand in
    let moments : moment ≡ ask.0 = one_value (slice_get s.moments s.asked) moment ask.0 read at.0 in
    let blocks : block ≡ ask.1 =
    one_value (slice_get stands.at_blocks s.asked) block ask.1 its
    (ap (λ (l : List (List ℕ)). slice_get l s.asked) (sym stands.stand.at_blocks) ∙ at.1) in
    record {
      same = ap (λ (m : Moment). (m, block)) moments ∙ ap (λ (b : List ℕ). (ask.0, b)) blocks;
      power = power_is s.seats s.moments s.asked moment block value s.seats.depth stands.at_blocks
          stream read point stands.stand;
    }

-- ---- what came of it

module _ (m : Manner Moment ℤ) (ask : Moment × List ℕ) (moment : Moment) (block : List ℕ)
    (old new : Option (List TalkEvent)) (same : (moment, block) ≡ ask) where
  abbrev Came : Unanswered → Type 0
  Came why = Asks m (moment, block) old new (λ (v z : ℤ). v ≡ z) (Err why)

  -- a number was given
  pub given_next : (value : ℤ) (given : MomentGiven) → given.moment ≡ moment → given.value ≡ value
      → Asks m (moment, block) old new (λ (v z : ℤ). v ≡ z) (Ok value)
      → Asks m ask old new (λ (g : MomentGiven). States g ask.0) (Ok given)
  given_next value given moments values asks = record {
    answer = asks.answer;
    answered = subst
        (λ (a : Moment × List ℕ). IsAnswered m a.0 a.1 old new asks.answer) same asks.answered;
    states = record {
      asked = moments ∙ ap (λ (a : Moment × List ℕ). a.0) same;
      same = values ∙ asks.states;
    };
  }

  -- none was
  pub none_next : (S : MomentGiven → ℤ → Type 0) (why : Unanswered) → Came why
      → Asks m ask old new S (Err why)
  none_next S (unanswered.Rejected round reason) r =
      subst (λ (a : Moment × List ℕ). IsRejected m a.0 a.1 old new round reason) same r
  none_next S (unanswered.Fault faults.PeerFault) i =
      subst (λ (a : Moment × List ℕ). IsInterrupted m a.0 a.1 old new) same i
  none_next S (unanswered.Fault faults.KeepFault) u =
      subst (λ (a : Moment × List ℕ). IsUnrecorded m a.0 a.1 old new) same u
  none_next S (unanswered.Fault faults.OutOfMemory) (inl i) =
      inl (subst (λ (a : Moment × List ℕ). IsInterrupted m a.0 a.1 old new) same i)
  none_next S (unanswered.Fault faults.OutOfMemory) (inr u) =
      inr (subst (λ (a : Moment × List ℕ). IsUnrecorded m a.0 a.1 old new) same u)

-- ---- what remains

-- one moment less is left
pub behind_next : (s : Sitting) (spent : Bool)
    → remaining_of (record s { asked = s.asked + 1; spent = spent })
    ≡ behind spent (remaining_of s)
behind_next s spent =
    ap (λ (l : List (Moment × List ℕ)). record (remaining_of s) { left = l; spent = spent })
    (sym (drop-drop 1 s.asked (zip s.moments (blocks_of s.seats))))

-- and whether a call failed
pub behind_now : (s now : Sitting) → s ≡ now → (spent failed : Bool) → spent ≡ failed
    → remaining_of (record s { asked = s.asked + 1; spent = spent })
    ≡ behind failed (remaining_of now)
behind_now s now is spent failed same =
    behind_next s spent
    ∙ ap (λ (t : Sitting). behind spent (remaining_of t)) is
    ∙ ap (λ (b : Bool). behind b (remaining_of now)) same

-- ---- where one is left

pub still_left : (s now : Sitting) → s ≡ now
    → map (λ seat. seat.query) s.seats.seats ≡ map square_of s.moments
    → 0 < length (remaining_of now).left → s.asked < length s.moments
still_left s now is same left =
    let there : 0 < length (drop s.asked (zip s.moments (blocks_of s.seats))) =
    subst (λ (t : Sitting). 0 < length (remaining_of t).left) (sym is) left in
    omega (arith, there, left_is s.asked s.moments s.seats same)

-- it is the one that is read
pub read_at : (moments items : List Moment) (k : ℕ) (d : Moment) → items ≡ moments
    → k < length moments → slice_get moments k ≡ Some (get_or items k d)
read_at moments items k d same less =
    slice_get-get_or moments k d less ∙ ap (λ (l : List Moment). Some (get_or l k d)) (sym same)

-- and its seat shows a number
pub no_point : (moments : List Moment) (seats : Seating) (k : ℕ)
    → map (λ s. s.query) seats.seats ≡ map square_of moments → k < length moments
    → false ≡ is_some (point_side_at (queries_of seats) k) → ⊥
no_point moments seats k same less none =
    let d : Moment = record { side = First; degree = 0 } in
    let at = slice_get-get_or moments k d less in
    let side : point_side_at (queries_of seats) k ≡ Some (get_or moments k d).side =
    ap (λ (q : List Query). point_side_at q k) same ∙ side_at moments k (get_or moments k d) at in
    let some : is_some (point_side_at (queries_of seats) k) ≡ true = ap is_some side in
    true≢false (sym (none ∙ some))
