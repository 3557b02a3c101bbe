-- Seats before and after more of their stream.
use Rattle.std.proofs.Common.{◌≡◌, ◌≢◌, ℕ, ◌<◌, ◌≤◌, ◌^◌, ℤ, pos, nat_abs, false, List, [], ◌∷◌, ◌++◌, drop_at, length, sum_by, All, refl, sym, ap, subst, arith}
use Rattle.std.specs.Prelude.{IsTrue}
use Rattle.std.specs.List.{AllZip}
use Rattle.std.proofs.lemmas.List.Elements.{All-append, All-cons, All-drop, All-filter, All-head, All-nil, All-tail}
use Rattle.sip_vector.specs.declared.query.Query.{Query}
use Rattle.sip_vector.specs.declared.query.Query.TheVariants.{Sub, Range, F2, Inner, Heavy, Share, Above}
use Rattle.sip_vector.specs.declared.update.Side.{Side}
use Rattle.sip_vector.specs.declared.update.Side.TheVariants.{First, Second}
use Rattle.sip_vector.specs.declared.update.Update.{Update}
use Rattle.sip_vector.specs.Streams.{IsLegal, most_weight, of_side, same_side, weight}
use Rattle.sip_vector.proofs.Sides.{weight-append}
use Rattle.sip_sums.proofs.HonestSums.{all_front}
use Rattle.sip_wire.specs.declared.version.Version.{Version}
use Rattle.sip_verifier.specs.QuerySeats.{HasRoom, RunningNumbers, RunsOn, Seated, aug_root_is, concerns, is_heavy_of}
use Rattle.sip_verifier.specs.Running.{block_of, numbers_of}
use Rattle.sip_verifier.proofs.Seating.{all_own, of_other, of_own, same_runs, split_same}
use Rattle.sip_verifier.proofs.SeatTotals.{light_after, light_sum, seat_total, size, weight_after_is, weight_kept}
use Rattle.sip_questions.specs.Sittings.{query_like}
use Rattle.sip_runs.specs.declared.seat.RunSeat.{RunSeat}
use Rattle.sip_runs.specs.Seats.{IsSeated, blocks_of, questions_of}

-- ---- room

-- a sum that is kept is that of a side which concerns the query
heavy_one : (depth : ℕ) (stream : List Update) (query : Query) (block : List ℕ) (hash : ℕ) (sum : ℤ) (side : Side) → RunsOn depth stream query block (aug_root_is hash sum)
    → IsTrue (concerns query side) → IsTrue (is_heavy_of query side)
heavy_one depth stream (Sub lo hi) block hash sum side runs own = absurd runs
heavy_one depth stream (Range own' lo hi) block hash sum side runs own = absurd runs
heavy_one depth stream (F2 own') block hash sum side runs own = absurd runs
heavy_one depth stream Inner block hash sum side runs own = absurd runs
heavy_one depth stream (Heavy own' least) block hash sum side runs own = own
heavy_one depth stream (Share own' num den) block hash sum side runs own = own
heavy_one depth stream (Above own' least) block hash sum side runs own = absurd runs

light_side : (depth : ℕ) (stream : List Update) (side : Side) → IsLegal depth stream → weight stream side ≤ most_weight
light_side depth stream First legal = legal.first
light_side depth stream Second legal = legal.second

-- there is room for what a legal stream goes on with, where all of it is of one side
pub has_room : (depth : ℕ) (stream updates : List Update) (query : Query) (block : List ℕ) (running : RunningNumbers) (side : Side) → RunsOn depth stream query block running
    → IsTrue (concerns query side) → All (λ u. u.side ≡ side) updates → IsLegal depth (stream ++ updates) → HasRoom running updates
has_room depth stream updates query block running side runs own all legal =
    let below = all_front (λ (u : Update). u.item < 2 ^ depth) stream updates legal.items in
    let mine : of_side updates side ≡ updates = of_own updates side all in
    let most = light_side depth (stream ++ updates) side legal in
    record {
      sums = λ hash sum is n few.
          let these : RunsOn depth stream query block (aug_root_is hash sum) = subst (RunsOn depth stream query block) is runs in
          let seat : Seated = record { query = query; block = block; running = aug_root_is hash sum } in
          let kept = seat_total depth stream seat side hash sum below these (heavy_one depth stream query block hash sum side these own) refl in
          let before : nat_abs sum ≤ weight stream side = subst (λ z. nat_abs z ≤ weight stream side) (sym kept) (light_sum (of_side stream side)) in
          omega (arith, light_after updates sum (weight stream side) n before, ap (sum_by size) mine, weight-append stream updates side, most);
      weights = λ hash w is.
          let kept = weight_kept depth stream query block side hash w below (subst (RunsOn depth stream query block) is runs) own in
          omega (arith, weight_after_is updates w, kept, ap (sum_by size) mine, weight-append stream updates side, most);
    }

-- ---- one side and then the other

weight_own : (updates : List Update) (side : Side) → weight (of_side updates side) side ≡ weight updates side
weight_own updates side = ap (sum_by size) (of_own (of_side updates side) side (all_own updates side))

weight_other : (updates : List Update) (side own : Side) → same_side side own ≡ false → weight (of_side updates side) own ≡ 0
weight_other updates side own other = ap (sum_by size) (of_other (of_side updates side) side own (all_own updates side) other)

pub all_rest : {X : Type 0} (P : X → Type 0) (front rest : List X) → All P (front ++ rest) → All P rest
all_rest P front rest h = subst (All P) (drop_at front rest (length front) refl) (All-drop P (length front) (front ++ rest) h)

-- what a legal stream goes on with is legal side by side
module _ (depth : ℕ) (stream updates : List Update) (legal : IsLegal depth (stream ++ updates)) where
  abbrev firsts : List Update
  firsts = of_side updates First

  abbrev seconds : List Update
  seconds = of_side updates Second

  own_items : (side : Side) → All (λ (u : Update). u.item < 2 ^ depth) (of_side updates side)
  own_items side =
      let Below : Update → Type 0 = λ u. u.item < 2 ^ depth in
      All-filter (λ (u : Update). same_side u.side side) Below updates (all_rest Below stream updates legal.items)

  own_deltas : (side : Side) → All (λ (u : Update). u.delta ≢ pos 0) (of_side updates side)
  own_deltas side =
      let Some : Update → Type 0 = λ u. u.delta ≢ pos 0 in
      All-filter (λ (u : Update). same_side u.side side) Some updates (all_rest Some stream updates legal.deltas)

  pub legal_first : IsLegal depth (stream ++ of_side updates First)
  legal_first =
      let Below : Update → Type 0 = λ u. u.item < 2 ^ depth in
      let Some : Update → Type 0 = λ u. u.delta ≢ pos 0 in
      record {
        items = All-append Below stream firsts (all_front Below stream updates legal.items) (own_items First);
        deltas = All-append Some stream firsts (all_front Some stream updates legal.deltas) (own_deltas First);
        first = omega (arith, legal.first, weight-append stream updates First, weight-append stream firsts First, weight_own updates First);
        second = omega (arith, legal.second, weight-append stream updates Second, weight-append stream firsts Second, weight_other updates First Second refl);
      }

  pub legal_second : IsLegal depth ((stream ++ of_side updates First) ++ of_side updates Second)
  legal_second =
      let Below : Update → Type 0 = λ u. u.item < 2 ^ depth in
      let Some : Update → Type 0 = λ u. u.delta ≢ pos 0 in
      record {
        items = All-append Below (stream ++ firsts) seconds legal_first.items (own_items Second);
        deltas = All-append Some (stream ++ firsts) seconds legal_first.deltas (own_deltas Second);
        first = omega (arith, legal_first.first, weight-append (stream ++ firsts) seconds First, weight_other updates Second First refl);
        second = omega (arith, legal.second, weight-append stream updates Second, weight-append stream firsts Second, weight_other updates First Second refl, weight-append (stream ++ firsts) seconds Second, weight_own updates Second);
      }

-- streams with the same vectors have the same seats
same_seat : (version : Version) (depth : ℕ) (stream updates : List Update) (s : RunSeat)
    → IsSeated version depth ((stream ++ of_side updates First) ++ of_side updates Second) s → IsSeated version depth (stream ++ updates) s
same_seat version depth stream updates s is = record {
  can = is.can;
  levels = is.levels;
  kept = is.kept;
  runs = record { runs = same_runs depth _ (stream ++ updates) (block_of s.running) (query_like s.question) (numbers_of s.running) (split_same depth stream updates) is.runs.runs };
}

pub same_seats : (version : Version) (depth : ℕ) (stream updates : List Update) (seats : List RunSeat)
    → All (IsSeated version depth ((stream ++ of_side updates First) ++ of_side updates Second)) seats → All (IsSeated version depth (stream ++ updates)) seats
same_seats version depth stream updates seats all = λ k d lt. same_seat version depth stream updates _ (all k d lt)

-- ---- all seats

-- these updates came to a seat
pub record IsRaised (updates : List Update) (old new : RunSeat) : Type 0 where
  pub question : new.question ≡ old.question
  pub block : block_of new.running ≡ block_of old.running
  pub seated : (version : Version) (depth : ℕ) (stream : List Update) → IsSeated version depth stream old → IsSeated version depth (stream ++ updates) new

module _ (updates : List Update) where
  pub zip_questions : (old new : List RunSeat) → AllZip (IsRaised updates) old new → questions_of new ≡ questions_of old
  zip_questions [] [] all = refl
  zip_questions [] (y ∷ new) all = absurd all
  zip_questions (x ∷ old) [] all = absurd all
  zip_questions (x ∷ old) (y ∷ new) all = let one = all.0.question in let more = zip_questions old new all.1 in rw (one, more) refl

  pub zip_blocks : (old new : List RunSeat) → AllZip (IsRaised updates) old new → blocks_of new ≡ blocks_of old
  zip_blocks [] [] all = refl
  zip_blocks [] (y ∷ new) all = absurd all
  zip_blocks (x ∷ old) [] all = absurd all
  zip_blocks (x ∷ old) (y ∷ new) all = let one = all.0.block in let more = zip_blocks old new all.1 in rw (one, more) refl

  pub zip_seated : (version : Version) (depth : ℕ) (stream : List Update) (old new : List RunSeat) → AllZip (IsRaised updates) old new
      → All (IsSeated version depth stream) old → All (IsSeated version depth (stream ++ updates)) new
  zip_seated version depth stream [] [] all stand = All-nil (IsSeated version depth (stream ++ updates))
  zip_seated version depth stream [] (y ∷ new) all stand = absurd all
  zip_seated version depth stream (x ∷ old) [] all stand = absurd all
  zip_seated version depth stream (x ∷ old) (y ∷ new) all stand =
      let Was : RunSeat → Type 0 = IsSeated version depth stream in
      All-cons (IsSeated version depth (stream ++ updates)) y new (all.0.seated version depth stream (All-head Was x old stand))
      (zip_seated version depth stream old new all.1 (All-tail Was x old stand))
