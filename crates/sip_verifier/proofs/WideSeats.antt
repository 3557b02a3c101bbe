-- The first query whose answer may be too wide, by seats and by the stream.
use Rattle.std.proofs.Common.{◌≡◌, ℕ, zero, suc, ◌+◌, ◌<◌, ◌^◌, Bool, true, false, inl, inr, ℤ, pos, negsuc, ◌≤◌, Option, Some, None, List, [], ◌∷◌, ◌++◌, length, map, get_or, take, drop, All, refl, sym, ap, ◌∙◌, subst, arith, length-take-le}
use Rattle.std.specs.Prelude.{◌-◌, ◌*◌, ◌/◌, int_le, nat_abs}
use Rattle.std.specs.Option.{option_map}
use Rattle.std.proofs.lemmas.Bool.{cases_Bool}
use Rattle.std.proofs.lemmas.List.{map-append, length-map, take_more, take-append-drop}
use Rattle.std.proofs.lemmas.List.Elements.{All-head, All-tail}
use Rattle.std.proofs.Math.Nat.{le-div_iff_mul-le, le-mul_of_pos_right}
use Rattle.std.proofs.Math.Seq.{drop-cons}
use Rattle.sip_field.specs.Moduli.{m61_modulus}
use Rattle.sip_vector.specs.declared.query.Query.{Query}
use Rattle.sip_vector.specs.declared.query.Query.TheVariants.{Sub, Range, F2, Inner, Heavy, Share, Above}
use Rattle.sip_vector.specs.declared.update.Update.{Update}
use Rattle.sip_vector.specs.Streams.{vector}
use Rattle.sip_vector.specs.Thresholds.{is_wide, share_of}
use Rattle.sip_vector.proofs.Sides.{total-is}
use Rattle.sip_verifier.specs.QuerySeats.{RunningNumbers, Seated, StandsFor, RunsOn, root_is, point_is, points_are, aug_root_is, split_root_is}
use Rattle.sip_verifier.specs.Seats.{AreSeats, Seating}
use Rattle.sip_verifier.specs.Widths.{first_true, first_wide, first_wide_seat, is_too_wide, is_wide_seat}
use Rattle.sip_verifier.proofs.SeatTotals.{root_total}

-- ---- the first test that passes

unmapped : (o : Option ℕ) → option_map suc o ≡ None → o ≡ None
unmapped None e = refl
unmapped (Some n) e = absurd cc

pub none_more : (tests : List Bool) → first_true tests ≡ None
    → first_true (tests ++ false ∷ []) ≡ None
none_more [] none = refl
none_more (true ∷ tests) none = absurd cc
none_more (false ∷ tests) none =
    ap (option_map suc) (none_more tests (unmapped (first_true tests) none))

pub here_first : (tests more : List Bool) → first_true tests ≡ None
    → first_true (tests ++ true ∷ more) ≡ Some (length tests + 1)
here_first [] more none = refl
here_first (true ∷ tests) more none = absurd cc
here_first (false ∷ tests) more none =
    ap (option_map suc) (here_first tests more (unmapped (first_true tests) none))
    ∙ ap Some (let e : suc (length tests + 1) ≡ suc (length tests) + 1 = omega arith in e)

-- ---- seats one after another

abbrev wide : Seated → Bool
wide s = is_wide_seat s.query s.running

pub narrow_so_far : (seats : List Seated) (i : ℕ) (d : Seated) → i < length seats → first_wide_seat (take i seats) ≡ None → wide (get_or seats i d) ≡ false
    → first_wide_seat (take (i + 1) seats) ≡ None
narrow_so_far seats i d lt none narrow =
    ap (λ l. first_true (map wide l)) (take_more seats i d lt)
    ∙ ap first_true (map-append wide (take i seats) (get_or seats i d ∷ []) ∙ ap (λ b. map wide (take i seats) ++ b ∷ []) narrow)
    ∙ none_more (map wide (take i seats)) none

pub wide_here : (seats : List Seated) (i : ℕ) (d : Seated) → i < length seats → first_wide_seat (take i seats) ≡ None → wide (get_or seats i d) ≡ true
    → first_wide_seat seats ≡ Some (i + 1)
wide_here seats i d lt none is =
    let split : seats ≡ take i seats ++ get_or seats i d ∷ drop (suc i) seats = sym (take-append-drop i seats) ∙ ap (λ l. take i seats ++ l) (drop-cons seats i d lt) in
    let size : length (map wide (take i seats)) ≡ i = length-map (take i seats) wide ∙ length-take-le i seats (omega (arith, lt)) in
    ap (λ l. first_true (map wide l)) split
    ∙ ap first_true (map-append wide (take i seats) (get_or seats i d ∷ drop (suc i) seats) ∙ ap (λ b. map wide (take i seats) ++ b ∷ map wide (drop (suc i) seats)) is)
    ∙ here_first (map wide (take i seats)) (map wide (drop (suc i) seats)) none
    ∙ ap (λ n. Some (n + 1)) size

-- ---- shares

-- a share of a total is at least 1
pub share_least : (num den : ℕ) (sum : ℤ) → 1 ≤ num → num ≤ den → 1 ≤ share_of num den sum
share_least num den sum some less = elim (cases_Bool (int_le (pos 1) sum)) [
  | inl above ↦
      let size : 1 ≤ nat_abs sum = above_zero sum above in
      let more : num ≤ num * nat_abs sum = le-mul_of_pos_right {m = nat_abs sum} num (omega (arith, size)) in
      let enough : 1 * den ≤ num * nat_abs sum + den - 1 = omega (arith, some, more) in
      let least : 1 ≤ (num * nat_abs sum + den - 1) / den = (le-div_iff_mul-le {k = den} {x = 1} {y = num * nat_abs sum + den - 1} (omega (arith, some, less))).1 enough in
      rw above least
  | inr below ↦ rw below (omega arith)
]
  where
    above_zero : (z : ℤ) → int_le (pos 1) z ≡ true → 1 ≤ nat_abs z
    above_zero (pos zero) above = absurd cc
    above_zero (pos (suc n)) above = omega arith
    above_zero (negsuc n) above = absurd cc

-- so is a number that is one
pub share_some : (num den : ℕ) (sum : ℤ) {least : ℕ} → 1 ≤ num → num ≤ den → least ≡ share_of num den sum → 1 ≤ least
share_some num den sum some less is = subst (λ n. 1 ≤ n) (sym is) (share_least num den sum some less)

-- ---- by the stream

-- the answer at a seat may be too wide where that of the stream may
pub seat_width : (depth : ℕ) (stream : List Update) (query : Query) (block : List ℕ) (running : RunningNumbers) → All (λ (u : Update). u.item < 2 ^ depth) stream
    → RunsOn depth stream query block running → is_wide_seat query running ≡ is_too_wide stream query
seat_width depth stream (Sub lo hi) block running below runs = refl
seat_width depth stream (Range side lo hi) block running below runs = refl
seat_width depth stream (F2 side) block running below runs = refl
seat_width depth stream Inner block running below runs = refl
seat_width depth stream (Heavy side least) block (root_is value) below runs = absurd runs
seat_width depth stream (Heavy side least) block (point_is value) below runs = absurd runs
seat_width depth stream (Heavy side least) block (points_are first second) below runs = absurd runs
seat_width depth stream (Heavy side least) block (split_root_is hash weight) below runs = absurd runs
seat_width depth stream (Heavy side least) block (aug_root_is hash sum) below runs =
    ap (is_wide least) (root_total m61_modulus block hash sum (vector depth stream side) runs ∙ sym (total-is depth stream side below))
seat_width depth stream (Above side least) block running below runs = refl
seat_width depth stream (Share side num den) block (root_is value) below runs = absurd runs
seat_width depth stream (Share side num den) block (point_is value) below runs = absurd runs
seat_width depth stream (Share side num den) block (points_are first second) below runs = absurd runs
seat_width depth stream (Share side num den) block (split_root_is hash weight) below runs = absurd runs
seat_width depth stream (Share side num den) block (aug_root_is hash sum) below runs =
    ap (λ n. is_wide (share_of num den n) n) (root_total m61_modulus block hash sum (vector depth stream side) runs ∙ sym (total-is depth stream side below))

seat_widths : (depth : ℕ) (stream : List Update) (seats : List Seated) → All (λ (u : Update). u.item < 2 ^ depth) stream → All (StandsFor depth stream) seats
    → map wide seats ≡ map (is_too_wide stream) (map (λ (s : Seated). s.query) seats)
seat_widths depth stream [] below all = refl
seat_widths depth stream (s ∷ seats) below all =
    let here = seat_width depth stream s.query s.block s.running below (All-head (StandsFor depth stream) s seats all) in
    let rest = seat_widths depth stream seats below (All-tail (StandsFor depth stream) s seats all) in
    rw (here, rest) refl

-- the first wide seat is that of the first wide query
pub first_is : (depth : ℕ) (queries : List Query) (blocks : List (List ℕ)) (stream : List Update) (s : Seating) → AreSeats depth queries blocks stream s
    → All (λ (u : Update). u.item < 2 ^ depth) stream → first_wide_seat s.seats ≡ first_wide stream queries
first_is depth queries blocks stream s are below =
    ap first_true (seat_widths depth stream s.seats below are.stand ∙ ap (map (is_too_wide stream)) are.asked)
