-- A side's total is its weight exactly where none of its deltas was below 0, so that a seat for large entries shows whether one was.
use Rattle.std.proofs.Common.{◌≡◌, ℕ, ◌+◌, inl, inr, true, false, ◌&&◌, ◌||◌, ◌^◌, ◌<◌, ◌≤◌, ℤ, pos, negsuc, ◌+ℤ◌, ◌≤ℤ◌, ◌<ℤ◌, int_lt, nat_abs, List, [], ◌∷◌, map, sum_by, All, refl, sym, ap, ◌∙◌, arith}
use Rattle.std.specs.Prelude.{IsTrue}
use Rattle.std.specs.List.{list_any}
use Rattle.std.proofs.Math.Bool.{and-or_distrib_right}
use Rattle.std.proofs.lemmas.Bool.{cases_Bool, lt-ltb, ltb-true}
use Rattle.std.proofs.lemmas.Int.{ints}
use Rattle.std.proofs.lemmas.List.Elements.{All-head, All-tail}
use Rattle.std.proofs.lemmas.List.Sums.{sum_by-cons}
use Rattle.sip_vector.specs.declared.query.Query.{Query}
use Rattle.sip_vector.specs.declared.query.Query.TheVariants.{Sub, Range, F2, Inner, Heavy, Share, Above}
use Rattle.sip_vector.specs.declared.update.Side.{Side}
use Rattle.sip_vector.specs.declared.update.Update.{Update}
use Rattle.sip_vector.specs.Streams.{int_sum, of_side, weight}
use Rattle.sip_vector.specs.Tallies.{has_negative}
use Rattle.sip_verifier.specs.Negatives.{asks_heavy, has_light, is_light}
use Rattle.sip_verifier.specs.QuerySeats.{RunningNumbers, RunsOn, Seated, StandsFor, aug_root_is, is_heavy_of, point_is, points_are, root_is, split_root_is}
use Rattle.sip_verifier.proofs.SeatTotals.{light_sum, seat_total, size}

-- ---- numbers

lower : (x y : ℤ) → x <ℤ y → int_lt x y ≡ true
lower (pos a) (pos b) h = lt-ltb a b (omega (arith, ints, h))
lower (pos a) (negsuc b) h = absurd (omega (arith, ints, h))
lower (negsuc a) (pos b) h = refl
lower (negsuc a) (negsuc b) h = lt-ltb b a (omega (arith, ints, h))

is_lower : (x y : ℤ) → int_lt x y ≡ true → x <ℤ y
is_lower (pos a) (pos b) h = let lt = ltb-true a b h in omega (arith, ints, lt)
is_lower (pos a) (negsuc b) h = absurd (cc)
is_lower (negsuc a) (pos b) h = omega (arith, ints)
is_lower (negsuc a) (negsuc b) h = let lt = ltb-true b a h in omega (arith, ints, lt)

-- two comparisons agree where each follows from the other
agree : (x y z w : ℤ) → (x <ℤ y → z <ℤ w) → (z <ℤ w → x <ℤ y) → int_lt x y ≡ int_lt z w
agree x y z w there back = elim (cases_Bool (int_lt x y)) [
  | inl is ↦ is ∙ sym (lower z w (there (is_lower x y is)))
  | inr unlike ↦ elim (cases_Bool (int_lt z w)) [
    | inl other ↦ absurd (let wrong = lower x y (back (is_lower z w other)) in let both : false ≡ true = sym unlike ∙ wrong in cc)
    | inr neither ↦ unlike ∙ sym neither
  ]
]

-- with one more delta
light_step : (d t : ℤ) (w : ℕ) → t ≤ℤ pos w → int_lt (d +ℤ t) (pos (nat_abs d + w)) ≡ (int_lt d (pos 0) || int_lt t (pos w))
light_step (pos n) t w most =
    let none : int_lt (pos n) (pos 0) ≡ false = elim (cases_Bool (int_lt (pos n) (pos 0))) [
      | inl is ↦ absurd (let wrong = is_lower (pos n) (pos 0) is in omega (arith, ints, wrong))
      | inr unlike ↦ unlike
    ] in
    agree (pos n +ℤ t) (pos (n + w)) t (pos w) (λ h. omega (arith, ints, h)) (λ h. omega (arith, ints, h))
    ∙ sym (ap (λ b. b || int_lt t (pos w)) none)
light_step (negsuc n) t w most = lower (negsuc n +ℤ t) (pos (nat_abs (negsuc n) + w)) (omega (arith, ints, most))

below_size : (z : ℤ) (w : ℕ) → nat_abs z ≤ w → z ≤ℤ pos w
below_size (pos n) w h = omega (arith, ints, h)
below_size (negsuc n) w h = omega (arith, ints)

-- ---- streams

light_is : (updates : List Update) → int_lt (int_sum (map (λ (u : Update). u.delta) updates)) (pos (sum_by size updates)) ≡ list_any (λ (u : Update). int_lt u.delta (pos 0)) updates
light_is [] = refl
light_is (u ∷ updates) =
    let rest = int_sum (map (λ (v : Update). v.delta) updates) in
    ap (λ n. int_lt (u.delta +ℤ rest) (pos n)) (sum_by-cons size u updates)
    ∙ light_step u.delta rest (sum_by size updates) (below_size rest (sum_by size updates) (light_sum updates))
    ∙ ap (λ b. int_lt u.delta (pos 0) || b) (light_is updates)

-- ---- seats

-- a seat for large entries keeps a total
keeps_total : (depth : ℕ) (stream : List Update) (side : Side) (query : Query) (block : List ℕ) (running : RunningNumbers) → IsTrue (is_heavy_of query side) → RunsOn depth stream query block running
    → (hash : ℕ) × (sum : ℤ) × (running ≡ aug_root_is hash sum)
keeps_total depth stream side (Sub lo hi) block running heavy runs = absurd (let no : false ≡ true = heavy in cc)
keeps_total depth stream side (Range own lo hi) block running heavy runs = absurd (let no : false ≡ true = heavy in cc)
keeps_total depth stream side (F2 own) block running heavy runs = absurd (let no : false ≡ true = heavy in cc)
keeps_total depth stream side Inner block running heavy runs = absurd (let no : false ≡ true = heavy in cc)
keeps_total depth stream side (Heavy own least) block (root_is value) heavy runs = absurd runs
keeps_total depth stream side (Heavy own least) block (point_is value) heavy runs = absurd runs
keeps_total depth stream side (Heavy own least) block (points_are first second) heavy runs = absurd runs
keeps_total depth stream side (Heavy own least) block (split_root_is hash weight) heavy runs = absurd runs
keeps_total depth stream side (Heavy own least) block (aug_root_is hash sum) heavy runs = (hash, sum, refl)
keeps_total depth stream side (Share own num den) block (root_is value) heavy runs = absurd runs
keeps_total depth stream side (Share own num den) block (point_is value) heavy runs = absurd runs
keeps_total depth stream side (Share own num den) block (points_are first second) heavy runs = absurd runs
keeps_total depth stream side (Share own num den) block (split_root_is hash weight) heavy runs = absurd runs
keeps_total depth stream side (Share own num den) block (aug_root_is hash sum) heavy runs = (hash, sum, refl)
keeps_total depth stream side (Above own least) block running heavy runs = absurd (let no : false ≡ true = heavy in cc)

seat_light : (depth : ℕ) (stream : List Update) (side : Side) (s : Seated) → All (λ (u : Update). u.item < 2 ^ depth) stream → StandsFor depth stream s
    → has_light s side (weight stream side) ≡ (is_heavy_of s.query side && has_negative stream side)
seat_light depth stream side s below stands = elim (cases_Bool (is_heavy_of s.query side)) [
  | inl heavy ↦
      let kept = keeps_total depth stream side s.query s.block s.running heavy stands in
      let total = seat_total depth stream s side kept.0 kept.1 below stands heavy kept.2 in
      let light : is_light s.running (weight stream side) ≡ has_negative stream side =
      ap (λ (r : RunningNumbers). is_light r (weight stream side)) kept.2
      ∙ ap (λ z. int_lt z (pos (weight stream side))) total ∙ light_is (of_side stream side) in
      ap (λ b. is_heavy_of s.query side && b) light
  | inr other ↦ rw other refl
]

pub seats_light : (depth : ℕ) (stream : List Update) (side : Side) (seats : List Seated) → All (λ (u : Update). u.item < 2 ^ depth) stream → All (StandsFor depth stream) seats
    → list_any (λ (s : Seated). has_light s side (weight stream side)) seats ≡ (asks_heavy (map (λ (s : Seated). s.query) seats) side && has_negative stream side)
seats_light depth stream side [] below stand = refl
seats_light depth stream side (s ∷ seats) below stand =
    let asked = asks_heavy (map (λ (t : Seated). t.query) seats) side in
    let here = seat_light depth stream side s below (All-head (StandsFor depth stream) s seats stand) in
    let others = seats_light depth stream side seats below (All-tail (StandsFor depth stream) s seats stand) in
    ap (λ b. b || list_any (λ (t : Seated). has_light t side (weight stream side)) seats) here
    ∙ ap (λ b. (is_heavy_of s.query side && has_negative stream side) || b) others
    ∙ sym (and-or_distrib_right (is_heavy_of s.query side) asked (has_negative stream side))
