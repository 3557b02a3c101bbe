-- A sum of some of the parts, with the numbers of no update in its used seats.
use Rattle.std.proofs.Common.{◌≡◌, ℕ, zero, suc, ◌+◌, ◌-◌, ◌<◌, ◌≤◌, Bool, true, false, cond, not, ◌&&◌, ◌||◌, ltb, List, [], ◌∷◌, ◌++◌, length, map, get_or, All, Option, Some, None, refl, sym, ap, ap₂, subst, ◌∙◌, arith}
use Rattle.std.specs.Prelude.{nat_eq, ⊤}
use Rattle.std.specs.Cmp.Lexicographic.{pointwise}
use Rattle.std.specs.List.{AllZip}
use Rattle.std.proofs.lemmas.Bool.{and_parts, ltb-false}
use Rattle.std.proofs.lemmas.List.Elements.{All-nil, All-cons, All-head, All-tail}
use Rattle.sip_field.specs.Moduli.{m61_modulus}
use Rattle.sip_vector.specs.Streams.{most_weight}
use Rattle.sip_vector.specs.declared.tally.Tally.{Tally}
use Rattle.sip_vector.specs.declared.update.Side.TheVariants.{First, Second}
use Rattle.sip_vector.specs.declared.update.Update.{Update}
use Rattle.sip_sketch.specs.declared.cursor.Size.TheVariants.{Long}
use Rattle.sip_sketch.specs.declared.kind.SeatKind.{SeatKind}
use Rattle.sip_sketch.specs.declared.kind.SeatKind.TheVariants.{Above, Entries, Heavy, Products, Sums as SumsOf}
use Rattle.sip_sketch.specs.declared.sum.Sum.TheInside.{Inside}
use Rattle.sip_sketch.specs.declared.unlike.Unlike.{Unlike}
use Rattle.sip_sketch.specs.declared.unlike.Unlike.TheVariants as reasons
use Rattle.sip_sketch.specs.Fields.{Field, IsValue}
use Rattle.sip_sketch.specs.Joining.{added, added_seat, added_seats, any_used, is_whole, same_seat, same_shape, unlike}
use Rattle.sip_sketch.specs.Merging.{HasUsed, in_place, lacks_of, seats_in_place, unfit, unlike_first}
use Rattle.sip_sketch.specs.Sketches.{IsSketch, SeatValues, SketchValues, byte, element, most_seats}
use Rattle.sip_sketch.specs.Standing.{SeatStands, Stands}
use Rattle.sip_verifier.specs.Running.{FitTogether}
use Rattle.sip_sketch.specs.Seats.{numbers_kept}
use Rattle.sip_sketch.specs.inside.Adding.{AddUp}
use Rattle.sip_sketch.specs.inside.Merging.{HasSeats, cleared, cleared_seat, seats_of, second_at_first}
use Rattle.sip_sketch.proofs.Added.{added-at, added-length}
use Rattle.sip_sketch.proofs.Alike.{alike-length, is_so, joins_from, none_used, passed, seats_block}
use Rattle.sip_sketch.proofs.Totals.{neither}
use Rattle.sip_sketch.proofs.Kept.{IsTold, heavy_field, weight_told}
use Rattle.sip_sketch.proofs.Summing.{all_add_up, sum_sketch, sum_stands}
use Rattle.sip_sketch.proofs.Whole.{HeadFits, SeatFits, fits_from, head_from, light, ranged_from, ranged_value, sketch_from}

-- what is seen of a sum that has these fields
abbrev pub sum_seen : Inside → SketchValues
sum_seen s = record { depth = s.depth; parts = s.parts; tally = s.tally; seats = s.seats.items }

-- ---- a seat

-- adding to a used seat changes nothing, so it may be cleared before or behind
seat_by : (kind : SeatKind) (used : Bool) (block : List ℕ) (a b : ℕ) (more : SeatValues)
    → cleared_seat (added_seat (record { kind = kind; is_used = used; block = block; first = a; second = b }) more)
    ≡ added_seat (cleared_seat (record { kind = kind; is_used = used; block = block; first = a; second = b })) more
seat_by kind true block a b more = refl
seat_by kind false block a b more = refl

seat_cleared : (s more : SeatValues) → cleared_seat (added_seat s more) ≡ added_seat (cleared_seat s) more
seat_cleared s more = seat_by s.kind s.is_used s.block s.first s.second more

pub seats_cleared : (seats others : List SeatValues) → map cleared_seat (added_seats seats others) ≡ added_seats (map cleared_seat seats) others
seats_cleared [] others = refl
seats_cleared (s ∷ seats) [] = refl
seats_cleared (s ∷ seats) (more ∷ others) = ap₂ (λ x l. x ∷ l) (seat_cleared s more) (seats_cleared seats others)

-- it stays alike
alike_cleared : (seats others : List SeatValues) → pointwise same_seat (map cleared_seat seats) others ≡ pointwise same_seat seats others
alike_cleared [] [] = refl
alike_cleared [] (more ∷ others) = refl
alike_cleared (s ∷ seats) [] = refl
alike_cleared (s ∷ seats) (more ∷ others) = ap (λ b. same_seat s more && b) (alike_cleared seats others)

-- ---- the sum

pub added_cleared : (s part : SketchValues) → added (cleared s) part ≡ cleared (added s part)
added_cleared s part = λ i. record {
  depth = s.depth;
  parts = (added s part).parts;
  tally = (added s part).tally;
  seats = sym (seats_cleared s.seats part.seats) i;
}

-- why a part is not added, where its shape is the same
abbrev behind : SketchValues → SketchValues → Option Unlike
behind s part =
    cond (is_whole part.parts) (Some reasons.Whole) (cond (any_used part.seats) (Some reasons.UsedSeat)
    (cond (not (nat_eq part.parts.first (s.parts.last + 1))) (Some reasons.NotNext)
    (cond (ltb most_weight (s.tally.first + part.tally.first)) (Some (reasons.Heavy First))
    (cond (ltb most_weight (s.tally.second + part.tally.second)) (Some (reasons.Heavy Second)) None))))

pub unlike_cleared : (s part : SketchValues) → unlike (cleared s) part ≡ unlike s part
unlike_cleared s part =
    ap (λ (b : Bool). cond (not (nat_eq s.depth part.depth && (nat_eq s.parts.count part.parts.count && b))) (Some reasons.Shape) (behind s part))
    (alike_cleared s.seats part.seats)

-- ---- where no seat is used

unused_by : (kind : SeatKind) (used : Bool) (block : List ℕ) (a b : ℕ) → used ≡ false
    → cleared_seat (record { kind = kind; is_used = used; block = block; first = a; second = b })
    ≡ record { kind = kind; is_used = used; block = block; first = a; second = b }
unused_by kind true block a b none = absurd cc
unused_by kind false block a b none = refl

pub unused_cleared : (s : SeatValues) → s.is_used ≡ false → cleared_seat s ≡ s
unused_cleared s none = unused_by s.kind s.is_used s.block s.first s.second none

pub none_cleared : (seats : List SeatValues) → any_used seats ≡ false → map cleared_seat seats ≡ seats
none_cleared [] none = refl
none_cleared (s ∷ seats) none =
    let both = neither s.is_used (any_used seats) none in
    ap₂ (λ x l. x ∷ l) (unused_cleared s both.0) (none_cleared seats both.1)

-- ---- values of a file

-- the numbers of no update are values of a used seat, whatever is told
first_told : (t : Tally) (kind : SeatKind) → weight_told t First ≤ most_weight → weight_told t Second ≤ most_weight → IsTold t kind true (second_at_first kind)
first_told t Entries first second = ranged_value Long 0 0 0 (omega arith) (omega arith) (omega arith)
first_told t (SumsOf First) first second = ranged_value Long 0 0 0 (omega arith) (omega arith) (omega arith)
first_told t (SumsOf Second) first second = ranged_value Long 0 0 0 (omega arith) (omega arith) (omega arith)
first_told t Products first second = ranged_value Long 0 (m61_modulus - 1) 0 (omega arith) (omega arith) (omega arith)
first_told t (Heavy First) first second = subst (λ (f : Field). IsValue f most_weight) (sym (heavy_field t First true))
    (ranged_value Long (most_weight - t.first) (most_weight + t.first) most_weight (omega arith) (omega arith) (omega arith))
first_told t (Heavy Second) first second = subst (λ (f : Field). IsValue f most_weight) (sym (heavy_field t Second true))
    (ranged_value Long (most_weight - t.second) (most_weight + t.second) most_weight (omega arith) (omega arith) (omega arith))
first_told t (Above First) first second = ranged_value Long 0 0 0 (omega arith) (omega arith) (omega arith)
first_told t (Above Second) first second = ranged_value Long 0 0 0 (omega arith) (omega arith) (omega arith)

-- a used seat's number stays one where the weights are no less
pub wider_told : (t u : Tally) (kind : SeatKind) (x : ℕ) → t.first ≤ u.first → t.second ≤ u.second → u.first ≤ most_weight → u.second ≤ most_weight
    → IsTold t kind true x → IsTold u kind true x
wider_told t u Entries x first second most most' told = told
wider_told t u (SumsOf First) x first second most most' told = told
wider_told t u (SumsOf Second) x first second most most' told = told
wider_told t u Products x first second most most' told = told
wider_told t u (Heavy First) x first second most most' told =
    let own = subst (λ (f : Field). IsValue f x) (heavy_field t First true) told in
    let bounds = ranged_from Long (most_weight - t.first) (most_weight + t.first) x own in
    subst (λ (f : Field). IsValue f x) (sym (heavy_field u First true))
    (ranged_value Long (most_weight - u.first) (most_weight + u.first) x (omega (arith, bounds.0, first)) (omega (arith, bounds.1, first)) own.1)
wider_told t u (Heavy Second) x first second most most' told =
    let own = subst (λ (f : Field). IsValue f x) (heavy_field t Second true) told in
    let bounds = ranged_from Long (most_weight - t.second) (most_weight + t.second) x own in
    subst (λ (f : Field). IsValue f x) (sym (heavy_field u Second true))
    (ranged_value Long (most_weight - u.second) (most_weight + u.second) x (omega (arith, bounds.0, second)) (omega (arith, bounds.1, second)) own.1)
wider_told t u (Above First) x first second most most' told = told
wider_told t u (Above Second) x first second most most' told = told

-- ---- the first part, with the used seats of a sketch

module _ (depth : ℕ) (t : Tally) (first : t.first ≤ most_weight) (second : t.second ≤ most_weight) where
  seat_placed : (w p : SeatValues) (b : Bool) → w.is_used ≡ b → same_seat w p ≡ true → p.is_used ≡ false → SeatFits depth t p
      → SeatFits depth t (cleared_seat (cond b w p))
  seat_placed w p false is same unused fits = subst (SeatFits depth t) (sym (unused_cleared p unused)) fits
  seat_placed w p true is same unused fits =
      let block : p.block ≡ w.block = seats_block w p same in
      record {
        levels = sym (ap length block) ∙ fits.levels;
        block = subst (λ (l : List ℕ). All (IsValue element) l) block fits.block;
        first = subst (λ (b : Bool). IsValue element (cond b 0 w.first)) (sym is) (ranged_value Long 0 (m61_modulus - 1) 0 (omega arith) (omega arith) (omega arith));
        second = subst (λ (b : Bool). IsTold t w.kind b (cond b (second_at_first w.kind) w.second)) (sym is) (first_told t w.kind first second);
      }

  placed_fits : (ws ps : List SeatValues) → pointwise same_seat ws ps ≡ true → any_used ps ≡ false → All (SeatFits depth t) ps
      → All (SeatFits depth t) (map cleared_seat (seats_in_place ws ps))
  placed_fits [] [] same unused fits = All-nil (SeatFits depth t)
  placed_fits [] (p ∷ ps) same unused fits = absurd cc
  placed_fits (w ∷ ws) [] same unused fits = absurd cc
  placed_fits (w ∷ ws) (p ∷ ps) same unused fits =
      let both = and_parts (same_seat w p) (pointwise same_seat ws ps) same in
      let none = neither p.is_used (any_used ps) unused in
      All-cons (SeatFits depth t) (cleared_seat (cond w.is_used w p)) (map cleared_seat (seats_in_place ws ps))
      (seat_placed w p w.is_used refl both.0 none.0 (All-head (SeatFits depth t) p ps fits))
      (placed_fits ws ps both.1 none.1 (All-tail (SeatFits depth t) p ps fits))

-- the head says nothing of seats but how many there are
head_of : (s : SketchValues) (seats : List SeatValues) → HeadFits s → length seats ≡ length s.seats
    → HeadFits (record { depth = s.depth; parts = s.parts; tally = s.tally; seats = seats })
head_of s seats head long = record {
  depth = head.depth;
  count = head.count;
  first_part = head.first_part;
  last_part = head.last_part;
  first = head.first;
  second = head.second;
  records = head.records;
  negatives = head.negatives;
  fingerprint = head.fingerprint;
  seats = subst (IsValue (byte 1 most_seats)) (sym long) head.seats;
}

map-length : (seats : List SeatValues) → length (map cleared_seat seats) ≡ length seats
map-length [] = refl
map-length (s ∷ seats) = ap suc (map-length seats)

pub place-length : (ws ps : List SeatValues) → length ws ≡ length ps → length (seats_in_place ws ps) ≡ length ps
place-length [] ps long = refl
place-length (w ∷ ws) [] long = absurd (omega (arith, long))
place-length (w ∷ ws) (p ∷ ps) long = ap suc (place-length ws ps (omega (arith, long)))

-- it has the shape of a sketch that there may be
abbrev HasShape : Option SketchValues → SketchValues → Type 0
HasShape None part = ⊤
HasShape (Some was) part = pointwise same_seat was.seats part.seats ≡ true

fit_unused : (part : SketchValues) → unfit part ≡ None → any_used part.seats ≡ false
fit_unused part none = (passed (any_used part.seats) reasons.UsedSeat None (passed (is_whole part.parts) reasons.Whole _ none).1).0

first_unused : (sketch : Option SketchValues) (part : SketchValues) → unlike_first sketch part ≡ None → any_used part.seats ≡ false
first_unused None part none = fit_unused part none
first_unused (Some was) part none = fit_unused part (passed (not (same_shape was part)) reasons.Shape (unfit part) none).1

first_shape : (sketch : Option SketchValues) (part : SketchValues) → unlike_first sketch part ≡ None → HasShape sketch part
first_shape None part none = tt
first_shape (Some was) part none =
    let one = passed (not (same_shape was part)) reasons.Shape (unfit part) none in
    let shape = and_parts (nat_eq was.depth part.depth) (nat_eq was.parts.count part.parts.count && pointwise same_seat was.seats part.seats) (is_so _ one.0) in
    (and_parts (nat_eq was.parts.count part.parts.count) (pointwise same_seat was.seats part.seats) shape.1).1

pub first_seats : (sketch : Option SketchValues) (part : SketchValues) → unlike_first sketch part ≡ None → HasSeats sketch part.seats
first_seats None part none = tt
first_seats (Some was) part none = alike-length same_seat was.seats part.seats (first_shape (Some was) part none)

-- the fields of the first part, with these seats
pub placed_is : (sketch : Option SketchValues) (part : SketchValues) (seats : List SeatValues) → seats ≡ seats_in_place (seats_of sketch) part.seats
    → record { depth = part.depth; parts = part.parts; tally = part.tally; seats = seats } ≡ in_place sketch part
placed_is None part seats is = λ i. record { depth = part.depth; parts = part.parts; tally = part.tally; seats = is i }
placed_is (Some was) part seats is = λ i. record { depth = part.depth; parts = part.parts; tally = part.tally; seats = is i }

-- so it may be a sum so far
pub placed_sketch : (sketch : Option SketchValues) (part : SketchValues) → IsSketch part → unlike_first sketch part ≡ None
    → IsSketch (cleared (in_place sketch part))
placed_sketch None part is none = subst IsSketch (λ i. record {
  depth = part.depth;
  parts = part.parts;
  tally = part.tally;
  seats = sym (none_cleared part.seats (first_unused None part none)) i;
}) is
placed_sketch (Some was) part is none =
    let same = first_shape (Some was) part none in
    let placed = seats_in_place was.seats part.seats in
    let long = map-length placed ∙ place-length was.seats part.seats (alike-length same_seat was.seats part.seats same) in
    let few = light part is in
    sketch_from (cleared (in_place (Some was) part)) (head_of part (map cleared_seat placed) (head_from part is) long)
    (placed_fits part.depth part.tally few.0 few.1 was.seats part.seats same (first_unused (Some was) part none) (fits_from part is))

-- ---- the next part

-- the sum so far, with the next part
pub joined_sketch : (s part : SketchValues) → IsSketch (cleared s) → IsSketch part → unlike s part ≡ None → IsSketch (cleared (added s part))
joined_sketch s part is other none =
    subst IsSketch (added_cleared s part) (sum_sketch (cleared s) part is other (joins_from (cleared s) part (unlike_cleared s part ∙ none)))

-- seats that add up where the used ones are cleared add up
seat_adds : (s more : SeatValues) → AddUp (cleared_seat s) more → AddUp s more
seat_adds s more h = record {
  kind = h.kind;
  block = h.block;
  total = λ unused. subst (λ (x : SeatValues). FitTogether (numbers_kept x.kind x.first x.second) (numbers_kept more.kind more.first more.second)) (unused_cleared s unused) (h.total unused);
}

seats_add : (seats others : List SeatValues) → AllZip AddUp (map cleared_seat seats) others → AllZip AddUp seats others
seats_add [] [] h = tt
seats_add [] (more ∷ others) h = absurd h
seats_add (s ∷ seats) [] h = absurd h
seats_add (s ∷ seats) (more ∷ others) (one, all) = (seat_adds s more one, seats_add seats others all)

pub joined_adds : (s part : SketchValues) → IsSketch (cleared s) → IsSketch part → unlike s part ≡ None → AllZip AddUp s.seats part.seats
joined_adds s part is other none =
    seats_add s.seats part.seats (all_add_up (cleared s) part is other (joins_from (cleared s) part (unlike_cleared s part ∙ none)))

-- what a call answers of it
pub is_free : (s part now : SketchValues) (seats : List SeatValues) (why : Option Unlike) → seats ≡ s.seats → part ≡ now
    → why ≡ unlike (record { depth = s.depth; parts = s.parts; tally = s.tally; seats = seats }) now → why ≡ None → unlike s part ≡ None
is_free s part now seats why same view is none =
    ap₂ (λ (l : List SeatValues) (x : SketchValues). unlike (record { depth = s.depth; parts = s.parts; tally = s.tally; seats = l }) x) (sym same) view ∙ sym is ∙ none

-- ---- which seats are used

-- a used seat is that of the sketch, and the others are unused
abbrev pub Stays : SeatValues → SeatValues → Type 0
Stays was now = (now.is_used ≡ was.is_used) × (was.is_used ≡ true → now ≡ was)

seat_stays : (w p : SeatValues) (b : Bool) → w.is_used ≡ b → p.is_used ≡ false → Stays w (cond b w p)
seat_stays w p true is unused = (refl, λ used. refl)
seat_stays w p false is unused = (unused ∙ sym is, λ used. (let two : true ≡ false = sym used ∙ is in absurd cc))

place_stays : (ws ps : List SeatValues) → pointwise same_seat ws ps ≡ true → any_used ps ≡ false → AllZip Stays ws (seats_in_place ws ps)
place_stays [] [] same unused = tt
place_stays [] (p ∷ ps) same unused = absurd cc
place_stays (w ∷ ws) [] same unused = absurd cc
place_stays (w ∷ ws) (p ∷ ps) same unused =
    let none = neither p.is_used (any_used ps) unused in
    (seat_stays w p w.is_used refl none.0, place_stays ws ps (and_parts (same_seat w p) (pointwise same_seat ws ps) same).1 none.1)

added_by : (kind : SeatKind) (used : Bool) (block : List ℕ) (a b : ℕ) (more : SeatValues) → used ≡ true
    → added_seat (record { kind = kind; is_used = used; block = block; first = a; second = b }) more
    ≡ record { kind = kind; is_used = used; block = block; first = a; second = b }
added_by kind true block a b more is = refl
added_by kind false block a b more is = absurd cc

add_stays : (ws seats others : List SeatValues) → pointwise same_seat seats others ≡ true → AllZip Stays ws seats → AllZip Stays ws (added_seats seats others)
add_stays [] [] others same stays = tt
add_stays [] (s ∷ seats) others same stays = absurd stays
add_stays (w ∷ ws) [] others same stays = absurd stays
add_stays (w ∷ ws) (s ∷ seats) [] same stays = absurd cc
add_stays (w ∷ ws) (s ∷ seats) (more ∷ others) same ((flag, is), stays) = (
  (flag, λ used. added_by s.kind s.is_used s.block s.first s.second more (flag ∙ used) ∙ is used),
  add_stays ws seats others (and_parts (same_seat s more) (pointwise same_seat seats others) same).1 stays,
)

add_unused : (seats others : List SeatValues) → All (λ seat. seat.is_used ≡ false) seats → pointwise same_seat seats others ≡ true → All (λ seat. seat.is_used ≡ false) (added_seats seats others)
add_unused seats others none same = λ k d lt.
    (let long = alike-length same_seat seats others same in
    let below : k < length seats = omega (arith, lt, added-length seats others long) in
    ap (λ (x : SeatValues). x.is_used) (added-at seats others k d long below) ∙ none k d below)

pub first_used : (sketch : Option SketchValues) (part : SketchValues) → unlike_first sketch part ≡ None → HasUsed sketch (in_place sketch part)
first_used None part none = λ k d lt. none_used part.seats k d (first_unused None part none) lt
first_used (Some was) part none =
    place_stays was.seats part.seats (first_shape (Some was) part none) (first_unused (Some was) part none)

pub next_used : (sketch : Option SketchValues) (s part : SketchValues) → unlike s part ≡ None → HasUsed sketch s → HasUsed sketch (added s part)
next_used None s part none used = add_unused s.seats part.seats used (joins_from s part none).seats
next_used (Some was) s part none used = add_stays was.seats s.seats part.seats (joins_from s part none).seats used

-- ---- all parts

-- a used seat is one of the whole sum where the sketch had no more weight
module _ (d e : ℕ) (t u : Tally) (first : t.first ≤ u.first) (second : t.second ≤ u.second) (most : u.first ≤ most_weight) (most' : u.second ≤ most_weight) where
  seat_whole : (was now : SeatValues) (b : Bool) → now.is_used ≡ b → SeatFits d t was → SeatFits e u (cleared_seat now) → Stays was now → SeatFits e u now
  seat_whole was now false is own fits stays = subst (SeatFits e u) (unused_cleared now is) fits
  seat_whole was now true is own fits stays =
      let used : was.is_used ≡ true = sym stays.0 ∙ is in
      let same : now ≡ was = stays.1 used in
      let told : IsTold t was.kind true was.second = subst (λ (b : Bool). IsTold t was.kind b was.second) used own.second in
      let wide : IsTold u was.kind was.is_used was.second = subst (λ (b : Bool). IsTold u was.kind b was.second) (sym used) (wider_told t u was.kind was.second first second most most' told) in
      record {
        levels = fits.levels;
        block = fits.block;
        first = subst (λ (x : SeatValues). IsValue element x.first) (sym same) own.first;
        second = subst (λ (x : SeatValues). IsTold u x.kind x.is_used x.second) (sym same) wide;
      }

  all_whole : (ws seats : List SeatValues) → All (SeatFits d t) ws → All (SeatFits e u) (map cleared_seat seats) → AllZip Stays ws seats → All (SeatFits e u) seats
  all_whole [] [] own fits stays = All-nil (SeatFits e u)
  all_whole [] (s ∷ seats) own fits stays = absurd stays
  all_whole (w ∷ ws) [] own fits stays = absurd stays
  all_whole (w ∷ ws) (s ∷ seats) own fits (one, stays) =
      All-cons (SeatFits e u) s seats
      (seat_whole w s s.is_used refl (All-head (SeatFits d t) w ws own) (All-head (SeatFits e u) (cleared_seat s) (map cleared_seat seats) fits) one)
      (all_whole ws seats (All-tail (SeatFits d t) w ws own) (All-tail (SeatFits e u) (cleared_seat s) (map cleared_seat seats) fits) stays)

-- where all seats are unused
all_cleared : (seats : List SeatValues) → All (λ seat. seat.is_used ≡ false) seats → map cleared_seat seats ≡ seats
all_cleared [] none = refl
all_cleared (s ∷ seats) none =
    let Unused : SeatValues → Type 0 = λ seat. seat.is_used ≡ false in
    ap₂ (λ x l. x ∷ l) (unused_cleared s (All-head Unused s seats none)) (all_cleared seats (All-tail Unused s seats none))

no_less : (a b : ℕ) → ltb a b ≡ false → b ≤ a
no_less a b none = ltb-false a b none

-- the sum lacks nothing, so it has no less weight
pub weights_rise : (sketch sum : SketchValues) → lacks_of (Some sketch) sum ≡ None → (sketch.tally.first ≤ sum.tally.first) × (sketch.tally.second ≤ sum.tally.second)
weights_rise sketch sum none =
    let one = passed (ltb sketch.parts.first sum.parts.first || ltb sum.parts.last sketch.parts.last) reasons.Missing _ none in
    let two = passed (ltb sum.tally.count sketch.tally.count || (ltb sum.tally.first sketch.tally.first || ltb sum.tally.second sketch.tally.second)) reasons.Fewer None one.1 in
    let more = neither (ltb sum.tally.count sketch.tally.count) (ltb sum.tally.first sketch.tally.first || ltb sum.tally.second sketch.tally.second) two.0 in
    let both = neither (ltb sum.tally.first sketch.tally.first) (ltb sum.tally.second sketch.tally.second) more.1 in
    (no_less _ _ both.0, no_less _ _ both.1)

-- a sketch that there may be is one
abbrev pub IsOwn : Option SketchValues → Type 0
IsOwn None = ⊤
IsOwn (Some was) = IsSketch was

-- so the whole sum is a sketch
pub whole_sketch : (sketch : Option SketchValues) (sum : SketchValues) → IsOwn sketch
    → IsSketch (cleared sum) → HasUsed sketch sum → lacks_of sketch sum ≡ None → IsSketch sum
whole_sketch None sum own is used full = subst IsSketch (λ i. record {
  depth = sum.depth;
  parts = sum.parts;
  tally = sum.tally;
  seats = all_cleared sum.seats used i;
}) is
whole_sketch (Some was) sum own is used full =
    let rise = weights_rise was sum full in
    let few = light (cleared sum) is in
    sketch_from sum (head_of (cleared sum) sum.seats (head_from (cleared sum) is) (sym (map-length sum.seats)))
    (all_whole was.depth sum.depth was.tally sum.tally rise.0 rise.1 few.0 few.1 was.seats sum.seats (fits_from was own) (fits_from (cleared sum) is) used)

-- ---- streams

-- of a used seat nothing is said
stands_cleared : (stream : List Update) (s : SketchValues) → Stands stream s → Stands stream (cleared s)
stands_cleared stream s stands = record {
  legal = stands.legal;
  told = stands.told;
  seats = λ k d lt unused.
      (let below : k < length s.seats = omega (arith, lt, map-length s.seats) in
      let at = cleared-at s.seats k d below in
      let free : (get_or s.seats k d).is_used ≡ false = sym (ap (λ (x : SeatValues). x.is_used) at) ∙ unused in
      subst (SeatStands s.depth stream) (sym (at ∙ unused_cleared (get_or s.seats k d) free)) (stands.seats k d below free));
}
  where
    cleared-at : (seats : List SeatValues) (k : ℕ) (d : SeatValues) → k < length seats → get_or (map cleared_seat seats) k d ≡ cleared_seat (get_or seats k d)
    cleared-at [] k d lt = absurd (omega (arith, lt))
    cleared-at (s ∷ seats) zero d lt = refl
    cleared-at (s ∷ seats) (suc k) d lt = cleared-at seats k d (omega (arith, lt))

stands_back : (stream : List Update) (s : SketchValues) → Stands stream (cleared s) → Stands stream s
stands_back stream s stands = record {
  legal = stands.legal;
  told = stands.told;
  seats = λ k d lt unused.
      (let below : k < length (map cleared_seat s.seats) = omega (arith, lt, map-length s.seats) in
      let at : get_or (map cleared_seat s.seats) k d ≡ get_or s.seats k d = cleared-back s.seats k d lt unused in
      subst (SeatStands s.depth stream) at (stands.seats k d below (ap (λ (x : SeatValues). x.is_used) at ∙ unused)));
}
  where
    cleared-back : (seats : List SeatValues) (k : ℕ) (d : SeatValues) → k < length seats → (get_or seats k d).is_used ≡ false → get_or (map cleared_seat seats) k d ≡ get_or seats k d
    cleared-back [] k d lt unused = absurd (omega (arith, lt))
    cleared-back (s ∷ seats) zero d lt unused = unused_cleared s unused
    cleared-back (s ∷ seats) (suc k) d lt unused = cleared-back seats k d (omega (arith, lt)) unused

pub joined_stands : (s part : SketchValues) (stream more : List Update) → IsSketch (cleared s) → IsSketch part → unlike s part ≡ None
    → Stands stream s → Stands more part → Stands (stream ++ more) (added s part)
joined_stands s part stream more is other none own also =
    stands_back (stream ++ more) (added s part) (subst (Stands (stream ++ more)) (added_cleared s part)
    (sum_stands (cleared s) part is other (joins_from (cleared s) part (unlike_cleared s part ∙ none)) stream more (stands_cleared stream s own) also))

place_seats : (depth : ℕ) (stream : List Update) (ws ps : List SeatValues) → All (λ seat. seat.is_used ≡ false → SeatStands depth stream seat) ps
    → All (λ seat. seat.is_used ≡ false → SeatStands depth stream seat) (seats_in_place ws ps)
place_seats depth stream [] ps stands = stands
place_seats depth stream (w ∷ ws) [] stands = All-nil (λ (seat : SeatValues). seat.is_used ≡ false → SeatStands depth stream seat)
place_seats depth stream (w ∷ ws) (p ∷ ps) stands =
    let Free : SeatValues → Type 0 = λ seat. seat.is_used ≡ false → SeatStands depth stream seat in
    All-cons Free (cond w.is_used w p) (seats_in_place ws ps) (either w p w.is_used refl (All-head Free p ps stands)) (place_seats depth stream ws ps (All-tail Free p ps stands))
  where
    either : (w p : SeatValues) (b : Bool) → w.is_used ≡ b → (p.is_used ≡ false → SeatStands depth stream p) → (cond b w p).is_used ≡ false → SeatStands depth stream (cond b w p)
    either w p true is own unused = (let two : true ≡ false = sym is ∙ unused in absurd cc)
    either w p false is own unused = own unused

pub first_stands : (sketch : Option SketchValues) (part : SketchValues) (stream : List Update) → Stands stream part → Stands stream (in_place sketch part)
first_stands None part stream stands = stands
first_stands (Some was) part stream stands = record {
  legal = stands.legal;
  told = stands.told;
  seats = place_seats part.depth stream was.seats part.seats stands.seats;
}
