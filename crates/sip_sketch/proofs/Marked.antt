-- A sketch with a seat that is used.
use Rattle.std.proofs.Common.{◌≡◌, ℕ, zero, suc, ◌+◌, ◌-◌, ◌^◌, ◌<◌, Bool, true, false, ◌||◌, List, [], ◌∷◌, length, get_or, set, All, refl, sym, ap, subst, arith}
use Rattle.std.specs.Int.{from_bool}
use Rattle.std.proofs.lemmas.List.Elements.{All-cons, All-head, All-tail}
use Rattle.sip_vector.specs.Streams.{most_weight}
use Rattle.sip_vector.specs.declared.tally.Tally.{Tally}
use Rattle.sip_vector.specs.declared.update.Side.TheVariants.{First, Second}
use Rattle.sip_sketch.specs.Fields.{Field, IsValue}
use Rattle.sip_sketch.specs.Marking.{mark, used, used_at}
use Rattle.sip_sketch.specs.Sketches.{IsSketch, SeatValues, SketchValues, code_of, long, second_of, total_field}
use Rattle.sip_sketch.specs.declared.kind.SeatKind.{SeatKind}
use Rattle.sip_sketch.specs.declared.kind.SeatKind.TheVariants.{Above, Entries, Heavy, Products, Sums}
use Rattle.sip_sketch.proofs.Kept.{heavy_field, negative_told, weight_told}
use Rattle.sip_sketch.proofs.Sound.{head_with, sound_from}
use Rattle.sip_sketch.proofs.Whole.{SeatFits, fits_from, head_from, ranged_from, ranged_value, sketch_from}

-- ---- the seats

pub length-used : (place : ℕ) (seats : List SeatValues) → length (used_at place seats) ≡ length seats
length-used zero [] = refl
length-used (suc place) [] = refl
length-used zero (x ∷ xs) = refl
length-used (suc place) (x ∷ xs) = let more = length-used place xs in omega (arith, more)

-- the one at a place is put there, used
pub set-used : (place : ℕ) (seats : List SeatValues) (d : SeatValues) → place < length seats → set seats place (used (get_or seats place d)) ≡ used_at place seats
set-used zero [] d lt = absurd (omega (arith, lt))
set-used (suc place) [] d lt = absurd (omega (arith, lt))
set-used zero (x ∷ xs) d lt = refl
set-used (suc place) (x ∷ xs) d lt = ap (λ l. x ∷ l) (set-used place xs d (omega (arith, lt)))

-- ---- the file

-- a total that an unused seat may have, a used one may have
opened : (weight x : ℕ) (is_open : Bool) → IsValue (total_field weight is_open) x → IsValue (total_field weight true) x
opened weight x true value = value
opened weight x false value =
    let exact = ranged_from (total_field weight false).size (most_weight + weight) (most_weight + weight) x value in
    ranged_value (total_field weight false).size (most_weight - weight) (most_weight + weight) x (omega (arith, exact.0)) exact.1 value.1

used-second : (t : Tally) (kind : SeatKind) (is : Bool) (x : ℕ) → IsValue (second_of t (code_of kind) (from_bool is)) x
    → IsValue (second_of t (code_of kind) (from_bool true)) x
used-second t Entries is x value = value
used-second t (Sums First) is x value = value
used-second t (Sums Second) is x value = value
used-second t Products is x value = value
used-second t (Above First) is x value = value
used-second t (Above Second) is x value = value
used-second t (Heavy side) is x value =
    let own = subst (λ (f : Field). IsValue f x) (heavy_field t side is) value in
    subst (λ (f : Field). IsValue f x) (sym (heavy_field t side true)) (opened (weight_told t side) x (is || negative_told t side) own)

used-fits : (depth : ℕ) (t : Tally) (x : SeatValues) → SeatFits depth t x → SeatFits depth t (used x)
used-fits depth t x fits = record {
  levels = fits.levels;
  block = fits.block;
  first = fits.first;
  second = used-second t x.kind x.is_used x.second fits.second;
}

all-fit : (depth : ℕ) (t : Tally) (place : ℕ) (xs : List SeatValues) → All (SeatFits depth t) xs → All (SeatFits depth t) (used_at place xs)
all-fit depth t zero [] all = all
all-fit depth t (suc place) [] all = all
all-fit depth t zero (x ∷ xs) all =
    All-cons (SeatFits depth t) (used x) xs (used-fits depth t x (All-head (SeatFits depth t) x xs all)) (All-tail (SeatFits depth t) x xs all)
all-fit depth t (suc place) (x ∷ xs) all =
    All-cons (SeatFits depth t) x (used_at place xs) (All-head (SeatFits depth t) x xs all) (all-fit depth t place xs (All-tail (SeatFits depth t) x xs all))

-- a marked sketch is one that a file can have
pub marked-is : (s : SketchValues) (place : ℕ) → IsSketch s → IsSketch (mark place s)
marked-is s place is =
    let head = head_from s is in
    let print = ranged_from (long 0 (2 ^ 64 - 1)).size 0 (2 ^ 64 - 1) s.tally.fingerprint head.fingerprint in
    sketch_from (mark place s)
    (head_with s s.tally (used_at place s.seats) head (sound_from s head) (omega (arith, print.1)) (length-used place s.seats))
    (all-fit s.depth s.tally place s.seats (fits_from s is))

-- the same of the fields that are left
pub marked-same : (s : SketchValues) (place : ℕ) (seats : List SeatValues) → seats ≡ used_at place s.seats
    → record { depth = s.depth; parts = s.parts; tally = s.tally; seats = seats } ≡ mark place s
marked-same s place seats items = λ i. record { depth = s.depth; parts = s.parts; tally = s.tally; seats = items i }
