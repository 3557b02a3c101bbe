-- What the values of a file say of the head and of each seat, and the other way round.
use Rattle.std.proofs.Common.{◌≡◌, ℕ, ◌+◌, ◌-◌, ◌^◌, ◌<◌, ◌≤◌, Bool, true, false, leb, List, [], ◌∷◌, ◌++◌, flat_map, length, All, refl, sym, subst, append_assoc, arith}
use Rattle.std.specs.Int.{byte_len, from_bool}
use Rattle.std.proofs.lemmas.Bool.{and_from, and_parts, le-leb, leb-true}
use Rattle.std.proofs.lemmas.List.Elements.{All-nil, All-cons, All-head, All-tail}
use Rattle.sip_vector.specs.Limits.{most_depth}
use Rattle.sip_vector.specs.Streams.{most_weight}
use Rattle.sip_vector.specs.declared.tally.Tally.{Tally}
use Rattle.sip_vector.specs.declared.update.Side.TheVariants.{First, Second}
use Rattle.sip_sketch.specs.declared.cursor.Size.{Size}
use Rattle.sip_sketch.specs.declared.cursor.Size.TheVariants.{Byte, Long}
use Rattle.sip_sketch.specs.declared.kind.SeatKind.{SeatKind}
use Rattle.sip_sketch.specs.declared.kind.SeatKind.TheVariants.{Above, Entries, Heavy, Products, Sums}
use Rattle.sip_sketch.specs.Fields.{AreValues, Fields, IsValue, width_of}
use Rattle.sip_sketch.specs.Sketches.{IsSketch, SeatValues, SketchValues, bits_of, byte, code_of, element, elements, long, most_seats, negatives_field}
use Rattle.sip_sketch.specs.Sketches.{ranged, seat_fields, seat_numbers, seats_fields, second_of, word}
use Rattle.sip_sketch.proofs.SeatFields.{after_block, after_used}

-- ---- a number between two others

pub ranged_value : (size : Size) (least most x : ℕ) → least ≤ x → x ≤ most → x < 256 ^ byte_len (width_of size)
    → IsValue (ranged size least most) x
ranged_value size least most x low high room =
    (and_from (leb least x) (leb x most) (le-leb least x low) (le-leb x most high), room)

pub ranged_from : (size : Size) (least most x : ℕ) → IsValue (ranged size least most) x → (least ≤ x) × (x ≤ most)
ranged_from size least most x (allowed, room) =
    let both = and_parts (leb least x) (leb x most) allowed in
    (leb-true least x both.0, leb-true x most both.1)

-- ---- a seat

-- the numbers of a seat are values in a sketch of this depth, of whose stream this is told
pub record SeatFits (depth : ℕ) (t : Tally) (s : SeatValues) : Type 0 where
  pub levels : length s.block ≡ depth
  pub block : All (IsValue element) s.block
  pub first : IsValue element s.first
  pub second : IsValue (second_of t (code_of s.kind) (from_bool s.is_used)) s.second

elements_from : (block rest : List ℕ) (behind : Fields) → AreValues (elements (length block) behind) (block ++ rest)
    → All (IsValue element) block × AreValues behind rest
elements_from [] rest behind v = (All-nil (IsValue element), v)
elements_from (x ∷ block) rest behind (here, more) =
    let both = elements_from block rest behind more in
    (All-cons (IsValue element) x block here both.0, both.1)

elements_to : (block rest : List ℕ) (behind : Fields) → All (IsValue element) block → AreValues behind rest
    → AreValues (elements (length block) behind) (block ++ rest)
elements_to [] rest behind all v = v
elements_to (x ∷ block) rest behind all v =
    (All-head (IsValue element) x block all, elements_to block rest behind (All-tail (IsValue element) x block all) v)

seat_from : (depth : ℕ) (t : Tally) (s : SeatValues) (rest : List ℕ) (behind : Fields) → length s.block ≡ depth
    → AreValues (seat_fields depth (second_of t) behind) (seat_numbers s ++ rest) → SeatFits depth t s × AreValues behind rest
seat_from depth t s rest behind levels (kind, (used, more)) =
    let after = after_block (second_of t) behind (code_of s.kind) (from_bool s.is_used) in
    let inside = subst (λ d. AreValues (elements d after) (s.block ++ s.first ∷ s.second ∷ rest)) (sym levels)
    (subst (AreValues (after_used depth (second_of t) behind (code_of s.kind) (from_bool s.is_used)))
    (append_assoc s.block (s.first ∷ s.second ∷ []) rest) more) in
    let both = elements_from s.block (s.first ∷ s.second ∷ rest) after inside in
    let (first, (second, left)) = both.1 in
    (record { levels = levels; block = both.0; first = first; second = second }, left)

seat_to : (depth : ℕ) (t : Tally) (s : SeatValues) (rest : List ℕ) (behind : Fields) → IsValue (byte 1 8) (code_of s.kind)
    → IsValue (byte 0 1) (from_bool s.is_used) → SeatFits depth t s → AreValues behind rest
    → AreValues (seat_fields depth (second_of t) behind) (seat_numbers s ++ rest)
seat_to depth t s rest behind kind used fits left =
    let after = after_block (second_of t) behind (code_of s.kind) (from_bool s.is_used) in
    let inside = elements_to s.block (s.first ∷ s.second ∷ rest) after fits.block (fits.first, (fits.second, left)) in
    let levelled = subst (λ d. AreValues (elements d after) (s.block ++ s.first ∷ s.second ∷ rest)) fits.levels inside in (
      kind,
      (
        used,
        subst (AreValues (after_used depth (second_of t) behind (code_of s.kind) (from_bool s.is_used)))
            (sym (append_assoc s.block (s.first ∷ s.second ∷ []) rest)) levelled,
      ),
    )

-- ---- all seats

seats_from : (depth : ℕ) (t : Tally) (xs : List SeatValues) → All (λ s. length s.block ≡ depth) xs
    → AreValues (seats_fields depth (second_of t) (length xs)) (flat_map seat_numbers xs) → All (SeatFits depth t) xs
seats_from depth t [] levels v = All-nil (SeatFits depth t)
seats_from depth t (x ∷ xs) levels v =
    let Levels : SeatValues → Type 0 = λ s. length s.block ≡ depth in
    let both = seat_from depth t x (flat_map seat_numbers xs) (seats_fields depth (second_of t) (length xs)) (All-head Levels x xs levels) v in
    All-cons (SeatFits depth t) x xs both.0 (seats_from depth t xs (All-tail Levels x xs levels) both.1)

kind_value : (s : SeatValues) → IsValue (byte 1 8) (code_of s.kind)
kind_value s = by_kind s.kind
  where
    by_kind : (k : SeatKind) → IsValue (byte 1 8) (code_of k)
    by_kind Entries = (refl, omega arith)
    by_kind (Sums First) = (refl, omega arith)
    by_kind (Sums Second) = (refl, omega arith)
    by_kind Products = (refl, omega arith)
    by_kind (Heavy First) = (refl, omega arith)
    by_kind (Heavy Second) = (refl, omega arith)
    by_kind (Above First) = (refl, omega arith)
    by_kind (Above Second) = (refl, omega arith)

used_value : (b : Bool) → IsValue (byte 0 1) (from_bool b)
used_value true = (refl, omega arith)
used_value false = (refl, omega arith)

pub seats_to : (depth : ℕ) (t : Tally) (xs : List SeatValues) → All (SeatFits depth t) xs
    → AreValues (seats_fields depth (second_of t) (length xs)) (flat_map seat_numbers xs)
seats_to depth t [] fits = tt
seats_to depth t (x ∷ xs) fits =
    seat_to depth t x (flat_map seat_numbers xs) (seats_fields depth (second_of t) (length xs)) (kind_value x) (used_value x.is_used)
    (All-head (SeatFits depth t) x xs fits) (seats_to depth t xs (All-tail (SeatFits depth t) x xs fits))

-- ---- the head

-- the numbers in front of the seats are values
pub record HeadFits (s : SketchValues) : Type 0 where
  pub depth : IsValue (byte 1 most_depth) s.depth
  pub count : IsValue (word 1 (2 ^ 32 - 1)) s.parts.count
  pub first_part : IsValue (word 1 s.parts.count) s.parts.first
  pub last_part : IsValue (word s.parts.first s.parts.count) s.parts.last
  pub first : IsValue (long 0 most_weight) s.tally.first
  pub second : IsValue (long 0 most_weight) s.tally.second
  pub records : IsValue (long 0 (s.tally.first + s.tally.second)) s.tally.count
  pub negatives : IsValue (negatives_field s.tally.first s.tally.second) (bits_of s.tally.negatives)
  pub fingerprint : IsValue (long 0 (2 ^ 64 - 1)) s.tally.fingerprint
  pub seats : IsValue (byte 1 most_seats) (length s.seats)

pub head_from : (s : SketchValues) → IsSketch s → HeadFits s
head_from s is =
    let (m0, (m1, (m2, (m3, (m4, (depth, (count, (first_part, (last_part, (first, (second, (records, (negatives, (fingerprint, (seats, rest))))))))))))))) = is.values in
    record {
      depth = depth;
      count = count;
      first_part = first_part;
      last_part = last_part;
      first = first;
      second = second;
      records = records;
      negatives = negatives;
      fingerprint = fingerprint;
      seats = seats;
    }

pub fits_from : (s : SketchValues) → IsSketch s → All (SeatFits s.depth s.tally) s.seats
fits_from s is =
    let (m0, (m1, (m2, (m3, (m4, (depth, (count, (first_part, (last_part, (first, (second, (records, (negatives, (fingerprint, (seats, rest))))))))))))))) = is.values in
    seats_from s.depth s.tally s.seats is.blocks rest

-- so they are a sketch that a file can have
pub sketch_from : (s : SketchValues) → HeadFits s → All (SeatFits s.depth s.tally) s.seats → IsSketch s
sketch_from s head fits = record {
  blocks = λ k d lt. (fits k d lt).levels;
  values = (magic_value 0x53 (omega arith), (magic_value 0x49 (omega arith), (magic_value 0x50 (omega arith), (magic_value 0x4b (omega arith), (magic_value 1 (omega arith), (head.depth, (head.count, (head.first_part, (head.last_part, (head.first, (head.second, (head.records, (head.negatives, (head.fingerprint, (head.seats, seats_to s.depth s.tally s.seats fits)))))))))))))));
}
  where
    magic_value : (b : ℕ) → b < 256 → IsValue (byte b b) b
    magic_value b room = ranged_value Byte b b b (omega arith) (omega arith) room

-- there are 1 to 64 seats
pub few_seats : (s : SketchValues) → IsSketch s → (1 ≤ length s.seats) × (length s.seats ≤ most_seats)
few_seats s is = ranged_from Byte 1 most_seats (length s.seats) (head_from s is).seats

-- neither side is too heavy
pub light : (s : SketchValues) → IsSketch s → (s.tally.first ≤ most_weight) × (s.tally.second ≤ most_weight)
light s is =
    let head = head_from s is in
    ((ranged_from Long 0 most_weight s.tally.first head.first).1, (ranged_from Long 0 most_weight s.tally.second head.second).1)
