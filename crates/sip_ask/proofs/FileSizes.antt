-- How many bytes the file of a sketch has.
use Rattle.std.proofs.Common.{◌≡◌, ℕ, suc, ◌+◌, ◌-◌, ◌*◌, ◌^◌, ◌<◌, ◌≤◌, List, [], ◌∷◌, ◌++◌, flat_map, length, All, refl, sym, ap, ◌∙◌, append_assoc, arith}
use Rattle.std.specs.Int.{byte_len, from_bool}
use Rattle.std.proofs.lemmas.List.{length-append}
use Rattle.std.proofs.lemmas.List.Elements.{All-head, All-tail}
use Rattle.std.proofs.lemmas.Nat.{mul-le}
use Rattle.sha2.specs.Sha256.{sha256}
use Rattle.sha2.proofs.Facts256.{length-sha256}
use Rattle.sip_ports.specs.declared.desk.TheConstants.{LONGEST_LOAD}
use Rattle.sip_vector.specs.Limits.{most_depth}
use Rattle.sip_vector.specs.Streams.{most_weight}
use Rattle.sip_vector.specs.declared.tally.Tally.{Tally}
use Rattle.sip_sketch.specs.Fields.{Field, Fields, spelled, spelled_behind, width_of}
use Rattle.sip_sketch.specs.Sketches.{IsSketch, SeatValues, SketchValues, bits_of, byte, code_of, element, elements, long, most_seats, negatives_field, seat_numbers, seats_fields, second_of, size_of, spelled_file, word}
use Rattle.sip_sketch.proofs.Putting.{second_size}
use Rattle.sip_sketch.proofs.SeatFields.{after_block}
use Rattle.sip_sketch.proofs.Values.{spelled_size}
use Rattle.sip_sketch.proofs.Whole.{few_seats}
use Rattle.sip_ask.proofs.Served.{sketch-deep}

-- a value more
grown : (before : List ℕ) (f : Field) (x n m : ℕ) → length before ≡ n → byte_len (width_of f.size) ≡ m → length (before ++ spelled f x) ≡ n + m
grown before f x n m is size = omega (arith, length-append before (spelled f x), spelled_size f.size x, is, size)

-- these elements
elements-size : (block rest before : List ℕ) (behind : Fields)
    → (after : List ℕ) × (spelled_behind before (elements (length block) behind) (block ++ rest) ≡ spelled_behind after behind rest) × (length after ≡ length before + 8 * length block)
elements-size [] rest before behind = (before, refl, omega arith)
elements-size (x ∷ block) rest before behind =
    let more = elements-size block rest (before ++ spelled element x) behind in
    let first = grown before element x (length before) 8 refl refl in
    (more.0, more.1, omega (arith, more.2, first))

seats-size : (depth : ℕ) (t : Tally) (seats : List SeatValues) (before : List ℕ) → All (λ (seat : SeatValues). length seat.block ≡ depth) seats
    → length (spelled_behind before (seats_fields depth (second_of t) (length seats)) (flat_map seat_numbers seats)) ≡ length before + length seats * (18 + 8 * depth) + 32
seats-size depth t [] before all = omega (arith, length-append before (sha256 before), length-sha256 before)
seats-size depth t (seat ∷ seats) before all =
    let levels = All-head (λ (x : SeatValues). length x.block ≡ depth) seat seats all in
    let rest = flat_map seat_numbers seats in
    let next = seats_fields depth (second_of t) (length seats) in
    let code = code_of seat.kind in
    let used = from_bool seat.is_used in
    let head = (before ++ spelled (byte 1 6) code) ++ spelled (byte 0 1) used in
    let head_size = grown (before ++ spelled (byte 1 6) code) (byte 0 1) used (length before + 1) 1 (grown before (byte 1 6) code (length before) 1 refl refl) refl in
    let behind = after_block (second_of t) next code used in
    let inner = elements-size seat.block (seat.first ∷ seat.second ∷ rest) head behind in
    let split : (seat.block ++ seat.first ∷ seat.second ∷ []) ++ rest ≡ seat.block ++ (seat.first ∷ seat.second ∷ rest) = append_assoc seat.block (seat.first ∷ seat.second ∷ []) rest in
    let own : spelled_behind before (seats_fields depth (second_of t) (length (seat ∷ seats))) (flat_map seat_numbers (seat ∷ seats)) ≡ spelled_behind inner.0 behind (seat.first ∷ seat.second ∷ rest) =
    ap (spelled_behind head (elements depth behind)) split
    ∙ ap (λ (n : ℕ). spelled_behind head (elements n behind) (seat.block ++ (seat.first ∷ seat.second ∷ rest))) (sym levels)
    ∙ inner.1 in
    let tail = (inner.0 ++ spelled element seat.first) ++ spelled (second_of t code used) seat.second in
    let tail_size = grown (inner.0 ++ spelled element seat.first) (second_of t code used) seat.second (length inner.0 + 8) 8
    (grown inner.0 element seat.first (length inner.0) 8 refl refl) (ap (λ z. byte_len (width_of z)) (second_size t seat.kind used)) in
    let more = seats-size depth t seats tail (All-tail (λ (x : SeatValues). length x.block ≡ depth) seat seats all) in
    let step : length inner.0 ≡ length before + 2 + 8 * depth = omega (arith, inner.2, head_size, levels) in
    ap length own ∙ (let sum : length (spelled_behind tail next rest) ≡ length before + suc (length seats) * (18 + 8 * depth) + 32 = omega (arith, more, tail_size, step) in sum)

-- ---- the numbers in front of the seats, spelled one after another

abbrev magic_1 : List ℕ
magic_1 = [] ++ spelled (byte 0x53 0x53) 0x53

abbrev magic_2 : List ℕ
magic_2 = magic_1 ++ spelled (byte 0x49 0x49) 0x49

abbrev magic_3 : List ℕ
magic_3 = magic_2 ++ spelled (byte 0x50 0x50) 0x50

abbrev magic_4 : List ℕ
magic_4 = magic_3 ++ spelled (byte 0x4b 0x4b) 0x4b

abbrev magic_5 : List ℕ
magic_5 = magic_4 ++ spelled (byte 1 1) 1

module _ (s : SketchValues) where
  abbrev to_depth : List ℕ
  to_depth = magic_5 ++ spelled (byte 1 most_depth) s.depth

  abbrev to_count : List ℕ
  to_count = to_depth ++ spelled (word 1 (2 ^ 32 - 1)) s.parts.count

  abbrev to_first : List ℕ
  to_first = to_count ++ spelled (word 1 s.parts.count) s.parts.first

  abbrev to_last : List ℕ
  to_last = to_first ++ spelled (word s.parts.first s.parts.count) s.parts.last

  abbrev to_weight : List ℕ
  to_weight = to_last ++ spelled (long 0 most_weight) s.tally.first

  abbrev to_weights : List ℕ
  to_weights = to_weight ++ spelled (long 0 most_weight) s.tally.second

  abbrev to_records : List ℕ
  to_records = to_weights ++ spelled (long 0 (s.tally.first + s.tally.second)) s.tally.count

  abbrev to_negatives : List ℕ
  to_negatives = to_records ++ spelled (negatives_field s.tally.first s.tally.second) (bits_of s.tally.negatives)

  abbrev to_print : List ℕ
  to_print = to_negatives ++ spelled (long 0 (2 ^ 64 - 1)) s.tally.fingerprint

  abbrev heading : List ℕ
  heading = to_print ++ spelled (byte 1 most_seats) (length s.seats)

  heading-size : length heading ≡ 52
  heading-size =
      let m1 = grown [] (byte 0x53 0x53) 0x53 0 1 refl refl in
      let m2 = grown magic_1 (byte 0x49 0x49) 0x49 1 1 m1 refl in
      let m3 = grown magic_2 (byte 0x50 0x50) 0x50 2 1 m2 refl in
      let m4 = grown magic_3 (byte 0x4b 0x4b) 0x4b 3 1 m3 refl in
      let m5 = grown magic_4 (byte 1 1) 1 4 1 m4 refl in
      let l1 = grown magic_5 (byte 1 most_depth) s.depth 5 1 m5 refl in
      let l2 = grown to_depth (word 1 (2 ^ 32 - 1)) s.parts.count 6 4 l1 refl in
      let l3 = grown to_count (word 1 s.parts.count) s.parts.first 10 4 l2 refl in
      let l4 = grown to_first (word s.parts.first s.parts.count) s.parts.last 14 4 l3 refl in
      let l5 = grown to_last (long 0 most_weight) s.tally.first 18 8 l4 refl in
      let l6 = grown to_weight (long 0 most_weight) s.tally.second 26 8 l5 refl in
      let l7 = grown to_weights (long 0 (s.tally.first + s.tally.second)) s.tally.count 34 8 l6 refl in
      let l8 = grown to_records (negatives_field s.tally.first s.tally.second) (bits_of s.tally.negatives) 42 1 l7 refl in
      let l9 = grown to_negatives (long 0 (2 ^ 64 - 1)) s.tally.fingerprint 43 8 l8 refl in
      grown to_print (byte 1 most_seats) (length s.seats) 51 1 l9 refl

pub file-size : (s : SketchValues) → IsSketch s → length (spelled_file s) ≡ size_of s
file-size s is =
    let whole : spelled_file s ≡ spelled_behind (heading s) (seats_fields s.depth (second_of s.tally) (length s.seats)) (flat_map seat_numbers s.seats) = refl in
    ap length whole ∙ (let sum : length (spelled_behind (heading s) (seats_fields s.depth (second_of s.tally) (length s.seats)) (flat_map seat_numbers s.seats)) ≡ size_of s =
    omega (arith, seats-size s.depth s.tally s.seats (heading s) is.blocks, heading-size s) in sum)

-- and that is less than a load takes
pub file-short : (s : SketchValues) → IsSketch s → length (spelled_file s) < LONGEST_LOAD
file-short s is =
    let few = (few_seats s is).1 in
    let row : 18 + 8 * s.depth ≤ 402 = omega (arith, sketch-deep s is) in
    let all = mul-le (length s.seats) (18 + 8 * s.depth) 64 402 few row in
    omega (arith, file-size s is, all)
