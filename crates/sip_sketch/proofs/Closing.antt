-- The end of a file, and all of it.
use Rattle.std.proofs.Common.{◌≡◌, ℕ, ◌<◌, Bool, true, false, not, List, [], ◌++◌, length, take, drop, flat_map, Ok, Err, refl, sym, ap, ◌∙◌, arith, inl, inr, bytes_eq}
use Rattle.std.proofs.lemmas.Bool.{cases_Bool}
use Rattle.std.proofs.lemmas.List.{length-take}
use Rattle.std.proofs.lemmas.Slice.Eq.{bytes_eq-Decides}
use Rattle.sha2.specs.Sha256.{sha256}
use Rattle.sha2.proofs.Facts256.{length-sha256}
use Rattle.sip_sketch.specs.declared.cursor.Cursor.{Cursor}
use Rattle.sip_sketch.specs.declared.reading.Head.{Head}
use Rattle.sip_sketch.specs.Fields.{Fields, digest, closed, reads, read}
use Rattle.sip_sketch.specs.Reading.{Passes}
use Rattle.sip_sketch.specs.Sketches.{SeatValues, seat_numbers, seats_fields, second_of, sketch_file, numbers}
use Rattle.sip_sketch.specs.inside.Heads.{head_numbers}
use Rattle.sip_sketch.proofs.Steps.{passes_on}

pub not_true : (b : Bool) → not b ≡ true → b ≡ false
not_true true e = absurd cc
not_true false e = refl

-- fewer bytes than a digest has are none
pub short_closed : (bytes values : List ℕ) (at : ℕ) → length (drop at bytes) < 32 → closed bytes values at ≡ Err at
short_closed bytes values at few =
    let ends : List ℕ = take 32 (drop at bytes) in
    elim (cases_Bool (bytes_eq ends (sha256 (take at bytes)))) [
      | inr other ↦ rw other refl
      | inl same ↦
          let is : ends ≡ sha256 (take at bytes) = (bytes_eq-Decides _ _).0 same in
          absurd (omega (arith, ap length is, length-sha256 (take at bytes), length-take 32 (drop at bytes), few))
    ]

-- nor are other bytes
pub other_closed : (bytes values : List ℕ) (at : ℕ) → bytes_eq (take 32 (drop at bytes)) (sha256 (take at bytes)) ≡ false
    → closed bytes values at ≡ Err at
other_closed bytes values at other = rw other refl

-- a file is read from its front
pub from_front : (a : Cursor) (bytes : List ℕ) → a.bytes.now ≡ bytes → a.at ≡ 0
    → reads a.bytes.now sketch_file [] a.at ≡ read sketch_file bytes
from_front a bytes start place =
    ap (λ k. reads k sketch_file [] a.at) start ∙ ap (λ k. reads bytes sketch_file [] k) place

abbrev pub seats_behind : Head → Fields
seats_behind h = seats_fields h.depth (second_of h.tally) h.count

-- head, seats and digest are a sketch
pub whole_read : (bytes : List ℕ) (a b c : Cursor) (h : Head) (seats : List SeatValues) → a.bytes.now ≡ bytes
    → a.at ≡ 0 → Passes a b sketch_file (seats_behind h) (head_numbers h)
    → Passes b c (seats_behind h) digest (flat_map seat_numbers seats) → length seats ≡ h.count
    → ((values : List ℕ) → closed c.bytes.now values c.at ≡ Ok values)
    → read sketch_file bytes ≡ Ok (numbers (record { depth = h.depth; parts = h.parts; tally = h.tally; seats = seats }))
whole_read bytes a b c h seats start place p q few ends =
    let all = (passes_on p q).passes [] in
    let found : List ℕ = head_numbers h ++ flat_map seat_numbers seats in
    let same : numbers (record { depth = h.depth; parts = h.parts; tally = h.tally; seats = seats }) ≡ found =
    ap (λ n. head_numbers (record h { count = n }) ++ flat_map seat_numbers seats) few in
    sym (from_front a bytes start place) ∙ all ∙ ends found ∙ ap Ok (sym same)
