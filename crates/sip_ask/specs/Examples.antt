-- What the examples work out: the sketch of three records that add up to (3, 0, 5, 1), with a seat
-- for entries and one for sums of side 0.
use Rattle.std.specs.Prelude.{ℕ, true, false, List, [], ◌∷◌}
use Rattle.sip_lookup.specs.declared.lookup.Lookup.TheVariants as lookups
use Rattle.sip_vector.specs.declared.query.Query.TheVariants as queries
use Rattle.sip_vector.specs.declared.update.Side.TheVariants.{First}
use Rattle.sip_questions.specs.declared.question.Question.{Question}
use Rattle.sip_questions.specs.declared.question.Question.TheVariants as questions
use Rattle.sip_sketch.specs.Examples.{changed, watched_bytes}
use Rattle.sip_sketch.specs.Sketches.{SeatValues, SketchValues}
use Rattle.sip_sketch.specs.declared.kind.SeatKind.TheVariants as kinds
use Rattle.sip_vector.specs.declared.tally.Tally.{Tally}

-- ---- questions

abbrev pub sub : ℕ → ℕ → Question
sub lo hi = questions.Query (queries.Sub lo hi)

abbrev pub squares : Question
squares = questions.Query (queries.F2 First)

abbrev pub large : ℕ → Question
large at_least = questions.Query (queries.Heavy First at_least)

abbrev pub at_item : ℕ → Question
at_item item = questions.Lookup (lookups.Index item)

abbrev pub power : ℕ → Question
power degree = questions.Moment (record { side = First; degree = degree })

-- ---- sketches

-- the file of the sketch with its first seat used, without the digest
abbrev pub used_bytes : List ℕ
used_bytes = changed watched_bytes 53 (1 ∷ [])

-- and its digest
abbrev pub used_digest : List ℕ
used_digest =
    0x5b ∷ 0x71 ∷ 0x3e ∷ 0xc8 ∷ 0x0a ∷ 0x21 ∷ 0xa3 ∷ 0xcb ∷ 0xb6 ∷ 0xe9 ∷ 0xfa ∷ 0xfa ∷ 0xb4 ∷
    0x61 ∷ 0x9c ∷ 0x3a ∷ 0x7b ∷ 0xad ∷ 0xd4 ∷ 0x22 ∷ 0xda ∷ 0x58 ∷ 0x87 ∷ 0xd0 ∷ 0x5a ∷ 0xb4 ∷
    0x3e ∷ 0x7c ∷ 0xfd ∷ 0xcc ∷ 0xf6 ∷ 0x4f ∷ []

-- a sketch of which this is told
abbrev pub with_tally : Tally → SketchValues → SketchValues
with_tally t s = record { depth = s.depth; parts = s.parts; tally = t; seats = s.seats }

-- of three records, one of which has a delta below 0
abbrev pub signed : Tally
signed = record {
  count = 3;
  first = 9;
  second = 0;
  negatives = record { first = true; second = false };
  fingerprint = 0;
}

-- a sketch with these seats
abbrev pub with_seats : List SeatValues → SketchValues → SketchValues
with_seats seats s = record { depth = s.depth; parts = s.parts; tally = s.tally; seats = seats }

-- an unused seat for entries, and a used one
abbrev pub fresh_seat : SeatValues
fresh_seat =
    record { kind = kinds.Entries; is_used = false; block = 2 ∷ 10 ∷ []; first = 73; second = 0 }

abbrev pub used_seat : SeatValues
used_seat =
    record { kind = kinds.Entries; is_used = true; block = 2 ∷ 10 ∷ []; first = 73; second = 0 }
