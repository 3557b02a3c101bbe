-- A sketch at depth 2 with a seat for entries and one for sums of side 0, as its seed draws them.
use Rattle.std.specs.Prelude.{ℕ, ◌+◌, false, pos, negsuc, List, [], ◌∷◌, ◌++◌, length, take, drop}
use Rattle.std.specs.Int.{w64, to_be_bytes}
use Rattle.sip_vector.specs.Streams.{most_weight}
use Rattle.sip_sketch.specs.Sketches.{SeatValues, SketchValues}
use Rattle.sip_sketch.specs.declared.kind.SeatKind.TheVariants.{Above, Entries, Sums}
use Rattle.sip_vector.specs.declared.update.Side.TheVariants.{First}
use Rattle.sip_vector.specs.declared.update.Update.{Update}
use Rattle.sip_vector.specs.declared.tally.Negatives.{Negatives}

abbrev pub none_negative : Negatives
none_negative = record { first = false; second = false }

-- the challenges of either seat
abbrev pub of_entries : List ℕ
of_entries = 0x1207be3415bc170e ∷ 0x0517b0ca7cad4ba8 ∷ []

abbrev pub of_sums : List ℕ
of_sums = 0x035db1b417033a57 ∷ 0x18e1aef1799de6d5 ∷ []

-- the sketch of the empty stream
abbrev pub begun : SketchValues
begun = record {
  depth = 2;
  parts = record { count = 1; first = 1; last = 1 };
  tally = record {
    count = 0;
    first = 0;
    second = 0;
    negatives = none_negative;
    fingerprint = 0;
  };
  seats = record { kind = Entries; is_used = false; block = of_entries; first = 0; second = 0 }
      ∷ record { kind = Sums First; is_used = false; block = of_sums; first = 0; second = 0 } ∷ [];
}

-- that of three records, which add up to (3, 0, 5, 1)
abbrev pub watched : SketchValues
watched = record {
  depth = 2;
  parts = record { count = 1; first = 1; last = 1 };
  tally = record {
    count = 3;
    first = 9;
    second = 0;
    negatives = none_negative;
    fingerprint = 0xb8261ae7db4fab00;
  };
  seats = record {
    kind = Entries;
    is_used = false;
    block = of_entries;
    first = 0x0862b3b8b01c7e21;
    second = 0;
  }
      ∷ record {
        kind = Sums First;
        is_used = false;
        block = of_sums;
        first = 0x05f4ed565388ba7b;
        second = 0;
      } ∷ [];
}

-- a sketch with these parts in, of so many
abbrev pub with_parts : ℕ → ℕ → ℕ → SketchValues → SketchValues
with_parts first last count s = record {
  depth = s.depth;
  parts = record { count = count; first = first; last = last };
  tally = s.tally;
  seats = s.seats;
}

-- a sketch of which this is told
abbrev pub with_weight : ℕ → SketchValues → SketchValues
with_weight weight s = record {
  depth = s.depth;
  parts = s.parts;
  tally = record {
    count = 1;
    first = weight;
    second = 0;
    negatives = none_negative;
    fingerprint = 0;
  };
  seats = s.seats;
}

-- its file, without the digest
abbrev pub watched_bytes : List ℕ
watched_bytes =
    0x53 ∷ 0x49 ∷ 0x50 ∷ 0x4b ∷ 0x01 ∷ 0x02 ∷ 0x00 ∷ 0x00 ∷ 0x00 ∷ 0x01 ∷ 0x00 ∷ 0x00 ∷ 0x00 ∷
    0x01 ∷ 0x00 ∷ 0x00 ∷ 0x00 ∷ 0x01 ∷ 0x00 ∷ 0x00 ∷ 0x00 ∷ 0x00 ∷ 0x00 ∷ 0x00 ∷ 0x00 ∷ 0x09 ∷
    0x00 ∷ 0x00 ∷ 0x00 ∷ 0x00 ∷ 0x00 ∷ 0x00 ∷ 0x00 ∷ 0x00 ∷ 0x00 ∷ 0x00 ∷ 0x00 ∷ 0x00 ∷ 0x00 ∷
    0x00 ∷ 0x00 ∷ 0x03 ∷ 0x00 ∷ 0xb8 ∷ 0x26 ∷ 0x1a ∷ 0xe7 ∷ 0xdb ∷ 0x4f ∷ 0xab ∷ 0x00 ∷ 0x02 ∷
    0x01 ∷ 0x00 ∷ 0x12 ∷ 0x07 ∷ 0xbe ∷ 0x34 ∷ 0x15 ∷ 0xbc ∷ 0x17 ∷ 0x0e ∷ 0x05 ∷ 0x17 ∷ 0xb0 ∷
    0xca ∷ 0x7c ∷ 0xad ∷ 0x4b ∷ 0xa8 ∷ 0x08 ∷ 0x62 ∷ 0xb3 ∷ 0xb8 ∷ 0xb0 ∷ 0x1c ∷ 0x7e ∷ 0x21 ∷
    0x00 ∷ 0x00 ∷ 0x00 ∷ 0x00 ∷ 0x00 ∷ 0x00 ∷ 0x00 ∷ 0x00 ∷ 0x02 ∷ 0x00 ∷ 0x03 ∷ 0x5d ∷ 0xb1 ∷
    0xb4 ∷ 0x17 ∷ 0x03 ∷ 0x3a ∷ 0x57 ∷ 0x18 ∷ 0xe1 ∷ 0xae ∷ 0xf1 ∷ 0x79 ∷ 0x9d ∷ 0xe6 ∷ 0xd5 ∷
    0x05 ∷ 0xf4 ∷ 0xed ∷ 0x56 ∷ 0x53 ∷ 0x88 ∷ 0xba ∷ 0x7b ∷ 0x00 ∷ 0x00 ∷ 0x00 ∷ 0x00 ∷ 0x00 ∷
    0x00 ∷ 0x00 ∷ 0x00 ∷ []

-- and its digest
abbrev pub watched_digest : List ℕ
watched_digest =
    0x53 ∷ 0xa7 ∷ 0xf3 ∷ 0x44 ∷ 0x91 ∷ 0x19 ∷ 0x8a ∷ 0x39 ∷ 0x1b ∷ 0x46 ∷ 0x47 ∷ 0x1c ∷ 0x9e ∷
    0x7f ∷ 0xef ∷ 0x22 ∷ 0xdb ∷ 0xf4 ∷ 0xb0 ∷ 0xc3 ∷ 0x14 ∷ 0xe9 ∷ 0xc2 ∷ 0x19 ∷ 0x6b ∷ 0x72 ∷
    0x6f ∷ 0xa1 ∷ 0x4c ∷ 0x71 ∷ 0x5b ∷ 0x1f ∷ []

-- the file of the sketch of the empty stream, without the digest, and that
abbrev pub begun_bytes : List ℕ
begun_bytes =
    0x53 ∷ 0x49 ∷ 0x50 ∷ 0x4b ∷ 0x01 ∷ 0x02 ∷ 0x00 ∷ 0x00 ∷ 0x00 ∷ 0x01 ∷ 0x00 ∷ 0x00 ∷ 0x00 ∷
    0x01 ∷ 0x00 ∷ 0x00 ∷ 0x00 ∷ 0x01 ∷ 0x00 ∷ 0x00 ∷ 0x00 ∷ 0x00 ∷ 0x00 ∷ 0x00 ∷ 0x00 ∷ 0x00 ∷
    0x00 ∷ 0x00 ∷ 0x00 ∷ 0x00 ∷ 0x00 ∷ 0x00 ∷ 0x00 ∷ 0x00 ∷ 0x00 ∷ 0x00 ∷ 0x00 ∷ 0x00 ∷ 0x00 ∷
    0x00 ∷ 0x00 ∷ 0x00 ∷ 0x00 ∷ 0x00 ∷ 0x00 ∷ 0x00 ∷ 0x00 ∷ 0x00 ∷ 0x00 ∷ 0x00 ∷ 0x00 ∷ 0x02 ∷
    0x01 ∷ 0x00 ∷ 0x12 ∷ 0x07 ∷ 0xbe ∷ 0x34 ∷ 0x15 ∷ 0xbc ∷ 0x17 ∷ 0x0e ∷ 0x05 ∷ 0x17 ∷ 0xb0 ∷
    0xca ∷ 0x7c ∷ 0xad ∷ 0x4b ∷ 0xa8 ∷ 0x00 ∷ 0x00 ∷ 0x00 ∷ 0x00 ∷ 0x00 ∷ 0x00 ∷ 0x00 ∷ 0x00 ∷
    0x00 ∷ 0x00 ∷ 0x00 ∷ 0x00 ∷ 0x00 ∷ 0x00 ∷ 0x00 ∷ 0x00 ∷ 0x02 ∷ 0x00 ∷ 0x03 ∷ 0x5d ∷ 0xb1 ∷
    0xb4 ∷ 0x17 ∷ 0x03 ∷ 0x3a ∷ 0x57 ∷ 0x18 ∷ 0xe1 ∷ 0xae ∷ 0xf1 ∷ 0x79 ∷ 0x9d ∷ 0xe6 ∷ 0xd5 ∷
    0x00 ∷ 0x00 ∷ 0x00 ∷ 0x00 ∷ 0x00 ∷ 0x00 ∷ 0x00 ∷ 0x00 ∷ 0x00 ∷ 0x00 ∷ 0x00 ∷ 0x00 ∷ 0x00 ∷
    0x00 ∷ 0x00 ∷ 0x00 ∷ []

abbrev pub begun_digest : List ℕ
begun_digest =
    0xa0 ∷ 0x7e ∷ 0x80 ∷ 0x5e ∷ 0x18 ∷ 0x0e ∷ 0xd0 ∷ 0xc4 ∷ 0x71 ∷ 0xa8 ∷ 0xfb ∷ 0x79 ∷ 0xf5 ∷
    0x0e ∷ 0x7a ∷ 0xc6 ∷ 0x24 ∷ 0x61 ∷ 0xa5 ∷ 0xbb ∷ 0xf3 ∷ 0xda ∷ 0xac ∷ 0x5a ∷ 0xb6 ∷ 0x01 ∷
    0x51 ∷ 0x71 ∷ 0x28 ∷ 0x92 ∷ 0xe9 ∷ 0xe5 ∷ []

-- these bytes with others at a place
abbrev pub changed : List ℕ → ℕ → List ℕ → List ℕ
changed bytes at other = take at bytes ++ (other ++ drop (at + length other) bytes)

-- the least number that is no element
abbrev pub modulus_bytes : List ℕ
modulus_bytes = 0x1f ∷ 0xff ∷ 0xff ∷ 0xff ∷ 0xff ∷ 0xff ∷ 0xff ∷ 0xff ∷ []

-- of a sketch with one seat, for heavy hitters of side 0, whose total is this one
abbrev pub heavy_bytes : ℕ → List ℕ
heavy_bytes total = changed (changed watched_bytes 51 (1 ∷ 5 ∷ [])) 78
    (to_be_bytes w64 (most_weight + total))

-- of a sketch with one seat, for large entries, which has this code
abbrev pub above_bytes : ℕ → List ℕ
above_bytes code = changed watched_bytes 51 (1 ∷ code ∷ [])

-- records of side 0 that add up to (0, 5, -9, 3), with the weights (0, 5, 9, 5)
abbrev pub credits : List Update
credits = record { side = First; item = 1; delta = pos 5 }
    ∷ record { side = First; item = 2; delta = negsuc 8 }
    ∷ record { side = First; item = 3; delta = pos 4 }
    ∷ record { side = First; item = 3; delta = negsuc 0 } ∷ []

-- the seat for their large entries, at the challenges 2 and 10
abbrev pub of_credits : SeatValues
of_credits = record {
  kind = Above First;
  is_used = false;
  block = 2 ∷ 10 ∷ [];
  first = 20210;
  second = 0;
}
