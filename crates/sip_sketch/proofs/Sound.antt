-- What is told of a stream, as numbers of a file.
use Rattle.std.proofs.Common.{◌≡◌, ℕ, ◌+◌, ◌-◌, ◌*◌, ◌^◌, ◌<◌, ◌≤◌, Bool, true, false, ◌||◌, ◌≢◌, pos, ltb, List, ◌++◌, length, refl, sym, ap, subst, ◌∙◌, arith}
use Rattle.std.specs.Int.{from_bool}
use Rattle.std.proofs.Math.Nat.{mod-lt}
use Rattle.std.proofs.lemmas.Bool.{and_from, and_parts, lt-ltb, ltb-true}
use Rattle.std.proofs.lemmas.List.Elements.{All-append}
use Rattle.sip_vector.specs.Streams.{IsLegal, most_weight, weight}
use Rattle.sip_vector.specs.Tallies.{IsSound, joined, tally}
use Rattle.sip_vector.specs.declared.tally.Tally.{Tally}
use Rattle.sip_vector.specs.declared.update.Side.TheVariants.{First, Second}
use Rattle.sip_vector.specs.declared.update.Update.{Update}
use Rattle.sip_vector.proofs.Joined.{legal_sound, tally-append}
use Rattle.sip_sketch.specs.declared.cursor.Size.TheVariants.{Long}
use Rattle.sip_sketch.specs.Fields.{IsValue}
use Rattle.sip_sketch.specs.Sketches.{SeatValues, SketchValues, byte, most_seats, negatives_field}
use Rattle.sip_sketch.specs.Standing.{MayCome, Stands}
use Rattle.sip_sketch.proofs.Whole.{HeadFits, ranged_from, ranged_value}

-- ---- which sides had a delta below 0

some_first : (first second : ℕ) (a b : Bool) → IsValue (negatives_field first second) (from_bool a + 2 * from_bool b) → a ≡ true → 1 ≤ first
some_first first second true true (allowed, room) is = ltb-true 0 first (and_parts (ltb 0 first) (ltb 0 second) allowed).0
some_first first second true false (allowed, room) is = ltb-true 0 first (and_parts (ltb 0 first) true allowed).0
some_first first second false b value is = absurd cc

some_second : (first second : ℕ) (a b : Bool) → IsValue (negatives_field first second) (from_bool a + 2 * from_bool b) → b ≡ true → 1 ≤ second
some_second first second true true (allowed, room) is = ltb-true 0 second (and_parts (ltb 0 first) (ltb 0 second) allowed).1
some_second first second false true (allowed, room) is = ltb-true 0 second allowed
some_second first second a false value is = absurd cc

bits_value : (first second : ℕ) (a b : Bool) → (a ≡ true → 1 ≤ first) → (b ≡ true → 1 ≤ second)
    → IsValue (negatives_field first second) (from_bool a + 2 * from_bool b)
bits_value first second true true one other = (and_from (ltb 0 first) (ltb 0 second) (lt-ltb 0 first (one refl)) (lt-ltb 0 second (other refl)), omega arith)
bits_value first second true false one other = (and_from (ltb 0 first) true (lt-ltb 0 first (one refl)) refl, omega arith)
bits_value first second false true one other = (lt-ltb 0 second (other refl), omega arith)
bits_value first second false false one other = (refl, omega arith)

-- ---- a tally of a file is sound, and one that is sound is that of a file

pub sound_from : (s : SketchValues) → HeadFits s → IsSound s.tally
sound_from s head =
    let t = s.tally in
    record {
      count = (ranged_from Long 0 (t.first + t.second) t.count head.records).1;
      first = (ranged_from Long 0 most_weight t.first head.first).1;
      second = (ranged_from Long 0 most_weight t.second head.second).1;
      first_negative = some_first t.first t.second t.negatives.first t.negatives.second head.negatives;
      second_negative = some_second t.first t.second t.negatives.first t.negatives.second head.negatives;
    }

-- another tally and as many seats
pub head_with : (s : SketchValues) (t : Tally) (seats : List SeatValues) → HeadFits s → IsSound t → t.fingerprint < 2 ^ 64 → length seats ≡ length s.seats
    → HeadFits (record { depth = s.depth; parts = s.parts; tally = t; seats = seats })
head_with s t seats head sound print long = record {
  depth = head.depth;
  count = head.count;
  first_part = head.first_part;
  last_part = head.last_part;
  first = ranged_value Long 0 most_weight t.first (omega arith) sound.first (omega (arith, sound.first));
  second = ranged_value Long 0 most_weight t.second (omega arith) sound.second (omega (arith, sound.second));
  records = ranged_value Long 0 (t.first + t.second) t.count (omega arith) sound.count (omega (arith, sound.count, sound.first, sound.second));
  negatives = bits_value t.first t.second t.negatives.first t.negatives.second sound.first_negative sound.second_negative;
  fingerprint = ranged_value Long 0 (2 ^ 64 - 1) t.fingerprint (omega arith) (omega (arith, print)) (omega (arith, print));
  seats = subst (λ n. IsValue (byte 1 most_seats) n) (sym long) head.seats;
}

either_some : (a b : Bool) (x y : ℕ) → (a ≡ true → 1 ≤ x) → (b ≡ true → 1 ≤ y) → (a || b) ≡ true → 1 ≤ x + y
either_some true b x y one other is = omega (arith, one refl)
either_some false b x y one other is = omega (arith, other is)

pub sound_joined : (t u : Tally) → IsSound t → IsSound u → t.first + u.first ≤ most_weight → t.second + u.second ≤ most_weight → IsSound (joined t u)
sound_joined t u one other first second = record {
  count = omega (arith, one.count, other.count);
  first = first;
  second = second;
  first_negative = either_some t.negatives.first u.negatives.first t.first u.first one.first_negative other.first_negative;
  second_negative = either_some t.negatives.second u.negatives.second t.second u.second one.second_negative other.second_negative;
}

pub print_small : (t u : Tally) → (joined t u).fingerprint < 2 ^ 64
print_small t u = mod-lt (t.fingerprint + u.fingerprint) (omega arith)

-- what may come is legal by itself
pub come_legal : (s : SketchValues) (updates : List Update) → MayCome s updates → IsLegal s.depth updates
come_legal s updates come = record {
  items = come.items;
  deltas = come.deltas;
  first = omega (arith, come.first);
  second = omega (arith, come.second);
}

pub come_sound : (s : SketchValues) (updates : List Update) → MayCome s updates → IsSound (tally updates)
come_sound s updates come = legal_sound s.depth updates (come_legal s updates come)

-- what is told by parts is told of the updates
pub told_same : (t : Tally) (us : List Update) → t.count ≡ length us → t.first ≡ weight us First → t.second ≡ weight us Second
    → t.negatives ≡ (tally us).negatives → t.fingerprint ≡ (tally us).fingerprint → t ≡ tally us
told_same t us count first second negatives fingerprint =
    λ i. record { count = count i; first = first i; second = second i; negatives = negatives i; fingerprint = fingerprint i }

-- a stream that goes on is legal, and told of so
pub goes_on : (s : SketchValues) (stream updates : List Update) → Stands stream s → MayCome s updates
    → IsLegal s.depth (stream ++ updates) × (joined s.tally (tally updates) ≡ tally (stream ++ updates))
goes_on s stream updates stands come =
    let told = ap (λ (t : Tally). joined t (tally updates)) stands.told ∙ sym (tally-append stream updates) in
    let one : s.tally.first ≡ weight stream First = ap (λ (t : Tally). t.first) stands.told in
    let other : s.tally.second ≡ weight stream Second = ap (λ (t : Tally). t.second) stands.told in
    let more = ap (λ (t : Tally). t.first) told in
    let more_other = ap (λ (t : Tally). t.second) told in (
      record {
        items = All-append (λ (u : Update). u.item < 2 ^ s.depth) stream updates stands.legal.items come.items;
        deltas = All-append (λ (u : Update). u.delta ≢ pos 0) stream updates stands.legal.deltas come.deltas;
        first = omega (arith, more, come.first);
        second = omega (arith, more_other, come.second);
      },
      told,
    )
