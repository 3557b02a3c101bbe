-- The fields of a head that stand behind each other.
use Rattle.std.proofs.Common.{◌≡◌, ℕ, zero, suc, ◌+◌, ◌-◌, ◌*◌, ◌/◌, ◌%◌, ◌^◌, ◌≤◌, nat_eq, refl, arith}
use Rattle.std.specs.Int.{from_bool}
use Rattle.sip_vector.specs.Streams.{most_weight}
use Rattle.sip_sketch.specs.Fields.{Fields, one}
use Rattle.sip_vector.specs.Limits.{most_depth}
use Rattle.sip_sketch.specs.Sketches.{byte, long, negatives_field, most_seats, second_field, seats_fields, tally_fields, parts_fields}

abbrev pub behind_bits : (ℕ → ℕ → ℕ → Fields) → ℕ → ℕ → ℕ → Fields
behind_bits behind first second bits = one (long 0 (2 ^ 64 - 1)) (λ _. behind first second bits)

abbrev pub behind_count : (ℕ → ℕ → ℕ → Fields) → ℕ → ℕ → ℕ → Fields
behind_count behind first second count = one (negatives_field first second) (behind_bits behind first second)

abbrev pub behind_second : (ℕ → ℕ → ℕ → Fields) → ℕ → ℕ → Fields
behind_second behind first second = one (long 0 (first + second)) (behind_count behind first second)

abbrev pub behind_first : (ℕ → ℕ → ℕ → Fields) → ℕ → Fields
behind_first behind first = one (long 0 most_weight) (behind_second behind first)

-- two bits are those of their number
pub bits_back : (n : ℕ) → n ≤ 3 → from_bool (nat_eq (n % 2) 1) + 2 * from_bool (nat_eq (n / 2) 1) ≡ n
bits_back zero few = refl
bits_back (suc zero) few = refl
bits_back (suc (suc zero)) few = refl
bits_back (suc (suc (suc zero))) few = refl
bits_back (suc (suc (suc (suc n)))) few = absurd (omega (arith, few))

abbrev pub behind_tally : ℕ → ℕ → ℕ → ℕ → Fields
behind_tally depth first second negatives =
    one (byte 1 most_seats) (seats_fields depth (second_field first second negatives))

abbrev pub behind_parts : ℕ → Fields
behind_parts depth = tally_fields (behind_tally depth)

abbrev pub behind_depth : ℕ → Fields
behind_depth depth = parts_fields (behind_parts depth)

abbrev pub behind_magic : Fields
behind_magic = one (byte 1 most_depth) behind_depth
