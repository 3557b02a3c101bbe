-- The fingerprint of a stream: one number by which honest streams are told apart.
use Rattle.std.specs.Prelude.{ℕ, ◌+◌, ◌*◌, ◌/◌, ◌%◌, ◌^◌, bit_xor, List, sum_by}
use Rattle.std.specs.Int.{w64, cast_unsigned}
use Rattle.sip_vector.specs.declared.update.Side.{Side}
use Rattle.sip_vector.specs.declared.update.Side.TheVariants.{First, Second}
use Rattle.sip_vector.specs.declared.update.Update.{Update}
use Rattle.sip_vector.specs.Limits.{most_depth}

-- a number of 64 bits whose upper bits are laid over its lower ones, times a factor
abbrev pub stirred : ℕ → ℕ → ℕ → ℕ
stirred z shift factor = bit_xor z (z / 2 ^ shift) * factor % 2 ^ 64

-- the last step, without a factor
abbrev pub settled_bits : ℕ → ℕ
settled_bits z = bit_xor z (z / 2 ^ 31)

-- the finaliser of splitmix64 (G. L. Steele, D. Lea and C. H. Flood, Fast splittable pseudorandom
-- number generators, 2014): each bit of a number changes about half of the bits that it gives
unfoldable pub mix : ℕ → ℕ
mix x =
    settled_bits (stirred (stirred ((x + 0x9e3779b97f4a7c15) % 2 ^ 64) 30 0xbf58476d1ce4e5b9)
    27 0x94d049bb133111eb)

-- the items of both sides, numbered through
abbrev pub place_of : Side → ℕ → ℕ
place_of First item = item
place_of Second item = 2 ^ most_depth + item

-- what an update adds: as often what its place gives as its delta says, in two's complement
abbrev pub share : Update → ℕ
share u = cast_unsigned w64 u.delta * mix (place_of u.side u.item)

-- the sum of what the updates add, modulo 2^64
abbrev pub fingerprint : List Update → ℕ
fingerprint stream = sum_by share stream % 2 ^ 64
