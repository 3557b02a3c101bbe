-- A place is a number of 64 bits.
use Rattle.std.proofs.Common.{◌≡◌, ℕ, ◌%◌, ◌^◌, ap, arith}
use Rattle.sip_vector.specs.Fingerprints.{stirred, settled_bits, mix}

-- what stands above 64 bits is of no account
pub mix_low : (x : ℕ) → mix (x % 2 ^ 64) ≡ mix x
unfolding mix
mix_low x =
    ap (λ n. settled_bits (stirred (stirred n 30 0xbf58476d1ce4e5b9) 27 0x94d049bb133111eb))
    (omega arith)
