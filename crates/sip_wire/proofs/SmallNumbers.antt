-- Numbers that a frame has room for: elements of the field, and claims and values of at most HALF.
use Rattle.std.proofs.Common.{◌≡◌, ℕ, ◌^◌, ◌<◌, ◌≤◌, true, nat_lt, nat_le, ℤ, pos, negsuc, nat_abs, FitsSigned, ap, ◌∙◌, arith}
use Rattle.std.specs.Int.{w64, cast_unsigned}
use Rattle.std.proofs.lemmas.Bool.{le-leb, lt-ltb}
use Rattle.std.proofs.lemmas.Int.{ints, to_z-of_z}
use Rattle.sip_field.specs.Moduli.{m61_modulus}
use Rattle.sip_wire.specs.Table.{is_small, most_claim}

-- an element has room in eight bytes
pub element_room : (n : ℕ) → n < m61_modulus → nat_lt n (256 ^ 8) ≡ true
element_room n h = lt-ltb n (256 ^ 8) (omega arith)

-- a small number is one of 64 bits
pub in_range : (z : ℤ) → nat_abs z ≤ most_claim → FitsSigned w64 z
in_range z le = grind (arith, ints)

-- so its bits have room in eight bytes
pub bits_below : (z : ℤ) → nat_abs z ≤ most_claim → cast_unsigned w64 z < 256 ^ 8
bits_below (pos n) le = omega (arith, le)
bits_below (negsuc n) le = omega (arith, le)

-- and are those of a small number
pub bits_small : (z : ℤ) → nat_abs z ≤ most_claim → is_small (cast_unsigned w64 z) ≡ true
bits_small z le = ap (λ (x : ℤ). nat_le (nat_abs x) most_claim) (to_z-of_z w64 z (in_range z le)) ∙ le-leb (nat_abs z) most_claim le
