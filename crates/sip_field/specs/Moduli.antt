-- The moduli of the two fields.
use Rattle.std.specs.Prelude.{ℕ, ◌-◌, ◌^◌}

-- of M61
abbrev pub m61_modulus : ℕ
m61_modulus = 2 ^ 61 - 1

-- of F31
abbrev pub f31_modulus : ℕ
f31_modulus = 31
