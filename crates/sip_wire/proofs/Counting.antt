-- How many bytes rows take.
use Rattle.std.proofs.Common.{◌≡◌, ℕ, zero, suc, ◌*◌, List, [], refl, ◌∙◌, arith}
use Rattle.sip_wire.specs.Table.{Field, size, repeat}
use Rattle.sip_wire.specs.Spelling.{in_bytes}
use Rattle.sip_wire.proofs.Fields.{size-append}

-- n rows take n times the bytes of one
pub size_repeat : (n : ℕ) (layout : List Field) → size (repeat n layout) ≡ n * size layout
size_repeat zero layout = omega arith
size_repeat (suc n) layout = size-append layout (repeat n layout) ∙ omega (arith, size_repeat n layout)

-- a number of no bytes has none
pub no_bytes : (n : ℕ) → in_bytes 0 n ≡ []
unfolding in_bytes
no_bytes n = refl
