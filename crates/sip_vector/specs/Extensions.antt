-- The multilinear extension of a vector (Cormode, Thaler, Yi, PVLDB 5(1), section 2).
use Rattle.std.specs.Prelude.{ℕ, ◌+◌, ◌*◌, ◌/◌, ◌%◌, ◌^◌, ◌==◌, ℤ, pos, List, [], ◌∷◌, map, sum_by}
use Rattle.std.specs.Prelude.{if◌then◌else◌}
use Rattle.std.specs.List.{range_with_len, enumerate_from}
use Rattle.sip_field.specs.Residue.{residue, difference_mod}
use Rattle.sip_vector.specs.Answers.{is_within}

-- the product of r where the index has the bit 1, and of 1 - r where it has 0
abbrev pub chi : ℕ → ℕ → List ℕ → ℕ
chi p i [] = 1
chi p i (r ∷ challenges) =
    ((if i % 2 == 1 then r else difference_mod p 1 r) * chi p (i / 2) challenges) % p

-- the value of the extension at the challenges
abbrev pub ext : ℕ → List ℤ → List ℕ → ℕ
ext p numbers challenges =
    sum_by (λ x. residue p x.1 * chi p x.0 challenges) (enumerate_from 0 numbers) % p

-- each pair (u, w) of neighbours becomes u + r * (w - u)
abbrev pub line : ℕ → List ℕ → ℕ → List ℕ
line p (u ∷ w ∷ level) r = ((u + r * difference_mod p w u) % p) ∷ line p level r
line p (u ∷ []) r = []
line p [] r = []

-- 1 from lo to hi, and 0 elsewhere
abbrev pub ones : ℕ → ℕ → ℕ → List ℤ
ones depth lo hi =
    map (λ i. if is_within lo hi i then pos 1 else pos 0) (range_with_len 0 (2 ^ depth))
