-- The check of a claimed sum of products, over whole lists: the sum-check protocol, round by round,
-- for the product of two multilinear extensions (Cormode, Thaler, Yi, PVLDB 5(1), section 3).
use Rattle.std.specs.Prelude.{ℕ, ◌+◌, ◌-◌, ◌*◌, ◌/◌, ◌%◌, ◌==◌, Bool, false, ◌&&◌, nat_le, ℤ, ◌*ℤ◌}
use Rattle.std.specs.Prelude.{nat_abs, List, [], ◌∷◌, map, zip}
use Rattle.sip_field.specs.Polynomial.{polynomial}
use Rattle.sip_field.specs.Residue.{residue}
use Rattle.sip_vector.specs.Extensions.{ext}
use Rattle.sip_vector.specs.Streams.{int_sum}

-- the sum of the products of the entries of two lists
abbrev pub total : List ℤ → List ℤ → ℤ
total first second = int_sum (map (λ x. x.0 *ℤ x.1) (zip first second))

-- a round polynomial: c0 + c1·x + c2·x²
pub record Coefficients : Type 0 where
  pub c0 : ℕ
  pub c1 : ℕ
  pub c2 : ℕ

-- its coefficients, the constant one first
abbrev pub listed : Coefficients → List ℕ
listed c = c.c0 ∷ c.c1 ∷ c.c2 ∷ []

-- its value at x
abbrev pub value_at : ℕ → Coefficients → ℕ → ℕ
value_at p c x = polynomial x (listed c) % p

-- the sum of its values at 0 and at 1
abbrev pub sum_of_ends : ℕ → Coefficients → ℕ
sum_of_ends p c = (2 * c.c0 + c.c1 + c.c2) % p

-- what replies state: the claim of reply 0, and the round polynomial of each reply
pub record Stated : Type 0 where
  pub claim : ℤ
  pub polynomials : List Coefficients

-- From an expected value on, one polynomial for each challenge: the values of each at 0 and 1 add
-- up to what is expected, its value at the challenge is expected next, and the last expected value
-- is the product.
unfoldable pub adds_up : ℕ → ℕ → ℕ → List Coefficients → List ℕ → Bool
adds_up p product expected [] [] = expected == product
adds_up p product expected (c ∷ cs) (r ∷ rs) =
    (sum_of_ends p c == expected) && adds_up p product (value_at p c r) cs rs
adds_up p product expected _ _ = false

-- the product of the two extensions at the challenges
abbrev pub product_at : ℕ → List ℤ → List ℤ → List ℕ → ℕ
product_at p first second challenges =
    (ext p first challenges * ext p second challenges) % p

-- the absolute value of a claim is at most (p - 1) / 2: such claims have different residues
abbrev pub is_small_claim : ℕ → ℤ → Bool
is_small_claim p claim = nat_le (nat_abs claim) ((p - 1) / 2)

-- the claim is small, and from it on the polynomials add up to the product of the extensions
abbrev pub accepts_stated : ℕ → List ℤ → List ℤ → List ℕ → Stated → Bool
accepts_stated p first second challenges s =
    is_small_claim p s.claim
    && adds_up p (product_at p first second challenges) (residue p s.claim) s.polynomials
    challenges
