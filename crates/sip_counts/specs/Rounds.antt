-- The rounds of a sum-check of any degree, whatever is summed (Cormode, Thaler, Yi, PVLDB 5(1),
-- section 3). A round polynomial is the list of its coefficients, the constant one first.
use Rattle.std.specs.Prelude.{◌≡◌, ℕ, ◌+◌, ◌*◌, ◌%◌, ◌<◌, ◌≤◌, ◌==◌, Bool, false, ◌&&◌, List, []}
use Rattle.std.specs.Prelude.{◌∷◌, ◌++◌, length, sum}
use Rattle.sip_field.specs.Polynomial.{polynomial}

-- the value of a round polynomial at x
abbrev pub value_at : ℕ → List ℕ → ℕ → ℕ
value_at p c x = polynomial x c % p

-- the sum of its values at 0 and at 1: 2·c_0 + c_1 + .. + c_k
abbrev pub sum_of_ends : ℕ → List ℕ → ℕ
sum_of_ends p [] = 0
sum_of_ends p (c ∷ cs) = (2 * c + sum cs) % p

-- the polynomial is of this degree, and its values at 0 and 1 add up to what is expected
abbrev pub is_expected : ℕ → ℕ → ℕ → List ℕ → Bool
is_expected p degree expected c =
    (length c == degree + 1) && (sum_of_ends p c == expected)

-- From an expected value on, one polynomial for each challenge: the values of each at 0 and 1 add
-- up to what is expected, its value at the challenge is expected next, and the last expected value
-- is this one.
unfoldable pub adds_up : ℕ → ℕ → ℕ → ℕ → List (List ℕ) → List ℕ → Bool
adds_up p degree last expected [] [] = expected == last
adds_up p degree last expected (c ∷ cs) (r ∷ rs) =
    is_expected p degree expected c && adds_up p degree last (value_at p c r) cs rs
adds_up p degree last expected _ _ = false

-- What is true of a sum over d variables: `sums` is what the sum over the variables that are left
-- comes to once these challenges stand in place of the first ones, and `polynomials` has it for
-- each value of the next variable.
pub record AreRounds (p degree d : ℕ) (polynomials : List ℕ → List ℕ) (sums : List ℕ → ℕ)
    : Type 0 where
  pub few : (v : List ℕ) → length v < d → length (polynomials v) ≤ degree + 1
  pub ends : (v : List ℕ) → length v < d → sum_of_ends p (polynomials v) ≡ sums v
  pub values : (v : List ℕ) (x : ℕ) → length v < d
      → value_at p (polynomials v) x ≡ sums (v ++ x ∷ [])
