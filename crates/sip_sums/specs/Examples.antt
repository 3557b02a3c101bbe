-- The examples that the laws work out, at the challenges (2, 10): the sum of the squares of
-- (3, 0, 5, 1), that of its products with (2, 7, 1, 0), and that of its entries 1 to 3.
use Rattle.std.specs.Prelude.{ℕ, ◌-◌, ◌++◌, ℤ, pos, List, [], ◌∷◌, Result, replicate}
use Rattle.sip_field.specs.Moduli.{m61_modulus}
use Rattle.sip_vector.specs.Answers.{Answer}
use Rattle.sip_wire.specs.declared.version.Version.{Version}
use Rattle.sip_replies.specs.Replies.{Fault, verdict}
use Rattle.sip_sums.specs.AcceptsSum.{Coefficients, Stated}
use Rattle.sip_sums.specs.Protocol.{sum_asked, sum_protocol}

abbrev pub coefficients : ℕ → ℕ → ℕ → Coefficients
coefficients a b c = record { c0 = a; c1 = b; c2 = c }

-- a number less so much, modulo 2^61 - 1
abbrev pub less : ℕ → ℕ
less n = m61_modulus - n

abbrev pub other : List ℤ
other = pos 2 ∷ pos 7 ∷ pos 1 ∷ pos 0 ∷ []

-- what the honest replies to `f2:0` state
abbrev pub stated_squares : Stated
stated_squares = record {
  claim = pos 35;
  polynomials = coefficients 34 (less 58) 25 ∷ coefficients 9 0 0 ∷ [];
}

-- those to `inner`
abbrev pub stated_products : Stated
stated_products = record {
  claim = pos 11;
  polynomials = coefficients 11 0 (less 11) ∷ coefficients (less 36) 39 0 ∷ [];
}

-- those to `range:0:1:3`
abbrev pub stated_range : Stated
stated_range = record {
  claim = pos 6;
  polynomials = coefficients 5 (less 1) (less 3) ∷ coefficients (less 6) 3 0 ∷ [];
}

-- over 31, for the vector (1, 0): the claim 2 with one polynomial
abbrev pub stated_two : Stated
stated_two = record { claim = pos 2; polynomials = coefficients 25 9 5 ∷ [] }

-- frames of a claim and of a polynomial whose numbers are below 256
abbrev pub claim_frame : ℕ → List ℕ
claim_frame n = 0x11 ∷ 0x00 ∷ 0x08 ∷ replicate 7 0 ++ n ∷ []

abbrev pub poly_frame : ℕ → ℕ → ℕ → List ℕ
poly_frame a b c =
    0x12 ∷ 0x00 ∷ 0x18 ∷ replicate 7 0 ++ a ∷ replicate 7 0 ++ b ∷ replicate 7 0 ++ c ∷ []

-- Claim 35 and the polynomial (34, -58, 25)
abbrev pub reply_0 : List ℕ
reply_0 =
    0x11 ∷ 0x00 ∷ 0x08 ∷ replicate 7 0 ++ 0x23 ∷
    0x12 ∷ 0x00 ∷ 0x18 ∷ replicate 7 0 ++ 0x22 ∷
    0x1f ∷ replicate 6 0xff ++ 0xc5 ∷ replicate 7 0 ++ 0x19 ∷ []

-- the polynomial (9, 0, 0)
abbrev pub reply_1 : List ℕ
reply_1 = 0x12 ∷ 0x00 ∷ 0x18 ∷ replicate 7 0 ++ 0x09 ∷ replicate 16 0

-- what these replies to `f2:0` give
abbrev pub verdict_of : Version → List (List ℕ) → Result Answer Fault
verdict_of version replies =
    verdict (sum_protocol (sum_asked version m61_modulus 9)) (2 ∷ 10 ∷ []) replies
