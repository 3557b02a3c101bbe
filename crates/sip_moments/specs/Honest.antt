-- What an honest helper knows and says of a moment.
use Rattle.std.specs.Prelude.{ℕ, zero, suc, ◌+◌, ◌-◌, ◌*◌, ◌%◌, ◌^◌, ℤ, List, [], ◌∷◌, ◌++◌, length}
use Rattle.std.specs.Prelude.{take, map, flat_map, fold}
use Rattle.std.specs.List.{range_with_len}
use Rattle.sip_field.specs.Residue.{residue, difference_mod}
use Rattle.sip_vector.specs.Extensions.{line}
use Rattle.sip_wire.specs.declared.message.Message.{Message}
use Rattle.sip_wire.specs.declared.message.Message.TheVariants as messages
use Rattle.sip_wire.specs.declared.version.Version.{Version}
use Rattle.sip_wire.specs.Spelling.{spelling}
use Rattle.sip_sums.specs.Honest.{over_cube, over_pairs}
use Rattle.sip_moments.specs.Moments.{moment}
use Rattle.sip_moments.specs.Stating.{power_message}

-- ---- round polynomials

-- the binomial coefficient: how many sets of m there are among n
abbrev pub binomial : ℕ → ℕ → ℕ
binomial n zero = 1
binomial zero (suc m) = 0
binomial (suc n) (suc m) = binomial n m + binomial n (suc m)

-- for a pair (u, w), the k-th power of the line through it, (u + (w - u)·z)^k, has these
-- coefficients, m from 0 to k
abbrev pub term : ℕ → ℕ → ℕ → ℕ → ℕ → ℕ
term p k m u w = binomial k m * u ^ (k - m) * difference_mod p w u ^ m

-- the same as what sums of products say of two pairs: only the first pair counts
abbrev pub of_first : ℕ → ℕ → ℕ → ℕ → ℕ → ℕ → ℕ → ℕ
of_first p k m u w _ _ = term p k m u w

-- the true polynomial of the round that follows these challenges, where n more rounds come after
-- it: coefficient m is the sum of the terms over all lists of n bits, for the values of the
-- extension at the challenges, then 0 or 1, and then the bits
abbrev pub round_polynomial : ℕ → ℕ → List ℤ → List ℕ → ℕ → List ℕ
round_polynomial p k numbers revealed n =
    map (λ m. over_cube p (of_first p k m) numbers numbers revealed n % p)
    (range_with_len 0 (k + 1))

-- ---- the prover

-- the moment, its degree, and the vector's list folded by the challenges so far
pub record Proving : Type 0 where
  pub claim : ℤ
  pub degree : ℕ
  pub level : List ℕ

-- before any challenge: the residues
abbrev pub begun : ℕ → ℕ → List ℤ → Proving
begun p k numbers = record {
  claim = moment k numbers;
  degree = k;
  level = map (residue p) numbers;
}

-- folded by one challenge more
abbrev pub learnt : ℕ → Proving → ℕ → Proving
learnt p s r = record s { level = line p s.level r }

-- what these challenges lead to
abbrev pub proving : ℕ → ℕ → List ℤ → List ℕ → Proving
proving p k numbers revealed = fold (learnt p) (begun p k numbers) revealed

-- coefficient m of the polynomial of the round that a prover is at
abbrev pub its_coefficient : ℕ → Proving → ℕ → ℕ
its_coefficient p s m = over_pairs (of_first p s.degree m) s.level s.level % p

-- the polynomial
abbrev pub its_polynomial : ℕ → Proving → List ℕ
its_polynomial p s = map (its_coefficient p s) (range_with_len 0 (s.degree + 1))

-- ---- the replies

-- what comes before the polynomial: in reply 0, the moment
abbrev pub opening : ℕ → List ℤ → List ℕ → List Message
opening k numbers [] = messages.Claim (moment k numbers) ∷ []
opening k numbers (r ∷ revealed) = []

-- the messages that are due once these challenges are revealed
unfoldable pub honest_messages : ℕ → ℕ → ℕ → List ℤ → List ℕ → List Message
honest_messages p k depth numbers revealed =
    opening k numbers revealed
    ++ power_message (round_polynomial p k numbers revealed (depth - length revealed - 1)) ∷ []

-- their bytes
abbrev pub honest_reply : Version → ℕ → ℕ → ℕ → List ℤ → List ℕ → List ℕ
honest_reply version p k depth numbers revealed =
    flat_map (spelling version) (honest_messages p k depth numbers revealed)

-- all replies: reply j is the one due once the first j challenges are revealed
abbrev pub honest_replies : Version → ℕ → ℕ → ℕ → List ℤ → List ℕ → List (List ℕ)
honest_replies version p k depth numbers challenges =
    map (λ j. honest_reply version p k depth numbers (take j challenges))
    (range_with_len 0 (length challenges))
