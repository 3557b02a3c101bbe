-- What an honest helper knows and says of a sum of products.
--
-- Reply 0 has the sum and the first round polynomial. Each later reply has the polynomial of the
-- next round, once the challenge before it is revealed.
use Rattle.std.specs.Prelude.{◌≡◌, ◌<◌, ◌≤◌, ℕ, zero, suc, ◌+◌, ◌-◌, ◌*◌, ◌%◌, ◌^◌, ℤ, nat_abs}
use Rattle.std.specs.Prelude.{List, [], ◌∷◌, ◌++◌, length, map, fold, take, sum_by}
use Rattle.std.specs.List.{range_with_len, flat_map}
use Rattle.sip_field.specs.Moduli.{m61_modulus}
use Rattle.sip_field.specs.Residue.{residue, difference_mod}
use Rattle.sip_vector.specs.Extensions.{ext, line}
use Rattle.sip_wire.specs.declared.message.Message.{Message}
use Rattle.sip_wire.specs.declared.message.Message.TheVariants as messages
use Rattle.sip_wire.specs.declared.version.Version.{Version}
use Rattle.sip_wire.specs.Spelling.{spelling}
use Rattle.sip_wire.specs.Table.{most_claim}
use Rattle.sip_sums.specs.AcceptsSum.{Coefficients, total}

-- ---- round polynomials

-- all lists of n bits
abbrev pub cube : ℕ → List (List ℕ)
cube zero = [] ∷ []
cube (suc n) = map (λ b. 0 ∷ b) (cube n) ++ map (λ b. 1 ∷ b) (cube n)

-- For a pair (u, w) of one list and a pair (x, y) of the other, the product of the lines through
-- them, (u + (w - u)·z)·(x + (y - x)·z), has these three coefficients.
abbrev pub constant : ℕ → ℕ → ℕ → ℕ → ℕ → ℕ
constant p u w x y = u * x

abbrev pub linear : ℕ → ℕ → ℕ → ℕ → ℕ → ℕ
linear p u w x y = u * difference_mod p y x + x * difference_mod p w u

abbrev pub square : ℕ → ℕ → ℕ → ℕ → ℕ → ℕ
square p u w x y = difference_mod p w u * difference_mod p y x

-- the sum, over all lists of n bits, of what `of` gives for the values of both extensions at the
-- challenges revealed so far, then 0 or 1, and then these bits
abbrev pub over_cube : ℕ → (ℕ → ℕ → ℕ → ℕ → ℕ) → List ℤ → List ℤ → List ℕ → ℕ → ℕ
over_cube p of first second revealed n =
    sum_by (λ b. of (ext p first (revealed ++ 0 ∷ b)) (ext p first (revealed ++ 1 ∷ b))
    (ext p second (revealed ++ 0 ∷ b)) (ext p second (revealed ++ 1 ∷ b)))
    (cube n)

-- the true polynomial of the round that follows these challenges, where n more rounds come after it
abbrev pub round_polynomial : ℕ → List ℤ → List ℤ → List ℕ → ℕ → Coefficients
round_polynomial p first second revealed n = record {
  c0 = over_cube p (constant p) first second revealed n % p;
  c1 = over_cube p (linear p) first second revealed n % p;
  c2 = over_cube p (square p) first second revealed n % p;
}

-- ---- replies

-- the sum, which stands before the first polynomial
abbrev pub opening : List ℤ → List ℤ → List ℕ → List Message
opening first second [] = messages.Claim (total first second) ∷ []
opening first second (r ∷ revealed) = []

abbrev pub poly_message : Coefficients → Message
poly_message c = messages.Poly c.c0 c.c1 c.c2

-- the messages that are due once these challenges are revealed
unfoldable pub honest_messages : ℕ → ℕ → List ℤ → List ℤ → List ℕ → List Message
honest_messages p depth first second revealed =
    opening first second revealed
    ++ poly_message (round_polynomial p first second revealed (depth - length revealed - 1)) ∷ []

-- their bytes
abbrev pub honest_reply : Version → ℕ → ℕ → List ℤ → List ℤ → List ℕ → List ℕ
honest_reply version p depth first second revealed =
    flat_map (spelling version) (honest_messages p depth first second revealed)

-- all replies: reply j is the one due once the first j challenges are revealed
abbrev pub honest_replies : Version → ℕ → ℕ → List ℤ → List ℤ → List ℕ → List (List ℕ)
honest_replies version p depth first second challenges =
    map (λ j. honest_reply version p depth first second (take j challenges))
    (range_with_len 0 (length challenges))

-- A sum can be shown: messages have room for the field and for the sum.
pub record CanBeSummed (p depth : ℕ) (first second : List ℤ) : Type 0 where
  pub some : 1 < p
  pub elements : p ≤ m61_modulus
  pub levels : 1 ≤ depth
  pub size : length first ≡ 2 ^ depth
  pub same : length second ≡ 2 ^ depth
  pub small : nat_abs (total first second) ≤ most_claim

-- ---- the prover

-- the sum, and both lists folded by the challenges so far
pub record Proving : Type 0 where
  pub claim : ℤ
  pub first : List ℕ
  pub second : List ℕ

-- before any challenge: the residues
abbrev pub begun : ℕ → List ℤ → List ℤ → Proving
begun p first second = record {
  claim = total first second;
  first = map (residue p) first;
  second = map (residue p) second;
}

-- both lists folded by one challenge more
abbrev pub learnt : ℕ → Proving → ℕ → Proving
learnt p s r = record s { first = line p s.first r; second = line p s.second r }

-- the lists that these challenges lead to
abbrev pub proving : ℕ → List ℤ → List ℤ → List ℕ → Proving
proving p first second revealed = fold (learnt p) (begun p first second) revealed

-- the sum of what `of` gives for each pair of neighbours of both lists
abbrev pub over_pairs : (ℕ → ℕ → ℕ → ℕ → ℕ) → List ℕ → List ℕ → ℕ
over_pairs of (u ∷ w ∷ us) (x ∷ y ∷ xs) = of u w x y + over_pairs of us xs
over_pairs of _ _ = 0

-- the polynomial of the round that a prover is at
abbrev pub its_polynomial : ℕ → Proving → Coefficients
its_polynomial p s = record {
  c0 = over_pairs (constant p) s.first s.second % p;
  c1 = over_pairs (linear p) s.first s.second % p;
  c2 = over_pairs (square p) s.first s.second % p;
}
