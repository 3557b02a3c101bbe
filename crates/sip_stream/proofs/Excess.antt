-- One test for all that an update needs to be legal: no number is too much.
use Rattle.std.proofs.Common.{◌≡◌, ℕ, ◌+◌, ◌/◌, ◌%◌, ◌*◌, ◌^◌, ◌<◌, ◌≤◌, nat_abs, nat_eq, bit_or, refl, sym, arith, subst}
use Rattle.std.specs.Prelude.{IsTrue}
use Rattle.std.proofs.Math.Nat.{div-eq_of_lt, lt-div-mul-add}
use Rattle.std.proofs.lemmas.Bool.Decides.{nat_tests}
use Rattle.std.proofs.lemmas.Nat.{le_or_l, le_or_r, pow_pos}
use Rattle.sip_vector.specs.declared.update.Side.TheVariants.{First, Second}
use Rattle.sip_vector.specs.declared.update.Update.{Update}
use Rattle.sip_vector.specs.Streams.{most_weight}
use Rattle.sip_vector.proofs.Kept.{is_zero-false}
use Rattle.sip_stream.specs.Reading.{Reading, HasRoom, weight_of}

-- all bits of four numbers
abbrev pub all_of : ℕ → ℕ → ℕ → ℕ → ℕ
all_of a b c d = bit_or (bit_or (bit_or a b) c) d

none_of_all : (a b c d : ℕ) → all_of a b c d ≡ 0 → (a ≡ 0) × (b ≡ 0) × (c ≡ 0) × (d ≡ 0)
none_of_all a b c d e =
    let third = le_or_l (bit_or (bit_or a b) c) d in
    let second = le_or_l (bit_or a b) c in
    let first = le_or_l a b in (
      omega (arith, e, third, second, first),
      omega (arith, e, third, second, le_or_r a b),
      omega (arith, e, third, le_or_r (bit_or a b) c),
      omega (arith, e, le_or_r (bit_or (bit_or a b) c) d),
    )

all_none : (a b c d : ℕ) → a ≡ 0 → b ≡ 0 → c ≡ 0 → d ≡ 0 → all_of a b c d ≡ 0
all_none a b c d ea eb ec ed = rw (ea, eb, ec, ed) refl

-- a number without high bits is below the lowest of these
below_high : (x depth : ℕ) → x / 2 ^ depth ≡ 0 → x < 2 ^ depth
below_high x depth e =
    let some : 0 < 2 ^ depth = pow_pos depth in
    let near : x < x / 2 ^ depth * 2 ^ depth + 2 ^ depth = lt-div-mul-add some in
    let at : x < 0 * 2 ^ depth + 2 ^ depth = subst (λ q. x < q * 2 ^ depth + 2 ^ depth) e near in
    omega (arith, at)

-- what is 1 less than a number, modulo 2^64, has no high bits exactly where the number is some and is not too much
size_some : (size : ℕ) → (size + 18446744073709551615) % 18446744073709551616 / 1073741824 ≡ 0 → 1 ≤ size
size_some size e = omega (arith, e)

size_fits : (size : ℕ) → 1 ≤ size → size ≤ 1073741823 → (size + 18446744073709551615) % 18446744073709551616 / 1073741824 ≡ 0
size_fits size some most = omega (arith, some, most)

-- an update, its size, and the weights with it
module _ (r : Reading) (u : Update) (depth size first second : ℕ) (deep : depth ≡ r.depth) (is : size ≡ nat_abs u.delta) where
  abbrev excess : ℕ
  excess = all_of (u.item / 2 ^ depth) ((size + 18446744073709551615) % 18446744073709551616 / 1073741824) (first / 1073741824) (second / 1073741824)

  -- the weights are those that the reader would have
  abbrev pub AreWeights : Type 0
  AreWeights = ((first ≤ most_weight) × (second ≤ most_weight) → weight_of r u.side + nat_abs u.delta ≤ most_weight) × (weight_of r u.side + nat_abs u.delta ≤ most_weight → (first ≤ most_weight) × (second ≤ most_weight))

  pub of_first : u.side ≡ First → first ≡ r.first + size → second ≡ r.second → r.second ≤ most_weight → AreWeights
  of_first side more same small = rw side (λ few. omega (arith, few.0, more, is), λ most. (omega (arith, most, more, is), omega (arith, same, small)))

  pub of_second : u.side ≡ Second → first ≡ r.first → second ≡ r.second + size → r.first ≤ most_weight → AreWeights
  of_second side same more small = rw side (λ few. omega (arith, few.1, more, is), λ most. (omega (arith, same, small), omega (arith, most, more, is)))

  -- where no number is too much there is room
  pub room_there : AreWeights → IsTrue (nat_eq excess 0) → HasRoom r u
  room_there are test =
      let zero : excess ≡ 0 = grind (arith, nat_tests) in
      let each = none_of_all _ _ _ _ zero in
      let some : 1 ≤ size = size_some size each.1 in
      record {
        item = subst (λ d. u.item < 2 ^ d) deep (below_high u.item depth each.0);
        delta = λ e. absurd (let none : nat_abs u.delta ≡ 0 = rw e refl in omega (arith, none, is, some));
        weight = are.0 (omega (arith, each.2), omega (arith, each.3));
      }

  -- and where there is room none is
  pub none_too_much : AreWeights → HasRoom r u → IsTrue (nat_eq excess 0)
  none_too_much are room =
      let not_zero = is_zero-false u.delta room.delta in
      let some : 1 ≤ size = grind (arith, nat_tests) in
      let few = are.1 room.weight in
      let weight = room.weight in
      let below : u.item < 2 ^ depth = subst (λ d. u.item < 2 ^ d) (sym deep) room.item in
      let item : u.item / 2 ^ depth ≡ 0 = div-eq_of_lt below in
      let low = size_fits size some (omega (arith, weight, is)) in
      let zero : excess ≡ 0 = all_none _ _ _ _ item low (omega (arith, few.0)) (omega (arith, few.1)) in
      rw zero refl
