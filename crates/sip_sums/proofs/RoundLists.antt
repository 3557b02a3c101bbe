-- How long the lists of a round are.
use Rattle.std.proofs.Common.{◌≡◌, ℕ, zero, suc, ◌-◌, ◌*◌, ◌^◌, ◌<◌, ◌≤◌, sym, ap, ◌∙◌, arith}
use Rattle.std.proofs.Math.Nat.{pow-succ', pow-le-pow_right}
use Rattle.sip_vector.specs.Limits.{most_depth}

-- a list of two entries or more is twice as long as the one above it
pub halves : (left n : ℕ) → n ≡ 2 ^ left → 2 ≤ n → 2 ^ left ≡ 2 * 2 ^ (left - 1)
halves zero n is two = absurd (omega (arith, is))
halves (suc left) n is two = let one : suc left - 1 ≡ left = omega arith in pow-succ' 2 left ∙ ap (λ k. 2 * 2 ^ k) (sym one)

pub half_fits : (left : ℕ) → left ≤ most_depth → 2 ^ (left - 1) ≤ 2 ^ 63
half_fits left most =
    let two : 0 < 2 = omega arith in
    let le : left - 1 ≤ 63 = omega (arith, most) in
    pow-le-pow_right two le
