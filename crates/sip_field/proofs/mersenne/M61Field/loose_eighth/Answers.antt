use Rattle.std.proofs.Common.{◌≡◌, ℕ, ◌+◌, ◌-◌, ◌*◌, ◌/◌, ◌%◌, ◌^◌, ◌∙◌, ap, arith}
use Rattle.sip_field.specs.LawProofs.Congruence.{same_mod}
use Rattle.sip_field.proofs.mersenne.M61Field.loose_eighth.Goals as goal

-- eight times q has the bits of q above its lowest 61 in a word of their own, and these count as
-- much as the others
words : (q e : ℕ) → e ≡ 8 * q → (e / 2 ^ 64 + e % 2 ^ 64 / 8) % (2 ^ 61 - 1) ≡ q % (2 ^ 61 - 1)
words q e is =
    let whole : e / 2 ^ 64 * 2 ^ 61 + e % 2 ^ 64 / 8 ≡ q = omega (arith, is) in
    same_mod (2 ^ 61 - 1) _ _ (record { left = e / 2 ^ 64; right = 0; is = omega (arith, whole) })

pub returns-clause-residue : goal.returns-clause-residue
returns-clause-residue c y is =
    let x : ℕ = c.args.x in
    words (x * y) (c.from.result * c.from-2.result)
    (ap (λ a. a * c.from-2.result) c.from.ensures ∙ ap (λ b. x * b) (c.from-2.ensures ∙ is) ∙ (let turned : x * (8 * y) ≡ 8 * (x * y) = omega arith in turned))
