use Rattle.std.proofs.Common.{◌≡◌, ◌*◌, ◌%◌, ◌^◌, ◌<◌, ◌≤◌, ℤ, pos, ◌≤ℤ◌, length, sym, ap, ◌∙◌, arith}
use Rattle.std.proofs.Math.Nat.{mod-eq_of_lt, pow-le-pow_right}
use Rattle.std.proofs.lemmas.List.Elements.{All-get_or, All-from_get_or}
use Rattle.std.proofs.lemmas.Nat.{pow_pos}
use Rattle.sip_vector.specs.Vectors.{contents}
use Rattle.sip_vector.proofs.vector.Vector.is_strict.Goals as goal

abbrev NotNegative : ℤ → Type 0
NotNegative a = pos 0 ≤ℤ a

pub returns : goal.returns
returns c =
    let numbers = c.args.self.now.numbers in
    let d = c.get.result in
    let most : 2 ^ d ≤ 2 ^ 48 = (let two : 0 < 2 = omega arith in pow-le-pow_right two c.get.ensures.most) in
    let some = pow_pos d in
    let whole : 1 * 2 ^ d % 18446744073709551616 ≡ 1 * 2 ^ d = mod-eq_of_lt (omega (arith, most)) in
    let len : length numbers ≡ 2 ^ d = c.depth.ensures.numbers ∙ ap (λ n. 2 ^ n) (sym c.get.ensures.same) in (
      λ t. All-from_get_or NotNegative numbers (pos 0) (λ k below. c.is_strict_to.ensures.0 t k (omega (arith, whole, below, len))),
      λ all. c.is_strict_to.ensures.1 (λ k below. All-get_or NotNegative numbers k (pos 0) (omega (arith, whole, below, len, some)) all),
    )

pub returns-in-Some : goal.returns-in-Some
returns-in-Some c = c.has_no_negative.ensures (contents c.args.self.now) c.in-Some.ensures.list
