-- The tests are those of the row, and the prover begins at the leaves.
use Rattle.std.proofs.Common.{◌≡◌, ℕ, ◌^◌, ◌<◌, nat_abs, true, false, refl, ap, ◌∙◌, arith, rules}
use Rattle.sip_field.specs.Moduli.{m61_modulus}
use Rattle.sip_vector.specs.Streams.{int_sum}
use Rattle.sip_vector.specs.Thresholds.{is_wide}
use Rattle.sip_vector.specs.Vectors.{SideVector}
use Rattle.sip_heavy.specs.Honest.{begun}
use Rattle.sip_helper.specs.Hitters.{is_strict, threshold}
use Rattle.sip_helper.specs.inside.Legal.{HaveDepth}
use Rattle.sip_helper.proofs.HitterReplies.{begun_stands, not_refused, refused_wide, side_deep, strict_is}
use Rattle.sip_helper.proofs.hitters.HittersProver.start.Goals as goal

pub returns-then-is_wide : goal.returns-then-is_wide
returns-then-is_wide c =
    let numbers = c.of_side-vector.result.now.numbers in
    let same = ap (λ (x : SideVector). x.numbers) c.of_side-vector.ensures in
    let strict : is_strict numbers ≡ true = strict_is numbers c.is_strict.result c.is_strict.ensures ∙ c.if-not-is_strict.false in
    let wide : is_wide (threshold c.args.least (int_sum numbers)) (int_sum numbers) ≡ true = search rules in
    refused_wide c.args.vectors.now c.args.side c.args.least numbers same strict wide

pub returns : goal.returns
returns c =
    let v = c.args.vectors.now in
    let side = c.args.side in
    let least = c.args.least in
    let numbers = c.of_side-vector.result.now.numbers in
    let same = ap (λ (x : SideVector). x.numbers) c.of_side-vector.ensures in
    let strict : is_strict numbers ≡ true = strict_is numbers c.is_strict.result c.is_strict.ensures ∙ c.if-not-is_strict.false in
    let narrow : is_wide (threshold least (int_sum numbers)) (int_sum numbers) ≡ false = search rules in
    let small : nat_abs (int_sum numbers) < m61_modulus = omega (arith, ap nat_abs c.total-total.ensures.same, c.total-total.ensures.light, c.weight.ensures.same, c.weight.ensures.most) in
    let begun_is : c.in_ok-prover.prover ≡ begun m61_modulus numbers (threshold least (int_sum numbers)) = search rules in
    let deep : (depth : ℕ) → HaveDepth depth v → c.of_side-vector.result.now.depth ≡ depth = λ depth have. ap (λ (x : SideVector). x.depth) c.of_side-vector.ensures ∙ side_deep depth v side have in (
      not_refused v side least numbers same strict narrow,
      refl,
      λ depth have.
          begun_stands depth v side least numbers c.in_ok-prover.prover same (c.is_strict.ensures.0 c.if-not-is_strict.false) small
          (c.depth.ensures.numbers ∙ ap (λ d. 2 ^ d) (c.depth.ensures.same ∙ deep depth have)) begun_is (c.in_ok-prover.ensures.length ∙ ap (λ d. 2 ^ d) (deep depth have)),
    )
