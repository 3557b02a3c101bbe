-- The sum of a legal stream's vector is small.
use Rattle.std.proofs.Common.{ℕ, ◌<◌, ◌≤◌, List, [], ◌∷◌, map, nat_abs, sum_by, ap, arith}
use Rattle.std.proofs.lemmas.List.Sums.{sum_by-cons}
use Rattle.sip_field.specs.Moduli.{m61_modulus}
use Rattle.sip_vector.specs.declared.update.Side.{Side}
use Rattle.sip_vector.specs.declared.update.Side.TheVariants.{First, Second}
use Rattle.sip_vector.specs.declared.update.Update.{Update}
use Rattle.sip_vector.specs.Streams.{int_sum, of_side, weight, most_weight, vector, IsLegal}
use Rattle.sip_vector.proofs.Sides.{total-is}
use Rattle.sip_vector.proofs.Sums.{nat_abs-add-le}

pub sum_light : (us : List Update) → nat_abs (int_sum (map (λ (u : Update). u.delta) us)) ≤ sum_by (λ (u : Update). nat_abs u.delta) us
sum_light [] = omega arith
sum_light (u ∷ us) =
    omega (arith, sum_by-cons (λ (w : Update). nat_abs w.delta) u us, nat_abs-add-le u.delta (int_sum (map (λ (w : Update). w.delta) us)), sum_light us)

pub side_light : (depth : ℕ) (stream : List Update) (side : Side) → IsLegal depth stream → weight stream side ≤ most_weight
side_light depth stream First legal = legal.first
side_light depth stream Second legal = legal.second

pub legal_sum : (depth : ℕ) (stream : List Update) (side : Side) → IsLegal depth stream → nat_abs (int_sum (vector depth stream side)) < m61_modulus
legal_sum depth stream side legal =
    let light = sum_light (of_side stream side) in
    let same = ap nat_abs (total-is depth stream side legal.items) in
    let bound : most_weight < m61_modulus = omega arith in
    omega (arith, light, same, side_light depth stream side legal, bound)
