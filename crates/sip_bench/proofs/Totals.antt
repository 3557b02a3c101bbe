-- How far a block of small updates moves a total.
use Rattle.std.proofs.Common.{ℤ, ◌+ℤ◌, List, [], ◌∷◌, length, take, ◌≡◌, ◌≤◌, ◌+◌, ◌*◌, nat_abs, ℕ, arith}
use Rattle.std.proofs.lemmas.Int.{ints}
use Rattle.std.proofs.lemmas.List.{length-take-le}
use Rattle.std.proofs.lemmas.List.Elements.{All-head, All-tail, All-take}
use Rattle.std.specs.Prelude.{All}
use Rattle.sip_tree.specs.Blocks.{total_after}
use Rattle.sip_vector.specs.declared.update.Update.{Update}

pub moved : (t : ℤ) (us : List Update) → All (λ u. nat_abs u.delta ≤ 8) us → nat_abs (total_after t us) ≤ nat_abs t + 8 * length us
moved t [] h = omega arith
moved t (u ∷ us) h =
    let small : Update → Type 0 = λ v. nat_abs v.delta ≤ 8 in
    let one : nat_abs u.delta ≤ 8 = All-head small u us h in
    let sum : nat_abs (t +ℤ u.delta) ≤ nat_abs t + nat_abs u.delta = omega (arith, ints) in
    let rest : nat_abs (total_after (t +ℤ u.delta) us) ≤ nat_abs (t +ℤ u.delta) + 8 * length us = moved (t +ℤ u.delta) us (All-tail small u us h) in
    omega (arith, one, sum, rest)

-- on the way through it, too
pub moved_by_part : (t : ℤ) (us : List Update) (k : ℕ) → k ≤ length us → All (λ u. nat_abs u.delta ≤ 8) us → nat_abs (total_after t (take k us)) ≤ nat_abs t + 8 * length us
moved_by_part t us k le h =
    let small : Update → Type 0 = λ v. nat_abs v.delta ≤ 8 in
    let part : nat_abs (total_after t (take k us)) ≤ nat_abs t + 8 * length (take k us) = moved t (take k us) (All-take small k us h) in
    omega (arith, part, length-take-le k us le, le)
