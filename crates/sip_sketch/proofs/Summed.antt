-- A sum over the first so many updates.
use Rattle.std.proofs.Common.{◌≡◌, ℕ, zero, suc, ◌+◌, ◌<◌, ◌≤◌, List, [], ◌∷◌, length, nat_abs, get_or, take, sum_by, refl, ap, arith}
use Rattle.std.proofs.lemmas.List.Sums.{sum_by-cons}
use Rattle.sip_vector.specs.declared.update.Update.{Update}

abbrev pub weighed : List Update → ℕ
weighed us = sum_by (λ (u : Update). nat_abs u.delta) us

-- one more of them
pub weighed-more : (us : List Update) (k : ℕ) (d : Update) → k < length us → weighed (take (k + 1) us) ≡ weighed (take k us) + nat_abs (get_or us k d).delta
weighed-more [] k d lt = absurd (omega (arith, lt))
weighed-more (u ∷ us) zero d lt = omega (arith, sum_by-cons (λ (v : Update). nat_abs v.delta) u [])
weighed-more (u ∷ us) (suc k) d lt =
    let Size : Update → ℕ = λ v. nat_abs v.delta in
    let next : suc k + 1 ≡ suc (k + 1) = omega arith in
    let one : weighed (take (suc k + 1) (u ∷ us)) ≡ weighed (u ∷ take (k + 1) us) = ap (λ n. weighed (take n (u ∷ us))) next in
    let two : weighed (take (suc k) (u ∷ us)) ≡ nat_abs u.delta + weighed (take k us) = sum_by-cons Size u (take k us) in
    let three : weighed (u ∷ take (k + 1) us) ≡ nat_abs u.delta + weighed (take (k + 1) us) = sum_by-cons Size u (take (k + 1) us) in
    let same : nat_abs (get_or (u ∷ us) (suc k) d).delta ≡ nat_abs (get_or us k d).delta = refl in
    omega (arith, one, two, three, same, weighed-more us k d (omega (arith, lt)))

-- the first of them weigh no more than all
pub weighed-front : (us : List Update) (k : ℕ) → weighed (take k us) ≤ weighed us
weighed-front us zero = omega arith
weighed-front [] (suc k) = omega arith
weighed-front (u ∷ us) (suc k) =
    let Size : Update → ℕ = λ v. nat_abs v.delta in
    omega (arith, sum_by-cons Size u (take k us), sum_by-cons Size u us, weighed-front us k)
