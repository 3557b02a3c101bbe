-- What each call of a check leaves to be tested.
use Rattle.std.proofs.Common.{◌≡◌, ℕ, suc, ◌+◌, ◌<◌, ◌&&◌, ℤ, List, [], ◌∷◌, length, get_or, drop, refl, sym, ap, ◌∙◌, add-one, arith}
use Rattle.std.specs.Prelude.{◌==◌}
use Rattle.std.proofs.Math.Seq.{drop-cons}
use Rattle.std.proofs.lemmas.Bool.{eq-eqb}
use Rattle.std.proofs.lemmas.List.{drop_all}
use Rattle.sip_field.specs.Residue.{residue}
use Rattle.sip_counts.specs.Rounds.{adds_up, sum_of_ends, value_at}
use Rattle.sip_moments.specs.Checking.{Kept, adds_up_from, begun, with_polynomial, with_revealed}

-- all, before the first call
pub start_step : (p degree last : ℕ) (claim : ℤ) (challenges : List ℕ) (cs : List (List ℕ))
    → adds_up_from p last (begun challenges degree (residue p claim)) cs ≡ adds_up p degree last (residue p claim) cs challenges
start_step p degree last claim challenges cs = refl

-- one polynomial less
pub round_step : (p last : ℕ) (check : Kept) (c : List ℕ) (more : List (List ℕ)) → check.given < length check.challenges → length c ≡ check.degree + 1
    → adds_up_from p last check (c ∷ more) ≡ ((sum_of_ends p c == check.expected) && adds_up_from p last (with_polynomial p check c) more)
unfolding adds_up
round_step p last check c more less long =
    let r = get_or check.challenges check.given 0 in
    ap (λ (l : List ℕ). adds_up p check.degree last check.expected (c ∷ more) l) (drop-cons check.challenges check.given 0 less)
    ∙ ap (λ b. (b && (sum_of_ends p c == check.expected)) && adds_up p check.degree last (value_at p c r) more (drop (suc check.given) check.challenges)) (eq-eqb (length c) (check.degree + 1) long)
    ∙ ap (λ (j : ℕ). (sum_of_ends p c == check.expected) && adds_up p check.degree last (value_at p c r) more (drop j check.challenges)) (sym (add-one check.given))

-- a challenge changes nothing
pub reveal_step : (p last : ℕ) (check : Kept) (more : List (List ℕ)) → adds_up_from p last (with_revealed check) more ≡ adds_up_from p last check more
reveal_step p last check more = refl

-- none
pub finish_step : (p last : ℕ) (check : Kept) → check.given ≡ length check.challenges → adds_up_from p last check [] ≡ (check.expected == last)
unfolding adds_up
finish_step p last check whole =
    ap (λ (l : List ℕ). adds_up p check.degree last check.expected [] l) (drop_all check.given check.challenges (omega (arith, whole)))
