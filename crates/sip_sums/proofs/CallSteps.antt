-- What each call of a check leaves to be tested.
use Rattle.std.proofs.Common.{◌≡◌, ℕ, ◌+◌, ◌<◌, ◌&&◌, ℤ, List, [], ◌∷◌, length, get_or, drop, refl, sym, ap, ◌∙◌, add-one, arith}
use Rattle.std.specs.Prelude.{◌==◌}
use Rattle.std.proofs.Math.Seq.{drop-cons}
use Rattle.std.proofs.lemmas.List.{drop_all}
use Rattle.sip_field.specs.Residue.{residue}
use Rattle.sip_sums.specs.AcceptsSum.{Coefficients, adds_up, sum_of_ends, value_at}
use Rattle.sip_sums.specs.Checking.{Kept, adds_up_from, begun, with_polynomial, with_revealed}

-- all, before the first call
pub start_step : (p product : ℕ) (claim : ℤ) (challenges : List ℕ) (cs : List Coefficients)
    → adds_up_from p product (begun challenges (residue p claim)) cs
    ≡ adds_up p product (residue p claim) cs challenges
start_step p product claim challenges cs = refl

-- one polynomial less
pub round_step : (p product : ℕ) (check : Kept) (c : Coefficients) (more : List Coefficients)
    → check.revealed < length check.challenges
    → adds_up_from p product check (c ∷ more)
    ≡ ((sum_of_ends p c == check.expected) && adds_up_from p product
    (with_revealed p (with_polynomial check c) (get_or check.challenges check.revealed 0)) more)
unfolding adds_up
round_step p product check c more less =
    let r = get_or check.challenges check.revealed 0 in
    ap (λ (l : List ℕ). adds_up p product check.expected (c ∷ more) l)
    (drop-cons check.challenges check.revealed 0 less)
    ∙ ap (λ (k : ℕ). (sum_of_ends p c == check.expected)
    && adds_up p product (value_at p c r) more (drop k check.challenges))
    (sym (add-one check.revealed))

-- none
pub finish_step : (p product : ℕ) (check : Kept)
    → check.revealed + 1 ≡ length check.challenges
    → adds_up_from p product
    (with_revealed p check (get_or check.challenges check.revealed 0)) []
    ≡ (value_at p check.last (get_or check.challenges check.revealed 0) == product)
unfolding adds_up
finish_step p product check last =
    ap (λ (l : List ℕ). adds_up p product
    (value_at p check.last (get_or check.challenges check.revealed 0)) [] l)
    (drop_all (check.revealed + 1) check.challenges (omega (arith, last)))
