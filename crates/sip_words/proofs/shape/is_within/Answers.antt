use Rattle.std.proofs.Common.{◌≡◌, sym, ◌∙◌, arith}
use Rattle.std.proofs.lemmas.Fmt.{decimal_injective}
use Rattle.sip_words.proofs.shape.is_within.Goals as goal

pub returns-in-None : goal.returns-in-None
returns-in-None c = (λ never. absurd cc, λ (n, least, most, small, is). absurd (c.in-None.ensures n small is))

pub returns-in-Some : goal.returns-in-Some
returns-in-Some c = (
  λ found. let bounds = c.lies_within.ensures.0 found in (c.in-Some.number, bounds.0, bounds.1, omega arith, c.in-Some.ensures),
  λ (n, least, most, small, is).
      let one : c.in-Some.number ≡ n = decimal_injective c.in-Some.number n (omega arith) small (sym c.in-Some.ensures ∙ is) in
      c.lies_within.ensures.1 (rw one (least, most)),
)
