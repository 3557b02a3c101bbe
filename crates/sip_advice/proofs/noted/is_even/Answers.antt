-- Bytes are one byte 32 times where they are the first of them 32 times.
use Rattle.std.proofs.Common.{◌≡◌, ◌∙◌, ℕ, List, sym, ap, get_or, replicate}
use Rattle.std.specs.Cmp.Lexicographic.{bytes_decides}
use Rattle.sip_advice.proofs.noted.is_even.Goals as goal

pub returns-in-Some : goal.returns-in-Some
returns-in-Some c = (
  λ t. (c.in-Some.first.now, (bytes_decides _ _).0 (sym c.eq.ensures ∙ t) ∙ c.as_slice.ensures),
  λ even.
      let (byte, e) = even in
      let same : c.in-Some.first.now ≡ byte = c.in-Some.ensures.item.1 ∙ ap (λ (xs : List ℕ). get_or xs 0 c.in-Some.first.now) e in
      c.eq.ensures ∙ (bytes_decides _ _).1 (e ∙ ap (λ (b : ℕ). replicate 32 b) (sym same) ∙ sym c.as_slice.ensures),
)
