-- The query that the word spells is chosen if its kind is built and it fits.
use Rattle.std.proofs.Common.{IsTrue, arith}
use Rattle.sip_vector.specs.Built.{is_built}
use Rattle.sip_words.proofs.QueryWords.{chosen}
use Rattle.sip_words.proofs.query.read_query.Goals as goal
use Rattle.sip_words.proofs.query.read_query.Goals.{then-is_built, else-is_built}

pub returns : goal.returns
returns c =
    let spelled = c.in_ok-query.ensures in
    elim c.if-is_built.branch [
      | then-is_built w ↦
          let built : IsTrue (is_built c.in_ok-query.query) = cc in
          rw (c.then_some.ensures, w.then_some-is) (chosen _ _ _ w.fits.result (omega arith) (λ fits. (built, w.fits.ensures.0 fits), λ both. w.fits.ensures.1 both.1) spelled.0 spelled.1)
      | else-is_built w ↦
          rw (c.then_some.ensures, w.then_some-is) (chosen _ _ _ c.is_built.result (omega arith) (λ good. absurd cc, λ both. let built = both.0 in cc) spelled.0 spelled.1)
    ]
