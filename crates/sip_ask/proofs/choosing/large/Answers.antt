-- A share that fits asks for something.
use Rattle.std.proofs.Common.{◌≡◌, ◌≤◌, subst, sym, ◌∙◌, ap, to_z, w64}
use Rattle.std.specs.Prelude.{IsTrue}
use Rattle.sip_vector.specs.declared.query.Query.TheVariants.{Share}
use Rattle.sip_verifier.proofs.WideSeats.{share_least}
use Rattle.sip_questions.specs.declared.question.Question.{Question}
use Rattle.sip_questions.specs.declared.question.Question.TheVariants as questions
use Rattle.sip_ask.specs.Choosing.{fits}
use Rattle.sip_ask.proofs.Premises.{query-fits}
use Rattle.sip_ask.proofs.choosing.large.Goals as goal

pub returns-in-Query-Share-clause-some : goal.returns-in-Query-Share-clause-some
returns-in-Query-Share-clause-some c =
    let w = c.in-Query-Share in
    let own : w.field-0 ≡ Share w.side w.num w.den = rw w.is at w.field-0-is in
    let same : c.args.question.now ≡ questions.Query (Share w.side w.num w.den) = w.is ∙ ap questions.Query own in
    let fit = subst (λ (q : Question). IsTrue (fits c.requires.fits.0 q)) same c.requires.fits.1 in
    let can = (query-fits c.requires.fits.0 (Share w.side w.num w.den) fit).1 in
    subst (λ n. 1 ≤ n) (sym c.share_of.ensures) (share_least w.num w.den (to_z w64 c.weight_of-total.result) can.0 can.1)
