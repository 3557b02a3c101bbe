-- The challenges are those of the seed, or it gives none.
use Rattle.std.proofs.Common.{◌≡◌, ◌*◌, ◌∙◌, length, sym, ap, rules}
use Rattle.sip_field.specs.Draw.{seed_words}
use Rattle.sip_verifier.specs.Draws.{challenges_of}
use Rattle.sip_verifier.proofs.SeatsDrawn.{drawn-length, drawn-whole}
use Rattle.sip_verifier.proofs.seats.challenges_for.Goals as goal

pub returns-clause-drawn : goal.returns-clause-drawn
returns-clause-drawn c =
    let size : length c.args.seed.now ≡ 32 = search rules in
    let count = ap (λ d. challenges_of (d * length c.args.queries.now) c.args.seed.now) (sym c.get.ensures.same) in
    c.draw_challenges.ensures ∙ sym (count ∙ drawn-whole (c.get.result * length c.args.queries.now) c.args.seed.now size)

pub returns-clause-count : goal.returns-clause-count
returns-clause-count c = λ challenges is.
    drawn-length (c.get.result * length c.args.queries.now) (seed_words c.args.seed.now) challenges (sym is ∙ c.draw_challenges.ensures)
    ∙ ap (λ d. d * length c.args.queries.now) c.get.ensures.same
