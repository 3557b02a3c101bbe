-- The challenges are those of the seed, or it gives none.
use Rattle.std.proofs.Common.{◌≡◌, ◌*◌, ◌∙◌, List, length, map, Some, sym, ap, rules}
use Rattle.std.proofs.lemmas.List.{length-map}
use Rattle.sip_field.specs.declared.mersenne.M61.{M61}
use Rattle.sip_field.specs.Draw.{seed_words}
use Rattle.sip_field.specs.Elements.{m61_number}
use Rattle.sip_verifier.specs.Draws.{challenges_of}
use Rattle.sip_verifier.proofs.SeatsDrawn.{drawn-length, drawn-whole}
use Rattle.sip_runs.proofs.Drawn.{drawn_begins}
use Rattle.sip_runs.proofs.following.Following.begin.Goals as goal

pub returns-in_default-clause-begins : goal.returns-in_default-clause-begins
returns-in_default-clause-begins c =
    let n = length c.args.questions.now in
    let size : length c.args.seed.now ≡ 32 = search rules in
    let count = ap (λ d. challenges_of (d * n) c.args.seed.now) (sym c.get.ensures.same) in
    (c.in_ok-version.ensures.1, count ∙ drawn-whole (c.get.result * n) c.args.seed.now size ∙ sym c.in_default.ensures)

pub seated-requires-clause-count : goal.seated-requires-clause-count
seated-requires-clause-count c =
    let n = length c.args.questions.now in
    ap length c.deref.ensures.0 ∙ sym (length-map c.in-Ok.challenges.items m61_number) ∙ drawn-length (c.get.result * n) (seed_words c.args.seed.now) _ c.in-Ok.ensures
    ∙ ap (λ d. d * n) c.get.ensures.same

pub returns-clause-begins : goal.returns-clause-begins
returns-clause-begins c =
    let n = length c.args.questions.now in
    let size : length c.args.seed.now ≡ 32 = search rules in
    let count = ap (λ d. challenges_of (d * n) c.args.seed.now) (sym c.get.ensures.same) in
    let drawn = count ∙ drawn-whole (c.get.result * n) c.args.seed.now size ∙ sym c.in-Ok.ensures ∙ ap (λ (l : List M61). Some (map m61_number l)) (sym c.deref.ensures.0) in
    drawn_begins c.args.depth c.args.questions.now c.args.seed.now (map m61_number c.deref.result.now) c.seated.result c.in_ok-version.ensures.1 drawn c.seated.ensures.given c.seated.ensures.memory
