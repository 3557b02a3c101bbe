-- What was passed is gathered as it lies, and is no longer held.
use Rattle.std.proofs.Common.{◌≤◌, ◌++◌, take, sym, subst, ap, ◌∙◌, arith}
use Rattle.std.proofs.lemmas.List.{length-take, take-take}
use Rattle.std.specs.Io.KnownBytes.{Consumes}
use Rattle.sip_stream.proofs.copying.gather_as_held.Goals as goal

pub returns-clause-grown : goal.returns-clause-grown
returns-clause-grown g c =
    let held = c.held-held.result.now in
    let near = take c.min.result held in
    let used = c.pass-used.result in
    let before = g.A.Source.left c.args.source.now in
    let after = g.A.Source.left c.skip.new.self in
    let passed = c.pass-used.ensures.passed in
    let within : used ≤ c.min.result = omega (arith, c.pass-used.ensures.within, length-take c.min.result held) in
    let took = subst (λ l. Consumes before after (take used l)) (sym c.held-held.ensures.bytes) c.skip.ensures.bytes in (
      passed.0,
      take used near,
      c.put.ensures.items ∙ ap (λ l. c.args.gathered.now.items ++ l) (sym passed.1),
      passed.2,
      subst (Consumes before after) (sym (take-take used c.min.result held within)) took,
    )
