use Rattle.std.proofs.Common.{subst}
use Rattle.std.proofs.lemmas.Result.{err_from_is_err_and}
use Rattle.sip_words.specs.declared.verb.Verb.TheVariants.{Verify, Gen, Play, Lookup, Moments, Panel}
use Rattle.sip_words.specs.inside.Progress.{StopsInShapes}
use Rattle.sip_words.proofs.Beginning.{refused_verb}
use Rattle.sip_words.proofs.Stopping.{refused_shape, fitted_by, refused_by}
use Rattle.sip_words.proofs.command.read_words.Goals as goal

pub returns-in_default-clause-refused : goal.returns-in_default-clause-refused
returns-in_default-clause-refused c = refused_verb c.args.words.now c.in_default.ensures

pub returns-in_err-check_shapes-clause-refused : goal.returns-in_err-check_shapes-clause-refused
returns-in_err-check_shapes-clause-refused c =
    let p = err_from_is_err_and c.from_residual.result c.from_residual.ensures.1 in
    let number = c.in_err-check_shapes.field-0.0.word in
    rw (p.1, p.2) (refused_shape c.in-Some.verb c.args.words.now number c.in-Some.ensures.1
    (subst (λ ss. StopsInShapes ss c.args.words.now number) c.shapes.ensures c.in_err-check_shapes.ensures.refused))

pub returns-in-Verify-clause-refused : goal.returns-in-Verify-clause-refused
returns-in-Verify-clause-refused c =
    let fitted = fitted_by c.in-Some.verb c.args.words.now c.shapes.result.now c.in-Some.ensures c.shapes.ensures c.in_ok-check_shapes.ensures.fitting in
    refused_by Verify c.args.words.now c.read_verify.result c.read_verify.ensures.refused (rw c.in-Verify.is at fitted)

pub returns-in-Gen-clause-refused : goal.returns-in-Gen-clause-refused
returns-in-Gen-clause-refused c =
    let fitted = fitted_by c.in-Some.verb c.args.words.now c.shapes.result.now c.in-Some.ensures c.shapes.ensures c.in_ok-check_shapes.ensures.fitting in
    refused_by Gen c.args.words.now c.read_gen.result c.read_gen.ensures.refused (rw c.in-Gen.is at fitted)

pub returns-in-Play-clause-refused : goal.returns-in-Play-clause-refused
returns-in-Play-clause-refused c =
    let fitted = fitted_by c.in-Some.verb c.args.words.now c.shapes.result.now c.in-Some.ensures c.shapes.ensures c.in_ok-check_shapes.ensures.fitting in
    refused_by Play c.args.words.now c.read_play.result c.read_play.ensures.refused (rw c.in-Play.is at fitted)

pub returns-in-Lookup-clause-refused : goal.returns-in-Lookup-clause-refused
returns-in-Lookup-clause-refused c =
    let fitted = fitted_by c.in-Some.verb c.args.words.now c.shapes.result.now c.in-Some.ensures c.shapes.ensures c.in_ok-check_shapes.ensures.fitting in
    refused_by Lookup c.args.words.now c.read_looks.result c.read_looks.ensures.refused (rw c.in-Lookup.is at fitted)

pub returns-in-Moments-clause-refused : goal.returns-in-Moments-clause-refused
returns-in-Moments-clause-refused c =
    let fitted = fitted_by c.in-Some.verb c.args.words.now c.shapes.result.now c.in-Some.ensures c.shapes.ensures c.in_ok-check_shapes.ensures.fitting in
    refused_by Moments c.args.words.now c.read_moments.result c.read_moments.ensures.refused (rw c.in-Moments.is at fitted)

pub returns-in-Panel-clause-refused : goal.returns-in-Panel-clause-refused
returns-in-Panel-clause-refused c =
    let fitted = fitted_by c.in-Some.verb c.args.words.now c.shapes.result.now c.in-Some.ensures c.shapes.ensures c.in_ok-check_shapes.ensures.fitting in
    refused_by Panel c.args.words.now c.read_panel.result c.read_panel.ensures.refused (rw c.in-Panel.is at fitted)
