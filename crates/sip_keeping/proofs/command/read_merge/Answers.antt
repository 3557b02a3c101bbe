use Rattle.std.proofs.Common.{◌≢◌, [], ◌∷◌, ap, sym, refl, ◌∙◌, arith}
use Rattle.std.specs.Prelude.{codes}
use Rattle.std.proofs.lemmas.List.Elements.{All-cons, All-nil}
use Rattle.std.proofs.lemmas.Result.{err_from_is_err_and}
use Rattle.sip_words.specs.Words.{word}
use Rattle.sip_keeping.proofs.NamesRead.{all_named, refused_name_at}
use Rattle.sip_keeping.proofs.Refused.{no_such}
use Rattle.sip_keeping.proofs.Verbs.{front_1, refused_merge}
use Rattle.sip_keeping.proofs.command.read_merge.Goals as goal

pub returns-then-not-has_name-clause-refused : goal.returns-then-not-has_name-clause-refused
returns-then-not-has_name-clause-refused c =
    let words = c.args.words.now in
    let is = front_1 words c.requires.some ∙ ap (λ v. v ∷ []) c.requires.first in
    refused_merge words [] (codes "s" ∷ codes "s" ∷ []) 1 1 c.requires.some is
    (record { sketch = _; names = _; order = refl; has_sketch = λ e. cc; named = All-cons (λ name. name ≢ []) (codes "s") [] (λ e. cc) (All-nil (λ name. name ≢ [])); count = refl; some = omega arith; most = omega arith })
    (λ more parts rest s. no_such _ c.has_name.ensures c.if-not-has_name.true (more, λ empty. s.has_sketch (sym (ap (λ ws. word ws 1) s.order) ∙ empty)))
    (λ least. omega arith)

pub returns-in_err-parts-clause-refused : goal.returns-in_err-parts-clause-refused
returns-in_err-parts-clause-refused c =
    let p = err_from_is_err_and c.from_residual.result c.from_residual.ensures.1 in
    let named = c.has_name.ensures.0 c.if-not-has_name.false in
    let stops = c.in_err-parts.ensures.refused in
    rw (p.1, p.2) (refused_name_at c.args.words.now _ c.requires.first named.0 named.1 stops.0 stops.1 stops.2 stops.3)

pub returns-clause-command : goal.returns-clause-command
returns-clause-command c =
    let named = c.has_name.ensures.0 c.if-not-has_name.false in
    let names = c.in_ok-parts.ensures.names in
    all_named c.args.words.now _ c.requires.first named.0 named.1 names.0 names.1 names.2 names.3
