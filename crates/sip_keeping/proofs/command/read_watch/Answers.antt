use Rattle.std.proofs.Common.{true, false, [], ◌∷◌, None, length, ap, sym, refl, ◌∙◌, subst, arith}
use Rattle.std.specs.Prelude.{codes}
use Rattle.std.proofs.lemmas.List.{take_all}
use Rattle.sip_stream.specs.declared.form.Form.TheVariants.{Binary}
use Rattle.sip_words.specs.Words.{word}
use Rattle.sip_words.specs.Shapes.{IsStoredWord}
use Rattle.sip_keeping.specs.Words.{IsAt, IsEvery}
use Rattle.sip_keeping.proofs.Refused.{no_such, there}
use Rattle.sip_keeping.proofs.Verbs.{front_1, front_2, front_3, front_4, front_5, refused_watch}
use Rattle.sip_keeping.proofs.command.read_watch.Goals as goal

-- a file of records
binary : IsStoredWord Binary (codes "s")
binary = (λ e. cc, refl, refl, refl)

pub returns-then-not-has_name-clause-refused : goal.returns-then-not-has_name-clause-refused
returns-then-not-has_name-clause-refused c =
    let words = c.args.words.now in
    let is = front_1 words c.requires.some ∙ ap (λ v. v ∷ []) c.requires.first in
    refused_watch words [] (codes "s" ∷ codes "s" ∷ codes "+" ∷ codes "-" ∷ []) 1 Binary None None c.requires.some is
    (record { sketch = _; stream = _; from = _; step = _; order = refl; has_sketch = λ e. cc; stored = binary; begins = refl; stores = refl })
    (λ more form at every rest s. no_such _ c.has_name.ensures c.if-not-has_name.true (more, λ empty. s.has_sketch (sym (ap (λ ws. word ws 1) s.order) ∙ empty)))
    (λ least. omega arith)

pub returns-in_default-clause-refused : goal.returns-in_default-clause-refused
returns-in_default-clause-refused c =
    let words = c.args.words.now in
    let named = c.has_name.ensures.0 c.if-not-has_name.false in
    let is = front_2 words (omega (arith, named.0)) ∙ ap (λ v. v ∷ word words 1 ∷ []) c.requires.first in
    refused_watch words (word words 1 ∷ []) (codes "s" ∷ codes "+" ∷ codes "-" ∷ []) 2 Binary None None (omega (arith, named.0)) is
    (record { sketch = _; stream = _; from = _; step = _; order = refl; has_sketch = named.1; stored = binary; begins = refl; stores = refl })
    (λ more form at every rest s. c.in_default.ensures more form (subst (IsStoredWord form) (sym (ap (λ ws. word ws 2) s.order)) s.stored))
    (λ least. omega arith)

pub returns-in_default-count_at-clause-refused : goal.returns-in_default-count_at-clause-refused
returns-in_default-count_at-clause-refused c =
    let words = c.args.words.now in
    let named = c.has_name.ensures.0 c.if-not-has_name.false in
    let stream = c.in-Some.ensures in
    let is = front_3 words (omega (arith, stream.0)) ∙ ap (λ v. v ∷ word words 1 ∷ word words 2 ∷ []) c.requires.first in
    refused_watch words (word words 1 ∷ word words 2 ∷ []) (codes "+" ∷ codes "-" ∷ []) 3 c.in-Some.form None None (omega (arith, stream.0)) is
    (record { sketch = _; stream = _; from = _; step = _; order = refl; has_sketch = named.1; stored = stream.1; begins = refl; stores = refl })
    (λ more form at every rest s. c.in_default-count_at.ensures more at (subst (IsAt at) (sym (ap (λ ws. word ws 3) s.order)) s.begins))
    (λ least. omega arith)

pub returns-in_default-count_at-2-clause-refused : goal.returns-in_default-count_at-2-clause-refused
returns-in_default-count_at-2-clause-refused c =
    let words = c.args.words.now in
    let named = c.has_name.ensures.0 c.if-not-has_name.false in
    let stream = c.in-Some.ensures in
    let from = c.in-Some-count_at.ensures in
    let is = front_4 words (omega (arith, from.0)) ∙ ap (λ v. v ∷ word words 1 ∷ word words 2 ∷ word words 3 ∷ []) c.requires.first in
    refused_watch words (word words 1 ∷ word words 2 ∷ word words 3 ∷ []) (codes "-" ∷ []) 4 c.in-Some.form c.in-Some-count_at.at None (omega (arith, from.0)) is
    (record { sketch = _; stream = _; from = _; step = _; order = refl; has_sketch = named.1; stored = stream.1; begins = from.1; stores = refl })
    (λ more form at every rest s. c.in_default-count_at-2.ensures more every (subst (IsEvery every) (sym (ap (λ ws. word ws 4) s.order)) s.stores))
    (λ least. omega arith)

pub returns-then-is_some-clause-refused : goal.returns-then-is_some-clause-refused
returns-then-is_some-clause-refused c =
    let words = c.args.words.now in
    let named = c.has_name.ensures.0 c.if-not-has_name.false in
    let step = c.in-Some-count_at-2.ensures in
    let more = there words 5 _ true c.get.ensures (sym c.is_some.ensures ∙ c.if-is_some.true) in
    let is = front_5 words (omega (arith, step.0)) ∙ ap (λ v. v ∷ word words 1 ∷ word words 2 ∷ word words 3 ∷ word words 4 ∷ []) c.requires.first in
    refused_watch words (word words 1 ∷ word words 2 ∷ word words 3 ∷ word words 4 ∷ []) [] 5 c.in-Some.form c.in-Some-count_at.at c.in-Some-count_at-2.every (omega (arith, step.0)) is
    (record { sketch = _; stream = _; from = _; step = _; order = refl; has_sketch = named.1; stored = c.in-Some.ensures.1; begins = c.in-Some-count_at.ensures.1; stores = step.1 })
    (λ _ form at every rest s. let long = ap length s.order in omega arith)
    (λ least. let five = more.0 refl in omega arith)

pub returns-clause-command : goal.returns-clause-command
returns-clause-command c =
    let words = c.args.words.now in
    let named = c.has_name.ensures.0 c.if-not-has_name.false in
    let step = c.in-Some-count_at-2.ensures in
    let more = there words 5 _ false c.get.ensures (sym c.is_some.ensures ∙ c.if-is_some.false) in
    let all = take_all 5 words (more.1 refl) in
    let is = front_5 words (omega (arith, step.0)) ∙ ap (λ v. v ∷ word words 1 ∷ word words 2 ∷ word words 3 ∷ word words 4 ∷ []) c.requires.first in
    record { sketch = _; stream = _; from = _; step = _; order = sym all ∙ is; has_sketch = named.1; stored = c.in-Some.ensures.1; begins = c.in-Some-count_at.ensures.1; stores = step.1 }
