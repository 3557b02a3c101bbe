use Rattle.std.proofs.Common.{true, false, [], ◌∷◌, length, ap, sym, refl, ◌∙◌, arith}
use Rattle.std.specs.Prelude.{codes}
use Rattle.std.proofs.lemmas.List.{take_all}
use Rattle.sip_words.specs.Words.{word}
use Rattle.sip_keeping.proofs.Refused.{no_such, there}
use Rattle.sip_keeping.proofs.Verbs.{front_1, front_2, refused_seats}
use Rattle.sip_keeping.proofs.command.read_seats_of.Goals as goal

pub returns-then-not-has_name-clause-refused : goal.returns-then-not-has_name-clause-refused
returns-then-not-has_name-clause-refused c =
    let words = c.args.words.now in
    let is = front_1 words c.requires.some ∙ ap (λ v. v ∷ []) c.requires.first in
    refused_seats words [] (codes "s" ∷ []) 1 c.requires.some is
    (record { sketch = _; order = refl; has_sketch = λ e. cc })
    (λ more rest s. no_such _ c.has_name.ensures c.if-not-has_name.true (more, λ empty. s.has_sketch (sym (ap (λ ws. word ws 1) s.order) ∙ empty)))
    (λ least. omega arith)

pub returns-then-is_some-clause-refused : goal.returns-then-is_some-clause-refused
returns-then-is_some-clause-refused c =
    let words = c.args.words.now in
    let named = c.has_name.ensures.0 c.if-not-has_name.false in
    let more = there words 2 _ true c.get.ensures (sym c.is_some.ensures ∙ c.if-is_some.true) in
    let is = front_2 words (omega (arith, named.0)) ∙ ap (λ v. v ∷ word words 1 ∷ []) c.requires.first in
    refused_seats words (word words 1 ∷ []) [] 2 (omega (arith, named.0)) is
    (record { sketch = _; order = refl; has_sketch = named.1 })
    (λ _ rest s. let long = ap length s.order in omega arith)
    (λ least. let two = more.0 refl in omega arith)

pub returns-clause-command : goal.returns-clause-command
returns-clause-command c =
    let words = c.args.words.now in
    let named = c.has_name.ensures.0 c.if-not-has_name.false in
    let more = there words 2 _ false c.get.ensures (sym c.is_some.ensures ∙ c.if-is_some.false) in
    let is = front_2 words (omega (arith, named.0)) ∙ ap (λ v. v ∷ word words 1 ∷ []) c.requires.first in
    record { sketch = _; order = sym (take_all 2 words (more.1 refl)) ∙ is; has_sketch = named.1 }
