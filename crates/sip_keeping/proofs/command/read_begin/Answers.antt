use Rattle.std.proofs.Common.{[], ◌∷◌, ◌++◌, ap, sym, refl, ◌∙◌, subst, arith}
use Rattle.std.specs.Prelude.{codes, decimal}
use Rattle.std.proofs.lemmas.Result.{err_from_is_err_and}
use Rattle.sip_words.specs.Words.{word}
use Rattle.sip_words.specs.Shapes.{IsDepth}
use Rattle.sip_keeping.specs.Words.{IsPart, seats_word}
use Rattle.sip_sketch.specs.declared.kind.SeatKind.TheVariants.{Entries}
use Rattle.sip_keeping.proofs.Refused.{no_such}
use Rattle.sip_keeping.proofs.Verbs.{front_1, front_2, front_3, front_4, one_seat, only_part, refused_begin}
use Rattle.sip_keeping.proofs.SeatsRead.{all_begun, refused_seats_at}
use Rattle.sip_keeping.proofs.command.read_begin.Goals as goal

pub returns-then-not-has_name-clause-refused : goal.returns-then-not-has_name-clause-refused
returns-then-not-has_name-clause-refused c =
    let words = c.args.words.now in
    let is = front_1 words c.requires.some ∙ ap (λ v. v ∷ []) c.requires.first in
    refused_begin words [] (codes "s" ∷ codes "s" ∷ decimal 1 ∷ (decimal 1 ++ 47 ∷ decimal 1) ∷ seats_word Entries 1 ∷ []) 1 1 1 1 (Entries ∷ []) c.requires.some is
    (record { sketch = _; seed = _; levels = _; share = _; seats = _; order = refl; has_sketch = λ e. cc; has_seed = λ e. cc; deep = (omega arith, omega arith, refl); within = only_part; asked = one_seat; some = omega arith; most = omega arith })
    (λ more d part parts kinds rest s. no_such _ c.has_name.ensures c.if-not-has_name.true (more, λ empty. s.has_sketch (sym (ap (λ ws. word ws 1) s.order) ∙ empty)))
    (λ least. omega arith)

pub returns-then-not-has_name-2-clause-refused : goal.returns-then-not-has_name-2-clause-refused
returns-then-not-has_name-2-clause-refused c =
    let words = c.args.words.now in
    let named = c.has_name.ensures.0 c.if-not-has_name.false in
    let is = front_2 words (omega (arith, named.0)) ∙ ap (λ v. v ∷ word words 1 ∷ []) c.requires.first in
    refused_begin words (word words 1 ∷ []) (codes "s" ∷ decimal 1 ∷ (decimal 1 ++ 47 ∷ decimal 1) ∷ seats_word Entries 1 ∷ []) 2 1 1 1 (Entries ∷ []) (omega (arith, named.0)) is
    (record { sketch = _; seed = _; levels = _; share = _; seats = _; order = refl; has_sketch = named.1; has_seed = λ e. cc; deep = (omega arith, omega arith, refl); within = only_part; asked = one_seat; some = omega arith; most = omega arith })
    (λ more d part parts kinds rest s. no_such _ c.has_name-2.ensures c.if-not-has_name-2.true (more, λ empty. s.has_seed (sym (ap (λ ws. word ws 2) s.order) ∙ empty)))
    (λ least. omega arith)

pub returns-in_default-clause-refused : goal.returns-in_default-clause-refused
returns-in_default-clause-refused c =
    let words = c.args.words.now in
    let named = c.has_name.ensures.0 c.if-not-has_name.false in
    let seeded = c.has_name-2.ensures.0 c.if-not-has_name-2.false in
    let is = front_3 words (omega (arith, seeded.0)) ∙ ap (λ v. v ∷ word words 1 ∷ word words 2 ∷ []) c.requires.first in
    refused_begin words (word words 1 ∷ word words 2 ∷ []) (decimal 1 ∷ (decimal 1 ++ 47 ∷ decimal 1) ∷ seats_word Entries 1 ∷ []) 3 1 1 1 (Entries ∷ []) (omega (arith, seeded.0)) is
    (record { sketch = _; seed = _; levels = _; share = _; seats = _; order = refl; has_sketch = named.1; has_seed = seeded.1; deep = (omega arith, omega arith, refl); within = only_part; asked = one_seat; some = omega arith; most = omega arith })
    (λ more d part parts kinds rest s. c.in_default.ensures more d (subst (IsDepth d) (sym (ap (λ ws. word ws 3) s.order)) s.deep))
    (λ least. omega arith)

pub returns-in_default-part_at-clause-refused : goal.returns-in_default-part_at-clause-refused
returns-in_default-part_at-clause-refused c =
    let words = c.args.words.now in
    let named = c.has_name.ensures.0 c.if-not-has_name.false in
    let seeded = c.has_name-2.ensures.0 c.if-not-has_name-2.false in
    let deep = c.in-Some.ensures in
    let is = front_4 words (omega (arith, deep.0)) ∙ ap (λ v. v ∷ word words 1 ∷ word words 2 ∷ word words 3 ∷ []) c.requires.first in
    refused_begin words (word words 1 ∷ word words 2 ∷ word words 3 ∷ []) ((decimal 1 ++ 47 ∷ decimal 1) ∷ seats_word Entries 1 ∷ []) 4 c.in-Some.depth 1 1 (Entries ∷ []) (omega (arith, deep.0)) is
    (record { sketch = _; seed = _; levels = _; share = _; seats = _; order = refl; has_sketch = named.1; has_seed = seeded.1; deep = deep.1; within = only_part; asked = one_seat; some = omega arith; most = omega arith })
    (λ more d part parts kinds rest s. c.in_default-part_at.ensures more part parts (subst (IsPart part parts) (sym (ap (λ ws. word ws 4) s.order)) s.within))
    (λ least. omega arith)

pub returns-in_err-kinds-clause-refused : goal.returns-in_err-kinds-clause-refused
returns-in_err-kinds-clause-refused c =
    let p = err_from_is_err_and c.from_residual.result c.from_residual.ensures.1 in
    let named = c.has_name.ensures.0 c.if-not-has_name.false in
    let seeded = c.has_name-2.ensures.0 c.if-not-has_name-2.false in
    rw (p.1, p.2) (refused_seats_at c.args.words.now _ _ _ _
    (record { first = c.requires.first; has_sketch = named.1; has_seed = seeded.1; deep = c.in-Some.ensures.1; long = c.in-Some-part_at.ensures.0; within = c.in-Some-part_at.ensures.1 })
    c.in_err-kinds.ensures.refused)

pub returns-clause-command : goal.returns-clause-command
returns-clause-command c =
    let named = c.has_name.ensures.0 c.if-not-has_name.false in
    let seeded = c.has_name-2.ensures.0 c.if-not-has_name-2.false in
    let seats = c.in_ok-kinds.ensures.seats in
    all_begun c.args.words.now _ _ _ _
    (record { first = c.requires.first; has_sketch = named.1; has_seed = seeded.1; deep = c.in-Some.ensures.1; long = c.in-Some-part_at.ensures.0; within = c.in-Some-part_at.ensures.1 })
    seats.0 seats.1 seats.2
