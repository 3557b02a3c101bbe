use Rattle.std.proofs.Common.{◌≡◌, sym, ◌∙◌, arith}
use Rattle.std.proofs.lemmas.Fmt.{decimal_injective}
use Rattle.sip_keeping.proofs.Numbers.{cut_numbers}
use Rattle.sip_keeping.proofs.one_word.read_part.Goals as goal
use Rattle.sip_keeping.proofs.one_word.read_part.Goals.{else-part-ge1-via-then-part-ge1+then-part-parts+else-parts, else-part-ge1-via-then-part-ge1+else-part-parts, else-part-ge1-via-else-part-ge1}

pub returns-in_err-part : goal.returns-in_err-part
returns-in_err-part c =
    rw c.from_residual.ensures (λ part parts is.
    let most = is.1 in
    let few = is.2 in
    rw c.in_err-part.was at (cut_numbers _ c.split_once.result c.split_once.ensures.cases part parts (omega arith) is.3))

pub returns-in_err-part-2 : goal.returns-in_err-part-2
returns-in_err-part-2 c =
    rw c.from_residual-in_err-part-2.ensures (λ part parts is.
    let most = is.1 in
    let few = is.2 in
    let cut = rw c.in_ok-part.was at (cut_numbers _ c.split_once.result c.split_once.ensures.cases part parts (omega arith) is.3) in
    c.in_err-part-2.ensures part (omega arith) cut.0)

pub returns-in_err-parts : goal.returns-in_err-parts
returns-in_err-parts c =
    rw c.from_residual-in_err-parts.ensures (λ part parts is.
    let most = is.1 in
    let few = is.2 in
    let cut = rw c.in_ok-part.was at (cut_numbers _ c.split_once.result c.split_once.ensures.cases part parts (omega arith) is.3) in
    c.in_err-parts.ensures parts (omega arith) cut.1)

pub returns-else-part-ge1 : goal.returns-else-part-ge1
returns-else-part-ge1 c = λ part parts is.
    let least = is.0 in
    let most = is.1 in
    let few = is.2 in
    let cut = rw c.in_ok-part.was at (cut_numbers _ c.split_once.result c.split_once.ensures.cases part parts (omega arith) is.3) in
    let one : c.in_ok-part-2.part ≡ part = decimal_injective c.in_ok-part-2.part part (omega arith) (omega arith) (sym c.in_ok-part-2.ensures ∙ cut.0) in
    let all : c.in_ok-parts.parts ≡ parts = decimal_injective c.in_ok-parts.parts parts (omega arith) (omega arith) (sym c.in_ok-parts.ensures ∙ cut.1) in
    elim c.else-part-ge1.branch [
      | else-part-ge1-via-then-part-ge1+then-part-parts+else-parts w ↦ omega (arith, w.if-parts)
      | else-part-ge1-via-then-part-ge1+else-part-parts w ↦ omega (arith, w.if-part-parts)
      | else-part-ge1-via-else-part-ge1 w ↦ omega (arith, w.if-part-ge1)
    ]
