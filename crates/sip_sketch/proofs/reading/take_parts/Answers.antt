use Rattle.std.proofs.lemmas.Result.{err_from_is_err_and}
use Rattle.sip_sketch.specs.Fields.{one}
use Rattle.sip_sketch.specs.Sketches.{word}
use Rattle.sip_sketch.proofs.Steps.{passes_on, fault_behind}
use Rattle.sip_sketch.proofs.reading.take_parts.Goals as goal

pub returns-in_err-count : goal.returns-in_err-count
returns-in_err-count c = let p = err_from_is_err_and c.from_residual.result c.from_residual.ensures.1 in rw (p.1, p.2) (λ behind. c.in_err-count.ensures.takes
    (λ count. one (word 1 count) (λ first. one (word first count) (λ _. behind))))

pub returns-in_err-first : goal.returns-in_err-first
returns-in_err-first c = let p = err_from_is_err_and c.from_residual-in_err-first.result c.from_residual-in_err-first.ensures.1 in rw (p.1, p.2) (λ behind.
    let one_read = c.in_ok-count.ensures.takes (λ count. one (word 1 count) (λ first. one (word first count) (λ _. behind))) in
    fault_behind one_read (c.in_err-first.ensures.takes (λ first. one (word first c.in_ok-count.count) (λ _. behind))))

pub returns-in_err-last : goal.returns-in_err-last
returns-in_err-last c = let p = err_from_is_err_and c.from_residual-in_err-last.result c.from_residual-in_err-last.ensures.1 in rw (p.1, p.2) (λ behind.
    let one_read = c.in_ok-count.ensures.takes (λ count. one (word 1 count) (λ first. one (word first count) (λ _. behind))) in
    let two_read = passes_on one_read (c.in_ok-first.ensures.takes (λ first. one (word first c.in_ok-count.count) (λ _. behind))) in
    fault_behind two_read (c.in_err-last.ensures.takes (λ _. behind)))

pub returns : goal.returns
returns c = λ behind.
    let one_read = c.in_ok-count.ensures.takes (λ count. one (word 1 count) (λ first. one (word first count) (λ _. behind))) in
    let two_read = passes_on one_read (c.in_ok-first.ensures.takes (λ first. one (word first c.in_ok-count.count) (λ _. behind))) in
    passes_on two_read (c.in_ok-last.ensures.takes (λ _. behind))
