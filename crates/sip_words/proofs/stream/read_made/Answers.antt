use Rattle.std.proofs.Common.{arith}
use Rattle.sip_words.proofs.StreamWords.{allowed, cut_numbers, joined_numbers}
use Rattle.sip_words.proofs.stream.read_made.Goals as goal

pub returns-in_err-number : goal.returns-in_err-number
returns-in_err-number c =
    rw c.from_residual.ensures (λ n k low few same.
    rw c.in_err-number.was at (cut_numbers _ c.split_once.result c.split_once.ensures.cases n k low same))

pub returns-in_err-number-2 : goal.returns-in_err-number-2
returns-in_err-number-2 c =
    rw c.from_residual-in_err-number-2.ensures (λ n k low few same.
    let parts = rw c.in_ok-number.was at (cut_numbers _ c.split_once.result c.split_once.ensures.cases n k low same) in
    c.in_err-number-2.ensures n low parts.0)

pub returns-in_err-count : goal.returns-in_err-count
returns-in_err-count c =
    rw c.from_residual-in_err-count.ensures (λ n k low few same.
    let parts = rw c.in_ok-number.was at (cut_numbers _ c.split_once.result c.split_once.ensures.cases n k low same) in
    c.in_err-count.ensures k (omega arith) parts.1)

pub returns : goal.returns
returns c =
    let whole = joined_numbers _ (c.in_ok-number.number, c.in_ok-number.count) (rw c.in_ok-number.was at c.split_once.ensures.cases) _ _ c.in_ok-number-2.ensures c.in_ok-count.ensures in
    rw c.then_some.ensures (allowed _ _ _ c.allows.result (omega arith) (omega arith) c.allows.ensures whole)
