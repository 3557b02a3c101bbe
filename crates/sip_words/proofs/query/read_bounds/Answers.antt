use Rattle.sip_words.proofs.StreamWords.{cut_numbers}
use Rattle.sip_words.proofs.query.read_bounds.Goals as goal

pub returns-in_err-lo : goal.returns-in_err-lo
returns-in_err-lo c =
    rw c.from_residual.ensures (λ lo hi low high same.
    rw c.in_err-lo.was at (cut_numbers _ c.split_once.result c.split_once.ensures.cases lo hi low same))

pub returns-in_err-read_decimal : goal.returns-in_err-read_decimal
returns-in_err-read_decimal c =
    rw c.from_residual-in_err-read_decimal.ensures (λ lo hi low high same.
    let parts = rw c.in_ok-lo.was at (cut_numbers _ c.split_once.result c.split_once.ensures.cases lo hi low same) in
    c.in_err-read_decimal.ensures lo low parts.0)

pub returns-in_err-read_decimal-2 : goal.returns-in_err-read_decimal-2
returns-in_err-read_decimal-2 c =
    rw c.from_residual-in_err-read_decimal-2.ensures (λ lo hi low high same.
    let parts = rw c.in_ok-lo.was at (cut_numbers _ c.split_once.result c.split_once.ensures.cases lo hi low same) in
    c.in_err-read_decimal-2.ensures hi high parts.1)
