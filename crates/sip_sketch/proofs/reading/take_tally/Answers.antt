-- The numbers that are told, one behind the other.
use Rattle.std.proofs.lemmas.Result.{err_from_is_err_and}
use Rattle.sip_sketch.proofs.Fronts.{told_bits, told_count, told_weights}
use Rattle.sip_sketch.proofs.HeadFields.{behind_first, behind_second, behind_count, behind_bits, bits_back}
use Rattle.sip_sketch.proofs.Steps.{passes_on, fault_behind}
use Rattle.sip_sketch.proofs.reading.take_tally.Goals as goal

pub returns-in_err-first-clause-takes : goal.returns-in_err-first-clause-takes
returns-in_err-first-clause-takes c =
    let p = err_from_is_err_and c.from_residual.result c.from_residual.ensures.1 in
    rw (p.1, p.2) (λ behind. c.in_err-first.ensures.takes (behind_first behind))

pub returns-in_err-second-clause-takes : goal.returns-in_err-second-clause-takes
returns-in_err-second-clause-takes c =
    let p = err_from_is_err_and c.from_residual-in_err-second.result c.from_residual-in_err-second.ensures.1 in
    rw (p.1, p.2) (λ behind. fault_behind (c.in_ok-first.ensures.takes (behind_first behind))
    (c.in_err-second.ensures.takes (behind_second behind c.in_ok-first.first)))

pub returns-in_err-count-clause-takes : goal.returns-in_err-count-clause-takes
returns-in_err-count-clause-takes c =
    let p = err_from_is_err_and c.from_residual-in_err-count.result c.from_residual-in_err-count.ensures.1 in
    rw (p.1, p.2) (λ behind. fault_behind (told_weights behind c.in_ok-first.ensures.takes c.in_ok-second.ensures.takes)
    (c.in_err-count.ensures.takes (behind_count behind c.in_ok-first.first c.in_ok-second.second)))

pub returns-in_err-bits-clause-takes : goal.returns-in_err-bits-clause-takes
returns-in_err-bits-clause-takes c =
    let p = err_from_is_err_and c.from_residual-in_err-bits.result c.from_residual-in_err-bits.ensures.1 in
    rw (p.1, p.2) (λ behind. fault_behind
    (told_count behind c.in_ok-first.ensures.takes c.in_ok-second.ensures.takes c.in_ok-count.ensures.takes)
    (c.in_err-bits.ensures.takes (behind_bits behind c.in_ok-first.first c.in_ok-second.second)))

pub returns-in_err-fingerprint-clause-takes : goal.returns-in_err-fingerprint-clause-takes
returns-in_err-fingerprint-clause-takes c =
    let p = err_from_is_err_and c.from_residual-in_err-fingerprint.result c.from_residual-in_err-fingerprint.ensures.1 in
    rw (p.1, p.2) (λ behind. fault_behind
    (told_bits behind c.in_ok-first.ensures.takes c.in_ok-second.ensures.takes c.in_ok-count.ensures.takes c.in_ok-bits.ensures.takes)
    (c.in_err-fingerprint.ensures.takes (λ _. behind c.in_ok-first.first c.in_ok-second.second c.in_ok-bits.bits)))

pub returns-clause-takes : goal.returns-clause-takes
returns-clause-takes c = rw (bits_back c.in_ok-bits.bits c.in_ok-bits.ensures.most, c.of.ensures) (λ behind. passes_on
    (told_bits behind c.in_ok-first.ensures.takes c.in_ok-second.ensures.takes c.in_ok-count.ensures.takes c.in_ok-bits.ensures.takes)
    (c.in_ok-fingerprint.ensures.takes (λ _. behind c.in_ok-first.first c.in_ok-second.second c.in_ok-bits.bits)))
