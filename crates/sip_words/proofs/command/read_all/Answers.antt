use Rattle.std.proofs.Common.{arith}
use Rattle.std.proofs.lemmas.Result.{err_from_is_err_and}
use Rattle.sip_words.proofs.Stopping.{refused_asked, says_all, stream_and_last, whole_asked}
use Rattle.sip_words.proofs.command.read_all.Goals as goal

pub returns-in_default-clause-refused : goal.returns-in_default-clause-refused
returns-in_default-clause-refused g c = λ verb takes seated fitted.
    let behind = stream_and_last _ verb _ _ takes fitted in
    absurd (c.in_default.ensures behind.0 behind.2.0 behind.2.1)

pub returns-in_default-form_of-clause-refused : goal.returns-in_default-form_of-clause-refused
returns-in_default-form_of-clause-refused g c = λ verb takes seated fitted.
    let behind = stream_and_last _ verb _ _ takes fitted in
    let some = takes.some in
    absurd (c.in_default-form_of.ensures (omega (arith, behind.0)) behind.1.0 behind.1.1)

pub returns-in_err-asked-clause-refused : goal.returns-in_err-asked-clause-refused
returns-in_err-asked-clause-refused g c =
    let p = err_from_is_err_and c.from_residual.result c.from_residual.ensures.1 in
    rw (p.1, p.2) (λ verb takes seated fitted.
    refused_asked _ verb _ _ _ _ _ takes seated c.requires.some c.requires.room fitted c.in-Some.ensures.1
    c.in_err-asked.ensures.refused)

pub returns-clause-said : goal.returns-clause-said
returns-clause-said g c = λ verb takes seated fitted.
    let asked = c.in_ok-asked.ensures.asked in
    let count = c.in_ok-asked.ensures.count in (
      whole_asked _ verb _ _ _ _ _ takes seated c.requires.room fitted c.in-Some.ensures.1 asked count.0 count.1,
      says_all _ verb _ _ _ _ _ takes c.in-Some-form_of.ensures c.in-Some.ensures.1 asked,
    )
