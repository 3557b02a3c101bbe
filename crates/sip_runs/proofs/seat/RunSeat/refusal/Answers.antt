-- A question that can be asked fits.
use Rattle.std.proofs.Common.{subst}
use Rattle.sip_questions.specs.declared.question.Question.{Question}
use Rattle.sip_questions.specs.Promises.{CanPose}
use Rattle.sip_runs.proofs.seat.RunSeat.refusal.Goals as goal

pub is_too_wide-requires : goal.is_too_wide-requires
is_too_wide-requires c =
    let (version, depth, stream, seated) = c.requires in
    let own = subst (λ (q : Question). CanPose version depth q) c.in-Query.is seated.can in
    record { fits = (depth, own.0.1) }
