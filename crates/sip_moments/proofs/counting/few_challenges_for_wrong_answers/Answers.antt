use Rattle.std.proofs.Common.{arith}
use Rattle.sip_moments.proofs.FewFooled.{few_fooled_bytes}
use Rattle.sip_moments.proofs.PowerSums.{moment-light}
use Rattle.sip_moments.proofs.counting.few_challenges_for_wrong_answers.Goals as goal

pub returns : goal.returns
returns c = λ version k d weight numbers strategy some long light fits bytes.
    few_fooled_bytes version k d numbers strategy long
    (omega (arith, moment-light k weight numbers some light, fits)) bytes
