-- Whether the questions of what a handle has can be asked, behind a stream.
use Rattle.std.specs.Prelude.{◌≡◌, Ok, Err, if◌then◌else◌}
use Rattle.sip_runs.specs.Runs.{is_ended}
use Rattle.sip_c.specs.Statuses.{Answer}
use Rattle.sip_c.specs.declared.kept.Kept.{Kept}
use Rattle.sip_c.specs.declared.kept.Kept.TheVariants as kept
use Rattle.sip_c.specs.declared.refusal.Refusal.TheVariants as refusals

abbrev pub IsSent : Kept → Answer → Type 0
IsSent (kept.Run f) answer =
    answer ≡ (if is_ended f.step then Ok tt else Err refusals.NotNow)
IsSent _ answer = answer ≡ Err refusals.OtherHandle
