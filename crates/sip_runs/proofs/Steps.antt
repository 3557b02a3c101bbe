-- What was said of a stream, one step after another.
use Rattle.std.proofs.Common.{◌≡◌, ℕ, ◌%◌, ◌≤◌, true, List, [], ◌++◌, length, refl, sym, ap, ◌∙◌, arith, length-append}
use Rattle.sip_ports.specs.declared.port.TalkEvent.{TalkEvent}
use Rattle.sip_ports.specs.Ports.{outs}
use Rattle.sip_vector.specs.declared.update.Update.{Update}
use Rattle.sip_vector.specs.Limits.{most_depth}
use Rattle.sip_wire.specs.declared.message.Message.TheVariants as messages
use Rattle.sip_wire.specs.declared.version.Version.{Version}
use Rattle.sip_wire.specs.Spelling.{spelling}
use Rattle.sip_wire.specs.declared.version.Version.TheVariants.{One, Two}
use Rattle.sip_wire.specs.Versions.{deepest, number_of}
use Rattle.sip_wire.specs.Table.{most_rows}
use Rattle.sip_replies.proofs.Saying.{sent-one}
use Rattle.sip_verifier.specs.Feeding.{due_at_end}
use Rattle.sip_verifier.specs.Talks.{opening_sent}
use Rattle.sip_verifier.proofs.StreamSent.{frame, opening_sent-frame, stream_sent-rest}
use Rattle.sip_runs.specs.declared.step.Step.{Step}
use Rattle.sip_runs.specs.declared.step.Step.TheVariants as steps
use Rattle.sip_runs.specs.Runs.{Said, due_at, is_due, step_after}

module _ (version : Version) (depth : ℕ) (sent waiting : List Update) (events : List TalkEvent) where
  -- what was due was sent, and nothing waits
  pub said_more : (step : Step) → is_due step ≡ true → Said version depth sent waiting events step
      → Said version depth (sent ++ waiting) [] (events ++ outs (due_at step version depth waiting)) (step_after step)
  said_more steps.Opening due (none, first, empty) =
      let all : sent ++ waiting ≡ [] = ap (λ l. l ++ waiting) first ∙ empty in
      let opening = spelling version (messages.Open (number_of version) depth) in (
        ap (λ l. l ++ outs opening) none ∙ sym (sent-one version (messages.Open (number_of version) depth)) ∙ ap (opening_sent version depth) (sym all),
        ap (λ l. length l % 512) all,
        omega arith,
      )
  said_more steps.Taking due said = absurd cc
  said_more steps.Full due (before, whole, full) = (
    ap (λ l. l ++ outs (spelling version (frame waiting))) before ∙ sym (opening_sent-frame version depth sent waiting whole (omega (arith, full)) (omega (arith, full))),
    omega (arith, whole, full, length-append sent waiting),
    omega arith,
  )
  said_more steps.Ending due (before, whole, few) = (
    ap (λ l. l ++ outs (due_at_end version waiting)) before ∙ sym (stream_sent-rest version depth sent waiting whole),
    refl,
  )
  said_more steps.Ended due said = absurd cc

  -- what waits is a frame at most
  pub said_few : (step : Step) → Said version depth sent waiting events step → length waiting ≤ most_rows
  said_few steps.Opening (none, first, empty) = omega (arith, ap length empty)
  said_few steps.Taking (before, whole, few) = omega (arith, few)
  said_few steps.Full (before, whole, full) = omega (arith, full)
  said_few steps.Ending (before, whole, few) = omega (arith, few)
  said_few steps.Ended (all, empty) = omega (arith, ap length empty)

-- a depth that a version has is one of a stream's
pub deep_enough : (version : Version) (depth : ℕ) → depth ≤ deepest version → depth ≤ most_depth
deep_enough One depth le = omega (arith, le)
deep_enough Two depth le = omega (arith, le)
