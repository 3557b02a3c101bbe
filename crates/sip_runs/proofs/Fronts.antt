-- What was said of a stream is a front of what a run says of it, and all of it at the end.
use Rattle.std.proofs.Common.{◌≡◌, ◌++◌, ℕ, true, List, [], sym, ap, ◌∙◌, subst, append-nil}
use Rattle.sip_ports.specs.declared.port.TalkEvent.{TalkEvent}
use Rattle.sip_ports.specs.Ports.{outs}
use Rattle.sip_replies.specs.Talks.{IsPrefix}
use Rattle.sip_vector.specs.declared.update.Update.{Update}
use Rattle.sip_wire.specs.declared.version.Version.{Version}
use Rattle.sip_verifier.specs.Feeding.{due_at_end}
use Rattle.sip_verifier.specs.Talks.{stream_sent}
use Rattle.sip_verifier.proofs.StreamSent.{stream_sent-rest}
use Rattle.sip_runs.specs.declared.following.Following.{Following}
use Rattle.sip_runs.specs.declared.step.Step.{Step}
use Rattle.sip_runs.specs.declared.step.Step.TheVariants as steps
use Rattle.sip_runs.specs.Plans.{Plan}
use Rattle.sip_runs.specs.Runs.{IsFollowed, Said, is_ended}

module _ (version : Version) (depth : ℕ) (sent waiting : List Update) (events : List TalkEvent) where
  -- all that is said is what was said, and the rest
  said_front : (step : Step) → Said version depth sent waiting events step → IsPrefix events (stream_sent version depth (sent ++ waiting))
  said_front steps.Opening (none, first, empty) = (stream_sent version depth (sent ++ waiting), sym (ap (λ l. l ++ stream_sent version depth (sent ++ waiting)) none))
  said_front steps.Taking (before, whole, few) = (outs (due_at_end version waiting), stream_sent-rest version depth sent waiting whole ∙ ap (λ l. l ++ outs (due_at_end version waiting)) (sym before))
  said_front steps.Full (before, whole, full) = (outs (due_at_end version waiting), stream_sent-rest version depth sent waiting whole ∙ ap (λ l. l ++ outs (due_at_end version waiting)) (sym before))
  said_front steps.Ending (before, whole, few) = (outs (due_at_end version waiting), stream_sent-rest version depth sent waiting whole ∙ ap (λ l. l ++ outs (due_at_end version waiting)) (sym before))
  said_front steps.Ended (all, empty) =
      ([], ap (stream_sent version depth) (ap (λ l. sent ++ l) empty ∙ append-nil sent) ∙ sym all ∙ sym (append-nil events))

  said_all : (step : Step) → is_ended step ≡ true → Said version depth sent waiting events step → events ≡ stream_sent version depth (sent ++ waiting)
  said_all steps.Opening ended said = absurd cc
  said_all steps.Taking ended said = absurd cc
  said_all steps.Full ended said = absurd cc
  said_all steps.Ending ended said = absurd cc
  said_all steps.Ended ended (all, empty) = all ∙ ap (stream_sent version depth) (sym (ap (λ l. sent ++ l) empty ∙ append-nil sent))

module _ (p : Plan) (stream : List Update) (events : List TalkEvent) (f : Following) (is : IsFollowed p stream events f) where
  pub front_said : IsPrefix events (stream_sent p.version p.depth stream)
  front_said = subst (λ (l : List Update). IsPrefix events (stream_sent p.version p.depth l)) (sym is.order) (said_front p.version p.depth is.sent f.feed.value.waiting events f.step is.said)

  pub all_said : is_ended f.step ≡ true → events ≡ stream_sent p.version p.depth stream
  all_said ended = said_all p.version p.depth is.sent f.feed.value.waiting events f.step ended is.said ∙ ap (stream_sent p.version p.depth) (sym is.order)
