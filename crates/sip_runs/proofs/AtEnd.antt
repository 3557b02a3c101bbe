-- A run behind its stream.
use Rattle.std.proofs.Common.{◌≡◌, ◌++◌, ℕ, true, List, [], All, sym, ap, subst, ◌∙◌, append-nil}
use Rattle.sip_ports.specs.declared.port.TalkEvent.{TalkEvent}
use Rattle.sip_vector.specs.declared.update.Update.{Update}
use Rattle.sip_vector.specs.Streams.{IsLegal}
use Rattle.sip_wire.specs.declared.version.Version.{Version}
use Rattle.sip_verifier.specs.declared.weights.Weights.{Weights}
use Rattle.sip_verifier.specs.Weights.{AreWeights, weight_in}
use Rattle.sip_questions.specs.Questions.{first_by, first_refusal}
use Rattle.sip_runs.specs.declared.following.Following.{Following}
use Rattle.sip_runs.specs.declared.step.Step.{Step}
use Rattle.sip_runs.specs.declared.step.Step.TheVariants as steps
use Rattle.sip_runs.specs.Plans.{Plan}
use Rattle.sip_runs.specs.Runs.{IsFollowed, Said, is_ended}
use Rattle.sip_runs.specs.Seats.{IsSeated, refusal_at}
use Rattle.sip_runs.proofs.Refused.{all_refuse}

-- nothing waits
ended_none : (version : Version) (depth : ℕ) (sent waiting : List Update) (events : List TalkEvent) (step : Step) → is_ended step ≡ true → Said version depth sent waiting events step → waiting ≡ []
ended_none version depth sent waiting events steps.Opening ended said = absurd cc
ended_none version depth sent waiting events steps.Taking ended said = absurd cc
ended_none version depth sent waiting events steps.Full ended said = absurd cc
ended_none version depth sent waiting events steps.Ending ended said = absurd cc
ended_none version depth sent waiting events steps.Ended ended said = said.1

module _ (p : Plan) (stream : List Update) (events : List TalkEvent) (f : Following) (is : IsFollowed p stream events f) (ended : is_ended f.step ≡ true) where
  all_sent : is.sent ≡ stream
  all_sent =
      let none = ended_none p.version p.depth is.sent f.feed.value.waiting events f.step ended is.said in
      sym (is.order ∙ ap (λ (l : List Update). is.sent ++ l) none ∙ append-nil is.sent)

  pub legal_at_end : IsLegal p.depth stream
  legal_at_end = subst (λ (d : ℕ). IsLegal d stream) is.depth is.measured.legal

  -- the seats stand for all of it
  pub seated_at_end : All (IsSeated p.version p.depth stream) f.seats.items
  seated_at_end = subst (λ (l : List Update). All (IsSeated p.version p.depth l) f.seats.items) all_sent is.seated

  -- and refuse what it refuses
  pub refused_at_end : (w : Weights) → AreWeights stream w → first_by (refusal_at (weight_in w)) 1 f.seats.items ≡ first_refusal stream 1 p.questions
  refused_at_end w are = all_refuse p.version p.depth stream w legal_at_end.items are 1 f.seats.items seated_at_end ∙ ap (first_refusal stream 1) is.questions
