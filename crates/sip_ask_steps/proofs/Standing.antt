-- As which end of an ask a sketch stands, where nothing more is done.
use Rattle.std.proofs.Common.{◌≡◌, ℕ, suc, ◌<◌, Ok, Err, Option, Some, None, List, [], ◌∷◌, ◌++◌, length, refl, sym, ap, subst, ◌∙◌, inl, append_assoc, append-nil, arith}
use Rattle.sip_ports.specs.Ports.{outs}
use Rattle.sip_ports.specs.declared.port.TalkEvent.{TalkEvent}
use Rattle.sip_ports.proofs.TalkLemmas.{GoesOn-refl}
use Rattle.sip_wire.specs.Spelling.{spelling}
use Rattle.sip_wire.specs.declared.message.Message.TheVariants as messages
use Rattle.sip_wire.specs.declared.version.Version.{Version}
use Rattle.sip_verifier.specs.Talks.{bye_sent}
use Rattle.sip_verifier.specs.declared.asker.Unanswered.TheVariants as unanswered
use Rattle.sip_verifier.specs.declared.session.SessionFault.TheVariants as faults
use Rattle.sip_questions.specs.declared.question.Question.{Question}
use Rattle.sip_sketch.specs.Sketches.{SketchValues}
use Rattle.sip_ask.specs.Causes.{IsStop}
use Rattle.sip_ask.specs.declared.status.AskPort.TheVariants as ports
use Rattle.sip_ask.specs.declared.status.AskStatus.TheVariants as statuses
use Rattle.sip_ask.proofs.Stops.{farewell_said}
use Rattle.sip_ask_steps.specs.Plans.{Ends, IsPlan, Plan, version_of}
use Rattle.sip_ask_steps.specs.Steps.{AreTurns, At, IsBefore, IsDone, IsPast, status_at, status_of}
use Rattle.sip_ask_steps.specs.declared.machine.SketchAsking.{SketchAsking}
use Rattle.sip_ask_steps.specs.declared.step.Step.{Step}
use Rattle.sip_ask_steps.specs.declared.step.Step.TheVariants as at
use Rattle.sip_ask_steps.specs.declared.turn.Turn.{Turn}
use Rattle.sip_ask_steps.specs.declared.turn.Turn.TheVariants as turns
use Rattle.sip_ask_steps.proofs.Opening.{silent_ends, waiting_ends}
use Rattle.sip_ask_steps.proofs.Stopping.{ends_at, ends_so, hand_ends}

-- a farewell has bytes
bye_some : (version : Version) → 0 < length (bye_sent version)
unfolding spelling
bye_some version = omega arith

module _ (p : Plan) (plan : IsPlan p) where
  -- all were answered, and then the farewell was said
  pub left_ends : (events : List TalkEvent) (now : SketchValues) (number : ℕ) → IsBefore p events now number [] [] → Ends p (events ++ outs (spelling (version_of p) messages.Bye)) statuses.Accepted
  left_ends events now number b =
      let v = version_of p in
      let after = events ++ outs (spelling v messages.Bye) in
      let said = (λ (talk : List TalkEvent).
      let e : talk ++ after ≡ (talk ++ events) ++ outs (spelling v messages.Bye ++ []) =
      sym (append_assoc talk events (outs (spelling v messages.Bye))) ∙ ap (λ (l : List ℕ). (talk ++ events) ++ outs l) (sym (append-nil (spelling v messages.Bye))) in e) in
      ends_so p plan b.heard after (Ok tt) (λ status is. absurd cc)
      (λ talk. b.stores talk (Some (talk ++ after)) (farewell_said v (Some (talk ++ events)) (Some (talk ++ after)) (Ok tt) (said talk)))
      (λ talk stream stands. b.asks stream stands talk (Some (talk ++ after)) (Ok tt) (said talk, tt))

  -- or before it was
  leaving_ends : (events : List TalkEvent) (now : SketchValues) (number : ℕ) → IsBefore p events now number [] [] → Ends p events statuses.PeerFault
  leaving_ends events now number b =
      ends_so p plan b.heard events (Err statuses.PeerFault) (λ status is. let same : statuses.PeerFault ≡ status = cc in subst IsStop same tt)
      (λ talk. b.stores talk (Some (talk ++ events)) ([], record { link = tt; sent = (_, refl) }, GoesOn-refl (Some (talk ++ events))))
      (λ talk stream stands. b.asks stream stands talk (Some (talk ++ events)) (Err statuses.PeerFault) ((0, bye_some (version_of p), GoesOn-refl (Some (talk ++ events))), tt))

  storing_ends : (events : List TalkEvent) (now : SketchValues) (number : ℕ) (question : Question) (more : List Question) (place : ℕ) (places : List (Option ℕ))
      → IsBefore p events now number (question ∷ more) (Some place ∷ places) → Ends p events (statuses.WriteFault ports.Sketch)
  storing_ends events now number question more place places b =
      ends_at p plan events events now number question more (Some place) places b (statuses.WriteFault ports.Sketch) tt
      (λ talk. inl (record { count = 0; short = omega arith; talk = GoesOn-refl (Some (talk ++ events)) }))
      (λ talk stream stands. (record { count = 0; short = omega arith; talk = GoesOn-refl (Some (talk ++ events)) }, tt))

  idle_ends : (events : List TalkEvent) (now : SketchValues) (number : ℕ) (question : Question) (more : List Question) (places : List (Option ℕ))
      → IsBefore p events now number (question ∷ more) (None ∷ places) → Ends p events (statuses.WriteFault ports.Report)
  idle_ends events now number question more places b =
      ends_at p plan events events now number question more None places b (statuses.WriteFault ports.Report) tt
      (λ talk. refl)
      (λ talk stream stands. (GoesOn-refl (Some (talk ++ events)), [], (_, refl), tt))

  by_left : (events : List TalkEvent) (now : SketchValues) (number : ℕ) (asked : List Question) (places : List (Option ℕ)) (left : List Turn)
      → IsBefore p events now number asked places → AreTurns p asked places left → Ends p events (status_of left)
  by_left events now number [] [] [] b are = leaving_ends events now number b
  by_left events now number (q ∷ asked) (None ∷ places) (turns.Idle given ∷ left) b are = idle_ends events now number q asked places b
  by_left events now number (q ∷ asked) (Some place ∷ places) (turns.Takes own a ∷ left) b are = storing_ends events now number q asked place places b
  by_left events now number (q ∷ asked) (None ∷ places) (turns.Takes own a ∷ left) b are = absurd are.0
  by_left events now number (q ∷ asked) (Some place ∷ places) (turns.Idle given ∷ left) b are = absurd are.0
  by_left events now number [] [] (t ∷ left) b are = absurd are
  by_left events now number [] (place ∷ places) [] b are = absurd are
  by_left events now number [] (place ∷ places) (t ∷ left) b are = absurd are
  by_left events now number (q ∷ asked) [] [] b are = absurd are
  by_left events now number (q ∷ asked) [] (t ∷ left) b are = absurd are
  by_left events now number (q ∷ asked) (place ∷ places) [] b are = absurd are

  pub past_ends : (events : List TalkEvent) (now : SketchValues) (number : ℕ) (left : List Turn) → IsPast p now number left events → Ends p events (status_of left)
  past_ends events now number left past = by_left events now (suc number) past.asked past.places left past.before past.turns

  by_step : (events : List TalkEvent) (m : SketchAsking) → m.version ≡ version_of p → (step : Step) → At p events m step → Ends p events (status_at m.left.items step)
  by_step events m same at.Opening (none, empty, fresh) = subst (λ (l : List TalkEvent). Ends p l statuses.PeerFault) (sym none) (silent_ends p plan)
  by_step events m same at.Hearing (all, short, fresh) = waiting_ends p plan events _ all (rw same at short)
  by_step events m same (at.Storing a) is = storing_ends events is.now m.number is.question is.hand.more is.place is.hand.places is.hand.behind
  by_step events m same (at.Asking a) is =
      let w = is.way in
      hand_ends p plan w.before events w.said w.now m.number w.place w.question w.hand.more w.hand.places w.hand.behind w.all w.link (λ given answer. Unit {0})
      (unanswered.Fault faults.PeerFault) is.waits
  by_step events m same (at.Answered given a) is = past_ends events m.sketch m.number m.left.items is.1
  by_step events m same (at.Idle given) is = past_ends events m.sketch m.number m.left.items is.1
  by_step events m same at.Leaving (past, none) = subst (λ (left : List Turn). Ends p events (status_of left)) none (past_ends events m.sketch m.number m.left.items past)
  by_step events m same (at.Ended status) is = is

-- as which it stands
pub stands_as : (p : Plan) (events : List TalkEvent) (m : SketchAsking) → IsDone p events m → Ends p events (status_at m.left.items m.step)
stands_as p events m is = by_step p is.kept.plan events m is.kept.same_version m.step is.at
