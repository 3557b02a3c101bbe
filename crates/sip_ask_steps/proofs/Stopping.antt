-- Where a question has no answer, asking ends as an ask does.
use Rattle.std.proofs.Common.{◌≡◌, ℕ, Result, Ok, Err, Option, Some, None, List, [], ◌∷◌, ◌++◌, refl, sym, ap, subst, ◌∙◌, inl, inr, append_assoc}
use Rattle.std.specs.Prelude.{IsTrue}
use Rattle.sip_ports.specs.Desk.{IsOfLink}
use Rattle.sip_ports.specs.Ports.{GoesOn}
use Rattle.sip_ports.specs.declared.port.TalkEvent.{TalkEvent}
use Rattle.sip_ports.proofs.TalkLemmas.{GoesOn-refl}
use Rattle.sip_vector.specs.declared.update.Update.{Update}
use Rattle.sip_wire.specs.Spelling.{fits}
use Rattle.sip_wire.specs.declared.message.Message.TheVariants as messages
use Rattle.sip_verifier.specs.declared.asker.Unanswered.{Unanswered}
use Rattle.sip_verifier.specs.declared.asker.Unanswered.TheVariants as unanswered
use Rattle.sip_verifier.specs.declared.session.SessionFault.TheVariants as faults
use Rattle.sip_verifier.specs.declared.status.Status.TheVariants as runs
use Rattle.sip_verifier.specs.runs.Askers.{Asks}
use Rattle.sip_verifier.specs.runs.Asking.{IsAnswered, IsInterrupted, IsRejected, IsUnrecorded}
use Rattle.sip_verifier.specs.runs.Manners.{Manner}
use Rattle.sip_questions.specs.Questions.{Answered}
use Rattle.sip_questions.specs.declared.asker.QuestionGiven.{QuestionGiven}
use Rattle.sip_questions.specs.declared.question.Question.{Question}
use Rattle.sip_sketch.specs.Sketches.{SketchValues}
use Rattle.sip_sketch.specs.Standing.{Stands}
use Rattle.sip_ask.specs.Asking.{AsksAll, Came, StoresFirst, steps_of}
use Rattle.sip_ask.specs.Causes.{IsStop}
use Rattle.sip_ask.specs.Turns.{block_at, held_by}
use Rattle.sip_ask.specs.declared.status.AskStatus.{AskStatus}
use Rattle.sip_ask.specs.inside.Opening.{OpensWith}
use Rattle.sip_ask.specs.inside.Steps.{StoresSeat, status_of}
use Rattle.sip_ask.proofs.AskEnds.{talked-asks}
use Rattle.sip_ask.proofs.TurnsTaken.{asked_came, asks_stop, stores_stop}
use Rattle.sip_ask_steps.specs.Plans.{Ends, IsPlan, Plan, manner_of, opened, recalled, version_of}
use Rattle.sip_ask_steps.specs.Steps.{IsBefore, stopped_by}

-- ---- what was said of a question, behind what was done before it

module _ (m : Manner Question Answered) (query : Question) (block : List ℕ) (said : List TalkEvent) (old new : Option (List TalkEvent)) (goes : GoesOn old new said) where
  pub answered_at : (answer : Answered) → IsAnswered m query block (Some []) (Some said) answer → IsAnswered m query block old new answer
  answered_at answer a = record { replies = a.replies; talk = subst (GoesOn old new) a.talk goes; accepted = a.accepted }

  rejected_at : (round : ℕ) (reason : _) → IsRejected m query block (Some []) (Some said) round reason → IsRejected m query block old new round reason
  rejected_at round reason a = record { replies = a.replies; talk = subst (GoesOn old new) a.talk goes; faulty = a.faulty }

  interrupted_at : IsInterrupted m query block (Some []) (Some said) → IsInterrupted m query block old new
  interrupted_at a = record { replies = a.replies; said = a.said; talk = subst (GoesOn old new) a.talk goes; order = a.order; waits = a.waits }

  unrecorded_at : IsUnrecorded m query block (Some []) (Some said) → IsUnrecorded m query block old new
  unrecorded_at a = record { replies = a.replies; ended = a.ended; talk = subst (GoesOn old new) a.talk goes; unjudged = a.unjudged }

  -- it has no answer for this
  pub came_stop : (s : SketchValues) (number place : ℕ) (before : Option (List TalkEvent)) → GoesOn before old (steps_of s place) → block_at place s.seats ≡ block
      → (States : QuestionGiven → Answered → Type 0) (why : Unanswered) → Asks m (query, block) (Some []) (Some said) States (Err why)
      → Came m s number query before new None None (Some place) (Err (stopped_by number why))
  came_stop s number place before stored same States (unanswered.Rejected round reason) asks =
      asked_came m s number query before old new None None place (Err (runs.Rejected number round reason)) stored (
        refl,
        record {
          rejected = subst (λ (b : List ℕ). IsRejected m query b old new round reason) (sym same) (rejected_at round reason asks);
          wrote = tt;
        },
      ) (λ e. cc)
  came_stop s number place before stored same States (unanswered.Fault faults.PeerFault) asks =
      asked_came m s number query before old new None None place (Err runs.PeerFault) stored (record {
        interrupted = subst (λ (b : List ℕ). IsInterrupted m query b old new) (sym same) (interrupted_at asks);
        same = refl;
      }) (λ e. cc)
  came_stop s number place before stored same States (unanswered.Fault faults.KeepFault) asks =
      asked_came m s number query before old new None None place (Err runs.OutOfMemory) stored (inr (inr (inr (record {
        unrecorded = subst (λ (b : List ℕ). IsUnrecorded m query b old new) (sym same) (unrecorded_at asks);
        same = refl;
      })))) (λ e. cc)
  came_stop s number place before stored same States (unanswered.Fault faults.OutOfMemory) asks =
      asked_came m s number query before old new None None place (Err runs.OutOfMemory) stored (elim asks [
        | inl cut ↦ inr (inr (inl (record {
          interrupted = subst (λ (b : List ℕ). IsInterrupted m query b old new) (sym same) (interrupted_at cut);
          same = refl;
        })))
        | inr lost ↦ inr (inr (inr (record {
          unrecorded = subst (λ (b : List ℕ). IsUnrecorded m query b old new) (sym same) (unrecorded_at lost);
          same = refl;
        })))
      ]) (λ e. cc)

-- it is one of the endings behind the opening
pub stop_is : (number : ℕ) (why : Unanswered) → IsStop (stopped_by number why)
stop_is number (unanswered.Rejected round reason) = tt
stop_is number (unanswered.Fault faults.PeerFault) = tt
stop_is number (unanswered.Fault faults.KeepFault) = tt
stop_is number (unanswered.Fault faults.OutOfMemory) = tt

-- ---- where it ends behind the opening

module _ (p : Plan) (plan : IsPlan p) where
  opens : IsTrue (fits (version_of p) (messages.Held (held_by p.sketch.tally))) → (talk : List TalkEvent) → OpensWith (version_of p) p.sketch.depth p.sketch.tally (Some talk) (Some (talk ++ opened p)) (Ok tt)
  opens fit talk = record { mid = Some (talk ++ recalled p); sent = refl; hears = (sym (append_assoc talk (recalled p) _), fit) }

  pub ends_so : IsTrue (fits (version_of p) (messages.Held (held_by p.sketch.tally))) → (events : List TalkEvent) (result : Result (Unit {0}) AskStatus) → ((status : AskStatus) → result ≡ Err status → IsStop status)
      → ((talk : List TalkEvent) → StoresFirst (version_of p) p.sketch p.places (Some (talk ++ opened p)) (Some (talk ++ events)))
      → ((talk : List TalkEvent) (stream : List Update) → Stands stream p.sketch
      → AsksAll (version_of p) (manner_of p stream) p.sketch 1 p.asked p.places (Some (talk ++ opened p)) (Some (talk ++ events)) None None result)
      → Ends p events (status_of result)
  ends_so fit events result stops stores asks = λ start talk loads.
      talked-asks p.asked start (Some talk) (Some (talk ++ events)) None None p.sketch plan.is loads p.places plan.chosen (Some talk) (GoesOn-refl (Some talk))
      (Some (talk ++ opened p)) (opens fit talk) (stores talk) result stops (asks talk)

  -- at a question
  pub ends_at : (before events : List TalkEvent) (now : SketchValues) (number : ℕ) (question : Question) (more : List Question) (place : Option ℕ) (places : List (Option ℕ))
      → IsBefore p before now number (question ∷ more) (place ∷ places) → (status : AskStatus) → IsStop status
      → ((talk : List TalkEvent) → StoresSeat now place (Some (talk ++ before)) (Some (talk ++ events)) (Err status))
      → ((talk : List TalkEvent) (stream : List Update) → Stands stream p.sketch
      → Came (manner_of p stream) now number question (Some (talk ++ before)) (Some (talk ++ events)) None None place (Err status))
      → Ends p events status
  ends_at before events now number question more place places b status stop stores came =
      ends_so b.heard events (Err status) (λ other same. let is : status ≡ other = cc in subst IsStop is stop)
      (λ talk. b.stores talk (Some (talk ++ events)) (stores_stop (version_of p) now place places (Some (talk ++ before)) (Some (talk ++ events)) (Err status) status refl (stores talk)))
      (λ talk stream stands. b.asks stream stands talk (Some (talk ++ events)) (Err status)
      (asks_stop (version_of p) (manner_of p stream) now number question more place places (Err status) (Some (talk ++ before)) (Some (talk ++ events)) None None status refl (came talk stream stands)))

-- what was done before, the file that was stored, and what was said then
pub joined : (talk before stored said events : List TalkEvent) → events ≡ before ++ (stored ++ said) → talk ++ events ≡ ((talk ++ before) ++ stored) ++ said
joined talk before stored said events all =
    ap (λ (l : List TalkEvent). talk ++ l) all ∙ sym (append_assoc talk before (stored ++ said)) ∙ sym (append_assoc (talk ++ before) stored said)

pub joined_behind : (talk before stored said events : List TalkEvent) → events ≡ before ++ (stored ++ said) → talk ++ events ≡ (talk ++ before) ++ (stored ++ said)
joined_behind talk before stored said events all = ap (λ (l : List TalkEvent). talk ++ l) all ∙ sym (append_assoc talk before (stored ++ said))

module _ (p : Plan) (plan : IsPlan p) (before events said : List TalkEvent) (now : SketchValues) (number place : ℕ) (question : Question) (more : List Question) (places : List (Option ℕ))
    (b : IsBefore p before now number (question ∷ more) (Some place ∷ places)) (all : events ≡ before ++ (steps_of now place ++ said)) (link : IsOfLink said) where
  -- the question at hand has no answer for this
  pub hand_ends : (States : QuestionGiven → Answered → Type 0) (why : Unanswered)
      → ((stream : List Update) → Stands stream p.sketch → Asks (manner_of p stream) (question, block_at place p.sketch.seats) (Some []) (Some said) States (Err why))
      → Ends p events (stopped_by number why)
  hand_ends States why asks =
      ends_at p plan before events now number question more (Some place) places b (stopped_by number why) (stop_is number why)
      (λ talk. inr (record { said = said; link = link; talk = joined_behind talk before (steps_of now place) said events all }))
      (λ talk stream stands. came_stop (manner_of p stream) question (block_at place p.sketch.seats) said (Some ((talk ++ before) ++ steps_of now place)) (Some (talk ++ events))
      (joined talk before (steps_of now place) said events all) now number place (Some (talk ++ before)) refl (b.blocks place) States why (asks stream stands))
