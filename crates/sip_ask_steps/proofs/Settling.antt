-- What is said of the question at hand, and what came of it.
use Rattle.std.proofs.Common.{◌≡◌, ℕ, suc, Result, Ok, Err, Option, Some, None, List, [], ◌++◌, sym, ap, subst, ◌∙◌, inl, true, false, append_assoc, append-nil}
use Rattle.std.specs.Prelude.{is_none}
use Rattle.sip_ports.specs.Desk.{IsOfLink, steps}
use Rattle.sip_ports.specs.declared.port.TalkEvent.{TalkEvent}
use Rattle.sip_ports.proofs.DeskLemmas.{IsOfLink-append}
use Rattle.sip_vector.specs.declared.update.Entry.{Entry}
use Rattle.sip_vector.specs.declared.update.Update.{Update}
use Rattle.sip_wire.specs.declared.version.Version.{Version}
use Rattle.sip_verifier.specs.declared.asker.Unanswered.{Unanswered}
use Rattle.sip_verifier.specs.runs.Askers.{Asks}
use Rattle.sip_verifier.specs.runs.Asking.{IsInterrupted}
use Rattle.sip_questions.specs.Questions.{asking}
use Rattle.sip_questions.specs.Sittings.{stated}
use Rattle.sip_questions.specs.declared.asker.QuestionGiven.{QuestionGiven}
use Rattle.sip_questions.specs.declared.question.Question.{Question}
use Rattle.sip_sketch.specs.Sketches.{SketchValues, spelled_file}
use Rattle.sip_sketch.specs.Standing.{Stands}
use Rattle.sip_ask.specs.Asking.{steps_of}
use Rattle.sip_ask.specs.Turns.{block_at}
use Rattle.sip_steps.specs.declared.question.QuestionAsking.{QuestionAsking}
use Rattle.sip_steps.specs.declared.question.QuestionAsking.TheVariants as askings
use Rattle.sip_steps.specs.declared.looking.LookStep.{LookStep}
use Rattle.sip_replies.specs.declared.turn.Stage.{Stage}
use Rattle.sip_replies.specs.declared.turn.Stage.TheVariants as stages
use Rattle.sip_steps.specs.declared.looking.LookStep.TheVariants as looks
use Rattle.sip_steps.specs.Asked.{end_heard}
use Rattle.sip_steps.specs.Looked as looked
use Rattle.sip_steps.specs.Posed.{stage_at}
use Rattle.sip_steps.specs.Questioned.{About, ComesTo, IsAskedOf, IsOf, end_of, is_open_at}
use Rattle.sip_ask_steps.specs.Plans.{Ends, IsPlan, Plan, version_of}
use Rattle.sip_ask_steps.specs.Steps.{IsAsking, IsBefore, IsPast, IsToStore, IsUnderWay, stopped_by}
use Rattle.sip_ask_steps.specs.Told.{IsTold}
use Rattle.sip_ask_steps.specs.declared.turn.Turn.{Turn}
use Rattle.sip_ask_steps.proofs.Following.{answered_before, next_of}
use Rattle.sip_ask_steps.proofs.Stopping.{hand_ends}

-- ---- only the link was used

end_link : (stage : Stage) → IsOfLink (end_heard stage)
end_link stages.Hears = tt
end_link _ = tt

pub end_of_link : (a : QuestionAsking) → IsOfLink (end_of a)
end_of_link (askings.Posed posing) = end_link (stage_at posing)
end_of_link (askings.Looked l) = by_step l.step
  where
    by_hearing : (stage : Stage) → IsOfLink (end_heard stage)
    by_hearing stage = end_link stage

    by_step : (step : LookStep) → IsOfLink (looked.end_at step)
    by_step (looks.Place room true) = tt
    by_step (looks.Place room false) = tt
    by_step (looks.Refused reason) = tt
    by_step (looks.Proves found a) = by_hearing a.turn.stage

-- ---- more was said

module _ (p : Plan) (sketch : SketchValues) (number : ℕ) (left : List Turn) where
  pub way_more : (events more : List TalkEvent) (a next : QuestionAsking) → IsUnderWay p sketch number left events a → IsOfLink more
      → ((q : About) (said : List TalkEvent) → IsAskedOf q said a → IsAskedOf q (said ++ more) next) → IsUnderWay p sketch number left (events ++ more) next
  way_more events more a next w link asked = record {
    question = w.question;
    place = w.place;
    now = w.now;
    before = w.before;
    said = w.said ++ more;
    all = ap (λ (l : List TalkEvent). l ++ more) w.all ∙ append_assoc w.before (steps_of w.now w.place ++ w.said) more
        ∙ ap (λ (l : List TalkEvent). w.before ++ l) (append_assoc (steps_of w.now w.place) w.said more);
    link = IsOfLink-append w.said more w.link link;
    hand = w.hand;
    seated = record {
      about = w.seated.about;
      version = w.seated.version;
      depth = w.seated.depth;
      asks = w.seated.asks;
      block = w.seated.block;
      stands = w.seated.stands;
      talk = asked w.seated.about w.said w.seated.talk;
    };
  }

  -- the file was stored
  pub way_stored : (events : List TalkEvent) (file : List ℕ) (a : QuestionAsking) → IsToStore p sketch number left events file a → IsUnderWay p sketch number left (events ++ steps file) a
  way_stored events file a is = record {
    question = is.question;
    place = is.place;
    now = is.now;
    before = events;
    said = [];
    all = ap (λ (l : List ℕ). events ++ steps l) is.is ∙ ap (λ (s : SketchValues). events ++ steps (spelled_file s)) is.hand.marked
        ∙ ap (λ (l : List TalkEvent). events ++ l) (sym (append-nil (steps_of is.now is.place)));
    link = tt;
    hand = is.hand;
    seated = is.seated;
  }

  -- ---- what came of it

  module _ (events : List TalkEvent) (a : QuestionAsking) (entries : List Entry) (w : IsUnderWay p sketch number left events a) where
    -- in these terms
    abbrev Came : Version → ℕ → Question → List ℕ → List Update → Option (Result QuestionGiven Unanswered) → Type 0
    Came version depth question block stream None = IsInterrupted (asking version depth stream) question block (Some []) (Some w.said)
    Came version depth question block stream (Some said) =
        Asks (asking version depth stream) (question, block) (Some []) (Some w.said) (λ given answer. stated entries given ≡ (question, answer)) said

    as_own : (q : About) (stream : List Update) (r : Option (Result QuestionGiven Unanswered)) → ComesTo q stream w.said entries r → Came q.version q.depth q.question q.block stream r
    as_own q stream None came = came
    as_own q stream (Some said) came = came

    came_as : (result : Option (Result QuestionGiven Unanswered))
        → ((q : About) (stream : List Update) (said : List TalkEvent) → IsOf q stream → IsAskedOf q said a → ComesTo q stream said entries result)
        → (stream : List Update) → Stands stream p.sketch → Came (version_of p) p.sketch.depth w.question (block_at w.place p.sketch.seats) stream result
    came_as result comes stream stands =
        let s = w.seated in
        let q = s.about in
        let own = as_own q stream result (comes q stream w.said (s.stands stream stands) s.talk) in
        subst (λ (b : List ℕ). Came (version_of p) p.sketch.depth w.question b stream result) s.block
        (subst (λ (x : Question). Came (version_of p) p.sketch.depth x q.block stream result) s.asks
        (subst (λ (d : ℕ). Came (version_of p) d q.question q.block stream result) s.depth
        (subst (λ (v : Version). Came v q.depth q.question q.block stream result) s.version own)))

    module _ (result : Option (Result QuestionGiven Unanswered))
        (comes : (q : About) (stream : List Update) (said : List TalkEvent) → IsOf q stream → IsAskedOf q said a → ComesTo q stream said entries result) where
      -- nothing yet
      pub settled_open : result ≡ None → is_none result ≡ is_open_at a → IsAsking p sketch number left events a
      settled_open none open_so = record {
        way = w;
        unjudged = sym open_so ∙ ap is_none none;
        waits = λ stream stands. subst (Came (version_of p) p.sketch.depth w.question (block_at w.place p.sketch.seats) stream) none (came_as result comes stream stands);
      }

      -- the answer
      pub settled_given : (given : QuestionGiven) → result ≡ Some (Ok given) → IsTold p events entries number given × IsPast p sketch number left events
      settled_given given is =
          let h = w.hand in
          let own = λ (stream : List Update) (stands : Stands stream p.sketch).
          subst (Came (version_of p) p.sketch.depth w.question (block_at w.place p.sketch.seats) stream) is (came_as result comes stream stands) in (
            inl (record {
              question = w.question;
              place = w.place;
              next = next_of p w.before w.now number w.question h.more (Some w.place) h.places h.behind;
              now = w.now;
              before = w.before;
              said = w.said;
              all = w.all;
              answer = own;
            }),
            record {
              asked = h.more;
              places = h.places;
              before = subst (λ (s : SketchValues). IsBefore p events s (suc number) h.more h.places) (sym h.marked)
                  (answered_before p w.before events w.said w.now number w.place w.question h.more h.places h.behind w.all w.link
                  (λ answer. stated entries given ≡ (w.question, answer)) own);
              turns = h.turns;
            },
          )

      -- why there is none
      pub settled_stop : (plan : IsPlan p) (why : Unanswered) → result ≡ Some (Err why) → Ends p events (stopped_by number why)
      settled_stop plan why is =
          let h = w.hand in
          hand_ends p plan w.before events w.said w.now number w.place w.question h.more h.places h.behind w.all w.link (λ given answer. stated entries given ≡ (w.question, answer)) why
          (λ stream stands. subst (Came (version_of p) p.sketch.depth w.question (block_at w.place p.sketch.seats) stream) is (came_as result comes stream stands))
