-- What is done at each step.
use Rattle.std.proofs.Common.{◌≡◌, ◌≢◌, ℕ, suc, ◌<◌, Bool, true, false, if◌then◌else◌, Err, Option, Some, None, List, [], ◌∷◌, ◌++◌, length, refl, sym, ap, subst, ◌∙◌, append-nil}
use Rattle.std.specs.Prelude.{IsTrue, is_some}
use Rattle.sip_ports.specs.Desk.{IsOfLink}
use Rattle.sip_ports.specs.Ports.{ins, outs}
use Rattle.sip_ports.specs.declared.port.TalkEvent.{TalkEvent}
use Rattle.sip_wire.specs.Faults.{IsOfBytes}
use Rattle.sip_wire.specs.Frames.{frame_bytes}
use Rattle.sip_wire.specs.Reading.{read_frame}
use Rattle.sip_wire.specs.Spelling.{all_hold, asked, fits, has_room, spelling}
use Rattle.sip_wire.specs.declared.frame.Frame.{Frame}
use Rattle.sip_wire.specs.declared.kind.Place.TheVariants as places
use Rattle.sip_wire.specs.declared.message.Held.{Held}
use Rattle.sip_wire.specs.declared.message.Message.TheVariants as messages
use Rattle.sip_wire.specs.declared.message.WireFault.{WireFault}
use Rattle.sip_wire.specs.declared.version.Version.{Version}
use Rattle.sip_replies.proofs.Fed.{events_more, short_empty}
use Rattle.sip_questions.specs.declared.question.Question.{Question}
use Rattle.sip_sketch.specs.Sketches.{SketchValues}
use Rattle.sip_ask.specs.Turns.{held_by, held_heard, recall_bytes}
use Rattle.sip_ask.specs.declared.status.AskStatus.TheVariants as statuses
use Rattle.sip_steps.specs.declared.question.QuestionAsking.{QuestionAsking}
use Rattle.sip_steps.specs.Questioned as questioned
use Rattle.sip_steps.specs.Questioned.{About, IsAskedOf}
use Rattle.sip_ask_steps.specs.Plans.{Ends, Plan, opened, recalled, version_of}
use Rattle.sip_ask_steps.specs.Steps.{AreTurns, At, Compares, IsAsking, IsBefore, IsDone, IsPast, IsUnderWay, Kept, Turns, answer_at, at_step, due_at, due_of, end_at, is_hearing_at, stored_at, wants_at}
use Rattle.sip_ask_steps.specs.declared.machine.SketchAsking.{SketchAsking}
use Rattle.sip_ask_steps.specs.declared.step.Step.{Step}
use Rattle.sip_ask_steps.specs.declared.step.Step.TheVariants as at
use Rattle.sip_ask_steps.specs.declared.wants.Wants.TheVariants as wants
use Rattle.sip_steps.proofs.Judged.{goes_on, hears_only}
use Rattle.sip_ask_steps.proofs.Opening.{bad_ends, closed_ends, first_before, step_ends}
use Rattle.sip_ask_steps.proofs.Settling.{way_more, way_stored}
use Rattle.sip_ask_steps.proofs.Standing.{left_ends}

-- nothing was done
pub done_none : (p : Plan) (events extra : List TalkEvent) (m : SketchAsking) → extra ≡ [] → IsDone p events m → IsDone p (events ++ extra) m
done_none p events extra m none is = subst (λ (l : List TalkEvent). IsDone p l m) (sym (ap (λ (l : List TalkEvent). events ++ l) none ∙ append-nil events)) is

pub none_of : {A : Type 0} (o : Option A) → ((x : A) → o ≡ Some x → ⊥) → o ≡ None
none_of None never = refl
none_of (Some x) never = absurd (never x refl)

module _ (p : Plan) (events : List TalkEvent) (m : SketchAsking) (is : IsDone p events m) where
  at_as : (step : Step) → m.step ≡ step → At p events m step
  at_as step same = subst (At p events m) same is.at

  -- ---- a question is under way

  module _ (a : QuestionAsking) (same : m.step ≡ at.Asking a) where
    pub asking_way : IsUnderWay p m.sketch m.number m.left.items events a
    asking_way = let own : IsAsking p m.sketch m.number m.left.items events a = at_as (at.Asking a) same in own.way

    pub asking_begun : questioned.HasBegun a
    asking_begun = (asking_way.seated.about, asking_way.said, asking_way.seated.talk)

    pub asking_more : (more : List TalkEvent) (next : QuestionAsking) → IsOfLink more → ((q : About) (said : List TalkEvent) → IsAskedOf q said a → IsAskedOf q (said ++ more) next)
        → Kept p m × IsUnderWay p m.sketch m.number m.left.items (events ++ more) next
    asking_more more next link asked = (is.kept, way_more p m.sketch m.number m.left.items events more a next asking_way link asked)

  -- the file was stored
  pub storing_way : (a : QuestionAsking) → m.step ≡ at.Storing a → Kept p m × IsUnderWay p m.sketch m.number m.left.items (events ++ stored_at m m.step) a
  storing_way a same = (
    is.kept,
    subst (λ (s : Step). IsUnderWay p m.sketch m.number m.left.items (events ++ stored_at m s) a) (sym same)
        (way_stored p m.sketch m.number m.left.items events m.file.items a (at_as (at.Storing a) same)),
  )

  -- ---- the opening

  pub opened_done : m.step ≡ at.Opening → IsDone p (events ++ outs (due_of m)) (at_step m at.Hearing)
  opened_done same =
      let own = at_as at.Opening same in
      let part = frame_bytes m.frame in
      let v = is.kept.same_version in
      let fresh = own.2 in
      let due : due_of m ≡ recall_bytes (version_of p) p.sketch.depth p.sketch.tally.count =
      ap (due_at m) same ∙ ap (λ (x : Version). recall_bytes x m.sketch.depth m.sketch.tally.count) v
      ∙ ap (λ (s : SketchValues). recall_bytes (version_of p) s.depth s.tally.count) fresh.same in
      record {
        kept = is.kept;
        at = (
          ap (λ (l : List TalkEvent). l ++ outs (due_of m)) own.0 ∙ ap outs due ∙ sym (append-nil (recalled p)) ∙ ap (λ (l : List ℕ). recalled p ++ ins l) (sym own.1),
          short_empty m.version places.Held part own.1,
          fresh,
        );
      }

  module _ (same : m.step ≡ at.Hearing) where
    hears : At p events m at.Hearing
    hears = at_as at.Hearing same

    short_own : length (frame_bytes m.frame) < asked (version_of p) places.Held (frame_bytes m.frame)
    short_own = rw is.kept.same_version at hears.1

    pub closed_done : IsDone p (events ++ end_at m.step) (at_step m (at.Ended statuses.PeerClosed))
    closed_done = record {
      kept = is.kept;
      at = subst (λ (s : Step). Ends p (events ++ end_at s) statuses.PeerClosed) (sym same) (closed_ends p is.kept.plan events (frame_bytes m.frame) hears.0 short_own);
    }

    -- bytes came
    module _ (frame : Frame) (piece : List ℕ) (more : frame_bytes frame ≡ frame_bytes m.frame ++ piece) where
      came : events ++ ins piece ≡ recalled p ++ ins (frame_bytes frame)
      came = sym (events_more (recalled p) events (frame_bytes m.frame) (frame_bytes frame) piece hears.0 more)

      pub part_done : length (frame_bytes frame) < asked m.version places.Held (frame_bytes frame) → IsDone p (events ++ ins piece) (record m { frame = frame })
      part_done short = record { kept = is.kept; at = subst (At p (events ++ ins piece) (record m { frame = frame })) (sym same) (came, short, hears.2) }

      pub bad_done : (fault : WireFault) → IsOfBytes fault → read_frame m.version places.Held (frame_bytes frame) ≡ Err fault → (other : SketchAsking) → Kept p other
          → IsDone p (events ++ ins piece) (at_step other (at.Ended statuses.BadFrame))
      bad_done fault of read other kept = record {
        kept = kept;
        at = bad_ends p is.kept.plan (events ++ ins piece) (frame_bytes frame) came fault of (rw is.kept.same_version at read);
      }

      pub held_came : (held : Held) → frame_bytes frame ≡ spelling m.version (messages.Held held) → IsTrue (fits m.version (messages.Held held)) → Compares p (events ++ ins piece) held (record m { frame = frame })
      held_came held is_held fit = (
        is.kept,
        hears.2,
        came ∙ ap (λ (l : List ℕ). recalled p ++ ins l) (is_held ∙ ap (λ (v : Version). spelling v (messages.Held held)) is.kept.same_version),
        subst (λ (v : Version). IsTrue (fits v (messages.Held held))) is.kept.same_version fit,
      )

  -- ---- the farewell

  pub left_done : m.step ≡ at.Leaving → IsDone p (events ++ outs (due_of m)) (at_step m (at.Ended statuses.Accepted))
  left_done same =
      let own = at_as at.Leaving same in
      let past = own.0 in
      let due : due_of m ≡ spelling (version_of p) messages.Bye = ap (due_at m) same ∙ ap (λ (v : Version). spelling v messages.Bye) is.kept.same_version in
      record {
        kept = is.kept;
        at = subst (λ (l : List ℕ). Ends p (events ++ outs l) statuses.Accepted) (sym due)
            (left_ends p is.kept.plan events m.sketch (suc m.number) (none_left past.asked past.places past.before (subst (AreTurns p past.asked past.places) own.1 past.turns)));
      }
    where
      none_left : (asked : List Question) (places : List (Option ℕ)) → IsBefore p events m.sketch (suc m.number) asked places → AreTurns p asked places [] → IsBefore p events m.sketch (suc m.number) [] []
      none_left [] [] b are = b
      none_left [] (x ∷ places) b are = absurd are
      none_left (q ∷ asked) [] b are = absurd are
      none_left (q ∷ asked) (x ∷ places) b are = absurd are

  -- ---- the next turn

  pub answered_turns : wants_at m.step ≡ wants.Answers → Turns p events m
  answered_turns answers = (is.kept, by_step m.step is.at answers)
    where
      by_asking : (b : Bool) → (if b then wants.Due else wants.Waits) ≡ wants.Answers → ⊥
      by_asking true e = cc
      by_asking false e = cc

      by_step : (step : Step) → At p events m step → wants_at step ≡ wants.Answers → IsPast p m.sketch m.number m.left.items events
      by_step (at.Answered given a) own e = own.1
      by_step (at.Idle given) own e = own.1
      by_step (at.Asking a) own e = absurd (by_asking (questioned.is_due_at a) e)
      by_step at.Opening own e = absurd cc
      by_step at.Hearing own e = absurd cc
      by_step (at.Storing a) own e = absurd cc
      by_step at.Leaving own e = absurd cc
      by_step (at.Ended status) own e = absurd cc

-- the other end holds something else, or what the sketch is of
module _ (p : Plan) (events : List TalkEvent) (m : SketchAsking) (held kept : Held) (c : Compares p events held m) (own : kept ≡ held_by m.sketch.tally) where
  pub step_done : held ≢ kept → IsDone p events (at_step m (at.Ended (statuses.OutOfStep held kept)))
  step_done other = record {
    kept = c.0;
    at = step_ends p c.0.plan events held kept c.3 c.2 (own ∙ ap (λ (s : SketchValues). held_by s.tally) c.1.same) other;
  }

  pub first_turns : held ≡ kept → Turns p events m
  first_turns same =
      let whole : held ≡ held_by p.sketch.tally = same ∙ own ∙ ap (λ (s : SketchValues). held_by s.tally) c.1.same in
      let fit = subst (λ (h : Held). IsTrue (fits (version_of p) (messages.Held h))) whole c.3 in
      let all : events ≡ opened p = c.2 ∙ ap (λ (h : Held). recalled p ++ held_heard (version_of p) h) whole in (
        c.0,
        record {
          asked = p.asked;
          places = p.places;
          before = subst (λ (l : List TalkEvent). IsBefore p l m.sketch (suc m.number) p.asked p.places) (sym all)
              (subst (λ (s : SketchValues). IsBefore p (opened p) s (suc m.number) p.asked p.places) (sym c.1.same)
              (subst (λ (n : ℕ). IsBefore p (opened p) p.sketch (suc n) p.asked p.places) (sym c.1.none) (first_before p c.0.plan fit)));
          turns = c.1.turns;
        },
      )

-- ---- it waits exactly where bytes are to come

waits_if : (b : Bool) → (if b then wants.Due else wants.Waits) ≡ wants.Waits → b ≡ false
waits_if true e = absurd cc
waits_if false e = refl

pub waits_hears : (p : Plan) (events : List TalkEvent) (m : SketchAsking) → IsDone p events m → wants_at m.step ≡ wants.Waits → is_hearing_at m.step ≡ true
waits_hears p events m is waits = by_step m.step is.at waits
  where
    by_step : (step : Step) → At p events m step → wants_at step ≡ wants.Waits → is_hearing_at step ≡ true
    by_step at.Hearing own e = refl
    by_step (at.Asking a) own e = goes_on a own.unjudged (waits_if (questioned.is_due_at a) e)
    by_step at.Opening own e = absurd cc
    by_step (at.Storing a) own e = absurd cc
    by_step (at.Answered given a) own e = absurd cc
    by_step (at.Idle given) own e = absurd cc
    by_step at.Leaving own e = absurd cc
    by_step (at.Ended status) own e = absurd cc

pub hears_waits : (step : Step) → is_hearing_at step ≡ true → wants_at step ≡ wants.Waits
hears_waits at.Hearing hears = refl
hears_waits (at.Asking a) hears = ap (λ (b : Bool). if b then wants.Due else wants.Waits) (hears_only a hears)
hears_waits at.Opening hears = absurd cc
hears_waits (at.Storing a) hears = absurd cc
hears_waits (at.Answered given a) hears = absurd cc
hears_waits (at.Idle given) hears = absurd cc
hears_waits at.Leaving hears = absurd cc
hears_waits (at.Ended status) hears = absurd cc

-- ---- where nothing is to come or to be stored

pub end_none : (step : Step) → (step ≡ at.Hearing → ⊥) → ((a : QuestionAsking) → step ≡ at.Asking a → ⊥) → (end_at step ≡ []) × (is_hearing_at step ≡ false)
end_none at.Hearing never other = absurd (never refl)
end_none (at.Asking a) never other = absurd (other a refl)
end_none at.Opening never other = (refl, refl)
end_none (at.Storing a) never other = (refl, refl)
end_none (at.Answered given a) never other = (refl, refl)
end_none (at.Idle given) never other = (refl, refl)
end_none at.Leaving never other = (refl, refl)
end_none (at.Ended status) never other = (refl, refl)

pub due_none : (m : SketchAsking) (step : Step) → (step ≡ at.Opening → ⊥) → ((a : QuestionAsking) → step ≡ at.Asking a → ⊥) → (step ≡ at.Leaving → ⊥)
    → (due_at m step ≡ []) × (wants_at step ≢ wants.Due)
due_none m at.Opening never other last = absurd (never refl)
due_none m (at.Asking a) never other last = absurd (other a refl)
due_none m at.Leaving never other last = absurd (last refl)
due_none m at.Hearing never other last = (refl, λ e. cc)
due_none m (at.Storing a) never other last = (refl, λ e. cc)
due_none m (at.Answered given a) never other last = (refl, λ e. cc)
due_none m (at.Idle given) never other last = (refl, λ e. cc)
due_none m (at.Ended status) never other last = (refl, λ e. cc)

pub store_none : (m : SketchAsking) (step : Step) → ((a : QuestionAsking) → step ≡ at.Storing a → ⊥) → (stored_at m step ≡ []) × (wants_at step ≢ wants.Stores)
store_none m (at.Storing a) never = absurd (never a refl)
store_none m at.Opening never = (refl, λ e. cc)
store_none m at.Hearing never = (refl, λ e. cc)
store_none m (at.Asking a) never = (refl, by_due (questioned.is_due_at a))
  where
    by_due : (b : Bool) → (if b then wants.Due else wants.Waits) ≢ wants.Stores
    by_due true e = cc
    by_due false e = cc
store_none m (at.Answered given a) never = (refl, λ e. cc)
store_none m (at.Idle given) never = (refl, λ e. cc)
store_none m at.Leaving never = (refl, λ e. cc)
store_none m (at.Ended status) never = (refl, λ e. cc)

-- an answer is to be read where there is one
pub answer_wants : (number : ℕ) (step : Step) → is_some (answer_at number step) ≡ true → wants_at step ≡ wants.Answers
answer_wants number (at.Answered given a) some = refl
answer_wants number (at.Idle given) some = refl
answer_wants number at.Opening some = absurd cc
answer_wants number at.Hearing some = absurd cc
answer_wants number (at.Storing a) some = absurd cc
answer_wants number (at.Asking a) some = absurd cc
answer_wants number at.Leaving some = absurd cc
answer_wants number (at.Ended status) some = absurd cc

pub wants_answer : (number : ℕ) (step : Step) → is_some (answer_at number step) ≡ false → wants_at step ≢ wants.Answers
wants_answer number (at.Answered given a) none e = cc
wants_answer number (at.Idle given) none e = cc
wants_answer number at.Opening none e = cc
wants_answer number at.Hearing none e = cc
wants_answer number (at.Storing a) none e = cc
wants_answer number (at.Asking a) none e = by_due (questioned.is_due_at a) e
  where
    by_due : (b : Bool) → (if b then wants.Due else wants.Waits) ≢ wants.Answers
    by_due true e = cc
    by_due false e = cc
wants_answer number at.Leaving none e = cc
wants_answer number (at.Ended status) none e = cc

-- the farewell has a spelling
pub bye_fits : (version : Version) → IsTrue (fits version messages.Bye)
unfolding fits has_room all_hold
bye_fits version = refl

-- a question that has nothing due wants nothing sent
pub sent_all : (a : QuestionAsking) → questioned.is_due_at a ≡ false → wants_at (at.Asking a) ≢ wants.Due
sent_all a none = by_due (questioned.is_due_at a) none
  where
    by_due : (b : Bool) → b ≡ false → (if b then wants.Due else wants.Waits) ≢ wants.Due
    by_due true none e = cc
    by_due false none e = cc
