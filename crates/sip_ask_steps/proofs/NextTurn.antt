-- The next question has its turn.
use Rattle.std.proofs.Common.{◌≡◌, ℕ, suc, ◌<◌, ◌≤◌, Option, Some, None, List, [], ◌∷◌, length, sym, ap, ◌∙◌, inr, arith}
use Rattle.sip_ports.specs.declared.port.TalkEvent.{TalkEvent}
use Rattle.sip_wire.specs.declared.version.Version.{Version}
use Rattle.sip_questions.specs.declared.asker.QuestionGiven.{QuestionGiven}
use Rattle.sip_questions.specs.declared.question.Question.{Question}
use Rattle.sip_sketch.specs.Sketches.{SketchValues, size_of, spelled_file}
use Rattle.sip_ask.specs.Marking.{mark}
use Rattle.sip_steps.specs.declared.question.QuestionAsking.{QuestionAsking}
use Rattle.sip_ask_steps.specs.Plans.{Plan}
use Rattle.sip_ask_steps.specs.Steps.{AreTurns, IsBefore, IsKept, IsPast, IsToStore}
use Rattle.sip_ask_steps.specs.Told.{IsTold}
use Rattle.sip_ask_steps.specs.declared.turn.Turn.{Turn}
use Rattle.sip_ask_steps.specs.declared.turn.Turn.TheVariants as turns
use Rattle.sip_ask_steps.proofs.Following.{idle_before, next_of}

module _ (p : Plan) (sketch : SketchValues) (number : ℕ) (left : List Turn) (events : List TalkEvent) where
  module _ (place : ℕ) (a : QuestionAsking) where
    -- it takes a seat of the sketch
    inside_by : (asked : List Question) (places : List (Option ℕ)) → IsBefore p events sketch (suc number) asked places → AreTurns p asked places (turns.Takes place a ∷ left) → place < length sketch.seats
    inside_by [] [] b are = absurd are
    inside_by [] (x ∷ places) b are = absurd are
    inside_by (q ∷ asked) [] b are = absurd are
    inside_by (q ∷ asked) (None ∷ places) b are = absurd are.0
    inside_by (q ∷ asked) (Some own ∷ places) b are = omega (arith, are.0.0, are.0.1, b.count)

    pub inside : IsPast p sketch number (turns.Takes place a ∷ left) events → place < length sketch.seats
    inside past = inside_by past.asked past.places past.before past.turns

    -- and the file of that is to be stored
    store_by : (next : SketchValues) (file : List ℕ) → next ≡ mark place sketch → file ≡ spelled_file next → (asked : List Question) (places : List (Option ℕ))
        → IsBefore p events sketch (suc number) asked places → AreTurns p asked places (turns.Takes place a ∷ left) → IsToStore p next (suc number) left events file a
    store_by next file marked is [] [] b are = absurd are
    store_by next file marked is [] (x ∷ places) b are = absurd are
    store_by next file marked is (q ∷ asked) [] b are = absurd are
    store_by next file marked is (q ∷ asked) (None ∷ places) b are = absurd are.0
    store_by next file marked is (q ∷ asked) (Some own ∷ places) b are = record {
      question = q;
      place = own;
      now = sketch;
      hand = record { more = asked; places = places; behind = b; marked = marked ∙ ap (λ (k : ℕ). mark k sketch) are.0.0; turns = are.1 };
      is = is;
      seated = are.0.2;
    }

    pub to_store : (next : SketchValues) (file : List ℕ) → next ≡ mark place sketch → file ≡ spelled_file next → IsPast p sketch number (turns.Takes place a ∷ left) events
        → IsToStore p next (suc number) left events file a
    to_store next file marked is past = store_by next file marked is past.asked past.places past.before past.turns

  -- it is answered without being asked
  idle_by : (given : QuestionGiven) (asked : List Question) (places : List (Option ℕ)) → IsBefore p events sketch (suc number) asked places → AreTurns p asked places (turns.Idle given ∷ left)
      → IsTold p events [] (suc number) given × IsPast p sketch (suc number) left events
  idle_by given [] [] b are = absurd are
  idle_by given [] (x ∷ places) b are = absurd are
  idle_by given (q ∷ asked) [] b are = absurd are
  idle_by given (q ∷ asked) (Some own ∷ places) b are = absurd are.0
  idle_by given (q ∷ asked) (None ∷ places) b are = (
    inr (record {
      question = q;
      next = next_of p events sketch (suc number) q asked None places b;
      idle = are.0.1;
      none = are.0.0;
    }),
    record { asked = asked; places = places; before = idle_before p events sketch (suc number) q asked places b; turns = are.1 },
  )

  pub turned_idle : (given : QuestionGiven) → IsPast p sketch number (turns.Idle given ∷ left) events → IsTold p events [] (suc number) given × IsPast p sketch (suc number) left events
  turned_idle given past = idle_by given past.asked past.places past.before past.turns

-- what is kept when a turn is taken
pub kept_on : (p : Plan) (old new : SketchValues) (number : ℕ) (first : Turn) (left : List Turn) (version : Version) (room now : ℕ) → IsKept p old number (first ∷ left) version room → size_of new ≤ now
    → IsKept p new (suc number) left version now
kept_on p old new number first left version room now k enough = record { plan = k.plan; same_version = k.same_version; enough = enough; few = omega (arith, k.few) }
