-- One question was done, and the next one follows.
use Rattle.std.proofs.Common.{◌≡◌, ℕ, suc, Ok, Option, Some, None, List, [], ◌∷◌, ◌++◌, refl, sym, subst, ◌∙◌, append_assoc, arith}
use Rattle.std.proofs.lemmas.List.{length-append}
use Rattle.sip_ports.specs.Desk.{IsOfLink}
use Rattle.sip_ports.specs.declared.port.TalkEvent.{TalkEvent}
use Rattle.sip_ports.proofs.TalkLemmas.{GoesOn-refl}
use Rattle.sip_vector.specs.declared.update.Update.{Update}
use Rattle.sip_verifier.specs.runs.Askers.{IsGiven}
use Rattle.sip_verifier.specs.runs.Asking.{IsAnswered}
use Rattle.sip_questions.specs.Questions.{Answered}
use Rattle.sip_questions.specs.declared.question.Question.{Question}
use Rattle.sip_sketch.specs.Sketches.{SketchValues}
use Rattle.sip_sketch.specs.Standing.{Stands}
use Rattle.sip_ask.specs.Asking.{Came, marked_by, steps_of}
use Rattle.sip_ask.specs.Turns.{block_at}
use Rattle.sip_ask.specs.inside.Steps.{StoresSeat}
use Rattle.sip_ask.proofs.TurnsTaken.{asks_more, next_block, next_count, stores_more}
use Rattle.sip_ask_steps.specs.Plans.{IsNext, Plan, manner_of, version_of}
use Rattle.sip_ask_steps.specs.Steps.{IsBefore}
use Rattle.sip_ask_steps.proofs.Stopping.{answered_at, joined, joined_behind}

depth_same : (place : Option ℕ) (s : SketchValues) → (marked_by place s).depth ≡ s.depth
depth_same None s = refl
depth_same (Some place) s = refl

module _ (p : Plan) (before : List TalkEvent) (now : SketchValues) (number : ℕ) (question : Question) (more : List Question) (place : Option ℕ) (places : List (Option ℕ))
    (b : IsBefore p before now number (question ∷ more) (place ∷ places)) where
  -- the question at hand is the one with this number
  pub next_of : IsNext p number question place
  next_of = record { front = b.front; more = more; asked = b.asked; taken = b.taken; rest = places; places = b.seats; paired = b.paired; counted = b.counted }

  -- it was done
  pub advance : (events : List TalkEvent)
      → ((stream : List Update) → Stands stream p.sketch → (talk : List TalkEvent)
      → Came (manner_of p stream) now number question (Some (talk ++ before)) (Some (talk ++ events)) None None place (Ok tt))
      → ((talk : List TalkEvent) → StoresSeat now place (Some (talk ++ before)) (Some (talk ++ events)) (Ok tt))
      → IsBefore p events (marked_by place now) (suc number) more places
  advance events came stores = record {
    front = b.front ++ question ∷ [];
    asked = b.asked ∙ sym (append_assoc b.front (question ∷ []) more);
    taken = b.taken ++ place ∷ [];
    seats = b.seats ∙ sym (append_assoc b.taken (place ∷ []) places);
    paired = let one = length-append b.taken (place ∷ []) in let other = length-append b.front (question ∷ []) in omega (arith, one, other, b.paired);
    counted = let other = length-append b.front (question ∷ []) in omega (arith, other, b.counted);
    heard = b.heard;
    depth = depth_same place now ∙ b.depth;
    count = next_count place now (marked_by place now) refl ∙ b.count;
    blocks = λ k. next_block place now (marked_by place now) k refl ∙ b.blocks k;
    asks = λ stream stands talk new result rest. b.asks stream stands talk new result
        (asks_more (version_of p) (manner_of p stream) now number question more place places (Ok tt) (marked_by place now) (suc number) (Some (talk ++ before)) (Some (talk ++ events)) new None None None
        result tt refl (came stream stands talk) refl refl rest);
    stores = λ talk new rest. b.stores talk new
        (stores_more (version_of p) now (marked_by place now) place places (Some (talk ++ before)) (Some (talk ++ events)) new (Ok tt) tt refl (stores talk) refl rest);
  }

-- it was asked on its seat and answered
module _ (p : Plan) (before events said : List TalkEvent) (now : SketchValues) (number place : ℕ) (question : Question) (more : List Question) (places : List (Option ℕ))
    (b : IsBefore p before now number (question ∷ more) (Some place ∷ places)) (all : events ≡ before ++ (steps_of now place ++ said)) (link : IsOfLink said)
    (States : Answered → Type 0)
    (given : (stream : List Update) → Stands stream p.sketch → IsGiven (manner_of p stream) (question, block_at place p.sketch.seats) (Some []) (Some said) States) where
  pub answered_before : IsBefore p events (marked_by (Some place) now) (suc number) more places
  answered_before =
      advance p before now number question more (Some place) places b events
      (λ stream stands talk.
      let g = given stream stands in
      let old = Some ((talk ++ before) ++ steps_of now place) in
      let goes = joined talk before (steps_of now place) said events all in
      record {
        mid = old;
        stored = refl;
        checks = record {
          answer = g.answer;
          answered = subst (λ (block : List ℕ). IsAnswered (manner_of p stream) question block old (Some (talk ++ events)) g.answer) (sym (b.blocks place))
              (answered_at (manner_of p stream) question (block_at place p.sketch.seats) said old (Some (talk ++ events)) goes g.answer g.answered);
          wrote = tt;
        };
      })
      (λ talk. record { said = said; link = link; talk = joined_behind talk before (steps_of now place) said events all })

-- it was answered without being asked
pub idle_before : (p : Plan) (events : List TalkEvent) (now : SketchValues) (number : ℕ) (question : Question) (more : List Question) (places : List (Option ℕ))
    → IsBefore p events now number (question ∷ more) (None ∷ places) → IsBefore p events now (suc number) more places
idle_before p events now number question more places b =
    advance p events now number question more None places b events (λ stream stands talk. (GoesOn-refl (Some (talk ++ events)), tt)) (λ talk. refl)
