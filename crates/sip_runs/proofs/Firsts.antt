-- What is left to be asked behind the first question.
use Rattle.std.proofs.Common.{◌≡◌, List, [], ◌∷◌, drop, All, sym, ap, subst, ◌∙◌}
use Rattle.std.proofs.lemmas.List.Elements.{All-head, All-tail}
use Rattle.sip_vector.specs.declared.update.Update.{Update}
use Rattle.sip_verifier.specs.Running.{block_of}
use Rattle.sip_questions.specs.declared.question.Question.{Question}
use Rattle.sip_runs.specs.declared.seat.RunSeat.{RunSeat}
use Rattle.sip_runs.specs.declared.to_ask.ToAsk.{ToAsk}
use Rattle.sip_runs.specs.Plans.{Plan}
use Rattle.sip_runs.specs.Runs.{IsFirstOf, IsToBeAsked, behind_first}
use Rattle.sip_runs.specs.Seats.{IsSeated, blocks_of, questions_of}

module _ (p : Plan) (stream : List Update) (old new : ToAsk) (is : IsToBeAsked p stream old) (version : new.version ≡ old.version) (depth : new.depth ≡ old.depth) where
  abbrev Seated : RunSeat → Type 0
  Seated s = IsSeated p.version p.depth stream s

  module _ (seat : RunSeat) (order : old.seats.items ≡ seat ∷ new.seats.items) where
    asks : seat.question ∷ questions_of new.seats.items ≡ p.questions
    asks = sym (ap questions_of order) ∙ is.questions

    at : block_of seat.running ∷ blocks_of new.seats.items ≡ p.blocks
    at = sym (ap blocks_of order) ∙ is.at_blocks

    stand : All Seated (seat ∷ new.seats.items)
    stand = subst (All Seated) order is.seated

    pub first_of : IsFirstOf p stream seat
    first_of = record {
      question = sym asks ∙ ap (λ (l : List Question). seat.question ∷ drop 1 l) asks;
      block = sym at ∙ ap (λ (l : List _). block_of seat.running ∷ drop 1 l) at;
      seated = All-head Seated seat new.seats.items stand;
    }

    pub left_behind : IsToBeAsked (behind_first p) stream new
    left_behind = record {
      version = version ∙ is.version;
      depth = depth ∙ is.depth;
      shallow = is.shallow;
      questions = ap (drop 1) asks;
      at_blocks = ap (drop 1) at;
      legal = is.legal;
      seated = All-tail Seated seat new.seats.items stand;
    }

  -- none was left
  pub none_behind : old.seats.items ≡ [] → new.seats.items ≡ old.seats.items → IsToBeAsked (behind_first p) stream new
  none_behind none same = record {
    version = version ∙ is.version;
    depth = depth ∙ is.depth;
    shallow = is.shallow;
    questions = ap questions_of (same ∙ none) ∙ ap (λ (l : List Question). drop 1 l) (sym (ap questions_of none) ∙ is.questions);
    at_blocks = ap blocks_of (same ∙ none) ∙ ap (λ (l : List _). drop 1 l) (sym (ap blocks_of none) ∙ is.at_blocks);
    legal = is.legal;
    seated = subst (All Seated) (sym same) is.seated;
  }
