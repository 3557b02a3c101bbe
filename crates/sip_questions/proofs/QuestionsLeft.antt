-- The questions that are left to be asked, each at its seat.
use Rattle.std.proofs.Common.{◌≡◌, ℕ, Bool, ◌+◌, ◌<◌, List, ◌∷◌, length, drop, get_or, map, sym, ap, subst, ◌∙◌, arith, length-drop}
use Rattle.std.specs.Prelude.{All}
use Rattle.std.proofs.lemmas.List.{drop-drop, drop-map, drop_more, length-map}
use Rattle.std.proofs.lemmas.List.Elements.{All-drop, All-head}
use Rattle.sip_vector.specs.declared.update.Entry.{Entry}
use Rattle.sip_vector.specs.declared.update.Update.{Update}
use Rattle.sip_wire.specs.declared.version.Version.{Version}
use Rattle.sip_verifier.specs.runs.Askers.{IsFirst, behind}
use Rattle.sip_questions.specs.declared.question.Question.{Question}
use Rattle.sip_questions.specs.declared.seat.QuestionSeat.{QuestionSeat}
use Rattle.sip_questions.specs.Sittings.{QuestionSitting, StandsAt, StandsOn, ask_at, remaining_of}

-- what is seen of them once n of them were asked
abbrev pub sitting_at : Version → ℕ → List QuestionSeat → ℕ → List Entry → Bool → QuestionSitting
sitting_at version depth seats n entries spent = record { version = version; depth = depth; left = drop n seats; entries = entries; spent = spent }

module _ (version : Version) (depth : ℕ) (seats : List QuestionSeat) (n : ℕ) (entries : List Entry) (was : Bool) where
  abbrev sitting : QuestionSitting
  sitting = sitting_at version depth seats n entries was

  -- there is a next one
  pub still_left : 0 < length (remaining_of sitting).left → n < length seats
  still_left left = omega (arith, left, length-map (drop n seats) ask_at, length-drop n seats)

  module _ (d : QuestionSeat) (less : n < length seats) where
    -- the first is asked at its seat
    pub first_is : (ask : Question × List ℕ) → IsFirst (remaining_of sitting) ask → ask_at (get_or seats n d) ≡ ask
    first_is ask first =
        let own : ask_at (get_or seats n d) ∷ map ask_at (drop (n + 1) seats) ≡ ask ∷ first.more = sym (ap (map ask_at) (drop_more seats n d less)) ∙ first.first in
        cc

    -- which stands for the stream
    pub first_stands : (stream : List Update) → StandsOn stream sitting → StandsAt depth stream (get_or seats n d)
    first_stands stream stands = All-head (StandsAt depth stream) (get_or seats n d) (drop (n + 1) seats) (subst (All (StandsAt depth stream)) (drop_more seats n d less) stands)

  -- one is left less, and a call failed or not
  pub behind_now : (more : List Entry) (failed : Bool) → remaining_of (sitting_at version depth seats (n + 1) more failed) ≡ behind failed (remaining_of sitting)
  behind_now more failed =
      let less : map ask_at (drop (n + 1) seats) ≡ drop 1 (map ask_at (drop n seats)) = ap (map ask_at) (sym (drop-drop 1 n seats)) ∙ sym (drop-map ask_at 1 (drop n seats)) in
      ap (λ (l : List (Question × List ℕ)). record (remaining_of sitting) { left = l; spent = failed }) less

  -- and those behind stand as before
  pub stand_behind : (more : List Entry) (failed : Bool) (stream : List Update) → StandsOn stream sitting → StandsOn stream (sitting_at version depth seats (n + 1) more failed)
  stand_behind more failed stream stands =
      subst (All (StandsAt depth stream)) (drop-drop 1 n seats) (All-drop (StandsAt depth stream) 1 (drop n seats) stands)
