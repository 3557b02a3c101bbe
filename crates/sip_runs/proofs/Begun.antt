-- The seats of a run before any update, one after another.
use Rattle.std.proofs.Common.{◌≡◌, ℕ, ◌+◌, ◌*◌, ◌<◌, ◌≤◌, List, [], ◌∷◌, ◌++◌, length, take, drop, get_or, All, refl, sym, ap, ◌∙◌, arith, take_all}
use Rattle.std.proofs.lemmas.List.{map-append, take_more}
use Rattle.std.proofs.lemmas.List.Elements.{All-nil, All-push}
use Rattle.sip_vector.specs.Pieces.{cut, pieces}
use Rattle.sip_wire.specs.declared.version.Version.{Version}
use Rattle.sip_verifier.specs.Running.{block_of}
use Rattle.sip_verifier.proofs.SeatsGiven.{cut-whole, pieces-more}
use Rattle.sip_questions.specs.declared.question.Question.{Question}
use Rattle.sip_questions.specs.Promises.{CanPose}
use Rattle.sip_runs.specs.declared.seat.RunSeat.{RunSeat}
use Rattle.sip_runs.specs.Seats.{IsSeated, blocks_of, questions_of}

-- the seats of the first so many questions, in order
pub record AreBegun (depth levels index : ℕ) (asked : List Question) (numbers : List ℕ) (seats : List RunSeat) : Type 0 where
  pub questions : questions_of seats ≡ take index asked
  pub blocks : blocks_of seats ≡ pieces levels index numbers
  pub seated : (version : Version) → All (CanPose version depth) asked → All (IsSeated version depth []) seats

pub begun_none : (depth levels : ℕ) (asked : List Question) (numbers : List ℕ) → AreBegun depth levels 0 asked numbers []
begun_none depth levels asked numbers = record { questions = refl; blocks = refl; seated = λ version can. All-nil (IsSeated version depth []) }

-- one more
pub begun_more : (depth levels index : ℕ) (asked : List Question) (numbers : List ℕ) (seats : List RunSeat) (d : Question) (s : RunSeat) → AreBegun depth levels index asked numbers seats
    → index < length asked → s.question ≡ get_or asked index d → block_of s.running ≡ take levels (drop (index * levels) numbers)
    → ((version : Version) → CanPose version depth (get_or asked index d) → IsSeated version depth [] s) → AreBegun depth levels (index + 1) asked numbers (seats ++ s ∷ [])
begun_more depth levels index asked numbers seats d s begun lt question block one = record {
  questions = map-append (λ (x : RunSeat). x.question) seats (s ∷ []) ∙ ap (λ l. l ++ s.question ∷ []) begun.questions ∙ ap (λ q. take index asked ++ q ∷ []) question ∙ sym (take_more asked index d lt);
  blocks = map-append (λ (x : RunSeat). block_of x.running) seats (s ∷ []) ∙ ap (λ l. l ++ block_of s.running ∷ []) begun.blocks ∙ ap (λ b. pieces levels index numbers ++ b ∷ []) block ∙ sym (pieces-more levels index numbers);
  seated = λ version can. All-push (IsSeated version depth []) seats s (begun.seated version can) (one version (can index d lt));
}

-- in the end there is one for each
module _ (depth levels index : ℕ) (asked : List Question) (numbers : List ℕ) (seats : List RunSeat) (begun : AreBegun depth levels index asked numbers seats) (whole : index ≡ length asked) where
  pub begun_questions : questions_of seats ≡ asked
  begun_questions = begun.questions ∙ ap (λ n. take n asked) whole ∙ take_all (length asked) asked (omega arith)

  pub begun_blocks : 1 ≤ depth → levels ≡ depth → length numbers ≡ depth * length asked → blocks_of seats ≡ cut depth numbers
  begun_blocks some same size =
      begun.blocks ∙ ap (λ k. pieces k index numbers) same ∙ ap (λ n. pieces depth n numbers) whole ∙ sym (cut-whole depth (length asked) numbers some size)
