-- Room for the most demanding of some questions.
use Rattle.std.proofs.Common.{ℕ, ◌+◌, ◌<◌, ◌≤◌, List, [], ◌∷◌, length, take, get_or, sym, subst, arith}
use Rattle.std.specs.Prelude.{All}
use Rattle.std.proofs.lemmas.List.{take_more}
use Rattle.std.proofs.lemmas.List.Elements.{All-append, All-cons, All-nil}
use Rattle.sip_questions.specs.declared.seat.QuestionSeat.{QuestionSeat}

module _ (need : QuestionSeat → ℕ) where
  -- the greater room is enough for those so far and for one more
  pub enough_more : (most one large i : ℕ) (seats : List QuestionSeat) (d : QuestionSeat) → i < length seats → most ≤ large → one ≤ large → All (λ s. need s ≤ most) (take i seats) → need (get_or seats i d) ≤ one
      → All (λ s. need s ≤ large) (take (i + 1) seats)
  enough_more most one large i seats d less le_most le_one before here =
      let seat = get_or seats i d in
      let Enough : QuestionSeat → Type 0 = λ s. need s ≤ large in
      let all : All Enough (take i seats) = λ k other inside. let small = before k other inside in omega (arith, small, le_most) in
      subst (All Enough) (sym (take_more seats i d less))
      (All-append Enough (take i seats) (seat ∷ []) all (All-cons Enough seat [] (omega (arith, here, le_one)) (All-nil Enough)))
