-- A side of which no delta was below 0: its total is its weight, so that what is told of the stream says which questions are refused and which are answered without being asked.
use Rattle.std.proofs.Common.{◌≡◌, ℕ, ◌+◌, ◌^◌, ◌<◌, true, false, leb, ℤ, pos, negsuc, ◌≤ℤ◌, ◌+ℤ◌, nat_abs, List, [], ◌∷◌, map, All, Some, None, refl, sym, ap, subst, ◌∙◌, arith}
use Rattle.std.specs.Prelude.{sum_by, int_lt}
use Rattle.std.proofs.lemmas.Bool.{lt-leb, ltb-true, or_parts}
use Rattle.std.proofs.lemmas.Int.{ints}
use Rattle.std.proofs.lemmas.List.Elements.{All-head, All-tail}
use Rattle.std.proofs.lemmas.List.Sums.{sum_by-cons}
use Rattle.sip_field.specs.Moduli.{m61_modulus}
use Rattle.sip_vector.specs.Answers.{pairs}
use Rattle.sip_vector.specs.Streams.{int_sum, of_side, total, vector, weight}
use Rattle.sip_vector.specs.Tallies.{has_negative, tally}
use Rattle.sip_vector.specs.Thresholds.{is_wide, share_of}
use Rattle.sip_vector.specs.declared.query.Query.{Query}
use Rattle.sip_vector.specs.declared.query.Query.TheVariants.{Sub, Range, F2, Inner, Heavy, Share, Above}
use Rattle.sip_vector.specs.declared.update.Side.{Side}
use Rattle.sip_vector.specs.declared.update.Side.TheVariants.{First, Second}
use Rattle.sip_vector.specs.declared.update.Update.{Update}
use Rattle.sip_vector.proofs.Sides.{total-is}
use Rattle.sip_vector.proofs.Splits.{weights_sum}
use Rattle.sip_vector.specs.Splits.{weights}
use Rattle.sip_wire.specs.declared.version.Version.{Version}
use Rattle.sip_heavy.specs.Counting.{heavy_over}
use Rattle.sip_heavy.specs.Protocol.{count_of}
use Rattle.sip_above.specs.declared.large.Large.{Large}
use Rattle.sip_above.specs.Manner.{protocol_of}
use Rattle.sip_verifier.specs.Widths.{is_too_wide}
use Rattle.sip_verifier.specs.runs.Asking.{question_of}
use Rattle.sip_questions.specs.Questions.{asking, first_refusal, refusal_of}
use Rattle.sip_questions.specs.declared.question.Question.{Question}
use Rattle.sip_questions.specs.declared.question.Question.TheVariants as questions
use Rattle.sip_ask.specs.Asking.{none_of}
use Rattle.sip_ask.specs.Choosing.{is_idle, is_signed, is_wide_of, weight_told}
use Rattle.sip_ask.specs.inside.Seating.{IsTested}
use Rattle.sip_ask.proofs.Premises.{any_below, high-told, not-below, told-negative}

-- ---- totals

not-negative : (d : ℤ) → pos 0 ≤ℤ d → d ≡ pos (nat_abs d)
not-negative (pos n) le = refl
not-negative (negsuc n) le = absurd (omega (arith, ints, le))

abbrev sizes : List Update → ℕ
sizes us = sum_by (λ (u : Update). nat_abs u.delta) us

sum-sizes : (us : List Update) → any_below us ≡ false → int_sum (map (λ (u : Update). u.delta) us) ≡ pos (sizes us)
sum-sizes [] none = refl
sum-sizes (u ∷ us) none =
    let both = or_parts (int_lt u.delta (pos 0)) (any_below us) none in
    let own = not-negative u.delta (not-below u.delta both.0) in
    let rest = sum-sizes us both.1 in
    let sum : pos (nat_abs u.delta) +ℤ pos (sizes us) ≡ pos (nat_abs u.delta + sizes us) = refl in
    ap (λ (d : ℤ). d +ℤ int_sum (map (λ (x : Update). x.delta) us)) own
    ∙ ap (λ (z : ℤ). pos (nat_abs u.delta) +ℤ z) rest ∙ sum
    ∙ ap pos (sym (sum_by-cons (λ (x : Update). nat_abs x.delta) u us))

pub weight-told : (stream : List Update) (side : Side) → weight_told (tally stream) side ≡ weight stream side
weight-told stream First = refl
weight-told stream Second = refl

-- the total of a side of which none was below 0
pub total-told : (stream : List Update) (side : Side) → has_negative stream side ≡ false → total stream side ≡ pos (weight_told (tally stream) side)
total-told stream side none = sum-sizes (of_side stream side) none ∙ ap pos (sym (weight-told stream side))

-- ---- refusals

-- a query that is not for large entries of a side with negatives is too wide where what is told says so
query-width : (stream : List Update) (query : Query) → is_signed (tally stream) (questions.Query query) ≡ false
    → is_too_wide stream query ≡ is_wide_of (tally stream) (questions.Query query)
query-width stream (Sub lo hi) own = refl
query-width stream (Range side lo hi) own = refl
query-width stream (F2 side) own = refl
query-width stream Inner own = refl
query-width stream (Heavy side at_least) own = ap (is_wide at_least) (total-told stream side (sym (told-negative stream side) ∙ own))
query-width stream (Share side num den) own =
    ap (λ (n : ℤ). is_wide (share_of num den n) n) (total-told stream side (sym (told-negative stream side) ∙ own))
query-width stream (Above side at_least) own = refl

one-refused : (stream : List Update) (number : ℕ) (q : Question) → IsTested (tally stream) q → refusal_of stream number q ≡ None
one-refused stream number (questions.Query query) tested =
    let narrow = query-width stream query tested.unsigned ∙ tested.narrow in
    rw narrow refl
one-refused stream number (questions.Lookup lookup) tested = refl
one-refused stream number (questions.Large large) tested =
    let narrow = ap (λ (n : ℕ). is_wide large.at_least (pos n)) (sym (weight-told stream large.side)) ∙ tested.narrow in
    rw narrow refl
one-refused stream number (questions.Moment moment) tested =
    let low = high-told stream moment.side moment.degree ∙ tested.low in
    rw low refl

-- none of the questions is refused
pub none-refused : (stream : List Update) (number : ℕ) (asked : List Question) → All (IsTested (tally stream)) asked → first_refusal stream number asked ≡ None
none-refused stream number [] all = refl
none-refused stream number (q ∷ asked) all =
    let here = one-refused stream number q (All-head (IsTested (tally stream)) q asked all) in
    rw here (none-refused stream _ asked (All-tail (IsTested (tally stream)) q asked all))

-- ---- a question that is answered without being asked

-- nothing is asked where the sum is below the threshold
idle-protocol : (version : Version) (depth at_least : ℕ) (numbers : List ℤ) (block : List ℕ) (n : ℕ) → int_sum numbers ≡ pos n → n < at_least
    → (heavy_over version m61_modulus depth at_least numbers block).unasked ≡ Some (pairs [])
idle-protocol version depth at_least numbers block n sum less =
    let count : count_of (int_sum numbers) ≡ n = ap count_of sum in
    let below : leb at_least (count_of (int_sum numbers)) ≡ false = lt-leb at_least (count_of (int_sum numbers)) (omega (arith, count, less)) in
    rw below refl

module _ (version : Version) (depth : ℕ) (stream : List Update) (below : All (λ (u : Update). u.item < 2 ^ depth) stream) where
  -- nothing is said for it, and it has no entry
  pub record AnswersNone (q : Question) (block : List ℕ) : Type 0 where
    pub silent : (asking version depth stream).said_for (question_of q block []) ≡ []
    pub accepts : (asking version depth stream).Accepts (question_of q block []) (none_of q)

  vector-sum : (side : Side) → has_negative stream side ≡ false → int_sum (vector depth stream side) ≡ pos (weight_told (tally stream) side)
  vector-sum side none = sym (total-is depth stream side below) ∙ total-told stream side none

  heavy-none : (side : Side) (at_least : ℕ) (block : List ℕ) → has_negative stream side ≡ false → weight_told (tally stream) side < at_least
      → AnswersNone (questions.Query (Heavy side at_least)) block
  heavy-none side at_least block none less =
      let unasked = idle-protocol version depth at_least (vector depth stream side) block (weight_told (tally stream) side) (vector-sum side none) less in
      record { silent = rw unasked refl; accepts = rw unasked (refl, refl) }

  share-none : (side : Side) (num den : ℕ) (block : List ℕ) → has_negative stream side ≡ false
      → weight_told (tally stream) side < share_of num den (pos (weight_told (tally stream) side))
      → AnswersNone (questions.Query (Share side num den)) block
  share-none side num den block none less =
      let sum = vector-sum side none in
      let here : weight_told (tally stream) side < share_of num den (int_sum (vector depth stream side)) =
      subst (λ (z : ℤ). weight_told (tally stream) side < share_of num den z) (sym sum) less in
      let unasked = idle-protocol version depth (share_of num den (int_sum (vector depth stream side))) (vector depth stream side) block (weight_told (tally stream) side) sum here in
      record { silent = rw unasked refl; accepts = rw unasked (refl, refl) }

  large-none : (large : Large) (block : List ℕ) → weight_told (tally stream) large.side < large.at_least → AnswersNone (questions.Large large) block
  large-none large block less =
      let count : count_of (int_sum (weights depth stream large.side)) ≡ weight_told (tally stream) large.side =
      ap count_of (sym (weights_sum depth stream large.side below)) ∙ sym (weight-told stream large.side) in
      let small : leb large.at_least (count_of (int_sum (weights depth stream large.side))) ≡ false =
      lt-leb large.at_least (count_of (int_sum (weights depth stream large.side))) (omega (arith, count, less)) in
      let unasked : (protocol_of version depth stream (question_of large block [])).unasked ≡ Some (pairs []) = rw small refl in
      record { silent = rw unasked refl; accepts = rw unasked (refl, refl) }

  pub idle-none : (q : Question) (block : List ℕ) → is_signed (tally stream) q ≡ false → is_idle (tally stream) q ≡ true → AnswersNone q block
  idle-none (questions.Query (Heavy side at_least)) block own idle =
      heavy-none side at_least block (sym (told-negative stream side) ∙ own) (ltb-true (weight_told (tally stream) side) at_least idle)
  idle-none (questions.Query (Share side num den)) block own idle =
      share-none side num den block (sym (told-negative stream side) ∙ own)
      (ltb-true (weight_told (tally stream) side) (share_of num den (pos (weight_told (tally stream) side))) idle)
  idle-none (questions.Query (Sub lo hi)) block own idle = absurd cc
  idle-none (questions.Query (Range side lo hi)) block own idle = absurd cc
  idle-none (questions.Query (F2 side)) block own idle = absurd cc
  idle-none (questions.Query Inner) block own idle = absurd cc
  idle-none (questions.Query (Above side at_least)) block own idle = absurd cc
  idle-none (questions.Large large) block own idle = large-none large block (ltb-true (weight_told (tally stream) large.side) large.at_least idle)
  idle-none (questions.Lookup lookup) block own idle = absurd cc
  idle-none (questions.Moment moment) block own idle = absurd cc
