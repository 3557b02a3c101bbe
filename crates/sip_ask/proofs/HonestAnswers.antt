-- What an honest helper replies depends on the vectors alone, and it can answer all that an ask tests.
use Rattle.std.proofs.Common.{◌≡◌, ℕ, ◌/◌, ◌^◌, ◌<◌, ◌≤◌, Bool, true, false, ℤ, pos, List, [], get_or, All, refl, sym, ap, ◌∙◌, arith}
use Rattle.std.specs.Prelude.{IsTrue, ◌&&◌, flat_map, nat_le, nat_lt, if◌then◌else◌}
use Rattle.std.proofs.Math.Nat.{div-eq_of_lt}
use Rattle.std.proofs.lemmas.Bool.{leb-false, ltb-false}
use Rattle.sip_field.specs.Moduli.{m61_modulus}
use Rattle.sip_vector.specs.Extensions.{ones}
use Rattle.sip_vector.specs.Splits.{weights}
use Rattle.sip_vector.specs.Streams.{int_sum, total, vector, weight}
use Rattle.sip_vector.specs.Tallies.{has_negative, tally}
use Rattle.sip_vector.specs.Thresholds.{is_wide, most_hitters, share_of}
use Rattle.sip_vector.specs.declared.query.Query.{Query}
use Rattle.sip_vector.specs.declared.query.Query.TheVariants.{Sub, Range, F2, Inner, Heavy, Share, Above}
use Rattle.sip_vector.specs.declared.update.Side.{Side}
use Rattle.sip_vector.specs.declared.update.Side.TheVariants.{First, Second}
use Rattle.sip_vector.specs.declared.update.Update.{Update}
use Rattle.sip_vector.proofs.Sides.{total-is}
use Rattle.sip_wire.specs.declared.version.Version.{Version}
use Rattle.sip_heavy.specs.Honest as honest_heavy
use Rattle.sip_heavy.specs.HonestMarks.{above_replies}
use Rattle.sip_heavy.specs.Protocol.{count_of}
use Rattle.sip_verifier.specs.CompletenessClause as queries
use Rattle.sip_verifier.specs.Kinds.{sub_kind_over, sum_kind_over}
use Rattle.sip_lookup.specs.Honest.{honest_looks}
use Rattle.sip_moments.specs.Honest as honest_moments
use Rattle.sip_questions.specs.Honest.{CanAnswer, honest_bytes}
use Rattle.sip_questions.specs.declared.question.Question.{Question}
use Rattle.sip_questions.specs.declared.question.Question.TheVariants as questions
use Rattle.sip_ask.specs.Choosing.{fits}
use Rattle.sip_ask.specs.Completeness.{HasRoom}
use Rattle.sip_ask.specs.inside.Seating.{IsTested}
use Rattle.sip_ask.proofs.Premises.{lookup-fits, moment-counts, strict, told-negative}
use Rattle.sip_ask.proofs.Unsigned.{total-told, weight-told}

-- ---- replies by the vectors

module _ (version : Version) (depth : ℕ) (store stream : List Update) (same : (side : Side) → vector depth store side ≡ vector depth stream side) (heavy : (side : Side) → weights depth store side ≡ weights depth stream side) where
  -- about the large entries of a side
  abbrev large_bytes : ℕ → List ℕ → List ℤ → List ℕ
  large_bytes at_least block numbers =
      flat_map (λ b. b) (if nat_le at_least (count_of (int_sum numbers)) then honest_heavy.honest_replies version m61_modulus numbers at_least block else [])

  query-same : (query : Query) (block : List ℕ) → queries.honest_bytes version depth store (query, block) ≡ queries.honest_bytes version depth stream (query, block)
  query-same (Sub lo hi) block = λ i. flat_map (λ b. b) ((sub_kind_over version m61_modulus (same First i) lo hi).honest block)
  query-same (Range side lo hi) block = λ i. flat_map (λ b. b) ((sum_kind_over version m61_modulus depth (same side i) (ones depth lo hi)).honest block)
  query-same (F2 side) block = λ i. flat_map (λ b. b) ((sum_kind_over version m61_modulus depth (same side i) (same side i)).honest block)
  query-same Inner block = λ i. flat_map (λ b. b) ((sum_kind_over version m61_modulus depth (same First i) (same Second i)).honest block)
  query-same (Heavy side at_least) block = ap (large_bytes at_least block) (same side)
  query-same (Share side num den) block = ap (λ (numbers : List ℤ). large_bytes (share_of num den (int_sum numbers)) block numbers) (same side)
  query-same (Above side at_least) block = refl

  question-same : (q : Question) (block : List ℕ) → honest_bytes version depth store block q ≡ honest_bytes version depth stream block q
  question-same (questions.Query query) block = query-same query block
  question-same (questions.Lookup lookup) block = ap (λ (numbers : List ℤ). flat_map (λ b. b) (honest_looks version depth numbers lookup block)) (same First)
  question-same (questions.Moment moment) block =
      ap (λ (numbers : List ℤ). flat_map (λ b. b) (honest_moments.honest_replies version m61_modulus moment.degree depth numbers block)) (same moment.side)
  question-same (questions.Large large) block = λ i.
      if nat_le large.at_least (count_of (int_sum (heavy large.side i)))
      then flat_map (λ b. b) (above_replies m61_modulus (same large.side i) (heavy large.side i) large.at_least block)
      else []

  pub questions-same : (asks : List (Question × List ℕ))
      → flat_map (λ ask. honest_bytes version depth store ask.1 ask.0) asks ≡ flat_map (λ ask. honest_bytes version depth stream ask.1 ask.0) asks
  questions-same asks = λ i. flat_map (λ (ask : Question × List ℕ). question-same ask.0 ask.1 i) asks

-- ---- what can be answered

-- a weight that is not too wide has few entries of at least a threshold
few-where-narrow : (t n : ℕ) → is_wide t (pos n) ≡ false → n / t ≤ most_hitters
few-where-narrow t n narrow = by_tests (nat_le t n) (nat_lt most_hitters (n / t)) refl refl narrow
  where
    by_tests : (a b : Bool) → nat_le t n ≡ a → nat_lt most_hitters (n / t) ≡ b → (a && b) ≡ false → n / t ≤ most_hitters
    by_tests a false is also narrowed = ltb-false most_hitters (n / t) also
    by_tests true true is also narrowed = absurd cc
    by_tests false true is also narrowed =
        let small : n < t = leb-false t n is in
        let none : n / t ≡ 0 = div-eq_of_lt small in
        omega (arith, none)

module _ (version : Version) (depth : ℕ) (stream : List Update) (below : All (λ (u : Update). u.item < 2 ^ depth) stream) where
  query-answers : (query : Query) → IsTrue (fits depth (questions.Query query)) → IsTested (tally stream) (questions.Query query) → HasRoom depth stream (questions.Query query)
      → queries.HasFewEntries version depth stream query
  query-answers (Sub lo hi) fit tested room = room
  query-answers (Range side lo hi) fit tested room = tt
  query-answers (F2 side) fit tested room = tt
  query-answers Inner fit tested room = tt
  query-answers (Heavy side at_least) fit tested room =
      let none : has_negative stream side ≡ false = sym (told-negative stream side) ∙ tested.unsigned in
      (strict depth stream side none, ap (is_wide at_least) (total-told stream side none) ∙ tested.narrow)
  query-answers (Share side num den) fit tested room =
      let none : has_negative stream side ≡ false = sym (told-negative stream side) ∙ tested.unsigned in (
        strict depth stream side none,
        ap (λ (n : ℤ). is_wide (share_of num den n) (total stream side)) (sym (total-is depth stream side below))
            ∙ ap (λ (n : ℤ). is_wide (share_of num den n) n) (total-told stream side none) ∙ tested.narrow,
      )
  query-answers (Above side at_least) fit tested room = absurd (let no : false ≡ true = fit in cc)

  question-answers : (q : Question) → IsTrue (fits depth q) → IsTested (tally stream) q → HasRoom depth stream q → CanAnswer version depth stream q
  question-answers (questions.Query query) fit tested room = query-answers query fit tested room
  question-answers (questions.Lookup lookup) fit tested room = lookup-fits depth lookup fit
  question-answers (questions.Moment moment) fit tested room = moment-counts depth stream moment fit tested.low
  question-answers (questions.Large large) fit tested room =
      few-where-narrow large.at_least (weight stream large.side) (ap (λ (n : ℕ). is_wide large.at_least (pos n)) (sym (weight-told stream large.side)) ∙ tested.narrow)

  pub all-answer : (asked : List Question) → All (λ q. IsTrue (fits depth q)) asked → All (IsTested (tally stream)) asked → All (HasRoom depth stream) asked
      → All (CanAnswer version depth stream) asked
  all-answer asked fit tested room = λ k d lt. question-answers (get_or asked k d) (fit k d lt) (tested k d lt) (room k d lt)
