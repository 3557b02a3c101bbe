-- What a count asks of a question, by what an ask tests.
use Rattle.std.proofs.Common.{◌≡◌, ℕ, ◌^◌, Bool, true, false, cond, ◌==◌, leb, ltb, ℤ, pos, negsuc, ◌≤ℤ◌, List, [], ◌∷◌, map, filter, All, refl, sym, subst, ◌∙◌, inl, inr, arith}
use Rattle.std.specs.Prelude.{IsTrue, int_lt}
use Rattle.std.specs.List.{list_any, range_with_len}
use Rattle.std.proofs.lemmas.Bool.{and_parts, cases_Bool, leb-true, ltb-true, or_parts}
use Rattle.std.proofs.lemmas.Int.{ints}
use Rattle.std.proofs.lemmas.List.Elements.{All-cons, All-filter, All-head, All-map, All-nil, All-tail, filter_passes}
use Rattle.sip_vector.specs.Answers.{Fits}
use Rattle.sip_vector.specs.Built.{is_built}
use Rattle.sip_vector.specs.Streams.{IsStrict, frequency, int_sum, of_side, same_side}
use Rattle.sip_vector.specs.Tallies.{has_negative, tally}
use Rattle.sip_vector.specs.declared.query.Query.{Query}
use Rattle.sip_vector.specs.declared.query.Query.TheVariants.{Sub, Range, F2, Inner, Heavy, Share, Above}
use Rattle.sip_vector.specs.declared.update.Side.{Side}
use Rattle.sip_vector.specs.declared.update.Side.TheVariants.{First, Second}
use Rattle.sip_vector.specs.declared.update.Update.{Update}
use Rattle.sip_wire.specs.Table.{most_degree}
use Rattle.sip_wire.specs.declared.version.Version.{Version}
use Rattle.sip_verifier.specs.Kinds.{OfKind}
use Rattle.sip_verifier.specs.QuerySeats.{does_fit}
use Rattle.sip_verifier.specs.Tasks.{CanBeAsked}
use Rattle.sip_verifier.proofs.SeatsHead.{fits-asked}
use Rattle.sip_above.specs.declared.large.Large.{Large}
use Rattle.sip_above.specs.Questions.{query_of}
use Rattle.sip_lookup.specs.Lookups.{CanLook, item_of}
use Rattle.sip_lookup.specs.declared.lookup.Lookup.{Lookup}
use Rattle.sip_moments.specs.Manner as moments
use Rattle.sip_moments.specs.Moments.{IsDegree, is_too_high, least_degree}
use Rattle.sip_moments.specs.declared.moment.Moment.{Moment}
use Rattle.sip_questions.specs.declared.question.Question.TheVariants as questions
use Rattle.sip_ask.specs.Choosing.{fits, is_high_of, is_signed, negative_told, weight_told}

-- ---- a question that fits

pub query-fits : (depth : ℕ) (query : Query) → IsTrue (fits depth (questions.Query query)) → CanBeAsked depth query
query-fits depth query fit = ((and_parts (is_built query) (does_fit depth query) fit).0, fits-asked depth query fit)

pub lookup-fits : (depth : ℕ) (lookup : Lookup) → IsTrue (fits depth (questions.Lookup lookup)) → CanLook depth lookup
lookup-fits depth lookup fit = ltb-true (item_of lookup) (2 ^ depth) fit

pub moment-fits : (depth : ℕ) (moment : Moment) → IsTrue (fits depth (questions.Moment moment)) → IsDegree moment.degree
moment-fits depth moment fit =
    let both = and_parts (leb least_degree moment.degree) (leb moment.degree most_degree) fit in
    record { least = leb-true least_degree moment.degree both.0; most = leb-true moment.degree most_degree both.1 }

pub large-fits : (depth : ℕ) (l : Large) → IsTrue (fits depth (questions.Large l)) → Fits depth (query_of l)
large-fits depth l fit =
    let both = and_parts (leb 1 l.at_least) (ltb l.at_least (2 ^ 63)) fit in
    (leb-true 1 l.at_least both.0, ltb-true l.at_least (2 ^ 63) both.1)

-- ---- a side that had no delta below 0

-- an update of this side has none
abbrev Above0 : Side → Update → Type 0
Above0 side u = same_side u.side side ≡ true → pos 0 ≤ℤ u.delta

pub not-below : (d : ℤ) → int_lt d (pos 0) ≡ false → pos 0 ≤ℤ d
not-below (pos n) none = omega (arith, ints)
not-below (negsuc n) none = absurd cc

abbrev pub any_below : List Update → Bool
any_below us = list_any (λ (u : Update). int_lt u.delta (pos 0)) us

all-above : (stream : List Update) (side : Side) → any_below (of_side stream side) ≡ false → All (Above0 side) stream
all-above [] side none = All-nil (Above0 side)
all-above (u ∷ us) side none = elim (cases_Bool (same_side u.side side)) [
  | inl own ↦
      let first = subst (λ b. any_below (cond b (u ∷ of_side us side) (of_side us side)) ≡ false) own none in
      let both = or_parts (int_lt u.delta (pos 0)) (any_below (of_side us side)) first in
      All-cons (Above0 side) u us (λ _. not-below u.delta both.0) (all-above us side both.1)
  | inr other ↦
      All-cons (Above0 side) u us (λ own. absurd (let no : false ≡ true = sym other ∙ own in cc)) (all-above us side (subst (λ b. any_below (cond b (u ∷ of_side us side) (of_side us side)) ≡ false) other none))
]

sum-above : (zs : List ℤ) → All (λ z. pos 0 ≤ℤ z) zs → pos 0 ≤ℤ int_sum zs
sum-above [] above = omega (arith, ints)
sum-above (z ∷ zs) above =
    omega (arith, ints, All-head (λ z. pos 0 ≤ℤ z) z zs above, sum-above zs (All-tail (λ z. pos 0 ≤ℤ z) z zs above))

frequency-above : (stream : List Update) (side : Side) (item : ℕ) → All (Above0 side) stream → pos 0 ≤ℤ frequency stream side item
frequency-above stream side item above =
    let of_item = filter (λ (u : Update). u.item == item) stream in
    let own = of_side of_item side in
    let same = All-filter (λ (u : Update). same_side u.side side) (Above0 side) of_item (
    All-filter (λ (u : Update). u.item == item) (Above0 side) stream above) in
    let passes = filter_passes (λ (u : Update). same_side u.side side) of_item in
    sum-above (map (λ (u : Update). u.delta) own)
    (All-map (λ z. pos 0 ≤ℤ z) (λ (u : Update). u.delta) own (λ k d lt. same k d lt (passes k d lt)))

-- so no entry is below 0
pub strict : (depth : ℕ) (stream : List Update) (side : Side) → has_negative stream side ≡ false → IsStrict depth stream side
strict depth stream side none =
    let above = all-above stream side none in
    All-map (λ a. pos 0 ≤ℤ a) (frequency stream side) (range_with_len 0 (2 ^ depth)) (λ k d lt. frequency-above stream side _ above)

pub told-negative : (stream : List Update) (side : Side) → negative_told (tally stream) side ≡ has_negative stream side
told-negative stream First = refl
told-negative stream Second = refl

-- ---- what a count asks of the stream

pub query-counts : (version : Version) (depth : ℕ) (stream : List Update) (query : Query) → IsTrue (fits depth (questions.Query query))
    → is_signed (tally stream) (questions.Query query) ≡ false → OfKind version depth stream query (λ kind. kind.CanBeCounted)
query-counts version depth stream (Sub lo hi) fit unsigned = tt
query-counts version depth stream (Range side lo hi) fit unsigned = tt
query-counts version depth stream (F2 side) fit unsigned = tt
query-counts version depth stream Inner fit unsigned = tt
query-counts version depth stream (Heavy side at_least) fit unsigned = strict depth stream side (sym (told-negative stream side) ∙ unsigned)
query-counts version depth stream (Share side num den) fit unsigned = strict depth stream side (sym (told-negative stream side) ∙ unsigned)
query-counts version depth stream (Above side at_least) fit unsigned = absurd (let no : false ≡ true = fit in cc)

pub high-told : (stream : List Update) (side : Side) (degree : ℕ)
    → moments.is_high stream (record { side = side; degree = degree }) ≡ is_too_high (weight_told (tally stream) side) degree
high-told stream First degree = refl
high-told stream Second degree = refl

pub moment-counts : (depth : ℕ) (stream : List Update) (m : Moment) → IsTrue (fits depth (questions.Moment m))
    → is_high_of (tally stream) (questions.Moment m) ≡ false → moments.CanBeCounted stream m
moment-counts depth stream m fit low = record {
  degree = moment-fits depth m fit;
  low = high-told stream m.side m.degree ∙ low;
}
