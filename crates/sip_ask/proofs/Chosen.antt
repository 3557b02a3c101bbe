-- Which seat each question takes: one that serves it and was not used, or none where it is answered without being asked.
use Rattle.std.proofs.Common.{◌≡◌, ◌⊎◌, ◌≢◌, ℕ, zero, suc, ◌+◌, ◌<◌, ◌≤◌, Bool, true, false, not, cond, List, [], ◌∷◌, ◌++◌, length, drop, get_or, All, Option, Some, None, inl, inr, refl, sym, ap, subst, ◌∙◌, append_assoc, append-nil, arith}
use Rattle.std.specs.Prelude.{⊤, IsTrue, ◌&&◌, ◌||◌, ◌==◌, Result, Ok, Err}
use Rattle.std.specs.List.{AllZip, list_any}
use Rattle.std.proofs.lemmas.Bool.{and_parts, cases_Bool, eqb-false, eqb-true, not-true, or_parts}
use Rattle.std.proofs.lemmas.List.{drop_more}
use Rattle.sip_sketch.specs.Fields.{on}
use Rattle.sip_sketch.specs.Sketches.{SeatValues, SketchValues, code_of}
use Rattle.sip_sketch.specs.declared.kind.SeatKind.{SeatKind}
use Rattle.sip_sketch.specs.declared.kind.SeatKind.TheVariants as kinds
use Rattle.sip_sketch.proofs.Apart.{kinds_same}
use Rattle.sip_questions.specs.declared.question.Question.{Question}
use Rattle.sip_ask.specs.Asking.{marked_by}
use Rattle.sip_ask.specs.Choosing.{choice, fits, free_from, is_free, is_high_of, is_idle, is_place, is_signed, is_wide_of, kind_for, seat_for, seats_for, small_at}
use Rattle.sip_ask.specs.Turns.{block_at}
use Rattle.sip_ask.specs.Marking.{is_used_at, used_at}
use Rattle.sip_ask.specs.inside.Seating.{IsTested, Serves, Takes}
use Rattle.sip_ask.specs.inside.Steps.{asks_at}
use Rattle.sip_ask.specs.declared.status.AskStatus.{AskStatus}
use Rattle.sip_ask.specs.declared.status.AskStatus.TheVariants as statuses
use Rattle.sip_sketch.proofs.Marked.{length-used}
use Rattle.sip_ask.proofs.Tested.{all-fitting, bound, chosen-tried, passed, seats-unsigned, small-low, small-narrow}

-- ---- a free seat

found-here : (from place : ℕ) (b : Bool) (later : Option ℕ) → b ≡ true → cond b (Some from) later ≡ Some place → from ≡ place
found-here from place true later is e = cc
found-here from place false later is e = absurd cc

found-later : (from place : ℕ) (b : Bool) (later : Option ℕ) → b ≡ false → cond b (Some from) later ≡ Some place → later ≡ Some place
found-later from place true later is e = absurd cc
found-later from place false later is e = e

-- the first one is inside, and free
free-found : (kind : SeatKind) (taken : List (Option ℕ)) (from : ℕ) (seats : List SeatValues) (place : ℕ) → free_from kind taken from seats ≡ Some place
    → (k : ℕ) × (place ≡ from + k) × (k < length seats) × ((d : SeatValues) → is_free kind taken place (get_or seats k d) ≡ true)
free-found kind taken from [] place e = absurd cc
free-found kind taken from (seat ∷ seats) place e = elim (cases_Bool (is_free kind taken from seat)) [
  | inl is ↦
      let same = found-here from place (is_free kind taken from seat) (free_from kind taken (suc from) seats) is e in
      (0, omega (arith, same), omega arith, λ d. subst (λ (p : ℕ). is_free kind taken p seat ≡ true) same is)
  | inr taken_now ↦
      let rest = free-found kind taken (suc from) seats place (found-later from place (is_free kind taken from seat) (free_from kind taken (suc from) seats) taken_now e) in
      (suc rest.0, omega (arith, rest.1), omega (arith, rest.2), rest.3)
]

free-serves : (s : SketchValues) (q : Question) (taken : List (Option ℕ)) (place : ℕ) → free_from (kind_for q) taken 0 s.seats ≡ Some place → Serves s q place
free-serves s q taken place e =
    let found = free-found (kind_for q) taken 0 s.seats place e in
    let same : found.0 ≡ place = omega (arith, found.1) in
    record {
      inside = subst (λ (k : ℕ). k < length s.seats) same found.2;
      seat = λ d.
          let at : is_free (kind_for q) taken place (get_or s.seats place d) ≡ true =
          subst (λ (k : ℕ). is_free (kind_for q) taken place (get_or s.seats k d) ≡ true) same (found.3 d) in
          let seat = get_or s.seats place d in
          let both = and_parts (code_of seat.kind == code_of (kind_for q)) (not seat.is_used && not (list_any (is_place place) taken)) at in
          let free = and_parts (not seat.is_used) (not (list_any (is_place place) taken)) both.1 in
          record { kind = kinds_same seat.kind (kind_for q) (eqb-true (code_of seat.kind) (code_of (kind_for q)) both.0); unused = not-true seat.is_used free.0 };
    }

-- ---- the seat of one question

-- the seat that a question takes that is not signed
abbrev Tested : Bool → AskStatus → Bool → AskStatus → Option ℕ → Result (Option ℕ) AskStatus
Tested signed why idle none found = cond signed (Err why) (cond idle (Ok None) (on found (Err none) (λ place. Ok (Some place))))

by-tests : (signed idle : Bool) (why none : AskStatus) (found place : Option ℕ) → Tested signed why idle none found ≡ Ok place
    → ((place ≡ None) × (idle ≡ true)) ⊎ ((k : ℕ) × (place ≡ Some k) × (found ≡ Some k) × (idle ≡ false))
by-tests true idle why none found place e = absurd cc
by-tests false true why none found place e = inl (cc, refl)
by-tests false false why none None place e = absurd cc
by-tests false false why none (Some k) place e = inr (k, cc, refl, refl)

seat-takes : (s : SketchValues) (taken : List (Option ℕ)) (q : Question) (place : Option ℕ) → seat_for s taken q ≡ Ok place → Takes s q place
seat-takes s taken q place e =
    elim (by-tests (is_signed s.tally q) (is_idle s.tally q) (statuses.Signed (length taken + 1)) (statuses.NoSeat (length taken + 1)) (free_from (kind_for q) taken 0 s.seats) place e) [
      | inl idle ↦ subst (Takes s q) (sym idle.0) idle.1
      | inr asks ↦ subst (Takes s q) (sym asks.1) (free-serves s q taken asks.0 asks.2, asks.3)
    ]

-- ---- those of all questions

seats-take : (s : SketchValues) (taken : List (Option ℕ)) (asked : List Question) (places : List (Option ℕ)) → seats_for s taken asked ≡ Ok places
    → (new : List (Option ℕ)) × (places ≡ taken ++ new) × AllZip (Takes s) asked new
seats-take s taken [] places e =
    let same : taken ≡ places = cc in
    ([], sym same ∙ sym (append-nil taken), tt)
seats-take s taken (q ∷ asked) places e =
    let b = bound (seat_for s taken q) (λ place. seats_for s (taken ++ place ∷ []) asked) places e in
    let rest = seats-take s (taken ++ b.0 ∷ []) asked places b.2 in
    (b.0 ∷ rest.0, rest.1 ∙ append_assoc taken (b.0 ∷ []) rest.0, (seat-takes s taken q b.0 b.1, rest.2))

-- where they are chosen, each fits and takes one
pub record IsChosen (s : SketchValues) (asked : List Question) (places : List (Option ℕ)) : Type 0 where
  pub fit : All (λ q. IsTrue (fits s.depth q)) asked
  pub take : AllZip (Takes s) asked places
  pub tested : All (IsTested s.tally) asked

pub chosen-is : (s : SketchValues) (asked : List Question) (places : List (Option ℕ)) → choice s asked ≡ Ok places → IsChosen s asked places
chosen-is s asked places e =
    let tried = chosen-tried s asked places e in
    let seats = seats-take s [] asked places tried.seated in
    record {
      fit = all-fitting s.depth asked tried.fit;
      take = subst (AllZip (Takes s) asked) (sym seats.1) seats.2;
      tested =
          let unsigned = seats-unsigned s [] asked places tried.seated in
          let narrow = passed (small_at s.tally) (λ q. is_wide_of s.tally q ≡ false) (small-narrow s.tally) 1 asked tried.tested tried.small in
          let low = passed (small_at s.tally) (λ q. is_high_of s.tally q ≡ false) (small-low s.tally) 1 asked tried.tested tried.small in
          λ k d lt. record { unsigned = unsigned k d lt; narrow = narrow k d lt; low = low k d lt };
    }

-- ---- the questions that take seats

pub asks-few : (s : SketchValues) (asked : List Question) (places : List (Option ℕ)) → length (asks_at s asked places) ≤ length asked
asks-few s [] places = omega arith
asks-few s (q ∷ asked) [] = omega arith
asks-few s (q ∷ asked) (None ∷ places) = let rest = asks-few s asked places in omega (arith, rest)
asks-few s (q ∷ asked) (Some place ∷ places) = let rest = asks-few s asked places in omega (arith, rest)

-- the first is idle, so that the others are asked
pub asks-none : (s : SketchValues) (asked : List Question) (places : List (Option ℕ)) (i : ℕ) (d : Question) (p : Option ℕ) → i < length asked → i < length places
    → get_or places i p ≡ None → asks_at s (drop i asked) (drop i places) ≡ asks_at s (drop (i + 1) asked) (drop (i + 1) places)
asks-none s asked places i d p la lp none =
    let first : drop i asked ≡ get_or asked i d ∷ drop (i + 1) asked = drop_more asked i d la in
    let place : drop i places ≡ None ∷ drop (i + 1) places = drop_more places i p lp ∙ ap (λ (o : Option ℕ). o ∷ drop (i + 1) places) none in
    rw (first, place) refl

-- the first is asked at its seat, and then the others
pub asks-some : (s : SketchValues) (asked : List Question) (places : List (Option ℕ)) (i place : ℕ) (d : Question) (p : Option ℕ) → i < length asked → i < length places
    → get_or places i p ≡ Some place
    → asks_at s (drop i asked) (drop i places) ≡ (get_or asked i d, block_at place s.seats) ∷ asks_at s (drop (i + 1) asked) (drop (i + 1) places)
asks-some s asked places i place d p la lp some =
    let first : drop i asked ≡ get_or asked i d ∷ drop (i + 1) asked = drop_more asked i d la in
    let own : drop i places ≡ Some place ∷ drop (i + 1) places = drop_more places i p lp ∙ ap (λ (o : Option ℕ). o ∷ drop (i + 1) places) some in
    rw (first, own) refl

-- ---- what is seen of a seat at its place

pub block-at : (seats : List SeatValues) (place : ℕ) (d : SeatValues) → place < length seats → block_at place seats ≡ (get_or seats place d).block
block-at [] place d lt = absurd (omega (arith, lt))
block-at (x ∷ seats) zero d lt = refl
block-at (x ∷ seats) (suc place) d lt = block-at seats place d (omega (arith, lt))

pub used-at : (seats : List SeatValues) (place : ℕ) (d : SeatValues) → place < length seats → is_used_at place seats ≡ (get_or seats place d).is_used
used-at [] place d lt = absurd (omega (arith, lt))
used-at (x ∷ seats) zero d lt = refl
used-at (x ∷ seats) (suc place) d lt = used-at seats place d (omega (arith, lt))

-- ---- no seat is taken twice

-- the place that is taken is none of those before it
free-apart : (s : SketchValues) (q : Question) (taken : List (Option ℕ)) (place : ℕ) → free_from (kind_for q) taken 0 s.seats ≡ Some place → list_any (is_place place) taken ≡ false
free-apart s q taken place e =
    let found = free-found (kind_for q) taken 0 s.seats place e in
    let d : SeatValues = record { kind = kinds.Entries; is_used = false; block = []; first = 0; second = 0 } in
    let seat = get_or s.seats found.0 d in
    let both = and_parts (code_of seat.kind == code_of (kind_for q)) (not seat.is_used && not (list_any (is_place place) taken)) (found.3 d) in
    let free = and_parts (not seat.is_used) (not (list_any (is_place place) taken)) both.1 in
    not-true (list_any (is_place place) taken) free.1

-- the seat of a question, which is none of those before it
abbrev TakesApart : SketchValues → List (Option ℕ) → Option ℕ → Type 0
TakesApart s taken None = ⊤
TakesApart s taken (Some place) = (place < length s.seats) × (is_used_at place s.seats ≡ false) × (list_any (is_place place) taken ≡ false)

seat-apart : (s : SketchValues) (taken : List (Option ℕ)) (q : Question) (place : Option ℕ) → seat_for s taken q ≡ Ok place → TakesApart s taken place
seat-apart s taken q place e =
    elim (by-tests (is_signed s.tally q) (is_idle s.tally q) (statuses.Signed (length taken + 1)) (statuses.NoSeat (length taken + 1)) (free_from (kind_for q) taken 0 s.seats) place e) [
      | inl idle ↦ subst (TakesApart s taken) (sym idle.0) tt
      | inr asks ↦
          let serves = free-serves s q taken asks.0 asks.2 in
          let d : SeatValues = record { kind = kinds.Entries; is_used = false; block = []; first = 0; second = 0 } in
          subst (TakesApart s taken) (sym asks.1)
          (serves.inside, used-at s.seats asks.0 d serves.inside ∙ (serves.seat d).unused, free-apart s q taken asks.0 asks.2)
    ]

-- a seat that is unused, if one is taken
abbrev pub IsUnused : SketchValues → Option ℕ → Type 0
IsUnused s None = ⊤
IsUnused s (Some place) = (place < length s.seats) × (is_used_at place s.seats ≡ false)

-- each takes a seat that is unused behind those before it
abbrev pub AreFree : SketchValues → List (Option ℕ) → Type 0
AreFree s [] = ⊤
AreFree s (place ∷ places) = IsUnused s place × AreFree (marked_by place s) places

-- a sketch behind those that were taken: as many seats, and those that neither it nor they have used are unused
record IsBehind (s : SketchValues) (taken : List (Option ℕ)) (now : SketchValues) : Type 0 where
  same : length now.seats ≡ length s.seats
  unused : (k : ℕ) → is_used_at k s.seats ≡ false → list_any (is_place k) taken ≡ false → is_used_at k now.seats ≡ false

used-other : (place k : ℕ) (seats : List SeatValues) → k ≢ place → is_used_at k (used_at place seats) ≡ is_used_at k seats
used-other zero k [] other = refl
used-other (suc place) k [] other = refl
used-other zero zero (x ∷ xs) other = absurd (other refl)
used-other zero (suc k) (x ∷ xs) other = refl
used-other (suc place) zero (x ∷ xs) other = refl
used-other (suc place) (suc k) (x ∷ xs) other = used-other place k xs (λ e. other (ap suc e))

any-last : (k : ℕ) (taken : List (Option ℕ)) (place : Option ℕ) → list_any (is_place k) (taken ++ place ∷ []) ≡ false
    → (list_any (is_place k) taken ≡ false) × (is_place k place ≡ false)
any-last k [] place none = (refl, (or_parts (is_place k place) false none).0)
any-last k (x ∷ taken) place none =
    let both = or_parts (is_place k x) (list_any (is_place k) (taken ++ place ∷ [])) none in
    let rest = any-last k taken place both.1 in
    (or_from (is_place k x) (list_any (is_place k) taken) both.0 rest.0, rest.1)
  where
    or_from : (a b : Bool) → a ≡ false → b ≡ false → (a || b) ≡ false
    or_from true b is e = absurd cc
    or_from false b is e = e

apart-places : (k place : ℕ) → is_place k (Some place) ≡ false → k ≢ place
apart-places k place none same = eqb-false place k none (sym same)

behind-more : (s now : SketchValues) (taken : List (Option ℕ)) (place : Option ℕ) → IsBehind s taken now → IsBehind s (taken ++ place ∷ []) (marked_by place now)
behind-more s now taken None b = record { same = b.same; unused = λ k free none. b.unused k free (any-last k taken None none).0 }
behind-more s now taken (Some place) b = record {
  same = length-used place now.seats ∙ b.same;
  unused = λ k free none.
      let both = any-last k taken (Some place) none in
      used-other place k now.seats (apart-places k place both.1) ∙ b.unused k free both.0;
}

behind-unused : (s now : SketchValues) (taken : List (Option ℕ)) (place : Option ℕ) → IsBehind s taken now → TakesApart s taken place → IsUnused now place
behind-unused s now taken None b apart = tt
behind-unused s now taken (Some place) b apart = (omega (arith, apart.0, b.same), b.unused place apart.1 apart.2)

seats-free : (s now : SketchValues) (taken : List (Option ℕ)) (asked : List Question) (places : List (Option ℕ)) → IsBehind s taken now → seats_for s taken asked ≡ Ok places
    → (new : List (Option ℕ)) × (places ≡ taken ++ new) × AreFree now new
seats-free s now taken [] places b e =
    let same : taken ≡ places = cc in
    ([], sym same ∙ sym (append-nil taken), tt)
seats-free s now taken (q ∷ asked) places b e =
    let step = bound (seat_for s taken q) (λ place. seats_for s (taken ++ place ∷ []) asked) places e in
    let unused = behind-unused s now taken step.0 b (seat-apart s taken q step.0 step.1) in
    let rest = seats-free s (marked_by step.0 now) (taken ++ step.0 ∷ []) asked places (behind-more s now taken step.0 b) step.2 in
    (step.0 ∷ rest.0, rest.1 ∙ append_assoc taken (step.0 ∷ []) rest.0, (unused, rest.2))

pub chosen-free : (s : SketchValues) (asked : List Question) (places : List (Option ℕ)) → choice s asked ≡ Ok places → AreFree s places
chosen-free s asked places e =
    let free = seats-free s s [] asked places (record { same = refl; unused = λ k is none. is }) (chosen-tried s asked places e).seated in
    subst (AreFree s) (sym free.1) free.2
