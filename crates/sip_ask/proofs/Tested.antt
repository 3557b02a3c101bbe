-- Where seats are chosen, all that a count asks of the questions was tested.
use Rattle.std.proofs.Common.{◌≡◌, ℕ, suc, ◌+◌, Bool, true, false, not, cond, List, [], ◌∷◌, ◌++◌, length, get_or, All, Option, Some, None, refl, sym, ap, subst, ◌∙◌}
use Rattle.std.specs.Prelude.{IsTrue, Result, Ok, Err}
use Rattle.std.proofs.lemmas.Bool.{not-true}
use Rattle.std.proofs.lemmas.List.Elements.{All-cons, All-nil}
use Rattle.sip_vector.specs.Steps.{◌>>=◌, needs}
use Rattle.sip_vector.specs.declared.tally.Tally.{Tally}
use Rattle.sip_vector.specs.declared.update.Update.{Update}
use Rattle.sip_wire.specs.declared.version.Version.{Version}
use Rattle.sip_questions.specs.declared.question.Question.{Question}
use Rattle.sip_sketch.specs.Fields.{on}
use Rattle.sip_sketch.specs.Joining.{is_whole}
use Rattle.sip_sketch.specs.Sketches.{SketchValues}
use Rattle.sip_sketch.specs.Standing.{Stands}
use Rattle.sip_ask.specs.declared.status.AskStatus.{AskStatus}
use Rattle.sip_ask.specs.declared.status.AskStatus.TheVariants as statuses
use Rattle.sip_ask.specs.Choosing.{all_pass, choice, fits, fits_at, free_from, is_high_of, is_idle, is_signed, is_wide_of, kind_for, seat_for, seats_for, small_at}
use Rattle.sip_ask.specs.Counting.{IsCounted}

-- ---- steps that passed

pub bound : {A B E : Type 0} (r : Result A E) (f : A → Result B E) (y : B) → (r >>= f) ≡ Ok y → (x : A) × (r ≡ Ok x) × (f x ≡ Ok y)
bound (Ok x) f y e = (x, refl, e)
bound (Err why) f y e = absurd cc

pub needed : {E : Type 0} (test : Bool) (why : E) (y : Unit {0}) → needs test why ≡ Ok y → test ≡ true
needed true why y e = refl
needed false why y e = absurd cc

pub passed : (test : ℕ → Question → Result (Unit {0}) AskStatus) (P : Question → Type 0)
    → ((number : ℕ) (q : Question) (y : Unit {0}) → test number q ≡ Ok y → P q)
    → (number : ℕ) (asked : List Question) (y : Unit {0}) → all_pass test number asked ≡ Ok y → All P asked
passed test P one number [] y e = All-nil P
passed test P one number (q ∷ asked) y e =
    let b = bound (test number q) (λ _. all_pass test (suc number) asked) y e in
    All-cons P q asked (one number q b.0 b.1) (passed test P one (suc number) asked y b.2)

-- each of these questions fits
pub all-fitting : (depth : ℕ) (asked : List Question) → all_pass (fits_at depth) 1 asked ≡ Ok tt → All (λ q. IsTrue (fits depth q)) asked
all-fitting depth asked e = passed (fits_at depth) (λ q. IsTrue (fits depth q)) (λ number q y. needed (fits depth q) (statuses.Unfit number) y) 1 asked tt e

-- ---- seats

seat-unsigned : (signed : Bool) (why : AskStatus) (r : Result (Option ℕ) AskStatus) (place : Option ℕ)
    → cond signed (Err why) r ≡ Ok place → signed ≡ false
seat-unsigned true why r place e = absurd cc
seat-unsigned false why r place e = refl

-- what comes of a question that is not signed
abbrev seat-or : SketchValues → List (Option ℕ) → Question → Result (Option ℕ) AskStatus
seat-or s taken q = cond (is_idle s.tally q) (Ok None)
    (on (free_from (kind_for q) taken 0 s.seats) (Err (statuses.NoSeat (length taken + 1))) (λ place. Ok (Some place)))

pub seats-unsigned : (s : SketchValues) (taken : List (Option ℕ)) (asked : List Question) (places : List (Option ℕ))
    → seats_for s taken asked ≡ Ok places → All (λ q. is_signed s.tally q ≡ false) asked
seats-unsigned s taken [] places e = All-nil (λ q. is_signed s.tally q ≡ false)
seats-unsigned s taken (q ∷ asked) places e =
    let b = bound (seat_for s taken q) (λ place. seats_for s (taken ++ place ∷ []) asked) places e in
    All-cons (λ q. is_signed s.tally q ≡ false) q asked
    (seat-unsigned (is_signed s.tally q) (statuses.Signed (length taken + 1)) (seat-or s taken q) b.0 b.1)
    (seats-unsigned s (taken ++ b.0 ∷ []) asked places b.2)

-- ---- all tests

pub small-narrow : (t : Tally) (number : ℕ) (q : Question) (y : Unit {0}) → small_at t number q ≡ Ok y → is_wide_of t q ≡ false
small-narrow t number q y e =
    let b = bound (needs (not (is_wide_of t q)) (statuses.TooWide number)) (λ _. needs (not (is_high_of t q)) (statuses.TooHigh number)) y e in
    not-true (is_wide_of t q) (needed (not (is_wide_of t q)) (statuses.TooWide number) b.0 b.1)

pub small-low : (t : Tally) (number : ℕ) (q : Question) (y : Unit {0}) → small_at t number q ≡ Ok y → is_high_of t q ≡ false
small-low t number q y e =
    let b = bound (needs (not (is_wide_of t q)) (statuses.TooWide number)) (λ _. needs (not (is_high_of t q)) (statuses.TooHigh number)) y e in
    not-true (is_high_of t q) (needed (not (is_high_of t q)) (statuses.TooHigh number) y b.2)

-- All that is tested before these places are chosen: each question fits, these are the places, and
-- none may have too great an answer.
pub record IsTried (s : SketchValues) (asked : List Question) (places : List (Option ℕ)) : Type 0 where
  pub fitted : Unit {0}
  pub fit : all_pass (fits_at s.depth) 1 asked ≡ Ok fitted
  pub seated : seats_for s [] asked ≡ Ok places
  pub tested : Unit {0}
  pub small : all_pass (small_at s.tally) 1 asked ≡ Ok tested

pub chosen-tried : (s : SketchValues) (asked : List Question) (places : List (Option ℕ)) → choice s asked ≡ Ok places → IsTried s asked places
chosen-tried s asked places e =
    let last : List (Option ℕ) → Result (List (Option ℕ)) AskStatus = λ found. all_pass (small_at s.tally) 1 asked >>= λ _. Ok found in
    let third : Unit {0} → Result (List (Option ℕ)) AskStatus = λ _. seats_for s [] asked >>= last in
    let second : Unit {0} → Result (List (Option ℕ)) AskStatus = λ _. all_pass (fits_at s.depth) 1 asked >>= third in
    let whole = bound (needs (is_whole s.parts) statuses.NotWhole) second places e in
    let fitted = bound (all_pass (fits_at s.depth) 1 asked) third places whole.2 in
    let seated = bound (seats_for s [] asked) last places fitted.2 in
    let small = bound (all_pass (small_at s.tally) 1 asked) (λ _. Ok seated.0) places seated.2 in
    let same : seated.0 ≡ places = let e : Ok seated.0 ≡ Ok places = small.2 in cc in
    record { fitted = fitted.0; fit = fitted.1; seated = subst (λ l. seats_for s [] asked ≡ Ok l) same seated.1; tested = small.0; small = small.1 }

pub chosen-counted : (s : SketchValues) (stream : List Update) (version : Version) (asked : List Question) (places : List (Option ℕ))
    → Stands stream s → choice s asked ≡ Ok places
    → All (λ q. IsCounted s.depth (record { version = version; stream = stream; question = q })) asked
chosen-counted s stream version asked places stands e =
    let tried = chosen-tried s asked places e in
    let fit = passed (fits_at s.depth) (λ q. IsTrue (fits s.depth q)) (λ number q y. needed (fits s.depth q) (statuses.Unfit number) y) 1 asked tried.fitted tried.fit in
    let unsigned = seats-unsigned s [] asked places tried.seated in
    let low = passed (small_at s.tally) (λ q. is_high_of s.tally q ≡ false) (small-low s.tally) 1 asked tried.tested tried.small in
    λ k d lt. record {
      legal = stands.legal;
      fitting = fit k d lt;
      unsigned = ap (λ (t : Tally). is_signed t (get_or asked k d)) (sym stands.told) ∙ unsigned k d lt;
      low = ap (λ (t : Tally). is_high_of t (get_or asked k d)) (sym stands.told) ∙ low k d lt;
    }
