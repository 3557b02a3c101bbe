-- Why questions may not be asked of a sketch: what a choice of seats answers.
use Rattle.std.proofs.Common.{◌≡◌, ◌⊎◌, ℕ, suc, ◌+◌, Bool, true, false, not, cond, List, [], ◌∷◌, ◌++◌, length, Option, Some, None, inl, inr, refl, ap, subst}
use Rattle.std.specs.Prelude.{⊤, Result, Ok, Err}
use Rattle.sip_vector.specs.Steps.{◌>>=◌, needs}
use Rattle.sip_vector.specs.declared.tally.Tally.{Tally}
use Rattle.sip_sketch.specs.Fields.{on}
use Rattle.sip_sketch.specs.Joining.{is_whole}
use Rattle.sip_sketch.specs.Sketches.{SketchValues}
use Rattle.sip_questions.specs.declared.question.Question.{Question}
use Rattle.sip_ask.specs.Choosing.{all_pass, choice, fits, fits_at, free_from, is_high_of, is_idle, is_signed, is_wide_of, kind_for, seat_for, seats_for, small_at}
use Rattle.sip_ask.specs.declared.status.AskStatus.{AskStatus}
use Rattle.sip_ask.specs.declared.status.AskStatus.TheVariants as statuses

-- the statuses of a choice
abbrev pub IsRefusal : AskStatus → Type 0
IsRefusal statuses.NotWhole = ⊤
IsRefusal (statuses.Unfit query) = ⊤
IsRefusal (statuses.Signed query) = ⊤
IsRefusal (statuses.NoSeat query) = ⊤
IsRefusal (statuses.TooWide query) = ⊤
IsRefusal (statuses.TooHigh query) = ⊤
IsRefusal _ = ⊥

-- ---- steps that failed

failed : {A B E : Type 0} (r : Result A E) (f : A → Result B E) (why : E) → (r >>= f) ≡ Err why → (r ≡ Err why) ⊎ ((x : A) × (r ≡ Ok x) × (f x ≡ Err why))
failed (Ok x) f why e = inr (x, refl, e)
failed (Err own) f why e = inl (let same : own ≡ why = cc in ap Err same)

unmet : (test : Bool) (why got : AskStatus) → needs test why ≡ Err got → why ≡ got
unmet true why got e = absurd cc
unmet false why got e = cc

all-failed : (test : ℕ → Question → Result (Unit {0}) AskStatus) → ((number : ℕ) (q : Question) (got : AskStatus) → test number q ≡ Err got → IsRefusal got)
    → (number : ℕ) (asked : List Question) (got : AskStatus) → all_pass test number asked ≡ Err got → IsRefusal got
all-failed test one number [] got e = absurd cc
all-failed test one number (q ∷ asked) got e = elim (failed (test number q) (λ _. all_pass test (suc number) asked) got e) [
  | inl here ↦ one number q got here
  | inr later ↦ all-failed test one (suc number) asked got later.2
]

unfit : (depth number : ℕ) (q : Question) (got : AskStatus) → fits_at depth number q ≡ Err got → IsRefusal got
unfit depth number q got e = subst IsRefusal (unmet (fits depth q) (statuses.Unfit number) got e) tt

large : (t : Tally) (number : ℕ) (q : Question) (got : AskStatus) → small_at t number q ≡ Err got → IsRefusal got
large t number q got e = elim (failed (needs (not (is_wide_of t q)) (statuses.TooWide number)) (λ _. needs (not (is_high_of t q)) (statuses.TooHigh number)) got e) [
  | inl wide ↦ subst IsRefusal (unmet (not (is_wide_of t q)) (statuses.TooWide number) got wide) tt
  | inr high ↦ subst IsRefusal (unmet (not (is_high_of t q)) (statuses.TooHigh number) got high.2) tt
]

unseated : (signed idle : Bool) (why none : AskStatus) (found : Option ℕ) (got : AskStatus) → IsRefusal why → IsRefusal none
    → cond signed (Err why) (cond idle (Ok None) (on found (Err none) (λ (place : ℕ). Ok (Some place)))) ≡ Err got → IsRefusal got
unseated true idle why none found got is other e = let same : why ≡ got = cc in subst IsRefusal same is
unseated false true why none found got is other e = absurd cc
unseated false false why none None got is other e = let same : none ≡ got = cc in subst IsRefusal same other
unseated false false why none (Some place) got is other e = absurd cc

no-seats : (s : SketchValues) (taken : List (Option ℕ)) (asked : List Question) (got : AskStatus) → seats_for s taken asked ≡ Err got → IsRefusal got
no-seats s taken [] got e = absurd cc
no-seats s taken (q ∷ asked) got e = elim (failed (seat_for s taken q) (λ place. seats_for s (taken ++ place ∷ []) asked) got e) [
  | inl here ↦
      unseated (is_signed s.tally q) (is_idle s.tally q) (statuses.Signed (length taken + 1)) (statuses.NoSeat (length taken + 1)) (free_from (kind_for q) taken 0 s.seats) got tt tt here
  | inr later ↦ no-seats s (taken ++ later.0 ∷ []) asked got later.2
]

-- ---- all of them

pub choice-refuses : (s : SketchValues) (asked : List Question) (got : AskStatus) → choice s asked ≡ Err got → IsRefusal got
choice-refuses s asked got e =
    let last : List (Option ℕ) → Result (List (Option ℕ)) AskStatus = λ found. all_pass (small_at s.tally) 1 asked >>= λ _. Ok found in
    let third : Unit {0} → Result (List (Option ℕ)) AskStatus = λ _. seats_for s [] asked >>= last in
    let second : Unit {0} → Result (List (Option ℕ)) AskStatus = λ _. all_pass (fits_at s.depth) 1 asked >>= third in
    elim (failed (needs (is_whole s.parts) statuses.NotWhole) second got e) [
      | inl part ↦ subst IsRefusal (unmet (is_whole s.parts) statuses.NotWhole got part) tt
      | inr whole ↦ elim (failed (all_pass (fits_at s.depth) 1 asked) third got whole.2) [
        | inl other ↦ all-failed (fits_at s.depth) (unfit s.depth) 1 asked got other
        | inr fit ↦ elim (failed (seats_for s [] asked) last got fit.2) [
          | inl none ↦ no-seats s [] asked got none
          | inr seats ↦ elim (failed (all_pass (small_at s.tally) 1 asked) (λ _. Ok seats.0) got seats.2) [
            | inl wide ↦ all-failed (small_at s.tally) (large s.tally) 1 asked got wide
            | inr small ↦ absurd (let not_so = small.2 in cc)
          ]
        ]
      ]
    ]
