-- Over any runs no seat serves two questions.
use Rattle.std.proofs.Common.{◌≡◌, ℕ, zero, suc, ◌-◌, true, false, List, [], ◌∷◌, ◌++◌, length, take, flat_map, All, Some, inl, inr, refl, sym, ap, subst, ◌∙◌, arith}
use Rattle.std.specs.Prelude.{Contains}
use Rattle.std.specs.List.{AllByRecursion}
use Rattle.std.specs.declared.option.Option.{Option}
use Rattle.std.proofs.lemmas.Bool.{cases_lt}
use Rattle.std.proofs.lemmas.List.Elements.{All-contains, All-head, All-tail, Contains-get_or}
use Rattle.sip_ports.specs.Desk.{may_hold, steps}
use Rattle.sip_ports.specs.declared.port.TalkEvent.{TalkEvent}
use Rattle.sip_sketch.specs.Sketches.{IsSketch, SketchValues, spelled_file}
use Rattle.sip_ask.specs.Marking.{HasUsed, is_used_at, mark}
use Rattle.sip_ask.specs.Runs.{AreApart, AreDistinct, AreRuns, Deed, Follows, IsDeed, IsRun, NoSeatTwice, Run, asks, events_came, events_of, said_by, said_in, stores}
use Rattle.sip_ask.specs.Turns.{AreTurns, Turn, places_said, turn_events}
use Rattle.sip_ask.proofs.Contents.{Leaves, leaves-append, leaves-may_hold, leaves-of_link, leaves-steps, leaves-take}
use Rattle.sip_ask.proofs.Marks.{file-tells, kept-used, used-here, used-stays}
use Rattle.sip_ask.proofs.Saying.{first-or, none-contained, said-none, said-some, said-used-behind, turns-leave}

-- ---- one run

-- a sketch that was loaded has the used seats of its content
loaded-used : (place : ℕ) (loaded : Option (List ℕ)) (s : SketchValues) → IsSketch s → loaded ≡ Some (spelled_file s) → HasUsed place loaded
    → is_used_at place s.seats ≡ true
loaded-used place loaded s is own has =
    let both : Some (spelled_file s) ≡ Some (spelled_file has.sketch) = sym own ∙ has.file in
    let same : spelled_file s ≡ spelled_file has.sketch = cc in
    subst (λ (t : SketchValues). is_used_at place t.seats ≡ true) (sym (file-tells s has.sketch is has.is same)) has.used

-- each file that is stored has a seat used that the loaded content has
files-leave : (place : ℕ) (loaded : Option (List ℕ)) (files : List (List ℕ)) → HasUsed place loaded → All (Follows loaded) files
    → (beside : List ℕ) → Leaves (HasUsed place) beside (flat_map steps files)
files-leave place loaded [] has all beside = tt
files-leave place loaded (file ∷ files) has all beside =
    let P = HasUsed place in
    let f = All-head (Follows loaded) file files all has.sketch has.is has.file in
    let used = kept-used place has.sketch.seats f.0.seats f.3 has.used in
    let own : P (Some file) = record { sketch = f.0; is = f.1; file = ap Some f.2; used = used } in
    leaves-append P beside (steps file) (flat_map steps files) (leaves-steps P beside file own)
    (λ after. files-leave place loaded files has (All-tail (Follows loaded) file files all) after)

deed-leaves : (place : ℕ) (loaded : Option (List ℕ)) (deed : Deed) → HasUsed place loaded → IsDeed loaded deed
    → (beside : List ℕ) → Leaves (HasUsed place) beside (events_of deed)
deed-leaves place loaded (stores files) has is beside = files-leave place loaded files has is beside
deed-leaves place loaded (asks opened turns behind) has is beside =
    let P = HasUsed place in
    let used = loaded-used place loaded is.0 is.2 is.3 has in
    leaves-append P beside opened (flat_map turn_events turns ++ behind) (leaves-of_link P beside opened is.4.link)
    (λ after. leaves-append P after (flat_map turn_events turns) behind (turns-leave place is.0 turns is.2 used is.5 after)
    (λ last. leaves-of_link P last behind is.6.link))

-- what is used stays used
run-keeps : (place : ℕ) (start : Option (List ℕ)) (talk : List TalkEvent) (r : Run) → IsRun start talk r → All (HasUsed place) (may_hold start talk)
    → All (HasUsed place) (may_hold start (talk ++ events_came r))
run-keeps place start talk r run all =
    let has = All-contains (HasUsed place) (may_hold start talk) r.loaded all run.0 in
    leaves-may_hold (HasUsed place) start talk (events_came r)
    (λ beside. leaves-take (HasUsed place) r.count beside (events_of r.deed) (deed-leaves place r.loaded r.deed has run.1 beside)) all

-- no turn takes a seat that is used
turns-apart : (place : ℕ) (s : SketchValues) (turns : List Turn) (count : ℕ) → is_used_at place s.seats ≡ true → AreTurns s turns
    → Contains (places_said count turns) place → ⊥
turns-apart place s [] count used are says = none-contained place says
turns-apart place s (t ∷ turns) count used are says = elim (cases_lt (length (steps t.file)) count) [
  | inr few ↦ none-contained place (subst (λ (l : List ℕ). Contains l place) (said-none count t turns few) says)
  | inl lt ↦
      let some = subst (λ (l : List ℕ). Contains l place) (said-some count t turns lt) says in
      elim (first-or t.place (places_said (count - length (turn_events t)) turns) place some) [
        | inl same ↦
            let no : true ≡ false = sym used ∙ ap (λ (k : ℕ). is_used_at k s.seats) (sym same) ∙ are.1 in
            absurd cc
        | inr later ↦
            turns-apart place (mark t.place s) turns (count - length (turn_events t)) (used-stays place t.place s used) are.4 later
      ]
]

turns-distinct : (s : SketchValues) (turns : List Turn) (count : ℕ) → AreTurns s turns → AreDistinct (places_said count turns)
turns-distinct s [] count are = tt
turns-distinct s (t ∷ turns) count are = elim (cases_lt (length (steps t.file)) count) [
  | inr few ↦ subst AreDistinct (sym (said-none count t turns few)) tt
  | inl lt ↦
      let own : AreDistinct (t.place ∷ places_said (count - length (turn_events t)) turns) = (
        λ says. turns-apart t.place (mark t.place s) turns (count - length (turn_events t)) (used-here t.place s.seats are.0) are.4 says,
        turns-distinct (mark t.place s) turns (count - length (turn_events t)) are.4,
      ) in
      subst AreDistinct (sym (said-some count t turns lt)) own
]

deed-apart : (place : ℕ) (loaded : Option (List ℕ)) (deed : Deed) (count : ℕ) → HasUsed place loaded → IsDeed loaded deed
    → Contains (said_by deed count) place → ⊥
deed-apart place loaded (stores files) count has is says = none-contained place says
deed-apart place loaded (asks opened turns behind) count has is says =
    turns-apart place is.0 turns (count - length opened) (loaded-used place loaded is.0 is.2 is.3 has) is.5 says

deed-distinct : (loaded : Option (List ℕ)) (deed : Deed) (count : ℕ) → IsDeed loaded deed → AreDistinct (said_by deed count)
deed-distinct loaded (stores files) count is = tt
deed-distinct loaded (asks opened turns behind) count is = turns-distinct is.0 turns (count - length opened) is.5

-- where a run said something, each content has that seat used then
deed-used : (place : ℕ) (start : Option (List ℕ)) (talk : List TalkEvent) (loaded : Option (List ℕ)) (deed : Deed) (count : ℕ) → IsDeed loaded deed
    → Contains (said_by deed count) place → (content : Option (List ℕ))
    → Contains (may_hold start (talk ++ take count (events_of deed))) content → HasUsed place content
deed-used place start talk loaded (stores files) count is says content held = absurd (none-contained place says)
deed-used place start talk loaded (asks opened turns behind) count is says content held =
    said-used-behind start place content talk opened is.0 turns behind count is.2 is.5 is.6.link says held

run-used : (place : ℕ) (start : Option (List ℕ)) (talk : List TalkEvent) (r : Run) → IsRun start talk r → Contains (said_in r) place
    → All (HasUsed place) (may_hold start (talk ++ events_came r))
run-used place start talk r run says = λ k d lt.
    deed-used place start talk r.loaded r.deed r.count run.1 says _ (Contains-get_or (may_hold start (talk ++ events_came r)) k d lt)

-- ---- runs behind it

later-apart : (place : ℕ) (start : Option (List ℕ)) (talk : List TalkEvent) (runs : List Run) → AreRuns start talk runs
    → All (HasUsed place) (may_hold start talk) → AllByRecursion (λ other. Contains (said_in other) place → ⊥) runs
later-apart place start talk [] are all = tt
later-apart place start talk (r ∷ runs) are all = (
  λ says. deed-apart place r.loaded r.deed r.count (All-contains (HasUsed place) (may_hold start talk) r.loaded all are.0.0) are.0.1 says,
  later-apart place start (talk ++ events_came r) runs are.1 (run-keeps place start talk r are.0 all),
)

apart-from : (places others : List ℕ) → ((place : ℕ) → Contains places place → Contains others place → ⊥) → AreApart places others
apart-from [] others f = tt
apart-from (p ∷ places) others f = (
  f p (zero, omega arith, refl),
  apart-from places others (λ place h. f place (suc h.0, omega (arith, h.1), h.2)),
)

all-apart : (places : List ℕ) (runs : List Run)
    → ((place : ℕ) → Contains places place → AllByRecursion (λ other. Contains (said_in other) place → ⊥) runs)
    → AllByRecursion (λ other. AreApart places (said_in other)) runs
all-apart places [] f = tt
all-apart places (r ∷ runs) f = (
  apart-from places (said_in r) (λ place h. (f place h).0),
  all-apart places runs (λ place h. (f place h).1),
)

pub no-seat-twice : (start : Option (List ℕ)) (talk : List TalkEvent) (runs : List Run) → AreRuns start talk runs → NoSeatTwice runs
no-seat-twice start talk [] are = tt
no-seat-twice start talk (r ∷ runs) are = (
  deed-distinct r.loaded r.deed r.count are.0.1,
  all-apart (said_in r) runs (λ place says.
      later-apart place start (talk ++ events_came r) runs are.1 (run-used place start talk r are.0 says)),
  no-seat-twice start (talk ++ events_came r) runs are.1,
)
