-- The attempts of one helper of a panel, and what it heard in them.
use Rattle.std.proofs.Common.{◌≡◌, ◌⊎◌, ℕ, suc, ◌+◌, ◌≤◌, ◌==◌, Bool, List, [], ◌∷◌, ◌++◌, length, map, Some, if◌then◌else◌, inl, inr, refl, sym, ap, ◌∙◌, subst, append_assoc, append-nil, arith}
use Rattle.std.specs.Prelude.{All, slice_get}
use Rattle.std.specs.List.{flat_map}
use Rattle.std.proofs.lemmas.Bool.{cases_eq, eq-eqb, ne_eqb}
use Rattle.std.proofs.lemmas.List.Concat.{flat_map-append}
use Rattle.std.proofs.lemmas.List.Elements.{All-cons, All-nil, All-head, All-tail}
use Rattle.std.proofs.lemmas.Option.{get_or_from_slice_get, slice_get_within}
use Rattle.sip_ports.specs.declared.port.TalkEvent.{TalkEvent}
use Rattle.sip_vector.specs.declared.update.Update.{Update}
use Rattle.sip_vector.specs.Streams.{IsLegal}
use Rattle.sip_wire.specs.declared.version.Version.{Version}
use Rattle.sip_verifier.specs.declared.status.Port.TheVariants as ports
use Rattle.sip_verifier.specs.declared.status.Status.{Status}
use Rattle.sip_verifier.specs.declared.status.Status.TheVariants as statuses
use Rattle.sip_verifier.specs.declared.task.Task.{Task}
use Rattle.sip_verifier.specs.Questions.{Accepted, Question, said_for}
use Rattle.sip_verifier.specs.Tasks.{version_of}
use Rattle.sip_session.specs.PanelEnds.{Ends, OfEach, Went, all_sent, behind_replies, said_to, updates}
use Rattle.sip_session.specs.PanelExchanges.{PanelExchange}
use Rattle.sip_session.specs.Panels.{Attempt, AreInTurn, IsJudged, Outcome, Turn, accepted, next_turn, rejected, turn_behind}
use Rattle.sip_session.proofs.HonestQuestions.{Put}

-- ---- lists

-- what stands at a place of a list of which this holds
pub at_place : {X : Type 0} (P : X → Type 0) (xs : List X) (i : ℕ) (x : X) → All P xs → slice_get xs i ≡ Some x → P x
at_place P xs i x all e = subst P (get_or_from_slice_get xs i x x e) (all i x (slice_get_within xs i x e))

pub in_middle : {X : Type 0} (P : X → Type 0) (before : List X) (x : X) (after : List X) → All P (before ++ x ∷ after) → P x
in_middle P [] x after all = All-head P x after all
in_middle P (y ∷ before) x after all = in_middle P before x after (All-tail P y (before ++ x ∷ after) all)

-- what holds wherever a list is cut holds of each of its elements
pub all_by_cuts : {X : Type 0} (P : X → Type 0) (all before rest : List X) → all ≡ before ++ rest → ((earlier : List X) (x : X) (later : List X) → all ≡ earlier ++ x ∷ later → P x) → All P rest
all_by_cuts P all before [] e f = All-nil P
all_by_cuts P all before (x ∷ rest) e f = All-cons P x rest (f before x rest e) (all_by_cuts P all (before ++ x ∷ []) rest (e ∙ sym (append_assoc before (x ∷ []) rest)) f)

-- ---- turns

pub turn_of : (turn : Turn) (before : List Attempt) (a : Attempt) (after : List Attempt) → AreInTurn turn (before ++ a ∷ after) → a.turn ≡ turn_behind turn before
turn_of turn [] a after are = are.0
turn_of turn (b ∷ before) a after are = turn_of (next_turn turn b.outcome) before a after are.1

helper_next : (turn : Turn) (o : Outcome) → turn.helper ≤ (next_turn turn o).helper
helper_next turn (accepted answer) = omega arith
helper_next turn (rejected fault) = omega arith

-- turns go on to later helpers
pub helper_rises : (turn : Turn) (attempts : List Attempt) → turn.helper ≤ (turn_behind turn attempts).helper
helper_rises turn [] = omega arith
helper_rises turn (a ∷ attempts) = omega (arith, helper_next turn a.outcome, helper_rises (next_turn turn a.outcome) attempts)

module _ (v : Version) (depth : ℕ) (stream : List Update) (some : 1 ≤ depth) (legal : IsLegal depth stream) (helper : ℕ) where
  abbrev Judged : Attempt → Type 0
  Judged a = IsJudged v depth stream a.question a.outcome

  abbrev PutIn : Attempt → Type 0
  PutIn a = Put v depth stream some legal a.question

  abbrev question : Accepted v depth stream → Question
  question a = a.question

  -- what one attempt says to the helper
  abbrev said_in : Attempt → List TalkEvent
  said_in a = if a.turn.helper == helper then said_for v depth stream a.question ++ behind_replies a.outcome else []

  -- the attempts of a helper that is left were accepted, and it heard their questions
  pub record Own (turn : Turn) (before : List Attempt) : Type 0 where
    pub done : List (Accepted v depth stream)
    pub said : said_to v depth stream helper before ≡ flat_map (said_for v depth stream) (map question done)
    pub put : All (Put v depth stream some legal) (map question done)
    pub count : turn.number + length done ≤ (turn_behind turn before).number

  pub own : (turn : Turn) (before rest : List Attempt) → AreInTurn turn (before ++ rest) → All Judged (before ++ rest) → All PutIn (before ++ rest) → (turn_behind turn before).helper ≤ helper → Own turn before
  own turn [] rest are judged put most = record { done = []; said = refl; put = All-nil (Put v depth stream some legal); count = omega arith }
  own turn (a ∷ before) rest are judged put most =
      by_outcome a.outcome refl (own (next_turn turn a.outcome) before rest are.1 (All-tail Judged a (before ++ rest) judged) (All-tail PutIn a (before ++ rest) put) most)
    where
      -- it says nothing to another helper
      others : (a.turn.helper ≡ helper → ⊥) → (had : Own (next_turn turn a.outcome) before) → turn.number ≤ (next_turn turn a.outcome).number → Own turn (a ∷ before)
      others other had least = record {
        done = had.done;
        said = ap (λ (b : Bool). (if b then said_for v depth stream a.question ++ behind_replies a.outcome else []) ++ said_to v depth stream helper before) (ne_eqb a.turn.helper helper other) ∙ had.said;
        put = had.put;
        count = omega (arith, had.count, least);
      }

      by_outcome : (o : Outcome) → a.outcome ≡ o → Own (next_turn turn a.outcome) before → Own turn (a ∷ before)
      by_outcome (rejected fault) e had =
          let next : (next_turn turn a.outcome).helper ≡ suc turn.helper = ap (λ o. (next_turn turn o).helper) e in
          let number : (next_turn turn a.outcome).number ≡ turn.number = ap (λ o. (next_turn turn o).number) e in
          others (λ same. absurd (omega (arith, same, ap (λ (t : Turn). t.helper) are.0, next, helper_rises (next_turn turn a.outcome) before, most))) had (omega (arith, number))
      by_outcome (accepted given) e had =
          let number : (next_turn turn a.outcome).number ≡ suc turn.number = ap (λ o. (next_turn turn o).number) e in
          elim (cases_eq a.turn.helper helper) [
            | inl same ↦ record {
              done = record { question = a.question; answer = given; accepts = subst (IsJudged v depth stream a.question) e (All-head Judged a (before ++ rest) judged) } ∷ had.done;
              said = ap (λ (b : Bool). (if b then said_for v depth stream a.question ++ behind_replies a.outcome else []) ++ said_to v depth stream helper before) (eq-eqb a.turn.helper helper same)
                  ∙ ap (λ (o : Outcome). (said_for v depth stream a.question ++ behind_replies o) ++ said_to v depth stream helper before) e
                  ∙ ap (λ l. l ++ said_to v depth stream helper before) (append-nil (said_for v depth stream a.question)) ∙ ap (λ l. said_for v depth stream a.question ++ l) had.said;
              put = All-cons (Put v depth stream some legal) a.question (map question had.done) (All-head PutIn a (before ++ rest) put) had.put;
              count = omega (arith, had.count, number);
            }
            | inr other ↦ others other had (omega (arith, number))
          ]

  -- what the helper heard up to one of its attempts, and behind it
  pub said_around : (before : List Attempt) (a : Attempt) (after : List Attempt) → a.turn.helper ≡ helper
      → said_to v depth stream helper (before ++ a ∷ after) ≡ said_to v depth stream helper before ++ ((said_for v depth stream a.question ++ behind_replies a.outcome) ++ said_to v depth stream helper after)
  said_around before a after who =
      flat_map-append said_in before (a ∷ after)
      ∙ ap (λ (b : Bool). said_to v depth stream helper before ++ ((if b then said_for v depth stream a.question ++ behind_replies a.outcome else []) ++ said_to v depth stream helper after)) (eq-eqb a.turn.helper helper who)

-- a list in the order of its parts
pub regroup : {X : Type 0} (a f q e r m : List X) → (a ++ (f ++ ((q ++ e) ++ r))) ++ m ≡ (a ++ (f ++ q)) ++ (e ++ (r ++ m))
regroup a f q e r m =
    append_assoc a (f ++ ((q ++ e) ++ r)) m
    ∙ ap (λ l. a ++ l) (append_assoc f ((q ++ e) ++ r) m ∙ ap (λ l. f ++ l) (append_assoc (q ++ e) r m ∙ append_assoc q e (r ++ m)) ∙ sym (append_assoc f q (e ++ (r ++ m))))
    ∙ sym (append_assoc a (f ++ q) (e ++ (r ++ m)))

-- ---- by the status

module _ (helpers : ℕ) (task : Task) (x : PanelExchange) (attempts : List Attempt) where
  -- each helper heard the stream, its attempts, and more
  abbrev pub Said : Type 0
  Said = OfEach helpers task x (λ helper talk. (more : List TalkEvent) × (talk ≡ all_sent helpers task x ++ said_to (version_of task) task.depth (updates helpers task x) helper attempts ++ more))

  went_said : (rest : ℕ → List TalkEvent → Type 0) → Went helpers task x attempts rest → Said
  went_said rest w = (w.talks.0, λ place less. let t = w.talks.1 place less in (t.0, t.1))

  -- or there was no attempt
  pub none_or_said : (status : Status) → Ends helpers task x attempts status → (attempts ≡ []) ⊎ Said
  none_or_said statuses.Accepted ends = inr (went_said _ ends.went)
  none_or_said (statuses.Rejected query round reason) ends = inr (went_said _ ends.went)
  none_or_said (statuses.BadStream at why) ends = inl ends.none
  none_or_said statuses.BadSeed ends = inl ends.none
  none_or_said statuses.SeedSpent ends = inl ends.none
  none_or_said (statuses.TooWide query) ends = inl ends.none
  none_or_said (statuses.ReadFault ports.First) ends = inl ends.none
  none_or_said (statuses.ReadFault ports.Second) ends = inl ends.none
  none_or_said (statuses.ReadFault ports.Report) ends = absurd ends
  none_or_said (statuses.ReadFault ports.Keep) ends = absurd ends
  none_or_said (statuses.WriteFault ports.Report) ends = inr (went_said _ ends.went)
  none_or_said (statuses.WriteFault ports.First) ends = absurd ends
  none_or_said (statuses.WriteFault ports.Second) ends = absurd ends
  none_or_said (statuses.WriteFault ports.Keep) ends = absurd ends
  none_or_said statuses.OutOfMemory (inl early) = inl early.2.none
  none_or_said statuses.OutOfMemory (inr (inl cut)) = inr (went_said _ cut.went)
  none_or_said statuses.OutOfMemory (inr (inr (inl cut))) = inr (went_said _ cut.went)
  none_or_said statuses.OutOfMemory (inr (inr (inr unjudged))) = inr (went_said _ unjudged.went)
  none_or_said _ ends = absurd ends
