-- Attempts of a panel, one after another, and where each leads.
use Rattle.std.proofs.Common.{◌≡◌, ℕ, zero, suc, ◌+◌, ◌-◌, ◌*◌, ◌<◌, ◌==◌, Bool, Option, Some, Result, Ok, Err, List, [], ◌∷◌, ◌++◌, length, set, get_or, drop, if◌then◌else◌, inl, inr, refl, sym, ap, ◌∙◌, subst, arith, append-nil, append_assoc}
use Rattle.std.specs.Prelude.{slice_get}
use Rattle.std.proofs.lemmas.Bool.{cases_eq, eq-eqb, ne_eqb}
use Rattle.std.proofs.lemmas.List.Elements.{All-nil, All-push}
use Rattle.sip_ports.specs.declared.port.TalkEvent.{TalkEvent}
use Rattle.sip_ports.specs.Ports.{GoesOn, outs}
use Rattle.sip_ports.proofs.TalkLemmas.{GoesOn-refl, GoesOn-trans, outs-append}
use Rattle.sip_replies.specs.Replies.{Fault}
use Rattle.sip_replies.specs.Talks.{IsPrefix}
use Rattle.sip_vector.specs.declared.query.Query.{Query}
use Rattle.sip_vector.specs.declared.update.Update.{Update}
use Rattle.sip_wire.specs.declared.message.Reason.{Reason}
use Rattle.sip_wire.specs.declared.version.Version.{Version}
use Rattle.sip_verifier.specs.declared.status.Port.TheVariants as ports
use Rattle.sip_verifier.specs.declared.status.Status.{Status}
use Rattle.sip_verifier.specs.declared.status.Status.TheVariants as statuses
use Rattle.sip_verifier.specs.Questions.{Question, asking, said_for}
use Rattle.sip_verifier.specs.runs.Asking.{question_of}
use Rattle.sip_verifier.proofs.QueriesChecked.{flat_map_snoc}
use Rattle.sip_session.specs.declared.panel_asking.Came as helper_came
use Rattle.sip_session.specs.declared.panel_asking.Came.TheVariants as cames
use Rattle.sip_session.specs.inside.Hearing.{AllTalks}
use Rattle.sip_session.specs.inside.Trying.{Halts, IsSeated, Silent, StopsInLine, Trail, TrailsInLine, TrailsTo, Tries, turn_at}
use Rattle.sip_session.specs.PanelEnds.{behind_replies, line_of, lines, said_to}
use Rattle.sip_session.specs.Panels.{Attempt, AreInTurn, IsJudged, Outcome, Turn, accepted, first_turn, next_turn, rejected, turn_behind}
use Rattle.sip_session.proofs.Places.{elsewhere, here}

-- ---- turns and lines

in_turn_more : (turn : Turn) (attempts : List Attempt) (a : Attempt) → AreInTurn turn attempts → a.turn ≡ turn_behind turn attempts → AreInTurn turn (attempts ++ a ∷ [])
in_turn_more turn [] a are is = (is, tt)
in_turn_more turn (b ∷ attempts) a are is = (are.0, in_turn_more (next_turn turn b.outcome) attempts a are.1 is)

behind_more : (turn : Turn) (attempts : List Attempt) (a : Attempt) → turn_behind turn (attempts ++ a ∷ []) ≡ next_turn (turn_behind turn attempts) a.outcome
behind_more turn [] a = refl
behind_more turn (b ∷ attempts) a = behind_more (next_turn turn b.outcome) attempts a

lines_more : (attempts : List Attempt) (a : Attempt) → lines (attempts ++ a ∷ []) ≡ lines attempts ++ line_of a.turn a.question a.outcome
lines_more attempts a = flat_map_snoc (λ (a : Attempt). line_of a.turn a.question a.outcome) attempts a

module _ (version : Version) (depth : ℕ) (stream : List Update) where
  -- what one attempt says to a helper
  abbrev said_in : ℕ → Attempt → List TalkEvent
  said_in helper a = if a.turn.helper == helper then said_for version depth stream a.question ++ behind_replies a.outcome else []

  said_more : (helper : ℕ) (attempts : List Attempt) (a : Attempt) → said_to version depth stream helper (attempts ++ a ∷ []) ≡ said_to version depth stream helper attempts ++ said_in helper a
  said_more helper attempts a = flat_map_snoc (said_in helper) attempts a

-- a test of a helper's number
is_it : {X : Type 0} (a b : ℕ) (x y : X) → a ≡ b → (if a == b then x else y) ≡ x
is_it a b x y e = ap (λ (t : Bool). if t then x else y) (eq-eqb a b e)

is_other : {X : Type 0} (a b : ℕ) (x y : X) → (a ≡ b → ⊥) → (if a == b then x else y) ≡ y
is_other a b x y e = ap (λ (t : Bool). if t then x else y) (ne_eqb a b e)

module _ (version : Version) (depth : ℕ) (stream : List Update) (helpers queries : ℕ) (asks : List (Query × List ℕ)) (old now : AllTalks) (blank half : Option (List TalkEvent)) where
  abbrev Trailed : AllTalks → Option (List TalkEvent) → List Attempt → (ℕ → List TalkEvent → Type 0) → List ℕ → Type 0
  Trailed new full attempts rest written = Trail version depth stream helpers queries asks old new blank full attempts rest written

  abbrev Still : ℕ → List TalkEvent → Type 0
  Still helper more = more ≡ []

  -- one helper was asked behind these attempts, at a place
  module _ (attempts : List Attempt) (t : Trailed now half attempts Still (lines attempts)) (count : length now ≡ length old) (place : ℕ) (inside : place < length now)
      (who : (turn_behind first_turn attempts).helper ≡ suc place) (q : Question) (later : List TalkEvent) where
    -- it heard more
    pub heard_more : (rest : ℕ → List TalkEvent → Type 0) (more : List TalkEvent) → later ≡ get_or now place [] ++ more → rest (suc place) more → ((helper : ℕ) → (suc place ≡ helper → ⊥) → rest helper [])
        → Trailed (set now place later) half attempts rest (lines attempts)
    heard_more rest more is here_rest other_rest = record {
      in_turn = t.in_turn;
      seats = t.seats;
      judged = t.judged;
      talks = λ k less. elim (cases_eq k place) [
        | inl same ↦
            let had = t.talks place (omega (arith, count)) in
            let Holds : ℕ → Type 0 = λ n. (more : List TalkEvent) × rest (suc n) more × (get_or (set now place later) n [] ≡ get_or old n [] ++ said_to version depth stream (suc n) attempts ++ more) in
            let at_place : Holds place =
            (more, here_rest, here now place later inside ∙ is ∙ ap (λ l. l ++ more) (had.2 ∙ ap (λ l. (get_or old place [] ++ said_to version depth stream (suc place) attempts) ++ l) had.1 ∙ append-nil _)) in
            subst Holds (sym same) at_place
        | inr other ↦
            let had = t.talks k less in
            ([], other_rest (suc k) (λ e. other (sym (omega (arith, e)))), elsewhere now place k later other ∙ had.2 ∙ ap (λ l. (get_or old k [] ++ said_to version depth stream (suc k) attempts) ++ l) had.1)
      ];
      report = t.report;
    }

    -- the attempt was made
    module _ (seat : IsSeated helpers queries asks (turn_behind first_turn attempts) q) (outcome : Outcome) (judged : IsJudged version depth stream q outcome) where
      abbrev pub made : Attempt
      made = record { turn = turn_behind first_turn attempts; question = q; outcome = outcome }

      pub one_more : later ≡ get_or now place [] ++ (said_for version depth stream q ++ behind_replies outcome) → (full : Option (List TalkEvent)) (written : List ℕ) → GoesOn half full (outs written)
          → Trailed (set now place later) full (attempts ++ made ∷ []) Still (lines attempts ++ written)
      one_more is full written wrote =
          let said = said_for version depth stream q ++ behind_replies outcome in
          record {
            in_turn = in_turn_more first_turn attempts made t.in_turn refl;
            seats = All-push (λ (a : Attempt). IsSeated helpers queries asks a.turn a.question) attempts made t.seats seat;
            judged = All-push (λ (a : Attempt). IsJudged version depth stream a.question a.outcome) attempts made t.judged judged;
            talks = λ k less. elim (cases_eq k place) [
              | inl same ↦
                  let had = t.talks place (omega (arith, count)) in
                  let Holds : ℕ → Type 0 = λ n. (more : List TalkEvent) × (more ≡ []) × (get_or (set now place later) n [] ≡ get_or old n [] ++ said_to version depth stream (suc n) (attempts ++ made ∷ []) ++ more) in
                  let before : get_or now place [] ≡ get_or old place [] ++ said_to version depth stream (suc place) attempts = had.2 ∙ ap (λ l. (get_or old place [] ++ said_to version depth stream (suc place) attempts) ++ l) had.1 ∙ append-nil _ in
                  let all : said_to version depth stream (suc place) (attempts ++ made ∷ []) ≡ said_to version depth stream (suc place) attempts ++ said =
                  said_more version depth stream (suc place) attempts made ∙ ap (λ l. said_to version depth stream (suc place) attempts ++ l) (is_it (turn_behind first_turn attempts).helper (suc place) said [] who) in
                  let at_place : Holds place = (
                    [],
                    refl,
                    here now place later inside ∙ is ∙ ap (λ l. l ++ said) before ∙ append_assoc (get_or old place []) (said_to version depth stream (suc place) attempts) said
                        ∙ ap (λ l. get_or old place [] ++ l) (sym all) ∙ sym (append-nil _),
                  ) in
                  subst Holds (sym same) at_place
              | inr other ↦
                  let had = t.talks k less in
                  let different : (turn_behind first_turn attempts).helper ≡ suc k → ⊥ = λ e. other (let same : suc place ≡ suc k = sym who ∙ e in omega (arith, same)) in
                  let all : said_to version depth stream (suc k) (attempts ++ made ∷ []) ≡ said_to version depth stream (suc k) attempts =
                  said_more version depth stream (suc k) attempts made ∙ ap (λ l. said_to version depth stream (suc k) attempts ++ l) (is_other (turn_behind first_turn attempts).helper (suc k) said [] different) ∙ append-nil _ in
                  ([], refl, elsewhere now place k later other ∙ had.2 ∙ ap (λ l. (get_or old k [] ++ said_to version depth stream (suc k) attempts) ++ l) had.1 ∙ ap (λ l. (get_or old k [] ++ l) ++ []) (sym all))
            ];
            report = subst (GoesOn blank full) (sym (outs-append (lines attempts) written)) (GoesOn-trans blank half full (outs (lines attempts)) (outs written) t.report wrote);
          }

-- before the first attempt
pub no_attempt : (version : Version) (depth : ℕ) (stream : List Update) (helpers queries : ℕ) (asks : List (Query × List ℕ)) (old : AllTalks) (blank : Option (List TalkEvent))
    → TrailsTo version depth stream helpers queries asks old old blank blank (turn_at 0 0)
no_attempt version depth stream helpers queries asks old blank = record {
  attempts = [];
  trail = record {
    in_turn = tt;
    seats = All-nil (λ (a : Attempt). IsSeated helpers queries asks a.turn a.question);
    judged = All-nil (λ (a : Attempt). IsJudged version depth stream a.question a.outcome);
    talks = λ k less. ([], refl, sym (append-nil _ ∙ append-nil _));
    report = GoesOn-refl blank;
  };
  behind = refl;
}

-- ---- where one attempt leads

module _ (version : Version) (depth : ℕ) (stream : List Update) (helpers queries : ℕ) (asks : List (Query × List ℕ)) (old now : AllTalks) (blank half full : Option (List TalkEvent))
    (gone asked : ℕ) (to : TrailsTo version depth stream helpers queries asks old now blank half (turn_at gone asked)) (count : length now ≡ length old) (size : length now ≡ helpers)
    (left : gone < helpers) (more : asked < queries) (ask : Query × List ℕ) (at : slice_get asks (asked * helpers + gone) ≡ Some ask) (later : List TalkEvent) where
  who : (turn_behind first_turn to.attempts).helper ≡ suc gone
  who = ap (λ (t : Turn). t.helper) to.behind

  inside : gone < length now
  inside = omega (arith, size)

  seated : (replies : List (List ℕ)) → IsSeated helpers queries asks (turn_behind first_turn to.attempts) (question_of ask.0 ask.1 replies)
  seated replies =
      let there : IsSeated helpers queries asks (turn_at gone asked) (question_of ask.0 ask.1 replies) = record {
        helper = omega arith;
        number = omega arith;
        seat = subst (λ n. slice_get asks n ≡ Some ask) (let same : asked * helpers + gone ≡ (suc asked - 1) * helpers + (suc gone - 1) = seat_is in same) at;
      } in
      subst (λ (t : Turn). IsSeated helpers queries asks t (question_of ask.0 ask.1 replies)) (sym to.behind) there
    where
      seat_is : asked * helpers + gone ≡ (suc asked - 1) * helpers + (suc gone - 1)
      seat_is = let a : suc asked - 1 ≡ asked = omega arith in let b : suc gone - 1 ≡ gone = omega arith in rw (a, b) refl

  -- an attempt that was made now
  abbrev made_now : Question → Outcome → Attempt
  made_now q outcome = record { turn = turn_behind first_turn to.attempts; question = q; outcome = outcome }

  abbrev Then : List Attempt → List ℕ → Type 0
  Then attempts written = Silent version depth stream helpers queries asks old (set now gone later) blank full attempts written

  -- with a part of its line
  tried : (replies : List (List ℕ)) (outcome : Outcome) → IsJudged version depth stream (question_of ask.0 ask.1 replies) outcome
      → later ≡ get_or now gone [] ++ (said_for version depth stream (question_of ask.0 ask.1 replies) ++ behind_replies outcome)
      → (written : List ℕ) → GoesOn half full (outs written) → Then (to.attempts ++ made_now (question_of ask.0 ask.1 replies) outcome ∷ []) (lines to.attempts ++ written)
  tried replies outcome judged is written wrote =
      one_more version depth stream helpers queries asks old now blank half to.attempts to.trail count gone inside who (question_of ask.0 ask.1 replies) later (seated replies) outcome judged is full written wrote

  -- with its whole line
  with_line : (replies : List (List ℕ)) (outcome : Outcome) → IsJudged version depth stream (question_of ask.0 ask.1 replies) outcome
      → later ≡ get_or now gone [] ++ (said_for version depth stream (question_of ask.0 ask.1 replies) ++ behind_replies outcome)
      → GoesOn half full (outs (line_of (turn_at gone asked) (question_of ask.0 ask.1 replies) outcome))
      → Then (to.attempts ++ made_now (question_of ask.0 ask.1 replies) outcome ∷ []) (lines (to.attempts ++ made_now (question_of ask.0 ask.1 replies) outcome ∷ []))
  with_line replies outcome judged is wrote =
      let q : Question = question_of ask.0 ask.1 replies in
      let same : line_of (turn_at gone asked) q outcome ≡ line_of (turn_behind first_turn to.attempts) q outcome = ap (λ (t : Turn). line_of t q outcome) (sym to.behind) in
      subst (Then (to.attempts ++ made_now q outcome ∷ [])) (sym (lines_more to.attempts (made_now q outcome)))
      (tried replies outcome judged is (line_of (turn_behind first_turn to.attempts) q outcome) (subst (λ l. GoesOn half full (outs l)) same wrote))

  -- to where it leads
  leads_to : (q : Question) (outcome : Outcome) (turn : Turn) → next_turn (turn_at gone asked) outcome ≡ turn → Then (to.attempts ++ made_now q outcome ∷ []) (lines (to.attempts ++ made_now q outcome ∷ []))
      → TrailsTo version depth stream helpers queries asks old (set now gone later) blank full turn
  leads_to q outcome turn next trail = record {
    attempts = to.attempts ++ made_now q outcome ∷ [];
    trail = trail;
    behind = behind_more first_turn to.attempts (made_now q outcome) ∙ ap (λ (t : Turn). next_turn t outcome) to.behind ∙ next;
  }

  abbrev Came : Result helper_came.Came Status → Type 0
  Came r = Tries (asking version depth stream) ask (suc gone) (suc asked) (Some (get_or now gone [])) (Some later) half full r

  -- the query was answered
  pub leads_answered : Came (Ok cames.Answered) → TrailsTo version depth stream helpers queries asks old (set now gone later) blank full (turn_at gone (suc asked))
  leads_answered p =
      let replies = p.answered.replies in
      leads_to (question_of ask.0 ask.1 replies) (accepted p.answer) (turn_at gone (suc asked)) refl
      (with_line replies (accepted p.answer) p.answered.accepted (p.answered.talk ∙ ap (λ l. get_or now gone [] ++ l) (sym (append-nil _))) p.wrote)

  module _ (round : ℕ) (reason : Reason) (d : Came (Ok (cames.Dropped round reason))) where
    abbrev fault : Fault
    fault = record { round = round; reason = reason }

    dropped_now : Then (to.attempts ++ made_now (question_of ask.0 ask.1 d.rejected.replies) (rejected fault) ∷ []) (lines (to.attempts ++ made_now (question_of ask.0 ask.1 d.rejected.replies) (rejected fault) ∷ []))
    dropped_now = with_line d.rejected.replies (rejected fault) d.rejected.faulty d.rejected.talk d.wrote

    -- the helper was dropped, and another one is left
    pub leads_dropped : TrailsTo version depth stream helpers queries asks old (set now gone later) blank full (turn_at (suc gone) asked)
    leads_dropped = leads_to (question_of ask.0 ask.1 d.rejected.replies) (rejected fault) (turn_at (suc gone) asked) refl dropped_now

    -- the last helper was dropped
    pub leads_out : suc gone ≡ helpers → Halts version depth stream helpers queries asks old (set now gone later) blank full (statuses.Rejected (suc asked) round reason)
    leads_out last = record {
      before = to.attempts;
      last = made_now (question_of ask.0 ask.1 d.rejected.replies) (rejected fault);
      trail = dropped_now;
      turn = to.behind ∙ ap (λ n. record { helper = n; number = suc asked }) last;
      outcome = refl;
    }

  -- it stopped in a line
  in_line : StopsInLine (asking version depth stream) ask (suc gone) (suc asked) (Some (get_or now gone [])) (Some later) half full
      → TrailsInLine version depth stream helpers queries asks old (set now gone later) blank full
  in_line (inl p) = record {
    before = to.attempts;
    last = made_now (question_of ask.0 ask.1 p.answered.replies) (accepted p.answer);
    part = p.part;
    front = p.front;
    trail = tried p.answered.replies (accepted p.answer) p.answered.accepted (p.answered.talk ∙ ap (λ l. get_or now gone [] ++ l) (sym (append-nil _))) p.part p.wrote;
  }
  in_line (inr d) =
      let fault : Fault = record { round = d.round; reason = d.reason } in
      record {
        before = to.attempts;
        last = made_now (question_of ask.0 ask.1 d.rejected.replies) (rejected fault);
        part = d.part;
        front = subst (IsPrefix d.part) (ap (λ (t : Turn). line_of t (question_of ask.0 ask.1 d.rejected.replies) (rejected fault)) (sym to.behind)) d.front;
        trail = tried d.rejected.replies (rejected fault) d.rejected.faulty d.rejected.talk d.part d.wrote;
      }

  -- it stopped
  pub leads_stopped : (status : Status) → Came (Err status) → Halts version depth stream helpers queries asks old (set now gone later) blank full status
  leads_stopped (statuses.Rejected query round reason) came = absurd came
  leads_stopped (statuses.WriteFault ports.Report) came = in_line came
  leads_stopped (statuses.WriteFault ports.First) came = absurd came
  leads_stopped (statuses.WriteFault ports.Second) came = absurd came
  leads_stopped (statuses.WriteFault ports.Keep) came = absurd came
  leads_stopped statuses.OutOfMemory (inl part) = inl (in_line part)
  leads_stopped statuses.OutOfMemory (inr (inl none)) =
      let q : Question = question_of ask.0 ask.1 none.interrupted.replies in
      let Rest : ℕ → List TalkEvent → Type 0 = λ helper more. IsPrefix more (if (turn_behind first_turn to.attempts).helper == helper then said_for version depth stream q else []) in
      let trail = heard_more version depth stream helpers queries asks old now blank half to.attempts to.trail count gone inside who q later Rest none.interrupted.said none.interrupted.talk
      (subst (IsPrefix none.interrupted.said) (sym (is_it (turn_behind first_turn to.attempts).helper (suc gone) (said_for version depth stream q) [] who)) none.interrupted.order)
      (λ helper other. (_, refl)) in
      inr (inl (record {
        attempts = to.attempts;
        current = q;
        seat = seated none.interrupted.replies;
        waits = none.interrupted.waits;
        trail = subst (λ o. Trail version depth stream helpers queries asks old (set now gone later) blank o to.attempts Rest (lines to.attempts)) (sym none.same) trail;
      }))
  leads_stopped statuses.OutOfMemory (inr (inr stays)) =
      let q : Question = question_of ask.0 ask.1 stays.unrecorded.replies in
      let more : List TalkEvent = said_for version depth stream q ++ stays.unrecorded.ended in
      let Rest : ℕ → List TalkEvent → Type 0 = λ helper l. l ≡ (if (turn_behind first_turn to.attempts).helper == helper then more else []) in
      let trail = heard_more version depth stream helpers queries asks old now blank half to.attempts to.trail count gone inside who q later Rest more stays.unrecorded.talk
      (sym (is_it (turn_behind first_turn to.attempts).helper (suc gone) more [] who))
      (λ helper other. sym (is_other (turn_behind first_turn to.attempts).helper helper more [] (λ e. other (sym who ∙ e)))) in
      inr (inr (record {
        attempts = to.attempts;
        last = q;
        ended = stays.unrecorded.ended;
        seat = seated stays.unrecorded.replies;
        unjudged = stays.unrecorded.unjudged;
        trail = subst (λ o. Trail version depth stream helpers queries asks old (set now gone later) blank o to.attempts Rest (lines to.attempts)) (sym stays.same) trail;
      }))
  leads_stopped _ came = absurd came

-- what stands behind so many is the next one
pub get_drop : {X : Type 0} (n : ℕ) (xs more : List X) (x : X) → drop n xs ≡ x ∷ more → slice_get xs n ≡ Some x
get_drop zero [] more x e = absurd cc
get_drop (suc n) [] more x e = absurd cc
get_drop zero (y ∷ xs) more x e = let same : y ≡ x = cc in ap Some same
get_drop (suc n) (y ∷ xs) more x e = get_drop n xs more x e
