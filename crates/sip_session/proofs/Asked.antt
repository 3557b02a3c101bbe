-- Helpers asked in turn: which seats are passed over, and where each attempt leads, by links.
use Rattle.std.proofs.Common.{◌≡◌, ℕ, zero, suc, ◌+◌, ◌-◌, ◌*◌, ◌<◌, ◌≤◌, Option, Some, Result, Ok, Err, List, [], ◌∷◌, length, map, set, get_or, drop, inl, inr, sym, ap, ◌∙◌, subst, arith, add-one, mul-le-mul_right, drop-drop, length-drop}
use Rattle.std.specs.Prelude.{All, slice_get}
use Rattle.std.proofs.lemmas.Bool.{cases_eq}
use Rattle.std.proofs.lemmas.List.{drop-map, get_or-map, length-map}
use Rattle.std.proofs.lemmas.List.Elements.{All-drop}
use Rattle.sip_ports.specs.declared.port.TalkEvent.{TalkEvent}
use Rattle.sip_vector.specs.declared.query.Query.{Query}
use Rattle.sip_vector.specs.declared.update.Update.{Update}
use Rattle.sip_wire.specs.declared.message.Reason.{Reason}
use Rattle.sip_wire.specs.declared.version.Version.{Version}
use Rattle.sip_verifier.specs.declared.status.Status.{Status}
use Rattle.sip_verifier.specs.declared.status.Status.TheVariants as statuses
use Rattle.sip_verifier.specs.Questions.{asking}
use Rattle.sip_verifier.specs.QuerySeats.{Seated, StandsFor}
use Rattle.sip_verifier.specs.runs.Askers.{IsFirst}
use Rattle.sip_verifier.specs.Sittings.{Sitting, asks_left, remaining_of}
use Rattle.sip_verifier.proofs.QueriesChecked.{next_of}
use Rattle.sip_session.specs.declared.panel_asking.At.{At}
use Rattle.sip_session.specs.declared.panel_asking.Came as helper_came
use Rattle.sip_session.specs.declared.panel_asking.Came.TheVariants as cames
use Rattle.sip_session.specs.inside.Hearing.{AllTalks}
use Rattle.sip_session.specs.inside.Trying.{Halts, Leads, TrailsTo, Tries, turn_at}
use Rattle.sip_session.proofs.Attempts.{get_drop, leads_answered, leads_dropped, leads_out, leads_stopped}
use Rattle.sip_session.proofs.Places.{told_set}

-- ---- how many seats

-- seats of the queries that are left, and of those that were answered
pub due_split : (queries asked h : ℕ) → asked ≤ queries → (queries - asked) * h + asked * h ≡ queries * h
due_split queries asked h less = go (queries - asked) (omega arith)
  where
    go : (left : ℕ) → left + asked ≡ queries → left * h + asked * h ≡ queries * h
    go left is = let e : left * h + asked * h ≡ (left + asked) * h = omega arith in e ∙ ap (λ n. n * h) is

pub due_most : (queries asked h : ℕ) → (queries - asked) * h ≤ queries * h
due_most queries asked h = mul-le-mul_right h (let e : queries - asked ≤ queries = omega arith in e)

-- a query is left, so there is a seat for each helper
pub due_least : (queries asked h : ℕ) → asked < queries → h ≤ (queries - asked) * h
due_least queries asked h less = go (queries - asked) (omega arith)
  where
    go : (left : ℕ) → 0 < left → h ≤ left * h
    go zero some = absurd (omega (arith, some))
    go (suc left) some = omega arith

-- the next seat is behind
pub further : (asked gone asked' gone' h : ℕ) → 0 < h → gone' + asked' ≡ gone + asked + 1 → asked ≤ asked' → gone ≤ gone' → asked * h + gone + 1 ≤ asked' * h + gone'
further asked gone asked' gone' h some sum less fewer = elim (cases_eq asked' asked) [
  | inl same ↦ let product : asked' * h ≡ asked * h = ap (λ n. n * h) same in omega arith
  | inr other ↦
      let next : asked' ≡ suc asked = omega (arith, other) in
      let product : asked' * h ≡ asked * h + h = ap (λ n. n * h) next ∙ (let e : suc asked * h ≡ asked * h + h = omega arith in e) in
      omega arith
]

-- ---- which seat

-- a seat's query and block
abbrev pub ask_of : Seated → Query × List ℕ
ask_of s = (s.query, s.block)

-- the first of the seats that are left stands at its place among all
pub at_seat : (left : List Seated) (early n : ℕ) (asks : List (Query × List ℕ)) → asks_left (drop early left) ≡ drop n asks → early < length left
    → (ask : Query × List ℕ) × (more : List (Query × List ℕ)) × (asks_left (drop early left) ≡ ask ∷ more) × (slice_get asks n ≡ Some ask)
at_seat left early n asks is less =
    let some : 0 < length (asks_left (drop early left)) = omega (arith, length-map {B = Query × List ℕ} (drop early left) ask_of, length-drop early left) in
    let first = next_of 0 (asks_left (drop early left)) some in
    (first.0, first.1, first.2, get_drop n asks first.1 first.0 (sym is ∙ first.2))

-- the seat whose turn it is stands behind those that are passed over
pub behind_asks : (all left : List Seated) (p early n : ℕ) → asks_left left ≡ drop p (asks_left all) → p + early ≡ n → asks_left (drop early left) ≡ drop n (asks_left all)
behind_asks all left p early n is sum = sym (drop-map ask_of early left) ∙ ap (λ (l : List (Query × List ℕ)). drop early l) is ∙ drop-drop early p (asks_left all) ∙ ap (λ m. drop m (asks_left all)) sum

pub stand_behind : (stream : List Update) (depth depth' : ℕ) (all left : List Seated) (n : ℕ) → depth' ≡ depth → left ≡ drop n all → All (StandsFor depth stream) all → All (StandsFor depth' stream) left
stand_behind stream depth depth' all left n same is stand =
    subst (λ d. All (StandsFor d stream) left) (sym same) (subst (All (StandsFor depth stream)) (sym is) (All-drop (StandsFor depth stream) n all stand))

-- what came of asking at the first seat behind those that were passed over
tried_behind : (stream : List Update) (asks : List (Query × List ℕ)) (s later : Sitting) (early n gone asked : ℕ) (old new blank full : Option (List TalkEvent)) (r came : Result helper_came.Came Status)
    → later.left ≡ drop early s.left → later.version ≡ s.version → later.depth ≡ s.depth → All (StandsFor s.depth stream) s.left → asks_left (drop early s.left) ≡ drop n asks → early < length s.left → r ≡ came
    → ((ask : Query × List ℕ) → All (StandsFor later.depth stream) later.left → IsFirst (remaining_of later) ask → Tries (asking later.version later.depth stream) ask (gone + 1) (asked + 1) old new blank full r)
    → (ask : Query × List ℕ) × (slice_get asks n ≡ Some ask) × Tries (asking s.version s.depth stream) ask (suc gone) (suc asked) old new blank full came
tried_behind stream asks s later early n gone asked old new blank full r came next version depth stand is less went tries =
    let seat = at_seat s.left early n asks is less in
    let stands = stand_behind stream s.depth later.depth s.left later.left early depth next stand in
    let tried = tries seat.0 stands (record { more = seat.1; first = ap asks_left next ∙ seat.2 }) in (
      seat.0,
      seat.3,
      subst (λ (v : Version). Tries (asking v s.depth stream) seat.0 (suc gone) (suc asked) old new blank full came) version
          (subst (λ (d : ℕ). Tries (asking later.version d stream) seat.0 (suc gone) (suc asked) old new blank full came) depth
          (subst (λ (r : Result helper_came.Came Status). Tries (asking later.version later.depth stream) seat.0 (suc gone) (suc asked) old new blank full r) went
          (subst (λ (n : ℕ). Tries (asking later.version later.depth stream) seat.0 (suc gone) n old new blank full r) (add-one asked)
          (subst (λ (n : ℕ). Tries (asking later.version later.depth stream) seat.0 n (asked + 1) old new blank full r) (add-one gone) tried)))),
    )

-- what came of asking at the seat whose turn it is
pub seat_tried : (stream : List Update) (asks : List (Query × List ℕ)) (s later : Sitting) (h queries gone asked : ℕ) (old new blank full : Option (List TalkEvent)) (r came : Result helper_came.Came Status)
    → gone < h → asked < queries → (queries - asked) * h - gone ≤ length s.left → later.left ≡ drop (length s.left - ((queries - asked) * h - gone)) s.left → later.version ≡ s.version → later.depth ≡ s.depth
    → All (StandsFor s.depth stream) s.left → asks_left (drop (length s.left - ((queries - asked) * h - gone)) s.left) ≡ drop (asked * h + gone) asks → r ≡ came
    → ((ask : Query × List ℕ) → All (StandsFor later.depth stream) later.left → IsFirst (remaining_of later) ask → Tries (asking later.version later.depth stream) ask (gone + 1) (asked + 1) old new blank full r)
    → (ask : Query × List ℕ) × (slice_get asks (asked * h + gone) ≡ Some ask) × Tries (asking s.version s.depth stream) ask (suc gone) (suc asked) old new blank full came
seat_tried stream asks s later h queries gone asked old new blank full r came less more enough next version depth stand is went tries =
    tried_behind stream asks s later _ (asked * h + gone) gone asked old new blank full r came next version depth stand is (omega (arith, due_least queries asked h more, less, enough)) went tries

-- what is left behind the attempt, and those that were passed over
pub left_behind : (all skipped : List Seated) (after : List (Query × List ℕ)) (early : ℕ) → skipped ≡ drop early all → after ≡ drop 1 (asks_left skipped) → after ≡ drop (early + 1) (asks_left all)
left_behind all skipped after early next is =
    is ∙ ap (λ (l : List Seated). drop 1 (asks_left l)) next ∙ ap (λ (l : List (Query × List ℕ)). drop 1 l) (sym (drop-map ask_of early all)) ∙ drop-drop 1 early (asks_left all)

-- ---- seats that are left

module _ (all left : List Seated) (queries asked gone h p : ℕ) (some : asked ≤ queries) (size : length all ≡ queries * h) (most : p ≤ asked * h + gone) (is : asks_left left ≡ drop p (asks_left all)) where
  left_are : length left ≡ queries * h - p
  left_are = sym (length-map {B = Query × List ℕ} left ask_of) ∙ ap (λ (l : List (Query × List ℕ)). length l) is ∙ length-drop p (asks_left all) ∙ ap (λ n. n - p) (length-map {B = Query × List ℕ} all ask_of ∙ size)

  -- there are as many as are due
  pub left_enough : (queries - asked) * h - gone ≤ length left
  left_enough = omega (arith, left_are, due_split queries asked h some)

  module _ (less : gone < h) (more : asked < queries) where
    -- those before the one whose turn it is were passed over, or are
    pub passed_sum : p + (length left - ((queries - asked) * h - gone)) ≡ asked * h + gone
    passed_sum = omega (arith, left_are, due_split queries asked h some, due_least queries asked h more, less)

    -- so that one is the next
    pub next_asks : asks_left (drop (length left - ((queries - asked) * h - gone)) left) ≡ drop (asked * h + gone) (asks_left all)
    next_asks = behind_asks all left p (length left - ((queries - asked) * h - gone)) (asked * h + gone) is passed_sum

-- ---- from the beginning on

-- where one more attempt leads, from the beginning on
pub led_on : (version version' : Version) (depth depth' : ℕ) (stream : List Update) (helpers helpers' queries : ℕ) (asks : List (Query × List ℕ)) (old now new : AllTalks) (blank half full : Option (List TalkEvent)) (gone asked : ℕ) (r : Result At Status)
    → version' ≡ version → depth' ≡ depth → helpers' ≡ helpers → TrailsTo version depth stream helpers queries asks old now blank half (turn_at gone asked)
    → (TrailsTo version' depth' stream helpers' queries asks old now blank half (turn_at gone asked) → Leads version' depth' stream helpers' queries asks old new blank full r)
    → Leads version depth stream helpers queries asks old new blank full r
led_on version version' depth depth' stream helpers helpers' queries asks old now new blank half full gone asked r same_version same_depth same_helpers to more =
    subst (λ (v : Version). TrailsTo v depth stream helpers queries asks old now blank half (turn_at gone asked) → Leads v depth stream helpers queries asks old new blank full r) same_version
    (subst (λ (d : ℕ). TrailsTo version' d stream helpers queries asks old now blank half (turn_at gone asked) → Leads version' d stream helpers queries asks old new blank full r) same_depth
    (subst (λ (h : ℕ). TrailsTo version' depth' stream h queries asks old now blank half (turn_at gone asked) → Leads version' depth' stream h queries asks old new blank full r) same_helpers more)) to

-- ---- one link

module _ {L : Type 0} (talk : L → List TalkEvent) (version : Version) (depth : ℕ) (stream : List Update) (helpers queries : ℕ) (asks : List (Query × List ℕ)) (old : AllTalks) (links : List L)
    (blank half full : Option (List TalkEvent)) (gone asked : ℕ) (to : TrailsTo version depth stream helpers queries asks old (map talk links) blank half (turn_at gone asked))
    (count : length old ≡ length links) (size : length links ≡ helpers) (left : gone < helpers) (more : asked < queries) (ask : Query × List ℕ) (at : slice_get asks (asked * helpers + gone) ≡ Some ask) (one read : L) where
  abbrev Asked : Result helper_came.Came Status → Type 0
  Asked r = Tries (asking version depth stream) ask (suc gone) (suc asked) (Some (talk (get_or links gone read))) (Some (talk one)) half full r

  told : length (map talk links) ≡ length old
  told = length-map links talk ∙ sym count

  sized : length (map talk links) ≡ helpers
  sized = length-map links talk ∙ size

  came_at : (r : Result helper_came.Came Status) → Asked r → Tries (asking version depth stream) ask (suc gone) (suc asked) (Some (get_or (map talk links) gone [])) (Some (talk one)) half full r
  came_at r came = subst (λ t. Tries (asking version depth stream) ask (suc gone) (suc asked) (Some t) (Some (talk one)) half full r) (sym (get_or-map talk links gone read [] (omega (arith, size, left)))) came

  abbrev Leading : AllTalks → ℕ → ℕ → Type 0
  Leading new g a = TrailsTo version depth stream helpers queries asks old new blank full (turn_at g a)

  pub asked_answered : Asked (Ok cames.Answered) → Leading (map talk (set links gone one)) gone (suc asked)
  asked_answered came =
      subst (λ l. Leading l gone (suc asked)) (sym (told_set talk links gone one))
      (leads_answered version depth stream helpers queries asks old (map talk links) blank half full gone asked to told sized left more ask at (talk one) (came_at (Ok cames.Answered) came))

  pub asked_dropped : (round : ℕ) (reason : Reason) → Asked (Ok (cames.Dropped round reason)) → Leading (map talk (set links gone one)) (suc gone) asked
  asked_dropped round reason came =
      subst (λ l. Leading l (suc gone) asked) (sym (told_set talk links gone one))
      (leads_dropped version depth stream helpers queries asks old (map talk links) blank half full gone asked to told sized left more ask at (talk one) round reason (came_at (Ok (cames.Dropped round reason)) came))

  pub asked_out : (round : ℕ) (reason : Reason) → Asked (Ok (cames.Dropped round reason)) → suc gone ≡ helpers
      → Halts version depth stream helpers queries asks old (map talk (set links gone one)) blank full (statuses.Rejected (suc asked) round reason)
  asked_out round reason came last =
      subst (λ l. Halts version depth stream helpers queries asks old l blank full (statuses.Rejected (suc asked) round reason)) (sym (told_set talk links gone one))
      (leads_out version depth stream helpers queries asks old (map talk links) blank half full gone asked to told sized left more ask at (talk one) round reason (came_at (Ok (cames.Dropped round reason)) came) last)

  pub asked_stopped : (status : Status) → Asked (Err status) → Halts version depth stream helpers queries asks old (map talk (set links gone one)) blank full status
  asked_stopped status came =
      subst (λ l. Halts version depth stream helpers queries asks old l blank full status) (sym (told_set talk links gone one))
      (leads_stopped version depth stream helpers queries asks old (map talk links) blank half full gone asked to told sized left more ask at (talk one) status (came_at (Err status) came))
