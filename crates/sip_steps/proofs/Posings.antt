-- What a question that is posed without a link comes to is what one over a link comes to.
use Rattle.std.proofs.Common.{◌≡◌, ℕ, zero, suc, ◌++◌, true, None, Some, Option, Result, Ok, Err, List, [], ◌∷◌, length, take, min, refl, sym, ap, subst, ◌∙◌, inl, inr, arith, length-append}
use Rattle.std.specs.Prelude.{IfOk}
use Rattle.sip_field.specs.Moduli.{m61_modulus}
use Rattle.sip_ports.specs.declared.port.TalkEvent.{TalkEvent}
use Rattle.sip_vector.specs.declared.update.Entry.{Entry}
use Rattle.sip_vector.specs.declared.update.Update.{Update}
use Rattle.sip_vector.specs.Answers.{Answer}
use Rattle.sip_wire.specs.declared.message.Message.{Message}
use Rattle.sip_wire.specs.declared.message.Message.TheVariants as messages
use Rattle.sip_wire.specs.declared.message.Reason.TheVariants as reasons
use Rattle.sip_wire.specs.Frames.{frame_bytes}
use Rattle.sip_replies.specs.declared.check.Said.TheVariants as saids
use Rattle.sip_replies.specs.declared.turn.Stage.{Stage}
use Rattle.sip_replies.specs.declared.turn.Stage.TheVariants as stages
use Rattle.sip_replies.specs.Asking as general
use Rattle.sip_replies.specs.Feeding.{IsWaiting, Means}
use Rattle.sip_replies.specs.Following.{is_hearing}
use Rattle.sip_replies.specs.Protocols.{Phase, Protocol}
use Rattle.sip_replies.specs.Replies.{Fault, IsUnfinished}
use Rattle.sip_replies.specs.Talks.{asked_unless}
use Rattle.sip_replies.proofs.Fed.{Means-fed}
use Rattle.sip_replies.proofs.Turns.{same_fault}
use Rattle.sip_verifier.specs.Asking as queries
use Rattle.sip_verifier.specs.inside.Judging.{found_in, verdict_of}
use Rattle.sip_verifier.specs.Questions.{IsDue}
use Rattle.sip_verifier.proofs.QueryAsked.{asks}
use Rattle.sip_heavy.specs.Asking.{HeavyStands, phase_of as heavy_phase}
use Rattle.sip_heavy.specs.Counting.{above_over}
use Rattle.sip_heavy.specs.Protocol.{HeavyAsked, HeavyState, heavy_protocol}
use Rattle.sip_verifier.specs.runs.Askers.{Asks}
use Rattle.sip_above.specs.inside.Judging.{verdict_of as large_verdict}
use Rattle.sip_above.specs.Manner.{asking, values_of, weights_of}
use Rattle.sip_above.specs.Questions.{ask_of}
use Rattle.sip_above.proofs.LargeAsked.{asks_so as large_asks}
use Rattle.sip_moments.specs.declared.moment.Moment.{Moment}
use Rattle.sip_moments.specs.AcceptsMoment.{power_at}
use Rattle.sip_moments.specs.Asking.{MomentStands, phase_of}
use Rattle.sip_moments.specs.Manner.{numbers_of}
use Rattle.sip_moments.specs.Protocol.{MomentState, moment_asked, moment_protocol}
use Rattle.sip_moments.proofs.MomentAsked.{asks_so}
use Rattle.sip_steps.specs.declared.asking.Asking.{Asking}
use Rattle.sip_steps.specs.declared.opening.Opening.{Opening}
use Rattle.sip_steps.specs.declared.opening.Opening.TheVariants as openings
use Rattle.sip_steps.specs.declared.posing.Posing.{Posing}
use Rattle.sip_steps.specs.declared.posing.Posing.TheVariants as kinds
use Rattle.sip_steps.specs.Asked.{pairs_of}
use Rattle.sip_steps.specs.Openings.{IsOf, Subject, message_of}
use Rattle.sip_steps.specs.Posed.{ComesOf, HasBegun, IsOfLarge, IsOfMoment, IsOfQuery, IsPosed, IsTalk, WaitsFor, asked_at, pairs_at, stage_at}

-- what is posed has begun
pub has_begun : {E : Type 0} (s : Subject) (result : Result Posing E) → IfOk result (IsPosed s []) → IfOk result HasBegun
has_begun s (Ok p) is = (s, [], is)
has_begun s (Err e) is = is

-- ---- any protocol

module _ {S : Type 0} (P : Protocol S) (request : Message) (block : List ℕ) (events : List TalkEvent) (places : List Entry) where
  -- the talk is one over a link
  pub answers : (stage : Stage) → Means P request block events places stage → general.Answers P request block (Some []) (Some events) None None places (asked_at stage)
  answers stages.Asks m = m
  answers stages.Hears m = m.cut
  answers (stages.Reveals challenge) m = m
  answers (stages.Said said) m = m
  answers (stages.Rejected round reason) m = m

  -- the replies of a talk that waits, the last one of which is a part
  abbrev pub so_far : IsWaiting P request block events → List (List ℕ)
  so_far w = w.replies ++ w.part ∷ []

  pub is_due : (w : IsWaiting P request block events) → IsDue P block (so_far w)
  is_due w =
      let count : length (so_far w) ≡ suc (length w.replies) = omega (arith, length-append w.replies (w.part ∷ [])) in
      let fault : Fault = record { round = length w.replies; reason = reasons.Closed } in
      let unfinished : IsUnfinished P.rules block (so_far w) = record {
        few = omega (arith, w.few, count);
        passes = λ other is.
            let same : fault ≡ other = same_fault fault other (sym w.closed ∙ is) in
            (ap (λ (f : Fault). f.reason) (sym same), ap (λ (f : Fault). suc f.round) (sym same) ∙ sym count);
      } in
      (w.cut.due, unfinished, inr (fault, w.closed))

-- a stage that hears
pub hears_at : {S : Type 0} (P : Protocol S) (request : Message) (block : List ℕ) (events : List TalkEvent) (places : List Entry) (stage : Stage) → is_hearing stage ≡ true → Means P request block events places stage → IsWaiting P request block events
hears_at P request block events places stages.Hears hears m = m
hears_at P request block events places _ hears m = absurd cc

-- no more are shown than there are
take_min : {X : Type 0} (n : ℕ) (xs : List X) → take (min n (length xs)) xs ≡ take n xs
take_min zero xs = let none : min 0 (length xs) ≡ 0 = omega arith in ap (λ (k : ℕ). take k xs) none
take_min (suc n) [] = let none : min (suc n) 0 ≡ 0 = omega arith in ap (λ (k : ℕ). take k []) none
take_min (suc n) (x ∷ xs) =
    let one : min (suc n) (suc (length xs)) ≡ suc (min n (length xs)) = omega arith in
    ap (λ (k : ℕ). take k (x ∷ xs)) one ∙ ap (λ (l : List _). x ∷ l) (take_min n xs)

-- the pairs that are shown
pub shown : (stage : Stage) (places : List Entry) → take (found_in (length places) (asked_at stage)) places ≡ pairs_of stage places
shown stages.Asks places = refl
shown stages.Hears places = refl
shown (stages.Reveals challenge) places = refl
shown (stages.Said (saids.Number n)) places = refl
shown (stages.Said (saids.Pairs found)) places = take_min found places
shown (stages.Rejected round reason) places = refl

-- ---- a query

module _ {C S : Type 0} (P : Protocol S) (stands : S → C → List Entry → Type 0) (phase : C → Phase) (s : Subject) (stream : List Update) (events : List TalkEvent) (a : Asking C Opening)
    (talk : IsTalk P stands phase s events a) (kind : IsOfQuery s P) (of : IsOf s stream) where
  abbrev places : List Entry
  places = a.places.items

  abbrev stage : Stage
  stage = a.turn.stage

  means : Means P (messages.Query kind.query) s.block events places stage
  means = subst (λ (o : Opening). Means P (message_of o) s.block events places stage) kind.is
      (Means-fed P (message_of s.opening) s.block (λ x. stands x a.check places) places a.turn (frame_bytes a.frame) events talk.talk.fed)

  pub query_comes : ComesOf s stream events (pairs_of stage places) (asked_at stage) s.opening
  query_comes =
      let own = kind.own stream of in
      let all = asks s.version s.depth stream kind.query s.block (Some []) (Some events) None None P own places (asked_at stage) (answers P (messages.Query kind.query) s.block events places stage means) in
      subst (λ (o : Opening). ComesOf s stream events (pairs_of stage places) (asked_at stage) o) (sym kind.is)
      (subst (λ (es : List Entry). queries.Asks s.version s.depth stream kind.query s.block (Some []) (Some events) es (verdict_of (asked_at stage))) (shown stage places) all)

  pub query_waits : is_hearing stage ≡ true → WaitsFor s stream events s.opening
  query_waits hears =
      let own = kind.own stream of in
      let w = hears_at P (messages.Query kind.query) s.block events places stage hears means in
      let due = is_due P (messages.Query kind.query) s.block events places w in
      subst (λ (o : Opening). WaitsFor s stream events o) (sym kind.is) (record {
        replies = so_far P (messages.Query kind.query) s.block events places w;
        talk = w.talk ∙ ap (λ (u : Option Answer). asked_unless u P.rules.version (messages.Query kind.query) s.block (so_far P (messages.Query kind.query) s.block events places w)) (sym due.0) ∙ own.said (so_far P (messages.Query kind.query) s.block events places w);
        waits = own.waits (so_far P (messages.Query kind.query) s.block events places w) due;
      })

-- ---- a moment

module _ (s : Subject) (stream : List Update) (events : List TalkEvent) (a : Asking _ Opening) (moment : Moment) (power : ℕ)
    (talk : IsTalk (moment_protocol (moment_asked s.version m61_modulus moment.degree power)) (MomentStands (moment_asked s.version m61_modulus moment.degree power)) phase_of s events a)
    (kind : IsOfMoment s moment power) (of : IsOf s stream) where
  abbrev by_power : ℕ → Protocol MomentState
  by_power n = moment_protocol (moment_asked s.version m61_modulus moment.degree n)

  abbrev held : List Entry
  held = a.places.items

  abbrev at : Stage
  at = a.turn.stage

  moment_means : Means (by_power power) (message_of (openings.Moment moment)) s.block events held at
  moment_means = subst (λ (o : Opening). Means (by_power power) (message_of o) s.block events held at) kind.is
      (Means-fed (by_power power) (message_of s.opening) s.block (λ x. MomentStands (moment_asked s.version m61_modulus moment.degree power) x a.check held) held a.turn (frame_bytes a.frame) events talk.talk.fed)

  abbrev own : Protocol MomentState
  own = by_power (power_at m61_modulus moment.degree (numbers_of s.depth stream moment) s.block)

  own_means : Means own (message_of (openings.Moment moment)) s.block events held at
  own_means = subst (λ (n : ℕ). Means (by_power n) (message_of (openings.Moment moment)) s.block events held at) (kind.own stream of) moment_means

  pub moment_comes : ComesOf s stream events (pairs_of at held) (asked_at at) s.opening
  moment_comes =
      subst (λ (o : Opening). ComesOf s stream events (pairs_of at held) (asked_at at) o) (sym kind.is)
      (asks_so s.version s.depth stream moment s.block (Some []) (Some events) None None held (asked_at at) (answers own (message_of (openings.Moment moment)) s.block events held at own_means))

  pub moment_waits : is_hearing at ≡ true → WaitsFor s stream events s.opening
  moment_waits hears =
      let w = hears_at own (message_of (openings.Moment moment)) s.block events held at hears own_means in
      subst (λ (o : Opening). WaitsFor s stream events o) (sym kind.is) (record {
        replies = so_far own (message_of (openings.Moment moment)) s.block events held w;
        talk = w.talk;
        waits = is_due own (message_of (openings.Moment moment)) s.block events held w;
      })

-- ---- large entries

module _ (asked : HeavyAsked) (s : Subject) (stream : List Update) (events : List TalkEvent) (a : Asking _ Opening) (talk : IsTalk (heavy_protocol asked) (HeavyStands asked) heavy_phase s events a)
    (kind : IsOfLarge s (heavy_protocol asked)) (of : IsOf s stream) where
  abbrev by_tree : Protocol HeavyState
  by_tree = above_over s.version m61_modulus s.depth kind.large.at_least (values_of s.depth stream kind.large) (weights_of s.depth stream kind.large) s.block

  abbrev kept : List Entry
  kept = a.places.items

  abbrev now : Stage
  now = a.turn.stage

  large_means : Means by_tree (ask_of kind.large) s.block events kept now
  large_means =
      subst (λ (P : Protocol HeavyState). Means P (ask_of kind.large) s.block events kept now) (kind.own stream of)
      (subst (λ (o : Opening). Means (heavy_protocol asked) (message_of o) s.block events kept now) kind.is
      (Means-fed (heavy_protocol asked) (message_of s.opening) s.block (λ x. HeavyStands asked x a.check kept) kept a.turn (frame_bytes a.frame) events talk.talk.fed))

  pub large_comes : ComesOf s stream events (pairs_of now kept) (asked_at now) s.opening
  large_comes =
      let all = large_asks s.version s.depth stream kind.large s.block (Some []) (Some events) None None kept (asked_at now) (answers by_tree (ask_of kind.large) s.block events kept now large_means) in
      subst (λ (o : Opening). ComesOf s stream events (pairs_of now kept) (asked_at now) o) (sym kind.is)
      (subst (λ (es : List Entry). Asks (asking s.version s.depth stream) (kind.large, s.block) (Some []) (Some events) (λ (_ : Unit {0}) (answer : List Entry). es ≡ answer) (large_verdict (asked_at now))) (shown now kept) all)

  pub large_waits : is_hearing now ≡ true → WaitsFor s stream events s.opening
  large_waits hears =
      let w = hears_at by_tree (ask_of kind.large) s.block events kept now hears large_means in
      let due = is_due by_tree (ask_of kind.large) s.block events kept w in
      let replies = so_far by_tree (ask_of kind.large) s.block events kept w in
      subst (λ (o : Opening). WaitsFor s stream events o) (sym kind.is) (record {
        replies = replies;
        talk = w.talk ∙ ap (λ (u : Option Answer). asked_unless u s.version (ask_of kind.large) s.block replies) (sym due.0);
        waits = due;
      })

-- ---- each kind

pub comes : (s : Subject) (stream : List Update) (events : List TalkEvent) (p : Posing) → IsOf s stream → IsPosed s events p → ComesOf s stream events (pairs_at p) (asked_at (stage_at p)) s.opening
comes s stream events (kinds.Entries a) of is = query_comes _ _ _ s stream events a is.1 is.2 of
comes s stream events (kinds.Sum a) of is = query_comes _ _ _ s stream events a is.1 is.2 of
comes s stream events (kinds.Heavy a) of is = elim is.2 [ inl query ↦ query_comes _ _ _ s stream events a is.1 query of | inr large ↦ large_comes is.0 s stream events a is.1 large of ]
comes s stream events (kinds.Moment a) of is = moment_comes s stream events a is.0 is.1 is.2 is.3 of

pub waits_for : (s : Subject) (stream : List Update) (events : List TalkEvent) (p : Posing) → IsOf s stream → IsPosed s events p → is_hearing (stage_at p) ≡ true → WaitsFor s stream events s.opening
waits_for s stream events (kinds.Entries a) of is hears = query_waits _ _ _ s stream events a is.1 is.2 of hears
waits_for s stream events (kinds.Sum a) of is hears = query_waits _ _ _ s stream events a is.1 is.2 of hears
waits_for s stream events (kinds.Heavy a) of is hears = elim is.2 [ inl query ↦ query_waits _ _ _ s stream events a is.1 query of hears | inr large ↦ large_waits is.0 s stream events a is.1 large of hears ]
waits_for s stream events (kinds.Moment a) of is hears = moment_waits s stream events a is.0 is.1 is.2 is.3 of hears
