-- What a question that is asked without a link comes to is what one over a link comes to.
use Rattle.std.proofs.Common.{◌≡◌, ℕ, ℤ, List, [], true, false, None, Some, Result, Ok, Err, refl, sym, subst, ap, ◌∙◌}
use Rattle.sip_ports.specs.declared.port.TalkEvent.{TalkEvent}
use Rattle.sip_vector.specs.declared.query.Query.{Query}
use Rattle.sip_vector.specs.declared.update.Entry.{Entry}
use Rattle.sip_vector.specs.declared.update.Update.{Update}
use Rattle.sip_wire.specs.declared.version.Version.{Version}
use Rattle.sip_verifier.specs.declared.asker.Unanswered.{Unanswered}
use Rattle.sip_verifier.specs.runs.Askers.{Asks}
use Rattle.sip_verifier.specs.runs.Asking.{IsInterrupted}
use Rattle.sip_verifier.specs.runs.Manners.{Manner}
use Rattle.sip_lookup.specs.declared.answer.LookAnswer.{LookAnswer}
use Rattle.sip_lookup.specs.declared.lookup.Lookup.{Lookup}
use Rattle.sip_lookup.specs.Lookups.{Looked}
use Rattle.sip_lookup.specs.Sittings.{looked_of}
use Rattle.sip_above.specs.declared.large.Large.{Large}
use Rattle.sip_above.specs.inside.Judging as large_sittings
use Rattle.sip_moments.specs.declared.moment.Moment.{Moment}
use Rattle.sip_questions.specs.declared.asker.QuestionGiven.{QuestionGiven}
use Rattle.sip_questions.specs.declared.question.Question.{Question}
use Rattle.sip_questions.specs.declared.question.Question.TheVariants as questions
use Rattle.sip_questions.specs.Questions.{Answered, asking, by_large, by_lookup, by_moment, by_query, to_large, to_lookup, to_moment, to_query}
use Rattle.sip_questions.proofs.ByKind.{IsLike, interrupted_as, large_given as large_stated, large_like, lookup_given, lookup_like, moment_given as moment_stated, moment_like, query_came, query_like, stopped_as}
use Rattle.sip_questions.specs.Sittings.{query_like as like_question, stated}
use Rattle.sip_replies.specs.declared.asking.AskStop.{AskStop}
use Rattle.sip_replies.specs.declared.check.Said.{Said}
use Rattle.sip_replies.specs.declared.turn.Stage.{Stage}
use Rattle.sip_replies.specs.declared.turn.Stage.TheVariants as stages
use Rattle.sip_replies.specs.Following.{verdict_of}
use Rattle.sip_verifier.specs.inside.Judging as judging
use Rattle.sip_verifier.specs.QuerySeats.{RunningNumbers, RunsOn}
use Rattle.sip_moments.specs.Sittings as moment_sittings
use Rattle.sip_steps.specs.declared.looking.Looking.{Looking}
use Rattle.sip_steps.specs.declared.opening.Opening.{Opening}
use Rattle.sip_steps.specs.declared.opening.Opening.TheVariants as openings
use Rattle.sip_steps.specs.declared.posing.Posing.{Posing}
use Rattle.sip_field.specs.Moduli.{m61_modulus}
use Rattle.sip_tree.specs.StandsFor.{RootStandsFor}
use Rattle.sip_vector.specs.declared.update.Side.TheVariants.{First}
use Rattle.sip_vector.specs.Streams.{vector}
use Rattle.sip_steps.specs.Looked.{IsLookedBy, SaysLooked, is_judged}
use Rattle.sip_steps.specs.Openings as opened
use Rattle.sip_steps.specs.Posed.{ComesOf, Waits, WaitsFor, asked_at, pairs_at, stage_at}
use Rattle.sip_steps.specs.declared.question.QuestionAsking.{QuestionAsking}
use Rattle.sip_steps.specs.declared.question.QuestionAsking.TheVariants as askings
use Rattle.sip_steps.specs.Questioned.{About, ComesTo, IsAskedOf, IsOf, IsOpened, IsSought, by_opening, given_of, is_hearing_at, large_given, look_given, moment_given, question_by}
use Rattle.sip_steps.proofs.Lookings.{look_said, look_waits}
use Rattle.sip_steps.proofs.Awaiting.{look_due}
use Rattle.sip_steps.proofs.Posings.{comes, waits_for}

-- ---- what is asked by one message

-- it is judged by the numbers of the query that is like it
like_same : (opening : Opening) → like_question (question_by opening) ≡ opened.query_like opening
like_same (openings.Query query) = refl
like_same (openings.Moment moment) = refl
like_same (openings.Large large) = refl

module _ (q : About) (stream : List Update) (events : List TalkEvent) (entries : List Entry) where
  abbrev n : Manner Question Answered
  n = asking q.version q.depth stream

  abbrev Came : Opening → Result QuestionGiven Unanswered → Type 0
  Came opening said = Asks n (question_by opening, q.block) (Some []) (Some events) (λ given answer. stated entries given ≡ (question_by opening, answer)) said

  moment_came : (moment : Moment) (r : Result ℤ Unanswered) → Asks (by_moment q.version q.depth stream) (moment, q.block) (Some []) (Some events) (λ (value said : ℤ). value ≡ said) r → Came (openings.Moment moment) (moment_given moment r)
  moment_came moment (Ok value) x = moment_stated q.version q.depth stream q.block (Some []) (Some events) entries moment value x
  moment_came moment (Err why) x =
      stopped_as (by_moment q.version q.depth stream) n moment (questions.Moment moment) q.block to_moment (moment_like q.version q.depth stream q.block moment) (Some []) (Some events)
      (λ (value said : ℤ). value ≡ said) (λ (given : QuestionGiven) (answer : Answered). stated entries given ≡ (questions.Moment moment, answer)) why x

  large_came : (large : Large) (r : Result (Unit {0}) Unanswered) → Asks (by_large q.version q.depth stream) (large, q.block) (Some []) (Some events) (λ (_ : Unit {0}) (answer : List Entry). entries ≡ answer) r → Came (openings.Large large) (large_given large r)
  large_came large (Ok t) x = large_stated q.version q.depth stream q.block (Some []) (Some events) entries large x
  large_came large (Err why) x =
      stopped_as (by_large q.version q.depth stream) n large (questions.Large large) q.block to_large (large_like q.version q.depth stream q.block large) (Some []) (Some events)
      (λ (_ : Unit {0}) (answer : List Entry). entries ≡ answer) (λ (given : QuestionGiven) (answer : Answered). stated entries given ≡ (questions.Large large, answer)) why x

  opening_came : (opening : Opening) (r : Result Said AskStop) → ComesOf (by_opening q opening) stream events entries r opening → Came opening (given_of opening r)
  opening_came (openings.Query query) r x = query_came q.version q.depth stream q.block (Some []) (Some events) entries query (judging.verdict_of r) x
  opening_came (openings.Moment moment) r x = moment_came moment (moment_sittings.verdict_of r) x
  opening_came (openings.Large large) r x = large_came large (large_sittings.verdict_of r) x

  lookup_came : (lookup : Lookup) (r : Result LookAnswer Unanswered) → Asks (by_lookup q.version q.depth stream) (lookup, q.block) (Some []) (Some events) (λ (given : LookAnswer) (looked : Looked). looked_of given ≡ looked) r
      → Asks n (questions.Lookup lookup, q.block) (Some []) (Some events) (λ given answer. stated entries given ≡ (questions.Lookup lookup, answer)) (look_given lookup r)
  lookup_came lookup (Ok answer) x = lookup_given q.version q.depth stream q.block (Some []) (Some events) entries lookup answer x
  lookup_came lookup (Err why) x =
      stopped_as (by_lookup q.version q.depth stream) n lookup (questions.Lookup lookup) q.block to_lookup (lookup_like q.version q.depth stream q.block lookup) (Some []) (Some events)
      (λ (given : LookAnswer) (looked : Looked). looked_of given ≡ looked) (λ (given : QuestionGiven) (answer : Answered). stated entries given ≡ (questions.Lookup lookup, answer)) why x

-- while there is no verdict, it is as one that stopped
open_asks : (q : About) (stream : List Update) (events : List TalkEvent) (entries : List Entry) (opening : Opening) (stage : Stage) → verdict_of stage ≡ None
    → Came q stream events entries opening (given_of opening (asked_at stage)) → IsInterrupted (asking q.version q.depth stream) (question_by opening) q.block (Some []) (Some events)
open_asks q stream events entries (openings.Query query) stages.Asks none x = x
open_asks q stream events entries (openings.Query query) stages.Hears none x = x
open_asks q stream events entries (openings.Query query) (stages.Reveals challenge) none x = x
open_asks q stream events entries (openings.Moment moment) stages.Asks none x = x
open_asks q stream events entries (openings.Moment moment) stages.Hears none x = x
open_asks q stream events entries (openings.Moment moment) (stages.Reveals challenge) none x = x
open_asks q stream events entries (openings.Large large) stages.Asks none x = x
open_asks q stream events entries (openings.Large large) stages.Hears none x = x
open_asks q stream events entries (openings.Large large) (stages.Reveals challenge) none x = x
open_asks q stream events entries opening (stages.Said said) none x = absurd cc
open_asks q stream events entries opening (stages.Rejected round reason) none x = absurd cc

-- a verdict is what is asked at its stage
pub said_at : (stage : Stage) (r : Result Said AskStop) → verdict_of stage ≡ Some r → asked_at stage ≡ r
said_at (stages.Said said) r is = cc
said_at (stages.Rejected round reason) r is = cc
said_at stages.Asks r is = absurd cc
said_at stages.Hears r is = absurd cc
said_at (stages.Reveals challenge) r is = absurd cc

module _ (q : About) (stream : List Update) (events : List TalkEvent) (p : Posing) (of : IsOf q stream) (is : IsOpened q events p) where
  of_opening : opened.IsOf (by_opening q is.opening) stream
  of_opening = subst (λ (x : Query). RunsOn q.depth stream x q.block q.running) (ap like_question is.is ∙ like_same is.opening) of

  posed_came : Came q stream events (pairs_at p) is.opening (given_of is.opening (asked_at (stage_at p)))
  posed_came = opening_came q stream events (pairs_at p) is.opening (asked_at (stage_at p)) (comes (by_opening q is.opening) stream events p of_opening is.talk)

  pub posed_open : verdict_of (stage_at p) ≡ None → ComesTo q stream events (pairs_at p) None
  posed_open none =
      subst (λ (x : Question). IsInterrupted (asking q.version q.depth stream) x q.block (Some []) (Some events)) (sym is.is)
      (open_asks q stream events (pairs_at p) is.opening (stage_at p) none posed_came)

  pub posed_said : (asked : Result Said AskStop) → verdict_of (stage_at p) ≡ Some asked → ComesTo q stream events (pairs_at p) (Some (given_of is.opening asked))
  posed_said asked said =
      subst (λ (x : Question). Asks (asking q.version q.depth stream) (x, q.block) (Some []) (Some events) (λ given answer. stated (pairs_at p) given ≡ (x, answer)) (given_of is.opening asked)) (sym is.is)
      (subst (λ (r : Result Said AskStop). Came q stream events (pairs_at p) is.opening (given_of is.opening r)) (said_at (stage_at p) asked said) posed_came)

-- ---- a lookup

module _ (q : About) (stream : List Update) (events : List TalkEvent) (l : Looking) (of : IsOf q stream) (is : IsSought q events l) where
  root_stands : RootStandsFor m61_modulus q.block l.root.value (vector q.depth stream First)
  root_stands =
      subst (λ (r : RunningNumbers). RunsOn q.depth stream (like_question (questions.Lookup l.lookup)) q.block r) is.running
      (subst (λ (x : Question). RunsOn q.depth stream (like_question x) q.block q.running) is.is of)

  own_talk : IsLookedBy q.version q.depth l.lookup q.block l.root.value events l.step
  own_talk =
      subst (λ (v : Version). IsLookedBy v q.depth l.lookup q.block l.root.value events l.step) is.version
      (subst (λ (d : ℕ). IsLookedBy l.version d l.lookup q.block l.root.value events l.step) is.depth
      (subst (λ (b : List ℕ). IsLookedBy l.version l.depth l.lookup b l.root.value events l.step) is.block is.talk))

  lookup_open : IsInterrupted (by_lookup q.version q.depth stream) l.lookup q.block (Some []) (Some events) → ComesTo q stream events [] None
  lookup_open x =
      subst (λ (y : Question). IsInterrupted (asking q.version q.depth stream) y q.block (Some []) (Some events)) (sym is.is)
      (interrupted_as (by_lookup q.version q.depth stream) (asking q.version q.depth stream) l.lookup (questions.Lookup l.lookup) q.block to_lookup (lookup_like q.version q.depth stream q.block l.lookup) (Some []) (Some events) x)

  pub sought_open : is_judged l.step ≡ false → ComesTo q stream events [] None
  sought_open none = lookup_open (look_waits q.version q.depth stream l.lookup q.block l.root.value is.some root_stands events l.step own_talk none)

  pub sought_said : (said : Result LookAnswer Unanswered) → SaysLooked l.depth l.lookup l.step (Some said) → ComesTo q stream events [] (Some (look_given l.lookup said))
  sought_said said says =
      let own = subst (λ (d : ℕ). SaysLooked d l.lookup l.step (Some said)) is.depth says in
      subst (λ (y : Question). Asks (asking q.version q.depth stream) (y, q.block) (Some []) (Some events) (λ given answer. stated [] given ≡ (y, answer)) (look_given l.lookup said)) (sym is.is)
      (lookup_came q stream events [] l.lookup said (look_said q.version q.depth stream l.lookup q.block l.root.value is.some root_stands events l.step own_talk said own))

-- ---- while bytes are to come

waits_as : {Q A : Type 0} (m : Manner Q A) (n : Manner Question Answered) (query : Q) (question : Question) (block : List ℕ) (to : A → Answered) → IsLike m n query question block to → (events : List TalkEvent) → Waits m query block events → Waits n question block events
waits_as m n query question block to like events w = record { replies = w.replies; talk = w.talk ∙ like.said w.replies; waits = like.waits w.replies w.waits }

module _ (q : About) (stream : List Update) (events : List TalkEvent) (of : IsOf q stream) where
  abbrev Due : Question → Type 0
  Due question = Waits (asking q.version q.depth stream) question q.block events

  opening_due : (o : Opening) → WaitsFor (by_opening q o) stream events o → Due (question_by o)
  opening_due (openings.Query query) w = waits_as (by_query q.version q.depth stream) (asking q.version q.depth stream) query (questions.Query query) q.block to_query (query_like q.version q.depth stream q.block query) events w
  opening_due (openings.Moment moment) w = waits_as (by_moment q.version q.depth stream) (asking q.version q.depth stream) moment (questions.Moment moment) q.block to_moment (moment_like q.version q.depth stream q.block moment) events w
  opening_due (openings.Large large) w = waits_as (by_large q.version q.depth stream) (asking q.version q.depth stream) large (questions.Large large) q.block to_large (large_like q.version q.depth stream q.block large) events w

  pub question_due : (a : QuestionAsking) → IsAskedOf q events a → is_hearing_at a ≡ true → Due q.question
  question_due (askings.Posed p) is hears =
      subst Due (sym is.is) (opening_due is.opening (waits_for (by_opening q is.opening) stream events p (of_opening q stream events p of is) is.talk hears))
  question_due (askings.Looked l) is hears =
      subst Due (sym is.is) (waits_as (by_lookup q.version q.depth stream) (asking q.version q.depth stream) l.lookup (questions.Lookup l.lookup) q.block to_lookup (lookup_like q.version q.depth stream q.block l.lookup) events
      (look_due q.version q.depth stream l.lookup q.block l.root.value (root_stands q stream events l of is) events l.step (own_talk q stream events l of is) hears))
