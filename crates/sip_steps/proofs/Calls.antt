-- A question of any kind, call by call.
use Rattle.std.proofs.Common.{◌≡◌, ℕ, Result, Ok, Err, List, refl, sym, ap, subst, ◌∙◌}
use Rattle.std.specs.Prelude.{OnErr, OnOk}
use Rattle.sip_ports.specs.declared.port.TalkEvent.{TalkEvent}
use Rattle.sip_vector.specs.declared.update.Entry.{Entry}
use Rattle.sip_replies.specs.Protocols.{Phase, Protocol}
use Rattle.sip_verifier.specs.QuerySeats.{root_is}
use Rattle.sip_questions.specs.declared.question.Question.TheVariants as questions
use Rattle.sip_steps.specs.declared.asking.Asking.{Asking}
use Rattle.sip_steps.specs.declared.looking.Looking.{Looking}
use Rattle.sip_steps.specs.declared.opening.Opening.{Opening}
use Rattle.sip_steps.specs.declared.posing.Posing.{Posing}
use Rattle.sip_steps.specs.declared.posing.Posing.TheVariants as kinds
use Rattle.sip_steps.specs.declared.question.QuestionAsking.{QuestionAsking}
use Rattle.sip_steps.specs.Asked.{IsAsked}
use Rattle.sip_steps.specs.Looked.{AsksSame, HasLooked, IsLooked}
use Rattle.sip_steps.specs.Openings.{Subject, message_of}
use Rattle.sip_steps.specs.Posed as posed
use Rattle.sip_steps.specs.Posed.{IsPosed, IsTalk, opening_at}
use Rattle.sip_steps.specs.Questioned.{About, HasBegun, IsAskedOf, IsOpened, IsSought, by_opening}

-- ---- what is asked by one message

pub posed_opening : (s : Subject) (events : List TalkEvent) (p : Posing) → IsPosed s events p → opening_at p ≡ s.opening
posed_opening s events (kinds.Entries a) is = is.1.asks
posed_opening s events (kinds.Sum a) is = is.1.asks
posed_opening s events (kinds.Heavy a) is = is.1.asks
posed_opening s events (kinds.Moment a) is = is.2.asks

-- a talk goes on
pub talks_on : {C S : Type 0} {P : Protocol S} {stands : S → C → List Entry → Type 0} {phase : C → Phase} {s : Subject} {before after : List TalkEvent} {old new : Asking C Opening} → IsTalk P stands phase s before old → new.request ≡ old.request
    → IsAsked P stands phase message_of (message_of s.opening) s.block after new → IsTalk P stands phase s after new
talks_on is same talk = record { asks = same ∙ is.asks; talk = talk }

-- ---- behind a call

pub question_after : {T E : Type 0} (r : Result T E) (q : About) (before after : List TalkEvent) (old new : QuestionAsking) → IsAskedOf q before old → OnOk r (IsAskedOf q after new) → OnErr r (new ≡ old) → HasBegun new
question_after (Ok t) q before after old new is asked same = (q, after, asked)
question_after (Err e) q before after old new is asked same = (q, before, subst (λ (a : QuestionAsking). IsAskedOf q before a) (sym same) is)

module _ (q : About) (events : List TalkEvent) where
  pub opened_begun : (p : Posing) → IsOpened q events p → posed.HasBegun p
  opened_begun p is = (by_opening q is.opening, events, is.talk)

  pub opened_more : (old new : Posing) (after : List TalkEvent) (is : IsOpened q events old) → IsPosed (by_opening q is.opening) after new → IsOpened q after new
  opened_more old new after is talk = record { opening = is.opening; is = is.is; talk = talk }

  pub sought_begun : (l : Looking) → IsSought q events l → HasLooked l
  sought_begun l is = record { events = events; looked = is.talk }

  pub sought_more : (old new : Looking) (after : List TalkEvent) → IsSought q events old → AsksSame old new → IsLooked old.root.seat old.root.value after new → IsSought q after new
  sought_more old new after is same talk = record {
    version = same.version ∙ is.version;
    depth = same.depth ∙ is.depth;
    is = is.is ∙ ap questions.Lookup (sym same.lookup);
    block = same.block ∙ is.block;
    running = is.running ∙ ap root_is (sym same.value);
    some = is.some;
    talk = subst (λ (v : ℕ). IsLooked new.root.seat v after new) (sym same.value) (subst (λ (l : List ℕ). IsLooked l old.root.value after new) (sym same.block) talk);
  }
