-- A helper's end of a talk over a store of its own, without a link: what its bytes so far are.
--
-- A talk has ended as one on a link does, whose events are these bytes (`ServesStore`), and in which
-- the store was not read again. Until then an opening is awaited, or how many records are to be heard,
-- or what is asked of those that were heard. The store is read in one call: nothing is said of what
-- it tells in another.
use Rattle.std.specs.Prelude.{◌≡◌, ℕ, Bool, true, false, ◌&&◌, not, List, [], ◌++◌, length, Option}
use Rattle.std.specs.Prelude.{Some, None, if◌then◌else◌}
use Rattle.sip_ports.specs.declared.port.TalkEvent.{TalkEvent}
use Rattle.sip_ports.specs.Ports.{ins, outs}
use Rattle.sip_stream.specs.declared.form.Form.{Form}
use Rattle.sip_vector.specs.declared.update.Update.{Update}
use Rattle.sip_wire.specs.declared.kind.Place.TheVariants as places
use Rattle.sip_wire.specs.declared.message.Message.TheVariants as messages
use Rattle.sip_wire.specs.declared.version.Version.TheVariants.{One}
use Rattle.sip_helper.specs.Turns.{version_opened}
use Rattle.sip_questions.specs.declared.store_status.StoreStatus.{StoreStatus}
use Rattle.sip_questions.specs.inside.Keeping.{questions_left}
use Rattle.sip_questions.specs.Serving.{QuestionHelper, fresh_questions, question_rules, step}
use Rattle.sip_questions.specs.StoreFronts.{Hears, IsOpening, Recalls, asked_for, held_frame}
use Rattle.sip_questions.specs.StoreFronts.{opening}
use Rattle.sip_questions.specs.Stores.{ServesStore, store_heard}
use Rattle.sip_steps.specs.declared.coming.Coming.{Coming}
use Rattle.sip_steps.specs.declared.serving_store.ServingStore.{ServingStore}
use Rattle.sip_steps.specs.declared.serving_store.StoreStage.{StoreStage}
use Rattle.sip_steps.specs.declared.serving_store.StoreStage.TheVariants.{Opening, Recalling}
use Rattle.sip_steps.specs.declared.serving_store.StoreStage.TheVariants.{Answering}
use Rattle.sip_steps.specs.Served.{Goes, IsComing}

-- ---- the store

-- what it told before its records were heard, and what it told behind that
pub record StoreRead : Type 0 where
  pub store : Option (List ℕ)
  pub left : Option (List ℕ)

-- it was said how many records are to be heard: the store was read in that call
abbrev pub is_behind : StoreStage → Bool
is_behind Opening = false
is_behind Recalling = false
is_behind Answering = true

abbrev pub is_read : ServingStore → Bool
is_read s = is_behind s.stage

-- what is known of it behind calls before which it told `had`, and behind which it tells `has`: by
-- whether it was read before and then, and what was known before
abbrev pub read_then : Bool → Bool → Option (List ℕ) → Option (List ℕ) → Option StoreRead
    → Option StoreRead
read_then before now had has read =
    if now && not before then Some (record { store = had; left = has }) else read

-- ---- while the talk goes on

-- a helper of questions answers still: no reply was cut short
abbrev pub answers_still : QuestionHelper → Bool
answers_still q = not q.helper.spent

-- by what the helper knows, and what there is of the next frame
module _ (form : Form) (events : List TalkEvent) (core : QuestionHelper) (coming : Coming) where
  -- a part of an opening came
  pub record AwaitsOpening : Type 0 where
    pub fresh : core ≡ fresh_questions
    pub at : coming.offset ≡ 0
    pub part : IsComing One places.AskedQuestion [] events coming

  -- an opening was heard, whether memory was refused for it or not, and a part of a frame came
  pub record AwaitsRecall : Type 0 where
    pub number : ℕ
    pub depth : ℕ
    pub opened : IsOpening number depth
    pub refused : Bool
    pub state : core ≡ step fresh_questions refused (messages.Open number depth)
    pub at : coming.offset ≡ length (opening number depth)
    pub part : IsComing (version_opened number) places.AskedQuestion (ins (opening number depth))
        events coming

  -- records of the store were heard, and what they come to was said: what is asked behind that is
  -- answered by them
  pub record AnswersBy (read : StoreRead) : Type 0 where
    pub recalls : Recalls
    pub us : List Update
    pub hears : Hears recalls form read.store read.left us
    pub goes : Goes question_rules questions_left answers_still
        (store_heard recalls.number recalls.depth us None) (length (asked_for recalls))
        (ins (asked_for recalls) ++ outs (held_frame recalls us)) events core coming

  -- by what is known of the store, and what is awaited
  abbrev pub GoesAt : Option StoreRead → StoreStage → Type 0
  GoesAt None Opening = AwaitsOpening
  GoesAt None Recalling = AwaitsRecall
  GoesAt None Answering = ⊥
  GoesAt (Some read) Opening = ⊥
  GoesAt (Some read) Recalling = ⊥
  GoesAt (Some read) Answering = AnswersBy read

-- ---- the talk

module _ (form : Form) (read : Option StoreRead) (events : List TalkEvent) where
  -- it has ended so, whatever a store tells that was not read, or not again
  abbrev pub EndsBy : StoreStatus → Type 0
  EndsBy status = (again : Option (List ℕ)) → elim read [
    | None ↦ (store : Option (List ℕ)) → ServesStore form store store again again (Some [])
        (Some events) status
    | Some r ↦ ServesStore form r.store r.left again again (Some []) (Some events) status
  ]

  -- by how the talk ended, where it did
  abbrev pub IsStoreServedBy : ServingStore → Option StoreStatus → Type 0
  IsStoreServedBy s None = GoesAt form events s.core s.coming read s.stage
  IsStoreServedBy s (Some status) = EndsBy status

  -- These events are a talk over a store of this form, as far as it is: as they are on a link.
  pub record IsStoreServed (s : ServingStore) : Type 0 where
    pub same_form : s.form ≡ form
    pub so : IsStoreServedBy s s.status

-- It was begun, and nothing but its own calls changed it.
abbrev pub IsUnderWay : ServingStore → Type 0
IsUnderWay s = (form : Form) × (read : Option StoreRead) × (events : List TalkEvent)
    × IsStoreServed form read events s
