-- A talk over a store without a link, call by call.
use Rattle.std.proofs.Common.{◌≡◌, ◌≢◌, ℕ, ◌<◌, ◌≤◌, ◌++◌, Bool, true, false, Option, None, Some, List, [], ◌∷◌, length, refl, sym, ap, subst, ◌∙◌, arith}
use Rattle.std.specs.Prelude.{IsTrue, is_some}
use Rattle.sip_ports.specs.declared.port.TalkEvent.{TalkEvent}
use Rattle.sip_ports.specs.declared.port.TalkEvent.TheVariants.{Ended}
use Rattle.sip_ports.specs.Ports.{GoesOn, ins, outs}
use Rattle.sip_ports.proofs.TalkLemmas.{GoesOn-trans}
use Rattle.sip_stream.specs.declared.form.Form.{Form}
use Rattle.sip_wire.specs.declared.message.Message.TheVariants as messages
use Rattle.sip_wire.specs.declared.kind.Place.TheVariants as places
use Rattle.sip_wire.specs.declared.version.Version.{Version}
use Rattle.sip_wire.specs.declared.version.Version.TheVariants.{One}
use Rattle.sip_wire.specs.Frames.{frame_bytes}
use Rattle.sip_wire.specs.Spelling.{asked}
use Rattle.sip_wire.proofs.Longest.{spelling_at_most}
use Rattle.sip_helper.specs.declared.status.HelpStatus.{HelpStatus}
use Rattle.sip_helper.specs.declared.status.HelpStatus.TheVariants as helps
use Rattle.sip_helper.specs.OneTurn.{StopsTurn}
use Rattle.sip_helper.specs.inside.Measures.{most_received}
use Rattle.sip_helper.specs.Turns.{version_opened}
use Rattle.sip_questions.specs.declared.recalling.Recalling.{Recalling as Recaller}
use Rattle.sip_questions.specs.declared.store_status.StoreStatus.{StoreStatus}
use Rattle.sip_questions.specs.declared.store_status.StoreStatus.TheVariants as statuses
use Rattle.sip_questions.specs.inside.Keeping.{questions_left}
use Rattle.sip_questions.specs.Serving.{QuestionHelper, fresh_questions, question_rules, step}
use Rattle.sip_questions.specs.StoreFronts.{Recalls, asked_for, held_frame, opening}
use Rattle.sip_questions.specs.Stores.{awaiting, recall_rules, status_of, store_heard}
use Rattle.sip_steps.specs.declared.coming.Came.TheVariants.{Part, Turn, End}
use Rattle.sip_steps.specs.declared.coming.Coming.{Coming}
use Rattle.sip_steps.specs.declared.serving_store.ServingStore.{ServingStore}
use Rattle.sip_steps.specs.declared.serving_store.StoreStage.{StoreStage}
use Rattle.sip_steps.specs.declared.serving_store.StoreStage.TheVariants.{Opening, Recalling, Answering}
use Rattle.sip_steps.specs.Served.{Passes, end_seen}
use Rattle.sip_steps.specs.StoreServed.{AwaitsOpening, AwaitsRecall, EndsBy, GoesAt, IsStoreServed, IsStoreServedBy, StoreRead, answers_still, is_behind, read_then}
use Rattle.sip_steps.specs.inside.StoreTurning.{HasPut, IsPut}
use Rattle.sip_steps.specs.inside.Turning.{ComesPart, ComesTurn}
use Rattle.sip_steps.proofs.OneTalk.{closed_then, offset_few, went}
use Rattle.sip_steps.proofs.OverStore.{answers_end, asked_short, opening_closed, opening_end, opening_part, opening_silent, opening_turn, recall_at, recall_closed, recall_count, recall_end, recall_part, recall_silent, recall_talk, recalls_then}

-- ---- what is known of the store

-- nothing more where it was not read in between
pub read_same : (before now : Bool) (had has : Option (List ℕ)) (read : Option StoreRead) → now ≡ before → read_then before now had has read ≡ read
read_same false false had has read same = refl
read_same false true had has read same = absurd cc
read_same true false had has read same = absurd cc
read_same true true had has read same = refl

-- it was read
pub read_new : (before now : Bool) (had has : Option (List ℕ)) (read : Option StoreRead) → before ≡ false → now ≡ true → read_then before now had has read ≡ Some (record { store = had; left = has })
read_new false true had has read one two = refl
read_new true now had has read one two = absurd cc
read_new false false had has read one two = absurd cc

-- what is so once stays so
pub false_before : (before now : Bool) → (before ≡ true → now ≡ true) → now ≡ false → before ≡ false
false_before false now then unread = refl
false_before true now then unread = absurd (let both = sym (then refl) ∙ unread in cc)

pub same_between : (before between now : Bool) → (before ≡ true → between ≡ true) → (between ≡ true → now ≡ true) → now ≡ before → (between ≡ before) × (now ≡ between)
same_between true between now first then same = (first refl, same ∙ sym (first refl))
same_between false between now first then same =
    let none = false_before between now then same in
    (none, same ∙ sym none)

-- it was read once, in one of two calls
pub read_once : (before between now : Bool) (had mid has : Option (List ℕ)) (read : Option StoreRead) → (before ≡ true → between ≡ true) → (between ≡ true → now ≡ true) → (between ≡ before → mid ≡ had) → (now ≡ between → has ≡ mid)
    → read_then between now mid has (read_then before between had mid read) ≡ read_then before now had has read
read_once false false false had mid has read first then one two = refl
read_once false false true had mid has read first then one two = ap (λ (o : Option (List ℕ)). Some (record { store = o; left = has })) (one refl)
read_once false true true had mid has read first then one two = ap (λ (o : Option (List ℕ)). Some (record { store = had; left = o })) (sym (two refl))
read_once false true false had mid has read first then one two = absurd (let no = then refl in cc)
read_once true true true had mid has read first then one two = refl
read_once true true false had mid has read first then one two = absurd (let no = then refl in cc)
read_once true false now had mid has read first then one two = absurd (let no = first refl in cc)

-- ---- where a talk is

module _ (form : Form) (all : List TalkEvent) (s : ServingStore) (same : s.form ≡ form) where
  -- it goes on
  pub still : (read : Option StoreRead) (stage : StoreStage) → s.status ≡ None → s.stage ≡ stage → GoesAt form all s.core s.coming read stage → IsStoreServed form read all s
  still read stage none at goes = record {
    same_form = same;
    so = subst (λ (how : Option StoreStatus). IsStoreServedBy form read all s how) (sym none) (subst (λ (x : StoreStage). GoesAt form all s.core s.coming read x) (sym at) goes);
  }

  -- it has ended
  pub over : (read : Option StoreRead) (status : StoreStatus) → s.status ≡ Some status → EndsBy form read all status → IsStoreServed form read all s
  over read status some ends = record { same_form = same; so = subst (λ (how : Option StoreStatus). IsStoreServedBy form read all s how) (sym some) ends }

-- it goes on where it has not ended
pub goes_still : (form : Form) (read : Option StoreRead) (events : List TalkEvent) (s : ServingStore) → s.status ≡ None → IsStoreServed form read events s → GoesAt form events s.core s.coming read s.stage
goes_still form read events s none served = subst (λ (how : Option StoreStatus). IsStoreServedBy form read events s how) none served.so

-- behind the end of a talk nothing more is seen
pub ended_unseen : {T : Type 0} (o : Option T) → is_some o ≡ true → end_seen o ≡ []
ended_unseen None e = absurd cc
ended_unseen (Some x) e = refl

-- ---- what a call passed on

-- the store was not read in it
pub passes_unread : (form : Form) (read : Option StoreRead) (s : ServingStore) (before now : Bool) (had has : Option (List ℕ)) → now ≡ before → (old new : Option (List TalkEvent)) (piece : List ℕ) (events : List TalkEvent)
    → Passes old new piece events (λ all. IsStoreServed form read all s) → Passes old new piece events (λ all. IsStoreServed form (read_then before now had has read) all s)
passes_unread form read s before now had has same old new piece events p = record {
  more = p.more;
  came = p.came;
  went = p.went;
  after = subst (λ (o : Option StoreRead). IsStoreServed form o (events ++ p.more) s) (sym (read_same before now had has read same)) p.after;
}

-- it was
pub passes_read : (form : Form) (read : Option StoreRead) (s : ServingStore) (before now : Bool) (had has : Option (List ℕ)) → before ≡ false → now ≡ true → (old new : Option (List TalkEvent)) (piece : List ℕ) (events : List TalkEvent)
    → Passes old new piece events (λ all. IsStoreServed form (Some (record { store = had; left = has })) all s) → Passes old new piece events (λ all. IsStoreServed form (read_then before now had has read) all s)
passes_read form read s before now had has one two old new piece events p = record {
  more = p.more;
  came = p.came;
  went = p.went;
  after = subst (λ (o : Option StoreRead). IsStoreServed form o (events ++ p.more) s) (sym (read_new before now had has read one two)) p.after;
}

-- nothing was sent, and then something
pub went_behind : (old mid new : Option (List TalkEvent)) (sent more : List ℕ) → sent ≡ [] → GoesOn old mid (outs sent) → GoesOn mid new (outs more) → GoesOn old new (outs more)
went_behind old mid new sent more none one two = GoesOn-trans old mid new [] (outs more) (subst (λ (l : List ℕ). GoesOn old mid (outs l)) none one) two

pub went_silent : (old new : Option (List TalkEvent)) (sent : List ℕ) → sent ≡ [] → GoesOn old new (outs sent) → GoesOn old new []
went_silent old new sent none went = subst (λ (l : List ℕ). GoesOn old new (outs l)) none went

-- ---- an opening, or what is asked

-- the status that a talk ended by
no_read_fault : (how : HelpStatus) → status_of how ≡ statuses.ReadFault → ⊥
no_read_fault helps.Served e = cc
no_read_fault (helps.BadFrame offset) e = cc
no_read_fault helps.PeerClosed e = cc
no_read_fault helps.PeerFault e = cc
no_read_fault helps.OutOfMemory e = cc

by_fault : (how : HelpStatus) → status_of how ≡ statuses.PeerFault → how ≡ helps.PeerFault
by_fault helps.Served e = absurd cc
by_fault (helps.BadFrame offset) e = absurd cc
by_fault helps.PeerClosed e = absurd cc
by_fault helps.PeerFault e = refl
by_fault helps.OutOfMemory e = absurd cc

by_want : (how : HelpStatus) → status_of how ≡ statuses.OutOfMemory → how ≡ helps.OutOfMemory
by_want helps.Served e = absurd cc
by_want (helps.BadFrame offset) e = absurd cc
by_want helps.PeerClosed e = absurd cc
by_want helps.PeerFault e = absurd cc
by_want helps.OutOfMemory e = refl

module _ (how : HelpStatus) (status : StoreStatus) (is : status ≡ status_of how) where
  pub ended_fault : Some status ≢ Some statuses.ReadFault
  ended_fault e =
      let same : status ≡ statuses.ReadFault = cc in
      no_read_fault how (sym is ∙ same)

  pub ended_cause : {R : Type 0} → (Some how ≡ Some helps.PeerFault → R) → Some status ≡ Some statuses.PeerFault → R
  ended_cause rose e =
      let same : status ≡ statuses.PeerFault = cc in
      rose (ap (λ (h : HelpStatus). Some h) (by_fault how (sym is ∙ same)))

  pub ended_want : {R : Type 0} → (Some how ≡ Some helps.OutOfMemory → R) → Some status ≡ Some statuses.OutOfMemory → R
  ended_want rose e =
      let same : status ≡ statuses.OutOfMemory = cc in
      rose (ap (λ (h : HelpStatus). Some h) (by_want how (sym is ∙ same)))

-- what is awaited behind a turn
abbrev pub stage_behind : StoreStage → StoreStage
stage_behind Opening = Recalling
stage_behind Recalling = Recalling
stage_behind Answering = Answering

pub only_answering : (stage : StoreStage) → stage ≢ Opening → stage ≢ Recalling → stage ≡ Answering
only_answering Opening one two = absurd (one refl)
only_answering Recalling one two = absurd (two refl)
only_answering Answering one two = refl

module _ (form : Form) (events : List TalkEvent) (core : QuestionHelper) (was : Coming) where
  -- what is needed to look at a frame
  pub record Ready : Type 0 where
    pub live : IsTrue (answers_still core)
    pub going : core.helper.done ≡ false
    pub few : was.offset ≤ most_received

  pub ready : (read : Option StoreRead) (stage : StoreStage) → stage ≢ Recalling → GoesAt form events core was read stage → Ready
  ready None Opening not so = record {
    live = subst (λ (q : QuestionHelper). IsTrue (answers_still q)) (sym so.fresh) refl;
    going = ap (λ (q : QuestionHelper). q.helper.done) so.fresh;
    few = omega (arith, so.at);
  }
  ready read Recalling not so = absurd (not refl)
  ready None Answering not so = absurd so
  ready (Some read) Opening not so = absurd so
  ready (Some read) Answering not so = record {
    live = so.goes.live;
    going = so.goes.turns.going;
    few = offset_few question_rules questions_left (store_heard so.recalls.number so.recalls.depth so.us None) core (ins (asked_for so.recalls) ++ outs (held_frame so.recalls so.us)) so.goes.before (length (asked_for so.recalls)) was.offset was.offset so.goes.turns refl (asked_short so.recalls);
  }

  -- the part of a frame that is there can be added to
  pub short_at : (read : Option StoreRead) (stage : StoreStage) → GoesAt form events core was read stage → length (frame_bytes was.frame) < asked core.helper.version places.AskedQuestion (frame_bytes was.frame)
  short_at None Opening so = subst (λ (q : QuestionHelper). length (frame_bytes was.frame) < asked q.helper.version places.AskedQuestion (frame_bytes was.frame)) (sym so.fresh) so.part.short
  short_at None Recalling so = subst (λ (q : QuestionHelper). length (frame_bytes was.frame) < asked q.helper.version places.AskedQuestion (frame_bytes was.frame)) (sym so.state) so.part.short
  short_at None Answering so = absurd so
  short_at (Some read) Opening so = absurd so
  short_at (Some read) Recalling so = absurd so
  short_at (Some read) Answering so = so.goes.part.short

  -- the other end closed
  pub closed_at : (read : Option StoreRead) (stage : StoreStage) → GoesAt form events core was read stage → EndsBy form read (events ++ Ended ∷ []) statuses.PeerClosed
  closed_at None Opening so = opening_closed form events core was so
  closed_at None Recalling so = recall_closed form events core was so
  closed_at None Answering so = absurd so
  closed_at (Some read) Opening so = absurd so
  closed_at (Some read) Recalling so = absurd so
  closed_at (Some read) Answering so =
      answers_end form read events (events ++ Ended ∷ []) core was so helps.PeerClosed
      (closed_then question_rules questions_left answers_still (store_heard so.recalls.number so.recalls.depth so.us None) (length (asked_for so.recalls)) (ins (asked_for so.recalls) ++ outs (held_frame so.recalls so.us)) events core was so.goes)

  module _ (put new : Coming) (sent : List ℕ) (next : QuestionHelper) (same : put.offset ≡ was.offset) where
    abbrev got : List ℕ
    got = frame_bytes put.frame

    -- what there was of the frame, and what came of it
    pub record Behind (After : List TalkEvent → Type 0) : Type 0 where
      pub before : List TalkEvent
      pub last : events ≡ before ++ ins (frame_bytes was.frame)
      pub after : After ((before ++ ins got) ++ outs sent)

    pub at_part : (read : Option StoreRead) (stage : StoreStage) → stage ≢ Recalling → GoesAt form events core was read stage → ComesPart question_rules questions_left answers_still core next sent put new → Behind (λ all. GoesAt form all next new read stage)
    at_part None Opening not so came = record {
      before = [];
      last = so.part.last;
      after = opening_part form events was put new sent next same (subst (λ (q : QuestionHelper). AwaitsOpening form events q was) so.fresh so) (subst (λ (q : QuestionHelper). ComesPart question_rules questions_left answers_still q next sent put new) so.fresh came);
    }
    at_part read Recalling not so came = absurd (not refl)
    at_part None Answering not so came = absurd so
    at_part (Some read) Opening not so came = absurd so
    at_part (Some read) Answering not so came = record {
      before = so.goes.before;
      last = so.goes.part.last;
      after = record { recalls = so.recalls; us = so.us; hears = so.hears; goes = went question_rules questions_left answers_still (store_heard so.recalls.number so.recalls.depth so.us None) (length (asked_for so.recalls)) (ins (asked_for so.recalls) ++ outs (held_frame so.recalls so.us)) events core was so.goes put new next sent same Part came };
    }

    pub at_turn : (read : Option StoreRead) (stage : StoreStage) → stage ≢ Recalling → GoesAt form events core was read stage → ComesTurn question_rules questions_left answers_still core next sent put new → Behind (λ all. GoesAt form all next new read (stage_behind stage))
    at_turn None Opening not so came = record {
      before = [];
      last = so.part.last;
      after = opening_turn form events was put new sent next same (subst (λ (q : QuestionHelper). AwaitsOpening form events q was) so.fresh so) (subst (λ (q : QuestionHelper). ComesTurn question_rules questions_left answers_still q next sent put new) so.fresh came);
    }
    at_turn read Recalling not so came = absurd (not refl)
    at_turn None Answering not so came = absurd so
    at_turn (Some read) Opening not so came = absurd so
    at_turn (Some read) Answering not so came = record {
      before = so.goes.before;
      last = so.goes.part.last;
      after = record { recalls = so.recalls; us = so.us; hears = so.hears; goes = went question_rules questions_left answers_still (store_heard so.recalls.number so.recalls.depth so.us None) (length (asked_for so.recalls)) (ins (asked_for so.recalls) ++ outs (held_frame so.recalls so.us)) events core was so.goes put new next sent same Turn came };
    }

    -- to an opening nothing is sent
    pub at_silent : (read : Option StoreRead) (stage : StoreStage) → is_behind stage ≡ false → stage ≢ Recalling → GoesAt form events core was read stage → ComesTurn question_rules questions_left answers_still core next sent put new → sent ≡ []
    at_silent None Opening unread not so came = opening_silent form events was put new sent next same (subst (λ (q : QuestionHelper). AwaitsOpening form events q was) so.fresh so) (subst (λ (q : QuestionHelper). ComesTurn question_rules questions_left answers_still q next sent put new) so.fresh came)
    at_silent (Some read) Opening unread not so came = absurd so
    at_silent read Recalling unread not so came = absurd (not refl)
    at_silent read Answering unread not so came = absurd cc

    pub at_end : (read : Option StoreRead) (stage : StoreStage) → stage ≢ Recalling → GoesAt form events core was read stage → (how : HelpStatus) → StopsTurn question_rules (Some []) (Some (ins got ++ outs sent)) core put.offset how → Behind (λ all. EndsBy form read all (status_of how))
    at_end None Opening not so how stop = record {
      before = [];
      last = so.part.last;
      after = opening_end form events was put new sent next same (subst (λ (q : QuestionHelper). AwaitsOpening form events q was) so.fresh so) how (subst (λ (q : QuestionHelper). StopsTurn question_rules (Some []) (Some (ins got ++ outs sent)) q put.offset how) so.fresh stop);
    }
    at_end read Recalling not so how stop = absurd (not refl)
    at_end None Answering not so how stop = absurd so
    at_end (Some read) Opening not so how stop = absurd so
    at_end (Some read) Answering not so how stop = record {
      before = so.goes.before;
      last = so.goes.part.last;
      after = answers_end form read events ((so.goes.before ++ ins got) ++ outs sent) core was so how
          (went question_rules questions_left answers_still (store_heard so.recalls.number so.recalls.depth so.us None) (length (asked_for so.recalls)) (ins (asked_for so.recalls) ++ outs (held_frame so.recalls so.us)) events core was so.goes put new next sent same (End how) stop);
    }

-- ---- how many records are to be heard

-- that is awaited
pub at_recall : (form : Form) (events : List TalkEvent) (core : QuestionHelper) (was : Coming) (read : Option StoreRead) (stage : StoreStage) → stage ≡ Recalling → (version : Version) (helper : Recaller) → helper ≡ awaiting version → version ≡ core.helper.version
    → GoesAt form events core was read stage → (so : AwaitsRecall form events core was) × (helper ≡ awaiting (version_opened so.number)) × (read ≡ None)
at_recall form events core was None Recalling at version helper is spoken so = (so, is ∙ ap awaiting (spoken ∙ ap (λ (q : QuestionHelper). q.helper.version) so.state), refl)
at_recall form events core was (Some read) Recalling at version helper is spoken so = absurd so
at_recall form events core was read Opening at version helper is spoken so = absurd cc
at_recall form events core was read Answering at version helper is spoken so = absurd cc

module _ (form : Form) (events : List TalkEvent) (core : QuestionHelper) (was : Coming) (so : AwaitsRecall form events core was) (helper : Recaller) (is : helper ≡ awaiting (version_opened so.number)) where
  -- what is needed to look at a frame
  pub wait_ready : (helper.done ≡ false) × (was.offset ≤ most_received)
  wait_ready = (ap (λ (h : Recaller). h.done) is, omega (arith, so.at, spelling_at_most One (messages.Open so.number so.depth) so.opened.has_spelling))

  module _ (left : Recaller → ℕ) (is_live : Recaller → Bool) (put new : Coming) (sent : List ℕ) (next : Recaller) (same : put.offset ≡ was.offset) where
    abbrev first_frame : List TalkEvent
    first_frame = ins (opening so.number so.depth)

    pub wait_part : ComesPart recall_rules left is_live helper next sent put new → AwaitsRecall form ((first_frame ++ ins (frame_bytes put.frame)) ++ outs sent) core new
    wait_part came = recall_part form events core was so left is_live put new sent next same (subst (λ (h : Recaller). ComesPart recall_rules left is_live h next sent put new) is came)

    pub wait_end : (how : HelpStatus) → StopsTurn recall_rules (Some []) (Some (ins (frame_bytes put.frame) ++ outs sent)) helper put.offset how → EndsBy form None ((first_frame ++ ins (frame_bytes put.frame)) ++ outs sent) (status_of how)
    wait_end how stop = recall_end form events core was so left is_live put new sent next same how (subst (λ (h : Recaller). StopsTurn recall_rules (Some []) (Some (ins (frame_bytes put.frame) ++ outs sent)) h put.offset how) is stop)

    -- how many they are was said
    pub record Said : Type 0 where
      pub recalls : Recalls
      pub refused : Bool
      pub state : core ≡ step fresh_questions refused (messages.Open recalls.number recalls.depth)
      pub count : next.count ≡ Some recalls.count
      pub silent : sent ≡ []
      pub talk : first_frame ++ ins (frame_bytes put.frame) ≡ ins (asked_for recalls)
      pub at : new.offset ≡ length (asked_for recalls)
      pub empty : frame_bytes new.frame ≡ []
      pub unknown : new.lacking ≡ 0

    pub said : ComesTurn recall_rules left is_live helper next sent put new → Said
    said came =
        let own = subst (λ (h : Recaller). ComesTurn recall_rules left is_live h next sent put new) is came in
        record {
          recalls = recalls_then form events core was so left is_live put new sent next same own;
          refused = so.refused;
          state = so.state;
          count = recall_count form events core was so left is_live put new sent next same own;
          silent = recall_silent form events core was so left is_live put new sent next same own;
          talk = recall_talk form events core was so left is_live put new sent next same own;
          at = recall_at form events core was so left is_live put new sent next same own;
          empty = came.empty;
          unknown = came.unknown;
        }

-- ---- a piece

pub put_then : (form : Form) (read : Option StoreRead) (events : List TalkEvent) (s : ServingStore) (now : Coming) (piece : List ℕ) → s.status ≡ None → IsStoreServed form read events s → now.offset ≡ s.coming.offset → frame_bytes now.frame ≡ frame_bytes s.coming.frame ++ piece → IsPut form read events s.coming piece (record s { coming = now })
put_then form read events s now piece none served at puts = record { same_form = served.same_form; goes = goes_still form read events s none served; at = at; puts = puts }

pub has_put : (form : Form) (read : Option StoreRead) (events : List TalkEvent) (s : ServingStore) (now : Coming) (piece : List ℕ) (version : Version) → s.status ≡ None → IsStoreServed form read events s → now.offset ≡ s.coming.offset → frame_bytes now.frame ≡ frame_bytes s.coming.frame ++ piece
    → version ≡ s.core.helper.version → length (frame_bytes now.frame) ≤ asked version places.AskedQuestion (frame_bytes now.frame) → HasPut version (record s { coming = now })
has_put form read events s now piece version none served at puts spoken within = record {
  going = none;
  spoken = spoken;
  within = within;
  put = (form, read, events, s.coming, piece, put_then form read events s now piece none served at puts);
}
