-- A talk over a store without a link, frame by frame.
use Rattle.std.proofs.Common.{◌≡◌, ◌⊎◌, ℕ, Bool, ◌+◌, ◌^◌, ◌≤◌, ◌++◌, Option, None, Some, Ok, Err, List, [], ◌∷◌, length, take, inl, inr, refl, sym, ap, subst, ◌∙◌, arith, append_assoc, append-nil, length-append}
use Rattle.sip_ports.specs.declared.port.PortStop.{PortStop}
use Rattle.sip_ports.specs.declared.port.TalkEvent.{TalkEvent}
use Rattle.sip_ports.specs.declared.port.TalkEvent.TheVariants.{Ended}
use Rattle.sip_ports.specs.Ports.{GoesOn, SendsWhole, ins, outs, written}
use Rattle.sip_ports.proofs.TalkLemmas.{ins-append, written-append, written-ins, written-outs}
use Rattle.sip_stream.specs.declared.form.Form.{Form}
use Rattle.sip_vector.specs.declared.tally.Tally.{Tally}
use Rattle.sip_vector.specs.declared.update.Update.{Update}
use Rattle.sip_wire.specs.declared.kind.Place.TheVariants as places
use Rattle.sip_wire.specs.declared.message.Message.TheVariants as messages
use Rattle.sip_wire.specs.declared.version.Version.{Version}
use Rattle.sip_wire.specs.declared.version.Version.TheVariants.{One}
use Rattle.sip_wire.specs.Frames.{frame_bytes}
use Rattle.sip_wire.specs.Spelling.{spelling}
use Rattle.sip_wire.proofs.Longest.{spelling_at_most}
use Rattle.sip_helper.specs.declared.status.HelpStatus.{HelpStatus}
use Rattle.sip_helper.specs.declared.status.HelpStatus.TheVariants.{PeerClosed}
use Rattle.sip_helper.specs.OneTurn.{StopsTurn}
use Rattle.sip_helper.specs.Rules.{EndsAs, ServesOn}
use Rattle.sip_helper.specs.inside.Measures.{most_turns}
use Rattle.sip_helper.specs.Statuses.{status_of_stop}
use Rattle.sip_helper.specs.Turns.{version_opened}
use Rattle.sip_helper.specs.UnderWay.{UnderWay}
use Rattle.sip_helper.proofs.Talks.{begins}
use Rattle.sip_questions.specs.declared.recalling.Recalling.{Recalling}
use Rattle.sip_questions.specs.declared.store_status.StoreStatus.{StoreStatus}
use Rattle.sip_questions.specs.inside.Keeping.{questions_left}
use Rattle.sip_questions.specs.Serving.{QuestionHelper, fresh_questions, question_rules}
use Rattle.sip_questions.specs.StoreFronts.{Recalls, asked_for, held_by, held_frame, opening}
use Rattle.sip_questions.specs.Stores.{HearsStore, awaiting, recall_rules, status_of, store_heard}
use Rattle.sip_questions.proofs.StoreTurns.{Recalled, opens, recalls}
use Rattle.sip_steps.specs.declared.coming.Coming.{Coming}
use Rattle.sip_steps.specs.Served.{Goes, IsComing}
use Rattle.sip_steps.specs.StoreServed.{AnswersBy, AwaitsOpening, AwaitsRecall, EndsBy, StoreRead, answers_still}
use Rattle.sip_steps.specs.inside.Turning.{ComesPart, ComesTurn}
use Rattle.sip_steps.specs.inside.StoreTurning.{CutsHeld, HearsNone, TellsHeld}
use Rattle.sip_steps.proofs.OneTalk.{is_coming, none_coming, stops_closed}

-- what is only received sends nothing
pub none_sent : (got sent other : List ℕ) → ins got ++ outs sent ≡ ins other → sent ≡ []
none_sent got sent other same =
    sym (written-append (ins got) (outs sent) ∙ ap (λ (l : List ℕ). l ++ written (outs sent)) (written-ins got) ∙ written-outs sent) ∙ ap written same ∙ written-ins other

-- ---- the opening

module _ (form : Form) (events : List TalkEvent) (old put new : Coming) (sent : List ℕ) (next : QuestionHelper) (same : put.offset ≡ old.offset) (so : AwaitsOpening form events fresh_questions old) where
  abbrev put_got : List ℕ
  put_got = frame_bytes put.frame

  pub opening_part : ComesPart question_rules questions_left answers_still fresh_questions next sent put new → AwaitsOpening form (ins put_got ++ outs sent) next new
  opening_part came = record {
    fresh = came.same;
    at = came.at ∙ same ∙ so.at;
    part = is_coming One places.AskedQuestion [] put_got sent new came.silent came.there came.short came.lacks;
  }

  pub opening_turn : ComesTurn question_rules questions_left answers_still fresh_questions next sent put new → AwaitsRecall form (ins put_got ++ outs sent) next new
  opening_turn came =
      let opened = opens (Some []) (Some (ins put_got ++ outs sent)) next put_got came.taken in
      let before = ins (opening opened.number opened.depth) in
      let version = version_opened opened.number in
      record {
        number = opened.number;
        depth = opened.depth;
        opened = opened.is;
        refused = opened.refused;
        state = opened.state;
        at = omega (arith, came.at, same, so.at, ap length opened.whole);
        part = subst (λ (e : List TalkEvent). IsComing version places.AskedQuestion before e new) (sym opened.talk) (none_coming version places.AskedQuestion before new came.empty came.unknown);
      }

  -- nothing was sent to it
  pub opening_silent : ComesTurn question_rules questions_left answers_still fresh_questions next sent put new → sent ≡ []
  opening_silent came =
      let opened = opens (Some []) (Some (ins put_got ++ outs sent)) next put_got came.taken in
      none_sent put_got sent (opening opened.number opened.depth) opened.talk

  pub opening_end : (how : HelpStatus) → StopsTurn question_rules (Some []) (Some (ins put_got ++ outs sent)) fresh_questions put.offset how → EndsBy form None (ins put_got ++ outs sent) (status_of how)
  opening_end how stop again store = inl (record {
    how = how;
    same = refl;
    unread = refl;
    stops = inl (subst (λ (n : ℕ). StopsTurn question_rules (Some []) (Some (ins put_got ++ outs sent)) fresh_questions n how) (same ∙ so.at) stop);
  })

pub opening_closed : (form : Form) (events : List TalkEvent) (core : QuestionHelper) (old : Coming) → AwaitsOpening form events core old → EndsBy form None (events ++ Ended ∷ []) (status_of PeerClosed)
opening_closed form events core old so again store =
    let put_got = frame_bytes old.frame in
    let stop = stops_closed question_rules fresh_questions 0 put_got so.part.short in
    inl (record {
      how = PeerClosed;
      same = refl;
      unread = refl;
      stops = inl (subst (λ (e : List TalkEvent). StopsTurn question_rules (Some []) (Some e) fresh_questions 0 PeerClosed) (ap (λ (e : List TalkEvent). e ++ Ended ∷ []) (sym so.part.last)) stop);
    })

-- ---- how many records are to be heard

module _ (form : Form) (events : List TalkEvent) (core : QuestionHelper) (old : Coming) (so : AwaitsRecall form events core old) where
  abbrev first_frame : List TalkEvent
  first_frame = ins (opening so.number so.depth)

  abbrev version : Version
  version = version_opened so.number

  -- the talk ended with the second message
  recall_stops : (at : ℕ) (rest all : List TalkEvent) (how : HelpStatus) → at ≡ old.offset → StopsTurn recall_rules (Some []) (Some rest) (awaiting version) at how → all ≡ first_frame ++ rest → EndsBy form None all (status_of how)
  recall_stops at rest all how same stop is again store = inl (record {
    how = how;
    same = refl;
    unread = refl;
    stops = inr (record {
      number = so.number;
      depth = so.depth;
      opened = so.opened;
      rest = stop.rest;
      talk = is ∙ ap (λ (e : List TalkEvent). first_frame ++ e) stop.talk;
      ends = subst (λ (n : ℕ). EndsAs recall_rules (awaiting version) n stop.rest how) (same ∙ so.at) stop.ends;
    });
  })

  pub recall_closed : EndsBy form None (events ++ Ended ∷ []) (status_of PeerClosed)
  recall_closed =
      let got = frame_bytes old.frame in
      recall_stops old.offset (ins got ++ Ended ∷ []) (events ++ Ended ∷ []) PeerClosed refl (stops_closed recall_rules (awaiting version) old.offset got so.part.short)
      (ap (λ (e : List TalkEvent). e ++ Ended ∷ []) so.part.last ∙ append_assoc first_frame (ins got) (Ended ∷ []))

  module _ (left : Recalling → ℕ) (is_live : Recalling → Bool) (put new : Coming) (sent : List ℕ) (next : Recalling) (same : put.offset ≡ old.offset) where
    abbrev got : List ℕ
    got = frame_bytes put.frame

    pub recall_part : ComesPart recall_rules left is_live (awaiting version) next sent put new → AwaitsRecall form ((first_frame ++ ins got) ++ outs sent) core new
    recall_part came = record {
      number = so.number;
      depth = so.depth;
      opened = so.opened;
      refused = so.refused;
      state = so.state;
      at = came.at ∙ same ∙ so.at;
      part = is_coming version places.AskedQuestion first_frame got sent new came.silent came.there came.short came.lacks;
    }

    pub recall_end : (how : HelpStatus) → StopsTurn recall_rules (Some []) (Some (ins got ++ outs sent)) (awaiting version) put.offset how → EndsBy form None ((first_frame ++ ins got) ++ outs sent) (status_of how)
    recall_end how stop = recall_stops put.offset (ins got ++ outs sent) ((first_frame ++ ins got) ++ outs sent) how same stop (append_assoc first_frame (ins got) (outs sent))

    module _ (came : ComesTurn recall_rules left is_live (awaiting version) next sent put new) where
      abbrev recalled : Recalled version (Some []) (Some (ins got ++ outs sent)) next got
      recalled = recalls version (Some []) (Some (ins got ++ outs sent)) next got came.taken

      -- what was received so far
      abbrev pub recalls_then : Recalls
      recalls_then = record { number = so.number; depth = so.depth; count = recalled.count; opened = so.opened; recalled = recalled.is }

      pub recall_count : next.count ≡ Some recalls_then.count
      recall_count = recalled.state

      pub recall_silent : sent ≡ []
      recall_silent = none_sent got sent (spelling version (messages.Recall recalled.count)) recalled.talk

      pub recall_talk : first_frame ++ ins got ≡ ins (asked_for recalls_then)
      recall_talk = ap (λ (l : List ℕ). first_frame ++ ins l) recalled.whole ∙ sym (ins-append (opening so.number so.depth) (spelling version (messages.Recall recalled.count)))

      pub recall_at : new.offset ≡ length (asked_for recalls_then)
      recall_at = came.at ∙ ap (λ (n : ℕ). n + length got) (same ∙ so.at) ∙ sym (length-append (opening so.number so.depth) got) ∙ ap (λ (l : List ℕ). length (opening so.number so.depth ++ l)) recalled.whole

-- ---- the records

-- there is room for the offset behind it
pub asked_short : (r : Recalls) → length (asked_for r) ≤ 2 ^ 62
asked_short r =
    let one = spelling_at_most One (messages.Open r.number r.depth) r.opened.has_spelling in
    let two = spelling_at_most (version_opened r.number) (messages.Recall r.count) r.recalled.has_spelling in
    omega (arith, one, two, length-append (opening r.number r.depth) (spelling (version_opened r.number) (messages.Recall r.count)))

-- and few turns are left
heard_few : (number depth : ℕ) (us : List Update) → questions_left (store_heard number depth us None) ≤ most_turns
heard_few number depth us = omega arith

module _ (form : Form) (r : Recalls) (store left : Option (List ℕ)) (core : QuestionHelper) (sent : List ℕ) (before : List TalkEvent) (talk : before ≡ ins (asked_for r)) where
  abbrev read : StoreRead
  read = record { store = store; left = left }

  unheard_then : (status : StoreStatus) → HearsNone r form store left core sent status → EndsBy form (Some read) (before ++ outs sent) status
  unheard_then status so again = inr (inl (record {
    recalls = r;
    talk = ap (λ (l : List ℕ). before ++ outs l) so.silent ∙ append-nil before ∙ talk;
    why = so.why;
  }))

  cut_then : (status : StoreStatus) → CutsHeld r form store left core sent status → EndsBy form (Some read) (before ++ outs sent) status
  cut_then status so again = inr (inr (inl (record {
    recalls = r;
    us = so.us;
    hears = so.hears;
    stop = so.stop;
    same = so.same;
    sent = so.count;
    short = so.short;
    talk = ap (λ (e : List TalkEvent). e ++ outs sent) talk ∙ ap (λ (l : List ℕ). ins (asked_for r) ++ outs l) so.front;
  })))

  -- by why they were not, or not all of what they come to was said
  pub tells_end : (status : StoreStatus) → HearsNone r form store left core sent status ⊎ CutsHeld r form store left core sent status → EndsBy form (Some read) (before ++ outs sent) status
  tells_end status (inl so) = unheard_then status so
  tells_end status (inr so) = cut_then status so

  pub held_then : (new : Coming) → TellsHeld r form store left core sent → new.offset ≡ length (asked_for r) → frame_bytes new.frame ≡ [] → new.lacking ≡ 0 → AnswersBy form (before ++ outs sent) core new read
  held_then new so at none unknown =
      let heard = store_heard r.number r.depth so.us None in
      let start = ins (asked_for r) ++ outs (held_frame r so.us) in
      let all : before ++ outs sent ≡ start = ap (λ (e : List TalkEvent). e ++ outs sent) talk ∙ ap (λ (l : List ℕ). ins (asked_for r) ++ outs l) so.whole in
      record {
        recalls = r;
        us = so.us;
        hears = so.hears;
        goes = subst (λ (e : List TalkEvent). Goes question_rules questions_left answers_still heard (length (asked_for r)) start e core new) (sym all)
            (subst (λ (q : QuestionHelper). Goes question_rules questions_left answers_still heard (length (asked_for r)) start start q new) (sym so.state) (record {
              before = start;
              turns = subst (λ (n : ℕ). UnderWay question_rules questions_left heard (length (asked_for r)) (Some start) (Some start) heard n) (sym at) (begins question_rules questions_left heard (length (asked_for r)) (Some start) refl (heard_few r.number r.depth so.us));
              live = refl;
              part = none_coming (question_rules.version heard) places.AskedQuestion start new none unknown;
            }));
      }

-- ---- what is asked

-- the status of what is answered is that of the talk
pub answers_end : (form : Form) (known : StoreRead) (events all : List TalkEvent) (core : QuestionHelper) (old : Coming) (so : AnswersBy form events core old known) (how : HelpStatus)
    → ServesOn question_rules (store_heard so.recalls.number so.recalls.depth so.us None) (length (asked_for so.recalls)) (Some (ins (asked_for so.recalls) ++ outs (held_frame so.recalls so.us))) (Some all) how → EndsBy form (Some known) all (status_of how)
answers_end form known events all core old so how serves again = inr (inr (inr (record {
  recalls = so.recalls;
  us = so.us;
  hears = so.hears;
  between = Some (ins (asked_for so.recalls) ++ outs (held_frame so.recalls so.us));
  talk = refl;
  how = how;
  same = refl;
  serves = record { more = None; reread = tt; serves = serves };
})))

-- ---- what the records come to

module _ (r : Recalls) (form : Form) (store left : Option (List ℕ)) (core : QuestionHelper) (told : Tally) (hears : HearsStore r form store left core (Ok told)) (version : Version) (spoken : version ≡ core.helper.version) (old new : Option (List TalkEvent)) where
  held_spelled : spelling version (messages.Held (held_by told)) ≡ held_frame r hears.0
  held_spelled =
      ap (λ (v : Version). spelling v (messages.Held (held_by told))) (spoken ∙ ap (λ (q : QuestionHelper). q.helper.version) hears.2)
      ∙ ap (λ (t : Tally). spelling (version_opened r.number) (messages.Held (held_by t))) hears.3

  -- it was said
  pub tells_all : GoesOn old new (outs (spelling version (messages.Held (held_by told)))) → (sent : List ℕ) × GoesOn old new (outs sent) × TellsHeld r form store left core sent
  tells_all went = (
    held_frame r hears.0,
    subst (λ (l : List ℕ). GoesOn old new (outs l)) held_spelled went,
    record { us = hears.0; hears = hears.1; state = hears.2; whole = refl },
  )

  -- it was cut short
  pub tells_cut : (stop : PortStop) → SendsWhole {T = Unit {0}} old new (Err stop) (spelling version (messages.Held (held_by told))) → (sent : List ℕ) × GoesOn old new (outs sent) × CutsHeld r form store left core sent (status_of (status_of_stop stop))
  tells_cut stop went =
      let cut = subst (λ (l : List ℕ). SendsWhole {T = Unit {0}} old new (Err stop) l) held_spelled went in
      (take cut.0 (held_frame r hears.0), cut.2, record { us = hears.0; hears = hears.1; stop = stop; same = refl; count = cut.0; short = cut.1; front = refl })
