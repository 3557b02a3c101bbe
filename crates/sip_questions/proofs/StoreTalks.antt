-- How a talk over a store ends.
use Rattle.std.proofs.Common.{◌≡◌, ℕ, ◌<◌, ◌≤◌, ◌^◌, List, [], Option, Ok, Err, refl, ap, subst, ◌∙◌, inl, inr, arith}
use Rattle.std.specs.Prelude.{IsTrue}
use Rattle.std.proofs.lemmas.Bool.Decides.{nat_tests}
use Rattle.sip_ports.specs.declared.port.PortStop.{PortStop}
use Rattle.sip_ports.specs.declared.port.TalkEvent.{TalkEvent}
use Rattle.sip_ports.specs.Ports.{GoesOn, SendsWhole, Writes, ins, outs}
use Rattle.sip_ports.proofs.TalkLemmas.{GoesOn-refl, GoesOn-trans, Writes-of_GoesOn, written-ins}
use Rattle.sip_stream.specs.declared.form.Form.{Form}
use Rattle.sip_vector.specs.declared.tally.Tally.{Tally}
use Rattle.sip_vector.specs.declared.update.Update.{Update}
use Rattle.sip_wire.specs.declared.kind.Place.TheVariants as places
use Rattle.sip_wire.specs.declared.message.Held.{Held}
use Rattle.sip_wire.specs.declared.message.Message.TheVariants as messages
use Rattle.sip_wire.specs.declared.version.Version.{Version}
use Rattle.sip_wire.specs.declared.version.Version.TheVariants.{One}
use Rattle.sip_wire.specs.Spelling.{all_hold, fits, has_room, spelling}
use Rattle.sip_wire.proofs.ReadingLaws.{asked-least, read_frame-closed}
use Rattle.sip_helper.specs.declared.status.HelpStatus.{HelpStatus}
use Rattle.sip_helper.specs.declared.status.HelpStatus.TheVariants as helps
use Rattle.sip_helper.specs.inside.Measures.{most_received}
use Rattle.sip_helper.specs.Statuses.{status_of_stop}
use Rattle.sip_helper.specs.Turns.{version_opened}
use Rattle.sip_questions.specs.declared.store.Asked.{Asked}
use Rattle.sip_questions.specs.declared.store_status.StoreStatus.{StoreStatus}
use Rattle.sip_questions.specs.declared.store_status.StoreStatus.TheVariants as statuses
use Rattle.sip_questions.specs.Serving.{QuestionHelper}
use Rattle.sip_questions.specs.StoreFronts.{Recalls, held_by, held_frame}
use Rattle.sip_questions.specs.Stores.{AnswersBy, HearsStore, ServesStore, questions_opened, status_of}
use Rattle.sip_questions.specs.inside.StoreTurns.{IsAsked, IsBehind, OpensStore}

-- what is held has a spelling
pub held_fits : (version : Version) (h : Held) → h.records < 2 ^ 64 → h.first < 2 ^ 64 → h.second < 2 ^ 64 → h.fingerprint < 2 ^ 64 → IsTrue (fits version (messages.Held h))
unfolding fits has_room all_hold
held_fits version h records first second fingerprint = grind (arith, nat_tests)

module _ (form : Form) (store again : Option (List ℕ)) (old : Option (List TalkEvent)) where
  -- there was no memory for a frame
  pub unasked_at_once : ServesStore form store store again again old old statuses.OutOfMemory
  unasked_at_once = inl (record {
    how = helps.OutOfMemory;
    same = refl;
    unread = refl;
    stops = inl (record {
      rest = [];
      talk = GoesOn-refl old;
      ends = inl (record { got = []; read = read_frame-closed One places.AskedQuestion [] (omega (arith, asked-least One places.AskedQuestion [])); said = refl });
    });
  })

  -- the talk ended before it was said how many records are to be heard
  pub unasked : (new : Option (List TalkEvent)) (next : QuestionHelper) (how : HelpStatus) → OpensStore old new next (Err how) → ServesStore form store store again again old new (status_of how)
  unasked new next how opens = inl (record { how = how; same = refl; unread = refl; stops = opens })

  module _ (mid : Option (List TalkEvent)) (left : Option (List ℕ)) (next : QuestionHelper) (asked : Asked) (is : IsAsked old mid next asked) where
    -- the helper behind the opening
    pub opened_by : next ≡ questions_opened is.recalls is.refused
    opened_by = is.state

    -- the records were not heard
    pub unheard_then : (core : QuestionHelper) (status : StoreStatus) → HearsStore is.recalls form store left core (Err status) → ServesStore form store left again again old mid status
    unheard_then core status hears = inr (inl (record { recalls = is.recalls; talk = is.talk; why = hears }))

    module _ (core : QuestionHelper) (told : Tally) (hears : HearsStore is.recalls form store left core (Ok told)) where
      abbrev us : List Update
      us = hears.0

      same_frame : (version : Version) → version ≡ core.helper.version → spelling version (messages.Held (held_by told)) ≡ held_frame is.recalls us
      same_frame version same =
          ap (λ (v : Version). spelling v (messages.Held (held_by told))) (same ∙ ap (λ (s : QuestionHelper). s.helper.version) hears.2)
          ∙ ap (λ (t : Tally). held_frame_by is.recalls t) hears.3
        where
          held_frame_by : Recalls → Tally → List ℕ
          held_frame_by r t = spelling (version_opened r.number) (messages.Held (held_by t))

      -- what they come to was cut short
      pub held_cut : (version : Version) (new : Option (List TalkEvent)) (stop : PortStop) → version ≡ core.helper.version → SendsWhole {T = Unit {0}} mid new (Err stop) (spelling version (messages.Held (held_by told))) → ServesStore form store left again again old new (status_of (status_of_stop stop))
      held_cut version new stop same sent =
          let cut = subst (λ (l : List ℕ). SendsWhole {T = Unit {0}} mid new (Err stop) l) (same_frame version same) sent in
          inr (inr (inl (record {
            recalls = is.recalls;
            us = us;
            hears = hears.1;
            stop = stop;
            same = refl;
            sent = cut.0;
            short = cut.1;
            talk = GoesOn-trans old mid new _ _ is.talk cut.2;
          })))

      -- it went out
      pub answers_on : (version : Version) (between new : Option (List TalkEvent)) (unread : Option (List ℕ)) (how : HelpStatus) → version ≡ core.helper.version → GoesOn mid between (outs (spelling version (messages.Held (held_by told))))
          → AnswersBy is.recalls us form again unread between new how → ServesStore form store left again unread old new (status_of how)
      answers_on version between new unread how same sent serves =
          inr (inr (inr (record {
            recalls = is.recalls;
            us = us;
            hears = hears.1;
            between = between;
            talk = GoesOn-trans old mid between _ _ is.talk (subst (λ (l : List ℕ). GoesOn mid between (outs l)) (same_frame version same) sent);
            how = how;
            same = refl;
            serves = serves;
          })))

      -- the helper that goes on
      pub behind : asked.received ≤ most_received → IsBehind is.recalls us asked told core
      behind short = record {
        count = is.count;
        received = is.received;
        short = short;
        comes = hears.3;
        state = hears.2;
      }

-- what was only received was not written
pub writes_nothing : (old new : Option (List TalkEvent)) (bytes : List ℕ) → GoesOn old new (ins bytes) → Writes old new []
writes_nothing old new bytes talk = subst (Writes old new) (written-ins bytes) (Writes-of_GoesOn old new (ins bytes) talk)
