-- What was loaded, said, stored and written, by the step at which a call ended.
use Rattle.std.proofs.Common.{◌≡◌, ℕ, List, [], ◌∷◌, ◌++◌, Option, inl, inr, refl, sym, subst, append_assoc, append-nil}
use Rattle.std.specs.Prelude.{Some, Result, Ok, Err}
use Rattle.sip_ports.specs.Desk.{Loads}
use Rattle.sip_ports.specs.Ports.{GoesOn, ins}
use Rattle.sip_ports.specs.declared.port.TalkEvent.{TalkEvent}
use Rattle.sip_ports.specs.declared.port.TalkEvent.TheVariants.{Ended}
use Rattle.sip_ports.proofs.TalkLemmas.{GoesOn-trans}
use Rattle.sip_vector.specs.declared.update.Update.{Update}
use Rattle.sip_wire.specs.declared.version.Version.{Version}
use Rattle.sip_questions.specs.Questions.{asking, version_for}
use Rattle.sip_questions.specs.declared.question.Question.{Question}
use Rattle.sip_sketch.specs.Sketches.{IsSketch, SketchValues, spelled_file}
use Rattle.sip_sketch.specs.Standing.{Stands}
use Rattle.sip_ask.specs.Asking.{Asks, AsksAll, IsBadHeld, IsClosed, IsCutOpening, IsInTalk, IsOutOfStep, Opens, StoresFirst, as_result}
use Rattle.sip_ask.specs.Causes.{HasRisen, IsStop}
use Rattle.sip_ask.specs.Choosing.{choice}
use Rattle.sip_ask.specs.Turns.{held_by, held_heard, recall_sent}
use Rattle.sip_ask.specs.inside.Opening.{HearsFront, IsCutShort, OpensWith}
use Rattle.sip_ask.specs.inside.Steps.{LoadsSketch, status_of}
use Rattle.sip_ask.specs.declared.status.AskStatus.{AskStatus}
use Rattle.sip_ask.specs.declared.status.AskStatus.TheVariants as statuses
use Rattle.sip_ask.proofs.Refusing.{IsRefusal, choice-refuses}

-- ---- no step that ends so is another's

pub unbusy-refusal : (status : AskStatus) → IsRefusal status → status ≡ statuses.Busy → ⊥
unbusy-refusal status is busy = subst IsRefusal busy is

pub unbusy-stop : (status : AskStatus) → IsStop status → status ≡ statuses.Busy → ⊥
unbusy-stop status is busy = subst IsStop busy is

-- a refusal is no fault
pub refusal-risen : (a b c d : ℕ) (status : AskStatus) → IsRefusal status → HasRisen a b c d status
refusal-risen a b c d statuses.NotWhole is = tt
refusal-risen a b c d (statuses.Unfit query) is = tt
refusal-risen a b c d (statuses.Signed query) is = tt
refusal-risen a b c d (statuses.NoSeat query) is = tt
refusal-risen a b c d (statuses.TooWide query) is = tt
refusal-risen a b c d (statuses.TooHigh query) is = tt
refusal-risen a b c d statuses.Accepted is = absurd is
refusal-risen a b c d (statuses.Rejected query round reason) is = absurd is
refusal-risen a b c d (statuses.BadSketch offset) is = absurd is
refusal-risen a b c d statuses.Busy is = absurd is
refusal-risen a b c d (statuses.OutOfStep held kept) is = absurd is
refusal-risen a b c d statuses.BadFrame is = absurd is
refusal-risen a b c d statuses.PeerClosed is = absurd is
refusal-risen a b c d statuses.PeerFault is = absurd is
refusal-risen a b c d statuses.ReadFault is = absurd is
refusal-risen a b c d (statuses.WriteFault port) is = absurd is
refusal-risen a b c d statuses.OutOfMemory is = absurd is

module _ (asked : List Question) (start : Option (List ℕ)) (old new blank full : Option (List TalkEvent)) where
  abbrev Ends : AskStatus → Type 0
  Ends status = Asks asked start old new blank full status

  -- ---- nothing was loaded

  pub unloaded-asks : (status : AskStatus) → LoadsSketch start old (Err status) → GoesOn old new [] → GoesOn blank full [] → Ends status
  unloaded-asks (statuses.BadSketch offset) loads same unwritten = (loads.0, loads.1, loads.2, (same, unwritten))
  unloaded-asks statuses.Busy loads same unwritten = (same, unwritten)
  unloaded-asks statuses.ReadFault loads same unwritten = (same, unwritten)
  unloaded-asks statuses.OutOfMemory loads same unwritten = inl (same, unwritten)
  unloaded-asks statuses.Accepted loads same unwritten = absurd loads
  unloaded-asks (statuses.Rejected query round reason) loads same unwritten = absurd loads
  unloaded-asks statuses.NotWhole loads same unwritten = absurd loads
  unloaded-asks (statuses.Unfit query) loads same unwritten = absurd loads
  unloaded-asks (statuses.Signed query) loads same unwritten = absurd loads
  unloaded-asks (statuses.NoSeat query) loads same unwritten = absurd loads
  unloaded-asks (statuses.TooWide query) loads same unwritten = absurd loads
  unloaded-asks (statuses.TooHigh query) loads same unwritten = absurd loads
  unloaded-asks (statuses.OutOfStep held kept) loads same unwritten = absurd loads
  unloaded-asks statuses.BadFrame loads same unwritten = absurd loads
  unloaded-asks statuses.PeerClosed loads same unwritten = absurd loads
  unloaded-asks statuses.PeerFault loads same unwritten = absurd loads
  unloaded-asks (statuses.WriteFault port) loads same unwritten = absurd loads

  module _ (s : SketchValues) (is : IsSketch s) (loads : Loads start old (Some (spelled_file s))) where
    -- ---- the questions may not be asked

    by-refusal : (status : AskStatus) → IsRefusal status → choice s asked ≡ Err status → GoesOn old new [] → GoesOn blank full [] → Ends status
    by-refusal statuses.NotWhole refusal e same unwritten = (s, (is, loads), e, (same, unwritten))
    by-refusal (statuses.Unfit query) refusal e same unwritten = (s, (is, loads), e, (same, unwritten))
    by-refusal (statuses.Signed query) refusal e same unwritten = (s, (is, loads), e, (same, unwritten))
    by-refusal (statuses.NoSeat query) refusal e same unwritten = (s, (is, loads), e, (same, unwritten))
    by-refusal (statuses.TooWide query) refusal e same unwritten = (s, (is, loads), e, (same, unwritten))
    by-refusal (statuses.TooHigh query) refusal e same unwritten = (s, (is, loads), e, (same, unwritten))
    by-refusal statuses.Accepted refusal e same unwritten = absurd refusal
    by-refusal (statuses.Rejected query round reason) refusal e same unwritten = absurd refusal
    by-refusal (statuses.BadSketch offset) refusal e same unwritten = absurd refusal
    by-refusal statuses.Busy refusal e same unwritten = absurd refusal
    by-refusal (statuses.OutOfStep held kept) refusal e same unwritten = absurd refusal
    by-refusal statuses.BadFrame refusal e same unwritten = absurd refusal
    by-refusal statuses.PeerClosed refusal e same unwritten = absurd refusal
    by-refusal statuses.PeerFault refusal e same unwritten = absurd refusal
    by-refusal statuses.ReadFault refusal e same unwritten = absurd refusal
    by-refusal (statuses.WriteFault port) refusal e same unwritten = absurd refusal
    by-refusal statuses.OutOfMemory refusal e same unwritten = absurd refusal

    pub refused-asks : (status : AskStatus) → choice s asked ≡ Err status → GoesOn old new [] → GoesOn blank full [] → Ends status
    refused-asks status e same unwritten = by-refusal status (choice-refuses s asked status e) e same unwritten

    module _ (places : List (Option ℕ)) (chosen : choice s asked ≡ Ok places) (near : Option (List TalkEvent)) (load : GoesOn old near []) where
      abbrev version : Version
      version = version_for s.depth asked

      abbrev recall : List TalkEvent
      recall = recall_sent version s.depth s.tally.count

      -- ---- the talk was not opened

      opens : (said : Version → SketchValues → List TalkEvent → Type 0) (events : List TalkEvent) → said version s events → GoesOn near new events → GoesOn blank full []
          → Opens asked start old new blank full said
      opens said events has goes unwritten =
          (s, places, (is, loads), chosen, events, has, GoesOn-trans old near new [] events load goes, unwritten)

      front-opens : (mid : Option (List TalkEvent)) → GoesOn near mid recall → HearsFront version mid new [] → GoesOn blank full []
          → Opens asked start old new blank full (IsCutOpening asked start old new blank full)
      front-opens mid sent hears unwritten =
          let goes = GoesOn-trans near mid new recall (ins hears.bytes ++ []) sent hears.talk in
          opens (IsCutOpening asked start old new blank full) (recall ++ ins hears.bytes) (inr (hears.bytes, refl, hears.front))
          (subst (λ (l : List TalkEvent). GoesOn near new (recall ++ l)) (append-nil (ins hears.bytes)) goes) unwritten

      cut-opens : (short : IsCutShort version s.depth s.tally near new) → GoesOn blank full []
          → Opens asked start old new blank full (IsCutOpening asked start old new blank full)
      cut-opens short unwritten = opens (IsCutOpening asked start old new blank full) short.events (inl short.front) short.talk unwritten

      pub opened-asks : (status : AskStatus) → OpensWith version s.depth s.tally near new (Err status) → GoesOn blank full [] → Ends status
      opened-asks statuses.PeerClosed (h) unwritten =
          let bytes = h.hears.bytes in
          let goes = GoesOn-trans near h.mid new recall (ins bytes ++ Ended ∷ []) h.sent h.hears.talk in
          opens (IsClosed asked start old new blank full) (recall ++ ins bytes ++ Ended ∷ []) (bytes, refl, h.hears.front)
          (subst (GoesOn near new) (sym (append_assoc recall (ins bytes) (Ended ∷ []))) goes) unwritten
      opened-asks statuses.BadFrame h unwritten =
          let bytes = h.hears.bytes in
          opens (IsBadHeld asked start old new blank full) (recall ++ ins bytes) (bytes, refl, h.hears.fault, h.hears.of_bytes, h.hears.other)
          (GoesOn-trans near h.mid new recall (ins bytes) h.sent h.hears.talk) unwritten
      opened-asks (statuses.OutOfStep held kept) (h, same, other) unwritten =
          opens (IsOutOfStep asked start old new blank full held kept) (recall ++ held_heard version held) (refl, h.hears.1, same, other)
          (GoesOn-trans near h.mid new recall (held_heard version held) h.sent h.hears.0) unwritten
      opened-asks statuses.PeerFault came unwritten = inl (elim came [
        | inl short ↦ cut-opens short unwritten
        | inr h ↦ front-opens h.mid h.sent h.hears unwritten
      ])
      opened-asks statuses.OutOfMemory came unwritten = inr (inl (elim came [
        | inl short ↦ cut-opens short unwritten
        | inr h ↦ front-opens h.mid h.sent h.hears unwritten
      ]))
      opened-asks statuses.Accepted h unwritten = absurd h.hears
      opened-asks (statuses.Rejected query round reason) h unwritten = absurd h.hears
      opened-asks (statuses.BadSketch offset) h unwritten = absurd h.hears
      opened-asks statuses.Busy h unwritten = absurd h.hears
      opened-asks statuses.NotWhole h unwritten = absurd h.hears
      opened-asks (statuses.Unfit query) h unwritten = absurd h.hears
      opened-asks (statuses.Signed query) h unwritten = absurd h.hears
      opened-asks (statuses.NoSeat query) h unwritten = absurd h.hears
      opened-asks (statuses.TooWide query) h unwritten = absurd h.hears
      opened-asks (statuses.TooHigh query) h unwritten = absurd h.hears
      opened-asks statuses.ReadFault h unwritten = absurd h.hears
      opened-asks (statuses.WriteFault port) h unwritten = absurd h.hears

      -- ---- it was

      module _ (mid : Option (List TalkEvent)) (h : OpensWith version s.depth s.tally near mid (Ok tt)) (stores : StoresFirst version s places mid new) where
        abbrev Does : Result (Unit {0}) AskStatus → Type 0
        Does result = (stream : List Update) → Stands stream s → AsksAll version (asking version s.depth stream) s 1 asked places mid new blank full result

        talk : (status : AskStatus) → Does (as_result status) → IsInTalk asked start old new blank full status
        talk status asks = record {
          s = s;
          places = places;
          loaded = (is, loads);
          chosen = chosen;
          mid = mid;
          opened =
              GoesOn-trans old near mid [] (recall ++ held_heard version (held_by s.tally)) load
              (GoesOn-trans near h.mid mid recall (held_heard version (held_by s.tally)) h.sent h.hears.0);
          stores = stores;
          asks = asks;
        }

        stopped-asks : (status : AskStatus) → IsStop status → Does (Err status) → Ends status
        stopped-asks (statuses.Rejected query round reason) stop asks = talk (statuses.Rejected query round reason) asks
        stopped-asks (statuses.WriteFault port) stop asks = talk (statuses.WriteFault port) asks
        stopped-asks statuses.PeerFault stop asks = inr (talk statuses.PeerFault asks)
        stopped-asks statuses.OutOfMemory stop asks = inr (inr (talk statuses.OutOfMemory asks))
        stopped-asks statuses.Accepted stop asks = absurd stop
        stopped-asks (statuses.BadSketch offset) stop asks = absurd stop
        stopped-asks statuses.Busy stop asks = absurd stop
        stopped-asks statuses.NotWhole stop asks = absurd stop
        stopped-asks (statuses.Unfit query) stop asks = absurd stop
        stopped-asks (statuses.Signed query) stop asks = absurd stop
        stopped-asks (statuses.NoSeat query) stop asks = absurd stop
        stopped-asks (statuses.TooWide query) stop asks = absurd stop
        stopped-asks (statuses.TooHigh query) stop asks = absurd stop
        stopped-asks (statuses.OutOfStep held kept) stop asks = absurd stop
        stopped-asks statuses.BadFrame stop asks = absurd stop
        stopped-asks statuses.PeerClosed stop asks = absurd stop
        stopped-asks statuses.ReadFault stop asks = absurd stop

        pub talked-asks : (result : Result (Unit {0}) AskStatus) → ((status : AskStatus) → result ≡ Err status → IsStop status) → Does result → Ends (status_of result)
        talked-asks (Ok done) stops asks = talk statuses.Accepted asks
        talked-asks (Err status) stops asks = stopped-asks status (stops status refl) asks
