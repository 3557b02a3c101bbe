-- What a call did that asks questions is a run over the file of its sketch.
use Rattle.std.proofs.Common.{◌≡◌, ℕ, ◌+◌, ◌-◌, ◌<◌, List, [], ◌∷◌, ◌++◌, length, take, flat_map, Option, Some, None, inl, inr, refl, sym, ap, subst, ◌∙◌, append_assoc, append-nil, take_all, arith}
use Rattle.std.specs.Prelude.{Contains}
use Rattle.std.proofs.lemmas.Bool.{cases_lt}
use Rattle.std.proofs.lemmas.List.{length-take-le, take_at}
use Rattle.std.proofs.lemmas.List.Elements.{All-nil}
use Rattle.sip_ports.specs.Desk.{IsOfLink, Loads, holds_now, loaded, may_hold}
use Rattle.sip_ports.specs.Ports.{GoesOn, ins, written}
use Rattle.sip_ports.specs.declared.desk.TheConstants.{LONGEST_LOAD}
use Rattle.sip_ports.specs.declared.port.TalkEvent.{TalkEvent}
use Rattle.sip_ports.specs.declared.port.TalkEvent.TheVariants.{Ended}
use Rattle.sip_ports.proofs.DeskLemmas.{IsOfLink-append, IsOfLink-ins, IsOfLink-outs, holds_now-among}
use Rattle.sip_ports.proofs.TalkLemmas.{GoesOn-told, GoesOn-trans, written-append, written-ins, written-outs}
use Rattle.sip_wire.specs.Spelling.{spelling}
use Rattle.sip_wire.specs.declared.message.Held.{Held}
use Rattle.sip_wire.specs.declared.message.Message.TheVariants as messages
use Rattle.sip_wire.specs.declared.version.Version.{Version}
use Rattle.sip_replies.specs.Talks.{IsPrefix}
use Rattle.sip_verifier.proofs.TalksOfLink.{prefix_of_link}
use Rattle.sip_questions.specs.Questions.{version_for}
use Rattle.sip_questions.specs.declared.question.Question.{Question}
use Rattle.sip_sketch.specs.Sketches.{IsSketch, SketchValues, spelled_file}
use Rattle.sip_ask.specs.Asking.{Asks, IsCutOpening, IsInTalk, Opens, StoresFirst, steps_of}
use Rattle.sip_ask.specs.Marking.{mark}
use Rattle.sip_ask.specs.Runs.{Follows, IsRun, Run, asks, events_came, stores}
use Rattle.sip_ask.specs.Turns.{AreTurns, IsFarewell, IsOpening, Turn, held_by, held_heard, recall_bytes, recall_sent, turn_events}
use Rattle.sip_ask.specs.declared.status.AskStatus.{AskStatus}
use Rattle.sip_ask.specs.declared.status.AskStatus.TheVariants as statuses
use Rattle.sip_ask.proofs.Chosen.{AreFree, chosen-free}
use Rattle.sip_ask.proofs.FileSizes.{file-short}
use Rattle.sip_ask.proofs.Saying.{take-behind}

-- ---- turns

-- such turns came behind a talk
pub record TurnsCame (version : Version) (s : SketchValues) (talk : List TalkEvent) (new : Option (List TalkEvent)) : Type 0 where
  pub turns : List Turn
  pub behind : List TalkEvent
  pub count : ℕ
  pub are : AreTurns s turns
  pub farewell : IsFarewell version behind
  pub goes : GoesOn (Some talk) new (take count (flat_map turn_events turns ++ behind))

no-farewell : (version : Version) → IsFarewell version []
no-farewell version = record { link = tt; sent = (spelling version messages.Bye, refl) }

-- all of the first part came, and so much of the second
goes-behind : (talk first more : List TalkEvent) (new : Option (List TalkEvent)) (count : ℕ) → GoesOn (Some (talk ++ first)) new (take count more)
    → GoesOn (Some talk) new (take (length first + count) (first ++ more))
goes-behind talk first more new count goes =
    let left : (length first + count) - length first ≡ count = omega arith in
    let same : take (length first + count) (first ++ more) ≡ first ++ take count more =
    take-behind (length first + count) first more (omega arith) ∙ ap (λ (n : ℕ). first ++ take n more) left in
    subst (GoesOn (Some talk) new) (sym same) (GoesOn-trans (Some talk) (Some (talk ++ first)) new first (take count more) refl goes)

abbrev turn_at : ℕ → SketchValues → List TalkEvent → Turn
turn_at place s said = record { place = place; file = spelled_file (mark place s); said = said }

pub turns-came : (version : Version) (s : SketchValues) (places : List (Option ℕ)) (talk : List TalkEvent) (new : Option (List TalkEvent)) → AreFree s places
    → StoresFirst version s places (Some talk) new → TurnsCame version s talk new
turns-came version s [] talk new free (said, farewell, goes) = record {
  turns = [];
  behind = said;
  count = length said;
  are = tt;
  farewell = farewell;
  goes = subst (GoesOn (Some talk) new) (sym (take_all (length said) said (omega arith))) goes;
}
turns-came version s (None ∷ places) talk new free first = turns-came version s places talk new free.1 first
turns-came version s (Some place ∷ places) talk new free (inl part) =
    let all = steps_of s place in
    let whole : all ++ [] ++ [] ++ [] ≡ all = append-nil (all ++ [] ++ []) ∙ append-nil (all ++ []) ∙ append-nil all in
    record {
      turns = turn_at place s [] ∷ [];
      behind = [];
      count = part.count;
      are = (free.0.0, free.0.1, refl, tt, tt);
      farewell = no-farewell version;
      goes = subst (λ (l : List TalkEvent). GoesOn (Some talk) new (take part.count l)) (sym whole) part.talk;
    }
turns-came version s (Some place ∷ places) talk new free (inr (inl stored)) =
    let all = steps_of s place ++ stored.said in
    let whole : all ++ [] ++ [] ≡ all = append-nil (all ++ []) ∙ append-nil all in
    record {
      turns = turn_at place s stored.said ∷ [];
      behind = [];
      count = length all;
      are = (free.0.0, free.0.1, refl, stored.link, tt);
      farewell = no-farewell version;
      goes = subst (GoesOn (Some talk) new) (sym (ap (take (length all)) whole ∙ take_all (length all) all (omega arith))) stored.talk;
    }
turns-came version s (Some place ∷ places) talk new free (inr (inr (mid, stored, rest))) =
    let t = turn_at place s stored.said in
    let told = GoesOn-told talk mid (turn_events t) stored.talk in
    let more = turns-came version (mark place s) places (talk ++ turn_events t) new free.1
    (subst (λ (m : Option (List TalkEvent)). StoresFirst version (mark place s) places m new) told rest) in
    let split : turn_events t ++ flat_map turn_events more.turns ++ more.behind ≡ turn_events t ++ (flat_map turn_events more.turns ++ more.behind) =
    append_assoc (turn_events t) (flat_map turn_events more.turns) more.behind in
    record {
      turns = t ∷ more.turns;
      behind = more.behind;
      count = length (turn_events t) + more.count;
      are = (free.0.0, free.0.1, refl, stored.link, more.are);
      farewell = more.farewell;
      goes = subst (λ (l : List TalkEvent). GoesOn (Some talk) new (take (length (turn_events t) + more.count) l)) (sym split)
          (goes-behind talk (turn_events t) (flat_map turn_events more.turns ++ more.behind) new more.count more.goes);
    }

-- ---- what was loaded

-- a file that is shorter than what is loaded at most was loaded whole
whole-loaded : (held : List (Option (List ℕ))) (file : List ℕ) (content : Option (List ℕ)) → length file < LONGEST_LOAD → Contains held content
    → Some file ≡ loaded content → Contains held (Some file)
whole-loaded held file None short has same = absurd cc
whole-loaded held file (Some bytes) short has same =
    let own : file ≡ take LONGEST_LOAD bytes = cc in
    elim (cases_lt (length bytes) LONGEST_LOAD) [
      | inl less ↦
          let all : bytes ≡ file = sym (take_all LONGEST_LOAD bytes (omega (arith, less))) ∙ sym own in
          subst (λ (l : List ℕ). Contains held (Some l)) all has
      | inr more ↦
          let long : length file ≡ LONGEST_LOAD = ap length own ∙ length-take-le LONGEST_LOAD bytes more in
          absurd (omega (arith, long, short))
    ]

-- ---- a run

module _ (start : Option (List ℕ)) (talk : List TalkEvent) (new : Option (List TalkEvent)) where
  -- what was said and stored is a run behind this talk
  abbrev pub IsARun : Type 0
  IsARun = (r : Run) × IsRun start talk r × GoesOn (Some talk) new (events_came r)

  -- nothing was
  pub idle-run : GoesOn (Some talk) new [] → IsARun
  idle-run same =
      let held = holds_now start talk in
      (record { loaded = held; deed = stores []; count = 0 }, (holds_now-among start talk, All-nil (Follows held)), same)

  module _ (s : SketchValues) (is : IsSketch s) (loads : Loads start (Some talk) (Some (spelled_file s))) where
    pub held-whole : Contains (may_hold start talk) (Some (spelled_file s))
    held-whole = whole-loaded (may_hold start talk) (spelled_file s) loads.0 (file-short s is) loads.1 loads.2

    module _ (version : Version) where
      abbrev recall : List TalkEvent
      recall = recall_sent version s.depth s.tally.count

      abbrev bytes_sent : List ℕ
      bytes_sent = recall_bytes version s.depth s.tally.count

      -- the talk was opened, or a front of that
      opened-run : (events : List TalkEvent) → IsOpening version s events → GoesOn (Some talk) new events → IsARun
      opened-run events opening goes =
          let all : take (length events) (events ++ ([] ++ [])) ≡ events = take_at events ([] ++ []) (length events) refl in (
            record { loaded = Some (spelled_file s); deed = asks events [] []; count = length events },
            (held-whole, (s, version, is, refl, opening, tt, no-farewell version)),
            subst (GoesOn (Some talk) new) (sym all) goes,
          )

      front-opening : (events : List TalkEvent) → IsPrefix events recall → IsOpening version s events
      front-opening events (more, same) = record {
        link = prefix_of_link events recall (more, same) (IsOfLink-outs bytes_sent);
        sent = (written more, sym (written-outs bytes_sent) ∙ ap written same ∙ written-append events more);
      }

      -- all of it, and nothing more was sent
      whole-opening : (rest : List TalkEvent) → IsOfLink rest → written rest ≡ [] → IsOpening version s (recall ++ rest)
      whole-opening rest link none =
          let sent : written (recall ++ rest) ≡ bytes_sent =
          written-append recall rest ∙ ap (λ (l : List ℕ). written recall ++ l) none ∙ append-nil (written recall) ∙ written-outs bytes_sent in
          record {
            link = IsOfLink-append recall rest (IsOfLink-outs bytes_sent) link;
            sent = ([], sym sent ∙ sym (append-nil (written (recall ++ rest))));
          }

      heard-opening : (bytes : List ℕ) → IsOpening version s (recall ++ ins bytes)
      heard-opening bytes = whole-opening (ins bytes) (IsOfLink-ins bytes) (written-ins bytes)

      ended-opening : (bytes : List ℕ) → IsOpening version s (recall ++ ins bytes ++ Ended ∷ [])
      ended-opening bytes =
          subst (IsOpening version s) (sym (append_assoc recall (ins bytes) (Ended ∷ [])))
          (whole-opening (ins bytes ++ Ended ∷ []) (IsOfLink-append (ins bytes) (Ended ∷ []) (IsOfLink-ins bytes) tt)
          (written-append (ins bytes) (Ended ∷ []) ∙ append-nil (written (ins bytes)) ∙ written-ins bytes))

      -- and then the turns came
      turned-run : (places : List (Option ℕ)) (mid : Option (List TalkEvent)) (held : Held) → AreFree s places
          → GoesOn (Some talk) mid (recall ++ held_heard version held) → StoresFirst version s places mid new → IsARun
      turned-run places mid held free goes first =
          let opening = recall ++ held_heard version held in
          let told = GoesOn-told talk mid opening goes in
          let came = turns-came version s places (talk ++ opening) new free
          (subst (λ (m : Option (List TalkEvent)). StoresFirst version s places m new) told first) in (
            record { loaded = Some (spelled_file s); deed = asks opening came.turns came.behind; count = length opening + came.count },
            (held-whole, (s, version, is, refl, heard-opening (spelling version (messages.Held held)), came.are, came.farewell)),
            goes-behind talk opening (flat_map turn_events came.turns ++ came.behind) new came.count came.goes,
          )

-- ---- a call

module _ (asked : List Question) (start : Option (List ℕ)) (talk : List TalkEvent) (new blank full : Option (List TalkEvent)) where
  cut-run : (o : Opens asked start (Some talk) new blank full (IsCutOpening asked start (Some talk) new blank full)) → IsARun start talk new
  cut-run (s, places, (is, loads), chosen, events, inl front, goes, unwritten) =
      let version = version_for s.depth asked in
      opened-run start talk new s is loads version events (front-opening start talk new s is loads version events front) goes
  cut-run (s, places, (is, loads), chosen, events, inr (bytes, same, closed), goes, unwritten) =
      let version = version_for s.depth asked in
      opened-run start talk new s is loads version events (subst (IsOpening version s) (sym same) (heard-opening start talk new s is loads version bytes)) goes

  talk-run : (status : AskStatus) → IsInTalk asked start (Some talk) new blank full status → IsARun start talk new
  talk-run status t =
      turned-run start talk new t.s t.loaded.0 t.loaded.1 (version_for t.s.depth asked) t.places t.mid (held_by t.s.tally)
      (chosen-free t.s asked t.places t.chosen) t.opened t.stores

  pub ask-run : (status : AskStatus) → Asks asked start (Some talk) new blank full status → IsARun start talk new
  ask-run (statuses.BadSketch offset) (file, loads, bad, (same, unwritten)) = idle-run start talk new same
  ask-run statuses.Busy (same, unwritten) = idle-run start talk new same
  ask-run statuses.ReadFault (same, unwritten) = idle-run start talk new same
  ask-run statuses.NotWhole (s, was, refused, (same, unwritten)) = idle-run start talk new same
  ask-run (statuses.Unfit query) (s, was, refused, (same, unwritten)) = idle-run start talk new same
  ask-run (statuses.Signed query) (s, was, refused, (same, unwritten)) = idle-run start talk new same
  ask-run (statuses.NoSeat query) (s, was, refused, (same, unwritten)) = idle-run start talk new same
  ask-run (statuses.TooWide query) (s, was, refused, (same, unwritten)) = idle-run start talk new same
  ask-run (statuses.TooHigh query) (s, was, refused, (same, unwritten)) = idle-run start talk new same
  ask-run (statuses.OutOfStep held kept) (s, places, (is, loads), chosen, events, (same, fit, own, other), goes, unwritten) =
      let version = version_for s.depth asked in
      opened-run start talk new s is loads version events (subst (IsOpening version s) (sym same) (heard-opening start talk new s is loads version (spelling version (messages.Held held)))) goes
  ask-run statuses.BadFrame (s, places, (is, loads), chosen, events, (bytes, same, fault, of_bytes, bad), goes, unwritten) =
      let version = version_for s.depth asked in
      opened-run start talk new s is loads version events (subst (IsOpening version s) (sym same) (heard-opening start talk new s is loads version bytes)) goes
  ask-run statuses.PeerClosed (s, places, (is, loads), chosen, events, (bytes, same, closed), goes, unwritten) =
      let version = version_for s.depth asked in
      opened-run start talk new s is loads version events (subst (IsOpening version s) (sym same) (ended-opening start talk new s is loads version bytes)) goes
  ask-run statuses.PeerFault (inl o) = cut-run o
  ask-run statuses.PeerFault (inr t) = talk-run statuses.PeerFault t
  ask-run statuses.OutOfMemory (inl (same, unwritten)) = idle-run start talk new same
  ask-run statuses.OutOfMemory (inr (inl o)) = cut-run o
  ask-run statuses.OutOfMemory (inr (inr t)) = talk-run statuses.OutOfMemory t
  ask-run (statuses.Rejected query round reason) t = talk-run (statuses.Rejected query round reason) t
  ask-run (statuses.WriteFault port) t = talk-run (statuses.WriteFault port) t
  ask-run statuses.Accepted t = talk-run statuses.Accepted t
