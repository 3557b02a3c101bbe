-- What a lookup that is asked without a link comes to is what one over a link comes to.
use Rattle.std.proofs.Common.{◌≡◌, ℕ, ◌≤◌, ◌++◌, Bool, true, false, not, if◌then◌else◌, None, Some, Option, Result, Ok, Err, List, [], length, inl, inr, refl, sym, ap, subst}
use Rattle.sip_field.specs.Moduli.{m61_modulus}
use Rattle.sip_ports.specs.declared.port.TalkEvent.{TalkEvent}
use Rattle.sip_tree.specs.StandsFor.{RootStandsFor}
use Rattle.sip_vector.specs.declared.query.Query.TheVariants.{Sub}
use Rattle.sip_vector.specs.declared.update.Entry.{Entry}
use Rattle.sip_vector.specs.declared.update.Side.TheVariants.{First}
use Rattle.sip_vector.specs.declared.update.Update.{Update}
use Rattle.sip_vector.specs.Streams.{vector}
use Rattle.sip_wire.specs.declared.kind.Place.TheVariants as places
use Rattle.sip_wire.specs.declared.message.Message.{Message}
use Rattle.sip_wire.specs.declared.message.Message.TheVariants as messages
use Rattle.sip_wire.specs.declared.message.Reason.{Reason}
use Rattle.sip_wire.specs.declared.message.Reason.TheVariants as reasons
use Rattle.sip_wire.specs.declared.version.Version.{Version}
use Rattle.sip_wire.specs.Frames.{frame_bytes}
use Rattle.sip_wire.specs.Spelling.{asked}
use Rattle.sip_wire.proofs.ReadingLaws.{read_frame-closed}
use Rattle.sip_replies.specs.declared.asking.AskStop.{AskStop}
use Rattle.sip_replies.specs.declared.asking.AskStop.TheVariants as stops
use Rattle.sip_replies.specs.declared.check.Said.{Said}
use Rattle.sip_replies.specs.declared.check.Said.TheVariants as saids
use Rattle.sip_replies.specs.declared.turn.Stage.{Stage}
use Rattle.sip_replies.specs.declared.turn.Stage.TheVariants as stages
use Rattle.sip_replies.specs.Asking as general
use Rattle.sip_replies.specs.Following.{is_open}
use Rattle.sip_replies.specs.Protocols.{Protocol}
use Rattle.sip_replies.specs.Replies.{reasoned}
use Rattle.sip_replies.proofs.Fed.{Means-fed}
use Rattle.sip_replies.proofs.Framed.{AreFrames-none}
use Rattle.sip_subvec.specs.Asking as sub_asking
use Rattle.sip_subvec.specs.Asking.{SubStands}
use Rattle.sip_subvec.specs.AcceptsSub.{Stated}
use Rattle.sip_subvec.specs.Protocol.{sub_asked, sub_protocol}
use Rattle.sip_verifier.specs.declared.asker.Unanswered.{Unanswered}
use Rattle.sip_verifier.specs.declared.asker.Unanswered.TheVariants as unanswered
use Rattle.sip_verifier.specs.declared.session.SessionFault.{SessionFault}
use Rattle.sip_verifier.specs.declared.session.SessionFault.TheVariants as faults
use Rattle.sip_verifier.specs.declared.session.Verdict.TheVariants as verdicts
use Rattle.sip_verifier.specs.Asking as subs
use Rattle.sip_verifier.specs.inside.Judging.{verdict_of}
use Rattle.sip_verifier.specs.inside.Protocols.{IsProtocol}
use Rattle.sip_verifier.specs.QuerySeats.{root_is}
use Rattle.sip_verifier.specs.runs.Askers.{Asks}
use Rattle.sip_verifier.specs.runs.Asking.{IsInterrupted, IsRejected}
use Rattle.sip_verifier.proofs.QueryAsked.{asks}
use Rattle.sip_verifier.proofs.SeatAsked.{sub_protocol_is}
use Rattle.sip_lookup.specs.declared.answer.LookAnswer.{LookAnswer}
use Rattle.sip_lookup.specs.declared.lookup.Lookup.{Lookup}
use Rattle.sip_lookup.specs.Lookups.{Looked, are_alone, range_of, stated_answer}
use Rattle.sip_lookup.specs.Questions.{looking}
use Rattle.sip_lookup.specs.Sittings.{looked_of}
use Rattle.sip_lookup.proofs.FoundHeard.{fault_says}
use Rattle.sip_lookup.proofs.LookEnds.{answered_comes, ask_went, bad_comes, crowded_comes, no_number, rejected_comes, stopped_comes}
use Rattle.sip_lookup.proofs.LookHeard.{ask_cut, found_cut, found_faulty}
use Rattle.sip_steps.specs.declared.asking.Asking.{Asking}
use Rattle.sip_steps.specs.declared.looking.LookStep.{LookStep}
use Rattle.sip_steps.specs.declared.looking.LookStep.TheVariants as steps
use Rattle.sip_steps.specs.declared.opening.Opening.{Opening}
use Rattle.sip_steps.specs.Asked.{pairs_of}
use Rattle.sip_steps.specs.Looked.{IsLookedBy, Proves, Refuses, SaysLooked, Seeks, asked_for, is_judged, looked_at, looked_by, result_map}
use Rattle.sip_steps.specs.Posed.{asked_at}
use Rattle.sip_steps.proofs.Posings.{answers, shown}

-- ---- a talk behind another

module _ {S : Type 0} (P : Protocol S) (request : Message) (block : List ℕ) (mid inner : List TalkEvent) (held : List Entry) where
  pub answers_behind : (result : Result Said AskStop) → general.Answers P request block (Some []) (Some inner) None None held result → general.Answers P request block (Some mid) (Some (mid ++ inner)) None None held result
  answers_behind (Ok said) a = record { replies = a.replies; talk = ap (λ (l : List TalkEvent). mid ++ l) a.talk; kept = a.kept; frames = a.frames; accepted = a.accepted }
  answers_behind (Err (stops.Rejected round reason)) r = record { replies = r.replies; talk = ap (λ (l : List TalkEvent). mid ++ l) r.talk; kept = r.kept; faulty = r.faulty }
  answers_behind (Err stops.PeerFault) i = behind i
    where
      behind : general.IsInterrupted P request block (Some []) (Some inner) None None → general.IsInterrupted P request block (Some mid) (Some (mid ++ inner)) None None
      behind i = record { due = i.due; replies = i.replies; said = i.said; talk = ap (λ (l : List TalkEvent). mid ++ l) i.talk; order = i.order; kept = i.kept; unfinished = i.unfinished; missing = i.missing }
  answers_behind (Err stops.OutOfMemory) i = record { due = i.due; replies = i.replies; said = i.said; talk = ap (λ (l : List TalkEvent). mid ++ l) i.talk; order = i.order; kept = i.kept; unfinished = i.unfinished; missing = i.missing }
  answers_behind (Err stops.KeepFault) u = record { replies = u.replies; ended = u.ended; talk = ap (λ (l : List TalkEvent). mid ++ l) u.talk; kept = u.kept; unjudged = u.unjudged }
  answers_behind (Err stops.KeepOutOfMemory) u = record { replies = u.replies; ended = u.ended; talk = ap (λ (l : List TalkEvent). mid ++ l) u.talk; kept = u.kept; unjudged = u.unjudged }

-- ---- a lookup

module _ (version : Version) (depth : ℕ) (stream : List Update) (lookup : Lookup) (block : List ℕ) (value : ℕ) (some : 1 ≤ length block)
    (stands : RootStandsFor m61_modulus block value (vector depth stream First)) where
  abbrev Comes : Option (List TalkEvent) → Result Looked Unanswered → Type 0
  Comes end result = Asks (looking version depth stream) (lookup, block) (Some []) end (λ (given answer : Looked). given ≡ answer) result

  abbrev ask_sent : List TalkEvent
  ask_sent = asked_for version lookup

  -- the place is awaited
  place_cut : (events : List TalkEvent) (part : List ℕ) (is_asked : Bool) → Seeks version depth lookup block value events part is_asked → IsInterrupted (looking version depth stream) lookup block (Some []) (Some events)
  place_cut events part true (said, short) =
      let closed = read_frame-closed version places.Found part short in
      found_cut version depth stream lookup block (Some []) (Some ask_sent) (Some events) None None
      (ask_went version depth stream lookup block {G = Looked} (λ given answer. given ≡ answer) (Some []) (Some ask_sent) refl)
      (record {
        bytes = part;
        heard = said;
        kept = record { whole = []; part = part; split = refl; frames = AreFrames-none version; cut = (places.Found, closed); kept = _ };
        says = fault_says version part reasons.Closed (ap reasoned closed);
      })
  place_cut events part false (none, empty) =
      subst (λ (e : List TalkEvent). IsInterrupted (looking version depth stream) lookup block (Some []) (Some e)) (sym none)
      (ask_cut version depth stream lookup block (Some []) (Some []) [] refl (_, refl))

  -- the Found was refused
  place_refused : (events : List TalkEvent) (reason : Reason) → Refuses version depth lookup block value events reason → IsRejected (looking version depth stream) lookup block (Some []) (Some events) 0 reason
  place_refused events reason (inl fault) =
      found_faulty version depth stream lookup block (Some []) (Some ask_sent) (Some events) None None
      (ask_went version depth stream lookup block {G = Looked} (λ given answer. given ≡ answer) (Some []) (Some ask_sent) refl) reason fault
  place_refused events reason (inr (is, found, bad, heard)) =
      subst (λ (r : Reason). IsRejected (looking version depth stream) lookup block (Some []) (Some events) 0 r) (sym is)
      (bad_comes version depth stream lookup block {G = Looked} (λ given answer. given ≡ answer) (Some []) (Some ask_sent) (Some events) None None refl found heard bad)

  -- the interval is asked for
  module _ (events : List TalkEvent) (found : Option ℕ) (a : Asking sub_asking.Asking Opening) (p : Proves version depth lookup block value events found a) where
    abbrev lo : ℕ
    lo = (range_of depth lookup found).0

    abbrev hi : ℕ
    hi = (range_of depth lookup found).1

    abbrev P : Protocol Stated
    P = sub_protocol (sub_asked version m61_modulus value lo hi block)

    abbrev entries : List Entry
    entries = pairs_of a.turn.stage a.places.items

    own : IsProtocol version depth stream (Sub lo hi) block P
    own = sub_protocol_is version depth stream (record { query = Sub lo hi; block = block; running = root_is value }) block lo hi value refl refl refl stands

    interval_asked : subs.Asks version depth stream (Sub lo hi) block (Some p.mid) (Some events) entries (verdict_of (asked_at a.turn.stage))
    interval_asked =
        let held = a.places.items in
        let request = messages.Query (Sub lo hi) in
        let means = Means-fed P request block (λ s. SubStands (sub_asked version m61_modulus value lo hi block) s a.check held) held a.turn (frame_bytes a.frame) p.inner p.talk.fed in
        let alone = answers P request block p.inner held a.turn.stage means in
        let behind = answers_behind P request block p.mid p.inner held (asked_at a.turn.stage) alone in
        let all = asks version depth stream (Sub lo hi) block (Some p.mid) (Some (p.mid ++ p.inner)) None None P own held (asked_at a.turn.stage) behind in
        subst (λ (e : List TalkEvent). subs.Asks version depth stream (Sub lo hi) block (Some p.mid) (Some e) entries (verdict_of (asked_at a.turn.stage))) (sym p.all)
        (subst (λ (es : List Entry). subs.Asks version depth stream (Sub lo hi) block (Some p.mid) (Some (p.mid ++ p.inner)) es (verdict_of (asked_at a.turn.stage))) (shown a.turn.stage held) all)

    by_alone : (test : Bool) → are_alone lookup found entries ≡ test → (count : ℕ) → subs.Asks version depth stream (Sub lo hi) block (Some p.mid) (Some events) entries (verdict_of (Ok (saids.Pairs count)))
        → Comes (Some events) (if test then Ok (stated_answer lookup entries) else Err (unanswered.Rejected depth reasons.NotAlone))
    by_alone true is count asked = record {
      answer = stated_answer lookup entries;
      answered = answered_comes version depth stream lookup block {G = Looked} (λ given answer. given ≡ answer) (Some []) (Some ask_sent) (Some p.mid) None None refl found p.heard p.possible some (Some events) entries (Ok verdicts.Pairs) asked refl is;
      states = refl;
    }
    by_alone false is count asked =
        crowded_comes version depth stream lookup block {G = Looked} (λ given answer. given ≡ answer) (Some []) (Some ask_sent) (Some p.mid) None None refl found p.heard p.possible some (Some events) entries (Ok verdicts.Pairs) asked refl is

    stopped : (fault : SessionFault) → subs.Asks version depth stream (Sub lo hi) block (Some p.mid) (Some events) entries (Err fault) → Comes (Some events) (Err (unanswered.Fault fault))
    stopped fault asked =
        stopped_comes version depth stream lookup block {G = Looked} (λ given answer. given ≡ answer) (Some []) (Some ask_sent) (Some p.mid) None None refl found p.heard p.possible some (Some events) entries (Err fault) asked fault refl

    by_asked : (r : Result Said AskStop) → subs.Asks version depth stream (Sub lo hi) block (Some p.mid) (Some events) entries (verdict_of r) → Comes (Some events) (looked_by depth lookup found entries r)
    by_asked (Ok (saids.Pairs count)) asked = by_alone (are_alone lookup found entries) refl count asked
    by_asked (Ok (saids.Number n)) asked =
        absurd (no_number version depth stream lookup block {G = Looked} (λ given answer. given ≡ answer) (Some []) (Some ask_sent) (Some p.mid) None None refl found p.heard p.possible some (Some events) entries (Ok (verdicts.Number n)) asked n refl)
    by_asked (Err (stops.Rejected round reason)) asked =
        rejected_comes version depth stream lookup block {G = Looked} (λ given answer. given ≡ answer) (Some []) (Some ask_sent) (Some p.mid) None None refl found p.heard p.possible some (Some events) entries (Ok (verdicts.Rejected round reason)) asked round reason refl
    by_asked (Err stops.PeerFault) asked = stopped faults.PeerFault asked
    by_asked (Err stops.KeepFault) asked = stopped faults.KeepFault asked
    by_asked (Err stops.OutOfMemory) asked = stopped faults.OutOfMemory asked
    by_asked (Err stops.KeepOutOfMemory) asked = stopped faults.OutOfMemory asked

  -- what came of it
  pub look_comes : (events : List TalkEvent) (step : LookStep) → IsLookedBy version depth lookup block value events step → Comes (Some events) (looked_at depth lookup step)
  look_comes events (steps.Place room is_asked) is = place_cut events (frame_bytes room.frame) is_asked is.0
  look_comes events (steps.Refused reason) is = place_refused events reason is
  look_comes events (steps.Proves found a) is = by_asked events found a is (asked_at a.turn.stage) (interval_asked events found a is)

  -- ---- by what is said of it

  abbrev Given : Option (List TalkEvent) → Result LookAnswer Unanswered → Type 0
  Given end said = Asks (looking version depth stream) (lookup, block) (Some []) end (λ (given : LookAnswer) (answer : Looked). looked_of given ≡ answer) said

  as_said : (end : Option (List TalkEvent)) (said : Result LookAnswer Unanswered) → Comes end (result_map looked_of said) → Given end said
  as_said end (Ok answer) x = record { answer = x.answer; answered = x.answered; states = x.states }
  as_said end (Err (unanswered.Rejected round reason)) x = x
  as_said end (Err (unanswered.Fault faults.PeerFault)) x = x
  as_said end (Err (unanswered.Fault faults.KeepFault)) x = x
  as_said end (Err (unanswered.Fault faults.OutOfMemory)) x = x

  pub look_said : (events : List TalkEvent) (step : LookStep) → IsLookedBy version depth lookup block value events step → (said : Result LookAnswer Unanswered) → SaysLooked depth lookup step (Some said) → Given (Some events) said
  look_said events step is said says =
      as_said (Some events) said (subst (λ (r : Result Looked Unanswered). Comes (Some events) r) (sym says.1) (look_comes events step is))

  pub look_waits : (events : List TalkEvent) (step : LookStep) → IsLookedBy version depth lookup block value events step → is_judged step ≡ false → IsInterrupted (looking version depth stream) lookup block (Some []) (Some events)
  look_waits events (steps.Place room is_asked) is open_yet = look_comes events (steps.Place room is_asked) is
  look_waits events (steps.Refused reason) is open_yet = absurd cc
  look_waits events (steps.Proves found a) is open_yet = by_stage (a.turn.stage) open_yet (look_comes events (steps.Proves found a) is)
    where
      by_stage : (stage : Stage) → not (is_open stage) ≡ false → Comes (Some events) (looked_by depth lookup found (pairs_of stage a.places.items) (asked_at stage)) → IsInterrupted (looking version depth stream) lookup block (Some []) (Some events)
      by_stage stages.Asks open_yet x = x
      by_stage stages.Hears open_yet x = x
      by_stage (stages.Reveals challenge) open_yet x = x
      by_stage (stages.Said said) open_yet x = absurd cc
      by_stage (stages.Rejected round reason) open_yet x = absurd cc
