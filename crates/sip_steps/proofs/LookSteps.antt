-- A lookup without a link, step by step.
use Rattle.std.proofs.Common.{◌≡◌, ℕ, ◌≤◌, ◌<◌, ◌^◌, ◌++◌, nat_lt, Bool, true, false, None, Some, Option, Result, Ok, Err, List, [], ◌∷◌, inl, inr, refl, sym, ap, subst, ◌∙◌, arith, append-nil, append_assoc}
use Rattle.std.specs.Prelude.{OnErr, OnOk, nat_le}
use Rattle.std.proofs.lemmas.Bool.{and_parts, ltb-true}
use Rattle.sip_ports.specs.declared.port.TalkEvent.{TalkEvent}
use Rattle.sip_ports.specs.declared.port.TalkEvent.TheVariants.{Ended}
use Rattle.sip_ports.specs.Ports.{ins, outs}
use Rattle.sip_vector.specs.declared.query.Query.TheVariants.{Sub}
use Rattle.sip_wire.specs.declared.kind.Place.TheVariants as places
use Rattle.sip_wire.specs.declared.message.Message.TheVariants as messages
use Rattle.sip_wire.specs.declared.message.Reason.{Reason}
use Rattle.sip_wire.specs.declared.message.Reason.TheVariants as reasons
use Rattle.sip_wire.specs.declared.version.Version.{Version}
use Rattle.sip_wire.specs.Frames.{frame_bytes}
use Rattle.sip_wire.specs.Spelling.{spelling}
use Rattle.sip_wire.proofs.ReadingLaws.{read_frame-closed}
use Rattle.sip_replies.specs.Replies.{reasoned}
use Rattle.sip_replies.proofs.Fed.{events_more, short_empty}
use Rattle.sip_subvec.specs.Asking as subs
use Rattle.sip_subvec.specs.Asking.{SubStands, most_answer, phase_of}
use Rattle.sip_subvec.specs.Protocol.{sub_protocol}
use Rattle.sip_lookup.specs.declared.lookup.Lookup.{Lookup}
use Rattle.sip_lookup.specs.declared.lookup.Lookup.TheVariants.{Index, Pred, Succ}
use Rattle.sip_lookup.specs.Frames.{ask_message}
use Rattle.sip_lookup.specs.Lookups.{is_possible, range_of}
use Rattle.sip_lookup.proofs.FoundHeard.{fault_says}
use Rattle.sip_steps.specs.declared.asking.Asking.{Asking}
use Rattle.sip_steps.specs.declared.looking.LookStep.{LookStep}
use Rattle.sip_steps.specs.declared.looking.LookStep.TheVariants as steps
use Rattle.sip_steps.specs.declared.looking.Room.{Room}
use Rattle.sip_steps.specs.declared.opening.Opening.{Opening}
use Rattle.sip_steps.specs.Asked.{IsAsked, IsBegun}
use Rattle.sip_steps.specs.Looked.{HasPlaces, IsLookedBy, IsShown, IsSeeking, Proves, Refuses, SaysFound, Seeks, asked_for, asked_within, end_at, is_hearing_at}
use Rattle.sip_steps.specs.Openings.{message_of}
use Rattle.sip_steps.proofs.Founds.{found_came, found_fault}

-- the interval of a place is within the widest one
pub within_widest : (depth : ℕ) (lookup : Lookup) (found : Option ℕ) → is_possible depth lookup found ≡ true → (most : ℕ) → most_answer (range_of depth lookup None).0 (range_of depth lookup None).1 ≤ most
    → most_answer (range_of depth lookup found).0 (range_of depth lookup found).1 ≤ most
within_widest depth (Index i) found possible most enough = enough
within_widest depth (Pred i) None possible most enough = enough
within_widest depth (Pred i) (Some j) possible most enough = omega (arith, enough)
within_widest depth (Succ i) None possible most enough = enough
within_widest depth (Succ i) (Some j) possible most enough =
    let below : j < 2 ^ depth = ltb-true j (2 ^ depth) (and_parts (nat_le i j) (nat_lt j (2 ^ depth)) possible).1 in
    omega (arith, enough, below)

-- what holds does not fail to
pub not_both : (b : Bool) → b ≡ true → b ≡ false → ⊥
not_both true is not_so = absurd cc
not_both false is not_so = absurd cc

-- what was begun is so still
pub looked_after : {T E : Type 0} (r : Result T E) (version : Version) (depth : ℕ) (lookup : Lookup) (block : List ℕ) (value : ℕ) (before after : List TalkEvent) (old new : LookStep) → IsLookedBy version depth lookup block value before old
    → OnOk r (IsLookedBy version depth lookup block value after new) → OnErr r (new ≡ old) → (events : List TalkEvent) × IsLookedBy version depth lookup block value events new
looked_after (Ok t) version depth lookup block value before after old new is looked same = (after, looked)
looked_after (Err e) version depth lookup block value before after old new is looked same = (before, subst (λ (s : LookStep). IsLookedBy version depth lookup block value before s) (sym same) is)

module _ (version : Version) (depth : ℕ) (lookup : Lookup) (block : List ℕ) (value : ℕ) where
  -- the Ask was sent
  pub sought : (events : List TalkEvent) (part : List ℕ) → Seeks version depth lookup block value events part false → Seeks version depth lookup block value (events ++ outs (spelling version (ask_message lookup))) part true
  sought events part (none, empty) = (
    ap (λ (e : List TalkEvent). e ++ outs (spelling version (ask_message lookup))) none
        ∙ sym (ap (λ (l : List ℕ). outs (spelling version (ask_message lookup)) ++ ins l) empty ∙ append-nil (outs (spelling version (ask_message lookup)))),
    short_empty version places.Found part empty,
  )

  -- bytes of a Found came
  pub came_more : (events : List TalkEvent) (part now piece : List ℕ) → events ≡ asked_for version lookup ++ ins part → now ≡ part ++ piece → events ++ ins piece ≡ asked_for version lookup ++ ins now
  came_more events part now piece last more = sym (events_more (asked_for version lookup) events part now piece last more)

  -- the other end closed before it was whole
  pub closed_early : (events : List TalkEvent) (part : List ℕ) → Seeks version depth lookup block value events part true → Refuses version depth lookup block value (events ++ Ended ∷ []) reasons.Closed
  closed_early events part (last, short) = inl (record {
    bytes = part;
    heard = ap (λ (e : List TalkEvent). e ++ Ended ∷ []) last ∙ append_assoc (asked_for version lookup) (ins part) (Ended ∷ []);
    kept = _;
    says = fault_says version part reasons.Closed (ap reasoned (read_frame-closed version places.Found part short));
    shortest = λ front byte e other. absurd (other refl);
  })

  -- the Found has a fault
  pub refused_for : (bytes : List ℕ) (reason : Reason) → IsShown version bytes (Err reason) → Refuses version depth lookup block value (asked_for version lookup ++ ins bytes) reason
  refused_for bytes reason shown = inl (found_fault version (asked_for version lookup) bytes reason shown)

  -- it names a place that may not be found
  pub refused_place : (bytes : List ℕ) (found : Option ℕ) → IsShown version bytes (Ok found) → is_possible depth lookup found ≡ false → Refuses version depth lookup block value (asked_for version lookup ++ ins bytes) reasons.BadFound
  refused_place bytes found shown bad = inr (refl, found, bad, found_came version (asked_for version lookup) bytes found shown)

  module _ (found : Option ℕ) where
    abbrev Talk : List TalkEvent → Asking subs.Asking Opening → Type 0
    Talk events a = IsAsked (sub_protocol (asked_within version depth lookup block value (range_of depth lookup found))) (SubStands (asked_within version depth lookup block value (range_of depth lookup found))) phase_of message_of
        (messages.Query (Sub (range_of depth lookup found).0 (range_of depth lookup found).1)) block events a

    -- it names one that may, and the talk about the interval begins
    pub proves_from : (bytes : List ℕ) → IsShown version bytes (Ok found) → is_possible depth lookup found ≡ true → (a : Asking subs.Asking Opening) → Talk [] a
        → Proves version depth lookup block value (asked_for version lookup ++ ins bytes) found a
    proves_from bytes shown possible a talk = record {
      mid = asked_for version lookup ++ ins bytes;
      heard = found_came version (asked_for version lookup) bytes found shown;
      possible = possible;
      inner = [];
      all = sym (append-nil _);
      talk = talk;
    }

    module _ (events : List TalkEvent) (a : Asking subs.Asking Opening) (p : Proves version depth lookup block value events found a) where
      -- that talk was begun
      pub proves_begun : IsBegun sub_protocol SubStands phase_of message_of a
      proves_begun = (asked_within version depth lookup block value (range_of depth lookup found), messages.Query (Sub (range_of depth lookup found).0 (range_of depth lookup found).1), block, p.inner, p.talk)

      -- and it went on
      pub proves_more : (more : List TalkEvent) (next : Asking subs.Asking Opening) → Talk (p.inner ++ more) next → Proves version depth lookup block value (events ++ more) found next
      proves_more more next talk = record {
        mid = p.mid;
        heard = p.heard;
        possible = p.possible;
        inner = p.inner ++ more;
        all = ap (λ (e : List TalkEvent). e ++ more) p.all ∙ append_assoc p.mid p.inner more;
        talk = talk;
      }

  -- where bytes are to come and no entries are asked for, they are a Found's
  pub seeking : (events : List TalkEvent) (step : LookStep) → IsLookedBy version depth lookup block value events step → is_hearing_at step ≡ true
      → ((found : Option ℕ) (a : Asking subs.Asking Opening) → step ≡ steps.Proves found a → ⊥) → IsSeeking version depth lookup step
  seeking events (steps.Place room true) is hears other = (is.0.1, is.1)
  seeking events (steps.Place room false) is hears other = absurd cc
  seeking events (steps.Refused reason) is hears other = absurd cc
  seeking events (steps.Proves found a) is hears other = absurd (other found a refl)

  -- the other end closed before it was whole
  pub closed_step : (events : List TalkEvent) (step : LookStep) → IsLookedBy version depth lookup block value events step → is_hearing_at step ≡ true
      → ((found : Option ℕ) (a : Asking subs.Asking Opening) → step ≡ steps.Proves found a → ⊥) → Refuses version depth lookup block value (events ++ end_at step) reasons.Closed
  closed_step events (steps.Place room true) is hears other = closed_early events (frame_bytes room.frame) is.0
  closed_step events (steps.Place room false) is hears other = absurd cc
  closed_step events (steps.Refused reason) is hears other = absurd cc
  closed_step events (steps.Proves found a) is hears other = absurd (other found a refl)

  -- a Found is to come only where it was asked for
  pub was_asked : (room : Room) (is_asked : Bool) → IsSeeking version depth lookup (steps.Place room is_asked) → is_asked ≡ true
  was_asked room true is = refl
  was_asked room false is = absurd is

  pub sought_places : (room : Room) (is_asked : Bool) → IsSeeking version depth lookup (steps.Place room is_asked) → SaysFound version (frame_bytes room.frame) None × HasPlaces depth lookup room.places.items
  sought_places room true is = is
  sought_places room false is = absurd is
