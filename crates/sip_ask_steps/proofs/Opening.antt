-- How a talk is opened, and how it ends there.
use Rattle.std.proofs.Common.{◌≡◌, ◌≢◌, ℕ, ◌<◌, Err, Option, Some, None, List, [], ◌∷◌, ◌++◌, length, refl, sym, ap, subst, ◌∙◌, inl, append_assoc, append-nil}
use Rattle.std.specs.Prelude.{IsTrue}
use Rattle.sip_ports.specs.Ports.{GoesOn, ins}
use Rattle.sip_ports.specs.declared.port.TalkEvent.{TalkEvent}
use Rattle.sip_ports.specs.declared.port.TalkEvent.TheVariants.{Ended}
use Rattle.sip_ports.proofs.TalkLemmas.{GoesOn-refl}
use Rattle.sip_wire.specs.Faults.{IsOfBytes}
use Rattle.sip_wire.specs.Reading.{read_frame}
use Rattle.sip_wire.specs.Spelling.{asked, fits}
use Rattle.sip_wire.specs.declared.kind.Place.TheVariants as places
use Rattle.sip_wire.specs.declared.message.Held.{Held}
use Rattle.sip_wire.specs.declared.message.Message.TheVariants as messages
use Rattle.sip_wire.specs.declared.message.WireFault.{WireFault}
use Rattle.sip_wire.proofs.ReadingLaws.{read_frame-closed}
use Rattle.sip_ask.specs.Turns.{held_by, held_heard}
use Rattle.sip_ask.specs.declared.status.AskStatus.{AskStatus}
use Rattle.sip_ask.specs.declared.status.AskStatus.TheVariants as statuses
use Rattle.sip_ask.specs.inside.Opening.{HearsHeld, OpensWith}
use Rattle.sip_ask.proofs.AskEnds.{opened-asks}
use Rattle.sip_ask.proofs.HeldHeard.{unheard_behind}
use Rattle.sip_ask_steps.specs.Plans.{Ends, IsPlan, Plan, opened, recalled, version_of}
use Rattle.sip_ask_steps.specs.Steps.{IsBefore}

module _ (p : Plan) (plan : IsPlan p) where
  stops : (events : List TalkEvent) (status : AskStatus) → ((talk : List TalkEvent) → OpensWith (version_of p) p.sketch.depth p.sketch.tally (Some talk) (Some (talk ++ events)) (Err status)) → Ends p events status
  stops events status with = λ start talk loads.
      opened-asks p.asked start (Some talk) (Some (talk ++ events)) None None p.sketch plan.is loads p.places plan.chosen (Some talk) (GoesOn-refl (Some talk)) status (with talk) tt

  -- nothing was sent
  pub silent_ends : Ends p [] statuses.PeerFault
  silent_ends = stops [] statuses.PeerFault (λ talk. inl (record { events = []; front = (recalled p, refl); talk = refl }))

  goes : (talk heard events : List TalkEvent) → events ≡ recalled p ++ heard → GoesOn (Some (talk ++ recalled p)) (Some (talk ++ events)) heard
  goes talk heard events all = ap (λ (l : List TalkEvent). talk ++ l) all ∙ sym (append_assoc talk (recalled p) heard)

  -- what is due behind it was not heard
  unheard : (heard events : List TalkEvent) (status : AskStatus) → events ≡ recalled p ++ heard
      → ((mid new : Option (List TalkEvent)) → GoesOn mid new heard → HearsHeld (version_of p) mid new (Err status)) → Ends p events status
  unheard heard events status all hears = stops events status (λ talk.
      unheard_behind (version_of p) p.sketch.depth p.sketch.tally (Some talk) (Some (talk ++ recalled p)) (Some (talk ++ events)) refl status
      (hears (Some (talk ++ recalled p)) (Some (talk ++ events)) (goes talk heard events all)))

  module _ (events : List TalkEvent) (part : List ℕ) where
    pub waiting_ends : events ≡ recalled p ++ ins part → length part < asked (version_of p) places.Held part → Ends p events statuses.PeerFault
    waiting_ends all short = unheard (ins part) events statuses.PeerFault all (λ mid new went. record {
      bytes = part;
      talk = subst (GoesOn mid new) (sym (append-nil (ins part))) went;
      front = read_frame-closed (version_of p) places.Held part short;
    })

    pub closed_ends : events ≡ recalled p ++ ins part → length part < asked (version_of p) places.Held part → Ends p (events ++ Ended ∷ []) statuses.PeerClosed
    closed_ends all short =
        unheard (ins part ++ Ended ∷ []) (events ++ Ended ∷ []) statuses.PeerClosed
        (ap (λ (l : List TalkEvent). l ++ Ended ∷ []) all ∙ append_assoc (recalled p) (ins part) (Ended ∷ []))
        (λ mid new went. record { bytes = part; talk = went; front = read_frame-closed (version_of p) places.Held part short })

    pub bad_ends : events ≡ recalled p ++ ins part → (fault : WireFault) → IsOfBytes fault → read_frame (version_of p) places.Held part ≡ Err fault → Ends p events statuses.BadFrame
    bad_ends all fault of read =
        unheard (ins part) events statuses.BadFrame all (λ mid new went. record { bytes = part; talk = went; fault = fault; of_bytes = of; other = read })

  -- the other end holds something else
  pub step_ends : (events : List TalkEvent) (held kept : Held) → IsTrue (fits (version_of p) (messages.Held held)) → events ≡ recalled p ++ held_heard (version_of p) held → kept ≡ held_by p.sketch.tally → held ≢ kept
      → Ends p events (statuses.OutOfStep held kept)
  step_ends events held kept fit all same other = stops events (statuses.OutOfStep held kept) (λ talk. (
    record { mid = Some (talk ++ recalled p); sent = refl; hears = (goes talk (held_heard (version_of p) held) events all, fit) },
    same,
    other,
  ))

  -- it holds what the sketch is of, and all questions are left
  pub first_before : IsTrue (fits (version_of p) (messages.Held (held_by p.sketch.tally))) → IsBefore p (opened p) p.sketch 1 p.asked p.places
  first_before fit = record {
    front = [];
    asked = refl;
    taken = [];
    seats = refl;
    paired = refl;
    counted = refl;
    heard = fit;
    depth = refl;
    count = refl;
    blocks = λ k. refl;
    asks = λ stream stands talk new result rest. rest;
    stores = λ talk new rest. rest;
  }
