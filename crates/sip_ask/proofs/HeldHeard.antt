-- What was heard of what the other end holds, and how a talk was opened.
use Rattle.std.proofs.Common.{◌≡◌, ℕ, ◌^◌, ◌<◌, Result, Ok, Err, List, [], ◌++◌, take, drop, refl, sym, ap, subst, ◌∙◌, inl, inr, append-nil, arith}
use Rattle.std.specs.Prelude.{IsTrue}
use Rattle.std.specs.declared.option.Option.{Option}
use Rattle.std.proofs.lemmas.Bool.Decides.{nat_tests}
use Rattle.std.proofs.lemmas.List.{take-append-drop}
use Rattle.sip_ports.specs.Ports.{GoesOn, Rose, ins, outs}
use Rattle.sip_ports.specs.declared.port.PortStop.{PortStop}
use Rattle.sip_ports.specs.declared.port.PortStop.TheVariants as stops
use Rattle.sip_ports.specs.declared.port.TalkEvent.{TalkEvent}
use Rattle.sip_ports.proofs.TalkLemmas.{outs-append}
use Rattle.sip_vector.specs.declared.tally.Tally.{Tally}
use Rattle.sip_wire.specs.Decoding.{Decodes}
use Rattle.sip_wire.specs.Faults.{IsOfBytes}
use Rattle.sip_wire.specs.Reading.{read_frame}
use Rattle.sip_wire.specs.Spelling.{all_hold, fits, has_room, kind_of, spelling}
use Rattle.sip_wire.specs.Table.{allows}
use Rattle.sip_wire.specs.declared.kind.Place.TheVariants as places
use Rattle.sip_wire.specs.declared.message.Held.{Held}
use Rattle.sip_wire.specs.declared.message.Message.{Message}
use Rattle.sip_wire.specs.declared.message.Message.TheVariants as messages
use Rattle.sip_wire.specs.declared.message.WireFault.{WireFault}
use Rattle.sip_wire.specs.declared.message.WireFault.TheVariants as faults
use Rattle.sip_wire.specs.declared.version.Version.{Version}
use Rattle.sip_ask.specs.Turns.{recall_bytes, recall_sent}
use Rattle.sip_ask.specs.declared.status.AskStatus.{AskStatus}
use Rattle.sip_ask.specs.declared.status.AskStatus.TheVariants as statuses
use Rattle.sip_ask.specs.inside.Ending.{of_link}
use Rattle.sip_ask.specs.inside.Opening.{HearsHeld, HearsOther, IsCutShort, OpensWith, of_fault}

-- no other message may stand where this one is due
pub is_held : (m : Message) → IsTrue (allows places.Held (kind_of m)) → (held : Held) × (m ≡ messages.Held held)
is_held (messages.Held held) allowed = (held, refl)
is_held _ allowed = absurd (let no = allowed in cc)

-- a count of records has a spelling
pub recall_fits : (version : Version) (count : ℕ) → count < 2 ^ 64 → IsTrue (fits version (messages.Recall count))
unfolding fits has_room all_hold
recall_fits version count most = grind (arith, nat_tests)

-- what the other end holds has one too
pub held_fits : (version : Version) (h : Held) → h.records < 2 ^ 64 → h.first < 2 ^ 64 → h.second < 2 ^ 64 → h.fingerprint < 2 ^ 64
    → IsTrue (fits version (messages.Held h))
unfolding fits has_room all_hold
held_fits version h records first second fingerprint = grind (arith, nat_tests)

-- which faults of the frame end so
pub of_peer : (fault : WireFault) → of_fault fault ≡ statuses.PeerFault → fault ≡ faults.PeerFault
of_peer faults.PeerFault is = refl
of_peer _ is = absurd cc

pub of_memory : (fault : WireFault) → of_fault fault ≡ statuses.OutOfMemory → fault ≡ faults.OutOfMemory
of_memory faults.OutOfMemory is = refl
of_memory _ is = absurd cc

-- which stops of the link
pub stop_failed : (stop : PortStop) → of_link stop ≡ statuses.PeerFault → stop ≡ stops.Failed
stop_failed stops.Failed is = refl
stop_failed stops.OutOfMemory is = absurd cc

pub stop_wanted : (stop : PortStop) → of_link stop ≡ statuses.OutOfMemory → stop ≡ stops.OutOfMemory
stop_wanted stops.Failed is = absurd cc
stop_wanted stops.OutOfMemory is = refl

module _ (version : Version) (old new : Option (List TalkEvent)) (before now : ℕ) (got : List ℕ) where
  abbrev Did : Result Message WireFault → Type 0
  Did = Decodes version places.Held old new before now got

  -- bytes that begin no such frame
  other : (fault : WireFault) → IsOfBytes fault → GoesOn old new (ins got ++ []) → read_frame version places.Held got ≡ Err fault → HearsOther version old new
  other fault of_bytes heard read = record {
    bytes = got;
    talk = subst (GoesOn old new) (append-nil (ins got)) heard;
    fault = fault;
    of_bytes = of_bytes;
    other = read;
  }

  by_fault : (fault : WireFault) → Did (Err fault) → HearsHeld version old new (Err (of_fault fault))
  by_fault faults.Closed did = record { bytes = got; talk = did.heard; front = did.answer }
  by_fault faults.PeerFault did = record { bytes = got; talk = did.heard; front = did.answer.0 }
  by_fault faults.OutOfMemory did = record { bytes = got; talk = did.heard; front = did.answer }
  by_fault faults.BadKind did = other faults.BadKind tt did.heard did.answer
  by_fault faults.BadLength did = other faults.BadLength tt did.heard did.answer
  by_fault faults.BadCount did = other faults.BadCount tt did.heard did.answer
  by_fault faults.BadNumber did = other faults.BadNumber tt did.heard did.answer

  -- the frame has a fault
  pub unheard : (r : Result Message WireFault) (fault : WireFault) (status : AskStatus) → Did r → r ≡ Err fault → status ≡ of_fault fault → HearsHeld version old new (Err status)
  unheard r fault status did is same = rw same (by_fault fault (subst Did is did))

  -- the link failed inside it
  pub failed_inside : (r : Result Message WireFault) → Did r → r ≡ Err faults.PeerFault → Rose before now
  failed_inside r did is =
      let failed : Did (Err faults.PeerFault) = subst Did is did in
      failed.answer.1

  -- it came whole
  pub heard : (r : Result Message WireFault) (m : Message) (held : Held) → Did r → r ≡ Ok m → m ≡ messages.Held held → HearsHeld version old new (Ok held)
  heard r m held did came is =
      let whole : Did (Ok m) = subst Did came did in (
        subst (GoesOn old new) (append-nil (ins got) ∙ ap ins (whole.answer.spelled ∙ ap (spelling version) is)) whole.heard,
        subst (λ (x : Message). IsTrue (fits version x)) is whole.answer.has_spelling,
      )

  -- a frame that came whole says what the other end holds
  pub says_held : (r : Result Message WireFault) (m : Message) → Did r → r ≡ Ok m → (held : Held) × (m ≡ messages.Held held)
  says_held r m did came =
      let whole : Did (Ok m) = subst Did came did in
      is_held m whole.answer.allowed

-- ---- the opening

module _ (version : Version) (depth : ℕ) (t : Tally) (old mid new : Option (List TalkEvent)) where
  -- a front of it was sent
  pub cut_short : (stop : PortStop) (status : AskStatus) → status ≡ of_link stop → (n : ℕ) → GoesOn old new (outs (take n (recall_bytes version depth t.count))) → OpensWith version depth t old new (Err status)
  cut_short stop status same n went = rw same (by_stop stop)
    where
      joined : recall_sent version depth t.count ≡ outs (take n (recall_bytes version depth t.count)) ++ outs (drop n (recall_bytes version depth t.count))
      joined = ap outs (sym (take-append-drop n (recall_bytes version depth t.count))) ∙ outs-append (take n (recall_bytes version depth t.count)) (drop n (recall_bytes version depth t.count))

      short : IsCutShort version depth t old new
      short = record { events = outs (take n (recall_bytes version depth t.count)); front = (outs (drop n (recall_bytes version depth t.count)), joined); talk = went }

      by_stop : (stop : PortStop) → OpensWith version depth t old new (Err (of_link stop))
      by_stop stops.Failed = inl short
      by_stop stops.OutOfMemory = inl short

  module _ (sent : GoesOn old mid (recall_sent version depth t.count)) where
    -- what is due behind it was not heard
    pub unheard_behind : (status : AskStatus) → HearsHeld version mid new (Err status) → OpensWith version depth t old new (Err status)
    unheard_behind statuses.PeerFault hears = inr (record { mid = mid; sent = sent; hears = hears })
    unheard_behind statuses.OutOfMemory hears = inr (record { mid = mid; sent = sent; hears = hears })
    unheard_behind (statuses.OutOfStep held kept) hears = absurd hears
    unheard_behind _ hears = record { mid = mid; sent = sent; hears = hears }
