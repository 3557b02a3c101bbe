-- Receiving one frame and keeping its bytes.
use Rattle.std.proofs.Common.{◌≡◌, ◌≢◌, ℕ, inl, inr, Option, Result, Ok, Err, List, [], ◌∷◌, ◌++◌, ◌<◌, length, take, drop, refl, sym, ap, subst, append-nil}
use Rattle.std.specs.Prelude.{IsErrAnd, MatchResult}
use Rattle.std.proofs.lemmas.List.{take-append-drop}
use Rattle.sip_ports.specs.declared.port.PortStop.{PortStop}
use Rattle.sip_ports.specs.declared.port.PortStop.TheVariants as ports
use Rattle.sip_ports.specs.declared.port.TalkEvent.{TalkEvent}
use Rattle.sip_ports.specs.Ports.{GoesOn, ins, outs}
use Rattle.sip_ports.proofs.TalkLemmas.{GoesOn-refl}
use Rattle.sip_wire.specs.declared.kind.Place.{Place}
use Rattle.sip_wire.specs.declared.message.Message.{Message}
use Rattle.sip_wire.specs.declared.message.Reason.TheVariants as reasons
use Rattle.sip_wire.specs.declared.message.WireFault.{WireFault}
use Rattle.sip_wire.specs.declared.message.WireFault.TheVariants as faults
use Rattle.sip_wire.specs.declared.version.Version.{Version}
use Rattle.sip_wire.specs.Faults.{ended_by}
use Rattle.sip_wire.specs.Decoding.{Decodes, Fails, Took}
use Rattle.sip_wire.specs.Reading.{read_frame}
use Rattle.sip_replies.specs.declared.taking.ReplyStop.{ReplyStop}
use Rattle.sip_replies.specs.Replies.{MayEnd, reasoned, read_one}
use Rattle.sip_replies.specs.Asking.{Came, stop_of_keeper, KeepsPart, IsPart, IsUnkept, Shows, Takes, filled}
use Rattle.sip_replies.proofs.Framed.{AreFrames-none, AreFrames-one}

module _ (version : Version) (place : Place) (old new before now : Option (List TalkEvent)) (rose risen : ℕ) (got : List ℕ) where
  -- where the end of the link was found the frame is not whole
  may_end : (r : Result Message WireFault) → Decodes version place old new rose risen got r → MayEnd (read_one version place got ≡ Err reasons.Closed) (ended_by r)
  may_end (Ok m) did = inl refl
  may_end (Err faults.Closed) did = inr (refl, ap reasoned did.answer)
  may_end (Err faults.BadKind) did = inl refl
  may_end (Err faults.BadLength) did = inl refl
  may_end (Err faults.BadCount) did = inl refl
  may_end (Err faults.BadNumber) did = inl refl
  may_end (Err faults.PeerFault) did = inl refl
  may_end (Err faults.OutOfMemory) did = inl refl

  some_byte : (byte : ℕ) → byte ∷ [] ≢ []
  some_byte byte e = cc

  module _ (r : Result Message WireFault) (did : Decodes version place old new rose risen got r) where
    -- no byte less shows what the frame is
    pub shortest : (front : List ℕ) (byte : ℕ) → got ≡ front ++ byte ∷ [] → read_one version place front ≡ Err reasons.Closed
    shortest front byte e = ap reasoned (did.short front (byte ∷ []) e (some_byte byte))

    -- the frame came with a message, and was kept whole
    pub Came-received : (m : Message) → r ≡ Ok m → GoesOn before now (outs got) → (said : Message × List ℕ) × Came version (read_one version place) old new before now said × Shows version m said
    Came-received m is kept =
        let took : Took version place got m = subst (λ (x : Result Message WireFault). MatchResult x (Took version place got) (Fails version place got rose risen)) is did.answer in
        let heard : GoesOn old new (ins got ++ []) = subst (λ (x : Result Message WireFault). GoesOn old new (ins got ++ ended_by x)) is did.heard in (
          (m, []),
          record {
            bytes = got;
            heard = subst (λ (events : List TalkEvent). GoesOn old new events) (append-nil (ins got)) heard;
            kept = kept;
            frames = AreFrames-one version m got took.has_spelling took.spelled;
            says = ap reasoned took.read;
            shortest = shortest;
          },
          record { is = refl; has_spelling = took.has_spelling; in_range = took.in_range },
        )

    -- the frame came, and was not kept whole
    pub IsUnkept-received : KeepsPart before now got → IsUnkept version (read_one version place) old new before now
    IsUnkept-received kept = record {
      bytes = got;
      ended = ended_by r;
      heard = did.heard;
      may_end = may_end r did;
      kept = kept;
      shortest = shortest;
    }

    -- the keeper stopped
    pub Takes-unkept : (port : PortStop) → ((n : ℕ) × (n < length got) × GoesOn before now (outs (take n got))) → (message : Message) (result : Result Unit ReplyStop) → IsErrAnd result (λ stop. stop ≡ stop_of_keeper port) → Takes version (read_one version place) old new before now (Shows version) (filled message result)
    Takes-unkept port (n, less, part) message (Ok _) is = absurd is
    Takes-unkept ports.Failed (n, less, part) message (Err stop) is = rw is (IsUnkept-received (take n got, (drop n got, sym (take-append-drop n got)), part))
    Takes-unkept ports.OutOfMemory (n, less, part) message (Err stop) is = rw is (IsUnkept-received (take n got, (drop n got, sym (take-append-drop n got)), part))

-- the link stopped inside the frame, and nothing was kept
module _ (version : Version) (place : Place) (old new before : Option (List TalkEvent)) (rose risen : ℕ) (got : List ℕ) where
  stopped : GoesOn old new (ins got ++ []) → read_frame version place got ≡ Err faults.Closed → IsPart version (read_one version place) old new before before
  stopped heard closed = record {
    bytes = got;
    heard = subst (λ (events : List TalkEvent). GoesOn old new events) (append-nil (ins got)) heard;
    kept = record { whole = []; part = got; split = refl; frames = AreFrames-none version; cut = (place, closed); kept = GoesOn-refl before };
    says = ap reasoned closed;
  }

  pub IsPart-failed : Decodes version place old new rose risen got (Err faults.PeerFault) → IsPart version (read_one version place) old new before before
  IsPart-failed did = stopped did.heard did.answer.0

  pub IsPart-no_memory : Decodes version place old new rose risen got (Err faults.OutOfMemory) → IsPart version (read_one version place) old new before before
  IsPart-no_memory did = stopped did.heard did.answer
