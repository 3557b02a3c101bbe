-- What receiving a Found did, from what receiving one frame did and what was kept of it.
use Rattle.std.proofs.Common.{◌≡◌, ◌≢◌, ℕ, false, inl, inr, Option, Result, Ok, Err, List, [], ◌∷◌, ◌++◌, ◌<◌, length, take, drop, refl, sym, ap, subst, ◌∙◌, append-nil}
use Rattle.std.specs.Prelude.{IsErrAnd, IsTrue, MatchResult}
use Rattle.std.proofs.lemmas.List.{take-append-drop}
use Rattle.sip_ports.specs.declared.port.PortStop.{PortStop}
use Rattle.sip_ports.specs.declared.port.PortStop.TheVariants as ports
use Rattle.sip_ports.specs.declared.port.TalkEvent.{TalkEvent}
use Rattle.sip_ports.specs.Ports.{GoesOn, ins, outs}
use Rattle.sip_vector.specs.Steps.{◌>>=◌}
use Rattle.sip_wire.specs.declared.kind.Place.TheVariants as places
use Rattle.sip_wire.specs.declared.message.Message.{Message}
use Rattle.sip_wire.specs.declared.message.Message.TheVariants as messages
use Rattle.sip_wire.specs.declared.message.Reason.{Reason}
use Rattle.sip_wire.specs.declared.message.Reason.TheVariants as reasons
use Rattle.sip_wire.specs.declared.message.WireFault.{WireFault}
use Rattle.sip_wire.specs.declared.message.WireFault.TheVariants as faults
use Rattle.sip_wire.specs.declared.version.Version.{Version}
use Rattle.sip_wire.specs.Decoding.{Decodes, Fails, Took}
use Rattle.sip_wire.specs.Faults.{ended_by}
use Rattle.sip_wire.specs.Reading.{read_frame}
use Rattle.sip_wire.specs.Spelling.{spelling}
use Rattle.sip_replies.specs.Replies.{MayEnd, reason_of, reasoned, read_one}
use Rattle.sip_replies.specs.Asking.{HasFault, IsPart, IsUnkept}
use Rattle.sip_replies.specs.Talks.{ending}
use Rattle.sip_replies.proofs.Entering.{ending_none}
use Rattle.sip_replies.proofs.Framed.{AreFrames-one}
use Rattle.sip_replies.proofs.Receiving.{IsPart-failed, IsPart-no_memory, IsUnkept-received}
use Rattle.sip_verifier.specs.declared.asker.Unanswered.{Unanswered}
use Rattle.sip_verifier.specs.declared.asker.Unanswered.TheVariants as unanswered
use Rattle.sip_lookup.specs.Frames.{found_in, read_found}
use Rattle.sip_lookup.specs.Hearing.{HearsFound, IsFound, is_of_link, stop_of_found, stop_of_keeper}
use Rattle.sip_lookup.proofs.FoundFrames.{found_is}

-- ---- what bytes say where a Found is awaited

-- a frame's fault is that of the Found
pub fault_says : (version : Version) (bytes : List ℕ) (reason : Reason) → read_one version places.Found bytes ≡ Err reason → read_found version bytes ≡ Err reason
unfolding read_found
fault_says version bytes reason e = ap (λ (r : Result (Message × List ℕ) Reason). r >>= λ frame. (found_in frame.0 >>= λ place. Ok (place, frame.1))) e

-- a message says what it names
pub place_says : (version : Version) (bytes : List ℕ) (m : Message) → read_frame version places.Found bytes ≡ Ok (m, []) → read_found version bytes ≡ (found_in m >>= λ place. Ok (place, []))
unfolding read_found
place_says version bytes m e = ap (λ (r : Result (Message × List ℕ) WireFault). reasoned r >>= λ frame. (found_in frame.0 >>= λ place. Ok (place, frame.1))) e

-- why a message names no place, it is not that the link ended
pub never_closed : (m : Message) (reason : Reason) → found_in m ≡ Err reason → reason ≢ reasons.Closed
never_closed (messages.Found flag index) reason e closed = absurd cc
never_closed (messages.Refuse code) reason e closed =
    let same : reasons.Refused code ≡ reason = cc in
    let no = same ∙ closed in cc
never_closed _ reason e closed =
    let same : reasons.BadKind ≡ reason = cc in
    let no = same ∙ closed in cc

-- ---- a Found that is not whole, or was not kept

module _ (version : Version) (old new before now : Option (List TalkEvent)) where
  part_found : IsPart version (read_one version places.Found) old new before now → IsPart version (read_found version) old new before now
  part_found p = record { bytes = p.bytes; heard = p.heard; kept = p.kept; says = fault_says version p.bytes reasons.Closed p.says }

  end_found : (bytes : List ℕ) (ended : List TalkEvent) → MayEnd (read_one version places.Found bytes ≡ Err reasons.Closed) ended → MayEnd (read_found version bytes ≡ Err reasons.Closed) ended
  end_found bytes ended (inl none) = inl none
  end_found bytes ended (inr (is, closed)) = inr (is, fault_says version bytes reasons.Closed closed)

  unkept_found : IsUnkept version (read_one version places.Found) old new before now → IsUnkept version (read_found version) old new before now
  unkept_found u = record {
    bytes = u.bytes;
    ended = u.ended;
    heard = u.heard;
    may_end = end_found u.bytes u.ended u.may_end;
    kept = u.kept;
    shortest = λ front byte e. fault_says version front reasons.Closed (u.shortest front byte e);
  }

-- the link stopped inside it
module _ (version : Version) (old new before : Option (List TalkEvent)) (rose risen : ℕ) (got : List ℕ) where
  pub link_stopped : (r : Result Message WireFault) → Decodes version places.Found old new rose risen got r → (fault : WireFault) → r ≡ Err fault → IsTrue (is_of_link fault)
      → (result : Result (Option ℕ) Unanswered) → IsErrAnd result (λ stop. stop ≡ stop_of_found fault) → HearsFound version old new before before result
  link_stopped r did fault is link result stop = by_fault fault (subst (Decodes version places.Found old new rose risen got) is did) link result stop
    where
      by_fault : (fault : WireFault) → Decodes version places.Found old new rose risen got (Err fault) → IsTrue (is_of_link fault) → (result : Result (Option ℕ) Unanswered) → IsErrAnd result (λ stop. stop ≡ stop_of_found fault)
          → HearsFound version old new before before result
      by_fault fault did link (Ok found) stop = absurd stop
      by_fault faults.PeerFault did link (Err x) stop = rw stop (part_found version old new before before (IsPart-failed version places.Found old new before rose risen got did))
      by_fault faults.OutOfMemory did link (Err x) stop = rw stop (inl (part_found version old new before before (IsPart-no_memory version places.Found old new before rose risen got did)))
      by_fault _ did link (Err x) stop = absurd (let no = link in cc)

-- ---- a frame that came

module _ (version : Version) (old new before now : Option (List TalkEvent)) (rose risen : ℕ) (got : List ℕ) (r : Result Message WireFault)
    (did : Decodes version places.Found old new rose risen got r) where
  -- no byte less shows what it is
  shortest : (front : List ℕ) (byte : ℕ) → got ≡ front ++ byte ∷ [] → read_found version front ≡ Err reasons.Closed
  shortest front byte e = fault_says version front reasons.Closed (ap reasoned (did.short front (byte ∷ []) e (λ none. cc)))

  -- it was not kept whole
  unkept : (n : ℕ) → GoesOn before now (outs (take n got)) → IsUnkept version (read_found version) old new before now
  unkept n part = unkept_found version old new before now (IsUnkept-received version places.Found old new before now rose risen got r did (take n got, (drop n got, sym (take-append-drop n got)), part))

  pub keeper_stopped : (port : PortStop) → ((n : ℕ) × (n < length got) × GoesOn before now (outs (take n got))) → (result : Result (Option ℕ) Unanswered) → IsErrAnd result (λ stop. stop ≡ stop_of_keeper port)
      → HearsFound version old new before now result
  keeper_stopped port (n, less, part) (Ok _) is = absurd is
  keeper_stopped ports.Failed (n, less, part) (Err stop) is = rw is (unkept n part)
  keeper_stopped ports.OutOfMemory (n, less, part) (Err stop) is = rw is (inr (unkept n part))

  module _ (kept : GoesOn before now (outs got)) where
    -- it has a fault
    has_fault : (fault : WireFault) → read_frame version places.Found got ≡ Err fault → GoesOn old new (ins got ++ ending (reason_of fault)) → HasFault version (read_found version) old new before now (reason_of fault)
    has_fault fault read heard = record {
      bytes = got;
      heard = heard;
      kept = kept;
      says = fault_says version got (reason_of fault) (ap reasoned read);
      shortest = λ front byte e other. shortest front byte e;
    }

    fault_came : (fault : WireFault) → Fails version places.Found got rose risen fault → GoesOn old new (ins got ++ ended_by {T = Message} (Err fault)) → is_of_link fault ≡ false
        → (result : Result (Option ℕ) Unanswered) → IsErrAnd result (λ stop. stop ≡ stop_of_found fault) → HearsFound version old new before now result
    fault_came fault read heard link (Ok _) is = absurd is
    fault_came faults.Closed read heard link (Err stop) is = rw is (refl, has_fault faults.Closed read heard)
    fault_came faults.BadKind read heard link (Err stop) is = rw is (refl, has_fault faults.BadKind read heard)
    fault_came faults.BadLength read heard link (Err stop) is = rw is (refl, has_fault faults.BadLength read heard)
    fault_came faults.BadCount read heard link (Err stop) is = rw is (refl, has_fault faults.BadCount read heard)
    fault_came faults.BadNumber read heard link (Err stop) is = rw is (refl, has_fault faults.BadNumber read heard)
    fault_came faults.PeerFault read heard link (Err stop) is = absurd (let no = link in cc)
    fault_came faults.OutOfMemory read heard link (Err stop) is = absurd (let no = link in cc)

    pub fault_kept : (fault : WireFault) → r ≡ Err fault → is_of_link fault ≡ false
        → (result : Result (Option ℕ) Unanswered) → IsErrAnd result (λ stop. stop ≡ stop_of_found fault) → HearsFound version old new before now result
    fault_kept fault is link result stop =
        fault_came fault
        (subst (λ (x : Result Message WireFault). MatchResult x (Took version places.Found got) (Fails version places.Found got rose risen)) is did.answer)
        (subst (λ (x : Result Message WireFault). GoesOn old new (ins got ++ ended_by x)) is did.heard) link result stop

    -- it has a message
    module _ (m : Message) (is : r ≡ Ok m) where
      took : Took version places.Found got m
      took = subst (λ (x : Result Message WireFault). MatchResult x (Took version places.Found got) (Fails version places.Found got rose risen)) is did.answer

      heard : GoesOn old new (ins got)
      heard = subst (GoesOn old new) (append-nil (ins got)) (subst (λ (x : Result Message WireFault). GoesOn old new (ins got ++ ended_by x)) is did.heard)

      names : (found : Option ℕ) → found_in m ≡ Ok found → IsFound version old new before now found
      names found e = record {
        came = record {
          bytes = got;
          heard = heard;
          kept = kept;
          frames = AreFrames-one version m got took.has_spelling took.spelled;
          says = place_says version got m took.read ∙ ap (λ (place : Result (Option ℕ) Reason). place >>= λ x. Ok (x, [])) e;
          shortest = shortest;
        };
        spelled = took.spelled ∙ ap (spelling version) (found_is version m found took.has_spelling e);
      }

      names_none : (reason : Reason) → found_in m ≡ Err reason → HasFault version (read_found version) old new before now reason
      names_none reason e = record {
        bytes = got;
        heard = subst (GoesOn old new) (sym (append-nil (ins got)) ∙ ap (λ (events : List TalkEvent). ins got ++ events) (sym (ending_none reason (never_closed m reason e)))) heard;
        kept = kept;
        says = place_says version got m took.read ∙ ap (λ (place : Result (Option ℕ) Reason). ◌>>=◌ {B = Option ℕ × List ℕ} place (λ x. Ok (x, []))) e;
        shortest = λ front byte e other. shortest front byte e;
      }

      pub place_kept : (result : Result (Option ℕ) Unanswered) → MatchResult result (λ found. found_in m ≡ Ok found)
          (λ stop. (reason : Reason) × (found_in m ≡ Err reason) × (stop ≡ unanswered.Rejected 0 reason)) → HearsFound version old new before now result
      place_kept (Ok found) e = names found e
      place_kept (Err stop) (reason, e, same) = rw same (refl, names_none reason e)
