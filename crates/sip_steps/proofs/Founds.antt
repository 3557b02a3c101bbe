-- What bytes say where a Found is awaited.
use Rattle.std.proofs.Common.{◌≡◌, ◌≢◌, ℕ, ◌+◌, ◌-◌, ◌≤◌, ◌++◌, Option, None, Some, Result, Ok, Err, List, [], ◌∷◌, length, take, drop, refl, sym, ap, subst, ◌∙◌, arith, append-nil, append_assoc, length-drop, take_all}
use lib.Seq.{take-add}
use Rattle.std.specs.Prelude.{IsTrue}
use Rattle.sip_ports.specs.declared.port.TalkEvent.{TalkEvent}
use Rattle.sip_ports.specs.Ports.{ins}
use Rattle.sip_vector.specs.Steps.{◌>>=◌}
use Rattle.sip_wire.specs.declared.kind.Place.TheVariants as places
use Rattle.sip_wire.specs.declared.message.Message.{Message}
use Rattle.sip_wire.specs.declared.message.Reason.{Reason}
use Rattle.sip_wire.specs.declared.message.Reason.TheVariants as reasons
use Rattle.sip_wire.specs.declared.message.WireFault.{WireFault}
use Rattle.sip_wire.specs.declared.message.WireFault.TheVariants as faults
use Rattle.sip_wire.specs.declared.version.Version.{Version}
use Rattle.sip_wire.specs.Decoding.{Took}
use Rattle.sip_wire.specs.Faults.{IsOfBytes}
use Rattle.sip_wire.specs.Reading.{read_frame}
use Rattle.sip_wire.specs.Spelling.{asked, fits, spelling}
use Rattle.sip_wire.specs.Taking.{ShowsFault}
use Rattle.sip_wire.proofs.ReadingLaws.{read_frame-short}
use Rattle.sip_replies.specs.Asking.{HasFault}
use Rattle.sip_replies.specs.Replies.{reason_of, reasoned}
use Rattle.sip_replies.proofs.Entering.{ending_none}
use Rattle.sip_replies.proofs.Framed.{AreFrames-one}
use Rattle.sip_lookup.specs.Frames.{found_in, found_message, read_found}
use Rattle.sip_lookup.specs.Hearing.{IsFound}
use Rattle.sip_lookup.proofs.FoundFrames.{found_is}
use Rattle.sip_lookup.proofs.FoundHeard.{fault_says, never_closed, place_says}
use Rattle.sip_steps.specs.Looked.{IsShown, SaysFound}

module _ (version : Version) (bytes : List ℕ) (most : length bytes ≤ asked version places.Found bytes) where
  -- no byte less shows it
  none_less : (front : List ℕ) (byte : ℕ) → bytes ≡ front ++ byte ∷ [] → read_found version front ≡ Err reasons.Closed
  none_less front byte e =
      fault_says version front reasons.Closed
      (ap reasoned (read_frame-short version places.Found front (byte ∷ []) (λ none. cc) (subst (λ (l : List ℕ). length l ≤ asked version places.Found l) e most)))

  -- a message came
  pub shown_message : (m : Message) → Took version places.Found bytes m → (said : Result (Option ℕ) Reason) → said ≡ found_in m → IsShown version bytes said
  shown_message m took said is = record {
    says = place_says version bytes m took.read ∙ ap (λ (place : Result (Option ℕ) Reason). ◌>>=◌ {B = Option ℕ × List ℕ} place (λ found. Ok (found, []))) (sym is);
    spelled = λ found ok.
        let own = found_is version m found took.has_spelling (sym is ∙ ok) in
        (subst (λ (x : Message). IsTrue (fits version x)) own took.has_spelling, took.spelled ∙ ap (spelling version) own);
    whole = λ closed. never_closed m reasons.Closed (sym is ∙ closed) refl;
    shortest = none_less;
  }

  -- they show a fault
  pub shown_fault : (fault : WireFault) → ShowsFault version places.Found bytes fault → IsShown version bytes (Err (reason_of fault))
  shown_fault fault shows = record {
    says = fault_says version bytes (reason_of fault) (ap reasoned shows.read);
    spelled = λ found ok. absurd cc;
    whole = open_fault fault shows.shown;
    shortest = none_less;
  }
    where
      open_fault : (fault : WireFault) → IsOfBytes fault → ◌≢◌ {A = Result (Option ℕ) Reason} (Err (reason_of fault)) (Err reasons.Closed)
      open_fault faults.BadKind of e = absurd cc
      open_fault faults.BadLength of e = absurd cc
      open_fault faults.BadCount of e = absurd cc
      open_fault faults.BadNumber of e = absurd cc
      open_fault faults.Closed of e = absurd of
      open_fault faults.PeerFault of e = absurd of
      open_fault faults.OutOfMemory of e = absurd of

-- behind what was said before, a Found came whole
pub found_came : (version : Version) (before : List TalkEvent) (bytes : List ℕ) (found : Option ℕ) → IsShown version bytes (Ok found) → IsFound version (Some before) (Some (before ++ ins bytes)) None None found
found_came version before bytes found s =
    let own = s.spelled found refl in
    record {
      came = record {
        bytes = bytes;
        heard = refl;
        kept = _;
        frames = AreFrames-one version (found_message found) bytes own.0 own.1;
        says = s.says;
        shortest = s.shortest;
      };
      spelled = own.1;
    }

-- or it has a fault
pub found_fault : (version : Version) (before : List TalkEvent) (bytes : List ℕ) (reason : Reason) → IsShown version bytes (Err reason) → HasFault version (read_found version) (Some before) (Some (before ++ ins bytes)) None None reason
found_fault version before bytes reason s = record {
  bytes = bytes;
  heard = ap (λ (l : List TalkEvent). before ++ l) (sym (append-nil (ins bytes)) ∙ ap (λ (l : List TalkEvent). ins bytes ++ l) (sym (ending_none reason (λ (same : reason ≡ reasons.Closed). s.whole (ap (λ (r : Reason). Err r) same)))));
  kept = _;
  says = s.says;
  shortest = λ front byte e other. s.shortest front byte e;
}

-- so many bytes more were taken
pub more_taken : (bytes before frame now : List ℕ) (a n : ℕ) → a ≤ length bytes → frame ≡ before ++ take a bytes → now ≡ frame ++ take n (take (length bytes - a) (drop a bytes)) → now ≡ before ++ take (a + n) bytes
more_taken bytes before frame now a n most so more =
    let rest : take (length bytes - a) (drop a bytes) ≡ drop a bytes = take_all (length bytes - a) (drop a bytes) (omega (arith, length-drop a bytes)) in
    more ∙ ap (λ (l : List ℕ). frame ++ take n l) rest ∙ ap (λ (l : List ℕ). l ++ take n (drop a bytes)) so
    ∙ append_assoc before (take a bytes) (take n (drop a bytes)) ∙ ap (λ (l : List ℕ). before ++ l) (sym (take-add a n bytes))

-- what is said by now is this
pub says_this : (version : Version) (bytes : List ℕ) (said this : Option (Result (Option ℕ) Reason)) → said ≡ this → SaysFound version bytes said → SaysFound version bytes this
says_this version bytes said this is says = subst (λ (s : Option (Result (Option ℕ) Reason)). SaysFound version bytes s) is says
