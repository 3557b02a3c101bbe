-- What was heard for a lookup was kept: its Found, and then the replies about its interval.
use Rattle.std.proofs.Common.{◌≡◌, ℕ, ℤ, Option, Result, Ok, Err, List, [], ◌++◌, inl, inr, refl, sym, ap, subst, ◌∙◌, append-nil}
use Rattle.sip_ports.specs.declared.port.PortStop.{PortStop}
use Rattle.sip_ports.specs.declared.port.PortStop.TheVariants as port_stops
use Rattle.sip_ports.specs.declared.port.TalkEvent.{TalkEvent}
use Rattle.sip_ports.specs.Ports.{GoesOn, Rose, heard, ins, outs}
use Rattle.sip_ports.proofs.DeskLemmas.{IsOfLink-append, IsOfLink-ins, IsOfLink-outs}
use Rattle.sip_ports.proofs.TalkLemmas.{GoesOn-refl, heard-append, heard-ins, heard-outs}
use Rattle.sip_wire.specs.declared.message.Reason.{Reason}
use Rattle.sip_wire.specs.declared.version.Version.{Version}
use Rattle.sip_replies.specs.Asking.{AreFrames, HasFault, IsPart, IsUnkept, KeepsFrames, KeepsPart}
use Rattle.sip_replies.specs.Talks.{ending}
use Rattle.sip_replies.proofs.Framed.{AreFrames-none}
use Rattle.sip_verifier.specs.declared.asker.Unanswered.{Unanswered}
use Rattle.sip_verifier.specs.declared.asker.Unanswered.TheVariants as unanswered
use Rattle.sip_verifier.specs.declared.session.SessionFault.{SessionFault}
use Rattle.sip_verifier.specs.declared.session.SessionFault.TheVariants as faults
use Rattle.sip_verifier.specs.declared.session.Verdict.{Verdict}
use Rattle.sip_verifier.specs.declared.session.Verdict.TheVariants as verdicts
use Rattle.sip_verifier.specs.AskClause.{AskClause, came_of}
use Rattle.sip_verifier.specs.Keeping.{AllIsKept, FramesAreKept, FrontIsKept, WholeIsKept}
use Rattle.sip_verifier.specs.runs.Askers.{KeepsAsked}
use Rattle.sip_verifier.specs.Snapshots.{SinkState, between}
use Rattle.sip_verifier.proofs.KeptAsks.{fault_keeps}
use Rattle.sip_verifier.proofs.KeptQueries.{all_of_whole, asked_then, frames_of_whole, front_of_all, whole_then}
use Rattle.sip_verifier.proofs.KeptReplies.{heard-ended, heard-ending}
use Rattle.sip_verifier.proofs.TalksOfLink.{ended_of_link, ending_of_link}
use Rattle.sip_lookup.specs.Frames.{read_found}
use Rattle.sip_lookup.specs.Hearing.{HearsFound, IsFound, stop_of_link}

module _ (version : Version) where
  -- ---- the Ask

  -- no byte is heard while some are sent
  pub sent_kept : (old mid before : Option (List TalkEvent)) (bytes : List ℕ) → GoesOn old mid (outs bytes) → WholeIsKept old mid before before version
  sent_kept old mid before bytes went = record {
    said = outs bytes;
    link = IsOfLink-outs bytes;
    talk = went;
    frames = subst (AreFrames version) (sym (heard-outs bytes)) (AreFrames-none version);
    wrote = subst (λ (l : List ℕ). GoesOn before before (outs l)) (sym (heard-outs bytes)) (GoesOn-refl before);
  }

  module _ (old new before now : Option (List TalkEvent)) where
    -- ---- the Found

    pub found_kept : (found : Option ℕ) → IsFound version old new before now found → WholeIsKept old new before now version
    found_kept found f =
        let c = f.came in
        let same = sym (heard-ins c.bytes) in
        record {
          said = ins c.bytes;
          link = IsOfLink-ins c.bytes;
          talk = c.heard;
          frames = subst (AreFrames version) same c.frames;
          wrote = subst (λ (l : List ℕ). GoesOn before now (outs l)) same c.kept;
        }

    -- what is heard up to an end in which nothing is
    heard_to : (bytes : List ℕ) (end : List TalkEvent) → heard end ≡ [] → bytes ≡ heard (ins bytes ++ end)
    heard_to bytes end none =
        sym (heard-append (ins bytes) end ∙ ap (λ (l : List ℕ). l ++ heard end) (heard-ins bytes) ∙ ap (λ (l : List ℕ). bytes ++ l) none ∙ append-nil bytes)

    faulty_kept : (reason : Reason) → HasFault version (read_found version) old new before now reason → AllIsKept old new before now
    faulty_kept reason h = record {
      said = ins h.bytes ++ ending reason;
      link = IsOfLink-append (ins h.bytes) (ending reason) (IsOfLink-ins h.bytes) (ending_of_link reason);
      talk = h.heard;
      wrote = subst (λ (l : List ℕ). GoesOn before now (outs l)) (heard_to h.bytes (ending reason) (heard-ending reason)) h.kept;
    }

    part_kept : IsPart version (read_found version) old new before now → FramesAreKept old new before now version
    part_kept p = record { said = ins p.bytes; link = IsOfLink-ins p.bytes; talk = p.heard; wrote = subst (KeepsFrames version before now) (sym (heard-ins p.bytes)) p.kept }

    part_front : IsPart version (read_found version) old new before now → FrontIsKept old new before now
    part_front p = record {
      said = ins p.bytes;
      link = IsOfLink-ins p.bytes;
      talk = p.heard;
      wrote = subst (KeepsPart before now) (sym (heard-ins p.bytes)) (p.kept.whole, (p.kept.part, p.kept.split), p.kept.kept);
    }

    unkept_front : IsUnkept version (read_found version) old new before now → FrontIsKept old new before now
    unkept_front u = record {
      said = ins u.bytes ++ u.ended;
      link = IsOfLink-append (ins u.bytes) u.ended (IsOfLink-ins u.bytes) (ended_of_link u.ended u.may_end);
      talk = u.heard;
      wrote = subst (KeepsPart before now) (heard_to u.bytes u.ended (heard-ended u.ended u.may_end)) u.kept;
    }

  -- ---- one part of the talk behind another

  module _ (old mid new before during now : Option (List TalkEvent)) (a : WholeIsKept old mid before during version) where
    behind_it : {G : Type 0} (r : Result G Unanswered) → KeepsAsked mid new during now version r → KeepsAsked old new before now version r
    behind_it r k = asked_then version old mid new before during now a r k

    -- a Found that gives a place, behind the Ask
    pub found_then : (found : Option ℕ) → IsFound version mid new during now found → WholeIsKept old new before now version
    found_then found f = whole_then version old mid new before during now a (found_kept mid new during now found f)

    -- a Found that gives no place
    pub unheard_kept : (G : Type 0) (stop : Unanswered) → HearsFound version mid new during now (Err stop) → KeepsAsked old new before now version {G = G} (Err stop)
    unheard_kept G (unanswered.Rejected round reason) h = behind_it {G = G} (Err (unanswered.Rejected round reason)) (faulty_kept mid new during now reason h.1)
    unheard_kept G (unanswered.Fault faults.PeerFault) h = behind_it {G = G} (Err (unanswered.Fault faults.PeerFault)) (part_kept mid new during now h)
    unheard_kept G (unanswered.Fault faults.KeepFault) h = behind_it {G = G} (Err (unanswered.Fault faults.KeepFault)) (unkept_front mid new during now h)
    unheard_kept G (unanswered.Fault faults.OutOfMemory) (inl p) = behind_it {G = G} (Err (unanswered.Fault faults.OutOfMemory)) (part_front mid new during now p)
    unheard_kept G (unanswered.Fault faults.OutOfMemory) (inr u) = behind_it {G = G} (Err (unanswered.Fault faults.OutOfMemory)) (unkept_front mid new during now u)

    -- the replies about its interval, which came to this
    pub result_kept : (r came : Result Verdict SessionFault) → r ≡ came → KeepsAsked mid new during now version (came_of r) → KeepsAsked old new before now version (came_of came)
    result_kept r came is k = behind_it (came_of came) (subst (λ (x : Result Verdict SessionFault). KeepsAsked mid new during now version (came_of x)) is k)

    pub not_alone_kept : (r : Result Verdict SessionFault) → r ≡ Ok verdicts.Pairs → KeepsAsked mid new during now version (came_of r) → AllIsKept old new before now
    not_alone_kept r is k = all_of_whole old new before now version (result_kept r (Ok verdicts.Pairs) is k)

    pub number_kept : (r : Result Verdict SessionFault) (n : ℤ) → r ≡ Ok (verdicts.Number n) → KeepsAsked mid new during now version (came_of r) → AllIsKept old new before now
    number_kept r n is k = all_of_whole old new before now version (result_kept r (Ok (verdicts.Number n)) is k)

    pub stopped_kept : (G : Type 0) (r : Result Verdict SessionFault) (fault : SessionFault) → r ≡ Err fault → KeepsAsked mid new during now version (came_of r)
        → KeepsAsked old new before now version {G = G} (Err (unanswered.Fault fault))
    stopped_kept G r fault is k = by_fault fault (result_kept r (Err fault) is k)
      where
        by_fault : (f : SessionFault) → KeepsAsked old new before now version (came_of (Err f)) → KeepsAsked old new before now version {G = G} (Err (unanswered.Fault f))
        by_fault faults.PeerFault k = k
        by_fault faults.KeepFault k = k
        by_fault faults.OutOfMemory k = k

-- ---- all that is kept

-- the link stopped while the Ask was sent
pub link_keeps : {G : Type 0} (version : Version) (old new before now : SinkState) (port : PortStop) → WholeIsKept old.told new.told before.told now.told version
    → (port ≡ port_stops.Failed → Rose old.faults new.faults) → (port ≡ port_stops.OutOfMemory → Rose old.wants new.wants)
    → AskClause {G = G} version (between old new) (between before now) (Err (stop_of_link port))
link_keeps version old new before now port_stops.Failed w failed wanted =
    fault_keeps version old new before now faults.PeerFault (frames_of_whole old.told new.told before.told now.told version w) (λ is. failed refl) (λ is. absurd cc) (λ is. absurd cc)
link_keeps version old new before now port_stops.OutOfMemory w failed wanted =
    fault_keeps version old new before now faults.OutOfMemory (front_of_all old.told new.told before.told now.told (all_of_whole old.told new.told before.told now.told version w))
    (λ is. absurd cc) (λ is. absurd cc) (λ is. inl (wanted refl))
