-- What is kept of the queries of a run, one behind the other.
use Rattle.std.proofs.Common.{◌≡◌, ℕ, Option, Result, Ok, Err, List, [], ◌++◌, sym, ap, subst, ◌∙◌, append_assoc, append-nil, take}
use Rattle.sip_ports.specs.declared.port.PortStop.{PortStop}
use Rattle.sip_ports.specs.declared.port.PortStop.TheVariants as port_stops
use Rattle.sip_ports.specs.declared.port.TalkEvent.{TalkEvent}
use Rattle.sip_ports.specs.Ports.{GoesOn, SendsWhole, heard, outs}
use Rattle.sip_ports.proofs.DeskLemmas.{IsOfLink-append, IsOfLink-outs}
use Rattle.sip_ports.proofs.TalkLemmas.{GoesOn-refl, GoesOn-trans, heard-append, heard-outs, outs-append}
use Rattle.sip_wire.specs.declared.kind.Place.TheVariants as places
use Rattle.sip_wire.specs.declared.version.Version.{Version}
use Rattle.sip_replies.specs.Asking.{AreFrames}
use Rattle.sip_replies.proofs.Framed.{AreFrames-append, AreFrames-none}
use Rattle.sip_replies.proofs.Reading.{no_frame}
use Rattle.sip_verifier.specs.declared.asker.Unanswered.{Unanswered}
use Rattle.sip_verifier.specs.declared.asker.Unanswered.TheVariants as unanswered
use Rattle.sip_verifier.specs.declared.session.SessionFault.TheVariants as faults
use Rattle.sip_verifier.specs.declared.status.Port.TheVariants as ports
use Rattle.sip_verifier.specs.declared.status.Status.{Status}
use Rattle.sip_verifier.specs.declared.status.Status.TheVariants as statuses
use Rattle.sip_verifier.specs.inside.Ending.{status_of_link, status_of_report}
use Rattle.sip_verifier.specs.Keeping.{AllIsKept, FramesAreKept, FrontIsKept, KeepsTalk, WholeIsKept}
use Rattle.sip_verifier.specs.runs.Askers.{KeepsAsked}
use Rattle.sip_verifier.proofs.QueriesChecked.{OnLink, OnReport}

-- ---- one query

module _ (old new before now : Option (List TalkEvent)) where
  -- all of it is a front of it
  pub front_of_all : AllIsKept old new before now → FrontIsKept old new before now
  front_of_all a = record { said = a.said; link = a.link; talk = a.talk; wrote = (heard a.said, ([], sym (append-nil (heard a.said))), a.wrote) }

  module _ (version : Version) where
    -- whole frames are all
    pub all_of_whole : WholeIsKept old new before now version → AllIsKept old new before now
    all_of_whole w = record { said = w.said; link = w.link; talk = w.talk; wrote = w.wrote }

    -- and behind them nothing came
    pub frames_of_whole : WholeIsKept old new before now version → FramesAreKept old new before now version
    frames_of_whole w = record {
      said = w.said;
      link = w.link;
      talk = w.talk;
      wrote = record {
        whole = heard w.said;
        part = [];
        split = sym (append-nil (heard w.said));
        frames = w.frames;
        cut = (places.Entries, no_frame version places.Entries);
        kept = w.wrote;
      };
    }

    -- the line of a rejection was not written whole
    pub rejection_kept : (written : Result (Unit {0}) PortStop) (status : Status) → AllIsKept old new before now → OnReport written (Err status) → KeepsTalk old new before now version (Err status)
    rejection_kept written status a (port, is, so) =
        let at : KeepsTalk old new before now version (Err (status_of_report port)) = elim port as (λ p. KeepsTalk old new before now version (Err (status_of_report p))) [
          | port_stops.Failed ↦ a
          | port_stops.OutOfMemory ↦ front_of_all a
        ] in
        subst (λ (s : Status). KeepsTalk old new before now version (Err s)) (sym so) at

    -- the line of an answer was written, whole or not
    pub line_kept : (written : Result (Unit {0}) PortStop) (r : Result (Unit {0}) Status) → WholeIsKept old new before now version → OnReport written r → KeepsTalk old new before now version r
    line_kept written (Ok u) w on = w
    line_kept written (Err status) w on = rejection_kept written status (all_of_whole w) on

-- ---- all queries

-- before the first one
pub none_kept : (version : Version) (old before : Option (List TalkEvent)) → WholeIsKept old old before before version
none_kept version old before = record { said = []; link = tt; talk = GoesOn-refl old; frames = AreFrames-none version; wrote = GoesOn-refl before }

module _ (version : Version) (old mid new before during now : Option (List TalkEvent)) (a : WholeIsKept old mid before during version) where
  -- what was said then follows, and what was kept then
  talk_then : (said : List TalkEvent) → GoesOn mid new said → GoesOn old new (a.said ++ said)
  talk_then said went = GoesOn-trans old mid new a.said said a.talk went

  wrote_then : (bytes : List ℕ) → GoesOn during now (outs bytes) → GoesOn before now (outs (heard a.said ++ bytes))
  wrote_then bytes went = subst (GoesOn before now) (sym (outs-append (heard a.said) bytes)) (GoesOn-trans before during now (outs (heard a.said)) (outs bytes) a.wrote went)

  -- what is heard splits where that of the later part does
  split_then : (said : List TalkEvent) (part more : List ℕ) → heard said ≡ part ++ more → heard (a.said ++ said) ≡ (heard a.said ++ part) ++ more
  split_then said part more is = heard-append a.said said ∙ ap (λ (l : List ℕ). heard a.said ++ l) is ∙ sym (append_assoc (heard a.said) part more)

  all_then : AllIsKept mid new during now → AllIsKept old new before now
  all_then b = record {
    said = a.said ++ b.said;
    link = IsOfLink-append a.said b.said a.link b.link;
    talk = talk_then b.said b.talk;
    wrote = subst (λ (l : List ℕ). GoesOn before now (outs l)) (sym (heard-append a.said b.said)) (wrote_then (heard b.said) b.wrote);
  }

  pub whole_then : WholeIsKept mid new during now version → WholeIsKept old new before now version
  whole_then b =
      let both = sym (heard-append a.said b.said) in
      record {
        said = a.said ++ b.said;
        link = IsOfLink-append a.said b.said a.link b.link;
        talk = talk_then b.said b.talk;
        frames = subst (AreFrames version) both (AreFrames-append version (heard a.said) (heard b.said) a.frames b.frames);
        wrote = subst (λ (l : List ℕ). GoesOn before now (outs l)) both (wrote_then (heard b.said) b.wrote);
      }

  frames_then : FramesAreKept mid new during now version → FramesAreKept old new before now version
  frames_then f =
      let k = f.wrote in
      record {
        said = a.said ++ f.said;
        link = IsOfLink-append a.said f.said a.link f.link;
        talk = talk_then f.said f.talk;
        wrote = record {
          whole = heard a.said ++ k.whole;
          part = k.part;
          split = split_then f.said k.whole k.part k.split;
          frames = AreFrames-append version (heard a.said) k.whole a.frames k.frames;
          cut = k.cut;
          kept = wrote_then k.whole k.kept;
        };
      }

  front_then : FrontIsKept mid new during now → FrontIsKept old new before now
  front_then f =
      let (part, (more, is), wrote) = f.wrote in
      record {
        said = a.said ++ f.said;
        link = IsOfLink-append a.said f.said a.link f.link;
        talk = talk_then f.said f.talk;
        wrote = (heard a.said ++ part, (more, split_then f.said part more is), wrote_then part wrote);
      }

  -- and then the replies to one query
  pub asked_then : {G : Type 0} (r : Result G Unanswered) → KeepsAsked mid new during now version r → KeepsAsked old new before now version r
  asked_then (Ok given) k = whole_then k
  asked_then (Err (unanswered.Rejected round reason)) k = all_then k
  asked_then (Err (unanswered.Fault faults.PeerFault)) k = frames_then k
  asked_then (Err (unanswered.Fault faults.KeepFault)) k = front_then k
  asked_then (Err (unanswered.Fault faults.OutOfMemory)) k = front_then k

  -- and then one query more
  pub kept_then : (r : Result (Unit {0}) Status) → KeepsTalk mid new during now version r → KeepsTalk old new before now version r
  kept_then (Ok u) k = whole_then k
  kept_then (Err (statuses.Rejected query round reason)) k = all_then k
  kept_then (Err (statuses.WriteFault ports.First)) k = front_then k
  kept_then (Err (statuses.WriteFault ports.Second)) k = front_then k
  kept_then (Err (statuses.WriteFault ports.Report)) k = all_then k
  kept_then (Err (statuses.WriteFault ports.Keep)) k = front_then k
  kept_then (Err statuses.PeerFault) k = frames_then k
  kept_then (Err _) k = front_then k

-- ---- the farewell

module _ (version : Version) (old mid new before now : Option (List TalkEvent)) (a : WholeIsKept old mid before now version) where
  -- no byte is heard while these are sent
  whole_silent : (bytes : List ℕ) → GoesOn mid new (outs bytes) → WholeIsKept old new before now version
  whole_silent bytes went =
      let same = sym (heard-append a.said (outs bytes) ∙ ap (λ (l : List ℕ). heard a.said ++ l) (heard-outs bytes) ∙ append-nil (heard a.said)) in
      record {
        said = a.said ++ outs bytes;
        link = IsOfLink-append a.said (outs bytes) a.link (IsOfLink-outs bytes);
        talk = GoesOn-trans old mid new a.said (outs bytes) a.talk went;
        frames = subst (AreFrames version) same a.frames;
        wrote = subst (λ (l : List ℕ). GoesOn before now (outs l)) same a.wrote;
      }

  -- all were accepted, and the farewell was sent, or a front of it
  pub bye_kept : (sent : Result (Unit {0}) PortStop) (r : Result (Unit {0}) Status) (bytes : List ℕ) → SendsWhole mid new sent bytes → OnLink sent r → KeepsTalk old new before now version r
  bye_kept (Ok u) (Ok v) bytes went on = whole_silent bytes went
  bye_kept (Ok u) (Err status) bytes went (port, is, so) = absurd cc
  bye_kept (Err stop) (Ok v) bytes went on = absurd cc
  bye_kept (Err stop) (Err status) bytes (n, less, went) (port, is, so) =
      let w = whole_silent (take n bytes) went in
      let at : KeepsTalk old new before now version (Err (status_of_link port)) = elim port as (λ p. KeepsTalk old new before now version (Err (status_of_link p))) [
        | port_stops.Failed ↦ frames_of_whole old new before now version w
        | port_stops.OutOfMemory ↦ front_of_all old new before now (all_of_whole old new before now version w)
      ] in
      subst (λ (s : Status). KeepsTalk old new before now version (Err s)) (sym so) at
