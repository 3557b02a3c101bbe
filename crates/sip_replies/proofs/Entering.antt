-- Taking one reply frame by frame.
use Rattle.std.proofs.Common.{◌≡◌, ◌≢◌, ℕ, Option, Result, Ok, Err, List, [], ◌∷◌, ◌++◌, refl, sym, ap, subst, ◌∙◌, append_assoc, append-nil}
use Rattle.std.specs.Prelude.{IsErrAnd}
use Rattle.sip_ports.specs.declared.port.TalkEvent.{TalkEvent}
use Rattle.sip_ports.specs.Ports.{GoesOn, ins, outs}
use Rattle.sip_wire.specs.declared.kind.Place.{Place}
use Rattle.sip_wire.specs.declared.message.Message.{Message}
use Rattle.sip_wire.specs.declared.message.Reason.{Reason}
use Rattle.sip_wire.specs.declared.message.Reason.TheVariants as reasons
use Rattle.sip_wire.specs.declared.message.WireFault.{WireFault}
use Rattle.sip_wire.specs.declared.version.Version.{Version}
use Rattle.sip_wire.specs.Reading.{read_frame}
use Rattle.sip_wire.proofs.ReadingLaws.{read_frame-append}
use Rattle.sip_replies.specs.declared.check.More.{More}
use Rattle.sip_replies.specs.declared.check.More.TheVariants as mores
use Rattle.sip_replies.specs.declared.taking.ReplyStop.{ReplyStop}
use Rattle.sip_replies.specs.declared.taking.ReplyStop.TheVariants as stops
use Rattle.sip_replies.specs.Protocols.{Rules}
use Rattle.sip_replies.specs.Replies.{reason_of, reasoned, read_one, frame_says, read_reply}
use Rattle.sip_replies.specs.Checks.{Steps}
use Rattle.sip_replies.specs.Talks.{ending}
use Rattle.sip_replies.specs.Asking.{AreFrames, Shows, Came, HasFault, Takes}
use Rattle.sip_replies.proofs.Framed.{AreFrames-append}
use Rattle.sip_replies.proofs.Reading.{read_reply-frame, read_reply-step}
use Rattle.sip_replies.specs.Following.{Entered}
use Rattle.sip_replies.proofs.Begun.{Begun-none, frames-none, heard_all, kept_all, shortest_more}

-- ---- one frame

-- what a frame says is read off its bytes
reasoned_ok : {X : Type 0} (r : Result X WireFault) (x : X) → reasoned r ≡ Ok x → r ≡ Ok x
reasoned_ok (Ok y) x e = let same : y ≡ x = cc in ap (λ z. Ok z) same
reasoned_ok (Err fault) x e = absurd cc

says_fault : {S : Type 0} (R : Rules S) (s : S) (r : Result (Message × List ℕ) WireFault) (reason : Reason) → reasoned r ≡ Err reason → frame_says R (read_reply R) s r ≡ Err reason
says_fault R s (Ok frame) reason e = absurd cc
says_fault R s (Err fault) reason e = let same : reason_of fault ≡ reason = cc in ap (λ (r : Reason). Err r) same

-- a frame's fault is that of the reply
pub frame_faults : {S : Type 0} (R : Rules S) (s : S) (version : Version) (place : Place) → R.version ≡ version → place ≡ R.place s
    → (bytes : List ℕ) (reason : Reason) → read_one version place bytes ≡ Err reason → read_reply R s bytes ≡ Err reason
frame_faults R s version place same at bytes reason e =
    read_reply-frame R s bytes
    ∙ ap (λ (v : Version). frame_says R (read_reply R) s (read_frame v (R.place s) bytes)) same
    ∙ ap (λ (p : Place). frame_says R (read_reply R) s (read_frame version p bytes)) (sym at)
    ∙ says_fault R s (read_frame version place bytes) reason e

-- a message that was received is read off its bytes, whatever follows them
message_says : {S : Type 0} (R : Rules S) (s : S) (version : Version) (place : Place) → R.version ≡ version → place ≡ R.place s
    → (bytes more : List ℕ) (m : Message) (said : Message × List ℕ) → said ≡ (m, []) → read_one version place bytes ≡ Ok said → read_frame R.version (R.place s) (bytes ++ more) ≡ Ok (m, more)
message_says R s version place same at bytes more m said is e =
    let here : read_frame version place bytes ≡ Ok (m, []) = reasoned_ok (read_frame version place bytes) (m, []) (e ∙ ap (λ (x : Message × List ℕ). Ok x) is) in
    ap (λ (v : Version). read_frame v (R.place s) (bytes ++ more)) same
    ∙ ap (λ (p : Place). read_frame version p (bytes ++ more)) (sym at)
    ∙ read_frame-append version place bytes more m [] here

pub ending_none : (reason : Reason) → reason ≢ reasons.Closed → ending reason ≡ []
ending_none reasons.Closed other = absurd (other refl)
ending_none _ other = refl

-- what a step gave, by what the check answered
pub stepped_due : {S : Type 0} (r : Result (More × S) Reason) (Stands : S → Type 0) (more : More) → Steps r Stands (Ok more) → (t : S) × (r ≡ Ok (more, t)) × Stands t
stepped_due (Ok x) Stands more steps = let same : x.0 ≡ more = (let e = steps.0 in cc) in (x.1, ap (λ (m : More). Ok (m, x.1)) same, steps.1)
stepped_due (Err reason) Stands more steps = absurd cc

pub stepped_err : {S : Type 0} (r : Result (More × S) Reason) (Stands : S → Type 0) (reason : Reason) → Steps r Stands (Err reason) → r ≡ Err reason
stepped_err (Ok x) Stands reason steps = let e = steps.0 in absurd cc
stepped_err (Err other) Stands reason steps = let same : reason ≡ other = cc in ap (λ (x : Reason). Err x) (sym same)

pub stepped : {S : Type 0} (r : Result (More × S) Reason) (Stands : S → Type 0) (more : More) → Steps r Stands (Ok more) → (t : S) × Stands t
stepped r Stands more steps = let due = stepped_due r Stands more steps in (due.0, due.2)

-- ---- a reply from its start `from`, of which the state is `s` by now

pub Entered-none : {S : Type 0} (R : Rules S) (from : S) (old before : Option (List TalkEvent)) (Stands : S → Type 0) → Stands from → Entered R from old old before before Stands
Entered-none R from old before Stands stands = record { state = from; begun = Begun-none (read_reply R from) old before; frames = frames-none R.version (read_reply R from) old before; stands = stands }

module _ {S : Type 0} (R : Rules S) (from : S) (old mid new before during now : Option (List TalkEvent)) (Stood : S → Type 0) (entered : Entered R from old mid before during Stood)
    (version : Version) (same : R.version ≡ version) (place : Place) (at : place ≡ R.place entered.state) (m : Message) (said : Message × List ℕ)
    (came : Came version (read_one version place) mid new during now said) (shows : Shows version m said) where
  whole : (more : List ℕ) → read_frame R.version (R.place entered.state) (came.bytes ++ more) ≡ Ok (m, more)
  whole more = message_says R entered.state version place same at came.bytes more m said shows.is came.says

  read : read_frame R.version (R.place entered.state) came.bytes ≡ Ok (m, [])
  read = ap (read_frame R.version (R.place entered.state)) (sym (append-nil came.bytes)) ∙ whole []

  shortest : (front : List ℕ) (byte : ℕ) → entered.begun.bytes ++ came.bytes ≡ front ++ byte ∷ [] → read_reply R from front ≡ Err reasons.Closed
  shortest = shortest_more (read_reply R from) old mid before during (read_reply R entered.state) entered.begun came.bytes
      (λ front byte e. frame_faults R entered.state version place same at front reasons.Closed (came.shortest front byte e))

  kept : GoesOn before now (outs (entered.begun.bytes ++ came.bytes))
  kept = kept_all (read_reply R from) old mid new before during now (read_reply R entered.state) entered.begun came.bytes came.kept

  heard : GoesOn old new (ins (entered.begun.bytes ++ came.bytes))
  heard = heard_all (read_reply R from) old mid new before during now (read_reply R entered.state) entered.begun came.bytes came.heard

  frames : AreFrames R.version (entered.begun.bytes ++ came.bytes)
  frames = AreFrames-append R.version entered.begun.bytes came.bytes entered.frames (subst (λ (v : Version). AreFrames v came.bytes) (sym same) came.frames)

  -- the check refused it
  HasFault-refused : (reason : Reason) → R.step entered.state m ≡ Err reason → reason ≢ reasons.Closed → HasFault R.version (read_reply R from) old new before now reason
  HasFault-refused reason is other = record {
    bytes = entered.begun.bytes ++ came.bytes;
    heard = subst (GoesOn old new) (sym (append-nil (ins (entered.begun.bytes ++ came.bytes))) ∙ ap (λ (es : List TalkEvent). ins (entered.begun.bytes ++ came.bytes) ++ es) (sym (ending_none reason other))) heard;
    kept = kept;
    says = entered.begun.reads came.bytes ∙ read_reply-step R entered.state came.bytes [] m (Err reason) read is;
    shortest = λ front byte e closed. shortest front byte e;
  }

  pub Takes-refused : {T : Type 0} (Stands : T → S → Type 0) (result : Result T ReplyStop) (reason : Reason) → R.step entered.state m ≡ Err reason → reason ≢ reasons.Closed
      → IsErrAnd result (λ stop. stop ≡ stops.Faulty reason) → Takes R.version (read_reply R from) old new before now Stands result
  Takes-refused Stands (Ok x) reason is other stop = absurd stop
  Takes-refused Stands (Err y) reason is other stop = rw stop (HasFault-refused reason is other)

  -- it ends the reply
  pub Came-complete : (t : S) → R.step entered.state m ≡ Ok (mores.Complete, t) → Came R.version (read_reply R from) old new before now t
  Came-complete t is = record {
    bytes = entered.begun.bytes ++ came.bytes;
    heard = heard;
    kept = kept;
    frames = frames;
    says = entered.begun.reads came.bytes ∙ read_reply-step R entered.state came.bytes [] m (Ok (mores.Complete, t)) read is;
    shortest = shortest;
  }

  -- the reply goes on behind it
  pub Entered-due : (Stands : S → Type 0) (t : S) → R.step entered.state m ≡ Ok (mores.Due, t) → Stands t → Entered R from old new before now Stands
  Entered-due Stands t is stands = record {
    state = t;
    begun = record {
      bytes = entered.begun.bytes ++ came.bytes;
      heard = heard;
      kept = kept;
      reads = λ more.
          ap (read_reply R from) (append_assoc entered.begun.bytes came.bytes more)
          ∙ entered.begun.reads (came.bytes ++ more)
          ∙ read_reply-step R entered.state (came.bytes ++ more) more m (Ok (mores.Due, t)) (whole more) is;
      shortest = shortest;
    };
    frames = frames;
    stands = stands;
  }
