-- A reply of which some whole frames came: what the next frame does, and what it makes of the
-- reply.
use Rattle.std.proofs.Common.{◌≡◌, ℕ, inl, inr, Option, Result, Ok, Err, List, [], ◌∷◌, ◌++◌, refl, sym, ap, subst, ◌∙◌, append_assoc, append-nil}
use Rattle.std.specs.Prelude.{IsErrAnd}
use Rattle.std.proofs.lemmas.List.{map-append}
use Rattle.sip_ports.specs.declared.port.TalkEvent.{TalkEvent}
use Rattle.sip_ports.specs.declared.port.TalkEvent.TheVariants.{In, Out}
use Rattle.sip_ports.specs.Ports.{GoesOn, ins, outs}
use Rattle.sip_ports.proofs.TalkLemmas.{GoesOn-refl, GoesOn-trans}
use Rattle.sip_wire.specs.declared.message.Reason.{Reason}
use Rattle.sip_wire.specs.declared.message.Reason.TheVariants as reasons
use Rattle.sip_wire.specs.declared.version.Version.{Version}
use Rattle.sip_replies.specs.declared.taking.ReplyStop.{ReplyStop}
use Rattle.sip_replies.specs.declared.taking.ReplyStop.TheVariants as stops
use Rattle.sip_replies.specs.Talks.{ending}
use Rattle.sip_replies.specs.Replies.{MayEnd}
use Rattle.sip_replies.specs.Following.{Begun}
use Rattle.sip_replies.specs.Asking.{AreFrames, KeepsFrames, KeepsPart, HasFault, IsPart, IsUnkept, Takes}
use Rattle.sip_replies.proofs.Ends.{last_of, snoc_same, no_snoc}
use Rattle.sip_replies.proofs.Framed.{AreFrames-append, AreFrames-none}

-- nothing came so far
pub Begun-none : {X : Type 0} (read : List ℕ → Result X Reason) (old before : Option (List TalkEvent)) → Begun read old old before before read
Begun-none read old before = record {
  bytes = [];
  heard = GoesOn-refl old;
  kept = GoesOn-refl before;
  reads = λ more. refl;
  shortest = λ front byte e. absurd (no_snoc front byte e);
}

-- which is no frame
pub frames-none : {X : Type 0} (version : Version) (read : List ℕ → Result X Reason) (old before : Option (List TalkEvent)) → AreFrames version (Begun-none read old before).bytes
unfolding Begun-none
frames-none version read old before = AreFrames-none version

module _ {X : Type 0} (read : List ℕ → Result X Reason) (old mid new before during now : Option (List TalkEvent)) (rest : List ℕ → Result X Reason) (begun : Begun read old mid before during rest) (got : List ℕ) where
  -- what was heard of the reply, with the bytes that came now
  pub heard_more : (ended : List TalkEvent) → GoesOn mid new (ins got ++ ended) → GoesOn old new (ins (begun.bytes ++ got) ++ ended)
  heard_more ended heard =
      subst (GoesOn old new) (sym (append_assoc (ins begun.bytes) (ins got) ended) ∙ ap (λ (es : List TalkEvent). es ++ ended) (sym (map-append In begun.bytes got)))
      (GoesOn-trans old mid new (ins begun.bytes) (ins got ++ ended) begun.heard heard)

  -- where the end of the link was not found
  pub heard_all : GoesOn mid new (ins got) → GoesOn old new (ins (begun.bytes ++ got))
  heard_all heard = subst (GoesOn old new) (sym (map-append In begun.bytes got)) (GoesOn-trans old mid new (ins begun.bytes) (ins got) begun.heard heard)

  -- what was kept of the reply
  pub kept_all : GoesOn during now (outs got) → GoesOn before now (outs (begun.bytes ++ got))
  kept_all kept = subst (GoesOn before now) (sym (map-append Out begun.bytes got)) (GoesOn-trans before during now (outs begun.bytes) (outs got) begun.kept kept)

  -- where not all that came now was kept
  pub kept_part : KeepsPart during now got → KeepsPart before now (begun.bytes ++ got)
  kept_part (part, (more, all), kept) = (
    begun.bytes ++ part,
    (more, ap (λ (l : List ℕ). begun.bytes ++ l) all ∙ sym (append_assoc begun.bytes part more)),
    subst (GoesOn before now) (sym (map-append Out begun.bytes part)) (GoesOn-trans before during now (outs begun.bytes) (outs part) begun.kept kept),
  )

-- no byte less ends the reply or shows a fault, where none of what came now does
pub shortest_more : {X : Type 0} (read : List ℕ → Result X Reason) (old mid before during : Option (List TalkEvent)) (rest : List ℕ → Result X Reason) (begun : Begun read old mid before during rest) (got : List ℕ)
    → ((front : List ℕ) (byte : ℕ) → got ≡ front ++ byte ∷ [] → rest front ≡ Err reasons.Closed) → (front : List ℕ) (byte : ℕ) → begun.bytes ++ got ≡ front ++ byte ∷ [] → read front ≡ Err reasons.Closed
shortest_more read old mid before during rest begun [] shortest front byte e = begun.shortest front byte (sym (append-nil begun.bytes) ∙ e)
shortest_more read old mid before during rest begun (c ∷ cs) shortest front byte e =
    let last = last_of c cs in
    let same = snoc_same (begun.bytes ++ last.0) front last.1 byte (append_assoc begun.bytes last.0 (last.1 ∷ []) ∙ ap (λ (l : List ℕ). begun.bytes ++ l) (sym last.2) ∙ e) in
    ap read (sym same.0) ∙ begun.reads last.0 ∙ shortest last.0 last.1 last.2

-- a frame of which `one` says what it is; where it has a fault, so has the rest of the reply
module _ {X Y : Type 0} (version : Version) (read : List ℕ → Result X Reason) (old mid new before during now : Option (List TalkEvent)) (rest : List ℕ → Result X Reason) (begun : Begun read old mid before during rest)
    (one : List ℕ → Result Y Reason) (faults : (bytes : List ℕ) (reason : Reason) → one bytes ≡ Err reason → rest bytes ≡ Err reason) (whole : AreFrames version begun.bytes) where
  pub HasFault-more : (reason : Reason) → HasFault version one mid new during now reason → HasFault version read old new before now reason
  HasFault-more reason h = record {
    bytes = begun.bytes ++ h.bytes;
    heard = heard_more read old mid new before during now rest begun h.bytes (ending reason) h.heard;
    kept = kept_all read old mid new before during now rest begun h.bytes h.kept;
    says = begun.reads h.bytes ∙ faults h.bytes reason h.says;
    shortest = λ front byte e other. shortest_more read old mid before during rest begun h.bytes (λ f b same. faults f reasons.Closed (h.shortest f b same other)) front byte e;
  }

  frames_kept : (bytes : List ℕ) → KeepsFrames version during now bytes → KeepsFrames version before now (begun.bytes ++ bytes)
  frames_kept bytes k = record {
    whole = begun.bytes ++ k.whole;
    part = k.part;
    split = ap (λ (l : List ℕ). begun.bytes ++ l) k.split ∙ sym (append_assoc begun.bytes k.whole k.part);
    frames = AreFrames-append version begun.bytes k.whole whole k.frames;
    cut = k.cut;
    kept = subst (GoesOn before now) (sym (map-append Out begun.bytes k.whole)) (GoesOn-trans before during now (outs begun.bytes) (outs k.whole) begun.kept k.kept);
  }

  pub IsPart-more : IsPart version one mid new during now → IsPart version read old new before now
  IsPart-more p = record {
    bytes = begun.bytes ++ p.bytes;
    heard = heard_all read old mid new before during now rest begun p.bytes p.heard;
    kept = frames_kept p.bytes p.kept;
    says = begun.reads p.bytes ∙ faults p.bytes reasons.Closed p.says;
  }

  may_end : (bytes : List ℕ) (ended : List TalkEvent) → MayEnd (one bytes ≡ Err reasons.Closed) ended → MayEnd (read (begun.bytes ++ bytes) ≡ Err reasons.Closed) ended
  may_end bytes ended (inl none) = inl none
  may_end bytes ended (inr (found, part)) = inr (found, begun.reads bytes ∙ faults bytes reasons.Closed part)

  pub IsUnkept-more : IsUnkept version one mid new during now → IsUnkept version read old new before now
  IsUnkept-more u = record {
    bytes = begun.bytes ++ u.bytes;
    ended = u.ended;
    heard = heard_more read old mid new before during now rest begun u.bytes u.ended u.heard;
    may_end = may_end u.bytes u.ended u.may_end;
    kept = kept_part read old mid new before during now rest begun u.bytes u.kept;
    shortest = shortest_more read old mid before during rest begun u.bytes (λ f b same. faults f reasons.Closed (u.shortest f b same));
  }

  -- the frame was not taken, and so is the reply
  Takes-more : {T V : Type 0} (Stood : T → Y → Type 0) (Stands : V → X → Type 0) (stop : ReplyStop) → Takes version one mid new during now Stood (Err stop) → Takes version read old new before now Stands (Err stop)
  Takes-more Stood Stands (stops.Faulty reason) took = HasFault-more reason took
  Takes-more Stood Stands stops.PeerFault took = IsPart-more took
  Takes-more Stood Stands stops.KeepFault took = IsUnkept-more took
  Takes-more Stood Stands stops.OutOfMemory took = IsPart-more took
  Takes-more Stood Stands stops.KeepOutOfMemory took = IsUnkept-more took

  -- so where the frame was not taken
  pub Takes-stopped : {T V : Type 0} (Stood : T → Y → Type 0) (Stands : V → X → Type 0) (stop : ReplyStop) → Takes version one mid new during now Stood (Err stop)
      → (result : Result V ReplyStop) → IsErrAnd result (λ other. other ≡ stop) → Takes version read old new before now Stands result
  Takes-stopped Stood Stands stop took (Ok x) is = absurd is
  Takes-stopped Stood Stands stop took (Err other) is = rw is (Takes-more Stood Stands stop took)
