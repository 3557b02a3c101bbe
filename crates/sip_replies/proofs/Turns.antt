-- The turn of one query, reply by reply, whatever its protocol.
use Rattle.std.proofs.Common.{◌≡◌, inl, inr, ℕ, suc, ◌+◌, ◌-◌, ◌<◌, Option, Result, Ok, Err, List, [], ◌∷◌, ◌++◌, length, drop, refl, sym, ap, subst, ◌∙◌, arith, append_assoc, append-nil, length-append}
use Rattle.std.specs.Prelude.{None, IsErrAnd, slice_index}
use Rattle.std.proofs.Math.Seq.{drop-cons}
use Rattle.std.proofs.lemmas.List.{map-append}
use Rattle.sip_ports.specs.declared.port.TalkEvent.{TalkEvent}
use Rattle.sip_ports.specs.declared.port.TalkEvent.TheVariants.{Out}
use Rattle.sip_ports.specs.Ports.{GoesOn, ins, outs}
use Rattle.sip_ports.proofs.TalkLemmas.{GoesOn-trans}
use Rattle.sip_vector.specs.declared.update.Entry.{Entry}
use Rattle.sip_vector.specs.Steps.{◌>>=◌}
use Rattle.sip_wire.specs.declared.message.Message.{Message}
use Rattle.sip_wire.specs.declared.message.Message.TheVariants as messages
use Rattle.sip_wire.specs.declared.message.Reason.{Reason}
use Rattle.sip_wire.specs.declared.message.Reason.TheVariants as reasons
use Rattle.sip_wire.specs.Spelling.{spelling}
use Rattle.sip_replies.specs.declared.check.Said.{Said}
use Rattle.sip_replies.specs.declared.asking.AskStop.{AskStop}
use Rattle.sip_replies.specs.declared.taking.ReplyStop.{ReplyStop}
use Rattle.sip_replies.specs.declared.taking.ReplyStop.TheVariants as reply_stops
use Rattle.sip_replies.specs.Protocols.{Protocol}
use Rattle.sip_replies.specs.Replies.{Fault, MayEnd, in_round, joined, learnt, read_reply, run, verdict, IsUnfinished}
use Rattle.sip_replies.specs.Talks.{ending, sent, asked}
use Rattle.sip_replies.specs.Asking.{AreFrames, KeepsFrames, KeepsPart, stop_in_round, Came, HasFault, IsPart, IsUnkept, Takes, IsRejected, IsInterrupted, IsUnrecorded, Answers}
use Rattle.sip_replies.specs.Following.{IsShort, Ready, Going}
use Rattle.sip_replies.proofs.Ends.{snoc_same}
use Rattle.sip_replies.proofs.Framed.{AreFrames-append}
use Rattle.sip_replies.proofs.Running.{run-fault, run-whole}
use Rattle.sip_replies.proofs.Hearing.{heard-asked}
use Rattle.sip_replies.proofs.Saying.{joined-snoc, sent-one, asked-snoc}

pub Ready-later : {S : Type 0} (P : Protocol S) (request : Message) (block : List ℕ) (old mid new before during : Option (List TalkEvent)) (count : ℕ) (Stands : S → Type 0) (going : Going P request block old mid before during count Stands)
    → GoesOn mid new (outs (spelling P.rules.version (messages.Reveal (slice_index block (count - 1))))) → count < length block → Ready P request block old new before during going.replies (P.rules.learn going.state (slice_index block (count - 1)))
Ready-later P request block old mid new before during count Stands going talk lt = record {
  said = asked P.rules.version request block going.replies ++ sent P.rules.version (messages.Reveal (slice_index block (count - 1)) ∷ []);
  talk = GoesOn-trans old mid new _ _ going.talk (subst (GoesOn mid new) (sym (sent-one P.rules.version (messages.Reveal (slice_index block (count - 1))))) talk);
  kept = going.kept;
  frames = going.frames;
  order = λ bytes. asked-snoc P.rules.version request going.replies block (count - 1) bytes (omega (arith, going.counted, going.some)) (omega (arith, going.some));
  passed = going.passed;
  few = omega (arith, going.counted);
}

-- ---- a reply that came

pub same_fault : {X : Type 0} (a b : Fault) → ◌≡◌ {A = Result X Fault} (Err a) (Err b) → a ≡ b
same_fault a b e = cc

verdict-fault : {S : Type 0} (P : Protocol S) (block : List ℕ) (replies : List (List ℕ)) (fault : Fault) → run P.rules block replies ≡ Err fault → verdict P block replies ≡ Err fault
verdict-fault P block replies fault is = ap (λ (r : Result _ Fault). r >>= λ s. in_round (length block) (P.finish s)) is

-- a reply that is not whole yet leaves the replies unfinished
pub closed_next : {S : Type 0} (P : Protocol S) (block : List ℕ) (replies : List (List ℕ)) (s : S) → run P.rules block replies ≡ Ok s → length replies < length block → (bytes : List ℕ) → read_reply P.rules s bytes ≡ Err reasons.Closed → IsUnfinished P.rules block (replies ++ bytes ∷ [])
closed_next {S} P block replies s passed few bytes says =
    let is = run-fault P.rules block replies s passed bytes reasons.Closed says in
    record {
      few = omega (arith, length-append replies (bytes ∷ []), few);
      passes = λ fault e.
          let same : fault ≡ record { round = length replies; reason = reasons.Closed } = same_fault {X = S} fault (record { round = length replies; reason = reasons.Closed }) (sym e ∙ is) in
          let count : suc (length replies) ≡ length (replies ++ bytes ∷ []) = omega (arith, length-append replies (bytes ∷ [])) in
          (ap (λ (f : Fault). f.reason) same, ap (λ (f : Fault). suc f.round) same ∙ count);
    }

module _ {S : Type 0} (P : Protocol S) (due : P.unasked ≡ None) (request : Message) (block : List ℕ) (old mid new before during now : Option (List TalkEvent)) (replies : List (List ℕ)) (s : S) (ready : Ready P request block old mid before during replies s) where
  came_talk : (bytes : List ℕ) (ended : List TalkEvent) → GoesOn mid new (ins bytes ++ ended) → GoesOn old new (asked P.rules.version request block (replies ++ bytes ∷ []) ++ ended)
  came_talk bytes ended heard =
      subst (GoesOn old new) (sym (append_assoc ready.said (ins bytes) ended) ∙ ap (λ (l : List TalkEvent). l ++ ended) (sym (ready.order bytes))) (GoesOn-trans old mid new ready.said (ins bytes ++ ended) ready.talk heard)

  came_whole : (bytes : List ℕ) → GoesOn mid new (ins bytes) → GoesOn old new (asked P.rules.version request block (replies ++ bytes ∷ []))
  came_whole bytes heard = subst (GoesOn old new) (append-nil (asked P.rules.version request block (replies ++ bytes ∷ []))) (came_talk bytes [] (subst (GoesOn mid new) (sym (append-nil (ins bytes))) heard))

  kept_whole : (bytes : List ℕ) → GoesOn during now (outs bytes) → GoesOn before now (outs (joined (replies ++ bytes ∷ [])))
  kept_whole bytes kept =
      subst (GoesOn before now) (sym (map-append Out (joined replies) bytes) ∙ ap outs (sym (joined-snoc replies bytes))) (GoesOn-trans before during now (outs (joined replies)) (outs bytes) ready.kept kept)

  kept_part : (bytes : List ℕ) → KeepsPart during now bytes → KeepsPart before now (joined (replies ++ bytes ∷ []))
  kept_part bytes (part, (more, all), kept) = (
    joined replies ++ part,
    (more, joined-snoc replies bytes ∙ ap (λ (l : List ℕ). joined replies ++ l) all ∙ sym (append_assoc (joined replies) part more)),
    subst (GoesOn before now) (sym (map-append Out (joined replies) part)) (GoesOn-trans before during now (outs (joined replies)) (outs part) ready.kept kept),
  )

  frames_kept : (bytes : List ℕ) → KeepsFrames P.rules.version during now bytes → KeepsFrames P.rules.version before now (joined (replies ++ bytes ∷ []))
  frames_kept bytes k = record {
    whole = joined replies ++ k.whole;
    part = k.part;
    split = joined-snoc replies bytes ∙ ap (λ (l : List ℕ). joined replies ++ l) k.split ∙ sym (append_assoc (joined replies) k.whole k.part);
    frames = AreFrames-append P.rules.version (joined replies) k.whole ready.frames k.frames;
    cut = k.cut;
    kept = subst (GoesOn before now) (sym (map-append Out (joined replies) k.whole)) (GoesOn-trans before during now (outs (joined replies)) (outs k.whole) ready.kept k.kept);
  }

  shortest_next : (bytes : List ℕ) → ((front : List ℕ) (byte : ℕ) → bytes ≡ front ++ byte ∷ [] → read_reply P.rules s front ≡ Err reasons.Closed) → IsShort P block (replies ++ bytes ∷ [])
  shortest_next bytes short earlier front byte e =
      let same = snoc_same replies earlier bytes (front ++ byte ∷ []) e in
      subst (λ (l : List (List ℕ)). run P.rules block (l ++ front ∷ []) ≡ Err (record { round = length l; reason = reasons.Closed })) same.0 (run-fault P.rules block replies s ready.passed front reasons.Closed (short front byte same.1))

  -- the reply has a fault
  pub IsRejected-reply : (reason : Reason) → HasFault P.rules.version (read_reply P.rules s) mid new during now reason → IsRejected P request block old new before now (length replies) reason
  IsRejected-reply reason h = record {
    replies = replies ++ h.bytes ∷ [];
    talk = came_talk h.bytes (ending reason) h.heard;
    kept = kept_whole h.bytes h.kept;
    faulty = record {
      asked = due;
      taken = omega (arith, length-append replies (h.bytes ∷ []), ready.few);
      found = verdict-fault P block (replies ++ h.bytes ∷ []) _ (run-fault P.rules block replies s ready.passed h.bytes reason h.says);
      shortest = λ earlier front byte e closed. shortest_next h.bytes (λ f b same. h.shortest f b same closed) earlier front byte e;
    };
  }

  -- the reply is a part
  IsInterrupted-reply : IsPart P.rules.version (read_reply P.rules s) mid new during now → IsInterrupted P request block old new before now
  IsInterrupted-reply p = record {
    due = due;
    replies = replies ++ p.bytes ∷ [];
    said = asked P.rules.version request block (replies ++ p.bytes ∷ []);
    talk = came_whole p.bytes p.heard;
    order = ([], sym (append-nil (asked P.rules.version request block (replies ++ p.bytes ∷ []))));
    kept = subst (KeepsFrames P.rules.version before now) (sym (heard-asked P.rules.version request block (replies ++ p.bytes ∷ []) (omega (arith, length-append replies (p.bytes ∷ []), ready.few)))) (frames_kept p.bytes p.kept);
    unfinished = closed_next P block replies s ready.passed ready.few p.bytes p.says;
    missing = inr (record { round = length replies; reason = reasons.Closed }, run-fault P.rules block replies s ready.passed p.bytes reasons.Closed p.says);
  }

  may_end : (bytes : List ℕ) (ended : List TalkEvent) → MayEnd (read_reply P.rules s bytes ≡ Err reasons.Closed) ended
      → MayEnd (run P.rules block (replies ++ bytes ∷ []) ≡ Err (record { round = length replies; reason = reasons.Closed })) ended
  may_end bytes ended (inl none) = inl none
  may_end bytes ended (inr (found, part)) = inr (found, run-fault P.rules block replies s ready.passed bytes reasons.Closed part)

  -- what came of the reply was not kept
  IsUnrecorded-reply : IsUnkept P.rules.version (read_reply P.rules s) mid new during now → IsUnrecorded P request block old new before now
  IsUnrecorded-reply u = record {
    replies = replies ++ u.bytes ∷ [];
    ended = u.ended;
    talk = came_talk u.bytes u.ended u.heard;
    kept = kept_part u.bytes u.kept;
    unjudged = record {
      asked = due;
      earlier = replies;
      last = u.bytes;
      taken = refl;
      few = ready.few;
      passed = rw ready.passed refl;
      shortest = λ front byte e. run-fault P.rules block replies s ready.passed front reasons.Closed (u.shortest front byte e);
      may_end = may_end u.bytes u.ended u.may_end;
    };
  }

  -- the call that took the reply had no answer
  pub Answers-reply : (round : ℕ) {T : Type 0} (Stands : T → S → Type 0) (taken : Result T ReplyStop) (places : List Entry) (result : Result Said AskStop) (stop : AskStop) → round ≡ length replies → IsErrAnd result (λ other. other ≡ stop)
      → (of_reply : ReplyStop) × (taken ≡ Err of_reply) × (stop ≡ stop_in_round round of_reply) → Takes P.rules.version (read_reply P.rules s) mid new during now Stands taken → Answers P request block old new before now places result
  Answers-reply round Stands taken places (Ok x) stop count is of_reply took = absurd is
  Answers-reply round Stands taken places (Err other) stop count is (reply_stops.Faulty reason, e, so) took = rw (is, so, count) (IsRejected-reply reason (rw e at took))
  Answers-reply round Stands taken places (Err other) stop count is (reply_stops.PeerFault, e, so) took = rw (is, so) (IsInterrupted-reply (rw e at took))
  Answers-reply round Stands taken places (Err other) stop count is (reply_stops.KeepFault, e, so) took = rw (is, so) (IsUnrecorded-reply (rw e at took))
  Answers-reply round Stands taken places (Err other) stop count is (reply_stops.OutOfMemory, e, so) took = rw (is, so) (IsInterrupted-reply (rw e at took))
  Answers-reply round Stands taken places (Err other) stop count is (reply_stops.KeepOutOfMemory, e, so) took = rw (is, so) (IsUnrecorded-reply (rw e at took))

  -- one reply more
  pub Going-next : (count : ℕ) (Stands : S → Type 0) (t : S) → length replies + 1 ≡ count → Came P.rules.version (read_reply P.rules s) mid new during now t → Stands t → Going P request block old new before now count Stands
  Going-next count Stands t counted came stands = record {
    replies = replies ++ came.bytes ∷ [];
    state = t;
    counted = omega (arith, length-append replies (came.bytes ∷ []));
    some = omega arith;
    within = omega (arith, ready.few);
    passed =
        let at : drop (length replies) block ≡ slice_index block (length replies) ∷ drop (suc (length replies)) block = drop-cons block (length replies) 0 ready.few in
        let index : length replies ≡ count - 1 = omega arith in
        run-whole P.rules block replies s ready.passed came.bytes t came.says
        ∙ ap (λ (l : List ℕ). Ok (learnt P.rules l t)) at
        ∙ ap (λ (k : ℕ). Ok (P.rules.learn t (slice_index block k))) index;
    shortest = shortest_next came.bytes came.shortest;
    talk = came_whole came.bytes came.heard;
    kept = kept_whole came.bytes came.kept;
    frames = subst (AreFrames P.rules.version) (sym (joined-snoc replies came.bytes)) (AreFrames-append P.rules.version (joined replies) came.bytes ready.frames came.frames);
    stands = stands;
  }
