-- The talk of a stream that is sent frame by frame, at each step and where it stopped.
use Rattle.std.proofs.Common.{◌≡◌, ℕ, ◌+◌, ◌%◌, ◌<◌, Bool, true, false, List, [], ◌∷◌, ◌++◌, length, take, refl, sym, ap, ◌∙◌, subst, arith, append_assoc, append-nil, length-append}
use Rattle.std.specs.Prelude.{Result, Ok, Err, MatchResult, if◌then◌else◌}
use Rattle.std.specs.declared.option.Option.{Option}
use Rattle.std.proofs.lemmas.Bool.Decides.{Decides-eqb, nat_tests}
use Rattle.sip_wire.specs.Versions.{number_of}
use Rattle.sip_wire.specs.declared.version.Version.{Version}
use Rattle.sip_ports.specs.declared.port.PortStop.{PortStop}
use Rattle.sip_ports.specs.declared.port.TalkEvent.{TalkEvent}
use Rattle.sip_ports.specs.Ports.{GoesOn, SendsWhole, outs}
use Rattle.sip_ports.proofs.TalkLemmas.{GoesOn-trans}
use Rattle.sip_vector.specs.declared.update.Update.{Update}
use Rattle.sip_wire.specs.declared.message.Message.TheVariants as messages
use Rattle.sip_wire.specs.Spelling.{spelling}
use Rattle.sip_replies.specs.Talks.{IsPrefix}
use Rattle.sip_verifier.specs.Feeding.{due_at_end}
use Rattle.sip_verifier.specs.Feeding.{fills, due_with, waiting_with}
use Rattle.sip_verifier.specs.inside.Passing.{taken_with}
use Rattle.sip_verifier.specs.inside.Sending.{IsSentBut, IsStopped, IsStoppedAtEnd}
use Rattle.sip_verifier.specs.Talks.{whole_frames, opening_sent, stream_sent}
use Rattle.sip_replies.proofs.Saying.{sent-one}
use Rattle.sip_verifier.proofs.StreamSent.{IsPrefix-trans, frame, sent_front, sent_short, opening_sent-frame, opening_sent-front, stream_sent-rest}

module _ (version : Version) (depth : ℕ) (start : Option (List TalkEvent)) where
  -- the opening was sent
  pub opened : (new : Option (List TalkEvent)) → GoesOn start new (outs (spelling version (messages.Open (number_of version) depth))) → IsSentBut version depth start new [] []
  opened new went = record {
    sent = [];
    order = refl;
    whole = refl;
    few = omega arith;
    talk = subst (GoesOn start new) (sym (sent-one version (messages.Open (number_of version) depth))) went;
  }

  -- the opening was cut short
  pub stopped_in_opening : (new : Option (List TalkEvent)) (n : ℕ) → GoesOn start new (outs (take n (spelling version (messages.Open (number_of version) depth)))) → IsStopped version depth start new []
  stopped_in_opening new n went = record {
    said = outs (take n (spelling version (messages.Open (number_of version) depth)));
    talk = went;
    order = subst (IsPrefix (outs (take n (spelling version (messages.Open (number_of version) depth))))) (sym (sent-one version (messages.Open (number_of version) depth))) (sent_front [] (spelling version (messages.Open (number_of version) depth)) n);
  }

  -- what waits stays behind
  pub stopped : (now : Option (List TalkEvent)) (stream waiting : List Update) → IsSentBut version depth start now stream waiting → IsStopped version depth start now stream
  stopped now stream waiting so = record {
    said = opening_sent version depth so.sent;
    talk = so.talk;
    order = subst (λ l. IsPrefix (opening_sent version depth so.sent) (opening_sent version depth (whole_frames l))) (sym so.order) (opening_sent-front version depth so.sent waiting so.whole);
  }

  -- one more update comes
  module _ (now new : Option (List TalkEvent)) (stream waiting : List Update) (u : Update) (so : IsSentBut version depth start now stream waiting) where
    longer : stream ++ u ∷ [] ≡ so.sent ++ (waiting ++ u ∷ [])
    longer = ap (λ l. l ++ u ∷ []) so.order ∙ append_assoc so.sent waiting (u ∷ [])

    full : length waiting + 1 ≡ 512 → length (so.sent ++ (waiting ++ u ∷ [])) % 512 ≡ 0
    full fill = let had = so.whole in omega (arith, length-append so.sent (waiting ++ u ∷ []), length-append waiting (u ∷ []))

    size : length (waiting ++ u ∷ []) ≡ length waiting + 1
    size = length-append waiting (u ∷ [])

    -- it waits too
    waits : length waiting + 1 < 512 → GoesOn now new [] → IsSentBut version depth start new (stream ++ u ∷ []) (waiting ++ u ∷ [])
    waits few went = record {
      sent = so.sent;
      order = longer;
      whole = so.whole;
      few = omega (arith, size);
      talk = subst (GoesOn start new) (append-nil (opening_sent version depth so.sent)) (GoesOn-trans start now new (opening_sent version depth so.sent) [] so.talk went);
    }

    -- the frame is full, and was sent
    frame_sent : length waiting + 1 ≡ 512 → GoesOn now new (outs (spelling version (frame (waiting ++ u ∷ [])))) → IsSentBut version depth start new (stream ++ u ∷ []) []
    frame_sent fill went = record {
      sent = so.sent ++ (waiting ++ u ∷ []);
      order = longer ∙ sym (append-nil (so.sent ++ (waiting ++ u ∷ [])));
      whole = full fill;
      few = omega arith;
      talk = subst (GoesOn start new) (sym (opening_sent-frame version depth so.sent (waiting ++ u ∷ []) so.whole (omega (arith, size)) (omega (arith, size))))
          (GoesOn-trans start now new (opening_sent version depth so.sent) (outs (spelling version (frame (waiting ++ u ∷ [])))) so.talk went);
    }

    -- the frame is full, and was cut short
    frame_cut : (n : ℕ) → length waiting + 1 ≡ 512 → GoesOn now new (outs (take n (spelling version (frame (waiting ++ u ∷ []))))) → IsStopped version depth start new (stream ++ u ∷ [])
    frame_cut n fill went =
        let all = so.sent ++ (waiting ++ u ∷ []) in
        let said = opening_sent version depth so.sent ++ outs (take n (spelling version (frame (waiting ++ u ∷ [])))) in
        let front : IsPrefix said (opening_sent version depth all) = subst (IsPrefix said) (sym (opening_sent-frame version depth so.sent (waiting ++ u ∷ []) so.whole (omega (arith, size)) (omega (arith, size)))) (sent_front (opening_sent version depth so.sent) (spelling version (frame (waiting ++ u ∷ []))) n) in
        let alone : IsPrefix (opening_sent version depth all) (opening_sent version depth (whole_frames all)) = subst (λ l. IsPrefix (opening_sent version depth all) (opening_sent version depth (whole_frames l))) (append-nil all) (opening_sent-front version depth all [] (full fill)) in
        record {
          said = said;
          talk = GoesOn-trans start now new (opening_sent version depth so.sent) (outs (take n (spelling version (frame (waiting ++ u ∷ []))))) so.talk went;
          order = subst (λ l. IsPrefix said (opening_sent version depth (whole_frames l))) (sym longer) (IsPrefix-trans _ _ _ front alone);
        }

    -- All but what waits now was sent. What was sent then is what the seats had taken, and this.
    pub record IsPassedOn (taken waiting' : List Update) : Type 0 where
      pub said : IsSentBut version depth start new (stream ++ u ∷ []) waiting'
      pub longer : said.sent ≡ so.sent ++ taken

    -- what was sent of it, by whether it fills the frame
    abbrev Comes : Result (Unit {0}) PortStop → Bool → Type 0
    Comes r fill = SendsWhole now new r (if fill then spelling version (frame (waiting ++ u ∷ [])) else [])
        → MatchResult r (λ _. IsPassedOn (if fill then waiting ++ u ∷ [] else []) (if fill then [] else waiting ++ u ∷ [])) (λ _. IsStopped version depth start new (stream ++ u ∷ []))

    comes : (r : Result (Unit {0}) PortStop) (fill : Bool) → fills waiting ≡ fill → Comes r fill
    unfolding waits frame_sent
    comes (Ok x) true is = λ went. record { said = frame_sent ((Decides-eqb (length waiting + 1) 512).0 is) went; longer = refl }
    comes (Err e) true is = λ went. frame_cut went.0 ((Decides-eqb (length waiting + 1) 512).0 is) went.2
    comes (Ok x) false is = λ went. let few = so.few in record { said = waits (grind (arith, nat_tests)) went; longer = sym (append-nil so.sent) }
    comes (Err e) false is = λ went. absurd (omega (arith, went.1))

    -- it waits, or the frame that it fills was sent or cut short
    pub one_more : (r : Result (Unit {0}) PortStop) → SendsWhole now new r (due_with version waiting u)
        → MatchResult r (λ _. IsPassedOn (taken_with waiting u) (waiting_with waiting u)) (λ _. IsStopped version depth start new (stream ++ u ∷ []))
    one_more r = comes r (fills waiting) refl

  -- the rest and the end were sent, or cut short
  pub at_end : (now new : Option (List TalkEvent)) (stream waiting : List Update) (r : Result (Unit {0}) PortStop) → IsSentBut version depth start now stream waiting → SendsWhole now new r (due_at_end version waiting)
      → MatchResult r (λ _. GoesOn start new (stream_sent version depth stream)) (λ _. IsStoppedAtEnd version depth start new stream)
  at_end now new stream waiting (Ok x) so went =
      subst (GoesOn start new) (sym (ap (stream_sent version depth) so.order ∙ stream_sent-rest version depth so.sent waiting so.whole))
      (GoesOn-trans start now new (opening_sent version depth so.sent) (outs (due_at_end version waiting)) so.talk went)
  at_end now new stream waiting (Err e) so (n, fewer, went) = record {
    said = opening_sent version depth so.sent ++ outs (take n (due_at_end version waiting));
    talk = GoesOn-trans start now new (opening_sent version depth so.sent) (outs (take n (due_at_end version waiting))) so.talk went;
    order = subst (IsPrefix (opening_sent version depth so.sent ++ outs (take n (due_at_end version waiting)))) (sym (ap (stream_sent version depth) so.order ∙ stream_sent-rest version depth so.sent waiting so.whole))
        (sent_front (opening_sent version depth so.sent) (due_at_end version waiting) n);
    short = subst (λ (l : List TalkEvent). length (opening_sent version depth so.sent ++ outs (take n (due_at_end version waiting))) < length l) (sym (ap (stream_sent version depth) so.order ∙ stream_sent-rest version depth so.sent waiting so.whole))
        (sent_short (opening_sent version depth so.sent) (due_at_end version waiting) n fewer);
  }
