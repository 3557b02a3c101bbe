-- A frame whose bytes came in pieces, and what the bytes so far are a talk of.
use Rattle.std.proofs.Common.{◌≡◌, ◌≢◌, ℕ, ◌<◌, ◌≤◌, Bool, true, false, Some, None, Err, List, [], ◌∷◌, ◌++◌, length, refl, sym, ap, subst, ◌∙◌, append_assoc, append-nil, arith}
use Rattle.std.proofs.lemmas.List.{map-append}
use Rattle.sip_ports.specs.declared.port.TalkEvent.{TalkEvent}
use Rattle.sip_ports.specs.declared.port.TalkEvent.TheVariants.{In, Ended}
use Rattle.sip_ports.specs.Ports.{ins}
use Rattle.sip_ports.proofs.TalkLemmas.{GoesOn-refl, GoesOn-trans}
use Rattle.sip_vector.specs.declared.update.Entry.{Entry}
use Rattle.sip_wire.specs.declared.kind.Place.{Place}
use Rattle.sip_wire.specs.declared.message.Message.{Message}
use Rattle.sip_wire.specs.declared.message.Reason.TheVariants as reasons
use Rattle.sip_wire.specs.declared.message.WireFault.{WireFault}
use Rattle.sip_wire.specs.declared.message.WireFault.TheVariants as faults
use Rattle.sip_wire.specs.declared.version.Version.{Version}
use Rattle.sip_wire.specs.Decoding.{Took}
use Rattle.sip_wire.specs.Faults.{IsOfBytes}
use Rattle.sip_wire.specs.Spelling.{asked}
use Rattle.sip_wire.specs.Taking.{ShowsFault}
use Rattle.sip_wire.proofs.ReadingLaws.{asked-least, read_frame-closed, read_frame-short}
use Rattle.sip_replies.specs.declared.taking.ReplyStop.TheVariants as reply_stops
use Rattle.sip_replies.specs.declared.turn.Stage.{Stage}
use Rattle.sip_replies.specs.declared.turn.Stage.TheVariants as stages
use Rattle.sip_replies.specs.Protocols.{Protocol}
use Rattle.sip_replies.specs.Replies.{reason_of, reasoned, read_one}
use Rattle.sip_replies.specs.Talks.{ending}
use Rattle.sip_replies.specs.Asking.{Came, HasFault, IsPart, Shows, IsInterrupted}
use Rattle.sip_replies.specs.declared.turn.Turn.{Turn}
use Rattle.sip_replies.specs.Following.{Hears, Follows, FollowsAt, is_hearing}
use Rattle.sip_replies.specs.Feeding.{IsWaiting, Means, IsFed}
use Rattle.sip_replies.proofs.Framed.{AreFrames-one, AreFrames-none}
use Rattle.sip_replies.proofs.Running.{run-fault}
use Rattle.sip_replies.proofs.Entering.{frame_faults}
use Rattle.sip_replies.proofs.Stepping.{Answers-stopped, FollowsAt-unsent}

-- ---- one frame

module _ (version : Version) (place : Place) (before : List TalkEvent) (got : List ℕ) where
  some_byte : (byte : ℕ) → byte ∷ [] ≢ []
  some_byte byte e = cc

  -- no byte less shows what it is
  short_front : length got ≤ asked version place got → (front : List ℕ) (byte : ℕ) → got ≡ front ++ byte ∷ [] → read_one version place front ≡ Err reasons.Closed
  short_front most front byte e =
      ap reasoned (read_frame-short version place front (byte ∷ []) (some_byte byte) (subst (λ (l : List ℕ). length l ≤ asked version place l) e most))

  -- it came with a message
  pub Came-put : length got ≤ asked version place got → (m : Message) → Took version place got m → Came version (read_one version place) (Some before) (Some (before ++ ins got)) None None (m, [])
  Came-put most m took = record {
    bytes = got;
    heard = refl;
    kept = tt;
    frames = AreFrames-one version m got took.has_spelling took.spelled;
    says = ap reasoned took.read;
    shortest = short_front most;
  }

  pub Shows-put : (m : Message) → Took version place got m → Shows version m (m, [])
  Shows-put m took = record { is = refl; has_spelling = took.has_spelling; in_range = took.in_range }

  -- a fault that bytes show is not that of the link's end
  ending_of : (fault : WireFault) → IsOfBytes fault → ending (reason_of fault) ≡ []
  ending_of faults.BadKind is = refl
  ending_of faults.BadLength is = refl
  ending_of faults.BadCount is = refl
  ending_of faults.BadNumber is = refl
  ending_of _ is = absurd is

  -- its bytes show a fault
  pub HasFault-put : length got ≤ asked version place got → (fault : WireFault) → ShowsFault version place got fault → HasFault version (read_one version place) (Some before) (Some (before ++ ins got)) None None (reason_of fault)
  HasFault-put most fault shows = record {
    bytes = got;
    heard = subst (λ (events : List TalkEvent). before ++ ins got ≡ before ++ events) (sym (append-nil (ins got)) ∙ ap (λ (events : List TalkEvent). ins got ++ events) (sym (ending_of fault shows.shown))) refl;
    kept = tt;
    says = ap reasoned shows.read;
    shortest = λ front byte e other. short_front most front byte e;
  }

  -- the other end closed behind a part of it
  pub HasFault-ended : length got < asked version place got → HasFault version (read_one version place) (Some before) (Some ((before ++ ins got) ++ Ended ∷ [])) None None reasons.Closed
  HasFault-ended short = record {
    bytes = got;
    heard = append_assoc before (ins got) (Ended ∷ []);
    kept = tt;
    says = ap reasoned (read_frame-closed version place got short);
    shortest = λ front byte e other. absurd (other refl);
  }

  -- it is a part so far
  pub IsPart-put : length got < asked version place got → IsPart version (read_one version place) (Some before) (Some (before ++ ins got)) None None
  IsPart-put short = record {
    bytes = got;
    heard = refl;
    kept = record { whole = []; part = got; split = refl; frames = AreFrames-none version; cut = (place, read_frame-closed version place got short); kept = tt };
    says = ap reasoned (read_frame-closed version place got short);
  }

-- ---- the talk

module _ {S : Type 0} (P : Protocol S) (request : Message) (block : List ℕ) (Stands : S → Type 0) (round : ℕ) (before : List TalkEvent) (part : List ℕ) where
  -- it waits
  pub IsWaiting-part : (hears : Hears P request block (Some []) (Some before) None None Stands round) → length part < asked P.rules.version (P.rules.place hears.entered.state) part → IsWaiting P request block (before ++ ins part)
  IsWaiting-part hears short =
      let version = P.rules.version in
      let ready = hears.ready in
      let begun = hears.entered.begun in
      let place = P.rules.place hears.entered.state in
      let is_part = IsPart-put version place before part short in
      let closed = begun.reads part ∙ frame_faults P.rules hears.entered.state version place refl refl part reasons.Closed (ap reasoned (read_frame-closed version place part short)) in
      let so_far : before ≡ [] ++ (ready.said ++ ins begun.bytes) = GoesOn-trans (Some []) hears.mid (Some before) ready.said (ins begun.bytes) ready.talk begun.heard in
      record {
        replies = hears.replies;
        part = begun.bytes ++ part;
        few = ready.few;
        talk =
            ap (λ (events : List TalkEvent). events ++ ins part) so_far
            ∙ append_assoc ready.said (ins begun.bytes) (ins part)
            ∙ ap (λ (events : List TalkEvent). ready.said ++ events) (sym (map-append In begun.bytes part))
            ∙ sym (ready.order (begun.bytes ++ part));
        closed = run-fault P.rules block hears.replies hears.from ready.passed (begun.bytes ++ part) reasons.Closed closed;
        cut = Answers-stopped P request block Stands round (Some []) (Some before) (Some (before ++ ins part)) None None None hears version refl place refl [] reply_stops.PeerFault is_part;
      }

  -- what the talk is at each stage
  pub Means-at : (places : List Entry) (stage : Stage) → FollowsAt P request block (Some []) (Some before) None None Stands places round stage
      → ((s : S) → Stands s → length part < asked P.rules.version (P.rules.place s) part) → (is_hearing_or_none : (stage ≡ stages.Hears → ⊥) → part ≡ []) → Means P request block (before ++ ins part) places stage
  Means-at places stages.Hears at short quiet = IsWaiting-part at (short at.entered.state at.entered.stands)
  Means-at places stages.Asks at short quiet =
      subst (λ (l : List ℕ). IsInterrupted P request block (Some []) (Some (before ++ ins l)) None None) (sym (quiet (λ e. cc)))
      (subst (λ (events : List TalkEvent). IsInterrupted P request block (Some []) (Some events) None None) (sym (append-nil before))
      (FollowsAt-unsent P request block Stands round (Some []) (Some before) (Some before) None None places stages.Asks refl at 0 (GoesOn-refl (Some before))))
  Means-at places (stages.Reveals challenge) at short quiet =
      subst (λ (l : List ℕ). IsInterrupted P request block (Some []) (Some (before ++ ins l)) None None) (sym (quiet (λ e. cc)))
      (subst (λ (events : List TalkEvent). IsInterrupted P request block (Some []) (Some events) None None) (sym (append-nil before))
      (FollowsAt-unsent P request block Stands round (Some []) (Some before) (Some before) None None places (stages.Reveals challenge) refl at 0 (GoesOn-refl (Some before))))
  Means-at places stage at short quiet =
      subst (λ (l : List ℕ). Means P request block (before ++ ins l) places stage) (sym (quiet (λ e. cc)))
      (subst (λ (events : List TalkEvent). Means P request block events places stage) (sym (append-nil before)) at)

-- no bytes are fewer than any frame has
pub short_empty : (version : Version) (place : Place) (bytes : List ℕ) → bytes ≡ [] → length bytes < asked version place bytes
short_empty version place bytes none = subst (λ (l : List ℕ). length l < asked version place l) (sym none) (omega (arith, asked-least version place []))

module _ {S : Type 0} (P : Protocol S) (request : Message) (block : List ℕ) (Stands : S → Type 0) (places : List Entry) (turn : Turn) (before : List TalkEvent) (got now : List ℕ) where
  -- a part of a frame lies ready
  pub IsFed-part : Follows P request block (Some []) (Some before) None None Stands places turn → turn.stage ≡ stages.Hears → now ≡ got → (version : Version) → version ≡ turn.version → (place : Place) → ((s : S) → Stands s → place ≡ P.rules.place s)
      → length got < asked version place got → IsFed P request block (before ++ ins got) Stands places turn now
  IsFed-part follows hears same version is place placed short = record {
    before = before;
    follows = follows;
    last = ap (λ (l : List ℕ). before ++ ins l) (sym same);
    short = λ s stands.
        subst (λ (v : Version). length now < asked v (P.rules.place s) now) is
        (subst (λ (x : Place). length now < asked version x now) (placed s stands)
        (subst (λ (l : List ℕ). length l < asked version place l) (sym same) short));
    quiet = λ silent. absurd (let heard = ap is_hearing hears in cc);
  }

  -- what came was judged, and nothing lies ready
  pub IsFed-judged : Follows P request block (Some []) (Some (before ++ ins got)) None None Stands places turn → now ≡ [] → IsFed P request block (before ++ ins got) Stands places turn now
  IsFed-judged follows none = record {
    before = before ++ ins got;
    follows = follows;
    last = sym (ap (λ (l : List ℕ). (before ++ ins got) ++ ins l) none ∙ append-nil (before ++ ins got));
    short = λ s stands. short_empty turn.version (P.rules.place s) now none;
    quiet = λ silent. none;
  }

-- the same number of bytes is asked for at the same place
pub short_at : (version other : Version) (place there : Place) (bytes : List ℕ) → version ≡ other → place ≡ there → length bytes < asked other there bytes → length bytes < asked version place bytes
short_at version other place there bytes same at short =
    subst (λ (v : Version). length bytes < asked v place bytes) (sym same) (subst (λ (x : Place). length bytes < asked other x bytes) (sym at) short)

-- more bytes of a frame are more bytes of the talk
pub events_more : (before events : List TalkEvent) (part now piece : List ℕ) → events ≡ before ++ ins part → now ≡ part ++ piece → before ++ ins now ≡ events ++ ins piece
events_more before events part now piece last more =
    ap (λ (l : List ℕ). before ++ ins l) more
    ∙ ap (λ (l : List TalkEvent). before ++ l) (map-append In part piece)
    ∙ sym (append_assoc before (ins part) (ins piece))
    ∙ ap (λ (l : List TalkEvent). l ++ ins piece) (sym last)

-- who hears now has heard
pub was_hearing : (before now : Bool) (taken : ℕ) → (before ≡ false → (taken ≡ 0) × (now ≡ false)) → now ≡ true → before ≡ true
was_hearing true now taken none hears = refl
was_hearing false now taken none hears = absurd (let silent = (none refl).1 in cc)

silent_of : (stage : Stage) → (stage ≡ stages.Hears → ⊥) → is_hearing stage ≡ false
silent_of stages.Hears other = absurd (other refl)
silent_of _ other = refl

-- what a turn is fed means what whoever asks over a link is answered
pub Means-fed : {S : Type 0} (P : Protocol S) (request : Message) (block : List ℕ) (Stands : S → Type 0) (places : List Entry) (turn : Turn) (part : List ℕ) (events : List TalkEvent) → IsFed P request block events Stands places turn part → Means P request block events places turn.stage
Means-fed P request block Stands places turn part events fed =
    subst (λ (e : List TalkEvent). Means P request block e places turn.stage) (sym fed.last)
    (Means-at P request block Stands turn.round fed.before part places turn.stage fed.follows.at
    (λ s stands. subst (λ (v : Version). length part < asked v (P.rules.place s) part) (sym fed.follows.version) (fed.short s stands))
    (λ other. fed.quiet (silent_of turn.stage other)))
