-- One step of a turn: something is sent, or a frame comes, and where the talk is then.
use Rattle.std.proofs.Common.{◌≡◌, ◌≢◌, ℕ, ◌+◌, ◌-◌, true, false, Option, Ok, Err, List, [], ◌∷◌, length, take, refl, sym, ap, subst}
use Rattle.std.specs.Prelude.{None, Some, Result, MatchResult, IsErrAnd, slice_index}
use Rattle.sip_ports.specs.declared.port.TalkEvent.{TalkEvent}
use Rattle.sip_ports.specs.Ports.{GoesOn, outs}
use Rattle.sip_ports.proofs.TalkLemmas.{GoesOn-trans}
use Rattle.sip_vector.specs.declared.update.Entry.{Entry}
use Rattle.sip_wire.specs.declared.kind.Place.{Place}
use Rattle.sip_wire.specs.declared.message.Message.{Message}
use Rattle.sip_wire.specs.declared.message.Message.TheVariants as messages
use Rattle.sip_wire.specs.declared.message.Reason.{Reason}
use Rattle.sip_wire.specs.declared.message.Reason.TheVariants as reasons
use Rattle.sip_wire.specs.declared.version.Version.{Version}
use Rattle.sip_wire.specs.Spelling.{spelling}
use Rattle.sip_replies.specs.declared.check.More.TheVariants as mores
use Rattle.sip_replies.specs.declared.taking.ReplyStop.{ReplyStop}
use Rattle.sip_replies.specs.declared.taking.ReplyStop.TheVariants as reply_stops
use Rattle.sip_replies.specs.declared.turn.Stage.{Stage}
use Rattle.sip_replies.specs.declared.turn.Stage.TheVariants as stages
use Rattle.sip_replies.specs.Protocols.{Protocol, Phase}
use Rattle.sip_replies.specs.Replies.{read_one, read_reply}
use Rattle.sip_replies.specs.Checks.{answered}
use Rattle.sip_replies.specs.Talks.{sent}
use Rattle.sip_replies.specs.Asking.{stop_in_round, Came, HasFault, Shows, Takes, IsRejected, IsInterrupted, Answers}
use Rattle.sip_replies.specs.declared.check.Said.{Said}
use Rattle.sip_replies.specs.declared.asking.AskStop.{AskStop}
use Rattle.sip_replies.specs.declared.asking.AskStop.TheVariants as stops
use Rattle.sip_replies.specs.declared.turn.Turn.{Turn}
use Rattle.sip_replies.specs.Following.{Going, Hears, FollowsAt, Follows, due_message, is_due, is_hearing, is_open, left, left_at, stage_of, verdict_of, IsAt}
use Rattle.sip_replies.proofs.Framed.{AreFrames-none}
use Rattle.sip_replies.proofs.Running.{run-none}
use Rattle.sip_replies.proofs.Saying.{sent-one}
use Rattle.sip_replies.proofs.Begun.{HasFault-more, Takes-stopped}
use Rattle.sip_replies.proofs.Entering.{Entered-none, Entered-due, Came-complete, Takes-refused, ending_none, frame_faults}
use Rattle.sip_replies.proofs.Turns.{Ready-later, IsRejected-reply, Answers-reply, Going-next}
use Rattle.sip_replies.proofs.Ending.{IsInterrupted-request, IsInterrupted-reveal, IsAnswered-end, IsRejected-end}

module _ {S : Type 0} (P : Protocol S) (request : Message) (block : List ℕ) (Stands : S → Type 0) (round : ℕ) where
  -- ---- what is due

  -- it was sent whole
  pub FollowsAt-sent : (old mid new before during : Option (List TalkEvent)) (places : List Entry) (stage : Stage) → is_due stage ≡ true → FollowsAt P request block old mid before during Stands places round stage
      → GoesOn mid new (outs (spelling P.rules.version (due_message request stage))) → Hears P request block old new before during Stands round
  FollowsAt-sent old mid new before during places stages.Asks due asks talk = record {
    due = asks.due;
    mid = new;
    during = during;
    replies = [];
    counted = sym asks.first;
    from = P.rules.start;
    ready = record {
      said = sent P.rules.version (request ∷ []);
      talk = subst (GoesOn old new) (sym (sent-one P.rules.version request)) (GoesOn-trans old mid new [] (outs (spelling P.rules.version request)) asks.silent talk);
      kept = asks.unkept;
      frames = AreFrames-none P.rules.version;
      order = λ bytes. refl;
      passed = run-none P.rules block;
      few = asks.some;
    };
    entered = Entered-none P.rules P.rules.start new during Stands asks.stands;
  }
  FollowsAt-sent old mid new before during places (stages.Reveals challenge) due reveals talk =
      let going = reveals.going in
      record {
        due = reveals.due;
        mid = new;
        during = during;
        replies = going.replies;
        counted = going.counted;
        from = P.rules.learn going.state (slice_index block (round - 1));
        ready = Ready-later P request block old mid new before during round (λ s. Stands (P.rules.learn s challenge)) going
            (subst (λ (k : ℕ). GoesOn mid new (outs (spelling P.rules.version (messages.Reveal k)))) reveals.is talk) reveals.few;
        entered = Entered-none P.rules (P.rules.learn going.state (slice_index block (round - 1))) new during Stands
            (subst (λ (k : ℕ). Stands (P.rules.learn going.state k)) reveals.is going.stands);
      }
  FollowsAt-sent old mid new before during places _ due at talk = absurd cc

  -- a part of it was sent
  pub FollowsAt-unsent : (old mid new before during : Option (List TalkEvent)) (places : List Entry) (stage : Stage) → is_due stage ≡ true → FollowsAt P request block old mid before during Stands places round stage
      → (n : ℕ) → GoesOn mid new (outs (take n (spelling P.rules.version (due_message request stage)))) → IsInterrupted P request block old new before during
  FollowsAt-unsent old mid new before during places stages.Asks due asks n talk =
      IsInterrupted-request P asks.due request block old new before during n (GoesOn-trans old mid new [] (outs (take n (spelling P.rules.version request))) asks.silent talk) asks.unkept asks.some
  FollowsAt-unsent old mid new before during places (stages.Reveals challenge) due reveals n talk =
      IsInterrupted-reveal P reveals.due request block old mid new before during round (λ s. Stands (P.rules.learn s challenge)) reveals.going reveals.few n
      (subst (λ (k : ℕ). GoesOn mid new (outs (take n (spelling P.rules.version (messages.Reveal k))))) reveals.is talk)
  FollowsAt-unsent old mid new before during places _ due at n talk = absurd cc

  -- ---- a frame

  module _ (old mid new before during now : Option (List TalkEvent)) (hears : Hears P request block old mid before during Stands round)
      (version : Version) (same : P.rules.version ≡ version) (place : Place) (at : place ≡ P.rules.place hears.entered.state) where
    -- it did not come, and nothing was judged
    pub Answers-stopped : (places : List Entry) (stop : ReplyStop) → Takes {X = Message × List ℕ} version (read_one version place) mid new during now (Shows version) (Err stop) → Answers P request block old new before now places (Err (stop_in_round round stop))
    Answers-stopped places stop took =
        let entered = hears.entered in
        let faults = frame_faults P.rules entered.state version place same at in
        let reply = Takes-stopped P.rules.version (read_reply P.rules hears.from) hears.mid mid new hears.during during now (read_reply P.rules entered.state) entered.begun (read_one version place) faults entered.frames
        (Shows version) (λ (_ : Unit {0}) t. Stands t) stop
        (subst (λ (v : Version). Takes v (read_one version place) mid new during now (Shows version) (Err stop)) (sym same) took) (Err stop) refl in
        Answers-reply P hears.due request block old hears.mid new before hears.during now hears.replies hears.from hears.ready round (λ (_ : Unit {0}) t. Stands t) (Err stop) places (Err (stop_in_round round stop)) (stop_in_round round stop)
        (sym hears.counted) refl (stop, refl, refl) reply

    -- its bytes have a fault, or the link ended
    pub IsRejected-fault : (reason : Reason) → HasFault version (read_one version place) mid new during now reason → IsRejected P request block old new before now round reason
    IsRejected-fault reason fault =
        let entered = hears.entered in
        let faults = frame_faults P.rules entered.state version place same at in
        let reply = HasFault-more P.rules.version (read_reply P.rules hears.from) hears.mid mid new hears.during during now (read_reply P.rules entered.state) entered.begun (read_one version place) faults entered.frames reason
        (subst (λ (v : Version). HasFault v (read_one version place) mid new during now reason) (sym same) fault) in
        subst (λ (j : ℕ). IsRejected P request block old new before now j reason) hears.counted
        (IsRejected-reply P hears.due request block old hears.mid new before hears.during now hears.replies hears.from hears.ready reason reply)

    module _ (m : Message) (said : Message × List ℕ) (came : Came version (read_one version place) mid new during now said) (shows : Shows version m said) where
      -- the check refused its message
      pub IsRejected-took : (reason : Reason) → P.rules.step hears.entered.state m ≡ Err reason → reason ≢ reasons.Closed → IsRejected P request block old new before now round reason
      IsRejected-took reason is other =
          let reply = Takes-refused P.rules hears.from hears.mid mid new hears.during during now Stands hears.entered version same place at m said came shows (λ (_ : Unit {0}) t. Stands t) (Err (reply_stops.Faulty reason)) reason is other refl in
          subst (λ (j : ℕ). IsRejected P request block old new before now j reason) hears.counted
          (IsRejected-reply P hears.due request block old hears.mid new before hears.during now hears.replies hears.from hears.ready reason reply)

      module _ (Next : S → Type 0) (t : S) (stands : Next t) where
        -- the reply goes on behind it
        pub Hears-due : P.rules.step hears.entered.state m ≡ Ok (mores.Due, t) → Hears P request block old new before now Next round
        Hears-due is = record {
          due = hears.due;
          mid = hears.mid;
          during = hears.during;
          replies = hears.replies;
          counted = hears.counted;
          from = hears.from;
          ready = hears.ready;
          entered = Entered-due P.rules hears.from hears.mid mid new hears.during during now Stands hears.entered version same place at m said came shows Next t is stands;
        }

        -- it ends the reply
        pub Going-complete : P.rules.step hears.entered.state m ≡ Ok (mores.Complete, t) → Going P request block old new before now (round + 1) Next
        Going-complete is =
            Going-next P hears.due request block old hears.mid new before hears.during now hears.replies hears.from hears.ready (round + 1) Next t (ap (λ (k : ℕ). k + 1) hears.counted)
            (Came-complete P.rules hears.from hears.mid mid new hears.during during now Stands hears.entered version same place at m said came shows t is) stands

-- ---- behind a reply

module _ {S : Type 0} (P : Protocol S) (request : Message) (block : List ℕ) (old new before now : Option (List TalkEvent)) (count : ℕ) (Stands : S → Type 0) (going : Going P request block old new before now count Stands) where
  -- what stands for the state may be said otherwise
  pub Going-map : (Next : S → Type 0) → ((s : S) → Stands s → Next s) → Going P request block old new before now count Next
  Going-map Next f = record {
    replies = going.replies;
    state = going.state;
    counted = going.counted;
    some = going.some;
    within = going.within;
    passed = going.passed;
    shortest = going.shortest;
    talk = going.talk;
    kept = going.kept;
    frames = going.frames;
    stands = f going.state going.stands;
  }

  -- the tests behind the last one were made
  pub FollowsAt-end : (due : P.unasked ≡ None) (Next : S → Type 0) (places : List Entry) (result : Result Said Reason) → count ≡ length block
      → answered places result ≡ P.finish (P.rules.learn going.state (slice_index block (count - 1))) → ((reason : Reason) → result ≡ Err reason → reason ≢ reasons.Closed)
      → FollowsAt P request block old new before now Next places count (stage_of count result)
  FollowsAt-end due Next places (Ok said) all ended other = IsAnswered-end P due request block old new before now count Stands going all places (Ok said) ended said refl
  FollowsAt-end due Next places (Err reason) all ended other =
      subst (λ (j : ℕ). IsRejected P request block old new before now j reason) (sym all)
      (IsRejected-end P due request block old new before now count Stands going all places (Err reason) ended reason (other reason refl) (ending_none reason (other reason refl)) refl)

-- ---- a turn

-- without a verdict there is no end, and without a reply to hear something is due
pub open_of : (stage : Stage) → verdict_of stage ≡ None → is_open stage ≡ true
open_of (stages.Said said) none = absurd cc
open_of (stages.Rejected round reason) none = absurd cc
open_of _ none = refl

pub due_of : (stage : Stage) → verdict_of stage ≡ None → is_hearing stage ≡ false → is_due stage ≡ true
due_of (stages.Said said) none silent = absurd cc
due_of (stages.Rejected round reason) none silent = absurd cc
due_of stages.Hears none silent = absurd cc
due_of _ none silent = refl

pub open_hearing : (stage : Stage) → is_hearing stage ≡ true → is_open stage ≡ true
open_hearing stages.Hears hears = refl
open_hearing _ hears = absurd cc

-- to send what is due brings no verdict nearer
left_due : (depth round : ℕ) (stage : Stage) → is_due stage ≡ true → left_at depth round stages.Hears ≡ left_at depth round stage
left_due depth round stages.Asks due = refl
left_due depth round (stages.Reveals challenge) due = refl
left_due depth round _ due = absurd cc

pub left_sent : (turn : Turn) → is_due turn.stage ≡ true → left (record turn { stage = stages.Hears }) ≡ left turn
left_sent turn due = left_due turn.depth turn.round turn.stage due

-- nor does it change where the check is
pub IsAt-sent : (turn : Turn) (phase : Phase) → IsAt turn phase → IsAt (record turn { stage = stages.Hears }) phase
IsAt-sent turn phase at = record { deep = at.deep; few = at.few; taken = at.taken; revealed = at.revealed; below = tt }

-- a call that stopped
pub stops_so : {T E : Type 0} (result : Result T E) (stop : E) (Went : T → Type 0) (Stopped : E → Type 0) → IsErrAnd result (λ other. other ≡ stop) → Stopped stop → MatchResult result Went Stopped
stops_so (Ok x) stop Went Stopped is held = absurd is
stops_so (Err other) stop Went Stopped is held = subst Stopped (sym is) held

-- no verdict is a stop of a port
pub no_stop : (stage : Stage) (result : Result Said AskStop) (stop : AskStop) → verdict_of stage ≡ Some result → ((round : ℕ) (reason : Reason) → stops.Rejected round reason ≡ stop → ⊥) → result ≡ Err stop → ⊥
no_stop (stages.Said said) result stop is other e = let same : ◌≡◌ {A = Result Said AskStop} (Ok said) (Err stop) = cc in cc
no_stop (stages.Rejected round reason) result stop is other e =
    let same : ◌≡◌ {A = Result Said AskStop} (Err (stops.Rejected round reason)) (Err stop) = cc in
    other round reason cc
no_stop _ result stop is other e = cc

module _ {S : Type 0} (P : Protocol S) (request : Message) (block : List ℕ) (Stands : S → Type 0) (old mid new before during : Option (List TalkEvent)) (places : List Entry) (turn : Turn) (follows : Follows P request block old mid before during Stands places turn) where
  -- at a stage that is known
  pub at_stage : (stage : Stage) → turn.stage ≡ stage → FollowsAt P request block old mid before during Stands places turn.round stage
  at_stage stage is = subst (λ (x : Stage). FollowsAt P request block old mid before during Stands places turn.round x) is follows.at

  -- what was due was sent
  pub Follows-sent : is_due turn.stage ≡ true → GoesOn mid new (outs (spelling turn.version (due_message request turn.stage))) → Follows P request block old new before during Stands places (record turn { stage = stages.Hears })
  Follows-sent due talk = record {
    version = follows.version;
    at = FollowsAt-sent P request block Stands turn.round old mid new before during places turn.stage due follows.at
        (subst (λ (v : Version). GoesOn mid new (outs (spelling v (due_message request turn.stage)))) (sym follows.version) talk);
  }

  -- a part of it was
  pub IsInterrupted-unsent : is_due turn.stage ≡ true → (n : ℕ) → GoesOn mid new (outs (take n (spelling turn.version (due_message request turn.stage)))) → IsInterrupted P request block old new before during
  IsInterrupted-unsent due n talk = FollowsAt-unsent P request block Stands turn.round old mid new before during places turn.stage due follows.at n
      (subst (λ (v : Version). GoesOn mid new (outs (take n (spelling v (due_message request turn.stage))))) (sym follows.version) talk)

-- a verdict is the answer
pub Answers-verdict : {S : Type 0} (P : Protocol S) (request : Message) (block : List ℕ) (Stands : S → Type 0) (old now before kept : Option (List TalkEvent)) (places : List Entry) (round : ℕ) (stage : Stage) (result : Result Said AskStop)
    → verdict_of stage ≡ Some result → FollowsAt P request block old now before kept Stands places round stage → Answers P request block old now before kept places result
Answers-verdict P request block Stands old now before kept places round (stages.Said said) result is at =
    let same : Ok said ≡ result = cc in subst (Answers P request block old now before kept places) same at
Answers-verdict P request block Stands old now before kept places round (stages.Rejected j reason) result is at =
    let same : Err (stops.Rejected j reason) ≡ result = cc in subst (Answers P request block old now before kept places) same at
Answers-verdict P request block Stands old now before kept places round _ result is at = absurd cc

-- the answer of a call that stopped
pub Answers-stop : {S : Type 0} (P : Protocol S) (request : Message) (block : List ℕ) (old new before now : Option (List TalkEvent)) (places : List Entry) (result : Result Said AskStop) (stop : AskStop) → IsErrAnd result (λ other. other ≡ stop)
    → Answers P request block old new before now places (Err stop) → Answers P request block old new before now places result
Answers-stop P request block old new before now places (Ok x) stop is answers = absurd is
Answers-stop P request block old new before now places (Err other) stop is answers = subst (λ (e : AskStop). Answers P request block old new before now places (Err e)) (sym is) answers
