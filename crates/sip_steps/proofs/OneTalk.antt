-- A helper's end of a talk without a link, step by step.
use Rattle.std.proofs.Common.{◌≡◌, ◌⊎◌, ℕ, ◌+◌, ◌-◌, ◌^◌, ◌<◌, ◌≤◌, ◌++◌, Bool, false, Option, None, Some, Result, Ok, Err, List, [], ◌∷◌, length, take, inl, inr, refl, sym, ap, subst, ◌∙◌, arith, append_assoc, append-nil}
use Rattle.std.specs.Prelude.{IsSome, is_some}
use Rattle.sip_ports.specs.declared.port.TalkEvent.{TalkEvent}
use Rattle.sip_ports.specs.declared.port.TalkEvent.TheVariants.{Ended}
use Rattle.sip_ports.specs.Ports.{GoesOn, heard, ins, outs, written}
use Rattle.sip_ports.proofs.TalkLemmas.{GoesOn-trans, heard-append, heard-ins, heard-outs, outs-append, written-append, written-ins, written-outs}
use Rattle.sip_wire.specs.declared.kind.Place.{Place}
use Rattle.sip_wire.specs.declared.message.Message.{Message}
use Rattle.sip_wire.specs.declared.message.WireFault.{WireFault}
use Rattle.sip_wire.specs.declared.version.Version.{Version}
use Rattle.sip_wire.specs.Decoding.{Took}
use Rattle.sip_wire.specs.Frames.{frame_bytes}
use Rattle.sip_wire.specs.Spelling.{asked}
use Rattle.sip_wire.specs.Taking.{ShowsFault, room_for}
use Rattle.sip_wire.proofs.ReadingLaws.{read_frame-closed, read_frame-short}
use Rattle.sip_replies.proofs.Fed.{events_more, short_empty}
use Rattle.sip_helper.specs.declared.status.HelpStatus.{HelpStatus}
use Rattle.sip_helper.specs.declared.status.HelpStatus.TheVariants.{Served, BadFrame, PeerClosed, PeerFault, OutOfMemory}
use Rattle.sip_helper.specs.OneTurn.{AnswersTurn, CutsRefusal, CutsReply, StopsTurn, Taken, TakesTurn, refusal_by}
use Rattle.sip_helper.specs.Rules.{IsMessageBy, ServesOn, TurnRules}
use Rattle.sip_helper.specs.UnderWay.{UnderWay}
use Rattle.sip_helper.specs.inside.Measures.{most_received}
use Rattle.sip_helper.proofs.Talks.{ends, goes_on}
use Rattle.sip_helper.proofs.Turning.{turn_taken}
use Rattle.sip_steps.specs.declared.coming.Came.{Came}
use Rattle.sip_steps.specs.declared.coming.Came.TheVariants.{Part, Turn, End}
use Rattle.sip_steps.specs.declared.coming.Coming.{Coming}
use Rattle.sip_steps.specs.declared.serving.Serving.{Serving}
use Rattle.sip_steps.specs.Served.{Goes, IsComing, IsServed, IsServedBy, Passes}
use Rattle.sip_steps.specs.inside.Turning.{Comes, ComesPart, ComesTurn, end_of}
use Rattle.sip_steps.proofs.Lacking.{lacking_less, lacking_short}

-- ---- what was sent, apart from what came

module _ {S : Type 0} (r : TurnRules S) (old new : Option (List TalkEvent)) (s next : S) (m : Message) (at : ℕ) where
  -- these bytes were sent, and behind any talk they are the same answer
  pub record SentApart (result : Result Unit HelpStatus) : Type 0 where
    pub sent : List ℕ
    pub went : GoesOn old new (outs sent)
    pub behind : (mid : List TalkEvent) → AnswersTurn r (Some mid) (Some (mid ++ outs sent)) s m next at result

  part_apart : CutsReply r old new s m ⊎ CutsRefusal r old new s m → (sent : List ℕ) × GoesOn old new (outs sent) × ((mid : List TalkEvent) → CutsReply r (Some mid) (Some (mid ++ outs sent)) s m ⊎ CutsRefusal r (Some mid) (Some (mid ++ outs sent)) s m)
  part_apart (inl so) = (take so.sent (r.owed (r.step s so.refused m)), so.talk, λ mid. inl (record { allowed = so.allowed; refused = so.refused; sent = so.sent; short = so.short; talk = refl }))
  part_apart (inr so) = (take so.sent (refusal_by r s), so.talk, λ mid. inr (record { out = so.out; sent = so.sent; short = so.short; talk = refl }))

  pub sent_apart : (result : Result Unit HelpStatus) → AnswersTurn r old new s m next at result → SentApart result
  sent_apart (Ok x) so = record { sent = r.owed (r.step s so.refused m); went = so.sent; behind = λ mid. record { allowed = so.allowed; refused = so.refused; state = so.state; going = so.going; sent = refl } }
  sent_apart (Err Served) so = record { sent = []; went = so.silent; behind = λ mid. record { allowed = so.allowed; is = so.is; silent = refl } }
  sent_apart (Err (BadFrame offset)) so = record { sent = refusal_by r s; went = so.1.sent; behind = λ mid. (so.0, record { out = so.1.out; same = so.1.same; sent = refl }) }
  sent_apart (Err PeerClosed) so = absurd so
  sent_apart (Err PeerFault) so = let part = part_apart so in record { sent = part.0; went = part.1; behind = part.2 }
  sent_apart (Err OutOfMemory) so = let part = part_apart so in record { sent = part.0; went = part.1; behind = part.2 }

-- ---- one frame

-- what holds of a version and a place, where they are those of a state
pub at_state : (P : Version → Place → Type 0) (version other : Version) (place there : Place) → version ≡ other → place ≡ there → P version place → P other there
at_state P version other place there same at held = subst (λ (v : Version). P v there) same (subst (λ (x : Place). P version x) at held)

module _ {S : Type 0} (r : TurnRules S) (s : S) (at : ℕ) (got : List ℕ) where
  -- its bytes show a fault
  pub stops_at_fault : length got ≤ asked (r.version s) (r.place s) got → (fault : WireFault) → ShowsFault (r.version s) (r.place s) got fault → StopsTurn r (Some []) (Some (ins got ++ outs [])) s at (BadFrame at)
  stops_at_fault most fault shows = record {
    rest = ins got;
    talk = append-nil (ins got);
    ends = (
      refl,
      inl (record {
        got = got;
        fault = fault;
        shown = shows.shown;
        read = shows.read;
        shortest = λ front more e some. read_frame-short (r.version s) (r.place s) front more some (subst (λ (l : List ℕ). length l ≤ asked (r.version s) (r.place s) l) e most);
        said = refl;
      }),
    );
  }

  -- the other end closed behind a part of it
  pub stops_closed : length got < asked (r.version s) (r.place s) got → StopsTurn r (Some []) (Some (ins got ++ Ended ∷ [])) s at PeerClosed
  stops_closed short = record {
    rest = ins got ++ Ended ∷ [];
    talk = refl;
    ends = record { got = got; read = read_frame-closed (r.version s) (r.place s) got short; said = refl };
  }

  -- its message came, and was answered
  module _ (m : Message) (took : Took (r.version s) (r.place s) got m) (old new : Option (List TalkEvent)) (next : S) where
    is_message : IsMessageBy r s m
    is_message = record { has_spelling = took.has_spelling; to_helper = took.allowed; in_range = took.in_range }

    pub answered : (result : Result Unit HelpStatus) (so : AnswersTurn r old new s m next at result) → TakesTurn r (Some []) (Some (ins got ++ outs (sent_apart r old new s next m at result so).sent)) s next at got result
    answered result so =
        let apart = sent_apart r old new s next m at result so in
        turn_taken r s m (Some []) (Some (ins got)) (Some (ins got ++ outs apart.sent)) is_message (ap ins took.spelled) next at got took.spelled result (apart.behind (ins got))

-- ---- behind turns

-- the same behind other events
behind_taken : {S : Type 0} (r : TurnRules S) (before talk : List TalkEvent) (s next : S) (got : List ℕ) → Taken r (Some []) (Some talk) s next got → Taken r (Some before) (Some (before ++ talk)) s next got
behind_taken r before talk s next got so = record { turn = so.turn; is = so.is; state = so.state; going = so.going; talk = ap (λ (l : List TalkEvent). before ++ l) so.talk; whole = so.whole }

pub behind_stop : {S : Type 0} (r : TurnRules S) (before talk : List TalkEvent) (s : S) (at : ℕ) (status : HelpStatus) → StopsTurn r (Some []) (Some talk) s at status → StopsTurn r (Some before) (Some (before ++ talk)) s at status
behind_stop r before talk s at status so = record { rest = so.rest; talk = ap (λ (l : List TalkEvent). before ++ l) so.talk; ends = so.ends }

-- a part of a frame that is there
pub is_coming : (version : Version) (place : Place) (before : List TalkEvent) (got sent : List ℕ) (new : Coming) → sent ≡ [] → frame_bytes new.frame ≡ got → length got < asked version place got → new.lacking ≤ room_for version place got → IsComing version place before ((before ++ ins got) ++ outs sent) new
is_coming version place before got sent new silent there short lacks = record {
  last = ap (λ (l : List ℕ). (before ++ ins got) ++ outs l) silent ∙ append-nil (before ++ ins got) ∙ ap (λ (l : List ℕ). before ++ ins l) (sym there);
  short = subst (λ (l : List ℕ). length l < asked version place l) (sym there) short;
  lacks = subst (λ (l : List ℕ). new.lacking ≤ room_for version place l) (sym there) lacks;
}

-- no byte of the next frame is there
pub none_coming : (version : Version) (place : Place) (before : List TalkEvent) (new : Coming) → frame_bytes new.frame ≡ [] → new.lacking ≡ 0 → IsComing version place before before new
none_coming version place before new none unknown = record {
  last = sym (ap (λ (l : List ℕ). before ++ ins l) none ∙ append-nil before);
  short = short_empty version place (frame_bytes new.frame) none;
  lacks = omega (arith, unknown);
}

-- more of it came, which does not make it whole
pub more_coming : (version : Version) (place : Place) (before events : List TalkEvent) (old new : Coming) (piece : List ℕ) → IsComing version place before events old → length piece < old.lacking → new.lacking ≡ old.lacking - length piece → frame_bytes new.frame ≡ frame_bytes old.frame ++ piece → IsComing version place before (events ++ ins piece) new
more_coming version place before events old new piece so few lacking more =
    let got = frame_bytes old.frame in
    record {
      last = sym (events_more before events got (frame_bytes new.frame) piece so.last more);
      short = subst (λ (l : List ℕ). length l < asked version place l) (sym more) (lacking_short version place got piece old.lacking so.lacks few);
      lacks = subst (λ (n : ℕ). n ≤ room_for version place (frame_bytes new.frame)) (sym lacking) (subst (λ (l : List ℕ). old.lacking - length piece ≤ room_for version place l) (sym more) (lacking_less version place got piece old.lacking so.lacks few));
    }

-- there is room for the offset
pub offset_few : {S : Type 0} (r : TurnRules S) (left : S → ℕ) (first s : S) (start before : List TalkEvent) (at offset now : ℕ) → UnderWay r left first at (Some start) (Some before) s offset → now ≡ offset → at ≤ 2 ^ 62 → now ≤ most_received
offset_few r left first s start before at offset now turns same few = omega (arith, turns.room, same, few)

-- ---- a talk that went on

module _ {H : Type 0} (r : TurnRules H) (left : H → ℕ) (is_live : H → Bool) (first : H) (at : ℕ) (start events : List TalkEvent) (helper : H) (old : Coming) (goes : Goes r left is_live first at start events helper old) where
  -- by what came of a piece: it goes on, or ended
  abbrev pub WentBy : List TalkEvent → H → Coming → Came → Type 0
  WentBy all next new Part = Goes r left is_live first at start all next new
  WentBy all next new Turn = Goes r left is_live first at start all next new
  WentBy all next new (End status) = ServesOn r first at (Some start) (Some all) status

  module _ (put new : Coming) (next : H) (sent : List ℕ) (same : put.offset ≡ old.offset) where
    abbrev got : List ℕ
    got = frame_bytes put.frame

    joined : goes.before ++ (ins got ++ outs sent) ≡ (goes.before ++ ins got) ++ outs sent
    joined = sym (append_assoc goes.before (ins got) (outs sent))

    part_then : ComesPart r left is_live helper next sent put new → Goes r left is_live first at start ((goes.before ++ ins got) ++ outs sent) helper new
    part_then so = record {
      before = goes.before;
      turns = subst (λ (n : ℕ). UnderWay r left first at (Some start) (Some goes.before) helper n) (sym (so.at ∙ same)) goes.turns;
      live = goes.live;
      part = is_coming (r.version helper) (r.place helper) goes.before got sent new so.silent so.there so.short so.lacks;
    }

    turn_then : ComesTurn r left is_live helper next sent put new → Goes r left is_live first at start ((goes.before ++ ins got) ++ outs sent) next new
    turn_then so =
        let all = (goes.before ++ ins got) ++ outs sent in
        let took = subst (λ (e : List TalkEvent). Taken r (Some goes.before) (Some e) helper next got) joined (behind_taken r goes.before (ins got ++ outs sent) helper next got so.taken) in
        let far = goes_on r left first at (Some start) (Some goes.before) (Some all) helper old.offset goes.turns next got (length got) refl so.fewer took in
        record {
          before = all;
          turns = subst (λ (n : ℕ). UnderWay r left first at (Some start) (Some all) next n) (sym (so.at ∙ ap (λ (n : ℕ). n + length got) same)) far;
          live = so.live;
          part = none_coming (r.version next) (r.place next) all new so.empty so.unknown;
        }

    end_then : (status : HelpStatus) → StopsTurn r (Some []) (Some (ins got ++ outs sent)) helper put.offset status → ServesOn r first at (Some start) (Some ((goes.before ++ ins got) ++ outs sent)) status
    end_then status so =
        let stop = behind_stop r goes.before (ins got ++ outs sent) helper old.offset status (subst (λ (n : ℕ). StopsTurn r (Some []) (Some (ins got ++ outs sent)) helper n status) same so) in
        ends r left first at (Some start) (Some goes.before) (Some ((goes.before ++ ins got) ++ outs sent)) helper old.offset goes.turns status
        (subst (λ (e : List TalkEvent). StopsTurn r (Some goes.before) (Some e) helper old.offset status) joined stop)

    pub went : (came : Came) → Comes r left is_live helper next sent put new came → WentBy ((goes.before ++ ins got) ++ outs sent) next new came
    went Part so = subst (λ (h : H). Goes r left is_live first at start ((goes.before ++ ins got) ++ outs sent) h new) (sym so.same) (part_then so)
    went Turn so = turn_then so
    went (End status) so = end_then status so

  -- the other end closed
  pub closed_then : ServesOn r first at (Some start) (Some (events ++ Ended ∷ [])) PeerClosed
  closed_then =
      let got = frame_bytes old.frame in
      let stop = behind_stop r goes.before (ins got ++ Ended ∷ []) helper old.offset PeerClosed (stops_closed r helper old.offset got goes.part.short) in
      let all : goes.before ++ (ins got ++ Ended ∷ []) ≡ events ++ Ended ∷ [] = sym (append_assoc goes.before (ins got) (Ended ∷ [])) ∙ sym (ap (λ (e : List TalkEvent). e ++ Ended ∷ []) goes.part.last) in
      ends r left first at (Some start) (Some goes.before) (Some (events ++ Ended ∷ [])) helper old.offset goes.turns PeerClosed
      (subst (λ (e : List TalkEvent). StopsTurn r (Some goes.before) (Some e) helper old.offset PeerClosed) all stop)

  -- bytes came that are too few for a look
  pub gathered : (new : Coming) (piece : List ℕ) → length piece < old.lacking → new.lacking ≡ old.lacking - length piece → new.offset ≡ old.offset → frame_bytes new.frame ≡ frame_bytes old.frame ++ piece → Goes r left is_live first at start (events ++ ins piece) helper new
  gathered new piece few lacking same more = record {
    before = goes.before;
    turns = subst (λ (n : ℕ). UnderWay r left first at (Some start) (Some goes.before) helper n) (sym same) goes.turns;
    live = goes.live;
    part = more_coming (r.version helper) (r.place helper) goes.before events old new piece goes.part few lacking more;
  }

-- there is none where it is not that there is some
pub none_of : {X : Type 0} (o : Option X) → is_some o ≡ false → o ≡ None
none_of None e = refl
none_of (Some x) e = absurd cc

pub some_of : {X : Type 0} (o : Option X) → o ≡ None → IsSome o → ⊥
some_of None e is = absurd cc
some_of (Some x) e is = absurd cc

-- a talk that has not ended goes on
pub still_served : {H : Type 0} (r : TurnRules H) (left : H → ℕ) (is_live : H → Bool) (first : H) (events : List TalkEvent) (s : Serving H) → s.status ≡ None → Goes r left is_live first 0 [] events s.helper s.coming → IsServed r left is_live first events s
still_served r left is_live first events s none goes = subst (λ (how : Option HelpStatus). IsServedBy r left is_live first events s how) (sym none) goes

pub goes_of : {H : Type 0} (r : TurnRules H) (left : H → ℕ) (is_live : H → Bool) (first : H) (events : List TalkEvent) (s : Serving H) → s.status ≡ None → IsServed r left is_live first events s → Goes r left is_live first 0 [] events s.helper s.coming
goes_of r left is_live first events s none served = subst (λ (how : Option HelpStatus). IsServedBy r left is_live first events s how) none served

-- by what came of a piece
pub served_then : {H : Type 0} (r : TurnRules H) (left : H → ℕ) (is_live : H → Bool) (first : H) (events all : List TalkEvent) (s : Serving H) (helper : H) (old : Coming) (goes : Goes r left is_live first 0 [] events helper old) (came : Came) → s.status ≡ end_of came → WentBy r left is_live first 0 [] events helper old goes all s.helper s.coming came → IsServed r left is_live first all s
served_then r left is_live first events all s helper old goes Part none so = still_served r left is_live first all s none so
served_then r left is_live first events all s helper old goes Turn none so = still_served r left is_live first all s none so
served_then r left is_live first events all s helper old goes (End status) some so = subst (λ (how : Option HelpStatus). IsServedBy r left is_live first all s how) (sym some) so

-- ---- pieces

-- what came and what was sent behind it
pub passes_piece : (old new : Option (List TalkEvent)) (events before : List TalkEvent) (part now piece sent : List ℕ) (After : List TalkEvent → Type 0) → events ≡ before ++ ins part → now ≡ part ++ piece → GoesOn old new (outs sent) → After ((before ++ ins now) ++ outs sent)
    → Passes old new piece events After
passes_piece old new events before part now piece sent After last more went after = record {
  more = ins piece ++ outs sent;
  came = heard-append (ins piece) (outs sent) ∙ ap (λ (l : List ℕ). l ++ heard (outs sent)) (heard-ins piece) ∙ ap (λ (l : List ℕ). piece ++ l) (heard-outs sent) ∙ append-nil piece;
  went = subst (λ (l : List ℕ). GoesOn old new (outs l)) (sym (written-append (ins piece) (outs sent) ∙ ap (λ (l : List ℕ). l ++ written (outs sent)) (written-ins piece) ∙ written-outs sent)) went;
  after = subst After (ap (λ (e : List TalkEvent). e ++ outs sent) (events_more before events part now piece last more) ∙ append_assoc events (ins piece) (outs sent)) after;
}

-- nothing came and nothing was sent
pub passes_none : (old : Option (List TalkEvent)) (events : List TalkEvent) (After : List TalkEvent → Type 0) → GoesOn old old [] → After events → Passes old old [] events After
passes_none old events After same after = record { more = []; came = refl; went = same; after = subst After (sym (append-nil events)) after }

-- bytes came and nothing was sent
pub passes_took : (old : Option (List TalkEvent)) (events : List TalkEvent) (piece : List ℕ) (After : List TalkEvent → Type 0) → GoesOn old old [] → After (events ++ ins piece) → Passes old old piece events After
passes_took old events piece After same after = record {
  more = ins piece;
  came = heard-ins piece;
  went = subst (λ (l : List ℕ). GoesOn old old (outs l)) (sym (written-ins piece)) same;
  after = after;
}

-- more came behind what came
pub passes_more : (old mid new : Option (List TalkEvent)) (one two : List ℕ) (events : List TalkEvent) (During After : List TalkEvent → Type 0) → Passes old mid one events During → ((all : List TalkEvent) → During all → Passes mid new two all After) → Passes old new (one ++ two) events After
passes_more old mid new one two events During After some then =
    let next = then (events ++ some.more) some.after in
    record {
      more = some.more ++ next.more;
      came = heard-append some.more next.more ∙ ap (λ (l : List ℕ). l ++ heard next.more) some.came ∙ ap (λ (l : List ℕ). one ++ l) next.came;
      went = subst (λ (l : List TalkEvent). GoesOn old new l) (sym (outs-append (written some.more) (written next.more)) ∙ ap outs (sym (written-append some.more next.more))) (GoesOn-trans old mid new (outs (written some.more)) (outs (written next.more)) some.went next.went);
      after = subst After (append_assoc events some.more next.more) next.after;
    }
