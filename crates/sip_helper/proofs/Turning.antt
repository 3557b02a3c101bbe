-- How one turn ends.
use Rattle.std.proofs.Common.{◌≡◌, ◌⊎◌, ℕ, ◌+◌, Bool, true, false, not, ◌||◌, nat_le, if◌then◌else◌, Option, Some, None, List, [], ◌++◌, length, Result, Ok, Err, inl, inr, refl, sym, ap, subst, ◌∙◌, append-nil}
use Rattle.std.specs.Prelude.{IsOk, IsTrue, OnOk, is_err}
use Rattle.std.specs.Option.{option_and_then}
use Rattle.std.specs.List.{flat_map}
use Rattle.std.proofs.lemmas.Bool.{both_ways, not-false}
use Rattle.sip_ports.specs.declared.port.PortStop.{PortStop}
use Rattle.sip_ports.specs.declared.port.PortStop.TheVariants as stops
use Rattle.sip_ports.specs.declared.port.TalkEvent.{TalkEvent}
use Rattle.sip_ports.specs.Ports.{GoesOn, SendsWhole, Rose, ins}
use Rattle.sip_ports.proofs.TalkLemmas.{GoesOn-trans}
use Rattle.sip_wire.specs.declared.kind.Place.{Place}
use Rattle.sip_wire.specs.declared.message.Message.{Message}
use Rattle.sip_wire.specs.declared.message.Message.TheVariants as messages
use Rattle.sip_wire.specs.declared.message.WireFault.{WireFault}
use Rattle.sip_wire.specs.declared.message.WireFault.TheVariants as faults
use Rattle.sip_wire.specs.declared.version.Version.{Version}
use Rattle.sip_wire.specs.Decoding.{Decodes}
use Rattle.sip_wire.specs.Faults.{IsOfBytes}
use Rattle.sip_wire.specs.Reading.{read_frame}
use Rattle.sip_wire.specs.Spelling.{spelling}
use Rattle.sip_helper.specs.declared.status.HelpStatus.{HelpStatus}
use Rattle.sip_helper.specs.declared.status.HelpStatus.TheVariants.{Served, BadFrame, PeerClosed, PeerFault, OutOfMemory}
use Rattle.sip_helper.specs.OneTurn.{AnswersTurn, CutsRefusal, CutsReply, StopsTurn, TakesTurn, refusal_by}
use Rattle.sip_helper.specs.Rules.{IsCutShortBy, IsMessageBy, TurnRules}
use Rattle.sip_helper.specs.Statuses.{status_of_fault, status_of_stop}
use Rattle.sip_helper.specs.Turns.{HelperState, OpenQuery, after_answer, after_reply, depth_of, is_refused, owed, owes, reply_to, step}

-- a message that came in the version of a state, at the place that is awaited
pub in_version : {S : Type 0} (r : TurnRules S) (s : S) (version : Version) (place : Place) (old mid : Option (List TalkEvent)) (before now : ℕ) (got : List ℕ) (came : Result Message WireFault) → version ≡ r.version s → place ≡ r.place s → Decodes version place old mid before now got came → Decodes (r.version s) (r.place s) old mid before now got came
in_version r s version place old mid before now got came same there did =
    subst (λ (p : Place). Decodes (r.version s) p old mid before now got came) there (subst (λ (v : Version). Decodes v place old mid before now got came) same did)

module _ {S : Type 0} (r : TurnRules S) (s : S) (old mid : Option (List TalkEvent)) (before now : ℕ) (got : List ℕ) where
  -- ---- no message came

  shown : (at : ℕ) (f : WireFault) → Decodes (r.version s) (r.place s) old mid before now got (Err f) → GoesOn old mid (ins got ++ []) → IsOfBytes f → read_frame (r.version s) (r.place s) got ≡ Err f → StopsTurn r old mid s at (BadFrame at)
  shown at f did talk bytes read = record {
    rest = ins got ++ [];
    talk = talk;
    ends = (refl, inl (record { got = got; fault = f; shown = bytes; read = read; shortest = did.short; said = append-nil (ins got) }));
  }

  pub no_message : (at : ℕ) (f : WireFault) → Decodes (r.version s) (r.place s) old mid before now got (Err f) → StopsTurn r old mid s at (status_of_fault f at)
  no_message at faults.Closed did = record { rest = _; talk = did.heard; ends = record { got = got; read = did.answer; said = refl } }
  no_message at faults.BadKind did = shown at faults.BadKind did did.heard tt did.answer
  no_message at faults.BadLength did = shown at faults.BadLength did did.heard tt did.answer
  no_message at faults.BadCount did = shown at faults.BadCount did did.heard tt did.answer
  no_message at faults.BadNumber did = shown at faults.BadNumber did did.heard tt did.answer
  no_message at faults.PeerFault did = record { rest = _; talk = did.heard; ends = inl (record { got = got; read = did.answer.0; said = refl }) }
  no_message at faults.OutOfMemory did = record { rest = _; talk = did.heard; ends = inl (record { got = got; read = did.answer; said = refl }) }

  -- and the link failed only where its count rose
  pub fault_rose : (f : WireFault) (at : ℕ) → Decodes (r.version s) (r.place s) old mid before now got (Err f) → status_of_fault f at ≡ PeerFault → Rose before now
  fault_rose faults.Closed at did e = absurd cc
  fault_rose faults.BadKind at did e = absurd cc
  fault_rose faults.BadLength at did e = absurd cc
  fault_rose faults.BadCount at did e = absurd cc
  fault_rose faults.BadNumber at did e = absurd cc
  fault_rose faults.PeerFault at did e = did.answer.1
  fault_rose faults.OutOfMemory at did e = absurd cc

-- ---- a message came in a state

module _ {S : Type 0} (r : TurnRules S) (s : S) (m : Message) where
  module _ (old new : Option (List TalkEvent)) (next : S) (at : ℕ) where
    -- what was under way is cut short
    cut : (stop : PortStop) → CutsReply r old new s m ⊎ CutsRefusal r old new s m → AnswersTurn r old new s m next at (Err (status_of_stop stop))
    cut stops.Failed so = so
    cut stops.OutOfMemory so = so

    -- a part of the refusal went out
    pub refusal_cut : (stop : PortStop) → r.is_allowed s m ≡ false → SendsWhole {T = Unit {0}} old new (Err stop) (refusal_by r s) → AnswersTurn r old new s m next at (Err (status_of_stop stop))
    refusal_cut stop out went = cut stop (inr (record { out = out; sent = went.0; short = went.1; talk = went.2 }))

    -- a part of the reply went out
    pub reply_cut : (stop : PortStop) → IsTrue (r.is_allowed s m) → (memory : Bool) → SendsWhole {T = Unit {0}} old new (Err stop) (r.owed (r.step s memory m)) → AnswersTurn r old new s m next at (Err (status_of_stop stop))
    reply_cut stop allowed memory went = cut stop (inl (record { allowed = allowed; refused = memory; sent = went.0; short = went.1; talk = went.2 }))

  -- its bytes came, and then what it leads to was sent
  module _ (old mid new : Option (List TalkEvent)) (is : IsMessageBy r s m) (received : GoesOn old mid (ins (spelling (r.version s) m))) (next : S) (at : ℕ) (got : List ℕ) (whole : got ≡ spelling (r.version s) m) where
    then_sent : (events : List TalkEvent) → GoesOn mid new events → GoesOn old new (ins (spelling (r.version s) m) ++ events)
    then_sent events went = GoesOn-trans old mid new _ events received went

    -- a part of the reply, or of the refusal
    part_sent : CutsReply r mid new s m ⊎ CutsRefusal r mid new s m → (rest : List TalkEvent) × GoesOn old new rest × IsCutShortBy r s rest
    part_sent (inl so) = (_, then_sent _ so.talk, inr (inl (record { turn = record { message = m; refused = so.refused }; is = record { message = is; allowed = so.allowed }; sent = so.sent; short = so.short; said = refl })))
    part_sent (inr so) = (_, then_sent _ so.talk, inr (inr (record { message = m; is = is; out = so.out; sent = so.sent; short = so.short; said = refl })))

    pub turn_taken : (result : Result Unit HelpStatus) → AnswersTurn r mid new s m next at result → TakesTurn r old new s next at got result
    turn_taken (Ok _) so = record {
      turn = record { message = m; refused = so.refused };
      is = record { message = is; allowed = so.allowed };
      state = so.state;
      going = so.going;
      talk = then_sent _ so.sent;
      whole = whole;
    }
    turn_taken (Err Served) so = record { rest = _; talk = then_sent [] so.silent; ends = append-nil (ins (spelling (r.version s) m)) ∙ ap (λ (x : Message). ins (spelling (r.version s) x)) so.is }
    turn_taken (Err (BadFrame offset)) so = record { rest = _; talk = then_sent _ so.1.sent; ends = (so.0, inr (record { message = m; is = is; out = so.1.out; said = refl })) }
    turn_taken (Err PeerClosed) so = absurd so
    turn_taken (Err PeerFault) so = let part = part_sent so in record { rest = part.0; talk = part.1; ends = part.2 }
    turn_taken (Err OutOfMemory) so = let part = part_sent so in record { rest = part.0; talk = part.1; ends = part.2 }

-- a message that was received in the version of a state, at the place that is awaited
pub message_came : {S : Type 0} (r : TurnRules S) (s : S) (old mid : Option (List TalkEvent)) (before now : ℕ) (got : List ℕ) (m : Message) → Decodes (r.version s) (r.place s) old mid before now got (Ok m) → IsMessageBy r s m × GoesOn old mid (ins (spelling (r.version s) m)) × (got ≡ spelling (r.version s) m)
message_came r s old mid before now got m did = (
  record { has_spelling = did.answer.has_spelling; to_helper = did.answer.allowed; in_range = did.answer.in_range },
  subst (GoesOn old mid) (append-nil (ins got) ∙ ap ins did.answer.spelled) did.heard,
  did.answer.spelled,
)

-- ---- states

-- only a farewell ends the talk
pub only_bye : (s : HelperState) (memory : Bool) (m : Message) → s.done ≡ false → (step s memory m).done ≡ true → m ≡ messages.Bye
only_bye s memory messages.Bye going done = refl
only_bye s memory (messages.Open _ _) going done = absurd (both_ways s.done going done)
only_bye s memory (messages.Updates _) going done = absurd (both_ways s.done going done)
only_bye s memory messages.EndStream going done = absurd (both_ways s.done going done)
only_bye s memory (messages.Query _) going done = absurd (both_ways s.done going done)
only_bye s memory (messages.Reveal _) going done = absurd (both_ways s.done going done)
only_bye s memory (messages.Claim _) going done = absurd (both_ways s.done going done)
only_bye s memory (messages.Poly _ _ _) going done = absurd (both_ways s.done going done)
only_bye s memory (messages.Entries _) going done = absurd (both_ways s.done going done)
only_bye s memory (messages.Siblings _ _) going done = absurd (both_ways s.done going done)
only_bye s memory (messages.Leaves _) going done = absurd (both_ways s.done going done)
only_bye s memory (messages.Nodes _) going done = absurd (both_ways s.done going done)
only_bye s memory messages.LevelEnd going done = absurd (both_ways s.done going done)
only_bye s memory (messages.Refuse _) going done = absurd (both_ways s.done going done)
only_bye s memory (messages.AskLook code item) going done = absurd (both_ways s.done going done)
only_bye s memory (messages.Found flag index) going done = absurd (both_ways s.done going done)
only_bye s memory messages.End going done = absurd (both_ways s.done going done)
only_bye s memory (messages.AskMoment side degree) going done = absurd (both_ways s.done going done)
only_bye s memory (messages.Held held) going done = absurd (both_ways s.done going done)
only_bye s memory (messages.Recall count) going done = absurd (both_ways s.done going done)
only_bye s memory (messages.Marks v) going done = absurd (both_ways s.done going done)
only_bye s memory (messages.Power v) going done = absurd (both_ways s.done going done)

stays : (s : HelperState) (q : Option OpenQuery) → s.open_query ≡ q → option_and_then (after_reply (depth_of s.heard) s.vectors) q ≡ q → after_answer s ≡ s
stays s q is e = ap (λ (x : Option OpenQuery). record s { open_query = x }) (ap (option_and_then (after_reply (depth_of s.heard) s.vectors)) is ∙ e ∙ sym is)

-- where no reply is owed, none is sent and nothing changes
pub owes_nothing : (s : HelperState) → owes s ≡ false → (owed s ≡ []) × (after_answer s ≡ s)
owes_nothing s not_owed = by_query s.open_query refl
  where
    by_query : (q : Option OpenQuery) → s.open_query ≡ q → (owed s ≡ []) × (after_answer s ≡ s)
    by_query None is = (ap (λ (x : Option OpenQuery). owed (record s { open_query = x })) is, stays s None is refl)
    by_query (Some o) is =
        let owing : not o.given ≡ false = sym (ap (λ (x : Option OpenQuery). owes (record s { open_query = x })) is) ∙ not_owed in
        let given : o.given ≡ true = not-false o.given owing in (
          ap (λ (x : Option OpenQuery). owed (record s { open_query = x })) is ∙ ap (λ (b : Bool). flat_map (spelling s.version) (if b then [] else reply_to s.vectors o)) given,
          stays s (Some o) is (ap (λ (b : Bool). if b then Some o else (if is_refused s.vectors o || nat_le (depth_of s.heard) (length o.revealed + 1) then None else Some (record o { given = true }))) given),
        )

-- ---- what a call answered

pub not_allowed : {T E : Type 0} (r : Result T E) (b : Bool) → (IsOk r → IsTrue b) × (IsTrue b → IsOk r) → is_err r ≡ true → b ≡ false
not_allowed (Ok x) b h e = absurd cc
not_allowed (Err x) true h e = absurd (both_ways false refl (h.1 refl))
not_allowed (Err x) false h e = refl

pub is_allowed_by : {T E : Type 0} (r : Result T E) (b : Bool) → (IsOk r → IsTrue b) × (IsTrue b → IsOk r) → is_err r ≡ false → IsTrue b
is_allowed_by (Ok x) b h e = h.0 refl
is_allowed_by (Err x) b h e = absurd cc

pub on_ok_holds : {T E : Type 0} (P : Type 0) (r : Result T E) → is_err r ≡ false → OnOk r P → P
on_ok_holds P (Ok x) e h = h
on_ok_holds P (Err x) e h = absurd cc

-- what was taken may come, and the state after it is that of the rules
pub is_heard : {S T E : Type 0} (r : TurnRules S) (s new : S) (m : Message) (result : Result T E) → is_err result ≡ false → (IsOk result → IsTrue (r.is_allowed s m)) × (IsTrue (r.is_allowed s m) → IsOk result)
    → OnOk result ((memory : Bool) × (new ≡ r.step s memory m)) → IsTrue (r.is_allowed s m) × ((memory : Bool) × (new ≡ r.step s memory m))
is_heard r s new m result went turn heard = (is_allowed_by result (r.is_allowed s m) turn went, on_ok_holds ((memory : Bool) × (new ≡ r.step s memory m)) result went heard)
