-- A talk that goes round by round, a message and the reply to it, against the steps of an honest helper.
use Rattle.std.proofs.Common.{◌≡◌, ◌≢◌, ℕ, ◌+◌, ◌<◌, Bool, false, IsTrue, List, [], ◌∷◌, ◌++◌, length, Result, Ok, refl, sym, ap, ◌∙◌, subst, append_assoc, append-nil, arith, length-append}
use Rattle.std.proofs.lemmas.List.{append_cancel_left}
use Rattle.sip_ports.specs.declared.port.TalkEvent.{TalkEvent}
use Rattle.sip_ports.specs.Ports.{heard, written, outs, ins}
use Rattle.sip_ports.proofs.TalkLemmas.{heard-append, written-append, written-outs, heard-outs, written-ins, heard-ins}
use Rattle.sip_wire.specs.declared.kind.Place.TheVariants.{ToHelper}
use Rattle.sip_wire.specs.declared.message.Message.{Message}
use Rattle.sip_wire.specs.declared.message.WireFault.{WireFault}
use Rattle.sip_wire.specs.declared.version.Version.{Version}
use Rattle.sip_wire.specs.Reading.{read_frame}
use Rattle.sip_wire.specs.Spelling.{asked, spelling}
use Rattle.sip_wire.proofs.ReadingLaws.{asked-spelling, length-spelling, read_frame-spelling}
use Rattle.sip_helper.specs.Serving.{IsMessage, Turn, heard_in, after_turn, state_after as state_behind}
use Rattle.sip_helper.specs.Turns.{HelperState, is_allowed, step, owed, after_answer}
use Rattle.sip_duel.proofs.TurnLemmas.{AreMessages, frames_of, replies_of}

-- ---- rounds

-- a message, and the bytes of the reply to it
pub record Round : Type 0 where
  pub message : Message
  pub reply : List ℕ

-- what happens in them
abbrev pub exchange : Version → List Round → List TalkEvent
exchange v [] = []
exchange v (r ∷ rest) = outs (spelling v r.message) ++ (ins r.reply ++ exchange v rest)

-- the message may come next, in frames that both ends spell alike
pub record Comes (v : Version) (s : HelperState) (m : Message) : Type 0 where
  pub is : IsMessage s.version m
  pub same : spelling v m ≡ spelling s.version m
  pub may : IsTrue (is_allowed s m)

-- Each message may come, and a reply that agrees with the one that is owed is that one where a round follows. Of the last reply,
-- where it agrees with the one that is owed, this holds.
abbrev pub Walk : (List ℕ → List ℕ → Type 0) → Version → HelperState → List Round → Type 0
Walk Last v s [] = ⊥
Walk Last v s (r ∷ []) = Comes v s r.message × ((refused : Bool) (u w : List ℕ) → r.reply ++ u ≡ owed (step s refused r.message) ++ w → Last r.reply (owed (step s refused r.message)))
Walk Last v s (r ∷ next ∷ rest) = Comes v s r.message × ((refused : Bool) (u w : List ℕ) → r.reply ++ u ≡ owed (step s refused r.message) ++ w
    → (r.reply ≡ owed (step s refused r.message)) × Walk Last v (after_answer (step s refused r.message)) (next ∷ rest))

pub walk_comes : (Last : List ℕ → List ℕ → Type 0) (v : Version) (s : HelperState) (r : Round) (rest : List Round) → Walk Last v s (r ∷ rest) → Comes v s r.message
walk_comes Last v s r [] walk = walk.0
walk_comes Last v s r (next ∷ rest) walk = walk.0

pub written_exchange : (v : Version) (r : Round) (rest : List Round) → written (exchange v (r ∷ rest)) ≡ spelling v r.message ++ written (exchange v rest)
written_exchange v r rest =
    written-append (outs (spelling v r.message)) (ins r.reply ++ exchange v rest)
    ∙ ap (λ l. l ++ written (ins r.reply ++ exchange v rest)) (written-outs (spelling v r.message))
    ∙ ap (λ l. spelling v r.message ++ l) (written-append (ins r.reply) (exchange v rest) ∙ ap (λ l. l ++ written (exchange v rest)) (written-ins r.reply))

pub heard_exchange : (v : Version) (r : Round) (rest : List Round) → heard (exchange v (r ∷ rest)) ≡ r.reply ++ heard (exchange v rest)
heard_exchange v r rest =
    heard-append (outs (spelling v r.message)) (ins r.reply ++ exchange v rest)
    ∙ ap (λ l. l ++ heard (ins r.reply ++ exchange v rest)) (heard-outs (spelling v r.message))
    ∙ heard-append (ins r.reply) (exchange v rest) ∙ ap (λ l. l ++ heard (exchange v rest)) (heard-ins r.reply)

-- ---- messages in front of bytes

pub spelled_some : (version : Version) (m : Message) (rest : List ℕ) → spelling version m ++ rest ≢ []
spelled_some version m rest e = absurd (omega (arith, length-spelling version m, length-append (spelling version m) rest, ap (λ (l : List ℕ). length l) e))

pub read_message : (version : Version) (m : Message) (rest : List ℕ) → IsMessage version m → read_frame version ToHelper (spelling version m ++ rest) ≡ Ok (m, rest)
read_message version m rest is = read_frame-spelling version ToHelper m rest is.has_spelling is.to_helper is.in_range

-- the same bytes begin with one message
pub one_message : (version : Version) (m n : Message) (x y : List ℕ) → IsMessage version m → IsMessage version n → spelling version m ++ x ≡ spelling version n ++ y → (m ≡ n) × (x ≡ y)
one_message version m n x y im is e =
    let same : ◌≡◌ {A = Result (Message × List ℕ) WireFault} (Ok (m, x)) (Ok (n, y)) = sym (read_message version m x im) ∙ ap (read_frame version ToHelper) e ∙ read_message version n y is in
    let both : ◌≡◌ {A = Message × List ℕ} (m, x) (n, y) = cc in
    (ap (λ (p : Message × List ℕ). p.0) both, ap (λ (p : Message × List ℕ). p.1) both)

pub nil_parts : (a b : List ℕ) → a ++ b ≡ [] → (a ≡ []) × (b ≡ [])
nil_parts [] b e = (refl, e)
nil_parts (x ∷ a) b e = absurd cc

-- the message of a turn is that of its round
pub turn_message : (v : Version) (s : HelperState) (r : Round) (rest : List Round) (t : Turn) (bytes : List ℕ) → Comes v s r.message → IsMessage s.version t.message
    → written (exchange v (r ∷ rest)) ≡ spelling s.version t.message ++ bytes → (r.message ≡ t.message) × (written (exchange v rest) ≡ bytes)
turn_message v s r rest t bytes comes is e =
    one_message s.version r.message t.message (written (exchange v rest)) bytes comes.is is
    (ap (λ l. l ++ written (exchange v rest)) (sym comes.same) ∙ sym (written_exchange v r rest) ∙ e)

-- ---- a talk that goes on, or stopped without an end

-- of the last reply it holds
pub record Holds (Last : List ℕ → List ℕ → Type 0) : Type 0 where
  pub reply : List ℕ
  pub due : List ℕ
  pub last : Last reply due

module _ (Last : List ℕ → List ℕ → Type 0) (v : Version) where
  -- nothing more was heard
  pub walk_silent : (s : HelperState) (rounds : List Round) → Walk Last v s rounds → heard (exchange v rounds) ≡ [] → Holds Last
  walk_silent s [] walk none = absurd walk
  walk_silent s (r ∷ []) walk none =
      let nothing = nil_parts r.reply [] (sym (heard_exchange v r []) ∙ none) in
      let due : List ℕ = owed (step s false r.message) in
      record { reply = r.reply; due = due; last = walk.1 false due [] (ap (λ l. l ++ due) nothing.0 ∙ sym (append-nil due)) }
  walk_silent s (r ∷ next ∷ rest) walk none =
      let nothing = nil_parts r.reply (heard (exchange v (next ∷ rest))) (sym (heard_exchange v r (next ∷ rest)) ∙ none) in
      let due : List ℕ = owed (step s false r.message) in
      let on = walk.1 false due [] (ap (λ l. l ++ due) nothing.0 ∙ sym (append-nil due)) in
      walk_silent (after_answer (step s false r.message)) (next ∷ rest) on.1 nothing.1

  pub walk_on : (s : HelperState) (ts : List Turn) (rounds : List Round) (part tail : List ℕ) → Walk Last v s rounds → AreMessages s ts
      → written (exchange v rounds) ≡ frames_of s ts ++ part → heard (exchange v rounds) ++ tail ≡ replies_of s ts → Holds Last
  walk_on s [] rounds part tail walk are sent came = walk_silent s rounds walk (nil_parts (heard (exchange v rounds)) tail came).0
  walk_on s (t ∷ ts) [] part tail walk are sent came = absurd walk
  walk_on s (t ∷ ts) (r ∷ []) part tail walk are sent came =
      let same = turn_message v s r [] t (frames_of (after_turn s t) ts ++ part) walk.0 are.0 (sent ∙ append_assoc (spelling s.version t.message) (frames_of (after_turn s t) ts) part) in
      let due : List ℕ = owed (step s t.refused r.message) in
      let agree : r.reply ++ tail ≡ due ++ replies_of (after_turn s t) ts =
      ap (λ l. l ++ tail) (sym (heard_exchange v r [] ∙ append-nil r.reply)) ∙ came ∙ ap (λ m. owed (step s t.refused m) ++ replies_of (after_turn s t) ts) (sym same.0) in
      record { reply = r.reply; due = due; last = walk.1 t.refused tail (replies_of (after_turn s t) ts) agree }
  walk_on s (t ∷ ts) (r ∷ next ∷ rest) part tail walk are sent came =
      let same = turn_message v s r (next ∷ rest) t (frames_of (after_turn s t) ts ++ part) walk.0 are.0 (sent ∙ append_assoc (spelling s.version t.message) (frames_of (after_turn s t) ts) part) in
      let due : List ℕ = owed (step s t.refused r.message) in
      let others : List ℕ = heard (exchange v (next ∷ rest)) in
      let agree : r.reply ++ (others ++ tail) ≡ due ++ replies_of (after_turn s t) ts =
      sym (append_assoc r.reply others tail) ∙ ap (λ l. l ++ tail) (sym (heard_exchange v r (next ∷ rest))) ∙ came ∙ ap (λ m. owed (step s t.refused m) ++ replies_of (after_turn s t) ts) (sym same.0) in
      let on = walk.1 t.refused (others ++ tail) (replies_of (after_turn s t) ts) agree in
      let state : after_answer (step s t.refused r.message) ≡ after_turn s t = ap (λ m. after_answer (step s t.refused m)) same.0 in
      walk_on (after_turn s t) ts (next ∷ rest) part tail (subst (λ x. Walk Last v x (next ∷ rest)) state on.1) are.1 same.1
      (append_cancel_left due (others ++ tail) (replies_of (after_turn s t) ts) (ap (λ l. l ++ (others ++ tail)) (sym on.0) ∙ agree))

  -- ---- a talk whose end was told

  -- the reply is the one that was due
  pub record HoldsOfWhole : Type 0 where
    pub reply : List ℕ
    pub due : List ℕ
    pub last : Last reply due
    pub whole : reply ≡ due

  no_part : (s : HelperState) (r : Round) (rest : List Round) (part : List ℕ) → Comes v s r.message → written (exchange v (r ∷ rest)) ≡ part → length part < asked s.version ToHelper part → ⊥
  no_part s r rest part comes e short =
      let is : part ≡ spelling s.version r.message ++ written (exchange v rest) = sym e ∙ written_exchange v r rest ∙ ap (λ l. l ++ written (exchange v rest)) comes.same in
      let size = ap (asked s.version ToHelper) is ∙ asked-spelling s.version ToHelper r.message (written (exchange v rest)) comes.is.has_spelling comes.is.to_helper in
      absurd (omega (arith, short, size, ap (λ l. length l) is, length-append (spelling s.version r.message) (written (exchange v rest))))

  none_more : (s : HelperState) (ts : List Turn) (part : List ℕ) → frames_of s ts ++ part ≡ [] → ts ≡ []
  none_more s [] part e = refl
  none_more s (t ∷ ts) part e = absurd (spelled_some s.version t.message (frames_of (after_turn s t) ts) (nil_parts (frames_of s (t ∷ ts)) part e).0)

  pub walk_ended : (s : HelperState) (ts : List Turn) (rounds : List Round) (part : List ℕ) → Walk Last v s rounds → AreMessages s ts
      → written (exchange v rounds) ≡ frames_of s ts ++ part → heard (exchange v rounds) ≡ replies_of s ts → length part < asked (state_behind s ts).version ToHelper part → HoldsOfWhole
  walk_ended s ts [] part walk are sent came short = absurd walk
  walk_ended s [] (r ∷ rest) part walk are sent came short = absurd (no_part s r rest part (walk_comes Last v s r rest walk) sent short)
  walk_ended s (t ∷ ts) (r ∷ []) part walk are sent came short =
      let same = turn_message v s r [] t (frames_of (after_turn s t) ts ++ part) walk.0 are.0 (sent ∙ append_assoc (spelling s.version t.message) (frames_of (after_turn s t) ts) part) in
      let due : List ℕ = owed (step s t.refused r.message) in
      let none : ts ≡ [] = none_more (after_turn s t) ts part (sym same.1) in
      let whole : r.reply ≡ due =
      sym (heard_exchange v r [] ∙ append-nil r.reply) ∙ came ∙ ap (λ l. owed (heard_in s t) ++ replies_of (after_turn s t) l) none ∙ append-nil (owed (heard_in s t)) ∙ ap (λ m. owed (step s t.refused m)) (sym same.0) in
      record { reply = r.reply; due = due; last = walk.1 t.refused [] [] (ap (λ l. l ++ []) whole); whole = whole }
  walk_ended s (t ∷ ts) (r ∷ next ∷ rest) part walk are sent came short =
      let same = turn_message v s r (next ∷ rest) t (frames_of (after_turn s t) ts ++ part) walk.0 are.0 (sent ∙ append_assoc (spelling s.version t.message) (frames_of (after_turn s t) ts) part) in
      let due : List ℕ = owed (step s t.refused r.message) in
      let others : List ℕ = heard (exchange v (next ∷ rest)) in
      let agree : r.reply ++ others ≡ due ++ replies_of (after_turn s t) ts =
      sym (heard_exchange v r (next ∷ rest)) ∙ came ∙ ap (λ m. owed (step s t.refused m) ++ replies_of (after_turn s t) ts) (sym same.0) in
      let on = walk.1 t.refused others (replies_of (after_turn s t) ts) agree in
      let state : after_answer (step s t.refused r.message) ≡ after_turn s t = ap (λ m. after_answer (step s t.refused m)) same.0 in
      walk_ended (after_turn s t) ts (next ∷ rest) part (subst (λ x. Walk Last v x (next ∷ rest)) state on.1) are.1 same.1
      (append_cancel_left due others (replies_of (after_turn s t) ts) (ap (λ l. l ++ others) (sym on.0) ∙ agree)) short
