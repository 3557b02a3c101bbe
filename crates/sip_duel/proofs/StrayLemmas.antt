-- A talk that goes round by round never strays from the turns of an honest helper.
use Rattle.std.proofs.Common.{◌≡◌, ◌≢◌, ◌⊎◌, ℕ, true, false, List, [], ◌∷◌, ◌++◌, Result, Ok, Err, inl, inr, refl, sym, ap, ◌∙◌, subst, append_assoc, append-nil, arith}
use Rattle.std.proofs.lemmas.List.{append_cancel_left}
use Rattle.sip_ports.specs.declared.port.TalkEvent.{TalkEvent}
use Rattle.sip_ports.specs.declared.port.TalkEvent.TheVariants.{Out, In}
use Rattle.sip_ports.specs.Ports.{heard, written, outs, ins}
use Rattle.sip_ports.proofs.TalkLemmas.{heard-append, written-append, written-outs, heard-outs, written-ins, heard-ins}
use Rattle.sip_wire.specs.declared.kind.Place.TheVariants.{ToHelper}
use Rattle.sip_wire.specs.declared.message.Message.{Message}
use Rattle.sip_wire.specs.declared.message.WireFault.{WireFault}
use Rattle.sip_wire.specs.declared.message.WireFault.TheVariants as faults
use Rattle.sip_wire.specs.declared.version.Version.{Version}
use Rattle.sip_wire.specs.Faults.{IsOfBytes}
use Rattle.sip_wire.specs.Reading.{read_frame}
use Rattle.sip_wire.specs.Spelling.{spelling}
use Rattle.sip_wire.specs.Taking.{IsNoFrame}
use Rattle.sip_wire.proofs.ReadingLaws.{asked-least, read_frame-append_fault, read_frame-closed}
use Rattle.sip_helper.specs.Serving.{IsMessage, Turn, after_turn, state_after as state_behind}
use Rattle.sip_helper.specs.Turns.{HelperState, is_allowed, step, owed, after_answer}
use Rattle.sip_duel.specs.Story.{IsOutOfTurn}
use Rattle.sip_duel.proofs.TurnLemmas.{AreMessages, frames_of, replies_of}
use Rattle.sip_duel.proofs.WalkLemmas.{Round, exchange, Comes, Walk, walk_comes, written_exchange, spelled_some, read_message, one_message, nil_parts}

-- ---- the front of a talk

-- what was sent in front of more that was sent
peel_outs : (bytes : List ℕ) (now later rest : List TalkEvent) (more : List ℕ) → now ++ later ≡ outs bytes ++ rest → written now ≡ bytes ++ more
    → (after : List TalkEvent) × (now ≡ outs bytes ++ after) × (after ++ later ≡ rest)
peel_outs [] now later rest more e sent = (now, refl, e)
peel_outs (b ∷ bytes) [] later rest more e sent = absurd cc
peel_outs (b ∷ bytes) (x ∷ now) later rest more e sent =
    let head : x ≡ Out b = cc in
    let tail : now ++ later ≡ outs bytes ++ rest = cc in
    let less : b ∷ written now ≡ b ∷ (bytes ++ more) = ap (λ y. written (y ∷ now)) (sym head) ∙ sent in
    let on = peel_outs bytes now later rest more tail cc in
    (on.0, ap (λ y. y ∷ now) head ∙ ap (λ l. Out b ∷ l) on.1, on.2)

-- what was heard in front of something that was sent
peel_ins : (bytes : List ℕ) (now later rest : List TalkEvent) → now ++ later ≡ ins bytes ++ rest → written now ≢ []
    → (after : List TalkEvent) × (now ≡ ins bytes ++ after) × (after ++ later ≡ rest)
peel_ins [] now later rest e sent = (now, refl, e)
peel_ins (b ∷ bytes) [] later rest e sent = absurd (sent refl)
peel_ins (b ∷ bytes) (x ∷ now) later rest e sent =
    let head : x ≡ In b = cc in
    let tail : now ++ later ≡ ins bytes ++ rest = cc in
    let on = peel_ins bytes now later rest tail (λ none. sent (ap (λ y. written (y ∷ now)) head ∙ none)) in
    (on.0, ap (λ y. y ∷ now) head ∙ ap (λ l. In b ∷ l) on.1, on.2)

-- a round, in front of something that was sent
record Peels (v : Version) (r : Round) (now later : List TalkEvent) (rest : List TalkEvent) (more : List ℕ) : Type 0 where
  after : List TalkEvent
  split : after ++ later ≡ rest
  sent : written after ≡ more
  came : heard now ≡ r.reply ++ heard after

peel : (v : Version) (r : Round) (now later rest : List TalkEvent) (more : List ℕ) → now ++ later ≡ outs (spelling v r.message) ++ (ins r.reply ++ rest)
    → written now ≡ spelling v r.message ++ more → more ≢ [] → Peels v r now later rest more
peel v r now later rest more e sent some =
    let out = peel_outs (spelling v r.message) now later (ins r.reply ++ rest) more e sent in
    let same : written out.0 ≡ more = append_cancel_left (spelling v r.message) (written out.0) more
    (ap (λ l. l ++ written out.0) (sym (written-outs (spelling v r.message))) ∙ sym (written-append (outs (spelling v r.message)) out.0) ∙ ap written (sym out.1) ∙ sent) in
    let back = peel_ins r.reply out.0 later rest out.2 (λ none. some (sym same ∙ none)) in
    record {
      after = back.0;
      split = back.2;
      sent = ap (λ l. l ++ written back.0) (sym (written-ins r.reply)) ∙ sym (written-append (ins r.reply) back.0) ∙ ap written (sym back.1) ∙ same;
      came = ap heard out.1 ∙ heard-append (outs (spelling v r.message)) out.0 ∙ ap (λ l. l ++ heard out.0) (heard-outs (spelling v r.message))
          ∙ ap heard back.1 ∙ heard-append (ins r.reply) back.0 ∙ ap (λ l. l ++ heard back.0) (heard-ins r.reply);
    }

-- ---- no message is out of turn, and no bytes are no frame

-- a message out of turn, or no frame
abbrev pub IsBad : HelperState → List ℕ → Type 0
IsBad s bytes = IsOutOfTurn s bytes ⊎ IsNoFrame s.version ToHelper bytes

-- a fault that bytes show is not that of their end
not_closed : (fault : WireFault) → IsOfBytes fault → fault ≢ faults.Closed
not_closed fault shown e = subst IsOfBytes e shown

pub bad_some : (s : HelperState) (bytes : List ℕ) → IsBad s bytes → bytes ≢ []
bad_some s bytes (inl p) e = spelled_some s.version p.message [] (append-nil (spelling s.version p.message) ∙ sym p.said ∙ e)
bad_some s bytes (inr p) e =
    let closed : read_frame s.version ToHelper bytes ≡ Err faults.Closed = ap (read_frame s.version ToHelper) e ∙ read_frame-closed s.version ToHelper [] (omega (arith, asked-least s.version ToHelper [])) in
    let both : ◌≡◌ {A = Result (Message × List ℕ) WireFault} (Err p.0) (Err faults.Closed) = sym p.1.read ∙ closed in
    not_closed p.0 p.1.shown cc

not_bad : (v : Version) (s : HelperState) (m : Message) (bytes more rest : List ℕ) → Comes v s m → bytes ++ more ≡ spelling s.version m ++ rest → IsBad s bytes → ⊥
not_bad v s m bytes more rest comes e (inl p) =
    let same = one_message s.version p.message m more rest p.is comes.is (ap (λ l. l ++ more) (sym p.said) ∙ e) in
    let both : true ≡ false = sym comes.may ∙ ap (is_allowed s) (sym same.0) ∙ p.out in cc
not_bad v s m bytes more rest comes e (inr p) =
    let both : ◌≡◌ {A = Result (Message × List ℕ) WireFault} (Err p.0) (Ok (m, rest)) =
    sym (read_frame-append_fault s.version ToHelper bytes more p.0 p.1.read (not_closed p.0 p.1.shown)) ∙ ap (read_frame s.version ToHelper) e ∙ read_message s.version m rest comes.is in cc

-- the first round, in front of something that was sent
record Passes (v : Version) (s : HelperState) (t : Turn) (ts : List Turn) (r : Round) (rest : List Round) (now later end : List TalkEvent) (part : List ℕ) : Type 0 where
  same : r.message ≡ t.message
  nonempty : frames_of (after_turn s t) ts ++ part ≢ []
  peels : Peels v r now later (exchange v rest ++ end) (frames_of (after_turn s t) ts ++ part)

whole_first : (bytes reply : List ℕ) (rest end : List TalkEvent) → (outs bytes ++ (ins reply ++ rest)) ++ end ≡ outs bytes ++ (ins reply ++ (rest ++ end))
whole_first bytes reply rest end = append_assoc (outs bytes) (ins reply ++ rest) end ∙ ap (λ l. outs bytes ++ l) (append_assoc (ins reply) rest end)

passes : (v : Version) (s : HelperState) (t : Turn) (ts : List Turn) (r : Round) (rest : List Round) (now later end : List TalkEvent) (part : List ℕ) → Comes v s r.message → IsMessage s.version t.message
    → now ++ later ≡ exchange v (r ∷ rest) ++ end → written now ≡ frames_of s (t ∷ ts) ++ part → part ≢ [] → Passes v s t ts r rest now later end part
passes v s t ts r rest now later end part comes is talk sent some =
    let more : List ℕ = frames_of (after_turn s t) ts ++ part in
    let sent_more : written now ≡ spelling s.version t.message ++ more = sent ∙ append_assoc (spelling s.version t.message) (frames_of (after_turn s t) ts) part in
    let front : spelling s.version r.message ++ (written (exchange v rest) ++ written end) ≡ spelling s.version t.message ++ (more ++ written later) =
    sym (append_assoc (spelling s.version r.message) (written (exchange v rest)) (written end))
    ∙ ap (λ l. l ++ written end) (ap (λ l. l ++ written (exchange v rest)) (sym comes.same) ∙ sym (written_exchange v r rest))
    ∙ sym (written-append (exchange v (r ∷ rest)) end) ∙ ap written (sym talk) ∙ written-append now later ∙ ap (λ l. l ++ written later) sent_more
    ∙ append_assoc (spelling s.version t.message) more (written later) in
    let same = one_message s.version r.message t.message (written (exchange v rest) ++ written end) (more ++ written later) comes.is is front in
    let own : spelling s.version t.message ≡ spelling v r.message = ap (spelling s.version) (sym same.0) ∙ sym comes.same in
    let nonempty : more ≢ [] = λ none. some (nil_parts (frames_of (after_turn s t) ts) part none).1 in
    record {
      same = same.0;
      nonempty = nonempty;
      peels = peel v r now later (exchange v rest ++ end) more (talk ∙ whole_first (spelling v r.message) r.reply (exchange v rest) end) (sent_more ∙ ap (λ l. l ++ more) own) nonempty;
    }

module _ (Last : List ℕ → List ℕ → Type 0) (v : Version) where
  pub walk_stray : (s : HelperState) (ts : List Turn) (rounds : List Round) (now later end : List TalkEvent) (part tail : List ℕ) → Walk Last v s rounds → AreMessages s ts
      → now ++ later ≡ exchange v rounds ++ end → written end ≡ [] → written now ≡ frames_of s ts ++ part → heard now ++ tail ≡ replies_of s ts
      → part ≢ [] → (tail ≡ [] → IsBad (state_behind s ts) part) → ⊥
  walk_stray s ts [] now later end part tail walk are talk silent sent came some bad = walk
  walk_stray s [] (r ∷ rest) now later end part tail walk are talk silent sent came some bad =
      let comes = walk_comes Last v s r rest walk in
      let front : part ++ written later ≡ spelling s.version r.message ++ (written (exchange v rest) ++ written end) =
      ap (λ l. l ++ written later) (sym sent) ∙ sym (written-append now later) ∙ ap written talk ∙ written-append (exchange v (r ∷ rest)) end
      ∙ ap (λ l. l ++ written end) (written_exchange v r rest ∙ ap (λ l. l ++ written (exchange v rest)) comes.same)
      ∙ append_assoc (spelling s.version r.message) (written (exchange v rest)) (written end) in
      not_bad v s r.message part (written later) (written (exchange v rest) ++ written end) comes front (bad (nil_parts (heard now) tail came).1)
  walk_stray s (t ∷ ts) (r ∷ []) now later end part tail walk are talk silent sent came some bad =
      let p = passes v s t ts r [] now later end part walk.0 are.0 talk sent some in
      let peels = p.peels in
      p.nonempty (sym peels.sent ∙ (nil_parts (written peels.after) (written later) (sym (written-append peels.after later) ∙ ap written peels.split ∙ silent)).0)
  walk_stray s (t ∷ ts) (r ∷ next ∷ rest) now later end part tail walk are talk silent sent came some bad =
      let p = passes v s t ts r (next ∷ rest) now later end part walk.0 are.0 talk sent some in
      let after : List TalkEvent = p.peels.after in
      let due : List ℕ = owed (step s t.refused r.message) in
      let agree : r.reply ++ (heard after ++ tail) ≡ due ++ replies_of (after_turn s t) ts =
      sym (append_assoc r.reply (heard after) tail) ∙ ap (λ l. l ++ tail) (sym p.peels.came) ∙ came ∙ ap (λ m. owed (step s t.refused m) ++ replies_of (after_turn s t) ts) (sym p.same) in
      let found = walk.1 t.refused (heard after ++ tail) (replies_of (after_turn s t) ts) agree in
      let state : after_answer (step s t.refused r.message) ≡ after_turn s t = ap (λ m. after_answer (step s t.refused m)) p.same in
      walk_stray (after_turn s t) ts (next ∷ rest) after later end part tail (subst (λ x. Walk Last v x (next ∷ rest)) state found.1) are.1 p.peels.split silent p.peels.sent
      (append_cancel_left due (heard after ++ tail) (replies_of (after_turn s t) ts) (ap (λ l. l ++ (heard after ++ tail)) (sym found.0) ∙ agree)) some bad
