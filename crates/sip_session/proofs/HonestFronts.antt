-- A talk with an honest helper that begins with rounds, whatever follows them.
use Rattle.std.proofs.Common.{◌≡◌, ◌≢◌, ◌⊎◌, ℕ, List, [], ◌∷◌, ◌++◌, inl, inr, refl, sym, ap, ◌∙◌, subst, append_assoc, append-nil}
use Rattle.std.proofs.lemmas.List.{append_cancel_left}
use Rattle.std.proofs.lemmas.List.Elements.{All-append}
use Rattle.sip_ports.specs.declared.port.TalkEvent.{TalkEvent}
use Rattle.sip_ports.specs.declared.port.TalkEvent.TheVariants.{Ended}
use Rattle.sip_ports.specs.Ports.{heard, written}
use Rattle.sip_ports.proofs.TalkLemmas.{heard-append, written-append}
use Rattle.sip_wire.specs.declared.version.Version.{Version}
use Rattle.sip_wire.specs.Spelling.{spelling}
use Rattle.sip_helper.specs.Serving.{IsMessage, Turn, after_turn}
use Rattle.sip_helper.specs.Turns.{HelperState, after_answer, fresh, owed, step}
use Rattle.sip_duel.specs.Story.{BeginsWithEnd, Follows, IsHonestTalk, Step, state_after}
use Rattle.sip_duel.proofs.TurnLemmas.{AreMessages, frames_of, replies_of}
use Rattle.sip_duel.proofs.WalkLemmas.{Comes, Holds, HoldsOfWhole, Round, Walk, exchange, heard_exchange, nil_parts, one_message, walk_on, walk_silent, written_exchange}
use Rattle.sip_duel.proofs.TalkLemmas.{GoesOn, exchange_goes_on, frames_are, messages_are, no_end_in, no_stray, one_end, replies_are, turns, whole_of}

-- of two fronts of the same list one is a front of the other
pub fronts : {X : Type 0} (a u b w : List X) → a ++ u ≡ b ++ w → ((more : List X) × (b ≡ a ++ more) × (u ≡ more ++ w)) ⊎ ((more : List X) × (a ≡ b ++ more) × (w ≡ more ++ u))
fronts [] u b w e = inl (b, refl, e)
fronts (x ∷ a) u [] w e = inr (x ∷ a, refl, sym e)
fronts (x ∷ a) u (y ∷ b) w e =
    let tails : a ++ u ≡ b ++ w = cc in
    let heads : x ≡ y = cc in
    elim (fronts a u b w tails) [
      | inl m ↦ inl (m.0, ap (λ l. y ∷ l) m.1 ∙ ap (λ h. h ∷ (a ++ m.0)) (sym heads), m.2)
      | inr m ↦ inr (m.0, ap (λ l. x ∷ l) m.1 ∙ ap (λ h. h ∷ (b ++ m.0)) heads, m.2)
    ]

-- ---- what was sent and heard behind the rounds

-- the message of a turn is that of its round
front_message : (v : Version) (s : HelperState) (r : Round) (rest : List Round) (t : Turn) (bytes more : List ℕ) → Comes v s r.message → IsMessage s.version t.message
    → written (exchange v (r ∷ rest)) ++ more ≡ spelling s.version t.message ++ bytes → (r.message ≡ t.message) × (written (exchange v rest) ++ more ≡ bytes)
front_message v s r rest t bytes more comes is e =
    one_message s.version r.message t.message (written (exchange v rest) ++ more) bytes comes.is is
    (sym (append_assoc (spelling s.version r.message) (written (exchange v rest)) more)
    ∙ ap (λ l. (l ++ written (exchange v rest)) ++ more) (sym comes.same) ∙ ap (λ l. l ++ more) (sym (written_exchange v r rest)) ∙ e)

module _ (Last : List ℕ → List ℕ → Type 0) (v : Version) where
  -- rounds, with more that was sent behind them
  front_on : (s : HelperState) (ts : List Turn) (rounds : List Round) (more part tail : List ℕ) → Walk Last v s rounds → AreMessages s ts
      → written (exchange v rounds) ++ more ≡ frames_of s ts ++ part → heard (exchange v rounds) ++ tail ≡ replies_of s ts → Holds Last
  front_on s [] rounds more part tail walk are sent came = walk_silent Last v s rounds walk (nil_parts (heard (exchange v rounds)) tail came).0
  front_on s (t ∷ ts) [] more part tail walk are sent came = absurd walk
  front_on s (t ∷ ts) (r ∷ []) more part tail walk are sent came =
      let same = front_message v s r [] t (frames_of (after_turn s t) ts ++ part) more walk.0 are.0 (sent ∙ append_assoc (spelling s.version t.message) (frames_of (after_turn s t) ts) part) in
      let due : List ℕ = owed (step s t.refused r.message) in
      let agree : r.reply ++ tail ≡ due ++ replies_of (after_turn s t) ts =
      ap (λ l. l ++ tail) (sym (heard_exchange v r [] ∙ append-nil r.reply)) ∙ came ∙ ap (λ m. owed (step s t.refused m) ++ replies_of (after_turn s t) ts) (sym same.0) in
      record { reply = r.reply; due = due; last = walk.1 t.refused tail (replies_of (after_turn s t) ts) agree }
  front_on s (t ∷ ts) (r ∷ next ∷ rest) more part tail walk are sent came =
      let same = front_message v s r (next ∷ rest) t (frames_of (after_turn s t) ts ++ part) more walk.0 are.0 (sent ∙ append_assoc (spelling s.version t.message) (frames_of (after_turn s t) ts) part) in
      let due : List ℕ = owed (step s t.refused r.message) in
      let others : List ℕ = heard (exchange v (next ∷ rest)) in
      let agree : r.reply ++ (others ++ tail) ≡ due ++ replies_of (after_turn s t) ts =
      sym (append_assoc r.reply others tail) ∙ ap (λ l. l ++ tail) (sym (heard_exchange v r (next ∷ rest))) ∙ came ∙ ap (λ m. owed (step s t.refused m) ++ replies_of (after_turn s t) ts) (sym same.0) in
      let on = walk.1 t.refused (others ++ tail) (replies_of (after_turn s t) ts) agree in
      let state : after_answer (step s t.refused r.message) ≡ after_turn s t = ap (λ m. after_answer (step s t.refused m)) same.0 in
      front_on (after_turn s t) ts (next ∷ rest) more part tail (subst (λ x. Walk Last v x (next ∷ rest)) state on.1) are.1 same.1
      (append_cancel_left due (others ++ tail) (replies_of (after_turn s t) ts) (ap (λ l. l ++ (others ++ tail)) (sym on.0) ∙ agree))

module _ (Last : List ℕ → List ℕ → Type 0) (v : Version) (rounds : List Round) (walk : Walk Last v fresh rounds) where
  -- steps whose events begin with the rounds
  by_steps : (steps : List Step) (part give : List ℕ) (now behind : List TalkEvent) → Follows steps part give now → now ≡ exchange v rounds ++ behind → Holds Last
  by_steps steps part give now behind f is =
      let rest : List ℕ = give ++ owed (state_after steps) in
      front_on Last v fresh (turns steps) rounds (written behind) part (heard behind ++ rest) walk (messages_are steps part give now f)
      (sym (written-append (exchange v rounds) behind) ∙ ap written (sym is) ∙ frames_are steps part give now f)
      (sym (append_assoc (heard (exchange v rounds)) (heard behind) rest) ∙ ap (λ l. l ++ rest) (sym (heard-append (exchange v rounds) behind) ∙ ap heard (sym is))
      ∙ replies_are steps part give now f)

  -- the talk begins with these rounds
  pub front_holds : (talk more : List TalkEvent) → talk ≡ exchange v rounds ++ more → IsHonestTalk talk → Holds Last
  front_holds talk more is (inl p) = by_steps p.steps p.part p.give talk more p.follows is
  front_holds talk more is (inr (inl p)) = elim (fronts p.now p.later (exchange v rounds) more (sym p.split ∙ is)) [
    | inl m ↦ absurd (no_stray Last v rounds walk [] (exchange v rounds) refl (sym (append-nil (exchange v rounds))) (record { steps = p.steps; bytes = p.bytes; give = p.give; now = p.now; later = m.0; follows = p.follows; why = p.why; split = m.1 }))
    | inr m ↦ by_steps p.steps p.bytes p.give p.now m.0 p.follows m.1
  ]
  front_holds talk more is (inr (inr p)) = elim (fronts p.now p.later (exchange v rounds) more (sym p.split ∙ is)) [
    | inl m ↦
        let quiet : heard m.0 ≡ [] = (nil_parts (heard m.0) (heard more) (sym (heard-append m.0 more) ∙ ap heard (sym m.2) ∙ p.silent)).0 in
        let rest : List ℕ = p.give ++ owed (state_after p.steps) in
        walk_on Last v fresh (turns p.steps) rounds (p.part ++ written m.0) rest walk (messages_are p.steps p.part p.give p.now p.follows)
        (ap written m.1 ∙ written-append p.now m.0 ∙ ap (λ l. l ++ written m.0) (frames_are p.steps p.part p.give p.now p.follows) ∙ append_assoc (frames_of fresh (turns p.steps)) p.part (written m.0))
        (ap (λ l. l ++ rest) (ap heard m.1 ∙ heard-append p.now m.0 ∙ ap (λ l. heard p.now ++ l) quiet ∙ append-nil (heard p.now)) ∙ replies_are p.steps p.part p.give p.now p.follows)
    | inr m ↦ by_steps p.steps p.part p.give p.now m.0 p.follows m.1
  ]

-- ---- an end that was told

-- up to the end that was told a talk is an honest one
cut_at_end : (front more talk : List TalkEvent) → GoesOn front → talk ≡ front ++ Ended ∷ more → IsHonestTalk talk → IsHonestTalk (front ++ Ended ∷ [])
cut_at_end front more talk on is (inl p) = absurd (no_end_in front more (subst GoesOn is p.follows.lasts))
cut_at_end front more talk on is (inr (inl p)) = elim (fronts p.now p.later front (Ended ∷ more) (sym p.split ∙ is)) [
  | inl m ↦ inr (inl (record {
    steps = p.steps;
    bytes = p.bytes;
    give = p.give;
    now = p.now;
    later = m.0 ++ Ended ∷ [];
    follows = p.follows;
    why = p.why;
    split = ap (λ l. l ++ Ended ∷ []) m.1 ∙ append_assoc p.now m.0 (Ended ∷ []);
  }))
  | inr m ↦ by_rest m.0 m.1 m.2
]
  where
    by_rest : (rest : List TalkEvent) → p.now ≡ front ++ rest → Ended ∷ more ≡ rest ++ p.later → IsHonestTalk (front ++ Ended ∷ [])
    by_rest [] same e = inr (inl (record {
      steps = p.steps;
      bytes = p.bytes;
      give = p.give;
      now = p.now;
      later = Ended ∷ [];
      follows = p.follows;
      why = p.why;
      split = ap (λ l. l ++ Ended ∷ []) (sym (same ∙ append-nil front));
    }))
    by_rest (x ∷ rest) same e =
        let head : x ≡ Ended = cc in
        absurd (no_end_in front rest (subst GoesOn (same ∙ ap (λ h. front ++ h ∷ rest) head) p.follows.lasts))
cut_at_end front more talk on is (inr (inr p)) = elim p.why [
  | inl over ↦
      let same : p.now ≡ front = one_end p.now front over.2.0 more p.follows.lasts on (sym (p.split ∙ ap (λ l. p.now ++ l) over.2.1) ∙ is) in
      let told : BeginsWithEnd (Ended ∷ []) = ([], refl) in
      inr (inr (record {
        steps = p.steps;
        part = p.part;
        give = p.give;
        now = p.now;
        later = Ended ∷ [];
        follows = p.follows;
        short = p.short;
        silent = refl;
        why = inl (over.0, over.1, told);
        split = ap (λ l. l ++ Ended ∷ []) (sym same);
      }))
  | inr failed ↦ absurd (no_end_in front more (subst GoesOn (sym p.split ∙ is) (All-append (λ (e : TalkEvent). e ≢ Ended) p.now p.later p.follows.lasts failed)))
]

-- the talk begins with these rounds, and then the end was told
pub front_whole : (Last : List ℕ → List ℕ → Type 0) (v : Version) (rounds : List Round) → Walk Last v fresh rounds → (talk more : List TalkEvent) → talk ≡ exchange v rounds ++ Ended ∷ more → IsHonestTalk talk → HoldsOfWhole Last v
front_whole Last v rounds walk talk more is honest =
    whole_of Last v rounds walk (exchange v rounds ++ Ended ∷ []) refl (cut_at_end (exchange v rounds) more talk (exchange_goes_on v rounds) is honest)
