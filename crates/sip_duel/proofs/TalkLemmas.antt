-- What a talk with an honest helper comes to, where it goes round by round.
use Rattle.std.proofs.Common.{◌≡◌, ◌≢◌, ℕ, List, [], ◌∷◌, ◌++◌, inl, inr, refl, sym, ap, ◌∙◌, subst, append_assoc, append-nil}
use Rattle.std.specs.Prelude.{All}
use Rattle.std.proofs.lemmas.List.Elements.{All-append, All-nil, All-head, All-tail}
use Rattle.sip_ports.specs.declared.port.TalkEvent.{TalkEvent}
use Rattle.sip_ports.specs.declared.port.TalkEvent.TheVariants.{Ended}
use Rattle.sip_ports.specs.Ports.{heard, written, outs, ins}
use Rattle.sip_ports.proofs.TalkLemmas.{heard-append, written-append}
use Rattle.sip_wire.specs.declared.version.Version.{Version}
use Rattle.sip_wire.specs.Spelling.{spelling}
use Rattle.sip_helper.specs.Serving.{Turn, state_after as state_behind}
use Rattle.sip_helper.specs.Turns.{fresh, owed}
use Rattle.sip_duel.specs.Story.{Step, state_after, said, frames, Follows, IsStray, IsHonestTalk, IsShort}
use Rattle.sip_duel.proofs.KeepsLemmas.{outs_are_no_end, ins_are_no_end}
use Rattle.sip_duel.proofs.TurnLemmas.{AreMessages, are_messages, frames_of, replies_of, same_state, turned, turns_of, unowed_state}
use Rattle.sip_duel.proofs.WalkLemmas.{Round, exchange, Walk, Holds, HoldsOfWhole, walk_on, walk_ended, nil_parts}
use Rattle.sip_duel.proofs.StrayLemmas.{IsBad, bad_some, walk_stray}

-- ---- no end among the rounds

abbrev pub GoesOn : List TalkEvent → Type 0
GoesOn talk = All (λ (e : TalkEvent). e ≢ Ended) talk

pub exchange_goes_on : (v : Version) (rounds : List Round) → GoesOn (exchange v rounds)
exchange_goes_on v [] = All-nil (λ (e : TalkEvent). e ≢ Ended)
exchange_goes_on v (r ∷ rest) =
    All-append (λ (e : TalkEvent). e ≢ Ended) (outs (spelling v r.message)) (ins r.reply ++ exchange v rest) (outs_are_no_end (spelling v r.message))
    (All-append (λ (e : TalkEvent). e ≢ Ended) (ins r.reply) (exchange v rest) (ins_are_no_end r.reply) (exchange_goes_on v rest))

pub no_end_in : (a b : List TalkEvent) → GoesOn (a ++ Ended ∷ b) → ⊥
no_end_in [] b all = All-head (λ (e : TalkEvent). e ≢ Ended) Ended b all refl
no_end_in (x ∷ a) b all = no_end_in a b (All-tail (λ (e : TalkEvent). e ≢ Ended) x (a ++ Ended ∷ b) all)

pub one_end : (a b x y : List TalkEvent) → GoesOn a → GoesOn b → a ++ Ended ∷ x ≡ b ++ Ended ∷ y → a ≡ b
one_end [] [] x y on also e = refl
one_end [] (c ∷ b) x y on also e = absurd (All-head (λ (t : TalkEvent). t ≢ Ended) c b also (let same : Ended ≡ c = cc in sym same))
one_end (c ∷ a) [] x y on also e = absurd (All-head (λ (t : TalkEvent). t ≢ Ended) c a on cc)
one_end (c ∷ a) (d ∷ b) x y on also e =
    let same : c ≡ d = cc in
    let rest : a ++ Ended ∷ x ≡ b ++ Ended ∷ y = cc in
    ap (λ t. t ∷ a) same ∙ ap (λ l. d ∷ l) (one_end a b x y (All-tail (λ (t : TalkEvent). t ≢ Ended) c a on) (All-tail (λ (t : TalkEvent). t ≢ Ended) d b also) rest)

-- ---- steps as turns

abbrev pub turns : List Step → List Turn
turns steps = turns_of steps []

pub frames_are : (steps : List Step) (part give : List ℕ) (talk : List TalkEvent) → Follows steps part give talk → written talk ≡ frames_of fresh (turns steps) ++ part
frames_are steps part give talk f = f.sent ∙ ap (λ l. l ++ part) (sym ((turned steps [] f.are).frames ∙ append-nil (frames steps)))

pub replies_are : (steps : List Step) (part give : List ℕ) (talk : List TalkEvent) → Follows steps part give talk → heard talk ++ (give ++ owed (state_after steps)) ≡ replies_of fresh (turns steps)
replies_are steps part give talk f =
    sym (append_assoc (heard talk) give (owed (state_after steps))) ∙ ap (λ l. l ++ owed (state_after steps)) f.came
    ∙ sym ((turned steps [] f.are).said ∙ append-nil (said steps ++ owed (state_after steps)))

pub messages_are : (steps : List Step) (part give : List ℕ) (talk : List TalkEvent) → Follows steps part give talk → AreMessages fresh (turns steps)
messages_are steps part give talk f = are_messages steps [] f.are tt

pub state_is : (steps : List Step) (part give : List ℕ) (talk : List TalkEvent) → Follows steps part give talk → owed (state_after steps) ≡ [] → state_behind fresh (turns steps) ≡ state_after steps
state_is steps part give talk f none = same_state steps [] f.are ∙ unowed_state (state_after steps) none

module _ (Last : List ℕ → List ℕ → Type 0) (v : Version) (rounds : List Round) (walk : Walk Last v fresh rounds) where
  pub no_stray : (end talk : List TalkEvent) → written end ≡ [] → talk ≡ exchange v rounds ++ end → IsStray talk → ⊥
  no_stray end talk silent is p =
      walk_stray Last v fresh (turns p.steps) rounds p.now p.later end p.bytes (p.give ++ owed (state_after p.steps)) walk (messages_are p.steps p.bytes p.give p.now p.follows)
      (sym p.split ∙ is) silent (frames_are p.steps p.bytes p.give p.now p.follows) (replies_are p.steps p.bytes p.give p.now p.follows)
      (bad_some (state_after p.steps) p.bytes p.why)
      (λ none. subst (λ s. IsBad s p.bytes) (sym (state_is p.steps p.bytes p.give p.now p.follows (nil_parts p.give (owed (state_after p.steps)) none).1)) p.why)

  -- the talk has these rounds
  pub holds_of : (talk : List TalkEvent) → talk ≡ exchange v rounds → IsHonestTalk talk → Holds Last
  holds_of talk is (inl p) =
      walk_on Last v fresh (turns p.steps) rounds p.part (p.give ++ owed (state_after p.steps)) walk (messages_are p.steps p.part p.give talk p.follows)
      (ap written (sym is) ∙ frames_are p.steps p.part p.give talk p.follows) (ap (λ t. heard t ++ (p.give ++ owed (state_after p.steps))) (sym is) ∙ replies_are p.steps p.part p.give talk p.follows)
  holds_of talk is (inr (inl p)) = absurd (no_stray [] talk refl (is ∙ sym (append-nil (exchange v rounds))) p)
  holds_of talk is (inr (inr p)) = elim p.why [
    | inl over ↦ absurd (no_end_in p.now over.2.0 (subst GoesOn (sym is ∙ p.split ∙ ap (λ l. p.now ++ l) over.2.1) (exchange_goes_on v rounds)))
    | inr failed ↦
        walk_on Last v fresh (turns p.steps) rounds (p.part ++ written p.later) (p.give ++ owed (state_after p.steps)) walk (messages_are p.steps p.part p.give p.now p.follows)
        (ap written (sym is ∙ p.split) ∙ written-append p.now p.later ∙ ap (λ l. l ++ written p.later) (frames_are p.steps p.part p.give p.now p.follows) ∙ append_assoc (frames_of fresh (turns p.steps)) p.part (written p.later))
        (ap (λ l. l ++ (p.give ++ owed (state_after p.steps))) (ap heard (sym is ∙ p.split) ∙ heard-append p.now p.later ∙ ap (λ l. heard p.now ++ l) p.silent ∙ append-nil (heard p.now)) ∙ replies_are p.steps p.part p.give p.now p.follows)
  ]

  -- the talk has these rounds, and the end was told behind them
  pub whole_of : (talk : List TalkEvent) → talk ≡ exchange v rounds ++ Ended ∷ [] → IsHonestTalk talk → HoldsOfWhole Last v
  whole_of talk is (inl p) = absurd (no_end_in (exchange v rounds) [] (subst GoesOn is p.follows.lasts))
  whole_of talk is (inr (inl p)) = absurd (no_stray (Ended ∷ []) talk refl is p)
  whole_of talk is (inr (inr p)) = elim p.why [
    | inl over ↦
        let same : p.now ≡ exchange v rounds = one_end p.now (exchange v rounds) over.2.0 [] p.follows.lasts (exchange_goes_on v rounds) (sym (p.split ∙ ap (λ l. p.now ++ l) over.2.1) ∙ is) in
        walk_ended Last v fresh (turns p.steps) rounds p.part walk (messages_are p.steps p.part p.give p.now p.follows)
        (ap written (sym same) ∙ frames_are p.steps p.part p.give p.now p.follows)
        (ap heard (sym same) ∙ sym (append-nil (heard p.now)) ∙ ap (λ l. heard p.now ++ l) (sym (ap (λ l. l ++ owed (state_after p.steps)) over.0 ∙ over.1)) ∙ replies_are p.steps p.part p.give p.now p.follows)
        (subst (λ s. IsShort s.version p.part) (sym (state_is p.steps p.part p.give p.now p.follows over.1)) p.short)
    | inr failed ↦ absurd (no_end_in (exchange v rounds) [] (subst GoesOn (sym p.split ∙ is) (All-append (λ (e : TalkEvent). e ≢ Ended) p.now p.later p.follows.lasts failed)))
  ]
