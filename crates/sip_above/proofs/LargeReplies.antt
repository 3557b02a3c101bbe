-- What is said about large entries.
use Rattle.std.proofs.Common.{◌≡◌, ℕ, ◌≤◌, Bool, true, false, ◌==◌, if◌then◌else◌, List, [], ◌∷◌, ◌++◌, length, All, Option, Some, None, Result, Ok, Err, refl, sym, ap, subst, ◌∙◌, inl, inr, append-nil, arith}
use Rattle.std.specs.Prelude.{IsTrue}
use Rattle.std.specs.List.{flat_map}
use Rattle.std.proofs.lemmas.Bool.Decides.{nat_tests}
use Rattle.std.proofs.lemmas.List.{take_at}
use Rattle.std.proofs.lemmas.List.Concat.{flat_map-append}
use Rattle.std.proofs.lemmas.List.Elements.{All-take}
use Rattle.sip_field.specs.Moduli.{m61_modulus}
use Rattle.sip_wire.specs.declared.message.Message.{Message}
use Rattle.sip_wire.specs.declared.message.Message.TheVariants as messages
use Rattle.sip_wire.specs.declared.version.Version.TheVariants.{Two}
use Rattle.sip_wire.specs.Spelling.{fits, spelling}
use Rattle.sip_wire.specs.Table.{most_refusal}
use Rattle.sip_heavy.specs.Honest.{Proving, is_first, opening_frames}
use Rattle.sip_heavy.specs.HonestMarks.{above_messages}
use Rattle.sip_heavy.proofs.HonestSpellings.{marks_spelled}
use Rattle.sip_helper.specs.KindRows.{refusal, too_many, want_of_memory}
use Rattle.sip_above.specs.declared.under_way.LargeUnderWay.{LargeUnderWay}
use Rattle.sip_above.specs.Serving.{Weighed, is_many, reply_to}
use Rattle.sip_above.specs.UnderWay.{CanReply, HasLevel, IsMade, open_of, wants_memory}
use Rattle.sip_above.proofs.OpenLarges.{at_hand}

-- the bytes of frames and of the end of a level behind them
pub with_end : (frames : List Message) → flat_map (spelling Two) (frames ++ messages.LevelEnd ∷ []) ≡ flat_map (spelling Two) frames ++ spelling Two messages.LevelEnd
with_end frames =
    flat_map-append (spelling Two) frames (messages.LevelEnd ∷ [])
    ∙ ap (λ (l : List ℕ). flat_map (spelling Two) frames ++ l) (append-nil (spelling Two messages.LevelEnd))

-- ---- a prover

-- no challenge is revealed
first_is : (revealed : List ℕ) → is_first revealed ≡ (length revealed == 0)
first_is [] = refl
first_is (r ∷ revealed) = sym (let some : (length (r ∷ revealed) == 0) ≡ false = grind (arith, nat_tests) in some)

module _ (depth : ℕ) (side : Option Weighed) (q : LargeUnderWay) (prover : Proving) (is : q.made ≡ Ok prover) (can : CanReply depth side q) where
  has : HasLevel depth side q.large q.revealed.items prover
  has = at_hand depth side q prover is can

  pub lowest_is : prover.is_leaf ≡ (length q.revealed.items == 0)
  lowest_is = ap (λ (x : Proving). x.is_leaf) has.level ∙ first_is q.revealed.items

  -- the honest messages are those of its level
  messages_are : above_messages m61_modulus has.shown.values has.shown.weights q.large.at_least q.revealed.items ≡ opening_frames m61_modulus prover ++ messages.LevelEnd ∷ []
  unfolding above_messages
  messages_are = ap (λ (x : Proving). opening_frames m61_modulus x ++ messages.LevelEnd ∷ []) (sym has.level)

  pub level_fits : All (λ m. IsTrue (fits Two m)) (opening_frames m61_modulus prover)
  level_fits =
      let HasSpelling : Message → Type 0 = λ m. IsTrue (fits Two m) in
      let shown = opening_frames m61_modulus prover in
      let all = subst (All HasSpelling) messages_are (marks_spelled m61_modulus depth has.total has.shown.values has.shown.weights has.can q.large.at_least q.revealed.items) in
      subst (All HasSpelling) (take_at shown (messages.LevelEnd ∷ []) (length shown) refl) (All-take HasSpelling (length shown) (shown ++ messages.LevelEnd ∷ []) all)

  -- they are the reply
  pub shown_reply : reply_to side (open_of q) ≡ opening_frames m61_modulus prover ++ messages.LevelEnd ∷ []
  shown_reply =
      ap (λ (s : Option Weighed). reply_to s (open_of q)) has.is
      ∙ ap (λ (b : Bool). if b then refusal want_of_memory else if is_many has.shown q.large then refusal too_many else above_messages m61_modulus has.shown.values has.shown.weights q.large.at_least q.revealed.items) (ap wants_memory is)
      ∙ ap (λ (b : Bool). if b then refusal too_many else above_messages m61_modulus has.shown.values has.shown.weights q.large.at_least q.revealed.items) has.few
      ∙ messages_are

-- ---- a refusal

module _ (depth : ℕ) (side : Option Weighed) (q : LargeUnderWay) (code : ℕ) (is : q.made ≡ Err code) (can : CanReply depth side q) where
  refuses : IsMade depth side q.large q.revealed.items (Err code)
  refuses = subst (λ (made : Result Proving ℕ). IsMade depth side q.large q.revealed.items made) is can.made

  pub code_some : 1 ≤ code
  code_some = elim refuses [ inl one ↦ omega (arith, one) | inr two ↦ let own = two.0 in omega (arith, own) ]

  pub code_few : code ≤ most_refusal
  code_few = elim refuses [ inl one ↦ omega (arith, one) | inr two ↦ let own = two.0 in omega (arith, own) ]

  messages_of : reply_to side (open_of q) ≡ refusal code
  messages_of = elim refuses [
    | inl one ↦
        let want : wants_memory q.made ≡ true = ap wants_memory (is ∙ ap (λ (n : ℕ). Err n) one) in
        by_memory side want ∙ ap refusal (sym one)
    | inr two ↦
        let none : wants_memory q.made ≡ false = ap wants_memory (is ∙ ap (λ (n : ℕ). Err n) two.0) in
        ap (λ (s : Option Weighed). reply_to s (open_of q)) two.2
        ∙ ap (λ (b : Bool). if b then refusal want_of_memory else if is_many two.1 q.large then refusal too_many else above_messages m61_modulus two.1.values two.1.weights q.large.at_least q.revealed.items) none
        ∙ ap (λ (b : Bool). if b then refusal too_many else above_messages m61_modulus two.1.values two.1.weights q.large.at_least q.revealed.items) two.3
        ∙ ap refusal (sym two.0)
  ]
    where
      by_memory : (s : Option Weighed) → wants_memory q.made ≡ true → reply_to s (open_of q) ≡ refusal want_of_memory
      by_memory None want = refl
      by_memory (Some v) want = rw want refl

  pub refused_reply : flat_map (spelling Two) (reply_to side (open_of q)) ≡ spelling Two (messages.Refuse code)
  refused_reply = ap (flat_map (spelling Two)) messages_of ∙ append-nil (spelling Two (messages.Refuse code))
