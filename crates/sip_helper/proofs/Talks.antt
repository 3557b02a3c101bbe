-- A talk, turn by turn.
use Rattle.std.proofs.Common.{◌≡◌, ℕ, ◌+◌, ◌<◌, ◌≤◌, false, Option, List, [], ◌∷◌, ◌++◌, length, inl, refl, sym, ap, subst, ◌∙◌, arith, append_assoc, append-nil, length-append}
use Rattle.sip_ports.specs.declared.port.TalkEvent.{TalkEvent}
use Rattle.sip_ports.specs.Ports.{GoesOn, heard, ins, outs}
use Rattle.sip_ports.proofs.TalkLemmas.{GoesOn-refl, GoesOn-trans, heard-append, heard-ins, heard-outs}
use Rattle.sip_wire.specs.Spelling.{spelling}
use Rattle.sip_wire.specs.Table.{longest_frame}
use Rattle.sip_wire.proofs.ReadingLaws.{asked-least, read_frame-closed}
use Rattle.sip_helper.specs.declared.status.HelpStatus.TheVariants.{OutOfMemory}
use Rattle.sip_wire.proofs.Longest.{spelling_at_most}
use Rattle.sip_helper.specs.declared.status.HelpStatus.{HelpStatus}
use Rattle.sip_helper.specs.inside.Measures.{most_turns}
use Rattle.sip_helper.specs.UnderWay.{UnderWay}
use Rattle.sip_helper.specs.OneTurn.{StopsTurn, Taken}
use Rattle.sip_helper.specs.Rules.{AreTurnsBy, EndsAs, IsTurnBy, TurnRules, ServesBy, ServesOn, Turn, after_turn_by, heard_by, state_after_by, turn_talk_by, turns_talk_by}

-- ---- one more turn

module _ {S : Type 0} (r : TurnRules S) where
  state_after-push : (s : S) (ts : List Turn) (t : Turn) → state_after_by r s (ts ++ t ∷ []) ≡ after_turn_by r (state_after_by r s ts) t
  state_after-push s [] t = refl
  state_after-push s (u ∷ ts) t = state_after-push (after_turn_by r s u) ts t

  turns_talk-push : (s : S) (ts : List Turn) (t : Turn) → turns_talk_by r s (ts ++ t ∷ []) ≡ turns_talk_by r s ts ++ turn_talk_by r (state_after_by r s ts) t
  turns_talk-push s [] t = append-nil (turn_talk_by r s t)
  turns_talk-push s (u ∷ ts) t = ap (λ (l : List TalkEvent). turn_talk_by r s u ++ l) (turns_talk-push (after_turn_by r s u) ts t) ∙ sym (append_assoc (turn_talk_by r s u) (turns_talk_by r (after_turn_by r s u) ts) (turn_talk_by r (state_after_by r (after_turn_by r s u) ts) t))

  AreTurns-push : (s : S) (ts : List Turn) (t : Turn) → AreTurnsBy r s ts → IsTurnBy r (state_after_by r s ts) t → AreTurnsBy r s (ts ++ t ∷ [])
  AreTurns-push s [] t are is = (is, tt)
  AreTurns-push s (u ∷ ts) t are is = (are.0, AreTurns-push (after_turn_by r s u) ts t are.1 is)

  -- the bytes of a turn that are received
  heard-turn : (s : S) (t : Turn) → heard (turn_talk_by r s t) ≡ spelling (r.version s) t.message
  heard-turn s t =
      heard-append (ins (spelling (r.version s) t.message)) (outs (r.owed (heard_by r s t)))
      ∙ ap (λ l. l ++ heard (outs (r.owed (heard_by r s t)))) (heard-ins (spelling (r.version s) t.message))
      ∙ ap (λ l. spelling (r.version s) t.message ++ l) (heard-outs (r.owed (heard_by r s t)))
      ∙ append-nil (spelling (r.version s) t.message)

-- ---- how far a talk is

module _ {S : Type 0} (r : TurnRules S) (left : S → ℕ) (first : S) (before : ℕ) (start : Option (List TalkEvent)) where
  pub begins : r.is_done first ≡ false → left first ≤ most_turns → UnderWay r left first before start start first before
  begins going few = record { turns = []; are = tt; state = refl; going = going; talk = GoesOn-refl start; at = omega arith; room = omega (arith, few) }

  module _ (now new : Option (List TalkEvent)) (s : S) (offset : ℕ) (so : UnderWay r left first before start now s offset) where
    pub goes_on : (next : S) (got : List ℕ) (n : ℕ) → n ≡ length got → left next < left s → Taken r now new s next got → UnderWay r left first before start new next (offset + n)
    goes_on next got n count fewer took =
        let t = took.turn in
        let here = turn_talk_by r (state_after_by r first so.turns) t in
        let talk_is = turns_talk-push r first so.turns t in
        let same = ap (λ (x : S). turn_talk_by r x t) so.state in
        let size : length got ≤ longest_frame = rw took.whole (spelling_at_most (r.version s) t.message took.is.message.has_spelling) in
        let bytes : length (heard (turns_talk_by r first (so.turns ++ t ∷ []))) ≡ length (heard (turns_talk_by r first so.turns)) + length got =
        ap (λ l. length (heard l)) talk_is
        ∙ ap length (heard-append (turns_talk_by r first so.turns) here)
        ∙ length-append (heard (turns_talk_by r first so.turns)) (heard here)
        ∙ ap (λ (l : List ℕ). length (heard (turns_talk_by r first so.turns)) + length l) (sym (ap heard same) ∙ heard-turn r s t ∙ sym took.whole) in
        record {
          turns = so.turns ++ t ∷ [];
          are = AreTurns-push r first so.turns t so.are (subst (λ (x : S). IsTurnBy r x t) so.state took.is);
          state = took.state ∙ ap (λ (x : S). after_turn_by r x t) so.state ∙ sym (state_after-push r first so.turns t);
          going = took.going;
          talk = subst (GoesOn start new) (ap (λ (l : List TalkEvent). turns_talk_by r first so.turns ++ l) same ∙ sym talk_is) (GoesOn-trans start now new (turns_talk_by r first so.turns) (turn_talk_by r s t) so.talk took.talk);
          at = omega (arith, so.at, count, bytes);
          room = omega (arith, so.room, count, size, fewer);
        }

    -- the talk ends
    pub ends : (status : HelpStatus) → StopsTurn r now new s offset status → ServesOn r first before start new status
    ends status stop = record {
      turns = so.turns;
      are = so.are;
      going = sym (ap r.is_done so.state) ∙ so.going;
      rest = stop.rest;
      talk = GoesOn-trans start now new (turns_talk_by r first so.turns) stop.rest so.talk stop.talk;
      ends = subst (λ (x : S). EndsAs r x (before + length (heard (turns_talk_by r first so.turns))) stop.rest status) so.state (subst (λ (n : ℕ). EndsAs r s n stop.rest status) so.at stop.ends);
    }

  -- nothing was received: there was no memory for a frame
  pub serves_nothing : r.is_done first ≡ false → ServesBy r first start start OutOfMemory
  serves_nothing going = record {
    turns = [];
    are = tt;
    going = going;
    rest = [];
    talk = GoesOn-refl start;
    ends = inl (record { got = []; read = read_frame-closed (r.version first) (r.place first) [] (omega (arith, asked-least (r.version first) (r.place first) [])); said = refl });
  }
