-- The messages of a verifier that keeps to the turns may come.
use Rattle.std.proofs.Common.{◌≡◌, ℕ, ◌+◌, ◌<◌, ◌≤◌, Bool, true, false, not, if◌then◌else◌, List, [], ◌∷◌, ◌++◌, length, All, Option, Some, None, refl, sym, ap, subst, ◌∙◌, append_assoc, arith, length-append}
use Rattle.std.specs.Prelude.{IsTrue, is_some}
use Rattle.std.specs.List.{flat_map}
use Rattle.std.proofs.lemmas.Bool.{and_from, le-leb, lt-ltb}
use Rattle.std.proofs.lemmas.List.Elements.{All-head, All-tail}
use Rattle.sip_field.specs.Moduli.{m61_modulus}
use Rattle.sip_vector.specs.declared.update.Side.{Side}
use Rattle.sip_vector.specs.declared.update.Side.TheVariants as sides
use Rattle.sip_vector.specs.declared.update.Update.{Update}
use Rattle.sip_wire.specs.declared.kind.Kind.TheVariants as kinds
use Rattle.sip_wire.specs.declared.kind.Place.{Place}
use Rattle.sip_wire.specs.declared.kind.Place.TheVariants as places
use Rattle.sip_wire.specs.declared.message.Message.TheVariants as messages
use Rattle.sip_wire.specs.declared.version.Version.{Version}
use Rattle.sip_wire.specs.Spelling.{all_hold, fits, has_room, side_number}
use Rattle.sip_wire.specs.Table.{allows, most_queries}
use Rattle.sip_replies.proofs.Saying.{reveal_fits}
use Rattle.sip_helper.specs.Rules.{AreTurnsBy, IsTurnBy, Turn, after_turn_by, state_after_by}
use Rattle.sip_helper.specs.Shown.{weight_of}
use Rattle.sip_helper.specs.Turns.{may_hear, version_opened, whole_of}
use Rattle.sip_helper.proofs.OwedReplies.{left_above}
use Rattle.sip_moments.specs.declared.moment.Moment.{Moment}
use Rattle.sip_moments.specs.Manner.{CanBeCounted}
use Rattle.sip_moments.specs.Moments.{is_too_high}
use Rattle.sip_moments.specs.Questions.{ask_of}
use Rattle.sip_moments.specs.Served.{CanBeServed, behind_stream, question_turns, reveals, turn}
use Rattle.sip_moments.specs.Serving.{MomentHelper, OpenMoment, after_answer, is_allowed, may_ask, may_follow, moment_rules, place_due, side_of, step}
use Rattle.sip_moments.proofs.AskFrames.{ask_fits}
use Rattle.sip_moments.proofs.ServedReplies.{HasHeard, asked_due, due, has_heard, left_of, next_due, replied, reveals_keep}

-- turns one after another
turns-append : (s : MomentHelper) (ts us : List Turn) → AreTurnsBy moment_rules s ts
    → AreTurnsBy moment_rules (state_after_by moment_rules s ts) us
    → AreTurnsBy moment_rules s (ts ++ us)
turns-append s [] us are more = more
turns-append s (t ∷ ts) us are more =
    (are.0, turns-append (after_turn_by moment_rules s t) ts us are.1 more)

side_is : (side : Side) → side_of (side_number side) ≡ Some side
side_is sides.First = refl
side_is sides.Second = refl

end_fits : (version : Version) → IsTrue (fits version messages.End)
unfolding fits has_room all_hold
end_fits version = refl

-- a moment is due behind the stream, where none is open
due_place : (s : MomentHelper) (depth : ℕ) → whole_of s.helper.heard ≡ Some depth
    → s.question ≡ None → place_due s ≡ places.AskedMoment
due_place s depth whole none =
    ap (λ (q : Option OpenMoment). place_due (record s { question = q })) none
    ∙ ap (λ (h : Option ℕ). if is_some h then places.AskedMoment else places.ToHelper) whole

module _ (version : Version) (depth : ℕ) (stream : List Update) where
  -- ---- an Ask

  may_be_asked : (s : MomentHelper) (m : Moment) → HasHeard version depth stream s.helper
      → s.asked < most_queries → CanBeCounted stream m
      → may_ask s (side_number m.side) m.degree ≡ true
  may_be_asked s m has few can =
      and_from _ _ (and_from _ _ (and_from _ _ (lt-ltb s.asked most_queries few)
      (le-leb 3 m.degree can.degree.least)) (le-leb m.degree 8 can.degree.most))
      (ap (λ (o : Option Side). elim o as (λ _. Bool) [
        | Some at ↦ not (is_too_high (weight_of s.helper.weights at) m.degree)
        | None ↦ false
      ]) (side_is m.side)
      ∙ ap (λ (w : ℕ). not (is_too_high w m.degree)) (has.weights m.side)
      ∙ ap not can.low)

  ask_may : (s : MomentHelper) (m : Moment) → HasHeard version depth stream s.helper
      → s.question ≡ None → s.asked < most_queries → CanBeCounted stream m
      → IsTurnBy moment_rules s (turn (ask_of m))
  ask_may s m has none few can = record {
    message = record {
      has_spelling = ask_fits s.helper.version m (omega (arith, can.degree.most));
      to_helper = subst (λ (p : Place). IsTrue (allows p kinds.AskMoment))
          (sym (due_place s depth has.whole none)) refl;
      in_range = tt;
    };
    allowed = ap (λ (q : Option OpenMoment). is_allowed (record s { question = q }) (ask_of m)) none
        ∙ ap (λ (h : Option ℕ). elim h as (λ _. Bool) [
          | None ↦ may_hear s.helper (ask_of m)
          | Some d ↦ may_ask s (side_number m.side) m.degree
        ]) has.whole
        ∙ may_be_asked s m has few can;
  }

  -- ---- a challenge

  reveal_may : (s : MomentHelper) (m : Moment) (revealed : List ℕ) (r : ℕ)
      → HasHeard version depth stream s.helper
      → s.question ≡ Some (record (due m revealed) { given = true })
      → length revealed + 1 < depth → r < m61_modulus
      → IsTurnBy moment_rules s (turn (messages.Reveal r))
  reveal_may s m revealed r has is less below =
      let o = record (due m revealed) { given = true } in
      record {
        message = record {
          has_spelling = reveal_fits s.helper.version r below;
          to_helper = subst (λ (p : Place). IsTrue (allows p kinds.Reveal))
              (sym (ap (λ (q : Option OpenMoment). place_due (record s { question = q })) is)) refl;
          in_range = tt;
        };
        allowed = ap (λ (q : Option OpenMoment).
            is_allowed (record s { question = q }) (messages.Reveal r)) is
            ∙ ap (λ (h : Option ℕ). elim h as (λ _. Bool) [
              | None ↦ may_hear s.helper (messages.Reveal r)
              | Some d ↦ may_follow d o (messages.Reveal r)
            ]) has.whole
            ∙ lt-ltb (length revealed + 1) depth less;
      }

  reveals_may : (s : MomentHelper) (m : Moment) (front : List ℕ) (r : ℕ) (block : List ℕ)
      → HasHeard version depth stream s.helper → s.question ≡ Some (due m front)
      → length front + length block < depth → All (λ x. x < m61_modulus) (r ∷ block)
      → AreTurnsBy moment_rules (after_answer s) (reveals (r ∷ block))
  reveals_may s m front r [] has is less below = tt
  reveals_may s m front r (next ∷ block) has is less below =
      let now = step (after_answer s) false (messages.Reveal r) in
      let more : length front + 1 < depth = omega (arith, less) in (
        reveal_may (after_answer s) m front r has
            (replied version depth stream s m front has is
            ∙ ap (left_of m front) (left_above (length front + 1) depth more))
            more (All-head (λ x. x < m61_modulus) r (next ∷ block) below),
        reveals_may now m (front ++ r ∷ []) next block has
            (next_due version depth stream s m front r has is more)
            (omega (arith, less, length-append front (r ∷ [])))
            (All-tail (λ x. x < m61_modulus) r (next ∷ block) below),
      )

  -- the last reply closes the moment
  reveals_close : (s : MomentHelper) (m : Moment) (front : List ℕ) (r : ℕ) (block : List ℕ)
      → HasHeard version depth stream s.helper → s.question ≡ Some (due m front)
      → length front + length block + 1 ≡ depth
      → (state_after_by moment_rules (after_answer s) (reveals (r ∷ block))).question ≡ None
  reveals_close s m front r [] has is long =
      replied version depth stream s m front has is
      ∙ ap (left_of m front) (le-leb depth (length front + 1) (omega (arith, long)))
  reveals_close s m front r (next ∷ block) has is long =
      reveals_close (step (after_answer s) false (messages.Reveal r)) m (front ++ r ∷ []) next block
      has (next_due version depth stream s m front r has is (omega (arith, long)))
      (omega (arith, long, length-append front (r ∷ [])))

  reveals_count : (s : MomentHelper) (block : List ℕ)
      → (state_after_by moment_rules s (reveals block)).asked ≡ s.asked
  reveals_count s [] = refl
  reveals_count s (r ∷ []) = refl
  reveals_count s (r ∷ next ∷ block) =
      reveals_count (after_turn_by moment_rules s (turn (messages.Reveal r))) (next ∷ block)

  -- ---- questions, and the end

  end_may : (s : MomentHelper) → HasHeard version depth stream s.helper → s.question ≡ None
      → IsTurnBy moment_rules s (turn messages.End)
  end_may s has none = record {
    message = record {
      has_spelling = end_fits s.helper.version;
      to_helper = subst (λ (p : Place). IsTrue (allows p kinds.End))
          (sym (due_place s depth has.whole none)) refl;
      in_range = tt;
    };
    allowed = ap (λ (q : Option OpenMoment). is_allowed (record s { question = q }) messages.End)
        none
        ∙ ap (λ (h : Option ℕ). elim h as (λ _. Bool) [
          | None ↦ may_hear s.helper messages.End
          | Some d ↦ true
        ]) has.whole;
  }

  question_may : (s : MomentHelper) (m : Moment) (block : List ℕ)
      → HasHeard version depth stream s.helper → s.question ≡ None → s.asked < most_queries
      → 1 ≤ depth → CanBeServed depth stream (m, block)
      → AreTurnsBy moment_rules s (question_turns (m, block))
      × ((state_after_by moment_rules s (question_turns (m, block))).question ≡ None)
  question_may s m [] has none few some can = absurd (let long = can.block in omega (arith, long))
  question_may s m (r ∷ block) has none few some can =
      let long = can.block in
      let now = step s false (ask_of m) in
      let is = asked_due version depth stream s m in (
        (
          ask_may s m has none few can.can,
          reveals_may now m [] r block has is (omega (arith, long)) can.elements,
        ),
        reveals_close now m [] r block has is (omega (arith, long)),
      )

  questions_may : (s : MomentHelper) (asks : List (Moment × List ℕ))
      → HasHeard version depth stream s.helper → s.question ≡ None
      → s.asked + length asks ≤ most_queries → 1 ≤ depth → All (CanBeServed depth stream) asks
      → AreTurnsBy moment_rules s (flat_map question_turns asks ++ turn messages.End ∷ [])
  questions_may s [] has none few some can = (end_may s has none, tt)
  questions_may s ((m, block) ∷ asks) has none few some can =
      let first = question_turns (m, block) in
      let now = after_turn_by moment_rules s (turn (ask_of m)) in
      let next = state_after_by moment_rules s first in
      let may = question_may s m block has none (omega (arith, few)) some
      (All-head (CanBeServed depth stream) (m, block) asks can) in
      subst (AreTurnsBy moment_rules s)
      (sym (append_assoc first (flat_map question_turns asks) (turn messages.End ∷ [])))
      (turns-append s first (flat_map question_turns asks ++ turn messages.End ∷ []) may.0
      (questions_may next asks
      (subst (HasHeard version depth stream) (sym (reveals_keep now block)) has) may.1
      (let count : next.asked ≡ s.asked + 1 = reveals_count now block in
      omega (arith, few, count))
      some
      (All-tail (CanBeServed depth stream) (m, block) asks can)))

pub run_may : (number depth : ℕ) (pieces : List (List Update)) (asks : List (Moment × List ℕ))
    → 1 ≤ depth → length asks ≤ most_queries
    → All (CanBeServed depth (flat_map (λ us. us) pieces)) asks
    → AreTurnsBy moment_rules (behind_stream number depth pieces)
    (flat_map question_turns asks ++ turn messages.End ∷ [])
run_may number depth pieces asks some few can =
    questions_may (version_opened number) depth (flat_map (λ us. us) pieces)
    (behind_stream number depth pieces) asks (has_heard number depth pieces) refl
    (omega (arith, few)) some can
