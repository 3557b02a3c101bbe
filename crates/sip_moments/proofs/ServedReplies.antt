-- What a helper of moments says in a talk that keeps to the turns.
use Rattle.std.proofs.Common.{◌≡◌, ℕ, ◌+◌, ◌<◌, ◌≤◌, Bool, true, false, ◌||◌, nat_le, if◌then◌else◌, List, [], ◌∷◌, ◌++◌, length, map, All, Option, Some, None, refl, sym, ap, subst, ◌∙◌, append_assoc, append-nil, arith, length-append}
use Rattle.std.specs.List.{flat_map}
use Rattle.std.specs.Option.{option_map}
use Rattle.std.proofs.lemmas.List.Elements.{All-head, All-tail}
use Rattle.sip_field.specs.Moduli.{m61_modulus}
use Rattle.sip_ports.specs.declared.port.TalkEvent.{TalkEvent}
use Rattle.sip_ports.specs.Ports.{ins, outs, written}
use Rattle.sip_ports.proofs.TalkLemmas.{written-append, written-ins, written-outs}
use Rattle.sip_vector.specs.declared.update.Side.{Side}
use Rattle.sip_vector.specs.declared.update.Side.TheVariants as sides
use Rattle.sip_vector.specs.declared.update.Update.{Update}
use Rattle.sip_vector.specs.Streams.{weight}
use Rattle.sip_vector.specs.Vectors.{SideVector, side_vector}
use Rattle.sip_vector.proofs.Sides.{weight-append}
use Rattle.sip_wire.specs.declared.message.Message.TheVariants as messages
use Rattle.sip_wire.specs.declared.version.Version.{Version}
use Rattle.sip_wire.specs.Spelling.{side_number, spelling}
use Rattle.sip_counts.proofs.Walks.{fronts_walk, walk}
use Rattle.sip_helper.specs.declared.heard.Heard.{Heard}
use Rattle.sip_helper.specs.Rules.{Turn, after_turn_by, heard_by, state_after_by, turn_talk_by, turns_talk_by}
use Rattle.sip_helper.specs.Shown.{shown_vector, weight_of}
use Rattle.sip_helper.specs.Streams.{stream_heard, updates_heard, vectors_of}
use Rattle.sip_helper.specs.Turns.{HelperState, depth_of, fresh, no_weight, version_opened, whole_of}
use Rattle.sip_helper.specs.Turns as turns
use Rattle.sip_helper.specs.Vectors.{Vectors, vector_of}
use Rattle.sip_helper.proofs.OwedReplies.{left_above, stream_vectors}
use Rattle.sip_moments.specs.declared.moment.Moment.{Moment}
use Rattle.sip_moments.specs.Honest.{honest_reply}
use Rattle.sip_moments.specs.Manner.{honest_bytes, numbers_of}
use Rattle.sip_moments.specs.Questions.{ask_of}
use Rattle.sip_moments.specs.Served.{behind_stream, challenged, question_heard, question_turns, reveals, run_turns, stream_turns, turn}
use Rattle.sip_moments.specs.Serving.{MomentHelper, OpenMoment, after_answer, fresh_moments, is_refused, moment_rules, newly_asked, owed, reply_to, side_of, step, with_challenge}
use Rattle.sip_moments.proofs.MomentReplies.{depth_is}

-- ---- a moment whose reply is owed

abbrev pub due : Moment → List ℕ → OpenMoment
due m revealed = record {
  side = m.side;
  degree = m.degree;
  revealed = revealed;
  given = false;
  refused = false;
}

-- what is left of it once the reply was given, by whether that was the last
abbrev pub left_of : Moment → List ℕ → Bool → Option OpenMoment
left_of m revealed is_last =
    if is_last then None else Some (record (due m revealed) { given = true })

-- a helper has heard this stream to its end
pub record HasHeard (version : Version) (depth : ℕ) (stream : List Update)
    (helper : HelperState) : Type 0 where
  pub version_is : helper.version ≡ version
  pub whole : whole_of helper.heard ≡ Some depth
  pub weights : (side : Side) → weight_of helper.weights side ≡ weight stream side
  pub shown : (side : Side) → shown_vector helper side ≡ Some (side_vector depth stream side)

module _ (version : Version) (depth : ℕ) (stream : List Update) where
  abbrev reply : Moment → List ℕ → List ℕ
  reply m revealed =
      honest_reply version m61_modulus m.degree depth (numbers_of depth stream m) revealed

  -- the honest reply is owed
  owed_honest : (s : MomentHelper) (m : Moment) (revealed : List ℕ)
      → HasHeard version depth stream s.helper → s.question ≡ Some (due m revealed)
      → owed s ≡ reply m revealed
  owed_honest s m revealed has is =
      ap (λ (q : Option OpenMoment). owed (record s { question = q })) is
      ∙ ap (λ (v : Option SideVector). flat_map (spelling s.helper.version)
      (reply_to v (due m revealed))) (has.shown m.side)
      ∙ ap (λ (w : Version).
      honest_reply w m61_modulus m.degree depth (numbers_of depth stream m) revealed)
      has.version_is

  -- what is left of it once that was given
  pub replied : (s : MomentHelper) (m : Moment) (revealed : List ℕ)
      → HasHeard version depth stream s.helper → s.question ≡ Some (due m revealed)
      → (after_answer s).question ≡ left_of m revealed (nat_le depth (length revealed + 1))
  replied s m revealed has is =
      ap (λ (q : Option OpenMoment). (after_answer (record s { question = q })).question) is
      ∙ ap (λ (v : Option SideVector). left_of m revealed (is_refused v (due m revealed)
      || nat_le (depth_of s.helper.heard) (length revealed + 1))) (has.shown m.side)
      ∙ ap (λ (d : ℕ). left_of m revealed (nat_le d (length revealed + 1)))
      (depth_is s.helper.heard depth has.whole)

  -- where a level is left, it is due again behind a challenge
  pub next_due : (s : MomentHelper) (m : Moment) (revealed : List ℕ) (r : ℕ)
      → HasHeard version depth stream s.helper → s.question ≡ Some (due m revealed)
      → length revealed + 1 < depth
      → (step (after_answer s) false (messages.Reveal r)).question
      ≡ Some (due m (revealed ++ r ∷ []))
  next_due s m revealed r has is more =
      ap (option_map (with_challenge r)) (replied s m revealed has is)
      ∙ ap (λ (b : Bool). option_map (with_challenge r) (left_of m revealed b))
      (left_above (length revealed + 1) depth more)

  replies_owed : (s : MomentHelper) (m : Moment) (before revealed : List ℕ)
      → HasHeard version depth stream s.helper → s.question ≡ Some (due m before)
      → length before + length revealed < depth
      → owed (challenged s revealed) ≡ reply m (before ++ revealed)
  replies_owed s m before [] has is less =
      owed_honest s m before has is ∙ ap (reply m) (sym (append-nil before))
  replies_owed s m before (r ∷ revealed) has is less =
      replies_owed (step (after_answer s) false (messages.Reveal r)) m (before ++ r ∷ []) revealed
      has (next_due s m before r has is (omega (arith, less)))
      (omega (arith, less, length-append before (r ∷ [])))
      ∙ ap (reply m) (append_assoc before (r ∷ []) revealed)

  -- a moment that is asked is due
  pub asked_due : (s : MomentHelper) (m : Moment)
      → (step s false (ask_of m)).question ≡ Some (due m [])
  asked_due s m = by_side m.side
    where
      by_side : (side : Side)
          → option_map (λ at. newly_asked at m.degree false) (side_of (side_number side))
          ≡ Some (newly_asked side m.degree false)
      by_side sides.First = refl
      by_side sides.Second = refl

  -- ---- all replies to a question

  -- of a turn the reply goes out
  written-turn : (s : MomentHelper) (t : Turn)
      → written (turn_talk_by moment_rules s t) ≡ owed (heard_by moment_rules s t)
  written-turn s t =
      let said = ins (spelling s.helper.version t.message) in
      let sent = outs (owed (heard_by moment_rules s t)) in
      written-append said sent
      ∙ ap (λ (l : List ℕ). l ++ written sent)
      (written-ins (spelling s.helper.version t.message))
      ∙ written-outs (owed (heard_by moment_rules s t))

  written-more : (s : MomentHelper) (t : Turn) (ts : List Turn)
      → written (turns_talk_by moment_rules s (t ∷ ts)) ≡ owed (heard_by moment_rules s t)
      ++ written (turns_talk_by moment_rules (after_turn_by moment_rules s t) ts)
  written-more s t ts =
      let rest = turns_talk_by moment_rules (after_turn_by moment_rules s t) ts in
      written-append (turn_talk_by moment_rules s t) rest
      ∙ ap (λ (l : List ℕ). l ++ written rest) (written-turn s t)

  -- behind a reply, those to the challenges
  walked : (s : MomentHelper) (m : Moment) (front : List ℕ) (r : ℕ) (block : List ℕ)
      → HasHeard version depth stream s.helper → s.question ≡ Some (due m front)
      → length front + length block < depth
      → written (turns_talk_by moment_rules (after_answer s) (reveals (r ∷ block)))
      ≡ flat_map (λ b. b) (walk (reply m) (front ++ r ∷ []) block)
  unfolding walk
  walked s m front r [] has is less = refl
  walked s m front r (next ∷ block) has is less =
      let now = step (after_answer s) false (messages.Reveal r) in
      let so = next_due s m front r has is (omega (arith, less)) in
      written-more (after_answer s) (turn (messages.Reveal r)) (reveals (next ∷ block))
      ∙ ap (λ (l : List ℕ). l
      ++ written (turns_talk_by moment_rules (after_answer now) (reveals (next ∷ block))))
      (owed_honest now m (front ++ r ∷ []) has so)
      ∙ ap (λ (l : List ℕ). reply m (front ++ r ∷ []) ++ l)
      (walked now m (front ++ r ∷ []) next block has so
      (omega (arith, less, length-append front (r ∷ []))))

  question_served : (s : MomentHelper) (m : Moment) (block : List ℕ)
      → HasHeard version depth stream s.helper → length block ≡ depth → 1 ≤ depth
      → written (turns_talk_by moment_rules s (question_turns (m, block)))
      ≡ honest_bytes version depth stream (m, block)
  unfolding walk
  question_served s m [] has long some = absurd (omega (arith, long))
  question_served s m (r ∷ block) has long some =
      let now = step s false (ask_of m) in
      written-more s (turn (ask_of m)) (reveals (r ∷ block))
      ∙ ap (λ (l : List ℕ). l
      ++ written (turns_talk_by moment_rules (after_answer now) (reveals (r ∷ block))))
      (owed_honest now m [] has (asked_due s m))
      ∙ ap (λ (l : List ℕ). reply m [] ++ l)
      (walked now m [] r block has (asked_due s m) (omega (arith, long)))
      ∙ ap (flat_map (λ b. b)) (sym (fronts_walk (reply m) [] (r ∷ block)))

-- ---- a whole run

-- turns one after another
pub state-append : (s : MomentHelper) (ts us : List Turn)
    → state_after_by moment_rules s (ts ++ us)
    ≡ state_after_by moment_rules (state_after_by moment_rules s ts) us
state-append s [] us = refl
state-append s (t ∷ ts) us = state-append (after_turn_by moment_rules s t) ts us

talk-append : (s : MomentHelper) (ts us : List Turn)
    → turns_talk_by moment_rules s (ts ++ us) ≡ turns_talk_by moment_rules s ts
    ++ turns_talk_by moment_rules (state_after_by moment_rules s ts) us
talk-append s [] us = refl
talk-append s (t ∷ ts) us =
    ap (λ (l : List TalkEvent). turn_talk_by moment_rules s t ++ l)
    (talk-append (after_turn_by moment_rules s t) ts us)
    ∙ sym (append_assoc (turn_talk_by moment_rules s t)
    (turns_talk_by moment_rules (after_turn_by moment_rules s t) ts)
    (turns_talk_by moment_rules
    (state_after_by moment_rules (after_turn_by moment_rules s t) ts) us))

written-both : (s : MomentHelper) (ts us : List Turn)
    → written (turns_talk_by moment_rules s (ts ++ us))
    ≡ written (turns_talk_by moment_rules s ts)
    ++ written (turns_talk_by moment_rules (state_after_by moment_rules s ts) us)
written-both s ts us =
    ap written (talk-append s ts us) ∙ written-append (turns_talk_by moment_rules s ts) _

-- challenges leave the stream as it is
pub reveals_keep : (s : MomentHelper) (block : List ℕ)
    → (state_after_by moment_rules s (reveals block)).helper ≡ s.helper
reveals_keep s [] = refl
reveals_keep s (r ∷ []) = refl
reveals_keep s (r ∷ next ∷ block) =
    reveals_keep (after_turn_by moment_rules s (turn (messages.Reveal r))) (next ∷ block)

questions_served : (version : Version) (depth : ℕ) (stream : List Update) (s : MomentHelper)
    (asks : List (Moment × List ℕ)) → HasHeard version depth stream s.helper
    → All (λ (ask : Moment × List ℕ). length ask.1 ≡ depth) asks → 1 ≤ depth
    → written (turns_talk_by moment_rules s (flat_map question_turns asks))
    ≡ flat_map (honest_bytes version depth stream) asks
questions_served version depth stream s [] has long some = refl
questions_served version depth stream s ((m, block) ∷ asks) has long some =
    let first = question_turns (m, block) in
    let now = after_turn_by moment_rules s (turn (ask_of m)) in
    written-both s first (flat_map question_turns asks)
    ∙ ap (λ (l : List ℕ). l ++ written (turns_talk_by moment_rules
    (state_after_by moment_rules s first) (flat_map question_turns asks)))
    (question_served version depth stream s m block has
    (All-head (λ (ask : Moment × List ℕ). length ask.1 ≡ depth) (m, block) asks long) some)
    ∙ ap (λ (l : List ℕ). honest_bytes version depth stream (m, block) ++ l)
    (questions_served version depth stream (state_after_by moment_rules s first) asks
    (subst (HasHeard version depth stream) (sym (reveals_keep now block)) has)
    (All-tail (λ (ask : Moment × List ℕ). length ask.1 ≡ depth) (m, block) asks long) some)

-- ---- behind a stream

heard_depth : (s : HelperState) (pieces : List (List Update))
    → (updates_heard s pieces).heard ≡ s.heard
heard_depth s [] = refl
heard_depth s (us ∷ pieces) =
    heard_depth (turns.step s false (messages.Updates (record { items = us }))) pieces

heard_version : (s : HelperState) (pieces : List (List Update))
    → (updates_heard s pieces).version ≡ s.version
heard_version s [] = refl
heard_version s (us ∷ pieces) =
    heard_version (turns.step s false (messages.Updates (record { items = us }))) pieces

of_side : (depth : ℕ) (stream : List Update) (side : Side)
    → vector_of (vectors_of depth stream) side ≡ side_vector depth stream side
of_side depth stream sides.First = refl
of_side depth stream sides.Second = refl

-- the weights are those of all pieces
heard_weights : (s : HelperState) (pieces : List (List Update)) (side : Side)
    → weight_of (updates_heard s pieces).weights side
    ≡ weight_of s.weights side + weight (flat_map (λ us. us) pieces) side
heard_weights s [] side = omega arith
heard_weights s (us ∷ pieces) side =
    let next = turns.step s false (messages.Updates (record { items = us })) in
    omega (
      arith,
      heard_weights next pieces side,
      piece_weighs s us side,
      weight-append us (flat_map (λ xs. xs) pieces) side,
    )
  where
    piece_weighs : (s : HelperState) (us : List Update) (side : Side)
        → weight_of (turns.step s false (messages.Updates (record { items = us }))).weights side
        ≡ weight_of s.weights side + weight us side
    piece_weighs s us sides.First = refl
    piece_weighs s us sides.Second = refl

none_weighs : (side : Side) → weight_of no_weight side ≡ 0
none_weighs sides.First = refl
none_weighs sides.Second = refl

pub has_heard : (number depth : ℕ) (pieces : List (List Update))
    → HasHeard (version_opened number) depth (flat_map (λ us. us) pieces)
    (stream_heard number depth pieces)
has_heard number depth pieces =
    let opened = turns.step fresh false (messages.Open number depth) in
    let stream = flat_map (λ (us : List Update). us) pieces in
    record {
      version_is = heard_version opened pieces;
      whole = ap (λ (h : Heard). Some (depth_of h)) (heard_depth opened pieces);
      weights = λ side. omega (arith, heard_weights opened pieces side, none_weighs side);
      shown = λ side.
          ap (λ (v : Option Vectors). option_map (λ (x : Vectors). vector_of x side) v)
          (stream_vectors number depth pieces)
          ∙ ap Some (of_side depth stream side);
    }

pub replies_are_honest : (number depth : ℕ) (pieces : List (List Update)) (m : Moment)
    (revealed : List ℕ) → length revealed < depth
    → owed (question_heard (behind_stream number depth pieces) m revealed)
    ≡ honest_reply (version_opened number) m61_modulus m.degree depth
    (numbers_of depth (flat_map (λ us. us) pieces) m) revealed
replies_are_honest number depth pieces m revealed less =
    let stream = flat_map (λ (us : List Update). us) pieces in
    let s = behind_stream number depth pieces in
    replies_owed (version_opened number) depth stream (step s false (ask_of m)) m [] revealed
    (has_heard number depth pieces) (asked_due (version_opened number) depth stream s m)
    (omega (arith, less))

-- ---- the turns of the stream

abbrev piece_turn : List Update → Turn
piece_turn us = turn (messages.Updates (record { items = us }))

pieces_state : (helper : HelperState) (pieces : List (List Update))
    → state_after_by moment_rules (record fresh_moments { helper = helper }) (map piece_turn pieces)
    ≡ record fresh_moments { helper = updates_heard helper pieces }
pieces_state helper [] = refl
pieces_state helper (us ∷ pieces) =
    pieces_state (turns.step helper false (messages.Updates (record { items = us }))) pieces

pieces_silent : (helper : HelperState) (pieces : List (List Update))
    → written (turns_talk_by moment_rules (record fresh_moments { helper = helper })
    (map piece_turn pieces)) ≡ []
pieces_silent helper [] = refl
pieces_silent helper (us ∷ pieces) =
    let said = spelling helper.version (piece_turn us).message in
    let next = turns.step helper false (messages.Updates (record { items = us })) in
    let rest = turns_talk_by moment_rules (record fresh_moments { helper = next })
    (map piece_turn pieces) in
    written-append (ins said ++ []) rest
    ∙ ap (λ (l : List ℕ). l ++ written rest)
    (ap written (append-nil (ins said)) ∙ written-ins said)
    ∙ pieces_silent next pieces

stream_state : (number depth : ℕ) (pieces : List (List Update))
    → state_after_by moment_rules fresh_moments (stream_turns number depth pieces)
    ≡ behind_stream number depth pieces
stream_state number depth pieces =
    let opened = turns.step fresh false (messages.Open number depth) in
    let s = record fresh_moments { helper = opened } in
    state-append s (map piece_turn pieces) (turn messages.EndStream ∷ [])
    ∙ ap (λ (x : MomentHelper). after_turn_by moment_rules x (turn messages.EndStream))
    (pieces_state opened pieces)

stream_silent : (number depth : ℕ) (pieces : List (List Update))
    → written (turns_talk_by moment_rules fresh_moments (stream_turns number depth pieces)) ≡ []
stream_silent number depth pieces =
    let opened = turns.step fresh false (messages.Open number depth) in
    let s = record fresh_moments { helper = opened } in
    let whole = record fresh_moments { helper = updates_heard opened pieces } in
    let behind = map piece_turn pieces ++ turn messages.EndStream ∷ [] in
    let said = spelling fresh.version (messages.Open number depth) in
    written-append (ins said ++ []) (turns_talk_by moment_rules s behind)
    ∙ ap (λ (l : List ℕ). l ++ written (turns_talk_by moment_rules s behind))
    (ap written (append-nil (ins said)) ∙ written-ins said)
    ∙ written-both s (map piece_turn pieces) (turn messages.EndStream ∷ [])
    ∙ ap (λ (l : List ℕ). l ++ written (turns_talk_by moment_rules
    (state_after_by moment_rules s (map piece_turn pieces)) (turn messages.EndStream ∷ [])))
    (pieces_silent opened pieces)
    ∙ ap (λ (x : MomentHelper). written (turns_talk_by moment_rules x
    (turn messages.EndStream ∷ []))) (pieces_state opened pieces)
    ∙ ap written (append-nil (ins (spelling whole.helper.version messages.EndStream) ++ [])
    ∙ append-nil (ins (spelling whole.helper.version messages.EndStream)))
    ∙ written-ins (spelling whole.helper.version messages.EndStream)

pub runs_are_honest : (number depth : ℕ) (pieces : List (List Update))
    (asks : List (Moment × List ℕ)) → 1 ≤ depth
    → All (λ (ask : Moment × List ℕ). length ask.1 ≡ depth) asks
    → written (turns_talk_by moment_rules fresh_moments (run_turns number depth pieces asks))
    ≡ flat_map (honest_bytes (version_opened number) depth (flat_map (λ us. us) pieces)) asks
runs_are_honest number depth pieces asks some long =
    let stream = flat_map (λ (us : List Update). us) pieces in
    let asking = flat_map question_turns asks in
    written-both fresh_moments (stream_turns number depth pieces) asking
    ∙ ap (λ (l : List ℕ). l ++ written (turns_talk_by moment_rules
    (state_after_by moment_rules fresh_moments (stream_turns number depth pieces)) asking))
    (stream_silent number depth pieces)
    ∙ ap (λ (x : MomentHelper). written (turns_talk_by moment_rules x asking))
    (stream_state number depth pieces)
    ∙ questions_served (version_opened number) depth stream (behind_stream number depth pieces) asks
    (has_heard number depth pieces) long some
