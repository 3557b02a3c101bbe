-- Accepted replies are the bytes of frames of nodes.
use Rattle.std.proofs.Common.{◌≡◌, ℕ, zero, suc, ◌+◌, Bool, true, false, not, Result, Ok, Err, List, [], ◌∷◌, ◌++◌, length, All, refl, sym, ap, subst, ◌∙◌, arith, append_assoc, append-nil}
use Rattle.std.specs.Prelude.{◌==◌, ◌&&◌}
use Rattle.std.specs.List.{flat_map}
use Rattle.std.proofs.lemmas.List.Concat.{flat_map-cons}
use Rattle.std.proofs.lemmas.List.Elements.{All-nil, All-cons, All-head, All-tail}
use Rattle.sip_vector.specs.declared.update.Entry.{Entry}
use Rattle.sip_vector.specs.Answers.{Answer, pairs}
use Rattle.sip_vector.specs.Steps.{◌>>=◌, needs}
use Rattle.sip_wire.specs.declared.message.Message.{Message}
use Rattle.sip_wire.specs.declared.message.Message.TheVariants as messages
use Rattle.sip_wire.specs.declared.message.Node.{Node}
use Rattle.sip_wire.specs.declared.message.Reason.{Reason}
use Rattle.sip_wire.specs.declared.message.Reason.TheVariants as reasons
use Rattle.sip_wire.specs.declared.message.WireFault.{WireFault}
use Rattle.sip_wire.specs.declared.version.Version.{Version}
use Rattle.sip_wire.specs.Decoding.{IsBytes, Spelled}
use Rattle.sip_wire.specs.Reading.{read_frame}
use Rattle.sip_wire.specs.Spelling.{spelling}
use Rattle.sip_wire.proofs.Bytes.{IsBytes-drop}
use Rattle.sip_wire.proofs.ReadingLaws.{read_frame-rest}
use Rattle.sip_wire.proofs.ReadsBack.{read_frame-message}
use Rattle.sip_replies.specs.declared.check.More.TheVariants as mores
use Rattle.sip_replies.specs.Protocols.{Rules}
use Rattle.sip_replies.specs.Replies.{Fault, IsAccepted, IsStated, frame_says, in_round, read_from, read_reply, run_from, step_says, verdict}
use Rattle.sip_replies.proofs.Passing.{at_end_parts}
use Rattle.sip_heavy.specs.declared.form.LeafForm.{LeafForm}
use Rattle.sip_heavy.specs.AcceptsHeavy.{HeavyQuestion, end_test, merged, with_nodes}
use Rattle.sip_heavy.specs.AcceptsHeavy as heavy
use Rattle.sip_heavy.specs.Protocol.{HeavyAsked, HeavyState, are_counts, ended, mark_nodes, heavy_finish, heavy_protocol, heavy_rules, heavy_step, leaf_nodes, learns, reaches}
use Rattle.sip_heavy.specs.Stating.{AreFrames, IsFrame, States, as_answer, stated_nodes, stated_replies, stated_reply}
use Rattle.sip_heavy.proofs.StatedReplies.{are_judged}

abbrev Next : Type 0
Next = HeavyState → List ℕ → Result HeavyState Reason

-- these bytes are frames of nodes and the end of the level
pub record IsReply (version : Version) (form : LeafForm) (s : HeavyState) (bytes : List ℕ) (t : HeavyState) : Type 0 where
  pub frames : List Message
  pub are : All (IsFrame version form (s.level == 0)) frames
  pub spelled : bytes ≡ stated_reply version frames
  pub next : t.level ≡ s.level + 1

module _ (version : Version) (p : ℕ) (q : HeavyQuestion) where
  abbrev R : Rules HeavyState
  R = heavy_rules version p q

  -- a frame in front
  one_more : (s t : HeavyState) (all : List Node) (bytes rest : List ℕ) (m : Message) → IsFrame version q.form (s.level == 0) m → bytes ≡ spelling version m ++ rest
      → IsReply version q.form (record s { received = all }) rest t → IsReply version q.form s bytes t
  one_more s t all bytes rest m is spelled reply = record {
    frames = m ∷ reply.frames;
    are = All-cons (IsFrame version q.form (s.level == 0)) m reply.frames is reply.are;
    spelled =
        spelled ∙ ap (λ b. spelling version m ++ b) reply.spelled
        ∙ sym (append_assoc (spelling version m) (flat_map (spelling version) reply.frames) (spelling version messages.LevelEnd))
        ∙ ap (λ b. b ++ spelling version messages.LevelEnd) (sym (flat_map-cons (spelling version) m reply.frames));
    next = reply.next;
  }

  -- nodes that pass, and what follows
  by_nodes : (next : Next) (s t : HeavyState) (bytes rest : List ℕ) (m : Message) (test : Bool) (nodes : List Node) (w : Result (List Node) Reason) → (test ≡ true → IsFrame version q.form (s.level == 0) m) → bytes ≡ spelling version m ++ rest
      → ((u : HeavyState) → u.level ≡ s.level → next u rest ≡ Ok t → IsReply version q.form u rest t)
      → step_says next rest (needs test reasons.BadKind >>= λ _. w >>= λ all. Ok (mores.Due, record s { received = all })) ≡ Ok t → IsReply version q.form s bytes t
  by_nodes next s t bytes rest m true nodes (Ok all) is spelled later e = one_more s t all bytes rest m (is refl) spelled (later (record s { received = all }) refl e)
  by_nodes next s t bytes rest m true nodes (Err reason) is spelled later e = absurd cc
  by_nodes next s t bytes rest m false nodes w is spelled later e = absurd cc

  by_end : (next : Next) (s t : HeavyState) (bytes rest : List ℕ) (w : Result (Unit {0}) Reason) → bytes ≡ spelling version messages.LevelEnd ++ rest
      → step_says next rest (w >>= λ _. Ok (mores.Complete, ended s)) ≡ Ok t → IsReply version q.form s bytes t
  by_end next s t bytes rest (Err reason) spelled e = absurd cc
  by_end next s t bytes rest (Ok u) spelled e =
      let parts = at_end_parts (ended s) t rest e in
      record {
        frames = [];
        are = All-nil (IsFrame version q.form (s.level == 0));
        spelled = spelled ∙ ap (λ b. spelling version messages.LevelEnd ++ b) parts.0 ∙ append-nil (spelling version messages.LevelEnd);
        next = ap (λ (u : HeavyState). u.level) (sym parts.1);
      }

  by_message : (next : Next) (s t : HeavyState) (bytes rest : List ℕ) (m : Message) → Spelled version (R.place s) bytes m rest → ((u : HeavyState) → u.level ≡ s.level → next u rest ≡ Ok t → IsReply version q.form u rest t)
      → step_says next rest (heavy_step p q s m) ≡ Ok t → IsReply version q.form s bytes t
  by_message next s t bytes rest (messages.Leaves v) sp later e =
      by_nodes next s t bytes rest (messages.Leaves v) (are_counts q.form && (s.level == 0)) (leaf_nodes v.items) (with_nodes q s.level s.known s.received (leaf_nodes v.items)) (λ at. (sp.has_spelling, at, sp.in_range)) sp.spelled later e
  by_message next s t bytes rest (messages.Marks v) sp later e =
      by_nodes next s t bytes rest (messages.Marks v) (not (are_counts q.form) && (s.level == 0)) (mark_nodes p v.items) (with_nodes q s.level s.known s.received (mark_nodes p v.items)) (λ at. (sp.has_spelling, at, sp.in_range)) sp.spelled later e
  by_message next s t bytes rest (messages.Nodes v) sp later e =
      by_nodes next s t bytes rest (messages.Nodes v) (not (s.level == 0)) v.items (with_nodes q s.level s.known s.received v.items) (λ at. (sp.has_spelling, at, sp.in_range)) sp.spelled later e
  by_message next s t bytes rest messages.LevelEnd sp later e = by_end next s t bytes rest (end_test q s.level (merged s.known s.received)) sp.spelled e
  by_message next s t bytes rest _ sp later e = absurd cc

  by_frame : (next : Next) (s t : HeavyState) (bytes : List ℕ) → IsBytes bytes → ((u : HeavyState) (rest : List ℕ) → IsBytes rest → u.level ≡ s.level → next u rest ≡ Ok t → IsReply version q.form u rest t)
      → (r : Result (Message × List ℕ) WireFault) → read_frame version (R.place s) bytes ≡ r → frame_says R next s r ≡ Ok t → IsReply version q.form s bytes t
  by_frame next s t bytes fine later (Err fault) is e = absurd cc
  by_frame next s t bytes fine later (Ok frame) is e =
      let rest = read_frame-rest version (R.place s) bytes frame.0 frame.1 is in
      let fine_rest = subst (λ (l : List ℕ). IsBytes l) (sym rest.1) (IsBytes-drop _ bytes fine) in
      by_message next s t bytes frame.1 frame.0 (read_frame-message version (R.place s) bytes frame.0 frame.1 fine is) (λ u same k. later u frame.1 fine_rest same k) e

  from_back : (n : ℕ) (s t : HeavyState) (bytes : List ℕ) → IsBytes bytes → read_from R n s bytes ≡ Ok t → IsReply version q.form s bytes t
  unfolding read_from
  from_back zero s t bytes fine e = absurd cc
  from_back (suc n) s t bytes fine e =
      by_frame (read_from R n) s t bytes fine (λ u rest fine_rest same k. from_back n u t rest fine_rest k) (read_frame version (R.place s) bytes) refl e

  -- what is read as a whole reply
  pub reply_back : (s t : HeavyState) (bytes : List ℕ) → IsBytes bytes → read_reply R s bytes ≡ Ok t → IsReply version q.form s bytes t
  reply_back s t bytes fine e = from_back (length bytes) s t bytes fine e

  -- ---- replies one after another

  pub record AreReplies (j : ℕ) (rs : List ℕ) (replies : List (List ℕ)) : Type 0 where
    pub frames : List (List Message)
    pub are : AreFrames version q.form j frames
    pub bytes : replies ≡ stated_replies version frames
    pub each : length frames ≡ length rs

  replies_back : (j : ℕ) (rs : List ℕ) (s t : HeavyState) (replies : List (List ℕ)) → s.level ≡ j → length replies ≡ length rs → All IsBytes replies → run_from R j rs s replies ≡ Ok t → AreReplies j rs replies
  unfolding run_from
  replies_back j [] s t [] at same fine e = record { frames = []; are = tt; bytes = refl; each = refl }
  replies_back j [] s t (b ∷ more) at same fine e = absurd (omega (arith, same))
  replies_back j (r ∷ rs) s t [] at same fine e = absurd (omega (arith, same))
  replies_back j (r ∷ rs) s t (b ∷ more) at same fine e =
      by_read (read_reply R s b) refl (λ u up k. replies_back (j + 1) rs (learns p u r) t more up (omega (arith, same)) (All-tail IsBytes b more fine) k) e
    where
      by_read : (w : Result HeavyState Reason) → read_reply R s b ≡ w → ((u : HeavyState) → u.level ≡ j + 1 → run_from R (j + 1) rs (learns p u r) more ≡ Ok t → AreReplies (j + 1) rs more)
          → (in_round j w >>= λ u. run_from R (j + 1) rs (learns p u r) more) ≡ Ok t → AreReplies j (r ∷ rs) (b ∷ more)
      by_read (Err reason) is later k = absurd cc
      by_read (Ok u) is later k =
          let reply = reply_back s u b (All-head IsBytes b more fine) is in
          let others = later u (reply.next ∙ ap (λ i. i + 1) at) k in
          record {
            frames = reply.frames ∷ others.frames;
            are = (subst (λ i. All (IsFrame version q.form (i == 0)) reply.frames) at reply.are, others.are);
            bytes = ap (λ x. x ∷ more) reply.spelled ∙ ap (λ xs. stated_reply version reply.frames ∷ xs) others.bytes;
            each = omega (arith, others.each);
          }

  pub run_back : (rs : List ℕ) (t : HeavyState) (replies : List (List ℕ)) → length replies ≡ length rs → All IsBytes replies → run_from R 0 rs R.start replies ≡ Ok t → AreReplies 0 rs replies
  run_back rs t replies same fine e = replies_back 0 rs R.start t replies refl same fine e

-- ---- all replies

answered : (w : Result (List Entry) Fault) (answer : Answer) → as_answer w ≡ Ok answer → (es : List Entry) × ((w ≡ Ok es) × (answer ≡ pairs es))
answered (Ok es) answer e = (es, (refl, (let same : pairs es ≡ answer = cc in sym same)))
answered (Err fault) answer e = absurd cc

module _ (asked : HeavyAsked) where
  by_run : (challenges : List ℕ) (replies : List (List ℕ)) (answer : Answer) → asked.query.depth ≡ length challenges → All IsBytes replies → IsStated (heavy_protocol asked) challenges replies answer
      → (w : Result HeavyState Fault) → run_from (heavy_rules asked.version asked.modulus asked.query) 0 challenges (heavy_rules asked.version asked.modulus asked.query).start replies ≡ w
      → (w >>= λ s. in_round (length challenges) (heavy_finish asked s)) ≡ Ok answer → (frames : List (List Message)) × States asked challenges replies answer frames
  by_run challenges replies answer depth fine stated (Err fault) is e = absurd cc
  by_run challenges replies answer depth fine stated (Ok t) is e =
      let back = run_back asked.version asked.modulus asked.query challenges t replies stated.all fine is in
      let judged = are_judged asked challenges back.frames depth back.are back.each in
      let says = answered (heavy.verdict asked.modulus asked.query asked.root challenges (stated_nodes asked.modulus back.frames)) answer
      (sym judged ∙ ap (verdict (heavy_protocol asked) challenges) (sym back.bytes) ∙ stated.found) in (
        back.frames,
        record { each = back.are; bytes = back.bytes; all = back.each; found = says.0; passes = says.1.0; answer_is = says.1.1 },
      )

  pub are_stated : (challenges : List ℕ) (replies : List (List ℕ)) (answer : Answer) → asked.query.depth ≡ length challenges → reaches asked.query ≡ true → All IsBytes replies → IsAccepted (heavy_protocol asked) challenges replies answer
      → (frames : List (List Message)) × States asked challenges replies answer frames
  are_stated challenges replies answer depth reached fine accepted =
      let its = rw reached at accepted in
      let stated : IsStated (heavy_protocol asked) challenges replies answer = record { all = its.all; found = its.found } in
      by_run challenges replies answer depth fine stated _ refl stated.found
