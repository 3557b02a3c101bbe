-- The nodes that the bytes of a reply state, and what a reply that passes makes of a state.
use Rattle.std.proofs.Common.{◌≡◌, ℕ, zero, suc, ◌+◌, Bool, true, false, not, Result, Ok, Err, List, [], ◌∷◌, ◌++◌, length, refl, ap, sym, subst, ◌∙◌}
use Rattle.std.specs.Prelude.{◌==◌, ◌||◌, ◌&&◌, nat_lt, if◌then◌else◌}
use Rattle.sip_vector.specs.Steps.{◌>>=◌, needs}
use Rattle.sip_wire.specs.declared.kind.Place.{Place}
use Rattle.sip_wire.specs.declared.kind.Place.TheVariants as places
use Rattle.sip_wire.specs.declared.message.Message.{Message}
use Rattle.sip_wire.specs.declared.message.Message.TheVariants as messages
use Rattle.sip_wire.specs.declared.message.Node.{Node}
use Rattle.sip_wire.specs.declared.message.Reason.{Reason}
use Rattle.sip_wire.specs.declared.message.Reason.TheVariants as reasons
use Rattle.sip_wire.specs.declared.message.WireFault.{WireFault}
use Rattle.sip_wire.specs.declared.version.Version.{Version}
use Rattle.sip_wire.specs.Reading.{read_frame}
use Rattle.sip_replies.specs.declared.check.More.{More}
use Rattle.sip_replies.specs.declared.check.More.TheVariants as mores
use Rattle.sip_replies.specs.Protocols.{Rules}
use Rattle.sip_replies.specs.Replies.{step_says, frame_says, read_from, read_reply}
use Rattle.sip_replies.proofs.Passing.{at_end_is}
use Rattle.sip_heavy.specs.declared.form.LeafForm.{LeafForm}
use Rattle.sip_heavy.specs.AcceptsHeavy.{HeavyQuestion, most_nodes, is_next, merged, with_nodes, end_test}
use Rattle.sip_heavy.specs.Protocol.{HeavyState, are_counts, leaf_place, leaf_nodes, mark_nodes, nodes_step, ended, heavy_step, heavy_rules}

-- ---- what bytes say

-- what frames may stand in reply 0 and in the others
abbrev pub place_of : LeafForm → Bool → Place
place_of form first = if first then leaf_place form else places.Nodes

-- the nodes of a frame, before those of the frames behind it
abbrev in_message : ℕ → List Node → Message → List Node
in_message p more (messages.Leaves v) = leaf_nodes v.items ++ more
in_message p more (messages.Marks v) = mark_nodes p v.items ++ more
in_message p more (messages.Nodes v) = v.items ++ more
in_message p more _ = []

abbrev in_frame : ℕ → (List ℕ → List Node) → Result (Message × List ℕ) WireFault → List Node
in_frame p next (Err fault) = []
in_frame p next (Ok frame) = in_message p (next frame.1) frame.0

-- those of at most n frames
unfoldable pub nodes_in : ℕ → LeafForm → Version → Bool → ℕ → List ℕ → List Node
nodes_in p form version first zero bytes = []
nodes_in p form version first (suc n) bytes = in_frame p (nodes_in p form version first n) (read_frame version (place_of form first) bytes)

-- those of a reply
unfoldable pub nodes_said : ℕ → LeafForm → Version → Bool → List ℕ → List Node
nodes_said p form version first bytes = nodes_in p form version first (length bytes) bytes

-- ---- nodes one after another

three_tests : (order room light : Bool) (r after : Result (List Node) Reason) (g : List Node → Result (List Node) Reason) → after ≡ (r >>= g)
    → (needs order reasons.BadOrder >>= λ _. needs room reasons.TooMany >>= λ _. needs light reasons.HeavySibling >>= λ _. after)
    ≡ ((needs order reasons.BadOrder >>= λ _. needs room reasons.TooMany >>= λ _. needs light reasons.HeavySibling >>= λ _. r) >>= g)
three_tests true true true r after g e = e
three_tests true true false r after g e = refl
three_tests true false light r after g e = refl
three_tests false room light r after g e = refl

with_more : (q : HeavyQuestion) (level : ℕ) (known before xs ys : List Node) → with_nodes q level known before (xs ++ ys) ≡ (with_nodes q level known before xs >>= λ all. with_nodes q level known all ys)
with_more q level known before [] ys = refl
with_more q level known before (x ∷ xs) ys =
    three_tests (is_next q level known before x.index) (nat_lt (length known + length before) (most_nodes q)) (level == 0 || nat_lt x.count q.at_least)
    (with_nodes q level known (before ++ x ∷ []) xs) (with_nodes q level known (before ++ x ∷ []) (xs ++ ys)) (λ all. with_nodes q level known all ys) (with_more q level known (before ++ x ∷ []) xs ys)

with_nodes-more : (q : HeavyQuestion) (level : ℕ) (known before xs ys all more : List Node) → with_nodes q level known before xs ≡ Ok all → with_nodes q level known all ys ≡ Ok more → with_nodes q level known before (xs ++ ys) ≡ Ok more
with_nodes-more q level known before xs ys all more is others =
    with_more q level known before xs ys ∙ ap (λ (r : Result (List Node) Reason). r >>= λ w. with_nodes q level known w ys) is ∙ others

-- ---- a reply that passes

-- From a state on a reply states these nodes, and they pass all tests.
pub record Reads (q : HeavyQuestion) (s : HeavyState) (nodes : List Node) (t : HeavyState) : Type 0 where
  pub all : List Node
  pub taken : with_nodes q s.level s.known s.received nodes ≡ Ok all
  pub ends : end_test q s.level (merged s.known all) ≡ Ok tt
  pub same : ended (record s { received = all }) ≡ t

module _ (version : Version) (p : ℕ) (q : HeavyQuestion) where
  abbrev R : Rules HeavyState
  R = heavy_rules version p q

  -- nodes more, and then the others
  more_read : (s t : HeavyState) (nodes more all : List Node) → with_nodes q s.level s.known s.received nodes ≡ Ok all → Reads q (record s { received = all }) more t → Reads q s (nodes ++ more) t
  more_read s t nodes more all is r = record {
    all = r.all;
    taken = with_nodes-more q s.level s.known s.received nodes more all r.all is r.taken;
    ends = r.ends;
    same = r.same;
  }

  step_goes : (next : HeavyState → List ℕ → Result HeavyState Reason) (rest : List ℕ) (s t : HeavyState) (nodes more : List Node) → step_says next rest (nodes_step q s nodes) ≡ Ok t
      → ((u : HeavyState) → u.level ≡ s.level → next u rest ≡ Ok t → Reads q u more t) → Reads q s (nodes ++ more) t
  step_goes next rest s t nodes more e others = by_result (with_nodes q s.level s.known s.received nodes) refl e
    where
      by_result : (r : Result (List Node) Reason) → with_nodes q s.level s.known s.received nodes ≡ r → step_says next rest (r >>= λ all. Ok (mores.Due, record s { received = all })) ≡ Ok t → Reads q s (nodes ++ more) t
      by_result (Err reason) is k = absurd cc
      by_result (Ok all) is k = more_read s t nodes more all is (others (record s { received = all }) refl k)

  gated : (test : Bool) (reason : Reason) (next : HeavyState → List ℕ → Result HeavyState Reason) (rest : List ℕ) (r : Result (More × HeavyState) Reason) (t : HeavyState)
      → step_says next rest (needs test reason >>= λ _. r) ≡ Ok t → step_says next rest r ≡ Ok t
  gated true reason next rest r t e = e
  gated false reason next rest r t e = absurd cc

  -- the end of the level
  end_read : (next : HeavyState → List ℕ → Result HeavyState Reason) (rest : List ℕ) (s t : HeavyState) (r : Result (Unit {0}) Reason) → end_test q s.level (merged s.known s.received) ≡ r
      → step_says next rest (r >>= λ _. Ok (mores.Complete, ended s)) ≡ Ok t → Reads q s [] t
  end_read next rest s t (Err reason) is e = absurd cc
  end_read next rest s t (Ok u) is e = record {
    all = s.received;
    taken = refl;
    ends = is;
    same = at_end_is (ended s) t rest e;
  }

  by_message : (next : HeavyState → List ℕ → Result HeavyState Reason) (rest : List ℕ) (s t : HeavyState) (more : List Node) (m : Message) → step_says next rest (heavy_step p q s m) ≡ Ok t
      → ((u : HeavyState) → u.level ≡ s.level → next u rest ≡ Ok t → Reads q u more t) → Reads q s (in_message p more m) t
  by_message next rest s t more (messages.Leaves v) e others =
      step_goes next rest s t (leaf_nodes v.items) more (gated (are_counts q.form && (s.level == 0)) reasons.BadKind next rest (nodes_step q s (leaf_nodes v.items)) t e) others
  by_message next rest s t more (messages.Marks v) e others =
      step_goes next rest s t (mark_nodes p v.items) more (gated (not (are_counts q.form) && (s.level == 0)) reasons.BadKind next rest (nodes_step q s (mark_nodes p v.items)) t e) others
  by_message next rest s t more (messages.Nodes v) e others =
      step_goes next rest s t v.items more (gated (not (s.level == 0)) reasons.BadKind next rest (nodes_step q s v.items) t e) others
  by_message next rest s t more messages.LevelEnd e others = end_read next rest s t (end_test q s.level (merged s.known s.received)) refl e
  by_message next rest s t more (messages.Refuse code) e others = absurd cc
  by_message next rest s t more (messages.Open number depth) e others = absurd cc
  by_message next rest s t more (messages.Updates us) e others = absurd cc
  by_message next rest s t more messages.EndStream e others = absurd cc
  by_message next rest s t more (messages.Query asked) e others = absurd cc
  by_message next rest s t more (messages.Reveal r) e others = absurd cc
  by_message next rest s t more messages.Bye e others = absurd cc
  by_message next rest s t more (messages.Claim claim) e others = absurd cc
  by_message next rest s t more (messages.Poly a b c) e others = absurd cc
  by_message next rest s t more (messages.Entries v) e others = absurd cc
  by_message next rest s t more (messages.Siblings left right) e others = absurd cc
  by_message next rest s t more (messages.AskLook code item) e others = absurd cc
  by_message next rest s t more (messages.Found flag index) e others = absurd cc
  by_message next rest s t more messages.End e others = absurd cc
  by_message next rest s t more (messages.AskMoment side degree) e others = absurd cc
  by_message next rest s t more (messages.Held held) e others = absurd cc
  by_message next rest s t more (messages.Recall count) e others = absurd cc
  by_message next rest s t more (messages.Power v) e others = absurd cc

  by_frame : (next : HeavyState → List ℕ → Result HeavyState Reason) (nodes : List ℕ → List Node) (s t : HeavyState) (r : Result (Message × List ℕ) WireFault) → frame_says R next s r ≡ Ok t
      → ((u : HeavyState) (rest : List ℕ) → u.level ≡ s.level → next u rest ≡ Ok t → Reads q u (nodes rest) t) → Reads q s (in_frame p nodes r) t
  by_frame next nodes s t (Err fault) e others = absurd cc
  by_frame next nodes s t (Ok frame) e others = by_message next frame.1 s t (nodes frame.1) frame.0 e (λ u same k. others u frame.1 same k)

  read_more : (n : ℕ) (s t : HeavyState) (bytes : List ℕ) → read_from R n s bytes ≡ Ok t → Reads q s (nodes_in p q.form version (s.level == 0) n bytes) t
  unfolding read_from nodes_in
  read_more zero s t bytes e = absurd cc
  read_more (suc n) s t bytes e =
      by_frame (read_from R n) (nodes_in p q.form version (s.level == 0) n) s t (read_frame version (place_of q.form (s.level == 0)) bytes) e
      (λ u rest same k. subst (λ l. Reads q u (nodes_in p q.form version (l == 0) n rest) t) same (read_more n u t rest k))

  -- what a whole reply states
  pub reply_read : (first : Bool) (s t : HeavyState) (bytes : List ℕ) → first ≡ (s.level == 0) → read_reply R s bytes ≡ Ok t → Reads q s (nodes_said p q.form version first bytes) t
  unfolding nodes_said
  reply_read first s t bytes is e = subst (λ b. Reads q s (nodes_in p q.form version b (length bytes) bytes) t) (sym is) (read_more (length bytes) s t bytes e)
