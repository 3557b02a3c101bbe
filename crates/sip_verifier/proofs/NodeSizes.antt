-- How many bytes the replies to a query for heavy hitters have.
use Rattle.std.proofs.Common.{◌≡◌, ℕ, zero, suc, ◌+◌, ◌-◌, ◌*◌, ◌<◌, ◌≤◌, Bool, true, false, not, Ok, Err, List, [], ◌∷◌, ◌++◌, length, refl, sym, ap, subst, ◌∙◌, arith, length-append}
use Rattle.std.specs.Prelude.{◌==◌, ◌||◌, nat_lt, if◌then◌else◌}
use Rattle.std.proofs.lemmas.Bool.{ltb-true}
use Rattle.std.proofs.lemmas.List.{length-map}
use Rattle.sip_vector.specs.Steps.{◌>>=◌, needs}
use Rattle.sip_wire.specs.declared.kind.Kind.{Kind}
use Rattle.sip_wire.specs.declared.kind.Kind.TheVariants as kinds
use Rattle.sip_wire.specs.declared.kind.Place.{Place}
use Rattle.sip_wire.specs.declared.kind.Place.TheVariants as places
use Rattle.sip_wire.specs.declared.message.Leaf.{Leaf}
use Rattle.sip_wire.specs.declared.message.Message.{Message}
use Rattle.sip_wire.specs.declared.message.Message.TheVariants as messages
use Rattle.sip_wire.specs.declared.message.Node.{Node}
use Rattle.sip_wire.specs.declared.message.Reason.TheVariants as reasons
use Rattle.sip_wire.specs.declared.message.WireFault.{WireFault}
use Rattle.sip_wire.specs.declared.version.Version.{Version}
use Rattle.sip_wire.specs.declared.version.Version.TheVariants.{One, Two}
use Rattle.sip_wire.specs.Reading.{read_frame}
use Rattle.sip_wire.specs.Table.{allows, leaf_fields, most_rows, node_fields, size}
use Rattle.sip_replies.specs.declared.check.More.TheVariants as mores
use Rattle.sip_replies.specs.Replies.{joined, reason_of}
use Rattle.sip_replies.proofs.Passing.{step_passed, test_passed}
use Rattle.sip_heavy.specs.declared.form.LeafForm.TheVariants as forms
use Rattle.sip_heavy.specs.AcceptsHeavy.{HeavyQuestion, end_test, is_next, leaf_node, merged, most_nodes, with_nodes}
use Rattle.sip_heavy.specs.LawProofs.ReplyTests.{heavy_tests}
use Rattle.sip_heavy.specs.Protocol.{HeavyState, ended, heavy_rules, heavy_step, leaf_nodes, nodes_step}
use Rattle.sip_verifier.specs.ReplyBound.{rows_frame}
use Rattle.sip_verifier.proofs.FrameSizes.{read_frame-size}
use Rattle.sip_verifier.proofs.PlaceSizes.{at_leaves, at_nodes, cut_most, leaves_most, nodes_most}
use Rattle.sip_verifier.proofs.ReplySizes.{Sizes, replies_size, same_due}
use Rattle.sip_verifier.proofs.TakenReplies.{AreTaken}

-- the nodes that were received of a level are no more than it may have
abbrev pub HasFew : HeavyQuestion → HeavyState → Type 0
HasFew q s = length s.received ≤ most_nodes q

-- so many bytes are left for them
abbrev pub nodes_left : Version → HeavyQuestion → HeavyState → ℕ
nodes_left version q s = rows_frame (node_fields version) 1 * (most_nodes q - length s.received)

-- nodes that passed are those before and these, and no more than a level may have
nodes-taken : (q : HeavyQuestion) (level : ℕ) (known before xs all : List Node) → length before ≤ most_nodes q → with_nodes q level known before xs ≡ Ok all
    → (length all ≡ length before + length xs) × (length all ≤ most_nodes q)
nodes-taken q level known before [] all few is = let same : before ≡ all = cc in subst (λ (l : List Node). (length l ≡ length before + 0) × (length l ≤ most_nodes q)) same (omega arith, few)
nodes-taken q level known before (x ∷ xs) all few is =
    let a = test_passed (is_next q level known before x.index) reasons.BadOrder (λ _. needs (nat_lt (length known + length before) (most_nodes q)) reasons.TooMany >>= λ _. needs (level == 0 || nat_lt x.count q.at_least) reasons.HeavySibling >>= λ _. with_nodes q level known (before ++ x ∷ []) xs) all is in
    let b = test_passed (nat_lt (length known + length before) (most_nodes q)) reasons.TooMany (λ _. needs (level == 0 || nat_lt x.count q.at_least) reasons.HeavySibling >>= λ _. with_nodes q level known (before ++ x ∷ []) xs) all a.1 in
    let c = test_passed (level == 0 || nat_lt x.count q.at_least) reasons.HeavySibling (λ _. with_nodes q level known (before ++ x ∷ []) xs) all b.1 in
    let rest = nodes-taken q level known (before ++ x ∷ []) xs all (omega (arith, length-append before (x ∷ []), ltb-true (length known + length before) (most_nodes q) b.0)) c.1 in
    (omega (arith, length-append before (x ∷ []), rest.0), rest.1)

-- k leaves, or k nodes, in one frame are no more than k frames of one node
leaves_less : (version : Version) (m b k n rest bytes : ℕ) → 1 ≤ k → n ≡ b + k → n ≤ m
    → bytes ≡ 3 + (2 + k * size (leaf_fields version)) + rest
    → bytes + rows_frame (node_fields version) 1 * (m - n) ≤ rows_frame (node_fields version) 1 * (m - b) + rest
leaves_less One m b k n rest bytes some is most long = omega (arith, some, most, is, long)
leaves_less Two m b k n rest bytes some is most long = omega (arith, some, most, is, long)

nodes_less : (version : Version) (m b k n rest bytes : ℕ) → 1 ≤ k → n ≡ b + k → n ≤ m
    → bytes ≡ 3 + (2 + k * size (node_fields version)) + rest
    → bytes + rows_frame (node_fields version) 1 * (m - n) ≤ rows_frame (node_fields version) 1 * (m - b) + rest
nodes_less One m b k n rest bytes some is most long = omega (arith, some, most, is, long)
nodes_less Two m b k n rest bytes some is most long = omega (arith, some, most, is, long)

-- n times, once and then the others
one-more : (n x : ℕ) → 1 ≤ n → n * x ≡ x + (n - 1) * x
one-more zero x h = absurd (omega (arith, h))
one-more (suc n) x h = let others : suc n - 1 ≡ n = omega arith in rw others (omega arith)

abbrev pub place_at : Bool → Place
place_at first = if first then places.Leaves else places.Nodes

heard_leaves : (kind : Kind) → allows places.Leaves kind ≡ true → allows places.ToVerifier kind ≡ true
heard_leaves kinds.Leaves a = refl
heard_leaves kinds.LevelEnd a = refl
heard_leaves kinds.Refuse a = refl
heard_leaves kinds.Open a = absurd cc
heard_leaves kinds.Updates a = absurd cc
heard_leaves kinds.EndStream a = absurd cc
heard_leaves kinds.Query a = absurd cc
heard_leaves kinds.Reveal a = absurd cc
heard_leaves kinds.Bye a = absurd cc
heard_leaves kinds.Claim a = absurd cc
heard_leaves kinds.Poly a = absurd cc
heard_leaves kinds.Entries a = absurd cc
heard_leaves kinds.Siblings a = absurd cc
heard_leaves kinds.Nodes a = absurd cc
heard_leaves kinds.AskLook a = absurd cc
heard_leaves kinds.Found a = absurd cc
heard_leaves kinds.End a = absurd cc
heard_leaves kinds.AskMoment a = absurd cc
heard_leaves kinds.Held a = absurd cc
heard_leaves kinds.Recall a = absurd cc
heard_leaves kinds.Marks a = absurd cc
heard_leaves (kinds.Power degree) a = absurd cc

heard_nodes : (kind : Kind) → allows places.Nodes kind ≡ true → allows places.ToVerifier kind ≡ true
heard_nodes kinds.Nodes a = refl
heard_nodes kinds.LevelEnd a = refl
heard_nodes kinds.Refuse a = refl
heard_nodes kinds.Open a = absurd cc
heard_nodes kinds.Updates a = absurd cc
heard_nodes kinds.EndStream a = absurd cc
heard_nodes kinds.Query a = absurd cc
heard_nodes kinds.Reveal a = absurd cc
heard_nodes kinds.Bye a = absurd cc
heard_nodes kinds.Claim a = absurd cc
heard_nodes kinds.Poly a = absurd cc
heard_nodes kinds.Entries a = absurd cc
heard_nodes kinds.Siblings a = absurd cc
heard_nodes kinds.Leaves a = absurd cc
heard_nodes kinds.AskLook a = absurd cc
heard_nodes kinds.Found a = absurd cc
heard_nodes kinds.End a = absurd cc
heard_nodes kinds.AskMoment a = absurd cc
heard_nodes kinds.Held a = absurd cc
heard_nodes kinds.Recall a = absurd cc
heard_nodes kinds.Marks a = absurd cc
heard_nodes (kinds.Power degree) a = absurd cc

heard_at : (first : Bool) (kind : Kind) → allows (place_at first) kind ≡ true → allows places.ToVerifier kind ≡ true
heard_at true kind a = heard_leaves kind a
heard_at false kind a = heard_nodes kind a

module _ (version : Version) (p depth at_least total : ℕ) where
  -- leaves are counts
  abbrev q : HeavyQuestion
  q = record { form = forms.Count; depth = depth; at_least = at_least; total = total }

  -- nodes go on
  went : (s t : HeavyState) (xs : List Node) (bytes rest : List ℕ) → HasFew q s → nodes_step q s xs ≡ Ok (mores.Due, t)
      → ((all : List Node) → length all ≡ length s.received + length xs → length all ≤ most_nodes q
      → length bytes + rows_frame (node_fields version) 1 * (most_nodes q - length all) ≤ nodes_left version q s + length rest)
      → HasFew q t × (length bytes + nodes_left version q t ≤ nodes_left version q s + length rest)
  went s t xs bytes rest h e less =
      let a = step_passed (with_nodes q s.level s.known s.received xs) (λ all. Ok (mores.Due, record s { received = all })) (mores.Due, t) e in
      let same = (same_due mores.Due mores.Due _ t a.then).1 in
      let taken = nodes-taken q s.level s.known s.received xs a.x h a.first in
      subst (λ (u : HeavyState). HasFew q u × (length bytes + nodes_left version q u ≤ nodes_left version q s + length rest)) same
      (taken.1, less a.x taken.0 taken.1)

  -- they never complete a reply
  no_end : (s t : HeavyState) (xs : List Node) → nodes_step q s xs ≡ Ok (mores.Complete, t) → 1 ≤ 0
  no_end s t xs e =
      let a = step_passed (with_nodes q s.level s.known s.received xs) (λ all. Ok (mores.Due, record s { received = all })) (mores.Complete, t) e in
      absurd (let both = (same_due mores.Due mores.Complete _ t a.then).0 in cc)

  due : (first : Bool) (s t : HeavyState) (m : Message) (bytes rest : List ℕ) → (s.level == 0) ≡ first → HasFew q s
      → read_frame version (place_at first) bytes ≡ Ok (m, rest) → heavy_step p q s m ≡ Ok (mores.Due, t)
      → HasFew q t × (length bytes + nodes_left version q t ≤ nodes_left version q s + length rest)
  due true s t (messages.Leaves v) bytes rest f h read e =
      let x = test_passed (s.level == 0) reasons.BadKind (λ _. nodes_step q s (leaf_nodes v.items)) (mores.Due, t) e in
      let size_is = read_frame-size version places.Leaves bytes (messages.Leaves v) rest heard_leaves read in
      let many = leaves_most version (length v.items) size_is.is_mark in
      went s t (leaf_nodes v.items) bytes rest h x.1 (λ all count few.
      leaves_less version (most_nodes q) (length s.received) (length v.items) (length all) (length rest) (length bytes) many.0
      (omega (arith, count, length-map v.items (λ (l : Leaf). leaf_node l.item l.count))) few (omega (arith, size_is.long, many.1)))
  due false s t (messages.Leaves v) bytes rest f h read e =
      let x = test_passed (s.level == 0) reasons.BadKind (λ _. nodes_step q s (leaf_nodes v.items)) (mores.Due, t) e in absurd (let both : false ≡ true = sym f ∙ x.0 in cc)
  due false s t (messages.Nodes v) bytes rest f h read e =
      let x = test_passed (not (s.level == 0)) reasons.BadKind (λ _. nodes_step q s v.items) (mores.Due, t) e in
      let size_is = read_frame-size version places.Nodes bytes (messages.Nodes v) rest heard_nodes read in
      let many = nodes_most version (length v.items) size_is.is_mark in
      went s t v.items bytes rest h x.1 (λ all count few.
      nodes_less version (most_nodes q) (length s.received) (length v.items) (length all) (length rest) (length bytes) many.0 count few (omega (arith, size_is.long, many.1)))
  due true s t (messages.Nodes v) bytes rest f h read e =
      let x = test_passed (not (s.level == 0)) reasons.BadKind (λ _. nodes_step q s v.items) (mores.Due, t) e in absurd (let both : not true ≡ true = ap not (sym f) ∙ x.0 in cc)
  due first s t messages.LevelEnd bytes rest f h read e =
      let x = step_passed (end_test q s.level (merged s.known s.received)) (λ _. Ok (mores.Complete, ended s)) (mores.Due, t) e in
      absurd (let both = (same_due mores.Complete mores.Due _ t x.then).0 in cc)
  due first s t (messages.Refuse code) bytes rest f h read e = absurd cc
  due first s t (messages.Open v d) bytes rest f h read e = absurd cc
  due first s t (messages.Updates us) bytes rest f h read e = absurd cc
  due first s t messages.EndStream bytes rest f h read e = absurd cc
  due first s t (messages.Query y) bytes rest f h read e = absurd cc
  due first s t (messages.Reveal r) bytes rest f h read e = absurd cc
  due first s t messages.Bye bytes rest f h read e = absurd cc
  due first s t (messages.Claim v) bytes rest f h read e = absurd cc
  due first s t (messages.Poly a b c) bytes rest f h read e = absurd cc
  due first s t (messages.Entries v) bytes rest f h read e = absurd cc
  due first s t (messages.Siblings l r) bytes rest f h read e = absurd cc
  due first s t (messages.AskLook code item) bytes rest f h read e = absurd cc
  due first s t (messages.Found flag index) bytes rest f h read e = absurd cc
  due first s t messages.End bytes rest f h read e = absurd cc
  due first s t (messages.AskMoment side degree) bytes rest f h read e = absurd cc
  due first s t (messages.Held held) bytes rest f h read e = absurd cc
  due first s t (messages.Recall count) bytes rest f h read e = absurd cc
  due first s t (messages.Marks v) bytes rest f h read e = absurd cc
  due first s t (messages.Power v) bytes rest f h read e = absurd cc

  -- a level's end completes it, and of the next level nothing was received
  complete : (first : Bool) (s t : HeavyState) (m : Message) (bytes rest : List ℕ)
      → read_frame version (place_at first) bytes ≡ Ok (m, rest) → heavy_step p q s m ≡ Ok (mores.Complete, t)
      → (length bytes ≤ 3 + length rest) × (length t.received ≡ 0)
  complete first s t (messages.Leaves v) bytes rest read e =
      let x = test_passed (s.level == 0) reasons.BadKind (λ _. nodes_step q s (leaf_nodes v.items)) (mores.Complete, t) e in absurd (omega (arith, no_end s t (leaf_nodes v.items) x.1))
  complete first s t (messages.Nodes v) bytes rest read e =
      let x = test_passed (not (s.level == 0)) reasons.BadKind (λ _. nodes_step q s v.items) (mores.Complete, t) e in absurd (omega (arith, no_end s t v.items x.1))
  complete first s t messages.LevelEnd bytes rest read e =
      let x = step_passed (end_test q s.level (merged s.known s.received)) (λ _. Ok (mores.Complete, ended s)) (mores.Complete, t) e in
      let same = (same_due mores.Complete mores.Complete (ended s) t x.then).1 in
      let size_is = read_frame-size version (place_at first) bytes messages.LevelEnd rest (heard_at first) read in
      (omega (arith, size_is.long), subst (λ (u : HeavyState). length u.received ≡ 0) same refl)
  complete first s t (messages.Refuse code) bytes rest read e = absurd cc
  complete first s t (messages.Open v d) bytes rest read e = absurd cc
  complete first s t (messages.Updates us) bytes rest read e = absurd cc
  complete first s t messages.EndStream bytes rest read e = absurd cc
  complete first s t (messages.Query y) bytes rest read e = absurd cc
  complete first s t (messages.Reveal r) bytes rest read e = absurd cc
  complete first s t messages.Bye bytes rest read e = absurd cc
  complete first s t (messages.Claim v) bytes rest read e = absurd cc
  complete first s t (messages.Poly a b c) bytes rest read e = absurd cc
  complete first s t (messages.Entries v) bytes rest read e = absurd cc
  complete first s t (messages.Siblings l r) bytes rest read e = absurd cc
  complete first s t (messages.AskLook code item) bytes rest read e = absurd cc
  complete first s t (messages.Found flag index) bytes rest read e = absurd cc
  complete first s t messages.End bytes rest read e = absurd cc
  complete first s t (messages.AskMoment side degree) bytes rest read e = absurd cc
  complete first s t (messages.Held held) bytes rest read e = absurd cc
  complete first s t (messages.Recall count) bytes rest read e = absurd cc
  complete first s t (messages.Marks v) bytes rest read e = absurd cc
  complete first s t (messages.Power v) bytes rest read e = absurd cc

  cut : (first : Bool) (bytes : List ℕ) (fault : WireFault) → read_frame version (place_at first) bytes ≡ Err fault → reason_of fault ≡ reasons.Closed
      → length bytes < rows_frame (leaf_fields version) most_rows
  cut true bytes fault e closed = cut_most version places.Leaves bytes fault _ (omega arith) (at_leaves version) e closed
  cut false bytes fault e closed = cut_most version places.Nodes bytes fault _ (omega arith) (at_nodes version) e closed

  -- the bytes of a level of which nothing was received
  none_left : (count : ℕ) → count ≡ 0 → rows_frame (node_fields version) 1 * (most_nodes q - count) ≤ rows_frame (node_fields version) 1 * most_nodes q
  none_left count e = let all : most_nodes q - 0 ≡ most_nodes q = omega arith in rw (e, all) (omega arith)

  heavy_sizes : Sizes (heavy_rules version p q) (HasFew q) (nodes_left version q) (rows_frame (node_fields version) 1 * most_nodes q) 3 (rows_frame (leaf_fields version) most_rows)
  heavy_sizes = record {
    due = λ s t m bytes rest h read e. due (s.level == 0) s t m bytes rest refl h read e;
    complete = λ s t m bytes rest h read e. let x = complete (s.level == 0) s t m bytes rest read e in (x.0, λ r. (omega (arith, x.1), none_left (length t.received) x.1));
    cut = λ s bytes fault h e closed. cut (s.level == 0) bytes fault e closed;
    tests = λ s m reason e. heavy_tests (record { version = version; modulus = p; root = 0; query = q }) s m reason e;
  }

  -- The replies to a query for heavy hitters have no more bytes than these.
  pub nodes_short : (rs : List ℕ) (replies : List (List ℕ)) → AreTaken (heavy_rules version p q) rs replies
      → length (joined replies) ≤ length rs * (rows_frame (node_fields version) 1 * most_nodes q + 3) + rows_frame (leaf_fields version) most_rows
  nodes_short [] [] taken = omega arith
  nodes_short [] (b ∷ more) taken = absurd (omega (arith, taken.few))
  nodes_short (r ∷ rs) replies taken =
      omega (
        arith,
        one-more (length (r ∷ rs)) (rows_frame (node_fields version) 1 * most_nodes q + 3) (omega arith),
        replies_size (heavy_rules version p q) (HasFew q) (nodes_left version q) (rows_frame (node_fields version) 1 * most_nodes q) 3 (rows_frame (leaf_fields version) most_rows) heavy_sizes
            (r ∷ rs) (rows_frame (node_fields version) 1 * most_nodes q) replies (omega arith) (omega arith) (none_left 0 refl) taken,
      )
