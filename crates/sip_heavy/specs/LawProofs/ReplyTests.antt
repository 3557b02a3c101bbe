-- No test of the replies for heavy hitters has the end of the link as its reason.
use Rattle.std.proofs.Common.{◌≡◌, ◌≢◌, ◌+◌, ℕ, Bool, true, false, ◌&&◌, ◌||◌, not, Result, Ok, Err}
use Rattle.std.proofs.Common.{List, [], ◌∷◌, ◌++◌, length, refl, ◌∙◌}
use Rattle.std.specs.Prelude.{◌==◌, nat_lt, nat_le}
use Rattle.std.specs.List.{list_all}
use Rattle.sip_vector.specs.Steps.{◌>>=◌, needs}
use Rattle.sip_wire.specs.declared.message.Message.{Message}
use Rattle.sip_wire.specs.declared.message.Message.TheVariants as messages
use Rattle.sip_wire.specs.declared.message.Node.{Node}
use Rattle.sip_wire.specs.declared.message.Reason.{Reason}
use Rattle.sip_wire.specs.declared.message.Reason.TheVariants as reasons
use Rattle.sip_replies.specs.declared.check.More.{More}
use Rattle.sip_replies.specs.LawProofs.Refusals.{same_err, wrong_kind}
use Rattle.sip_heavy.specs.AcceptsHeavy.{HeavyQuestion, most_nodes, is_next, with_nodes, are_pairs}
use Rattle.sip_heavy.specs.AcceptsHeavy.{is_empty, pair_counts, end_test, merged, top_test}
use Rattle.sip_heavy.specs.Protocol.{HeavyAsked, HeavyState, are_counts, leaf_nodes}
use Rattle.sip_heavy.specs.Protocol.{mark_nodes, nodes_step, heavy_protocol}

-- the end of the link is not the reason of this
abbrev NotClosed : {X : Type 0} → Result X Reason → Type 0
NotClosed {X} r = (reason : Reason) → r ≡ Err reason → reason ≢ reasons.Closed

-- what passes has no reason
by_ok : {X : Type 0} (x : X) → NotClosed (Ok x)
by_ok x reason e c = absurd cc

-- a step behind a test
by_needs : {X : Type 0} (test : Bool) (first : Reason) (r : Unit {0} → Result X Reason)
    → first ≢ reasons.Closed → NotClosed (r tt) → NotClosed (needs test first >>= r)
by_needs true first r other later reason e c = later reason e c
by_needs false first r other later reason e c =
    let f = same_err first reason e in other (f ∙ c)

-- a test
by_test : (test : Bool) (first : Reason) → first ≢ reasons.Closed
    → NotClosed {X = Unit {0}} (needs test first)
by_test true first other reason e c = absurd cc
by_test false first other reason e c =
    let f = same_err {X = Unit {0}} first reason e in other (f ∙ c)

-- what follows makes no test
by_then : {X Y : Type 0} (r : Result X Reason) (f : X → Y) → NotClosed r
    → NotClosed (r >>= λ x. Ok (f x))
by_then (Ok x) f other reason e c = absurd cc
by_then (Err first) f other reason e c = other first refl (same_err first reason e ∙ c)

-- ---- the tests of a frame

-- those of nodes, one after another
by_nodes : (q : HeavyQuestion) (level : ℕ) (known before xs : List Node)
    → NotClosed (with_nodes q level known before xs)
by_nodes q level known before [] = by_ok before
by_nodes q level known before (x ∷ xs) =
    by_needs (is_next q level known before x.index) reasons.BadOrder _ (λ c. absurd cc)
    (by_needs (nat_lt (length known + length before) (most_nodes q)) reasons.TooMany _
    (λ c. absurd cc)
    (by_needs (level == 0 || nat_lt x.count q.at_least) reasons.HeavySibling _ (λ c. absurd cc)
    (by_nodes q level known (before ++ x ∷ []) xs)))

-- those of a level's end
by_end : (q : HeavyQuestion) (level : ℕ) (nodes : List Node) → NotClosed (end_test q level nodes)
by_end q level nodes =
    by_needs (are_pairs nodes && (nat_lt (level + 1) q.depth || not (is_empty nodes)))
    reasons.Pairs _ (λ c. absurd cc)
    (by_needs (list_all (nat_le q.at_least) (pair_counts nodes)) reasons.LightParent _
    (λ c. absurd cc)
    (by_test (list_all (λ c. nat_le c q.total) (pair_counts nodes)) reasons.Total (λ c. absurd cc)))

-- those of a frame's nodes
by_rows : (asked : HeavyAsked) (s : HeavyState) (xs : List Node)
    → NotClosed (nodes_step asked.query s xs)
by_rows asked s xs =
    by_then (with_nodes asked.query s.level s.known s.received xs) _
    (by_nodes asked.query s.level s.known s.received xs)

-- no frame's test
pub heavy_tests : (asked : HeavyAsked) (s : HeavyState) (m : Message) (reason : Reason)
    → (heavy_protocol asked).rules.step s m ≡ Err reason → reason ≢ reasons.Closed
heavy_tests asked s (messages.Leaves v) =
    by_needs (are_counts asked.query.form && (s.level == 0)) reasons.BadKind _ (λ c. absurd cc)
    (by_rows asked s (leaf_nodes v.items))
heavy_tests asked s (messages.Marks v) =
    by_needs (not (are_counts asked.query.form) && (s.level == 0)) reasons.BadKind _
    (λ c. absurd cc) (by_rows asked s (mark_nodes asked.modulus v.items))
heavy_tests asked s (messages.Nodes v) =
    by_needs (not (s.level == 0)) reasons.BadKind _ (λ c. absurd cc) (by_rows asked s v.items)
heavy_tests asked s messages.LevelEnd =
    by_then (end_test asked.query s.level (merged s.known s.received)) _
    (by_end asked.query s.level (merged s.known s.received))
heavy_tests asked s (messages.Refuse code) = λ reason e c.
    (let f = same_err {X = More × HeavyState} (reasons.Refused code) reason e in cc)
heavy_tests asked s (messages.Open version depth) = wrong_kind {X = More × HeavyState}
heavy_tests asked s (messages.Updates us) = wrong_kind {X = More × HeavyState}
heavy_tests asked s messages.EndStream = wrong_kind {X = More × HeavyState}
heavy_tests asked s (messages.Query q) = wrong_kind {X = More × HeavyState}
heavy_tests asked s (messages.Reveal r) = wrong_kind {X = More × HeavyState}
heavy_tests asked s messages.Bye = wrong_kind {X = More × HeavyState}
heavy_tests asked s (messages.Claim value) = wrong_kind {X = More × HeavyState}
heavy_tests asked s (messages.Poly c0 c1 c2) = wrong_kind {X = More × HeavyState}
heavy_tests asked s (messages.Entries v) = wrong_kind {X = More × HeavyState}
heavy_tests asked s (messages.Siblings left right) = wrong_kind {X = More × HeavyState}
heavy_tests asked s (messages.AskLook code item) = wrong_kind {X = More × HeavyState}
heavy_tests asked s (messages.Found flag index) = wrong_kind {X = More × HeavyState}
heavy_tests asked s messages.End = wrong_kind {X = More × HeavyState}
heavy_tests asked s (messages.AskMoment side degree) = wrong_kind {X = More × HeavyState}
heavy_tests asked s (messages.Held held) = wrong_kind {X = More × HeavyState}
heavy_tests asked s (messages.Recall count) = wrong_kind {X = More × HeavyState}
heavy_tests asked s (messages.Power v) = wrong_kind {X = More × HeavyState}

-- ---- the tests behind the last reply

by_top : (q : HeavyQuestion) (root : ℕ) (known : List Node) → NotClosed (top_test q root known)
by_top q root [] reason e c = let f = same_err {X = Unit {0}} reasons.Pairs reason e in cc
by_top q root (x ∷ more) reason e c =
    by_needs (x.count == q.total) reasons.Total _ (λ d. absurd cc)
    (by_test (x.hash == root) reasons.Root (λ d. absurd cc)) reason e c

-- nor theirs
pub heavy_ends : (asked : HeavyAsked) (s : HeavyState) (reason : Reason)
    → (heavy_protocol asked).finish s ≡ Err reason → reason ≢ reasons.Closed
heavy_ends asked s =
    by_then (top_test asked.query asked.root s.known) _ (by_top asked.query asked.root s.known)
