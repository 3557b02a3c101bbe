-- What a check keeps, and what it has taken.
use Rattle.std.specs.Prelude.{◌≡◌, ℕ, ◌+◌, ◌-◌, ◌^◌, ◌<◌, ◌≤◌, ◌==◌, ◌&&◌, ◌||◌, not, Bool, true}
use Rattle.std.specs.Prelude.{false, nat_lt, All, List, [], ◌∷◌, ◌++◌, length, drop, take}
use Rattle.std.specs.Prelude.{slice_index, Option, Some, None, Result, Ok, Err, if◌then◌else◌}
use Rattle.std.specs.List.{list_all}
use Rattle.sip_vector.specs.Steps.{◌>>=◌, needs}
use Rattle.sip_vector.specs.declared.update.Entry.{Entry}
use Rattle.sip_wire.specs.declared.message.Node.{Node}
use Rattle.sip_wire.specs.declared.message.Reason.{Reason}
use Rattle.sip_wire.specs.declared.message.Reason.TheVariants as reasons
use Rattle.sip_replies.specs.Rising.{is_above}
use Rattle.sip_heavy.specs.declared.form.LeafForm.{LeafForm}
use Rattle.sip_heavy.specs.Rising.{Rises}
use Rattle.sip_heavy.specs.AcceptsHeavy.{HeavyQuestion, most_nodes, width, nodes_below, merged}
use Rattle.sip_heavy.specs.AcceptsHeavy.{nodes_above, known_after, with_nodes, heavy_entries}
use Rattle.sip_heavy.specs.AcceptsHeavy.{leaves_of}

-- ---- room

-- for how many nodes there is room in each list, and what the last check found
pub record Space : Type 0 where
  pub nodes : ℕ
  pub found : List Entry

-- ---- a check

-- What a check keeps. `level` counts the levels whose end was given, `revealed` the challenges that
-- were revealed. `known` has the nodes known from the level below, and `nodes` those of the level
-- so far, among them the first `passed` known ones. `room` is how many nodes each list has room
-- for.
pub record Kept : Type 0 where
  pub form : LeafForm
  pub challenges : List ℕ
  pub hash : ℕ
  pub total : ℕ
  pub at_least : ℕ
  pub most : ℕ
  pub level : ℕ
  pub revealed : ℕ
  pub passed : ℕ
  pub last : Option ℕ
  pub known : List Node
  pub nodes : List Node
  pub found : List Entry
  pub room : ℕ
  pub spent : Bool

-- sums of two counts do not overflow
abbrev pub AreSmall : List Node → Type 0
AreSmall nodes = All (λ x. x.count < 2 ^ 61) nodes

-- what always holds of a check
pub record IsSound (c : Kept) : Type 0 where
  pub depth : c.level ≤ length c.challenges
  pub passes : c.passed ≤ length c.known
  pub fits : c.most ≤ c.room
  pub light : c.total < 2 ^ 61
  pub few : length c.nodes + (length c.known - c.passed) ≤ c.most
  pub small_known : AreSmall c.known
  pub small_nodes : AreSmall c.nodes
  pub shown : length c.found ≤ c.most

-- nothing was given to a check at these challenges, in room for this many nodes
pub record Begun (challenges : List ℕ) (nodes : ℕ) (c : Kept) : Type 0 where
  pub at_challenges : c.challenges ≡ challenges
  pub level : c.level ≡ 0
  pub revealed : c.revealed ≡ 0
  pub room : c.room ≡ nodes
  pub unspent : c.spent ≡ false

-- ---- one node

-- the first of these nodes has this index
abbrev pub begins_with : ℕ → List Node → Bool
begins_with i [] = false
begins_with i (x ∷ xs) = x.index == i

-- the known nodes below an index were passed
abbrev pub passing : Kept → ℕ → Kept
passing c i = record c {
  passed = c.passed + length (nodes_below i (drop c.passed c.known));
  nodes = c.nodes ++ nodes_below i (drop c.passed c.known);
}

-- the tests of a node, where the known nodes below its index were passed
abbrev pub node_test : Kept → Node → Result (Unit {0}) Reason
node_test c x = do
  _ ← needs (is_above c.last x.index && nat_lt x.index (2 ^ (length c.challenges - c.level))
      && not (begins_with x.index (drop c.passed c.known)))
      reasons.BadOrder
  _ ← needs (nat_lt (length c.nodes + (length c.known - c.passed)) c.most) reasons.TooMany
  needs (c.level == 0 || nat_lt x.count c.at_least) reasons.HeavySibling

-- a node more
abbrev pub with_node : Kept → Node → Kept
with_node c x = record c { nodes = c.nodes ++ x ∷ []; last = Some x.index }

-- ---- the end of a level

-- the query that a check was started for
abbrev pub asked_of : Kept → HeavyQuestion
asked_of c =
    record { form = c.form; depth = length c.challenges; at_least = c.at_least; total = c.total }

-- all known nodes were passed
abbrev pub passing_all : Kept → Kept
passing_all c = record c {
  passed = length c.known;
  nodes = c.nodes ++ drop c.passed c.known;
}

-- the heavy leaves, kept at the end of the lowest level
abbrev pub keeping : ℕ → Kept → Kept
keeping p c = record c {
  found = if c.level == 0 then heavy_entries p c.form c.at_least c.nodes else c.found;
}

-- the level above, by the level's own challenge
abbrev pub folded : ℕ → Kept → Kept
folded p c = record c {
  known = nodes_above p (slice_index c.challenges c.level) c.nodes;
  nodes = [];
  passed = 0;
  last = None;
  level = c.level + 1;
}

-- ---- what was taken

-- the replies whose end was given, and the nodes of the next one so far
pub record GivenNodes : Type 0 where
  pub ended : List (List Node)
  pub received : List Node

-- nothing was given yet
abbrev pub nothing : GivenNodes
nothing = record { ended = []; received = [] }

-- The check was started for this query, these challenges and this root, and was given these nodes,
-- which passed. `known` are the nodes known after the replies that ended; `nodes` is what `merged`
-- makes of these and of those received, whatever comes; and `found` are the heavy leaves.
pub record HasTaken (p : ℕ) (q : HeavyQuestion) (root : ℕ) (challenges : List ℕ) (g : GivenNodes)
    (c : Kept) : Type 0 where
  pub asked : asked_of c ≡ q
  pub most : c.most ≡ most_nodes q
  pub at_challenges : c.challenges ≡ challenges
  pub for_root : c.hash ≡ root
  pub level : c.level ≡ length g.ended
  pub ended : known_after p q 0 [] challenges g.ended ≡ Ok c.known
  pub received : with_nodes q c.level c.known [] g.received ≡ Ok g.received
  pub merges : (future : List Node) → merged c.known (g.received ++ future)
      ≡ c.nodes ++ merged (drop c.passed c.known) future
  pub passes : c.passed ≤ length c.known
  pub size : length c.nodes + (length c.known - c.passed)
      ≡ length c.known + length g.received
  pub last : (i : ℕ) → list_all (λ x. nat_lt x.index i) g.received ≡ is_above c.last i
  pub below : (i : ℕ) → is_above c.last i ≡ true
      → list_all (λ k. nat_lt k.index i) (take c.passed c.known) ≡ true
  pub rises : Rises 0 (width q c.level) c.known
  pub found : c.found ≡ heavy_entries p q.form q.at_least (leaves_of g.ended)

-- A call answers as the definition of its test does: with its reason, or with what is taken then.
abbrev pub AnswersAs : {X : Type 0} → Result X Reason → (X → Type 0)
    → Result (Unit {0}) Reason → Type 0
AnswersAs (Ok x) HasMore result = (result ≡ Ok tt) × HasMore x
AnswersAs (Err reason) HasMore result = result ≡ Err reason

-- Nodes of the level that is due were given to a check: it answers as the definition does of them,
-- behind those received before, whatever the query.
abbrev pub Takes : ℕ → Kept → List Node → Kept → Result (Unit {0}) Reason → Type 0
Takes p old xs new result =
    (q : HeavyQuestion) (root : ℕ) (challenges : List ℕ) (g : GivenNodes)
    → HasTaken p q root challenges g old
    → AnswersAs (with_nodes q old.level old.known g.received xs)
    (λ all. HasTaken p q root challenges (record g { received = all }) new) result

-- The challenges and the room stay as they are, and this many levels and challenges more were given
-- and revealed.
pub record Advances (old new : Kept) (levels reveals : ℕ) : Type 0 where
  pub challenges : new.challenges ≡ old.challenges
  pub level : new.level ≡ old.level + levels
  pub revealed : new.revealed ≡ old.revealed + reveals
  pub room : new.room ≡ old.room
