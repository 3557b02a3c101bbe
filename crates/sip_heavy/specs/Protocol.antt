-- The replies to a query for heavy hitters as a protocol of the general talk.
--
-- Reply 0 is any number of Leaves frames and a LevelEnd frame, or of Marks frames where a leaf has
-- a value and a weight; each later reply is any number of Nodes frames and a LevelEnd frame. Where
-- the sum of all counts is below the threshold nothing is asked, and the answer is empty.
use Rattle.std.specs.Prelude.{ℕ, ◌+◌, ◌==◌, ℤ, pos, negsuc, Bool, true, false, not, ◌&&◌, nat_le}
use Rattle.std.specs.Prelude.{Some, None, List, [], map, Result, Ok, Err, if◌then◌else◌}
use Rattle.sip_field.specs.Residue.{residue}
use Rattle.sip_vector.specs.Answers.{Answer, pairs}
use Rattle.sip_vector.specs.Steps.{◌>>=◌, needs}
use Rattle.sip_wire.specs.declared.kind.Place.{Place}
use Rattle.sip_wire.specs.declared.kind.Place.TheVariants as places
use Rattle.sip_wire.specs.declared.message.Leaf.{Leaf}
use Rattle.sip_wire.specs.declared.message.Mark.{Mark}
use Rattle.sip_wire.specs.declared.message.Node.{Node}
use Rattle.sip_wire.specs.declared.message.Message.{Message}
use Rattle.sip_wire.specs.declared.message.Message.TheVariants as messages
use Rattle.sip_wire.specs.declared.message.Reason.{Reason}
use Rattle.sip_wire.specs.declared.message.Reason.TheVariants as reasons
use Rattle.sip_wire.specs.declared.version.Version.{Version}
use Rattle.sip_replies.specs.declared.check.More.{More}
use Rattle.sip_replies.specs.declared.check.More.TheVariants as mores
use Rattle.sip_replies.specs.Protocols.{Rules, Protocol}
use Rattle.sip_heavy.specs.declared.form.LeafForm.{LeafForm}
use Rattle.sip_heavy.specs.declared.form.LeafForm.TheVariants as forms
use Rattle.sip_heavy.specs.AcceptsHeavy.{HeavyQuestion, asking, leaf_node, merged, nodes_above}
use Rattle.sip_heavy.specs.AcceptsHeavy.{with_nodes, end_test, top_test, heavy_entries}

-- ---- the rules

-- What replies state so far. `level` is the one whose nodes come next, and `received` are those
-- that came. `known` are those that are known of it from the level below; behind the end of a
-- level, and until the next challenge is learnt, all nodes of the level that ended. `leaves` is
-- reply 0.
pub record HeavyState : Type 0 where
  pub level : ℕ
  pub known : List Node
  pub received : List Node
  pub leaves : List Node

-- nothing came yet
abbrev pub nothing_came : HeavyState
nothing_came = record { level = 0; known = []; received = []; leaves = [] }

-- leaves as nodes
abbrev pub leaf_nodes : List Leaf → List Node
leaf_nodes ls = map (λ l. leaf_node l.item l.count) ls

-- a mark as a node: its hash is its value's residue, and its count the weight
abbrev pub mark_node : ℕ → Mark → Node
mark_node p m = record { index = m.item; hash = residue p m.value; count = m.weight }

abbrev pub mark_nodes : ℕ → List Mark → List Node
mark_nodes p ms = map (mark_node p) ms

-- leaves are counts, or marks
abbrev pub are_counts : LeafForm → Bool
are_counts forms.Count = true
are_counts forms.Mark = false

abbrev pub leaf_place : LeafForm → Place
leaf_place forms.Count = places.Leaves
leaf_place forms.Mark = places.Marks

-- nodes of the level, tested one after another: the reply goes on
abbrev pub nodes_step : HeavyQuestion → HeavyState → List Node → Result (More × HeavyState) Reason
nodes_step q s xs =
    with_nodes q s.level s.known s.received xs
    >>= λ all. Ok (mores.Due, record s { received = all })

-- the level ended
abbrev pub ended : HeavyState → HeavyState
ended s = record {
  level = s.level + 1;
  known = merged s.known s.received;
  received = [];
  leaves = if s.level == 0 then s.received else s.leaves;
}

-- the end of a level: it completes a reply
abbrev pub end_step : HeavyQuestion → HeavyState → Result (More × HeavyState) Reason
end_step q s =
    end_test q s.level (merged s.known s.received) >>= λ _. Ok (mores.Complete, ended s)

-- one frame
abbrev pub heavy_step : ℕ → HeavyQuestion → HeavyState → Message
    → Result (More × HeavyState) Reason
heavy_step p q s (messages.Leaves v) =
    needs (are_counts q.form && (s.level == 0)) reasons.BadKind
    >>= λ _. nodes_step q s (leaf_nodes v.items)
heavy_step p q s (messages.Marks v) =
    needs (not (are_counts q.form) && (s.level == 0)) reasons.BadKind
    >>= λ _. nodes_step q s (mark_nodes p v.items)
heavy_step p q s (messages.Nodes v) =
    needs (not (s.level == 0)) reasons.BadKind >>= λ _. nodes_step q s v.items
heavy_step p q s messages.LevelEnd = end_step q s
heavy_step p q s (messages.Refuse code) = Err (reasons.Refused code)
heavy_step p q s _ = Err reasons.BadKind

-- the known nodes of the next level, by its challenge
abbrev pub learns : ℕ → HeavyState → ℕ → HeavyState
learns p s r = record s { known = nodes_above p r s.known }

-- How the replies to a query for heavy hitters are read, modulo p.
abbrev pub heavy_rules : Version → ℕ → HeavyQuestion → Rules HeavyState
heavy_rules version p q = record {
  version = version;
  start = nothing_came;
  place = λ s. if s.level == 0 then leaf_place q.form else places.Nodes;
  step = heavy_step p q;
  learn = learns p;
}

-- ---- what they come to

-- All that the definitions need: this is asked for in this version, modulo p, of a side whose
-- augmented root at the challenges has this hash.
pub record HeavyAsked : Type 0 where
  pub version : Version
  pub modulus : ℕ
  pub root : ℕ
  pub query : HeavyQuestion

-- a total as a count: a negative one is none
abbrev pub count_of : ℤ → ℕ
count_of (pos n) = n
count_of (negsuc n) = 0

-- the entries of at least this are asked for, of a side with this augmented root
abbrev pub heavy_asked : Version → ℕ → ℕ → ℤ → ℕ → ℕ → HeavyAsked
heavy_asked version p hash total depth at_least = record {
  version = version;
  modulus = p;
  root = hash;
  query = asking forms.Count depth at_least (count_of total);
}

-- the same of any stream, for a side with this root of its split tree
abbrev pub above_asked : Version → ℕ → ℕ → ℕ → ℕ → ℕ → HeavyAsked
above_asked version p hash weight depth at_least = record {
  version = version;
  modulus = p;
  root = hash;
  query = asking forms.Mark depth at_least weight;
}

-- the total reaches the threshold: else nothing is asked
abbrev pub reaches : HeavyQuestion → Bool
reaches q = nat_le q.at_least q.total

-- the heavy leaves, where the node of the top is the side's own root
abbrev pub heavy_finish : HeavyAsked → HeavyState → Result Answer Reason
heavy_finish asked s =
    top_test asked.query asked.root s.known
    >>= λ _. Ok (pairs
    (heavy_entries asked.modulus asked.query.form asked.query.at_least s.leaves))

-- below the threshold the answer is known without a reply
abbrev pub heavy_protocol : HeavyAsked → Protocol HeavyState
heavy_protocol asked = record {
  rules = heavy_rules asked.version asked.modulus asked.query;
  finish = heavy_finish asked;
  unasked = if reaches asked.query then None else Some (pairs []);
}
