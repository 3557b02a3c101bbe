-- What whole replies state, as bytes: nodes in frames, by level.
use Rattle.std.specs.Prelude.{◌≡◌, ℕ, ◌+◌, ◌==◌, Bool, false, not, ◌&&◌, List, [], ◌∷◌, ◌++◌, All}
use Rattle.std.specs.Prelude.{length, map, Result, Ok, Err, IsTrue}
use Rattle.std.specs.List.{flat_map}
use Rattle.sip_vector.specs.declared.update.Entry.{Entry}
use Rattle.sip_vector.specs.Answers.{Answer, pairs}
use Rattle.sip_vector.specs.Steps.{◌>>=◌}
use Rattle.sip_wire.specs.declared.message.Message.{Message}
use Rattle.sip_wire.specs.declared.message.Message.TheVariants as messages
use Rattle.sip_wire.specs.declared.message.Node.{Node}
use Rattle.sip_wire.specs.declared.version.Version.{Version}
use Rattle.sip_wire.specs.Spelling.{fits, spelling}
use Rattle.sip_wire.specs.Values.{InRange}
use Rattle.sip_wire.specs.declared.message.Reason.{Reason}
use Rattle.sip_replies.specs.Replies.{Fault, at_end, read_reply}
use Rattle.sip_heavy.specs.declared.form.LeafForm.{LeafForm}
use Rattle.sip_heavy.specs.AcceptsHeavy.{verdict}
use Rattle.sip_heavy.specs.Protocol.{HeavyAsked, HeavyState, are_counts, ended, heavy_rules}
use Rattle.sip_heavy.specs.Protocol.{leaf_nodes, mark_nodes}

-- ---- frames

-- the nodes of a frame
abbrev pub nodes_of : ℕ → Message → List Node
nodes_of p (messages.Leaves v) = leaf_nodes v.items
nodes_of p (messages.Marks v) = mark_nodes p v.items
nodes_of p (messages.Nodes v) = v.items
nodes_of p _ = []

-- leaves stand in reply 0, as counts or as marks, nodes in the others
abbrev pub stands_in : LeafForm → Bool → Message → Bool
stands_in form is_first (messages.Leaves v) = are_counts form && is_first
stands_in form is_first (messages.Marks v) = not (are_counts form) && is_first
stands_in form is_first (messages.Nodes v) = not is_first
stands_in form is_first _ = false

-- a frame of nodes, with a spelling, that stands in reply 0 or in the others
abbrev pub IsFrame : Version → LeafForm → Bool → Message → Type 0
IsFrame version form is_first m =
    IsTrue (fits version m) × IsTrue (stands_in form is_first m) × InRange m

-- ---- replies

-- so do the frames of each reply, from reply j on
abbrev pub AreFrames : Version → LeafForm → ℕ → List (List Message) → Type 0
AreFrames version form j [] = Unit {0}
AreFrames version form j (frames ∷ more) =
    All (IsFrame version form (j == 0)) frames × AreFrames version form (j + 1) more

-- the frames of a reply, and the end of its level
abbrev pub stated_reply : Version → List Message → List ℕ
stated_reply version frames =
    flat_map (spelling version) frames ++ spelling version messages.LevelEnd

abbrev pub stated_replies : Version → List (List Message) → List (List ℕ)
stated_replies version replies = map (stated_reply version) replies

-- the nodes that replies state, by level
abbrev pub stated_nodes : ℕ → List (List Message) → List (List Node)
stated_nodes p replies = map (flat_map (nodes_of p)) replies

-- ---- what it comes to

-- entries as an answer
abbrev pub as_answer : Result (List Entry) Fault → Result Answer Fault
as_answer (Ok es) = Ok (pairs es)
as_answer (Err fault) = Err fault

-- These replies state nodes in these frames, by level; the heavy leaves among them are the answer.
pub record States (asked : HeavyAsked) (challenges : List ℕ) (replies : List (List ℕ))
    (answer : Answer) (frames : List (List Message)) : Type 0 where
  pub each : AreFrames asked.version asked.query.form 0 frames
  pub bytes : replies ≡ stated_replies asked.version frames
  pub all : length frames ≡ length challenges
  pub found : List Entry
  pub passes : verdict asked.modulus asked.query asked.root challenges
      (stated_nodes asked.modulus frames) ≡ Ok found
  pub answer_is : answer ≡ pairs found

-- ---- bytes that are still being read

-- where nodes were tested, what follows is read
abbrev pub then_read : HeavyAsked → HeavyState → List ℕ → Result (List Node) Reason
    → Result HeavyState Reason
then_read asked s rest r =
    r >>= λ all. read_reply (heavy_rules asked.version asked.modulus asked.query)
    (record s { received = all }) rest

-- where a level was tested, nothing follows
abbrev pub then_ended : HeavyState → List ℕ → Result (Unit {0}) Reason → Result HeavyState Reason
then_ended s rest r = r >>= λ _. at_end (ended s) rest
