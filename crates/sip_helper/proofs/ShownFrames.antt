-- The leaves, marks or nodes that are shown of a level: a walk over them, and their frames.
use Rattle.std.proofs.Common.{◌≡◌, ℕ, ◌+◌, true, false, List, [], ◌∷◌, slice_get, Option, Some, None, refl, sym, ap, ◌∙◌}
use Rattle.std.specs.Option.{option_map}
use Rattle.sip_field.specs.Moduli.{m61_modulus}
use Rattle.sip_wire.specs.declared.message.Leaf.{Leaf}
use Rattle.sip_wire.specs.declared.message.Mark.{Mark}
use Rattle.sip_wire.specs.declared.message.Message.{Message}
use Rattle.sip_wire.specs.declared.message.Message.TheVariants as messages
use Rattle.sip_wire.specs.declared.message.Node.{Node}
use Rattle.sip_heavy.specs.declared.form.LeafForm.TheVariants as forms
use Rattle.sip_heavy.specs.Honest.{Proving, its_nodes, leaf_frames, mark_frames, node_frames, opening_frames}
use Rattle.sip_heavy.specs.Spots.{from_on}
use Rattle.sip_heavy.proofs.ShownWalks.{each_found, none_found}

-- a frame of leaves, one of marks and one of nodes
abbrev pub leaves : List Leaf → Message
leaves xs = messages.Leaves (record { items = xs })

abbrev pub marks : List Mark → Message
marks xs = messages.Marks (record { items = xs })

abbrev pub nodes : List Node → Message
nodes xs = messages.Nodes (record { items = xs })

-- a node is shown as itself
abbrev pub itself : Node → Node
itself x = x

-- what a search finds stands in front of those behind it
pub front_found : {X : Type 0} (s : Proving) (node : X → Node) (from : ℕ) (x : X) (got : Option X) → option_map node got ≡ slice_get (from_on from (its_nodes s)) 0 → got ≡ Some x → from_on from (its_nodes s) ≡ node x ∷ from_on ((node x).index + 1) (its_nodes s)
front_found s node from x got first is = each_found s from (node x) (sym first ∙ ap (option_map node) is)

-- where it finds none, none are left
pub last_found : {X : Type 0} (s : Proving) (node : X → Node) (from : ℕ) (got : Option X) → option_map node got ≡ slice_get (from_on from (its_nodes s)) 0 → got ≡ None → from_on from (its_nodes s) ≡ []
last_found s node from got first is = none_found from (its_nodes s) (sym first ∙ ap (option_map node) is)

-- ---- what opens a reply, by what its rows are

pub leaves_open : (s : Proving) → s.is_leaf ≡ true → s.form ≡ forms.Count → opening_frames m61_modulus s ≡ leaf_frames (its_nodes s)
leaves_open s is own = rw (is, own) refl

pub marks_open : (s : Proving) → s.is_leaf ≡ true → s.form ≡ forms.Mark → opening_frames m61_modulus s ≡ mark_frames m61_modulus (its_nodes s)
marks_open s is own = rw (is, own) refl

pub nodes_open : (s : Proving) → s.is_leaf ≡ false → opening_frames m61_modulus s ≡ node_frames (its_nodes s)
nodes_open s is = rw is refl
