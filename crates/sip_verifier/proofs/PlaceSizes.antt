-- The longest frame at each place of a reply, and what a step by a message takes of it.
use Rattle.std.proofs.Common.{◌≡◌, inl, inr, ℕ, zero, suc, ◌+◌, ◌*◌, ◌<◌, ◌≤◌, true, Err, List, length, arith}
use Rattle.std.specs.Prelude.{◌&&◌, nat_le}
use Rattle.std.proofs.lemmas.Bool.{and_parts, leb-true}
use Rattle.sip_wire.specs.declared.kind.Kind.TheVariants as kinds
use Rattle.sip_wire.specs.declared.kind.Place.{Place}
use Rattle.sip_wire.specs.declared.kind.Place.TheVariants as places
use Rattle.sip_wire.specs.declared.message.Reason.TheVariants as reasons
use Rattle.sip_wire.specs.declared.message.WireFault.{WireFault}
use Rattle.sip_wire.specs.declared.message.WireFault.TheVariants as faults
use Rattle.sip_wire.specs.declared.version.Version.{Version}
use Rattle.sip_wire.specs.declared.version.Version.TheVariants.{One, Two}
use Rattle.sip_wire.specs.Faults.{IsOfBytes}
use Rattle.sip_wire.specs.Reading.{read_frame}
use Rattle.sip_wire.specs.Table.{Field, entry_fields, leaf_fields, node_fields, repeat, sibling_fields, siblings_shape, size}
use Rattle.sip_wire.proofs.Counting.{size_repeat}
use Rattle.sip_replies.specs.Replies.{reason_of}
use Rattle.sip_verifier.proofs.FrameSizes.{IsMost, asked-most, cut_or_fault, flags_most}

-- ---- where a frame is not whole

-- a fault that bytes show is not that the link closed
not_closed : (fault : WireFault) → IsOfBytes fault → reason_of fault ≡ reasons.Closed → 1 ≤ 0
not_closed faults.Closed shown closed = absurd shown
not_closed faults.BadKind shown closed = absurd cc
not_closed faults.BadLength shown closed = absurd cc
not_closed faults.BadCount shown closed = absurd cc
not_closed faults.BadNumber shown closed = absurd cc
not_closed faults.PeerFault shown closed = absurd shown
not_closed faults.OutOfMemory shown closed = absurd shown

pub cut_most : (version : Version) (place : Place) (bytes : List ℕ) (fault : WireFault) (n : ℕ) → 3 ≤ n → IsMost version place n
    → read_frame version place bytes ≡ Err fault → reason_of fault ≡ reasons.Closed → length bytes < n
cut_most version place bytes fault n least most e closed = elim (cut_or_fault version place bytes fault e) [
  | inl short ↦ omega (arith, short, asked-most version place bytes n least most)
  | inr shown ↦ absurd (omega (arith, not_closed fault shown closed))
]

-- ---- the longest frames

-- so many rows at most
rows_most : (most n : ℕ) (layout : List Field) → (nat_le 1 n && nat_le n most) ≡ true → (1 ≤ n) × (n ≤ most)
rows_most most n layout is = let both = and_parts (nat_le 1 n) (nat_le n most) is in (leb-true _ _ both.0, leb-true _ _ both.1)

pub entries_most : (version : Version) (n : ℕ) → (nat_le 1 n && nat_le n 512) ≡ true → (1 ≤ n) × (size (repeat n (entry_fields version)) ≡ n * size (entry_fields version)) × (size (repeat n (entry_fields version)) ≤ 512 * size (entry_fields version))
entries_most One n is = let r = rows_most 512 n (entry_fields One) is in let z = size_repeat n (entry_fields One) in (r.0, z, omega (arith, z, r.1))
entries_most Two n is = let r = rows_most 512 n (entry_fields Two) is in let z = size_repeat n (entry_fields Two) in (r.0, z, omega (arith, z, r.1))

pub leaves_most : (version : Version) (n : ℕ) → (nat_le 1 n && nat_le n 512) ≡ true → (1 ≤ n) × (size (repeat n (leaf_fields version)) ≡ n * size (leaf_fields version)) × (size (repeat n (leaf_fields version)) ≤ 512 * size (leaf_fields version))
leaves_most One n is = let r = rows_most 512 n (leaf_fields One) is in let z = size_repeat n (leaf_fields One) in (r.0, z, omega (arith, z, r.1))
leaves_most Two n is = let r = rows_most 512 n (leaf_fields Two) is in let z = size_repeat n (leaf_fields Two) in (r.0, z, omega (arith, z, r.1))

pub nodes_most : (version : Version) (n : ℕ) → (nat_le 1 n && nat_le n 256) ≡ true → (1 ≤ n) × (size (repeat n (node_fields version)) ≡ n * size (node_fields version)) × (size (repeat n (node_fields version)) ≤ 512 * size (leaf_fields version))
nodes_most One n is = let r = rows_most 256 n (node_fields One) is in let z = size_repeat n (node_fields One) in (r.0, z, omega (arith, z, r.1))
nodes_most Two n is = let r = rows_most 256 n (node_fields Two) is in let z = size_repeat n (node_fields Two) in (r.0, z, omega (arith, z, r.1))

-- siblings have 16 bytes at most
pub siblings_most : (flags : ℕ) → siblings_shape.is_mark flags ≡ true → size (sibling_fields flags) ≤ 16
siblings_most zero is = omega arith
siblings_most (suc zero) is = omega arith
siblings_most (suc (suc zero)) is = omega arith
siblings_most (suc (suc (suc zero))) is = omega arith
siblings_most (suc (suc (suc (suc flags)))) is = absurd (omega (arith, flags_most (suc (suc (suc (suc flags)))) is))

-- at the place of entries none is longer than one of entries in full
pub at_entries : (version : Version) → IsMost version places.Entries (5 + 512 * size (entry_fields version))
at_entries version kinds.Open mark a is = absurd cc
at_entries version kinds.Updates mark a is = absurd cc
at_entries version kinds.EndStream mark a is = absurd cc
at_entries version kinds.Query mark a is = absurd cc
at_entries version kinds.Reveal mark a is = absurd cc
at_entries version kinds.Bye mark a is = absurd cc
at_entries version kinds.Claim mark a is = absurd cc
at_entries version kinds.Poly mark a is = absurd cc
at_entries version kinds.Entries mark a is = omega (arith, (entries_most version mark is).2)
at_entries One kinds.Siblings mark a is = omega (arith, siblings_most mark is)
at_entries Two kinds.Siblings mark a is = omega (arith, siblings_most mark is)
at_entries version kinds.Leaves mark a is = absurd cc
at_entries version kinds.Nodes mark a is = absurd cc
at_entries version kinds.LevelEnd mark a is = absurd cc
at_entries One kinds.Refuse mark a is = omega arith
at_entries Two kinds.Refuse mark a is = omega arith
at_entries version kinds.AskLook mark a is = absurd cc
at_entries version kinds.Found mark a is = absurd cc
at_entries version kinds.End mark a is = absurd cc
at_entries version kinds.AskMoment mark a is = absurd cc
at_entries version kinds.Held mark a is = absurd cc
at_entries version kinds.Recall mark a is = absurd cc
at_entries version kinds.Marks mark a is = absurd cc
at_entries version (kinds.Power degree) mark a is = absurd cc

-- at the place of siblings alone
pub at_siblings : (version : Version) → IsMost version places.Siblings 20
at_siblings version kinds.Open mark a is = absurd cc
at_siblings version kinds.Updates mark a is = absurd cc
at_siblings version kinds.EndStream mark a is = absurd cc
at_siblings version kinds.Query mark a is = absurd cc
at_siblings version kinds.Reveal mark a is = absurd cc
at_siblings version kinds.Bye mark a is = absurd cc
at_siblings version kinds.Claim mark a is = absurd cc
at_siblings version kinds.Poly mark a is = absurd cc
at_siblings version kinds.Entries mark a is = absurd cc
at_siblings version kinds.Siblings mark a is = omega (arith, siblings_most mark is)
at_siblings version kinds.Leaves mark a is = absurd cc
at_siblings version kinds.Nodes mark a is = absurd cc
at_siblings version kinds.LevelEnd mark a is = absurd cc
at_siblings version kinds.Refuse mark a is = omega arith
at_siblings version kinds.AskLook mark a is = absurd cc
at_siblings version kinds.Found mark a is = absurd cc
at_siblings version kinds.End mark a is = absurd cc
at_siblings version kinds.AskMoment mark a is = absurd cc
at_siblings version kinds.Held mark a is = absurd cc
at_siblings version kinds.Recall mark a is = absurd cc
at_siblings version kinds.Marks mark a is = absurd cc
at_siblings version (kinds.Power degree) mark a is = absurd cc

-- of a claim
pub at_claim : (version : Version) → IsMost version places.Claim 11
at_claim version kinds.Open mark a is = absurd cc
at_claim version kinds.Updates mark a is = absurd cc
at_claim version kinds.EndStream mark a is = absurd cc
at_claim version kinds.Query mark a is = absurd cc
at_claim version kinds.Reveal mark a is = absurd cc
at_claim version kinds.Bye mark a is = absurd cc
at_claim version kinds.Claim mark a is = omega arith
at_claim version kinds.Poly mark a is = absurd cc
at_claim version kinds.Entries mark a is = absurd cc
at_claim version kinds.Siblings mark a is = absurd cc
at_claim version kinds.Leaves mark a is = absurd cc
at_claim version kinds.Nodes mark a is = absurd cc
at_claim version kinds.LevelEnd mark a is = absurd cc
at_claim version kinds.Refuse mark a is = omega arith
at_claim version kinds.AskLook mark a is = absurd cc
at_claim version kinds.Found mark a is = absurd cc
at_claim version kinds.End mark a is = absurd cc
at_claim version kinds.AskMoment mark a is = absurd cc
at_claim version kinds.Held mark a is = absurd cc
at_claim version kinds.Recall mark a is = absurd cc
at_claim version kinds.Marks mark a is = absurd cc
at_claim version (kinds.Power degree) mark a is = absurd cc

-- of a polynomial
pub at_poly : (version : Version) → IsMost version places.Poly 27
at_poly version kinds.Open mark a is = absurd cc
at_poly version kinds.Updates mark a is = absurd cc
at_poly version kinds.EndStream mark a is = absurd cc
at_poly version kinds.Query mark a is = absurd cc
at_poly version kinds.Reveal mark a is = absurd cc
at_poly version kinds.Bye mark a is = absurd cc
at_poly version kinds.Claim mark a is = absurd cc
at_poly version kinds.Poly mark a is = omega arith
at_poly version kinds.Entries mark a is = absurd cc
at_poly version kinds.Siblings mark a is = absurd cc
at_poly version kinds.Leaves mark a is = absurd cc
at_poly version kinds.Nodes mark a is = absurd cc
at_poly version kinds.LevelEnd mark a is = absurd cc
at_poly version kinds.Refuse mark a is = omega arith
at_poly version kinds.AskLook mark a is = absurd cc
at_poly version kinds.Found mark a is = absurd cc
at_poly version kinds.End mark a is = absurd cc
at_poly version kinds.AskMoment mark a is = absurd cc
at_poly version kinds.Held mark a is = absurd cc
at_poly version kinds.Recall mark a is = absurd cc
at_poly version kinds.Marks mark a is = absurd cc
at_poly version (kinds.Power degree) mark a is = absurd cc

-- of leaves and of nodes none is longer than one of leaves in full
pub at_leaves : (version : Version) → IsMost version places.Leaves (5 + 512 * size (leaf_fields version))
at_leaves version kinds.Open mark a is = absurd cc
at_leaves version kinds.Updates mark a is = absurd cc
at_leaves version kinds.EndStream mark a is = absurd cc
at_leaves version kinds.Query mark a is = absurd cc
at_leaves version kinds.Reveal mark a is = absurd cc
at_leaves version kinds.Bye mark a is = absurd cc
at_leaves version kinds.Claim mark a is = absurd cc
at_leaves version kinds.Poly mark a is = absurd cc
at_leaves version kinds.Entries mark a is = absurd cc
at_leaves version kinds.Siblings mark a is = absurd cc
at_leaves version kinds.Leaves mark a is = omega (arith, (leaves_most version mark is).2)
at_leaves version kinds.Nodes mark a is = absurd cc
at_leaves version kinds.LevelEnd mark a is = omega arith
at_leaves One kinds.Refuse mark a is = omega arith
at_leaves Two kinds.Refuse mark a is = omega arith
at_leaves version kinds.AskLook mark a is = absurd cc
at_leaves version kinds.Found mark a is = absurd cc
at_leaves version kinds.End mark a is = absurd cc
at_leaves version kinds.AskMoment mark a is = absurd cc
at_leaves version kinds.Held mark a is = absurd cc
at_leaves version kinds.Recall mark a is = absurd cc
at_leaves version kinds.Marks mark a is = absurd cc
at_leaves version (kinds.Power degree) mark a is = absurd cc

pub at_nodes : (version : Version) → IsMost version places.Nodes (5 + 512 * size (leaf_fields version))
at_nodes version kinds.Open mark a is = absurd cc
at_nodes version kinds.Updates mark a is = absurd cc
at_nodes version kinds.EndStream mark a is = absurd cc
at_nodes version kinds.Query mark a is = absurd cc
at_nodes version kinds.Reveal mark a is = absurd cc
at_nodes version kinds.Bye mark a is = absurd cc
at_nodes version kinds.Claim mark a is = absurd cc
at_nodes version kinds.Poly mark a is = absurd cc
at_nodes version kinds.Entries mark a is = absurd cc
at_nodes version kinds.Siblings mark a is = absurd cc
at_nodes version kinds.Leaves mark a is = absurd cc
at_nodes version kinds.Nodes mark a is = omega (arith, (nodes_most version mark is).2)
at_nodes version kinds.LevelEnd mark a is = omega arith
at_nodes One kinds.Refuse mark a is = omega arith
at_nodes Two kinds.Refuse mark a is = omega arith
at_nodes version kinds.AskLook mark a is = absurd cc
at_nodes version kinds.Found mark a is = absurd cc
at_nodes version kinds.End mark a is = absurd cc
at_nodes version kinds.AskMoment mark a is = absurd cc
at_nodes version kinds.Held mark a is = absurd cc
at_nodes version kinds.Recall mark a is = absurd cc
at_nodes version kinds.Marks mark a is = absurd cc
at_nodes version (kinds.Power degree) mark a is = absurd cc
