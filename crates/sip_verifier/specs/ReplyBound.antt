-- How many bytes one question takes at most, whatever the other end sends and however it is cut.
--
-- Rows come one to a frame at the worst, as many as pass their tests; a reply ends with a frame
-- without rows; and at last one frame may come in full whose first row fails.
use Rattle.std.specs.Prelude.{ℕ, ◌+◌, ◌*◌, ◌≤◌, List, length, Option, if◌then◌else◌}
use Rattle.sip_ports.specs.declared.port.TalkEvent.{TalkEvent}
use Rattle.sip_ports.specs.Ports.{GoesOn, heard}
use Rattle.sip_vector.specs.declared.query.Query.{Query}
use Rattle.sip_vector.specs.declared.query.Query.TheVariants.{Sub, Range, F2, Inner, Heavy, Share}
use Rattle.sip_vector.specs.declared.query.Query.TheVariants.{Above}
use Rattle.sip_vector.specs.declared.update.Update.{Update}
use Rattle.sip_vector.specs.Streams.{int_sum, vector}
use Rattle.sip_vector.specs.Thresholds.{share_of}
use Rattle.sip_wire.specs.declared.version.Version.{Version}
use Rattle.sip_wire.specs.Table.{Field, entry_fields, leaf_fields, most_rows, node_fields, size}
use Rattle.sip_heavy.specs.AcceptsHeavy.{HeavyQuestion, most_nodes}
use Rattle.sip_heavy.specs.Counting.{asked_over}
use Rattle.sip_heavy.specs.Protocol.{reaches}
use Rattle.sip_subvec.specs.Asking.{most_answer}

-- how many bytes a frame of so many rows has: its kind, two lengths of two bytes, and the rows
abbrev pub rows_frame : List Field → ℕ → ℕ
rows_frame fields count = 5 + count * size fields

-- of a sub-vector: its entries, a frame of entries in full, and siblings of each level
abbrev pub most_entry_bytes : Version → ℕ → ℕ → ℕ → ℕ
most_entry_bytes version depth lo hi =
    rows_frame (entry_fields version) 1 * most_answer lo hi
    + rows_frame (entry_fields version) most_rows + 20 * depth

-- of a sum: a claim, and a polynomial of each round
abbrev pub most_sum_bytes : ℕ → ℕ
most_sum_bytes depth = 11 + 27 * depth

-- of heavy hitters: the nodes of each level and its end, and a frame of leaves in full; nothing
-- where the total is below the threshold
abbrev pub most_node_bytes : Version → ℕ → HeavyQuestion → ℕ
most_node_bytes version depth q =
    if reaches q
    then depth * (rows_frame (node_fields version) 1 * most_nodes q + 3)
    + rows_frame (leaf_fields version) most_rows
    else 0

-- by the query, and for heavy hitters by the side's total; none of a kind that is not built
abbrev pub most_bytes : Version → ℕ → List Update → Query → ℕ
most_bytes version depth stream (Sub lo hi) = most_entry_bytes version depth lo hi
most_bytes version depth stream (Range side lo hi) = most_sum_bytes depth
most_bytes version depth stream (F2 side) = most_sum_bytes depth
most_bytes version depth stream Inner = most_sum_bytes depth
most_bytes version depth stream (Heavy side at_least) =
    most_node_bytes version depth (asked_over depth at_least (vector depth stream side))
most_bytes version depth stream (Share side num den) =
    most_node_bytes version depth
    (asked_over depth (share_of num den (int_sum (vector depth stream side)))
    (vector depth stream side))
most_bytes version depth stream (Above side at_least) = 0

-- a talk that is told went on, and no more bytes than these were received in it
abbrev pub HearsAtMost : ℕ → Option (List TalkEvent) → Option (List TalkEvent) → Type 0
HearsAtMost most old new =
    (events : List TalkEvent) × GoesOn old new events × (length (heard events) ≤ most)

-- what the question of a query takes at most
abbrev pub ReplyBound : Version → ℕ → List Update → Query
    → Option (List TalkEvent) → Option (List TalkEvent) → Type 0
ReplyBound version depth stream query old new =
    HearsAtMost (most_bytes version depth stream query) old new
