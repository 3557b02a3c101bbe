-- Each message of an honest helper has a spelling in its version.
use Rattle.std.proofs.Common.{◌≡◌, ℕ, zero, suc, ◌+◌, ◌*◌, ◌/◌, ◌^◌, ◌<◌, ◌≤◌, true, List, [], ◌∷◌, length, take, drop, map, fold, All, ℤ, arith}
use Rattle.std.specs.Prelude.{IsTrue}
use Rattle.std.proofs.lemmas.List.{length-drop, length-take}
use Rattle.std.proofs.lemmas.List.Elements.{All-nil, All-cons, All-append, All-take, All-drop}
use Rattle.sip_field.specs.Moduli.{m61_modulus}
use Rattle.sip_vector.specs.Pieces.{pieces}
use Rattle.sip_vector.specs.Trees.{Counted, leaf, up3}
use Rattle.sip_wire.specs.declared.message.Leaf.{Leaf}
use Rattle.sip_wire.specs.declared.message.Mark.{Mark}
use Rattle.sip_wire.specs.declared.message.Message.{Message}
use Rattle.sip_wire.specs.declared.message.Message.TheVariants as messages
use Rattle.sip_wire.specs.declared.message.Node.{Node}
use Rattle.sip_wire.specs.declared.version.Version.{Version}
use Rattle.sip_wire.specs.declared.version.Version.TheVariants.{Two}
use Rattle.sip_wire.specs.Spelling.{fits}
use Rattle.sip_wire.specs.Versions.{index_width}
use Rattle.sip_heavy.specs.declared.form.LeafForm.{LeafForm}
use Rattle.sip_heavy.specs.declared.form.LeafForm.TheVariants as forms
use Rattle.sip_heavy.specs.Honest.{its_nodes, leaf_of, leaf_frames, lowest_frames, mark_frames, mark_of, messages_over, node_frames, opening_frames, proving_over, shown_from, honest_messages, CanBeSent}
use Rattle.sip_heavy.specs.HonestMarks.{above_messages, mark_leaves, CanBeMarked}
use Rattle.sip_heavy.proofs.HeavyPairs.{counts, AreCounts, above_are, abs_sum}
use Rattle.sip_heavy.proofs.HonestFrames.{AreHashed, AreMarkNodes, AreShown, IsLeafRow, IsMarkRow, IsNodeRow, leaves_fit, marks_fit, marks_shown, mark_rows, nodes_fit, end_fits, leaf_rows, room_below, shown_rows, above_hashed}
use Rattle.sip_heavy.proofs.Sendable.{AreSendable, are_counts, counts_sendable, marks_sendable}

module _ (version : Version) where
  HasSpelling : Message → Type 0
  HasSpelling m = IsTrue (fits version m)

  -- rows by k
  pieces_fit : {X : Type 0} (frame : List X → Message) (k : ℕ) (Row : X → Type 0) → 1 ≤ k → ((xs : List X) → 0 < length xs → length xs ≤ k → All Row xs → IsTrue (fits version (frame xs)))
      → (n : ℕ) (xs : List X) → n * k < length xs + k → length xs ≤ n * k → All Row xs → All HasSpelling (map frame (pieces k n xs))
  unfolding HasSpelling
  pieces_fit frame k Row one fit zero xs more most rows = All-nil HasSpelling
  pieces_fit frame k Row one fit (suc n) xs more most rows =
      let left = length-drop k xs in
      let taken = length-take k xs in
      let next : suc n * k ≡ n * k + k = omega arith in
      All-cons HasSpelling (frame (take k xs)) (map frame (pieces k n (drop k xs)))
      (fit (take k xs) (omega (arith, taken, more, next, one)) (omega (arith, taken)) (All-take Row k xs rows))
      (pieces_fit frame k Row one fit n (drop k xs) (omega (arith, left, more, next, one)) (omega (arith, left, most, next)) (All-drop Row k xs rows))

  leaf_frames_fit : (shown : List Node) → All (IsNodeRow version) shown → All HasSpelling (leaf_frames shown)
  leaf_frames_fit shown rows =
      let ls : List Leaf = map leaf_of shown in
      pieces_fit (λ (xs : List Leaf). messages.Leaves (record { items = xs })) 512 (IsLeafRow version) (omega arith) (leaves_fit version) ((length ls + 511) / 512) ls (omega arith) (omega arith) (leaf_rows version shown rows)

  mark_frames_fit : (p : ℕ) (shown : List Node) → version ≡ Two → p ≤ m61_modulus → AreMarkNodes p shown → All (IsNodeRow version) shown → All HasSpelling (mark_frames p shown)
  mark_frames_fit p shown wide elements are rows =
      let ms : List Mark = map (mark_of p) shown in
      pieces_fit (λ (xs : List Mark). messages.Marks (record { items = xs })) 256 (IsMarkRow version) (omega arith) (marks_fit version) ((length ms + 255) / 256) ms (omega arith) (omega arith) (mark_rows version wide p elements shown rows are)

  node_frames_fit : (shown : List Node) → All (IsNodeRow version) shown → All HasSpelling (node_frames shown)
  node_frames_fit shown rows =
      pieces_fit (λ (xs : List Node). messages.Nodes (record { items = xs })) 256 (IsNodeRow version) (omega arith) (nodes_fit version) ((length shown + 255) / 256) shown (omega arith) (omega arith) rows

  lowest_fit : (p : ℕ) (form : LeafForm) (t : ℕ) (leaves : List Counted) → p ≤ m61_modulus → AreShown version p form leaves → All (IsNodeRow version) (shown_from t true 0 leaves) → All HasSpelling (lowest_frames p form (shown_from t true 0 leaves))
  lowest_fit p forms.Count t leaves elements are rows = leaf_frames_fit (shown_from t true 0 leaves) rows
  lowest_fit p forms.Mark t leaves elements are rows = mark_frames_fit p (shown_from t true 0 leaves) are.0 elements (marks_shown p t 0 leaves are.1) rows

  -- at the leaves, and above them
  opening_fit : (p : ℕ) (form : LeafForm) (leaves : List Counted) (t : ℕ) (prefix : List ℕ) → p ≤ m61_modulus → AreShown version p form leaves
      → All (IsNodeRow version) (its_nodes (proving_over p form leaves t prefix)) → All HasSpelling (opening_frames p (proving_over p form leaves t prefix))
  opening_fit p form leaves t [] elements are rows = lowest_fit p form t leaves elements are rows
  opening_fit p form leaves t (r ∷ prefix) elements are rows = node_frames_fit (its_nodes (proving_over p form leaves t (r ∷ prefix))) rows

-- ---- the levels above, also where none is left

above_less : (p r : ℕ) (level : List Counted) → AreCounts level → counts (up3 p level r) ≤ counts level
above_less p r [] are = omega arith
above_less p r (l ∷ []) are = omega arith
above_less p r (l ∷ h ∷ level) are = let rest = above_less p r level are.1.1 in omega (arith, rest, abs_sum l.count h.count are.0 are.1.0)

above_short : (p r : ℕ) (level : List Counted) → length (up3 p level r) ≤ length level
above_short p r [] = omega arith
above_short p r (l ∷ []) = omega arith
above_short p r (l ∷ h ∷ level) = let rest = above_short p r level in omega (arith, rest)

-- a level whose nodes have room in a frame
record HasRoom (p n w : ℕ) (level : List Counted) : Type 0 where
  pub are : AreCounts level
  pub sum : counts level ≤ n
  pub size : length level ≤ w
  pub hashed : AreHashed p level

room_above : (p n w : ℕ) → 0 < p → (level : List Counted) (prefix : List ℕ) → HasRoom p n w level → HasRoom p n w (fold (up3 p) level prefix)
room_above p n w some level [] room = room
room_above p n w some level (r ∷ prefix) room =
    room_above p n w some (up3 p level r) prefix (record {
      are = above_are p r level room.are;
      sum = omega (arith, room.sum, above_less p r level room.are);
      size = omega (arith, room.size, above_short p r level);
      hashed = above_hashed p r some level;
    })

module _ (version : Version) (p : ℕ) (form : LeafForm) (depth n : ℕ) (leaves : List Counted) (numbers : List ℤ) (can : AreSendable version p form depth n leaves numbers) where
  leaves_room : HasRoom p n (256 ^ index_width version) leaves
  leaves_room = record {
    are = are_counts p form leaves numbers can.counted.stand;
    sum = omega (arith, can.counted.total);
    size = omega (arith, can.counted.size, room_below version depth can.shallow);
    hashed = can.counted.hashed;
  }

  pub leaves_spelled : (t : ℕ) (revealed : List ℕ) → All (λ m. IsTrue (fits version m)) (messages_over p form leaves t revealed)
  unfolding HasSpelling
  leaves_spelled t revealed =
      let s = proving_over p form leaves t revealed in
      let room = room_above p n (256 ^ index_width version) can.counted.modulus leaves revealed leaves_room in
      let rows = shown_rows version t s.is_leaf p n can.elements (omega (arith, can.counted.light, can.elements)) 0 s.level (omega (arith, room.size)) room.hashed room.sum in
      All-append (HasSpelling version) (opening_frames p s) (messages.LevelEnd ∷ []) (opening_fit version p form leaves t revealed can.elements can.shown rows)
      (All-cons (HasSpelling version) messages.LevelEnd [] (end_fits version) (All-nil (HasSpelling version)))

pub messages_fit : (version : Version) (p depth n : ℕ) (numbers : List ℤ) → CanBeSent version p depth n numbers → (t : ℕ) (revealed : List ℕ) → All (λ m. IsTrue (fits version m)) (honest_messages p numbers t revealed)
unfolding honest_messages
messages_fit version p depth n numbers can t revealed = leaves_spelled version p forms.Count depth n (map (leaf p) numbers) numbers (counts_sendable version p depth n numbers can) t revealed

pub marks_spelled : (p depth n : ℕ) (values weights : List ℤ) → CanBeMarked p depth n values weights → (t : ℕ) (revealed : List ℕ) → All (λ m. IsTrue (fits Two m)) (above_messages p values weights t revealed)
unfolding above_messages
marks_spelled p depth n values weights can t revealed = leaves_spelled Two p forms.Mark depth n (mark_leaves p values weights) values (marks_sendable p depth n values weights can) t revealed
