-- An honest reply is read as the nodes that it shows.
use Rattle.std.proofs.Common.{◌≡◌, ℕ, zero, suc, ◌+◌, ◌*◌, ◌/◌, ◌<◌, ◌≤◌, Bool, true, false, ◌||◌, if◌then◌else◌, Result, Ok, Err, List, [], ◌∷◌, ◌++◌, length, take, drop, map, All, refl, sym, ap, subst, ◌∙◌, arith, append_assoc, append-nil}
use Rattle.std.specs.Prelude.{IsTrue, nat_lt, ◌==◌}
use Rattle.std.specs.List.{flat_map}
use Rattle.std.proofs.lemmas.List.{take-append-drop, length-drop, length-take}
use Rattle.std.proofs.lemmas.List.Concat.{flat_map-cons}
use Rattle.std.proofs.lemmas.List.Elements.{All-take, All-drop}
use Rattle.sip_field.specs.Moduli.{m61_modulus}
use Rattle.sip_vector.specs.Pieces.{pieces}
use Rattle.sip_vector.specs.Steps.{◌>>=◌, needs}
use Rattle.sip_wire.specs.declared.kind.Place.TheVariants as places
use Rattle.sip_wire.specs.declared.message.Leaf.{Leaf}
use Rattle.sip_wire.specs.declared.message.Mark.{Mark}
use Rattle.sip_wire.specs.declared.message.Message.{Message}
use Rattle.sip_wire.specs.declared.message.Message.TheVariants as messages
use Rattle.sip_wire.specs.declared.message.Node.{Node}
use Rattle.sip_wire.specs.declared.message.Reason.{Reason}
use Rattle.sip_wire.specs.declared.message.Reason.TheVariants as reasons
use Rattle.sip_wire.specs.declared.version.Version.{Version}
use Rattle.sip_wire.specs.declared.version.Version.TheVariants.{Two}
use Rattle.sip_wire.specs.Spelling.{fits, kind_of, spelling}
use Rattle.sip_wire.specs.Table.{allows}
use Rattle.sip_wire.specs.Values.{InRange}
use Rattle.sip_wire.proofs.ReadingLaws.{read_frame-spelling}
use Rattle.sip_replies.specs.declared.check.More.{More}
use Rattle.sip_replies.specs.declared.check.More.TheVariants as mores
use Rattle.sip_replies.specs.Protocols.{Rules}
use Rattle.sip_replies.specs.Replies.{read_reply}
use Rattle.sip_replies.proofs.Reading.{read_reply-step}
use Rattle.sip_heavy.specs.AcceptsHeavy.{HeavyQuestion, most_nodes, is_next, leaf_node, merged, with_nodes, end_test}
use Rattle.sip_heavy.specs.Honest.{leaf_frames, mark_frames, node_frames, leaf_of, mark_of}
use Rattle.sip_heavy.specs.declared.form.LeafForm.{LeafForm}
use Rattle.sip_heavy.specs.declared.form.LeafForm.TheVariants as forms
use Rattle.sip_heavy.specs.Protocol.{HeavyState, leaf_nodes, mark_node, mark_nodes, leaf_place, nodes_step, ended, end_step, heavy_step, heavy_rules}
use Rattle.sip_heavy.proofs.HonestFrames.{AreMarkNodes, IsLeafRow, IsMarkRow, IsNodeRow, leaves_fit, marks_back, marks_fit, marks_range, mark_rows, nodes_fit, end_fits, leaf_rows}
use Rattle.sip_heavy.proofs.Taking.{with_nodes-append}
use Rattle.sip_heavy.proofs.StatedFrames.{with_received}

-- ---- nodes that pass, in parts

-- nodes that pass are added
passed_are : (q : HeavyQuestion) (level : ℕ) (known before xs all : List Node) → with_nodes q level known before xs ≡ Ok all → all ≡ before ++ xs
passed_are q level known before [] all e = sym (let same : before ≡ all = cc in same) ∙ sym (append-nil before)
passed_are q level known before (x ∷ xs) all e =
    by_tests (is_next q level known before x.index) (nat_lt (length known + length before) (most_nodes q)) (level == 0 || nat_lt x.count q.at_least)
    (λ f. passed_are q level known (before ++ x ∷ []) xs all f) e
  where
    by_tests : (order room light : Bool) → (with_nodes q level known (before ++ x ∷ []) xs ≡ Ok all → all ≡ (before ++ x ∷ []) ++ xs)
        → (needs order reasons.BadOrder >>= λ _. needs room reasons.TooMany >>= λ _. needs light reasons.HeavySibling >>= λ _. with_nodes q level known (before ++ x ∷ []) xs) ≡ Ok all → all ≡ before ++ x ∷ xs
    by_tests true true true later e = later e ∙ append_assoc before (x ∷ []) xs
    by_tests true true false later e = absurd cc
    by_tests true false light later e = absurd cc
    by_tests false room light later e = absurd cc

record Parts (q : HeavyQuestion) (level : ℕ) (known before front rest all : List Node) : Type 0 where
  pub first : with_nodes q level known before front ≡ Ok (before ++ front)
  pub second : with_nodes q level known (before ++ front) rest ≡ Ok all

parts_pass : (q : HeavyQuestion) (level : ℕ) (known before front rest all : List Node) → with_nodes q level known before (front ++ rest) ≡ Ok all → Parts q level known before front rest all
parts_pass q level known before front rest all e = by_first (with_nodes q level known before front) refl (sym (with_nodes-append q level known before front rest) ∙ e)
  where
    by_first : (r : Result (List Node) Reason) → with_nodes q level known before front ≡ r → (r >>= λ ys. with_nodes q level known ys rest) ≡ Ok all → Parts q level known before front rest all
    by_first (Ok ys) is passes =
        let added = passed_are q level known before front ys is in
        record { first = is ∙ ap (λ zs. Ok zs) added; second = subst (λ zs. with_nodes q level known zs rest ≡ Ok all) added passes }
    by_first (Err reason) is passes = absurd cc

-- ---- frames

abbrev as_due : HeavyState → Result (List Node) Reason → Result (More × HeavyState) Reason
as_due s r = r >>= λ all. Ok (mores.Due, record s { received = all })

module _ (version : Version) (p : ℕ) (q : HeavyQuestion) where
  abbrev R : Rules HeavyState
  R = heavy_rules version p q

  -- a kind of frame whose rows stand for nodes: at most k of them
  pub record IsFrame {X : Type 0} (frame : List X → Message) (nodes : List X → List Node) (k : ℕ) (Row : X → Type 0) (s : HeavyState) : Type 0 where
    pub one : 1 ≤ k
    pub none : nodes [] ≡ []
    pub both : (xs ys : List X) → nodes (xs ++ ys) ≡ nodes xs ++ nodes ys
    pub fit : (xs : List X) → 0 < length xs → length xs ≤ k → All Row xs → IsTrue (fits version (frame xs))
    pub allowed : (before : List Node) (xs : List X) → IsTrue (allows (R.place (with_received s before)) (kind_of (frame xs)))
    pub range : (xs : List X) → All Row xs → InRange (frame xs)
    pub step : (before : List Node) (xs : List X) → heavy_step p q (with_received s before) (frame xs) ≡ nodes_step q (with_received s before) (nodes xs)

  module _ {X : Type 0} (frame : List X → Message) (nodes : List X → List Node) (k : ℕ) (Row : X → Type 0) (s : HeavyState) (is : IsFrame frame nodes k Row s) where
    frame_read : (before : List Node) (xs : List X) (rest : List ℕ) → 0 < length xs → length xs ≤ k → All Row xs → with_nodes q s.level s.known before (nodes xs) ≡ Ok (before ++ nodes xs)
        → read_reply R (with_received s before) (spelling version (frame xs) ++ rest) ≡ read_reply R (with_received s (before ++ nodes xs)) rest
    frame_read before xs rest some most rows passes =
        read_reply-step R (with_received s before) (spelling version (frame xs) ++ rest) rest (frame xs) (Ok (mores.Due, with_received s (before ++ nodes xs)))
        (read_frame-spelling version (R.place (with_received s before)) (frame xs) rest (is.fit xs some most rows) (is.allowed before xs) (is.range xs rows)) (is.step before xs ∙ ap (as_due (with_received s before)) passes)

    -- one piece after another
    pub pieces_read : (n : ℕ) (before : List Node) (xs : List X) (tail : List Message) → n * k < length xs + k → length xs ≤ n * k → All Row xs → with_nodes q s.level s.known before (nodes xs) ≡ Ok (before ++ nodes xs)
        → read_reply R (with_received s before) (flat_map (spelling version) (map frame (pieces k n xs) ++ tail)) ≡ read_reply R (with_received s (before ++ nodes xs)) (flat_map (spelling version) tail)
    pieces_read zero before [] tail more most rows passes =
        ap (λ ys. read_reply R (with_received s ys) (flat_map (spelling version) tail)) (sym (append-nil before) ∙ ap (λ ys. before ++ ys) (sym is.none))
    pieces_read zero before (x ∷ xs) tail more most rows passes = absurd (omega (arith, most))
    pieces_read (suc n) before xs tail more most rows passes =
        let front = take k xs in
        let rest = drop k xs in
        let left = length-drop k xs in
        let taken = length-take k xs in
        let whole : nodes xs ≡ nodes front ++ nodes rest = sym (ap nodes (take-append-drop k xs)) ∙ is.both front rest in
        let one : suc n * k ≡ n * k + k = omega arith in
        let parts = parts_pass q s.level s.known before (nodes front) (nodes rest) (before ++ nodes xs) (ap (with_nodes q s.level s.known before) (sym whole) ∙ passes) in
        let same : (before ++ nodes front) ++ nodes rest ≡ before ++ nodes xs = append_assoc before (nodes front) (nodes rest) ∙ ap (λ ys. before ++ ys) (sym whole) in
        ap (read_reply R (with_received s before)) (flat_map-cons (spelling version) (frame front) (map frame (pieces k n rest) ++ tail))
        ∙ frame_read before front (flat_map (spelling version) (map frame (pieces k n rest) ++ tail)) (omega (arith, taken, more, one, is.one)) (omega (arith, taken)) (All-take Row k xs rows) parts.first
        ∙ pieces_read n (before ++ nodes front) rest tail (omega (arith, left, more, one, is.one)) (omega (arith, left, most, one)) (All-drop Row k xs rows) (parts.second ∙ ap (λ ys. Ok ys) (sym same))
        ∙ ap (λ ys. read_reply R (with_received s ys) (flat_map (spelling version) tail)) same

  -- ---- one reply

  -- either end of a level may stand in each reply
  end_allowed : (s : HeavyState) → IsTrue (allows (R.place s) (kind_of messages.LevelEnd))
  end_allowed s = by_place q.form (s.level == 0)
    where
      by_place : (form : LeafForm) (first : Bool) → IsTrue (allows (if first then leaf_place form else places.Nodes) (kind_of messages.LevelEnd))
      by_place forms.Count true = refl
      by_place forms.Mark true = refl
      by_place form false = refl

  end_read : (s : HeavyState) → end_test q s.level (merged s.known s.received) ≡ Ok tt → read_reply R s (flat_map (spelling version) (messages.LevelEnd ∷ [])) ≡ Ok (ended s)
  end_read s passes =
      let step : end_step q s ≡ Ok (mores.Complete, ended s) = rw passes refl in
      ap (read_reply R s) (flat_map-cons (spelling version) messages.LevelEnd [])
      ∙ read_reply-step R s (spelling version messages.LevelEnd ++ []) [] messages.LevelEnd (Ok (mores.Complete, ended s))
      (read_frame-spelling version (R.place s) messages.LevelEnd [] (end_fits version) (end_allowed s) tt) step

  abbrev leaves_message : List Leaf → Message
  leaves_message ls = messages.Leaves (record { items = ls })

  abbrev nodes_message : List Node → Message
  nodes_message xs = messages.Nodes (record { items = xs })

  leaf_nodes-append : (xs ys : List Leaf) → leaf_nodes (xs ++ ys) ≡ leaf_nodes xs ++ leaf_nodes ys
  leaf_nodes-append [] ys = refl
  leaf_nodes-append (x ∷ xs) ys = ap (λ zs. leaf_node x.item x.count ∷ zs) (leaf_nodes-append xs ys)

  leaves_are_frames : (s : HeavyState) → q.form ≡ forms.Count → s.level ≡ 0 → IsFrame leaves_message leaf_nodes 512 (IsLeafRow version) s
  leaves_are_frames s form first = record {
    one = omega arith;
    none = refl;
    both = leaf_nodes-append;
    fit = leaves_fit version;
    allowed = λ before xs. rw (first, form) refl;
    range = λ xs rows. tt;
    step = λ before xs. rw (form, first) refl;
  }

  abbrev marks_message : List Mark → Message
  marks_message ms = messages.Marks (record { items = ms })

  mark_nodes-append : (xs ys : List Mark) → mark_nodes p (xs ++ ys) ≡ mark_nodes p xs ++ mark_nodes p ys
  mark_nodes-append [] ys = refl
  mark_nodes-append (x ∷ xs) ys = ap (λ zs. mark_node p x ∷ zs) (mark_nodes-append xs ys)

  marks_are_frames : (s : HeavyState) → q.form ≡ forms.Mark → s.level ≡ 0 → IsFrame marks_message (mark_nodes p) 256 (IsMarkRow version) s
  marks_are_frames s form first = record {
    one = omega arith;
    none = refl;
    both = mark_nodes-append;
    fit = marks_fit version;
    allowed = λ before xs. rw (first, form) refl;
    range = marks_range version;
    step = λ before xs. rw (form, first) refl;
  }

  nodes_are_frames : (s : HeavyState) → (s.level == 0) ≡ false → IsFrame nodes_message (λ xs. xs) 256 (IsNodeRow version) s
  nodes_are_frames s later = record {
    one = omega arith;
    none = refl;
    both = λ xs ys. refl;
    fit = nodes_fit version;
    allowed = λ before xs. rw later refl;
    range = λ xs rows. tt;
    step = λ before xs. rw later refl;
  }

  -- reply 0
  pub leaves_read : (s : HeavyState) (shown : List Node) → q.form ≡ forms.Count → s.level ≡ 0 → All (IsNodeRow version) shown → leaf_nodes (map leaf_of shown) ≡ shown → with_nodes q s.level s.known [] shown ≡ Ok shown
      → end_test q s.level (merged s.known shown) ≡ Ok tt → read_reply R (with_received s []) (flat_map (spelling version) (leaf_frames shown ++ messages.LevelEnd ∷ [])) ≡ Ok (ended (with_received s shown))
  leaves_read s shown form first rows whole passes ends =
      let ls = map leaf_of shown in
      pieces_read leaves_message leaf_nodes 512 (IsLeafRow version) s (leaves_are_frames s form first) ((length ls + 511) / 512) [] ls (messages.LevelEnd ∷ []) (omega arith) (omega arith) (leaf_rows version shown rows)
      (ap (with_nodes q s.level s.known []) whole ∙ passes ∙ ap (λ xs. Ok xs) (sym whole))
      ∙ ap (λ xs. read_reply R (with_received s xs) (flat_map (spelling version) (messages.LevelEnd ∷ []))) whole
      ∙ end_read (with_received s shown) ends

  -- reply 0 of marks
  pub marks_read : (s : HeavyState) (shown : List Node) → version ≡ Two → p ≤ m61_modulus → q.form ≡ forms.Mark → s.level ≡ 0 → All (IsNodeRow version) shown → AreMarkNodes p shown → with_nodes q s.level s.known [] shown ≡ Ok shown
      → end_test q s.level (merged s.known shown) ≡ Ok tt → read_reply R (with_received s []) (flat_map (spelling version) (mark_frames p shown ++ messages.LevelEnd ∷ [])) ≡ Ok (ended (with_received s shown))
  marks_read s shown wide elements form first rows are passes ends =
      let ms = map (mark_of p) shown in
      let whole = marks_back p shown are in
      pieces_read marks_message (mark_nodes p) 256 (IsMarkRow version) s (marks_are_frames s form first) ((length ms + 255) / 256) [] ms (messages.LevelEnd ∷ []) (omega arith) (omega arith) (mark_rows version wide p elements shown rows are)
      (ap (with_nodes q s.level s.known []) whole ∙ passes ∙ ap (λ xs. Ok xs) (sym whole))
      ∙ ap (λ xs. read_reply R (with_received s xs) (flat_map (spelling version) (messages.LevelEnd ∷ []))) whole
      ∙ end_read (with_received s shown) ends

  -- a later reply
  pub nodes_read : (s : HeavyState) (shown : List Node) → (s.level == 0) ≡ false → All (IsNodeRow version) shown → with_nodes q s.level s.known [] shown ≡ Ok shown
      → end_test q s.level (merged s.known shown) ≡ Ok tt → read_reply R (with_received s []) (flat_map (spelling version) (node_frames shown ++ messages.LevelEnd ∷ [])) ≡ Ok (ended (with_received s shown))
  nodes_read s shown later rows passes ends =
      pieces_read nodes_message (λ xs. xs) 256 (IsNodeRow version) s (nodes_are_frames s later) ((length shown + 255) / 256) [] shown (messages.LevelEnd ∷ []) (omega arith) (omega arith) rows passes
      ∙ end_read (with_received s shown) ends
