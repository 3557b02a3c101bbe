-- Honest replies are read as what they say.
use Rattle.std.proofs.Common.{◌≡◌, ℕ, zero, suc, ◌+◌, ◌/◌, ◌<◌, ◌≤◌, List, [], ◌∷◌, ◌++◌, length, take, drop, map, Result, Ok, All, refl, sym, ap, ◌∙◌, arith, append_assoc, append-nil}
use Rattle.std.specs.Prelude.{IsTrue}
use Rattle.std.specs.List.{flat_map}
use Rattle.std.proofs.lemmas.List.{take-append-drop, length-drop, length-take}
use Rattle.std.proofs.lemmas.List.Concat.{flat_map-cons}
use Rattle.std.proofs.lemmas.List.Elements.{All-take, All-drop}
use Rattle.sip_field.specs.Moduli.{m61_modulus}
use Rattle.sip_vector.specs.declared.update.Entry.{Entry}
use Rattle.sip_vector.specs.Pieces.{pieces}
use Rattle.sip_vector.specs.Steps.{◌>>=◌}
use Rattle.sip_vector.specs.Trees.{up}
use Rattle.sip_wire.specs.declared.kind.Place.TheVariants as places
use Rattle.sip_wire.specs.declared.message.Reason.{Reason}
use Rattle.sip_wire.specs.declared.version.Version.{Version}
use Rattle.sip_wire.specs.Spelling.{kind_of, spelling}
use Rattle.sip_wire.specs.Table.{allows}
use Rattle.sip_wire.proofs.ReadingLaws.{read_frame-spelling}
use Rattle.sip_wire.proofs.SiblingElements.{siblings_fit}
use Rattle.sip_replies.specs.declared.check.More.{More}
use Rattle.sip_replies.specs.declared.check.More.TheVariants as mores
use Rattle.sip_replies.specs.Protocols.{Rules}
use Rattle.sip_replies.specs.Replies.{read_reply, run_from}
use Rattle.sip_replies.proofs.Reading.{read_reply-step}
use Rattle.sip_subvec.specs.AcceptsSub.{Siblings, Stated}
use Rattle.sip_subvec.specs.Honest.{honest_siblings, siblings_message, entry_frames}
use Rattle.sip_subvec.specs.Protocol.{at_level, place_of, sub_step, sub_rules}
use Rattle.sip_subvec.specs.Replies.{with_entries, asked_siblings}
use Rattle.sip_subvec.proofs.FirstReply.{in_part, as_whole}
use Rattle.sip_subvec.proofs.Halvings.{whole, level_more}
use Rattle.sip_subvec.proofs.HonestEntries.{with_entries-parts}
use Rattle.sip_subvec.proofs.HonestFrames.{IsRow, entries_fit, entries_in_range, honest_are_asked, AreBelow, honest_elements, above_below, entries_message}
use Rattle.sip_subvec.proofs.LaterReply.{known, with_siblings}
use Rattle.sip_subvec.proofs.Runs.{run_is, run_none, stated_as}
use Rattle.sip_subvec.proofs.Windows.{siblings_above}

-- ---- siblings

asked_is : (level : List ℕ) (lo hi : ℕ) → asked_siblings lo hi (honest_siblings level lo hi) ≡ Ok (honest_siblings level lo hi)
asked_is level lo hi = rw (honest_are_asked level lo hi) refl

-- siblings may stand in each reply
siblings_allowed : (xs : List Siblings) (x : Siblings)
    → IsTrue (allows (place_of xs) (kind_of (siblings_message x)))
siblings_allowed [] x = refl
siblings_allowed (y ∷ ys) x = refl

-- siblings that were tested, as a step that completes a reply
abbrev as_complete : Stated → Result Siblings Reason → Result (More × Stated) Reason
as_complete s r = r >>= λ x. Ok (mores.Complete, with_siblings s x)

-- entries that were tested, as a step that leaves more due
abbrev as_due : Result (List Entry) Reason → Result (More × Stated) Reason
as_due r = r >>= λ all. Ok (mores.Due, in_part all)

module _ (version : Version) (lo hi p : ℕ) (small : p ≤ m61_modulus) where
  abbrev R : Rules Stated
  R = sub_rules version lo hi

  module _ (level : List ℕ) (below : AreBelow p level) where
    -- the siblings at the end of a reply, which are those of this level
    pub siblings_read : (low high : ℕ) (s : Stated) → at_level s.siblings lo ≡ low
        → at_level s.siblings hi ≡ high
        → read_reply R s (spelling version (siblings_message (honest_siblings level low high)) ++ [])
        ≡ Ok (with_siblings s (honest_siblings level low high))
    siblings_read low high s at_low at_high =
        let x = honest_siblings level low high in
        let elements = honest_elements p level low high small below in
        let step : sub_step lo hi s (siblings_message x) ≡ Ok (mores.Complete, with_siblings s x) =
        ap (λ (l : ℕ). as_complete s (asked_siblings l (at_level s.siblings hi) x)) at_low
        ∙ ap (λ (h : ℕ). as_complete s (asked_siblings low h x)) at_high
        ∙ ap (as_complete s) (asked_is level low high) in
        read_reply-step R s (spelling version (siblings_message x) ++ []) [] (siblings_message x)
        (Ok (mores.Complete, with_siblings s x))
        (read_frame-spelling version (place_of s.siblings) (siblings_message x) []
        (siblings_fit version x.left x.right elements.0 elements.1) (siblings_allowed s.siblings x) tt)
        step

    -- ---- entries

    abbrev lowest : Siblings
    lowest = honest_siblings level lo hi

    abbrev from_pieces : ℕ → List Entry → List ℕ
    from_pieces n es =
        flat_map (spelling version)
        (map entries_message (pieces 512 n es) ++ siblings_message lowest ∷ [])

    -- one frame, and those after it
    frame_read : (before es all : List Entry) (rest : List ℕ) → 0 < length es → length es ≤ 512
        → All (IsRow version) es → with_entries lo hi before es ≡ Ok all
        → read_reply R (in_part before) (spelling version (entries_message es) ++ rest)
        ≡ read_reply R (in_part all) rest
    frame_read before es all rest some most rows passes =
        read_reply-step R (in_part before) (spelling version (entries_message es) ++ rest) rest
        (entries_message es) (Ok (mores.Due, in_part all))
        (read_frame-spelling version places.Entries (entries_message es) rest (entries_fit version es some most rows)
        refl (entries_in_range version es rows)) (ap as_due passes)

    pieces_read : (n : ℕ) (before es all : List Entry) → n ≡ (length es + 511) / 512 → All (IsRow version) es
        → with_entries lo hi before es ≡ Ok all
        → read_reply R (in_part before) (from_pieces n es) ≡ Ok (as_whole all lowest)
    pieces_read zero before [] all count rows passes =
        let e : before ≡ all = cc in
        ap (read_reply R (in_part before)) (flat_map-cons (spelling version) (siblings_message lowest) [])
        ∙ siblings_read lo hi (in_part before) (whole lo) (whole hi)
        ∙ ap (λ (es : List Entry). Ok (as_whole es lowest)) e
    pieces_read zero before (x ∷ es) all count rows passes = absurd (omega (arith, count))
    pieces_read (suc n) before es all count rows passes =
        let front = take 512 es in
        let rest = drop 512 es in
        let left = length-drop 512 es in
        let taken = length-take 512 es in
        let parts = with_entries-parts lo hi before front rest all
        (ap (with_entries lo hi before) (take-append-drop 512 es) ∙ passes) in
        ap (read_reply R (in_part before)) (flat_map-cons (spelling version) (entries_message front)
        (map entries_message (pieces 512 n rest) ++ siblings_message lowest ∷ []))
        ∙ frame_read before front (before ++ front) (from_pieces n rest) (omega arith) (omega arith)
        (All-take (IsRow version) 512 es rows) parts.front
        ∙ pieces_read n (before ++ front) rest all (omega (arith, count)) (All-drop (IsRow version) 512 es rows)
        parts.rest

    -- reply 0
    pub first_read : (es : List Entry) → All (IsRow version) es → with_entries lo hi [] es ≡ Ok es
        → read_reply R (in_part [])
        (flat_map (spelling version) (entry_frames es ++ siblings_message lowest ∷ []))
        ≡ Ok (as_whole es lowest)
    first_read es rows passes = pieces_read ((length es + 511) / 512) [] es es refl rows passes

-- ---- later replies

-- the siblings of a level and of those above it, each as one reply
abbrev pub replies_above : Version → ℕ → List ℕ → ℕ → ℕ → List ℕ → List (List ℕ)
replies_above version p level lo hi [] = []
replies_above version p level lo hi (r ∷ challenges) =
    (spelling version (siblings_message (honest_siblings level lo hi)) ++ [])
    ∷ replies_above version p (up p level r) (lo / 2) (hi / 2) challenges

module _ (version : Version) (lo hi p : ℕ) (some : 0 < p) (small : p ≤ m61_modulus)
    (es : List Entry) (x : Siblings) where
  -- they add those siblings to what is known
  pub above_read : (challenges : List ℕ) (j : ℕ) (rs : List ℕ) (xs : List Siblings)
      (level : List ℕ) (low high : ℕ) → AreBelow p level → at_level (x ∷ xs) lo ≡ low
      → at_level (x ∷ xs) hi ≡ high
      → run_from (sub_rules version lo hi) j rs (known es x xs)
      (replies_above version p level low high challenges)
      ≡ Ok (stated_as es ((x ∷ xs) ++ siblings_above p level low high challenges))
  above_read [] j rs xs level low high below at_low at_high =
      run_none version lo hi j rs (known es x xs)
      ∙ ap (λ (l : List Siblings). Ok (stated_as es l)) (sym (append-nil (x ∷ xs)))
  above_read (r ∷ challenges) j rs xs level low high below at_low at_high =
      let y = honest_siblings level low high in
      run_is version lo hi j rs (known es x xs) (spelling version (siblings_message y) ++ [])
      (replies_above version p (up p level r) (low / 2) (high / 2) challenges)
      (known es x (xs ++ y ∷ []))
      (siblings_read version lo hi p small level below low high (known es x xs) at_low at_high)
      ∙ above_read challenges (j + 1) (drop 1 rs) (xs ++ y ∷ []) (up p level r) (low / 2) (high / 2)
      (above_below p r level some) (level_more x y xs lo low at_low)
      (level_more x y xs hi high at_high)
      ∙ ap (λ (l : List Siblings). Ok (stated_as es l)) (append_assoc (x ∷ xs) (y ∷ [])
      (siblings_above p (up p level r) (low / 2) (high / 2) challenges))
