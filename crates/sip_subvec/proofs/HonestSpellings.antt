-- Each message of an honest helper has a spelling in its version.
use Rattle.std.proofs.Common.{ℕ, zero, suc, ◌+◌, ◌/◌, ◌<◌, ◌≡◌, List, [], ◌∷◌, length, take, drop, map, fold, ℤ, All, refl, arith}
use Rattle.std.specs.Prelude.{IsTrue}
use Rattle.std.proofs.lemmas.List.{length-drop, length-take}
use Rattle.std.proofs.lemmas.List.Elements.{All-nil, All-cons, All-append, All-take, All-drop}
use Rattle.sip_field.specs.Residue.{residue}
use Rattle.sip_vector.specs.declared.update.Entry.{Entry}
use Rattle.sip_vector.specs.Pieces.{pieces}
use Rattle.sip_vector.specs.Trees.{up, tree}
use Rattle.sip_vector.specs.Vectors.{nonzero_within}
use Rattle.sip_wire.specs.declared.message.Message.{Message}
use Rattle.sip_wire.specs.declared.version.Version.{Version}
use Rattle.sip_wire.specs.Spelling.{fits}
use Rattle.sip_wire.proofs.SiblingElements.{siblings_fit}
use Rattle.sip_subvec.specs.Honest.{proving, its_siblings, siblings_message, opening_frames, honest_messages, CanBeShown}
use Rattle.sip_subvec.proofs.HonestFrames.{IsRow, entries_fit, AreBelow, honest_elements, lowest_below, above_below, entries_message}
use Rattle.sip_subvec.proofs.HonestStreams.{shown_rows}

-- each level of a tree has residues
above_all : (p : ℕ) (level prefix : List ℕ) → 0 < p → AreBelow p level
    → AreBelow p (fold (up p) level prefix)
above_all p level [] some below = below
above_all p level (r ∷ prefix) some below =
    above_all p (up p level r) prefix some (above_below p r level some)

tree_below : (p : ℕ) (numbers : List ℤ) (prefix : List ℕ) → 0 < p
    → AreBelow p (tree p numbers prefix)
tree_below p numbers prefix some =
    above_all p (map (residue p) numbers) prefix some (lowest_below p numbers some)

module _ (version : Version) where
  HasSpelling : Message → Type 0
  HasSpelling m = IsTrue (fits version m)

  -- entries by 512
  pieces_fit : (n : ℕ) (es : List Entry) → n ≡ (length es + 511) / 512 → All (IsRow version) es
      → All HasSpelling (map entries_message (pieces 512 n es))
  unfolding HasSpelling
  pieces_fit zero es count rows = All-nil HasSpelling
  pieces_fit (suc n) es count rows =
      let left = length-drop 512 es in
      let taken = length-take 512 es in
      All-cons HasSpelling (entries_message (take 512 es))
      (map entries_message (pieces 512 n (drop 512 es)))
      (entries_fit version (take 512 es) (omega arith) (omega arith)
      (All-take (IsRow version) 512 es rows))
      (pieces_fit n (drop 512 es) (omega (arith, count)) (All-drop (IsRow version) 512 es rows))

  module _ (p depth lo hi : ℕ) (numbers : List ℤ)
      (shown : CanBeShown version p depth lo hi numbers) where
    opening_fit : (revealed : List ℕ) → All HasSpelling (opening_frames numbers lo hi revealed)
    opening_fit [] =
        let es = nonzero_within lo hi numbers in
        pieces_fit ((length es + 511) / 512) es refl (shown_rows version p depth lo hi numbers shown)
    opening_fit (r ∷ revealed) = All-nil HasSpelling

    -- and siblings
    siblings_have : (revealed : List ℕ)
        → HasSpelling (siblings_message (its_siblings (proving p numbers lo hi revealed)))
    unfolding HasSpelling
    siblings_have revealed =
        let s = proving p numbers lo hi revealed in
        let x = its_siblings s in
        let elements = honest_elements p s.level s.lo s.hi shown.elements
        (tree_below p numbers revealed shown.some) in
        siblings_fit version x.left x.right elements.0 elements.1

    pub messages_fit : (revealed : List ℕ)
        → All (λ m. IsTrue (fits version m)) (honest_messages p numbers lo hi revealed)
    unfolding honest_messages HasSpelling
    messages_fit revealed =
        let last = siblings_message (its_siblings (proving p numbers lo hi revealed)) in
        All-append HasSpelling (opening_frames numbers lo hi revealed) (last ∷ [])
        (opening_fit revealed)
        (All-cons HasSpelling last [] (siblings_have revealed) (All-nil HasSpelling))
