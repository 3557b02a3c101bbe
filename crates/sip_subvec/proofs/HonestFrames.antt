-- The frames of an honest helper have a spelling, so each is read as what it says.
use Rattle.std.proofs.Common.{◌≡◌, ◌≢◌, ℕ, zero, suc, ◌+◌, ◌-◌, ◌*◌, ◌^◌, ◌<◌, ◌≤◌, ◌%◌, ◌==◌, Bool, true, false, not, ◌&&◌, eqb, nat_le, if◌then◌else◌, List, [], ◌∷◌, length, get_or, map, ℤ, pos, negsuc, nat_abs, Some, None, All, FitsSigned, inl, inr, refl, ap, arith}
use Rattle.std.specs.Prelude.{IsTrue}
use Rattle.std.specs.Int.{w64, cast_unsigned}
use Rattle.std.specs.List.{flat_map}
use Rattle.std.proofs.lemmas.Bool.{and_from, lt-ltb, ne_eqb}
use Rattle.std.proofs.lemmas.Bool.Decides.{nat_tests, eqb_tells}
use Rattle.std.proofs.lemmas.List.Elements.{All-head, All-tail, All-weaker}
use Rattle.std.proofs.Math.Nat.{mod-lt}
use Rattle.sip_field.specs.Moduli.{m61_modulus}
use Rattle.sip_field.specs.Residue.{residue}
use Rattle.sip_vector.specs.Trees.{up}
use Rattle.sip_vector.proofs.TreeResidues.{residue_below}
use Rattle.sip_vector.specs.declared.update.Entry.{Entry}
use Rattle.sip_wire.specs.declared.message.Message.{Message}
use Rattle.sip_wire.specs.declared.message.Message.TheVariants as messages
use Rattle.sip_wire.specs.declared.version.Version.{Version}
use Rattle.sip_wire.specs.Versions.{index_width}
use Rattle.sip_wire.specs.Table.{most_claim, repeat, entry_fields}
use Rattle.sip_wire.specs.Spelling.{fits, has_room, all_hold, entry_numbers}
use Rattle.sip_wire.proofs.SiblingElements.{HasElement}
use Rattle.sip_wire.proofs.SmallNumbers.{in_range, bits_below, bits_small}
use Rattle.sip_subvec.specs.Honest.{honest_siblings}
use Rattle.sip_subvec.specs.Replies.{are_asked}

-- ---- entries

-- an entry that a frame of this version may have
pub record IsRow (version : Version) (e : Entry) : Type 0 where
  pub index : e.index < 256 ^ index_width version
  pub some : e.value ≢ pos 0
  pub small : nat_abs e.value ≤ most_claim

bits_some : (z : ℤ) → z ≢ pos 0 → nat_abs z ≤ most_claim → eqb (cast_unsigned w64 z) 0 ≡ false
bits_some (pos zero) some le = absurd (some refl)
bits_some (pos (suc n)) some le = ne_eqb (suc n) 0 (λ e. absurd (omega (arith, e)))
bits_some (negsuc n) some le = ne_eqb (cast_unsigned w64 (negsuc n)) 0 (λ e. absurd (omega (arith, e, le)))

module _ (version : Version) where
  rows_have_room : (es : List Entry) → All (IsRow version) es
      → has_room (repeat (length es) (entry_fields version)) (flat_map entry_numbers es) ≡ true
  unfolding has_room
  rows_have_room [] h = refl
  rows_have_room (e ∷ es) h =
      let row = All-head (IsRow version) e es h in
      and_from _ _ (lt-ltb e.index (256 ^ index_width version) row.index)
      (and_from _ _ (lt-ltb (cast_unsigned w64 e.value) (256 ^ 8) (bits_below e.value row.small))
      (rows_have_room es (All-tail (IsRow version) e es h)))

  rows_hold : (es : List Entry) → All (IsRow version) es
      → all_hold (repeat (length es) (entry_fields version)) (flat_map entry_numbers es) ≡ true
  unfolding all_hold
  rows_hold [] h = refl
  rows_hold (e ∷ es) h =
      let row = All-head (IsRow version) e es h in
      and_from _ _ refl (and_from _ _ (and_from _ _ (ap not (bits_some e.value row.some row.small))
      (bits_small e.value row.small)) (rows_hold es (All-tail (IsRow version) e es h)))

  -- a frame of 1 to 512 of them
  pub entries_fit : (es : List Entry) → 0 < length es → length es ≤ 512 → All (IsRow version) es
      → IsTrue (fits version (messages.Entries (record { items = es })))
  unfolding fits
  entries_fit es some most rows =
      let count : (nat_le 1 (length es) && nat_le (length es) 512) ≡ true = grind (arith, nat_tests) in
      and_from _ _ (and_from _ _ (and_from _ _ count (rows_have_room es rows)) refl) (rows_hold es rows)

  in_range_of : (e : Entry) → IsRow version e → FitsSigned w64 e.value
  in_range_of e row = in_range e.value row.small

  pub entries_in_range : (es : List Entry) → All (IsRow version) es
      → All (λ (e : Entry). FitsSigned w64 e.value) es
  entries_in_range es rows =
      All-weaker (IsRow version) (λ (e : Entry). FitsSigned w64 e.value) in_range_of es rows

-- the frame of these
abbrev pub entries_message : List Entry → Message
entries_message es = messages.Entries (record { items = es })

-- ---- siblings

-- they are those that are asked for
pub honest_are_asked : (level : List ℕ) (lo hi : ℕ) → are_asked lo hi (honest_siblings level lo hi) ≡ true
honest_are_asked level lo hi = elim (eqb_tells (lo % 2) 1) [
  | inl a ↦ elim (eqb_tells (hi % 2) 0) [
    | inl b ↦ rw (a.0, b.0) refl
    | inr b ↦ rw (a.0, b.0) refl
  ]
  | inr a ↦ elim (eqb_tells (hi % 2) 0) [
    | inl b ↦ rw (a.0, b.0) refl
    | inr b ↦ rw (a.0, b.0) refl
  ]
]

-- the nodes of a level are residues
pub AreBelow : ℕ → List ℕ → Type 0
AreBelow p level = (i : ℕ) → get_or level i 0 < p

pub honest_elements : (p : ℕ) (level : List ℕ) (lo hi : ℕ) → p ≤ m61_modulus → AreBelow p level → HasElement (honest_siblings level lo hi).left × HasElement (honest_siblings level lo hi).right
unfolding AreBelow
honest_elements p level lo hi small below = (left (lo % 2 == 1), right (hi % 2 == 0))
  where
    node : (i : ℕ) → get_or level i 0 < m61_modulus
    node i = let h = below i in omega arith

    left : (b : Bool) → HasElement (if b then Some (get_or level (lo - 1) 0) else None)
    left true = node (lo - 1)
    left false = tt

    right : (b : Bool) → HasElement (if b then Some (get_or level (hi + 1) 0) else None)
    right true = node (hi + 1)
    right false = tt

pub lowest_below : (p : ℕ) (numbers : List ℤ) → 0 < p → AreBelow p (map (residue p) numbers)
unfolding AreBelow
lowest_below p [] some i = some
lowest_below p (x ∷ numbers) some zero = residue_below p x some
lowest_below p (x ∷ numbers) some (suc i) = lowest_below p numbers some i

pub above_below : (p r : ℕ) (level : List ℕ) → 0 < p → AreBelow p (up p level r)
unfolding AreBelow
above_below p r [] some i = some
above_below p r (u ∷ []) some i = some
above_below p r (u ∷ w ∷ level) some zero = mod-lt (u + r * w) some
above_below p r (u ∷ w ∷ level) some (suc i) = above_below p r level some i
