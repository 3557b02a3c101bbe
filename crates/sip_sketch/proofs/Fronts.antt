-- What was read so far of a seat, of what is told of the stream, and of a head.
use Rattle.std.proofs.Common.{◌≡◌, ℕ, ◌+◌, List, [], ◌∷◌, ◌++◌, subst, append_assoc}
use Rattle.sip_vector.specs.Limits.{most_depth}
use Rattle.sip_vector.specs.Streams.{most_weight}
use Rattle.sip_vector.specs.declared.tally.Tally.{Tally}
use Rattle.sip_sketch.specs.declared.cursor.Cursor.{Cursor}
use Rattle.sip_sketch.specs.declared.fault.SketchFault.{SketchFault}
use Rattle.sip_sketch.specs.declared.parts.Parts.{Parts}
use Rattle.sip_sketch.specs.Fields.{Field, Fields, one}
use Rattle.sip_sketch.specs.Reading.{Passes, Faults}
use Rattle.sip_sketch.specs.Sketches.{bits_of, byte, element, elements, fixed, long, magic, negatives_field, parts_fields, parts_numbers}
use Rattle.sip_sketch.specs.Sketches.{seat_fields, sketch_file, tally_fields, tally_numbers}
use Rattle.sip_sketch.proofs.HeadFields.{behind_bits, behind_count, behind_depth, behind_first, behind_magic, behind_parts, behind_second, behind_tally}
use Rattle.sip_sketch.proofs.SeatFields.{after_block, after_first, after_kind, after_used}
use Rattle.sip_sketch.proofs.Steps.{fault_behind, passes_on}

-- the field has this value, whatever stands behind it
abbrev pub Reads : Cursor → Cursor → Field → ℕ → Type 0
Reads a b field x = (behind : ℕ → Fields) → Passes a b (one field behind) (behind x) (x ∷ [])

-- ---- a seat

module _ (depth : ℕ) (number : ℕ → ℕ → Field) (behind : Fields) where
  pub seat_used : {a b c : Cursor} {kind used : ℕ} → Reads a b (byte 1 8) kind → Reads b c (byte 0 1) used
      → Passes a c (seat_fields depth number behind) (after_used depth number behind kind used) (kind ∷ used ∷ [])
  seat_used {kind = kind} {used = used} p q = passes_on (p (after_kind depth number behind)) (q (after_used depth number behind kind))

  pub seat_block : {a b c d : Cursor} {kind used : ℕ} {block : List ℕ} → Reads a b (byte 1 8) kind → Reads b c (byte 0 1) used
      → ((k : Fields) → Passes c d (elements depth k) k block)
      → Passes a d (seat_fields depth number behind) (after_block number behind kind used) (kind ∷ used ∷ block)
  seat_block {kind = kind} {used = used} p q r = passes_on (seat_used p q) (r (after_block number behind kind used))

  pub seat_first : {a b c d e : Cursor} {kind used first : ℕ} {block : List ℕ} → Reads a b (byte 1 8) kind → Reads b c (byte 0 1) used
      → ((k : Fields) → Passes c d (elements depth k) k block) → Reads d e element first
      → Passes a e (seat_fields depth number behind) (after_first number behind kind used first) (kind ∷ used ∷ (block ++ first ∷ []))
  seat_first {kind = kind} {used = used} p q r s = passes_on (seat_block p q r) (s (after_first number behind kind used))

  -- the field of the second number is said in another way
  pub seat_whole : {a b c d e f : Cursor} {kind used first second : ℕ} {block : List ℕ} (field : Field) → field ≡ number kind used
      → Reads a b (byte 1 8) kind → Reads b c (byte 0 1) used → ((k : Fields) → Passes c d (elements depth k) k block)
      → Reads d e element first → Reads e f field second
      → Passes a f (seat_fields depth number behind) behind (kind ∷ used ∷ (block ++ first ∷ second ∷ []))
  seat_whole {a = a} {e = e} {f = f} {kind = kind} {used = used} {first = first} {second = second} {block = block} field same p q r s t =
      let last = subst (λ g. Passes e f (one g (λ _. behind)) behind (second ∷ [])) same (t (λ _. behind)) in
      subst (λ l. Passes a f (seat_fields depth number behind) behind (kind ∷ used ∷ l)) (append_assoc block (first ∷ []) (second ∷ []))
      (passes_on (seat_first p q r s) last)

  pub seat_fails : {a b c d e : Cursor} {kind used first : ℕ} {block : List ℕ} {fault : SketchFault} (field : Field) → field ≡ number kind used
      → Reads a b (byte 1 8) kind → Reads b c (byte 0 1) used → ((k : Fields) → Passes c d (elements depth k) k block)
      → Reads d e element first → ((k : ℕ → Fields) → Faults e (one field k) fault) → Faults a (seat_fields depth number behind) fault
  seat_fails {e = e} {fault = fault} field same p q r s t =
      fault_behind (seat_first p q r s) (subst (λ g. Faults e (one g (λ _. behind)) fault) same (t (λ _. behind)))

-- ---- what is told of the stream

module _ (behind : ℕ → ℕ → ℕ → Fields) where
  pub told_weights : {a b c : Cursor} {first second : ℕ} → Reads a b (long 0 most_weight) first → Reads b c (long 0 most_weight) second
      → Passes a c (tally_fields behind) (behind_second behind first second) (first ∷ second ∷ [])
  told_weights {first = first} p q = passes_on (p (behind_first behind)) (q (behind_second behind first))

  pub told_count : {a b c d : Cursor} {first second count : ℕ} → Reads a b (long 0 most_weight) first → Reads b c (long 0 most_weight) second
      → Reads c d (long 0 (first + second)) count
      → Passes a d (tally_fields behind) (behind_count behind first second count) (first ∷ second ∷ count ∷ [])
  told_count {first = first} {second = second} p q r = passes_on (told_weights p q) (r (behind_count behind first second))

  pub told_bits : {a b c d e : Cursor} {first second count bits : ℕ} → Reads a b (long 0 most_weight) first → Reads b c (long 0 most_weight) second
      → Reads c d (long 0 (first + second)) count → Reads d e (negatives_field first second) bits
      → Passes a e (tally_fields behind) (behind_bits behind first second bits) (first ∷ second ∷ count ∷ bits ∷ [])
  told_bits {first = first} {second = second} p q r s = passes_on (told_count p q r) (s (behind_bits behind first second))

-- ---- a head

pub head_depth : {a b c : Cursor} {depth : ℕ} → ((k : Fields) → Passes a b (fixed magic k) k magic) → Reads b c (byte 1 most_depth) depth
    → Passes a c sketch_file (behind_depth depth) (magic ++ depth ∷ [])
head_depth p q = passes_on (p behind_magic) (q behind_depth)

pub head_parts : {a b c d : Cursor} {depth : ℕ} (parts : Parts) → ((k : Fields) → Passes a b (fixed magic k) k magic) → Reads b c (byte 1 most_depth) depth
    → ((k : Fields) → Passes c d (parts_fields k) k (parts_numbers parts))
    → Passes a d sketch_file (behind_parts depth) (magic ++ (depth ∷ parts_numbers parts))
head_parts {depth = depth} parts p q r = passes_on (head_depth p q) (r (behind_parts depth))

pub head_told : {a b c d e : Cursor} {depth : ℕ} (parts : Parts) (t : Tally) → ((k : Fields) → Passes a b (fixed magic k) k magic) → Reads b c (byte 1 most_depth) depth
    → ((k : Fields) → Passes c d (parts_fields k) k (parts_numbers parts))
    → ((k : ℕ → ℕ → ℕ → Fields) → Passes d e (tally_fields k) (k t.first t.second (bits_of t.negatives)) (tally_numbers t))
    → Passes a e sketch_file (behind_tally depth t.first t.second (bits_of t.negatives)) (magic ++ (depth ∷ (parts_numbers parts ++ tally_numbers t)))
head_told {depth = depth} parts t p q r s = passes_on (head_parts parts p q r) (s (behind_tally depth))
