-- The fields of a seat that stand behind each other.
use Rattle.std.proofs.Common.{ℕ}
use Rattle.sip_sketch.specs.Fields.{Field, Fields, one}
use Rattle.sip_sketch.specs.Sketches.{byte, element, elements}

abbrev pub after_first : (ℕ → ℕ → Field) → Fields → ℕ → ℕ → ℕ → Fields
after_first number behind kind used first = one (number kind used) (λ _. behind)

abbrev pub after_block : (ℕ → ℕ → Field) → Fields → ℕ → ℕ → Fields
after_block number behind kind used = one element (after_first number behind kind used)

abbrev pub after_used : ℕ → (ℕ → ℕ → Field) → Fields → ℕ → ℕ → Fields
after_used depth number behind kind used = elements depth (after_block number behind kind used)

abbrev pub after_kind : ℕ → (ℕ → ℕ → Field) → Fields → ℕ → Fields
after_kind depth number behind kind = one (byte 0 1) (after_used depth number behind kind)
