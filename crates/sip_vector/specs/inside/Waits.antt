-- Additions that wait, in the order in which they came or in that of their indices.
use Rattle.std.specs.Prelude.{List}
use Rattle.std.specs.List.Sorted.{IsNonDecreasingBy}
use Rattle.sip_vector.specs.declared.update.Entry.{Entry}

-- what is seen of them
pub record Additions : Type 0 where
  pub items : List Entry

-- their indices do not fall
abbrev pub NeverFall : List Entry → Type 0
NeverFall es = IsNonDecreasingBy (λ (e : Entry). e.index) es
