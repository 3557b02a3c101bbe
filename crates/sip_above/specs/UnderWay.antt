-- An open question for large entries, as a helper keeps it: what is seen of it, and that it can be
-- replied to.
use Rattle.std.specs.Prelude.{◌≡◌, ◌⊎◌, ℕ, ◌-◌, ◌^◌, ◌<◌, ◌==◌, All, Bool, false, true, IsErr, length}
use Rattle.std.specs.Prelude.{List, Option, Some, Result, Ok, Err}
use Rattle.sip_field.specs.Moduli.{m61_modulus}
use Rattle.sip_vector.specs.Vectors.{StoredVector}
use Rattle.sip_heavy.specs.declared.form.LeafForm.TheVariants as forms
use Rattle.sip_heavy.specs.Honest.{Proving, proving_over}
use Rattle.sip_heavy.specs.HonestMarks.{CanBeMarked, mark_leaves}
use Rattle.sip_helper.specs.KindRows.{too_many, want_of_memory}
use Rattle.sip_above.specs.declared.large.Large.{Large}
use Rattle.sip_above.specs.declared.under_way.LargeUnderWay.{LargeUnderWay}
use Rattle.sip_above.specs.Serving.{OpenLarge, Weighed, is_many}

-- a side, by its two vectors
abbrev pub weighed_by : StoredVector → StoredVector → Weighed
weighed_by values weights =
    record { depth = values.depth; values = values.numbers; weights = weights.numbers }

-- it is refused for want of memory
abbrev pub wants_memory : Result Proving ℕ → Bool
wants_memory (Ok prover) = false
wants_memory (Err code) = code == want_of_memory

-- the open question that is kept so
abbrev pub open_of : LargeUnderWay → OpenLarge
open_of q = record {
  large = q.large;
  revealed = q.revealed.items;
  given = q.given;
  refused = wants_memory q.made;
}

-- a prover has the level that these challenges lead to, of a side at this depth
pub record HasLevel (depth : ℕ) (side : Option Weighed) (large : Large) (revealed : List ℕ)
    (prover : Proving) : Type 0 where
  pub shown : Weighed
  pub is : side ≡ Some shown
  pub total : ℕ
  pub can : CanBeMarked m61_modulus depth total shown.values shown.weights
  pub few : is_many shown large ≡ false
  pub level : prover ≡ proving_over m61_modulus forms.Mark
      (mark_leaves m61_modulus shown.values shown.weights) large.at_least revealed
  pub height : length prover.level ≡ 2 ^ (depth - length revealed)

-- the replies are made from a prover, or this code refuses them
abbrev pub IsMade : ℕ → Option Weighed → Large → List ℕ → Result Proving ℕ → Type 0
IsMade depth side large revealed (Ok prover) = HasLevel depth side large revealed prover
IsMade depth side large revealed (Err code) = (code ≡ want_of_memory)
    ⊎ ((code ≡ too_many) × (v : Weighed) × (side ≡ Some v) × (is_many v large ≡ true))

-- a level is left to reply to, and the reply can be made; a refusal is the first reply and the last
pub record CanReply (depth : ℕ) (side : Option Weighed) (q : LargeUnderWay) : Type 0 where
  pub left : length q.revealed.items < depth
  pub elements : All (λ r. r < m61_modulus) q.revealed.items
  pub made : IsMade depth side q.large q.revealed.items q.made
  pub owed : IsErr q.made → q.given ≡ false
