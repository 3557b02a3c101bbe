-- How a prover starts.
use Rattle.std.specs.Prelude.{ℕ, ◌≡◌, List, [], Some, None, Result, Ok, Err}
use Rattle.sip_vector.specs.declared.query.Query.{Query}
use Rattle.sip_helper.specs.declared.prover.NotStarted.{NotStarted}
use Rattle.sip_helper.specs.declared.prover.NotStarted.TheVariants.{NoMemory, Refused}
use Rattle.sip_helper.specs.Vectors.{Vectors}
use Rattle.sip_helper.specs.Kinds.{help_row}
use Rattle.sip_helper.specs.inside.Legal.{HaveDepth}

-- It starts where the query is not refused over the vectors: then it stands for the query and for
-- them, and has learnt nothing yet. Else the code is the row's, or memory was refused.
abbrev pub StartsProver : {P : Type 0} → (P → Query) → (ℕ → Vectors → List ℕ → P → Type 0) → Vectors
    → Query → Result P NotStarted → Type 0
StartsProver query has_learnt v q (Ok prover) =
    ((help_row q).refused_by v ≡ None)
    × (query prover ≡ q)
    × ((depth : ℕ) → HaveDepth depth v → has_learnt depth v [] prover)
StartsProver query has_learnt v q (Err (Refused code)) = (help_row q).refused_by v ≡ Some code
StartsProver query has_learnt v q (Err NoMemory) = Unit {0}
