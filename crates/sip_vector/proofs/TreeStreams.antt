-- More updates raise entries of their side's vector.
use Rattle.std.proofs.Common.{◌≡◌, ℕ, ◌^◌, ◌<◌, true, List, [], ◌∷◌, ◌++◌, append_assoc, sym, ◌∙◌, ap, inl, inr}
use Rattle.std.proofs.lemmas.Bool.{cases_Bool}
use Rattle.std.proofs.lemmas.List.{append-nil}
use Rattle.sip_vector.specs.declared.update.Side.{Side}
use Rattle.sip_vector.specs.declared.update.Update.{Update}
use Rattle.sip_vector.specs.Streams.{same_side, of_side, vector}
use Rattle.sip_vector.specs.Weights.{raised_numbers, numbers_after}
use Rattle.sip_vector.proofs.Sides.{vector-same_side, vector-other_side}

-- one more, where it is of this side
pub vector_raised : (depth : ℕ) (stream : List Update) (u : Update) (side : Side) → u.item < 2 ^ depth → same_side u.side side ≡ true →
    vector depth (stream ++ u ∷ []) side ≡ raised_numbers (vector depth stream side) u.item u.delta
vector_raised depth stream u side within here = vector-same_side depth stream u side here

-- and many, of either side
pub vector_goes_on : (depth : ℕ) (stream updates : List Update) (side : Side) →
    vector depth (stream ++ updates) side ≡ numbers_after (vector depth stream side) (of_side updates side)
vector_goes_on depth stream [] side = ap (λ s. vector depth s side) (append-nil stream)
vector_goes_on depth stream (u ∷ updates) side =
    ap (λ s. vector depth s side) (sym (append_assoc stream (u ∷ []) updates)) ∙ vector_goes_on depth (stream ++ u ∷ []) updates side
    ∙ elim (cases_Bool (same_side u.side side)) [
      | inl same ↦ rw same (ap (λ ns. numbers_after ns (of_side updates side)) (vector-same_side depth stream u side same))
      | inr other ↦ rw other (ap (λ ns. numbers_after ns (of_side updates side)) (vector-other_side depth stream u side other))
    ]
