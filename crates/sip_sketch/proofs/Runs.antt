-- Running numbers behind more updates.
use Rattle.std.proofs.Common.{◌≡◌, ℕ, ◌+◌, ◌^◌, ◌<◌, false, ℤ, nat_abs, List, [], ◌∷◌, ◌++◌, length, map, sum_by, All, refl, sym, ap, subst, ◌∙◌, inl, inr, arith}
use Rattle.std.proofs.lemmas.List.{map-append}
use Rattle.std.proofs.lemmas.Bool.{cases_Bool}
use Rattle.sip_field.specs.Moduli.{m61_modulus}
use Rattle.sip_mle.specs.StandsFor.{PointStandsFor}
use Rattle.sip_tree.specs.Blocks.{split_after, weight_after}
use Rattle.sip_tree.specs.StandsFor.{RootStandsFor, AugRootStandsFor, SplitRootStandsFor}
use Rattle.sip_tree.proofs.Splitting.{split_root_stands_after}
use Rattle.sip_vector.specs.Splits.{absolute, weights}
use Rattle.sip_vector.specs.Streams.{same_side, of_side, vector, weight}
use Rattle.sip_vector.specs.Weights.{numbers_after}
use Rattle.sip_vector.specs.declared.update.Side.{Side}
use Rattle.sip_vector.specs.declared.update.Side.TheVariants.{First, Second}
use Rattle.sip_vector.specs.declared.update.Update.{Update}
use Rattle.sip_vector.proofs.Sides.{weight-append}
use Rattle.sip_vector.proofs.TreeStreams.{vector_goes_on}
use Rattle.sip_verifier.proofs.SeatTotals.{weight_after_is}
use Rattle.sip_verifier.proofs.Seating.{absolute_side, same_true}
use Rattle.sip_verifier.specs.QuerySeats.{RunsOn, root_is, point_is, points_are, aug_root_is, split_root_is}
use Rattle.sip_sketch.specs.declared.kind.SeatKind.{SeatKind}
use Rattle.sip_sketch.specs.declared.kind.SeatKind.TheVariants.{Above, Entries, Heavy, Products, Sums}
use Rattle.sip_sketch.specs.Seats.{query_of, side_of}
use Rattle.sip_sketch.specs.inside.Raising.{own_of}

-- ---- the updates of a side

-- those of a side have that side alone
pub side_twice : (us : List Update) (side : Side) → of_side (of_side us side) side ≡ of_side us side
side_twice [] side = refl
side_twice (u ∷ us) side = elim (cases_Bool (same_side u.side side)) [
  | inl here ↦ rw here (rw here (ap (λ l. u ∷ l) (side_twice us side)))
  | inr other ↦ rw other (side_twice us side)
]

pub side_none : (us : List Update) (one other : Side) → same_side one other ≡ false → of_side (of_side us one) other ≡ []
side_none [] one other apart = refl
side_none (u ∷ us) one other apart = elim (cases_Bool (same_side u.side one)) [
  | inl here ↦
      let there : same_side u.side other ≡ false = ap (λ s. same_side s other) (same_true u.side one here) ∙ apart in
      rw here (rw there (side_none us one other apart))
  | inr away ↦ rw away (side_none us one other apart)
]

-- ---- more updates

module _ (depth : ℕ) (stream updates : List Update) (block block' : List ℕ) where
  root_on : (value value' : ℕ) (side : Side) → ((numbers : List ℤ) → RootStandsFor m61_modulus block value numbers → RootStandsFor m61_modulus block' value' (numbers_after numbers (of_side updates side)))
      → RootStandsFor m61_modulus block value (vector depth stream side) → RootStandsFor m61_modulus block' value' (vector depth (stream ++ updates) side)
  root_on value value' side raised stands =
      subst (RootStandsFor m61_modulus block' value') (sym (vector_goes_on depth stream updates side)) (raised (vector depth stream side) stands)

  point_on : (value value' : ℕ) (side : Side) → ((numbers : List ℤ) → PointStandsFor m61_modulus block value numbers → PointStandsFor m61_modulus block' value' (numbers_after numbers (of_side updates side)))
      → PointStandsFor m61_modulus block value (vector depth stream side) → PointStandsFor m61_modulus block' value' (vector depth (stream ++ updates) side)
  point_on value value' side raised stands =
      subst (PointStandsFor m61_modulus block' value') (sym (vector_goes_on depth stream updates side)) (raised (vector depth stream side) stands)

  aug_root_on : (hash hash' : ℕ) (total total' : ℤ) (side : Side)
      → ((numbers : List ℤ) → AugRootStandsFor m61_modulus block hash total numbers → AugRootStandsFor m61_modulus block' hash' total' (numbers_after numbers (of_side updates side)))
      → AugRootStandsFor m61_modulus block hash total (vector depth stream side) → AugRootStandsFor m61_modulus block' hash' total' (vector depth (stream ++ updates) side)
  aug_root_on hash hash' total total' side raised stands =
      subst (AugRootStandsFor m61_modulus block' hash' total') (sym (vector_goes_on depth stream updates side)) (raised (vector depth stream side) stands)

  pub root_further : (kind : SeatKind) (own : List Update) (value value' : ℕ) → own ≡ of_side updates (side_of kind)
      → ((numbers : List ℤ) → RootStandsFor m61_modulus block value numbers → RootStandsFor m61_modulus block' value' (numbers_after numbers own))
      → RunsOn depth stream (query_of kind) block (root_is value) → RunsOn depth (stream ++ updates) (query_of kind) block' (root_is value')
  root_further Entries own value value' is raised stands =
      root_on value value' First (subst (λ (l : List Update). (numbers : List ℤ) → RootStandsFor m61_modulus block value numbers → RootStandsFor m61_modulus block' value' (numbers_after numbers l)) is raised) stands
  root_further (Sums side) own value value' is raised stands = absurd stands
  root_further Products own value value' is raised stands = absurd stands
  root_further (Heavy side) own value value' is raised stands = absurd stands
  root_further (Above side) own value value' is raised stands = absurd stands

  pub point_further : (kind : SeatKind) (own : List Update) (value value' : ℕ) → own ≡ of_side updates (side_of kind)
      → ((numbers : List ℤ) → PointStandsFor m61_modulus block value numbers → PointStandsFor m61_modulus block' value' (numbers_after numbers own))
      → RunsOn depth stream (query_of kind) block (point_is value) → RunsOn depth (stream ++ updates) (query_of kind) block' (point_is value')
  point_further Entries own value value' is raised stands = absurd stands
  point_further (Sums side) own value value' is raised stands =
      point_on value value' side (subst (λ (l : List Update). (numbers : List ℤ) → PointStandsFor m61_modulus block value numbers → PointStandsFor m61_modulus block' value' (numbers_after numbers l)) is raised) stands
  point_further Products own value value' is raised stands = absurd stands
  point_further (Heavy side) own value value' is raised stands = absurd stands
  point_further (Above side) own value value' is raised stands = absurd stands

  pub points_further : (kind : SeatKind) (first second first' second' : ℕ)
      → ((numbers : List ℤ) → PointStandsFor m61_modulus block first numbers → PointStandsFor m61_modulus block' first' (numbers_after numbers (of_side updates First)))
      → ((numbers : List ℤ) → PointStandsFor m61_modulus block second numbers → PointStandsFor m61_modulus block' second' (numbers_after numbers (of_side updates Second)))
      → RunsOn depth stream (query_of kind) block (points_are first second) → RunsOn depth (stream ++ updates) (query_of kind) block' (points_are first' second')
  points_further Entries first second first' second' one other stands = absurd stands
  points_further (Sums side) first second first' second' one other stands = absurd stands
  points_further Products first second first' second' one other stands =
      (point_on first first' First one stands.0, point_on second second' Second other stands.1)
  points_further (Heavy side) first second first' second' one other stands = absurd stands
  points_further (Above side) first second first' second' one other stands = absurd stands

  pub aug_root_further : (kind : SeatKind) (own : List Update) (hash hash' : ℕ) (total total' : ℤ) → own ≡ of_side updates (side_of kind)
      → ((numbers : List ℤ) → AugRootStandsFor m61_modulus block hash total numbers → AugRootStandsFor m61_modulus block' hash' total' (numbers_after numbers own))
      → RunsOn depth stream (query_of kind) block (aug_root_is hash total) → RunsOn depth (stream ++ updates) (query_of kind) block' (aug_root_is hash' total')
  aug_root_further Entries own hash hash' total total' is raised stands = absurd stands
  aug_root_further (Sums side) own hash hash' total total' is raised stands = absurd stands
  aug_root_further Products own hash hash' total total' is raised stands = absurd stands
  aug_root_further (Above side) own hash hash' total total' is raised stands = absurd stands
  aug_root_further (Heavy side) own hash hash' total total' is raised stands =
      aug_root_on hash hash' total total' side (subst (λ (l : List Update). (numbers : List ℤ) → AugRootStandsFor m61_modulus block hash total numbers → AugRootStandsFor m61_modulus block' hash' total' (numbers_after numbers l)) is raised) stands

  -- the weights of a side behind more updates
  weights_go_on : (side : Side) → weights depth (stream ++ updates) side ≡ numbers_after (weights depth stream side) (map absolute (of_side updates side))
  weights_go_on side =
      ap (λ s. vector depth s side) (map-append absolute stream updates) ∙ vector_goes_on depth (map absolute stream) (map absolute updates) side
      ∙ ap (numbers_after (weights depth stream side)) (absolute_side updates side)

  pub split_root_further : (kind : SeatKind) (own : List Update) (hash hash' : ℕ) → own ≡ of_side updates (side_of kind) → block' ≡ block
      → All (λ u. u.item < 2 ^ length block) own → hash' ≡ split_after m61_modulus block hash own
      → RunsOn depth stream (query_of kind) block (split_root_is hash (weight stream (side_of kind)))
      → RunsOn depth (stream ++ updates) (query_of kind) block' (split_root_is hash' (weight (stream ++ updates) (side_of kind)))
  split_root_further Entries own hash hash' is seat below raised stands = absurd stands
  split_root_further (Sums side) own hash hash' is seat below raised stands = absurd stands
  split_root_further Products own hash hash' is seat below raised stands = absurd stands
  split_root_further (Heavy side) own hash hash' is seat below raised stands = absurd stands
  split_root_further (Above side) own hash hash' is seat below raised stands =
      let some : 0 < m61_modulus = omega arith in
      let all : weight (stream ++ updates) side ≡ weight_after (weight stream side) own =
      weight-append stream updates side ∙ sym (weight_after_is own (weight stream side) ∙ ap (λ l. weight stream side + sum_by (λ (u : Update). nat_abs u.delta) l) is) in
      let after = split_root_stands_after m61_modulus block some own hash hash' (weight stream side) (weight (stream ++ updates) side) (vector depth stream side) (weights depth stream side) below raised all stands in
      subst (λ b. SplitRootStandsFor m61_modulus b hash' (weight (stream ++ updates) side) (vector depth (stream ++ updates) side) (weights depth (stream ++ updates) side)) (sym seat)
      (subst (λ values. SplitRootStandsFor m61_modulus block hash' (weight (stream ++ updates) side) values (weights depth (stream ++ updates) side)) (sym (vector_goes_on depth stream updates side ∙ ap (numbers_after (vector depth stream side)) (sym is)))
      (subst (λ heavy. SplitRootStandsFor m61_modulus block hash' (weight (stream ++ updates) side) (numbers_after (vector depth stream side) own) heavy) (sym (weights_go_on side ∙ ap (λ l. numbers_after (weights depth stream side) (map absolute l)) (sym is))) after))

-- both sides' updates, one side's behind the other's, are each side's
pub both_after : (updates firsts seconds : List Update) (numbers : List ℤ) → firsts ≡ of_side updates First → seconds ≡ of_side updates Second
    → (numbers_after (numbers_after numbers (of_side firsts First)) (of_side seconds First) ≡ numbers_after numbers (of_side updates First))
    × (numbers_after (numbers_after numbers (of_side firsts Second)) (of_side seconds Second) ≡ numbers_after numbers (of_side updates Second))
both_after updates firsts seconds numbers is also =
    let one : of_side firsts First ≡ of_side updates First = ap (λ l. of_side l First) is ∙ side_twice updates First in
    let empty : of_side seconds First ≡ [] = ap (λ l. of_side l First) also ∙ side_none updates Second First refl in
    let without : of_side firsts Second ≡ [] = ap (λ l. of_side l Second) is ∙ side_none updates First Second refl in
    let other : of_side seconds Second ≡ of_side updates Second = ap (λ l. of_side l Second) also ∙ side_twice updates Second in (
      ap (numbers_after (numbers_after numbers (of_side firsts First))) empty ∙ ap (numbers_after numbers) one,
      ap (λ l. numbers_after (numbers_after numbers l) (of_side seconds Second)) without ∙ ap (numbers_after numbers) other,
    )

-- what holds of the updates of both sides holds of one side's
pub own_all : (P : Update → Type 0) (side : Side) (firsts seconds : List Update) → All P firsts → All P seconds → All P (own_of side firsts seconds)
own_all P First firsts seconds one other = one
own_all P Second firsts seconds one other = other

-- the updates of a kind's side are its own
pub own_is : (kind : SeatKind) (side : Side) (updates firsts seconds : List Update) → side_of kind ≡ side
    → firsts ≡ of_side updates First → seconds ≡ of_side updates Second → own_of side firsts seconds ≡ of_side updates (side_of kind)
own_is kind First updates firsts seconds sided one other = one ∙ ap (of_side updates) (sym sided)
own_is kind Second updates firsts seconds sided one other = other ∙ ap (of_side updates) (sym sided)
