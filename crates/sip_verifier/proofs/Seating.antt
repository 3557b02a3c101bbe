-- A seat before and after more updates.
use Rattle.std.proofs.Common.{◌≡◌, ℕ, ℤ, true, false, ◌==◌, ◌&&◌, List, [], ◌∷◌, ◌++◌, length, map, All, refl, sym, ap, ◌∙◌, subst, inl, inr}
use Rattle.std.specs.Prelude.{IsTrue}
use Rattle.std.proofs.lemmas.Bool.{and_from, and_parts, cases_Bool, eq-eqb, eqb-true}
use Rattle.std.proofs.lemmas.List.{map-append}
use Rattle.std.proofs.lemmas.List.Elements.{All-nil, All-cons, All-head, All-tail}
use Rattle.sip_field.specs.Moduli.{m61_modulus}
use Rattle.sip_mle.specs.StandsFor.{PointStandsFor}
use Rattle.sip_tree.specs.StandsFor.{RootStandsFor, AugRootStandsFor, SplitRootStandsFor}
use Rattle.sip_vector.specs.declared.query.Query.{Query}
use Rattle.sip_vector.specs.declared.query.Query.TheVariants.{Sub, Range, F2, Inner, Heavy, Share, Above}
use Rattle.sip_vector.specs.declared.update.Side.{Side}
use Rattle.sip_vector.specs.declared.update.Side.TheVariants.{First, Second}
use Rattle.sip_vector.specs.declared.update.Update.{Update}
use Rattle.sip_vector.specs.Splits.{absolute, weights}
use Rattle.sip_vector.specs.Streams.{same_side, of_side, vector}
use Rattle.sip_vector.specs.Weights.{numbers_after}
use Rattle.sip_vector.proofs.TreeStreams.{vector_goes_on}
use Rattle.sip_verifier.specs.QuerySeats.{RunningNumbers, Seated, root_is, point_is, points_are, aug_root_is, split_root_is, RunsOn, can_be_asked, concerns, is_seat, keeps}

-- ---- what a seat is

pub seat_parts : (depth : ℕ) (s : Seated) → IsTrue (is_seat depth s)
    → IsTrue (can_be_asked depth s.query) × (length s.block ≡ depth) × IsTrue (keeps s.query s.running)
seat_parts depth s is =
    let both = and_parts (can_be_asked depth s.query) ((length s.block == depth) && keeps s.query s.running) is in
    let rest = and_parts (length s.block == depth) (keeps s.query s.running) both.1 in
    (both.0, eqb-true (length s.block) depth rest.0, rest.1)

pub seat_from : (depth : ℕ) (s : Seated) → IsTrue (can_be_asked depth s.query) → length s.block ≡ depth
    → IsTrue (keeps s.query s.running) → IsTrue (is_seat depth s)
seat_from depth s can size kept = and_from _ _ can (and_from _ _ (eq-eqb (length s.block) depth size) kept)

-- ---- updates of one side

same_self : (side : Side) → same_side side side ≡ true
same_self First = refl
same_self Second = refl

pub same_true : (one other : Side) → same_side one other ≡ true → one ≡ other
same_true First First is = refl
same_true First Second is = absurd cc
same_true Second First is = absurd cc
same_true Second Second is = refl

-- those of a side are of that side
pub all_own : (updates : List Update) (side : Side) → All (λ u. u.side ≡ side) (of_side updates side)
all_own [] side = All-nil (λ (u : Update). u.side ≡ side)
all_own (u ∷ updates) side = elim (cases_Bool (same_side u.side side)) [
  | inl here ↦ rw here (All-cons (λ (v : Update). v.side ≡ side) u (of_side updates side) (same_true u.side side here) (all_own updates side))
  | inr other ↦ rw other (all_own updates side)
]

-- where all are of a side, they are those of that side, and the other side has none
pub of_own : (updates : List Update) (side : Side) → All (λ u. u.side ≡ side) updates → of_side updates side ≡ updates
of_own [] side all = refl
of_own (u ∷ updates) side all =
    let Own : Update → Type 0 = λ v. v.side ≡ side in
    let here : same_side u.side side ≡ true = ap (λ s. same_side s side) (All-head Own u updates all) ∙ same_self side in
    rw here (ap (λ l. u ∷ l) (of_own updates side (All-tail Own u updates all)))

pub of_other : (updates : List Update) (side own : Side) → All (λ u. u.side ≡ side) updates → same_side side own ≡ false → of_side updates own ≡ []
of_other [] side own all other = refl
of_other (u ∷ updates) side own all other =
    let Own : Update → Type 0 = λ v. v.side ≡ side in
    let here : same_side u.side own ≡ false = ap (λ s. same_side s own) (All-head Own u updates all) ∙ other in
    rw here (of_other updates side own (All-tail Own u updates all) other)

-- they raise their side's vector
vector_own : (depth : ℕ) (stream updates : List Update) (side own : Side) → All (λ u. u.side ≡ side) updates → same_side side own ≡ true
    → vector depth (stream ++ updates) own ≡ numbers_after (vector depth stream own) updates
vector_own depth stream updates side own all is =
    let these = subst (λ (s : Side). of_side updates s ≡ updates) (same_true side own is) (of_own updates side all) in
    vector_goes_on depth stream updates own ∙ ap (numbers_after (vector depth stream own)) these

-- and leave the other one
vector_other : (depth : ℕ) (stream updates : List Update) (side own : Side) → All (λ u. u.side ≡ side) updates → same_side side own ≡ false
    → vector depth (stream ++ updates) own ≡ vector depth stream own
vector_other depth stream updates side own all other =
    vector_goes_on depth stream updates own ∙ ap (numbers_after (vector depth stream own)) (of_other updates side own all other)

-- the updates of one side and then those of the other are the updates, to each vector
pub vector_split : (depth : ℕ) (stream updates : List Update) (side : Side)
    → vector depth ((stream ++ of_side updates First) ++ of_side updates Second) side ≡ vector depth (stream ++ updates) side
vector_split depth stream updates First =
    vector_other depth (stream ++ of_side updates First) (of_side updates Second) Second First (all_own updates Second) refl
    ∙ vector_own depth stream (of_side updates First) First First (all_own updates First) refl
    ∙ sym (vector_goes_on depth stream updates First)
vector_split depth stream updates Second =
    vector_own depth (stream ++ of_side updates First) (of_side updates Second) Second Second (all_own updates Second) refl
    ∙ ap (λ (l : List ℤ). numbers_after l (of_side updates Second))
    (vector_other depth stream (of_side updates First) First Second (all_own updates First) refl)
    ∙ sym (vector_goes_on depth stream updates Second)

-- ---- weights

absolute_own : (updates : List Update) (side : Side) → All (λ u. u.side ≡ side) updates → All (λ u. u.side ≡ side) (map absolute updates)
absolute_own [] side all = All-nil (λ (u : Update). u.side ≡ side)
absolute_own (u ∷ updates) side all =
    let Own : Update → Type 0 = λ v. v.side ≡ side in
    All-cons Own (absolute u) (map absolute updates) (All-head Own u updates all) (absolute_own updates side (All-tail Own u updates all))

pub absolute_side : (updates : List Update) (side : Side) → of_side (map absolute updates) side ≡ map absolute (of_side updates side)
absolute_side [] side = refl
absolute_side (u ∷ updates) side = elim (cases_Bool (same_side u.side side)) [
  | inl here ↦ rw here (ap (λ l. absolute u ∷ l) (absolute_side updates side))
  | inr other ↦ rw other (absolute_side updates side)
]

-- updates raise their side's weights
weights_own : (depth : ℕ) (stream updates : List Update) (side own : Side) → All (λ u. u.side ≡ side) updates → same_side side own ≡ true
    → weights depth (stream ++ updates) own ≡ numbers_after (weights depth stream own) (map absolute updates)
weights_own depth stream updates side own all is =
    ap (λ s. vector depth s own) (map-append absolute stream updates) ∙ vector_own depth (map absolute stream) (map absolute updates) side own (absolute_own updates side all) is

-- and leave the other ones
weights_other : (depth : ℕ) (stream updates : List Update) (side own : Side) → All (λ u. u.side ≡ side) updates → same_side side own ≡ false
    → weights depth (stream ++ updates) own ≡ weights depth stream own
weights_other depth stream updates side own all other =
    ap (λ s. vector depth s own) (map-append absolute stream updates) ∙ vector_other depth (map absolute stream) (map absolute updates) side own (absolute_own updates side all) other

-- the updates of one side and then those of the other are the updates, to each side's weights
pub weights_split : (depth : ℕ) (stream updates : List Update) (side : Side)
    → weights depth ((stream ++ of_side updates First) ++ of_side updates Second) side ≡ weights depth (stream ++ updates) side
weights_split depth stream updates side =
    ap (λ s. vector depth s side)
    (map-append absolute (stream ++ of_side updates First) (of_side updates Second)
    ∙ ap (λ s. s ++ map absolute (of_side updates Second)) (map-append absolute stream (of_side updates First))
    ∙ ap (λ l. (map absolute stream ++ l) ++ map absolute (of_side updates Second)) (sym (absolute_side updates First))
    ∙ ap (λ l. (map absolute stream ++ of_side (map absolute updates) First) ++ l) (sym (absolute_side updates Second)))
    ∙ vector_split depth (map absolute stream) (map absolute updates) side
    ∙ ap (λ s. vector depth s side) (sym (map-append absolute stream updates))

-- ---- running numbers

module _ (depth : ℕ) (stream updates : List Update) (block : List ℕ) where
  -- updates that concern the query raise its root
  pub root_further : (side : Side) (query : Query) (block' : List ℕ) (value value' : ℕ)
      → All (λ u. u.side ≡ side) updates → IsTrue (concerns query side)
      → ((numbers : List ℤ) → RootStandsFor m61_modulus block value numbers → RootStandsFor m61_modulus block' value' (numbers_after numbers updates))
      → RunsOn depth stream query block (root_is value) → RunsOn depth (stream ++ updates) query block' (root_is value')
  root_further side (Sub lo hi) block' value value' all is raised stands =
      subst (RootStandsFor m61_modulus block' value') (sym (vector_own depth stream updates side First all is)) (raised _ stands)
  root_further side (Range own lo hi) block' value value' all is raised stands = absurd stands
  root_further side (F2 own) block' value value' all is raised stands = absurd stands
  root_further side Inner block' value value' all is raised stands = absurd stands
  root_further side (Heavy own least) block' value value' all is raised stands = absurd stands
  root_further side (Share own num den) block' value value' all is raised stands = absurd stands
  root_further side (Above own least) block' value value' all is raised stands = absurd stands

  -- or its extension
  pub point_further : (side : Side) (query : Query) (block' : List ℕ) (value value' : ℕ)
      → All (λ u. u.side ≡ side) updates → IsTrue (concerns query side)
      → ((numbers : List ℤ) → PointStandsFor m61_modulus block value numbers → PointStandsFor m61_modulus block' value' (numbers_after numbers updates))
      → RunsOn depth stream query block (point_is value) → RunsOn depth (stream ++ updates) query block' (point_is value')
  point_further side (Sub lo hi) block' value value' all is raised stands = absurd stands
  point_further side (Range own lo hi) block' value value' all is raised stands =
      subst (PointStandsFor m61_modulus block' value') (sym (vector_own depth stream updates side own all is)) (raised _ stands)
  point_further side (F2 own) block' value value' all is raised stands =
      subst (PointStandsFor m61_modulus block' value') (sym (vector_own depth stream updates side own all is)) (raised _ stands)
  point_further side Inner block' value value' all is raised stands = absurd stands
  point_further side (Heavy own least) block' value value' all is raised stands = absurd stands
  point_further side (Share own num den) block' value value' all is raised stands = absurd stands
  point_further side (Above own least) block' value value' all is raised stands = absurd stands

  -- or its two extensions, each by the updates of its side
  pub points_further : (query : Query) (block' : List ℕ) (first second first' second' : ℕ)
      → ((numbers : List ℤ) → PointStandsFor m61_modulus block first numbers → PointStandsFor m61_modulus block' first' (numbers_after numbers (of_side updates First)))
      → ((numbers : List ℤ) → PointStandsFor m61_modulus block second numbers → PointStandsFor m61_modulus block' second' (numbers_after numbers (of_side updates Second)))
      → RunsOn depth stream query block (points_are first second) → RunsOn depth (stream ++ updates) query block' (points_are first' second')
  points_further (Sub lo hi) block' first second first' second' one other stands = absurd stands
  points_further (Range own lo hi) block' first second first' second' one other stands = absurd stands
  points_further (F2 own) block' first second first' second' one other stands = absurd stands
  points_further Inner block' first second first' second' one other stands = (
    subst (PointStandsFor m61_modulus block' first') (sym (vector_goes_on depth stream updates First)) (one _ stands.0),
    subst (PointStandsFor m61_modulus block' second') (sym (vector_goes_on depth stream updates Second)) (other _ stands.1),
  )
  points_further (Heavy own least) block' first second first' second' one other stands = absurd stands
  points_further (Share own num den) block' first second first' second' one other stands = absurd stands
  points_further (Above own least) block' first second first' second' one other stands = absurd stands

  -- or its augmented root
  pub aug_root_further : (side : Side) (query : Query) (block' : List ℕ) (hash hash' : ℕ) (total total' : ℤ)
      → All (λ u. u.side ≡ side) updates → IsTrue (concerns query side)
      → ((numbers : List ℤ) → AugRootStandsFor m61_modulus block hash total numbers → AugRootStandsFor m61_modulus block' hash' total' (numbers_after numbers updates))
      → RunsOn depth stream query block (aug_root_is hash total) → RunsOn depth (stream ++ updates) query block' (aug_root_is hash' total')
  aug_root_further side (Sub lo hi) block' hash hash' total total' all is raised stands = absurd stands
  aug_root_further side (Range own lo hi) block' hash hash' total total' all is raised stands = absurd stands
  aug_root_further side (F2 own) block' hash hash' total total' all is raised stands = absurd stands
  aug_root_further side Inner block' hash hash' total total' all is raised stands = absurd stands
  aug_root_further side (Heavy own least) block' hash hash' total total' all is raised stands =
      subst (AugRootStandsFor m61_modulus block' hash' total') (sym (vector_own depth stream updates side own all is)) (raised _ stands)
  aug_root_further side (Above own least) block' hash hash' total total' all is raised stands = absurd stands
  aug_root_further side (Share own num den) block' hash hash' total total' all is raised stands =
      subst (AugRootStandsFor m61_modulus block' hash' total') (sym (vector_own depth stream updates side own all is)) (raised _ stands)

  -- or the root of its split tree
  pub split_root_further : (side : Side) (query : Query) (block' : List ℕ) (hash hash' weight weight' : ℕ)
      → All (λ u. u.side ≡ side) updates → IsTrue (concerns query side)
      → ((values heavy : List ℤ) → SplitRootStandsFor m61_modulus block hash weight values heavy → SplitRootStandsFor m61_modulus block' hash' weight' (numbers_after values updates) (numbers_after heavy (map absolute updates)))
      → RunsOn depth stream query block (split_root_is hash weight) → RunsOn depth (stream ++ updates) query block' (split_root_is hash' weight')
  split_root_further side (Sub lo hi) block' hash hash' weight weight' all is raised stands = absurd stands
  split_root_further side (Range own lo hi) block' hash hash' weight weight' all is raised stands = absurd stands
  split_root_further side (F2 own) block' hash hash' weight weight' all is raised stands = absurd stands
  split_root_further side Inner block' hash hash' weight weight' all is raised stands = absurd stands
  split_root_further side (Heavy own least) block' hash hash' weight weight' all is raised stands = absurd stands
  split_root_further side (Share own num den) block' hash hash' weight weight' all is raised stands = absurd stands
  split_root_further side (Above own least) block' hash hash' weight weight' all is raised stands =
      subst (λ values. SplitRootStandsFor m61_modulus block' hash' weight' values (weights depth (stream ++ updates) own)) (sym (vector_own depth stream updates side own all is))
      (subst (λ heavy. SplitRootStandsFor m61_modulus block' hash' weight' (numbers_after (vector depth stream own) updates) heavy) (sym (weights_own depth stream updates side own all is)) (raised _ _ stands))

  -- updates that do not concern it change nothing
  pub runs_on : (side : Side) (query : Query) (running : RunningNumbers)
      → All (λ u. u.side ≡ side) updates → concerns query side ≡ false
      → RunsOn depth stream query block running → RunsOn depth (stream ++ updates) query block running
  runs_on side (Sub lo hi) (root_is value) all other stands =
      subst (RootStandsFor m61_modulus block value) (sym (vector_other depth stream updates side First all other)) stands
  runs_on side (Sub lo hi) (point_is value) all other stands = absurd stands
  runs_on side (Sub lo hi) (split_root_is hash weight) all other stands = absurd stands
  runs_on side (Sub lo hi) (points_are first second) all other stands = absurd stands
  runs_on side (Sub lo hi) (aug_root_is hash total) all other stands = absurd stands
  runs_on side (Range own lo hi) (root_is value) all other stands = absurd stands
  runs_on side (Range own lo hi) (point_is value) all other stands =
      subst (PointStandsFor m61_modulus block value) (sym (vector_other depth stream updates side own all other)) stands
  runs_on side (Range own lo hi) (split_root_is hash weight) all other stands = absurd stands
  runs_on side (Range own lo hi) (points_are first second) all other stands = absurd stands
  runs_on side (Range own lo hi) (aug_root_is hash total) all other stands = absurd stands
  runs_on side (F2 own) (root_is value) all other stands = absurd stands
  runs_on side (F2 own) (point_is value) all other stands =
      subst (PointStandsFor m61_modulus block value) (sym (vector_other depth stream updates side own all other)) stands
  runs_on side (F2 own) (split_root_is hash weight) all other stands = absurd stands
  runs_on side (F2 own) (points_are first second) all other stands = absurd stands
  runs_on side (F2 own) (aug_root_is hash total) all other stands = absurd stands
  runs_on side Inner running all other stands = absurd cc
  runs_on side (Heavy own least) (root_is value) all other stands = absurd stands
  runs_on side (Heavy own least) (point_is value) all other stands = absurd stands
  runs_on side (Heavy own least) (split_root_is hash weight) all other stands = absurd stands
  runs_on side (Heavy own least) (points_are first second) all other stands = absurd stands
  runs_on side (Heavy own least) (aug_root_is hash total) all other stands =
      subst (AugRootStandsFor m61_modulus block hash total) (sym (vector_other depth stream updates side own all other)) stands
  runs_on side (Above own least) (root_is value) all other stands = absurd stands
  runs_on side (Above own least) (point_is value) all other stands = absurd stands
  runs_on side (Above own least) (points_are first second) all other stands = absurd stands
  runs_on side (Above own least) (aug_root_is hash total) all other stands = absurd stands
  runs_on side (Above own least) (split_root_is hash weight) all other stands =
      subst (λ values. SplitRootStandsFor m61_modulus block hash weight values (weights depth (stream ++ updates) own)) (sym (vector_other depth stream updates side own all other))
      (subst (λ heavy. SplitRootStandsFor m61_modulus block hash weight (vector depth stream own) heavy) (sym (weights_other depth stream updates side own all other)) stands)
  runs_on side (Share own num den) (root_is value) all other stands = absurd stands
  runs_on side (Share own num den) (point_is value) all other stands = absurd stands
  runs_on side (Share own num den) (split_root_is hash weight) all other stands = absurd stands
  runs_on side (Share own num den) (points_are first second) all other stands = absurd stands
  runs_on side (Share own num den) (aug_root_is hash total) all other stands =
      subst (AugRootStandsFor m61_modulus block hash total) (sym (vector_other depth stream updates side own all other)) stands

-- two streams have the same vectors, of values and of weights
pub record AreSame (depth : ℕ) (one other : List Update) : Type 0 where
  pub values : (side : Side) → vector depth one side ≡ vector depth other side
  pub heavy : (side : Side) → weights depth one side ≡ weights depth other side

-- so do updates, and those of one side before those of the other
pub split_same : (depth : ℕ) (stream updates : List Update) → AreSame depth ((stream ++ of_side updates First) ++ of_side updates Second) (stream ++ updates)
split_same depth stream updates = record { values = vector_split depth stream updates; heavy = weights_split depth stream updates }

-- streams with the same vectors have the same running numbers
pub same_runs : (depth : ℕ) (one other : List Update) (block : List ℕ) (query : Query) (running : RunningNumbers)
    → AreSame depth one other
    → RunsOn depth one query block running → RunsOn depth other query block running
same_runs depth one other block (Sub lo hi) (root_is value) same stands = subst (RootStandsFor m61_modulus block value) (same.values First) stands
same_runs depth one other block (Sub lo hi) (point_is value) same stands = absurd stands
same_runs depth one other block (Sub lo hi) (split_root_is hash weight) same stands = absurd stands
same_runs depth one other block (Sub lo hi) (points_are first second) same stands = absurd stands
same_runs depth one other block (Sub lo hi) (aug_root_is hash total) same stands = absurd stands
same_runs depth one other block (Range own lo hi) (root_is value) same stands = absurd stands
same_runs depth one other block (Range own lo hi) (point_is value) same stands = subst (PointStandsFor m61_modulus block value) (same.values own) stands
same_runs depth one other block (Range own lo hi) (split_root_is hash weight) same stands = absurd stands
same_runs depth one other block (Range own lo hi) (points_are first second) same stands = absurd stands
same_runs depth one other block (Range own lo hi) (aug_root_is hash total) same stands = absurd stands
same_runs depth one other block (F2 own) (root_is value) same stands = absurd stands
same_runs depth one other block (F2 own) (point_is value) same stands = subst (PointStandsFor m61_modulus block value) (same.values own) stands
same_runs depth one other block (F2 own) (split_root_is hash weight) same stands = absurd stands
same_runs depth one other block (F2 own) (points_are first second) same stands = absurd stands
same_runs depth one other block (F2 own) (aug_root_is hash total) same stands = absurd stands
same_runs depth one other block Inner (root_is value) same stands = absurd stands
same_runs depth one other block Inner (point_is value) same stands = absurd stands
same_runs depth one other block Inner (split_root_is hash weight) same stands = absurd stands
same_runs depth one other block Inner (points_are first second) same stands =
    (subst (PointStandsFor m61_modulus block first) (same.values First) stands.0, subst (PointStandsFor m61_modulus block second) (same.values Second) stands.1)
same_runs depth one other block Inner (aug_root_is hash total) same stands = absurd stands
same_runs depth one other block (Heavy own least) (root_is value) same stands = absurd stands
same_runs depth one other block (Heavy own least) (point_is value) same stands = absurd stands
same_runs depth one other block (Heavy own least) (split_root_is hash weight) same stands = absurd stands
same_runs depth one other block (Heavy own least) (points_are first second) same stands = absurd stands
same_runs depth one other block (Heavy own least) (aug_root_is hash total) same stands = subst (AugRootStandsFor m61_modulus block hash total) (same.values own) stands
same_runs depth one other block (Above own least) (root_is value) same stands = absurd stands
same_runs depth one other block (Above own least) (point_is value) same stands = absurd stands
same_runs depth one other block (Above own least) (points_are first second) same stands = absurd stands
same_runs depth one other block (Above own least) (aug_root_is hash total) same stands = absurd stands
same_runs depth one other block (Above own least) (split_root_is hash weight) same stands =
    subst (λ values. SplitRootStandsFor m61_modulus block hash weight values (weights depth other own)) (same.values own)
    (subst (λ heavy. SplitRootStandsFor m61_modulus block hash weight (vector depth one own) heavy) (same.heavy own) stands)
same_runs depth one other block (Share own num den) (root_is value) same stands = absurd stands
same_runs depth one other block (Share own num den) (point_is value) same stands = absurd stands
same_runs depth one other block (Share own num den) (split_root_is hash weight) same stands = absurd stands
same_runs depth one other block (Share own num den) (points_are first second) same stands = absurd stands
same_runs depth one other block (Share own num den) (aug_root_is hash total) same stands = subst (AugRootStandsFor m61_modulus block hash total) (same.values own) stands
