-- What a seat keeps, by its kind, and which numbers a file may have of it.
use Rattle.std.proofs.Common.{◌≡◌, ℕ, ◌+◌, ◌-◌, ◌*◌, ◌^◌, ◌<◌, ◌≤◌, Bool, true, false, ◌||◌, ℤ, pos, ◌+ℤ◌, nat_abs, List, refl, sym, ap, subst, ◌∙◌, arith}
use Rattle.std.specs.Prelude.{IsTrue, ◌-ℤ◌}
use Rattle.std.specs.Int.{from_bool}
use Rattle.std.proofs.Math.Bool.{or_assoc}
use Rattle.std.proofs.lemmas.Int.{ints}
use Rattle.sip_field.specs.Moduli.{m61_modulus}
use Rattle.sip_vector.specs.Streams.{most_weight, of_side, weight}
use Rattle.sip_vector.specs.Tallies.{has_negative, joined, tally}
use Rattle.sip_vector.specs.declared.tally.Tally.{Tally}
use Rattle.sip_vector.specs.declared.update.Side.{Side}
use Rattle.sip_vector.specs.declared.update.Side.TheVariants.{First, Second}
use Rattle.sip_vector.specs.declared.update.Update.{Update}
use Rattle.sip_verifier.specs.QuerySeats.{HasRoom, aug_root_is, keeps}
use Rattle.sip_verifier.specs.Running.{numbers_of}
use Rattle.sip_verifier.specs.declared.running.Running.{Running}
use Rattle.sip_verifier.specs.declared.running.Running.TheVariants.{Root, Point, Points, AugRoot, SplitRoot}
use Rattle.sip_sketch.specs.declared.cursor.Size.TheVariants.{Long}
use Rattle.sip_sketch.specs.declared.kind.SeatKind.{SeatKind}
use Rattle.sip_sketch.specs.declared.kind.SeatKind.TheVariants.{Above, Entries, Heavy, Products, Sums}
use Rattle.sip_sketch.specs.Fields.{Field, IsValue}
use Rattle.sip_sketch.specs.Seats.{IsSecond, IsUnweighed, first_number, numbers_kept, query_of, second_number, side_of}
use Rattle.sip_sketch.specs.Sketches.{code_of, second_field, second_of, total_field}
use Rattle.sip_sketch.specs.inside.Raising.{IsTotalAfter}
use Rattle.sip_verifier.proofs.SeatTotals.{light_after, weight_after_is}
use Rattle.sip_sketch.proofs.Totals.{moved, risen, told_back, told_moved, told_risen, told_small, total_more}
use Rattle.sip_sketch.proofs.Whole.{ranged_from, ranged_value}

-- the two numbers say what is kept
pub kept_back : (kind : SeatKind) (r : Running) → IsTrue (keeps (query_of kind) (numbers_of r))
    → numbers_kept kind (first_number (numbers_of r)) (second_number (numbers_of r)) ≡ numbers_of r
kept_back Entries (Root root) kept = refl
kept_back Entries (Point point) kept = absurd cc
kept_back Entries (Points points) kept = absurd cc
kept_back Entries (AugRoot root) kept = absurd cc
kept_back Entries (SplitRoot root) kept = absurd cc
kept_back (Sums side) (Root root) kept = absurd cc
kept_back (Sums side) (Point point) kept = refl
kept_back (Sums side) (Points points) kept = absurd cc
kept_back (Sums side) (AugRoot root) kept = absurd cc
kept_back (Sums side) (SplitRoot root) kept = absurd cc
kept_back Products (Root root) kept = absurd cc
kept_back Products (Point point) kept = absurd cc
kept_back Products (Points points) kept = refl
kept_back Products (AugRoot root) kept = absurd cc
kept_back Products (SplitRoot root) kept = absurd cc
kept_back (Heavy side) (Root root) kept = absurd cc
kept_back (Heavy side) (Point point) kept = absurd cc
kept_back (Heavy side) (Points points) kept = absurd cc
kept_back (Heavy side) (SplitRoot root) kept = absurd cc
kept_back (Heavy side) (AugRoot root) kept = ap (aug_root_is root.hash) (told_back root.total root.within)
kept_back (Above side) (Root root) kept = absurd cc
kept_back (Above side) (Point point) kept = absurd cc
kept_back (Above side) (Points points) kept = absurd cc
kept_back (Above side) (AugRoot root) kept = absurd cc
kept_back (Above side) (SplitRoot root) kept = refl

-- the first is an element
pub first_below : (r : Running) → first_number (numbers_of r) < m61_modulus
first_below (Root root) = root.below
first_below (Point point) = point.below
first_below (Points points) = points.first.below
first_below (AugRoot root) = root.below
first_below (SplitRoot root) = root.below

-- and the second one that its kind may have
pub is_second : (kind : SeatKind) (r : Running) → IsTrue (keeps (query_of kind) (numbers_of r)) → IsUnweighed (numbers_of r) → IsSecond kind (second_number (numbers_of r))
is_second Entries (Root root) kept bare = refl
is_second Entries (Point point) kept bare = absurd cc
is_second Entries (Points points) kept bare = absurd cc
is_second Entries (AugRoot root) kept bare = absurd cc
is_second Entries (SplitRoot root) kept bare = absurd cc
is_second (Sums side) (Root root) kept bare = absurd cc
is_second (Sums side) (Point point) kept bare = refl
is_second (Sums side) (Points points) kept bare = absurd cc
is_second (Sums side) (AugRoot root) kept bare = absurd cc
is_second (Sums side) (SplitRoot root) kept bare = absurd cc
is_second Products (Root root) kept bare = absurd cc
is_second Products (Point point) kept bare = absurd cc
is_second Products (Points points) kept bare = points.second.below
is_second Products (AugRoot root) kept bare = absurd cc
is_second Products (SplitRoot root) kept bare = absurd cc
is_second (Heavy side) (Root root) kept bare = absurd cc
is_second (Heavy side) (Point point) kept bare = absurd cc
is_second (Heavy side) (Points points) kept bare = absurd cc
is_second (Heavy side) (SplitRoot root) kept bare = absurd cc
is_second (Heavy side) (AugRoot root) kept bare = omega (arith, told_small root.total root.within)
is_second (Above side) (Root root) kept bare = absurd cc
is_second (Above side) (Point point) kept bare = absurd cc
is_second (Above side) (Points points) kept bare = absurd cc
is_second (Above side) (AugRoot root) kept bare = absurd cc
is_second (Above side) (SplitRoot root) kept bare = bare

-- ---- the field of a total

first_field : (first second : ℕ) (a b used : Bool)
    → second_field first second (from_bool a + 2 * from_bool b) 5 (from_bool used) ≡ total_field first (used || a)
first_field first second true true true = refl
first_field first second true true false = refl
first_field first second true false true = refl
first_field first second true false false = refl
first_field first second false true true = refl
first_field first second false true false = refl
first_field first second false false true = refl
first_field first second false false false = refl

other_field : (first second : ℕ) (a b used : Bool)
    → second_field first second (from_bool a + 2 * from_bool b) 6 (from_bool used) ≡ total_field second (used || b)
other_field first second true true true = refl
other_field first second true true false = refl
other_field first second true false true = refl
other_field first second true false false = refl
other_field first second false true true = refl
other_field first second false true false = refl
other_field first second false false true = refl
other_field first second false false false = refl

abbrev pub weight_told : Tally → Side → ℕ
weight_told t First = t.first
weight_told t Second = t.second

abbrev pub negative_told : Tally → Side → Bool
negative_told t First = t.negatives.first
negative_told t Second = t.negatives.second

pub heavy_field : (t : Tally) (side : Side) (used : Bool)
    → second_of t (code_of (Heavy side)) (from_bool used) ≡ total_field (weight_told t side) (used || negative_told t side)
heavy_field t First used = first_field t.first t.second t.negatives.first t.negatives.second used
heavy_field t Second used = other_field t.first t.second t.negatives.first t.negatives.second used

-- a second number is a value of its field
abbrev pub IsTold : Tally → SeatKind → Bool → ℕ → Type 0
IsTold t kind used x = IsValue (second_of t (code_of kind) (from_bool used)) x

joined_weight : (t u : Tally) (side : Side) → weight_told (joined t u) side ≡ weight_told t side + weight_told u side
joined_weight t u First = refl
joined_weight t u Second = refl

joined_negative : (t u : Tally) (side : Side) → negative_told (joined t u) side ≡ (negative_told t side || negative_told u side)
joined_negative t u First = refl
joined_negative t u Second = refl

pub heavy_more : (t u : Tally) (side : Side) (used : Bool) (x y : ℕ) → IsTold t (Heavy side) used x → y < 256 ^ 8
    → y ≤ x + weight_told u side → x ≤ y + weight_told u side
    → (((used || negative_told t side) || negative_told u side) ≡ false → y ≡ x + weight_told u side)
    → IsTold (joined t u) (Heavy side) used y
heavy_more t u side used x y told room up down exact =
    let own = subst (λ (f : Field). IsValue f x) (heavy_field t side used) told in
    let more = total_more (weight_told t side) (weight_told u side) (used || negative_told t side) (negative_told u side) x y own room up down exact in
    let open_same = or_assoc used (negative_told t side) (negative_told u side) ∙ ap (λ b. used || b) (sym (joined_negative t u side)) in
    let widened = subst (λ b. IsValue (total_field (weight_told t side + weight_told u side) b) y) open_same more in
    let weighed = subst (λ w. IsValue (total_field w (used || negative_told (joined t u) side)) y) (sym (joined_weight t u side)) widened in
    subst (λ (f : Field). IsValue f y) (sym (heavy_field (joined t u) side used)) weighed

-- the number of a used seat stays one
pub used_told : (t u : Tally) (kind : SeatKind) (x : ℕ) → IsSecond kind x → IsTold t kind true x → IsTold (joined t u) kind true x
used_told t u Entries x is told = told
used_told t u (Sums First) x is told = told
used_told t u (Sums Second) x is told = told
used_told t u Products x is told = told
used_told t u (Above First) x is told = told
used_told t u (Above Second) x is told = told
used_told t u (Heavy side) x is told =
    heavy_more t u side true x x told (omega (arith, is)) (omega arith) (omega arith) (λ none. absurd cc)

-- and that of an unused one is raised with its total
weight_is : (updates : List Update) (side : Side) → weight_told (tally updates) side ≡ weight updates side
weight_is updates First = refl
weight_is updates Second = refl

negative_is : (updates : List Update) (side : Side) → negative_told (tally updates) side ≡ has_negative updates side
negative_is updates First = refl
negative_is updates Second = refl

pub raised_told : (kind : SeatKind) (r r' : Running) (updates : List Update) (t : Tally) → IsTrue (keeps (query_of kind) (numbers_of r))
    → IsTrue (keeps (query_of kind) (numbers_of r')) → IsUnweighed (numbers_of r') → IsTotalAfter (numbers_of r) (of_side updates (side_of kind)) (numbers_of r')
    → IsTold t kind false (second_number (numbers_of r)) → IsTold (joined t (tally updates)) kind false (second_number (numbers_of r'))
raised_told Entries r r' updates t kept kept' bare after told =
    let is : second_number (numbers_of r') ≡ 0 = is_second Entries r' kept' bare in
    ranged_value Long 0 0 (second_number (numbers_of r')) (omega arith) (omega (arith, is)) (omega (arith, is))
raised_told (Sums First) r r' updates t kept kept' bare after told =
    let is : second_number (numbers_of r') ≡ 0 = is_second (Sums First) r' kept' bare in
    ranged_value Long 0 0 (second_number (numbers_of r')) (omega arith) (omega (arith, is)) (omega (arith, is))
raised_told (Sums Second) r r' updates t kept kept' bare after told =
    let is : second_number (numbers_of r') ≡ 0 = is_second (Sums Second) r' kept' bare in
    ranged_value Long 0 0 (second_number (numbers_of r')) (omega arith) (omega (arith, is)) (omega (arith, is))
raised_told Products r r' updates t kept kept' bare after told =
    let is : second_number (numbers_of r') < m61_modulus = is_second Products r' kept' bare in
    ranged_value Long 0 (m61_modulus - 1) (second_number (numbers_of r')) (omega arith) (omega (arith, is)) (omega (arith, is))
raised_told (Above First) r r' updates t kept kept' bare after told =
    let is : second_number (numbers_of r') ≡ 0 = is_second (Above First) r' kept' bare in
    ranged_value Long 0 0 (second_number (numbers_of r')) (omega arith) (omega (arith, is)) (omega (arith, is))
raised_told (Above Second) r r' updates t kept kept' bare after told =
    let is : second_number (numbers_of r') ≡ 0 = is_second (Above Second) r' kept' bare in
    ranged_value Long 0 0 (second_number (numbers_of r')) (omega arith) (omega (arith, is)) (omega (arith, is))
raised_told (Heavy side) (AugRoot root) (AugRoot root') updates t kept kept' bare after told =
    let own = of_side updates side in
    let v = weight_told (tally updates) side in
    let near : nat_abs (root'.total -ℤ root.total) ≤ v =
    subst (λ n. nat_abs (root'.total -ℤ root.total) ≤ n) (sym (weight_is updates side))
    (subst (λ (z : ℤ). nat_abs (z -ℤ root.total) ≤ weight updates side) (sym after) (moved own root.total)) in
    let bounds = told_moved root.total root'.total v root.within root'.within near in
    heavy_more t (tally updates) side false (second_number (numbers_of (AugRoot root))) (second_number (numbers_of (AugRoot root'))) told
    (omega (arith, told_small root'.total root'.within)) bounds.0 bounds.1
    (λ none. told_risen root.total root'.total v root.within root'.within
    (after ∙ risen own root.total (sym (negative_is updates side) ∙ last_none (negative_told t side) (negative_told (tally updates) side) none) ∙ ap (λ n. root.total +ℤ pos n) (sym (weight_is updates side))))
  where
    last_none : (a b : Bool) → ((false || a) || b) ≡ false → b ≡ false
    last_none true b none = absurd cc
    last_none false b none = none
raised_told (Heavy side) (Root root) r' updates t kept kept' bare after told = absurd cc
raised_told (Heavy side) (Point point) r' updates t kept kept' bare after told = absurd cc
raised_told (Heavy side) (Points points) r' updates t kept kept' bare after told = absurd cc
raised_told (Heavy side) (SplitRoot root) r' updates t kept kept' bare after told = absurd cc
raised_told (Heavy side) (AugRoot root) (Root root') updates t kept kept' bare after told = absurd cc
raised_told (Heavy side) (AugRoot root) (Point point) updates t kept kept' bare after told = absurd cc
raised_told (Heavy side) (AugRoot root) (Points points) updates t kept kept' bare after told = absurd cc
raised_told (Heavy side) (AugRoot root) (SplitRoot root') updates t kept kept' bare after told = absurd cc

-- ---- room for more

-- the total of a side is within its weight
pub total_within : (w : ℕ) (is_open : Bool) (x : ℕ) → IsValue (total_field w is_open) x → (most_weight ≤ x + w) × (x ≤ most_weight + w)
total_within w true x value = let (low, high) = ranged_from Long (most_weight - w) (most_weight + w) x value in (omega (arith, low), high)
total_within w false x value = let (low, high) = ranged_from Long (most_weight + w) (most_weight + w) x value in (omega (arith, low), high)

-- the second number of a seat for large entries is 0
pub bare_told : (t : Tally) (side : Side) (x : ℕ) → IsTold t (Above side) false x → x ≡ 0
bare_told t First x told = let bounds = ranged_from Long 0 0 x told in omega (arith, bounds.1)
bare_told t Second x told = let bounds = ranged_from Long 0 0 x told in omega (arith, bounds.1)

pub kept_room : (kind : SeatKind) (t : Tally) (first x : ℕ) (updates : List Update) → IsTold t kind false x
    → weight_told t (side_of kind) + weight updates (side_of kind) ≤ most_weight → HasRoom (numbers_kept kind first x) (of_side updates (side_of kind))
kept_room Entries t first x updates told light = record { sums = λ hash total is k few. absurd cc; weights = λ hash weight is. absurd cc }
kept_room (Sums side) t first x updates told light = record { sums = λ hash total is k few. absurd cc; weights = λ hash weight is. absurd cc }
kept_room Products t first x updates told light = record { sums = λ hash total is k few. absurd cc; weights = λ hash weight is. absurd cc }
kept_room (Above side) t first x updates told light = record {
  sums = λ hash total is k few. absurd cc;
  weights = λ hash weight is.
      let bare : weight ≡ 0 = sym (let same : x ≡ weight = cc in same) ∙ bare_told t side x told in
      omega (arith, weight_after_is (of_side updates (side_of (Above side))) weight, bare, light);
}
kept_room (Heavy side) t first x updates told light = record {
  sums = λ hash total is k few.
      let same : pos x -ℤ pos most_weight ≡ total = cc in
      let own = subst (λ (f : Field). IsValue f x) (heavy_field t side false) told in
      let w = weight_told t side in
      let within = total_within w (negative_told t side) x own in
      let start : nat_abs total ≤ w = subst (λ z. nat_abs z ≤ w) same (omega (arith, ints, within.0, within.1, light)) in
      omega (arith, light_after (of_side updates side) total w k start, light);
  weights = λ hash weight is. absurd cc;
}
