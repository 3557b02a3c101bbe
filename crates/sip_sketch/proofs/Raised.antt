-- A seat before any update, and before and after more of them.
use Rattle.std.proofs.Common.{◌≡◌, ℕ, ◌-◌, ◌<◌, Bool, true, false, ℤ, pos, ◌+ℤ◌, nat_abs, List, [], ◌++◌, refl, sym, subst, arith}
use Rattle.std.specs.Prelude.{IsTrue}
use Rattle.sip_field.specs.Moduli.{m61_modulus}
use Rattle.sip_vector.specs.Streams.{most_weight, of_side, weight}
use Rattle.sip_vector.specs.Tallies.{tally}
use Rattle.sip_vector.specs.declared.update.Side.{Side}
use Rattle.sip_vector.specs.declared.update.Side.TheVariants.{First, Second}
use Rattle.sip_vector.specs.declared.update.Update.{Update}
use Rattle.sip_verifier.specs.QuerySeats.{RunsOn, keeps}
use Rattle.sip_verifier.specs.Running.{block_of, numbers_of}
use Rattle.sip_verifier.specs.declared.running.Running.{Running}
use Rattle.sip_verifier.specs.declared.running.Running.TheVariants.{Root, Point, Points, AugRoot, SplitRoot}
use Rattle.sip_sketch.specs.declared.cursor.Size.TheVariants.{Long}
use Rattle.sip_sketch.specs.declared.kind.SeatKind.{SeatKind}
use Rattle.sip_sketch.specs.declared.kind.SeatKind.TheVariants.{Above, Entries, Heavy, Products, Sums}
use Rattle.sip_sketch.specs.Seats.{IsUnweighed, beside, first_number, query_of, second_number, side_of}
use Rattle.sip_sketch.specs.Sketches.{SeatValues}
use Rattle.sip_sketch.specs.Standing.{SeatStands}
use Rattle.sip_sketch.specs.inside.Raising.{IsRaised, IsTotalAfter, StartsAt}
use Rattle.sip_sketch.proofs.Kept.{IsTold, first_below, is_second, kept_back, raised_told, used_told}
use Rattle.sip_sketch.proofs.Whole.{ranged_value}

-- what is seen of a seat that keeps these numbers
abbrev pub seen : SeatKind → Bool → Running → SeatValues
seen kind used r = record {
  kind = kind;
  is_used = used;
  block = block_of r;
  first = first_number (numbers_of r);
  second = second_number (numbers_of r);
}

abbrev pub Keeps : SeatKind → Running → Type 0
Keeps kind r = IsTrue (keeps (query_of kind) (numbers_of r)) × IsUnweighed (numbers_of r)

-- it keeps the numbers of a stream, beside the weight of its side
abbrev pub RunsBeside : ℕ → List Update → SeatKind → Running → Type 0
RunsBeside depth stream kind r = RunsOn depth stream (query_of kind) (block_of r) (beside (weight stream (side_of kind)) (numbers_of r))

-- what it keeps is that of a stream where its two numbers say so
pub stands_from : (kind : SeatKind) (used : Bool) (r : Running) (depth : ℕ) (stream : List Update) → Keeps kind r
    → RunsBeside depth stream kind r → SeatStands depth stream (seen kind used r)
stands_from kind used r depth stream kept runs =
    subst (λ n. RunsOn depth stream (query_of kind) (block_of r) (beside (weight stream (side_of kind)) n)) (sym (kept_back kind r kept.0)) runs

pub stands_to : (kind : SeatKind) (used : Bool) (r : Running) (depth : ℕ) (stream : List Update) → Keeps kind r
    → SeatStands depth stream (seen kind used r) → RunsBeside depth stream kind r
stands_to kind used r depth stream kept stands =
    subst (λ n. RunsOn depth stream (query_of kind) (block_of r) (beside (weight stream (side_of kind)) n)) (kept_back kind r kept.0) stands

pub raised_seen : (kind : SeatKind) (r r' : Running) (updates : List Update) → Keeps kind r → Keeps kind r' → block_of r' ≡ block_of r
    → IsTotalAfter (numbers_of r) (of_side updates (side_of kind)) (numbers_of r')
    → ((depth : ℕ) (stream : List Update) → RunsBeside depth stream kind r → RunsBeside depth (stream ++ updates) kind r')
    → IsRaised updates (seen kind false r) (seen kind false r')
raised_seen kind r r' updates kept kept' block after runs = record {
  kind = refl;
  is_used = refl;
  block = block;
  first = first_below r';
  second = λ t told. raised_told kind r r' updates t kept.0 kept'.0 kept'.1 after told;
  left = λ used. absurd cc;
  stands = λ depth stream unused stands.
      stands_from kind false r' depth (stream ++ updates) kept' (runs depth stream (stands_to kind false r depth stream kept stands));
}

pub used_seen : (kind : SeatKind) (r : Running) (updates : List Update) → Keeps kind r → IsRaised updates (seen kind true r) (seen kind true r)
used_seen kind r updates kept = record {
  kind = refl;
  is_used = refl;
  block = refl;
  first = first_below r;
  second = λ t told. used_told t (tally updates) kind (second_number (numbers_of r)) (is_second kind r kept.0 kept.1) told;
  left = λ used. refl;
  stands = λ depth stream unused stands. absurd cc;
}

-- ---- before any update

-- the second number of a seat that begins is a value
pub begun_told : (kind : SeatKind) (r : Running) → Keeps kind r → StartsAt (numbers_of r) → IsTold (tally []) kind false (second_number (numbers_of r))
begun_told Entries r kept starts =
    let is : second_number (numbers_of r) ≡ 0 = is_second Entries r kept.0 kept.1 in
    ranged_value Long 0 0 (second_number (numbers_of r)) (omega arith) (omega (arith, is)) (omega (arith, is))
begun_told (Sums First) r kept starts =
    let is : second_number (numbers_of r) ≡ 0 = is_second (Sums First) r kept.0 kept.1 in
    ranged_value Long 0 0 (second_number (numbers_of r)) (omega arith) (omega (arith, is)) (omega (arith, is))
begun_told (Sums Second) r kept starts =
    let is : second_number (numbers_of r) ≡ 0 = is_second (Sums Second) r kept.0 kept.1 in
    ranged_value Long 0 0 (second_number (numbers_of r)) (omega arith) (omega (arith, is)) (omega (arith, is))
begun_told Products r kept starts =
    let is : second_number (numbers_of r) < m61_modulus = is_second Products r kept.0 kept.1 in
    ranged_value Long 0 (m61_modulus - 1) (second_number (numbers_of r)) (omega arith) (omega (arith, is)) (omega (arith, is))
begun_told (Heavy side) (AugRoot root) kept starts = subst (λ (z : ℤ). IsTold (tally []) (Heavy side) false (nat_abs (z +ℤ pos most_weight))) (sym starts) (nothing side)
  where
    nothing : (side : Side) → IsTold (tally []) (Heavy side) false (nat_abs (pos 0 +ℤ pos most_weight))
    nothing First = ranged_value Long most_weight most_weight most_weight (omega arith) (omega arith) (omega arith)
    nothing Second = ranged_value Long most_weight most_weight most_weight (omega arith) (omega arith) (omega arith)
begun_told (Heavy side) (Root root) kept starts = absurd (let k = kept.0 in cc)
begun_told (Heavy side) (Point point) kept starts = absurd (let k = kept.0 in cc)
begun_told (Heavy side) (Points points) kept starts = absurd (let k = kept.0 in cc)
begun_told (Heavy side) (SplitRoot root) kept starts = absurd (let k = kept.0 in cc)
begun_told (Above First) r kept starts =
    let is : second_number (numbers_of r) ≡ 0 = is_second (Above First) r kept.0 kept.1 in
    ranged_value Long 0 0 (second_number (numbers_of r)) (omega arith) (omega (arith, is)) (omega (arith, is))
begun_told (Above Second) r kept starts =
    let is : second_number (numbers_of r) ≡ 0 = is_second (Above Second) r kept.0 kept.1 in
    ranged_value Long 0 0 (second_number (numbers_of r)) (omega arith) (omega (arith, is)) (omega (arith, is))
