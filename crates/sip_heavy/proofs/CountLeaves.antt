-- Where no number is negative, leaves that count the numbers stand for them.
use Rattle.std.proofs.Common.{◌≡◌, ℕ, ◌%◌, ◌<◌, ◌^◌, eqb, ℤ, pos, negsuc, ◌≤ℤ◌, nat_abs, List, [], ◌∷◌, length, map, refl, ap, ◌∙◌, arith}
use Rattle.std.specs.List.{All, AllByRecursion}
use Rattle.std.proofs.lemmas.Int.{ints}
use Rattle.std.proofs.lemmas.Bool.{and_parts, eqb-true}
use Rattle.std.proofs.lemmas.List.{length-map}
use Rattle.std.proofs.lemmas.List.Elements.{recursion_from_All}
use Rattle.sip_vector.specs.Streams.{int_sum}
use Rattle.sip_vector.specs.Trees.{Counted, leaf}
use Rattle.sip_heavy.specs.declared.form.LeafForm.TheVariants as forms
use Rattle.sip_heavy.specs.Counting.{LeavesStand}
use Rattle.sip_heavy.specs.Protocol.{count_of}
use Rattle.sip_heavy.proofs.TrueLevels.{count_is_sum, sum_of, sum_of_counts}

abbrev pub count_leaves : ℕ → List ℤ → List Counted
count_leaves p numbers = map (leaf p) numbers

stand_for : (p : ℕ) (numbers : List ℤ) → AllByRecursion (λ a. pos 0 ≤ℤ a) numbers → LeavesStand p forms.Count (count_leaves p numbers) numbers
stand_for p [] strict = tt
stand_for p (negsuc k ∷ numbers) strict = absurd (omega (arith, ints, strict.0))
stand_for p (pos k ∷ numbers) strict = (
  record {
    counts = (k, refl);
    within = omega (arith, ints);
    reads = λ x right. ap (λ n. pos n) (eqb-true x.count k (and_parts (eqb (x.hash % p) (k % p % p)) (eqb x.count k) right).1);
  },
  stand_for p numbers strict.1,
)

pub counts_stand : (p : ℕ) (numbers : List ℤ) → All (λ a. pos 0 ≤ℤ a) numbers → LeavesStand p forms.Count (count_leaves p numbers) numbers
counts_stand p numbers strict = stand_for p numbers (recursion_from_All (λ a. pos 0 ≤ℤ a) numbers strict)

pub long_counts : (p d : ℕ) (numbers : List ℤ) → length numbers ≡ 2 ^ d → length (count_leaves p numbers) ≡ 2 ^ d
long_counts p d numbers long = length-map numbers (leaf p) ∙ long

pub counts_sum : (p : ℕ) (numbers : List ℤ) → sum_of (count_leaves p numbers) ≡ count_of (int_sum numbers)
counts_sum = sum_of_counts

pub counts_few : (p : ℕ) (numbers : List ℤ) → All (λ a. pos 0 ≤ℤ a) numbers → nat_abs (int_sum numbers) < p → count_of (int_sum numbers) < p
counts_few p numbers strict few = omega (arith, few, count_is_sum numbers strict)
