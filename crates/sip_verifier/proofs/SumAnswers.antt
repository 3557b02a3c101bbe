-- The answer to a query for a sum is the sum of the products of its lists.
use Rattle.std.proofs.Common.{◌≡◌, ℕ, ◌+◌, ℤ, pos, ◌+ℤ◌, ◌*ℤ◌, List, [], ◌∷◌, length, map, filter, Some, inl, inr, refl, ap, ◌∙◌, arith, if◌then◌else◌}
use Rattle.std.specs.List.{enumerate_from, range_with_len, zip}
use Rattle.std.proofs.lemmas.Bool.{cases_Bool}
use Rattle.std.proofs.lemmas.Int.{ints}
use Rattle.sip_vector.specs.declared.query.Query.{Query}
use Rattle.sip_vector.specs.declared.query.Query.TheVariants.{Sub, Range, F2, Inner, Heavy, Share, Above}
use Rattle.sip_vector.specs.declared.update.Entry.{Entry}
use Rattle.sip_vector.specs.declared.update.Side.TheVariants.{First, Second}
use Rattle.sip_vector.specs.declared.update.Update.{Update}
use Rattle.sip_vector.specs.Answers.{answer, is_within, number}
use Rattle.sip_vector.specs.Extensions.{ones}
use Rattle.sip_vector.specs.Streams.{int_sum, vector}
use Rattle.sip_vector.proofs.Sides.{length-vector}
use Rattle.sip_sums.specs.AcceptsSum.{total}
use Rattle.sip_sums.specs.Questions.{Lists, lists, lists_of}

-- the squares are the products of the pairs of equal numbers
squares_paired : (numbers : List ℤ) → map (λ a. a *ℤ a) numbers ≡ map (λ (x : ℤ × ℤ). x.0 *ℤ x.1) (zip numbers numbers)
squares_paired [] = refl
squares_paired (a ∷ numbers) = ap (λ l. (a *ℤ a) ∷ l) (squares_paired numbers)

-- 1 or 0
abbrev mark : ℕ → ℕ → ℕ → ℤ
mark lo hi i = if is_within lo hi i then pos 1 else pos 0

abbrev entry : ℕ × ℤ → Entry
entry x = record { index = x.0; value = x.1 }

-- the sum of the entries within an interval is that of the products with 1 or 0, from any index on
marked_sum : (lo hi first : ℕ) (numbers : List ℤ)
    → int_sum (map (λ (e : Entry). e.value) (filter (λ (e : Entry). is_within lo hi e.index) (map entry (enumerate_from first numbers))))
    ≡ total numbers (map (mark lo hi) (range_with_len first (length numbers)))
marked_sum lo hi first [] = refl
marked_sum lo hi first (a ∷ numbers) =
    let rest = marked_sum lo hi (first + 1) numbers in
    elim (cases_Bool (is_within lo hi first)) [
      | inl within ↦ rw (within, rest) (ap (λ z. z +ℤ total numbers (map (mark lo hi) (range_with_len (first + 1) (length numbers)))) (let same : a ≡ a *ℤ pos 1 = omega (arith, ints) in same))
      | inr outside ↦ rw (outside, rest) (let none : total numbers (map (mark lo hi) (range_with_len (first + 1) (length numbers))) ≡ a *ℤ pos 0 +ℤ total numbers (map (mark lo hi) (range_with_len (first + 1) (length numbers))) = omega (arith, ints) in none)
    ]

pub sums_answer : (d : ℕ) (stream : List Update) (q : Query) (l : Lists) → lists_of d stream q ≡ Some l
    → answer d stream q ≡ number (total l.first l.second)
sums_answer d stream (Sub lo hi) l is = absurd cc
sums_answer d stream (Range side lo hi) l is =
    let own : l ≡ lists (vector d stream side) (ones d lo hi) = cc in
    rw own (ap number (marked_sum lo hi 0 (vector d stream side)
    ∙ ap (λ n. total (vector d stream side) (map (mark lo hi) (range_with_len 0 n))) (length-vector d stream side)))
sums_answer d stream (F2 side) l is =
    let own : l ≡ lists (vector d stream side) (vector d stream side) = cc in
    rw own (ap (λ m. number (int_sum m)) (squares_paired (vector d stream side)))
sums_answer d stream Inner l is =
    let own : l ≡ lists (vector d stream First) (vector d stream Second) = cc in
    rw own refl
sums_answer d stream (Heavy side least) l is = absurd cc
sums_answer d stream (Share side num den) l is = absurd cc
sums_answer d stream (Above side least) l is = absurd cc
