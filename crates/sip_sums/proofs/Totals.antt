-- Which sum each query is for.
use Rattle.std.proofs.Common.{◌≡◌, ℕ, ◌+◌, ◌≤◌, cond, List, [], ◌∷◌, length, map, filter, ℤ, pos, ◌+ℤ◌, ◌*ℤ◌, nat_abs, Some, refl, ap, ◌∙◌, inl, inr, arith}
use Rattle.std.specs.List.{enumerate_from, range_with_len}
use Rattle.std.proofs.lemmas.Bool.{cases_Bool}
use Rattle.std.proofs.lemmas.Option.{same_Some}
use Rattle.std.proofs.lemmas.Int.{ints}
use Rattle.sip_vector.specs.Answers.{answer, number, is_within}
use Rattle.sip_vector.specs.Streams.{int_sum, vector, IsLegal}
use Rattle.sip_vector.specs.declared.query.Query.{Query}
use Rattle.sip_vector.specs.declared.query.Query.TheVariants.{Sub, Range, F2, Inner, Heavy, Share, Above}
use Rattle.sip_vector.specs.declared.update.Entry.{Entry}
use Rattle.sip_vector.specs.declared.update.Update.{Update}
use Rattle.sip_vector.proofs.Filters.{as_entry}
use Rattle.sip_vector.proofs.Sides.{length-vector}
use Rattle.sip_wire.specs.Table.{most_claim}
use Rattle.sip_sums.specs.AcceptsSum.{total}
use Rattle.sip_sums.proofs.LegalTotals.{legal_small}
use Rattle.sip_sums.specs.Questions.{Lists, lists_of}

squares-are : (xs : List ℤ) → int_sum (map (λ a. a *ℤ a) xs) ≡ total xs xs
squares-are [] = refl
squares-are (x ∷ xs) = ap (λ z. x *ℤ x +ℤ z) (squares-are xs)

-- the entries of a range, whose first index is i
abbrev in_range : ℕ → ℕ → ℕ → List ℤ → List Entry
in_range lo hi i xs = filter (λ e. is_within lo hi e.index) (map as_entry (enumerate_from i xs))

abbrev ones_from : ℕ → ℕ → ℕ → ℕ → List ℤ
ones_from lo hi i n = map (λ j. cond (is_within lo hi j) (pos 1) (pos 0)) (range_with_len i n)

times_one : (x rest : ℤ) → x +ℤ rest ≡ x *ℤ pos 1 +ℤ rest
times_one x rest = omega (arith, ints)

times_zero : (x rest : ℤ) → rest ≡ x *ℤ pos 0 +ℤ rest
times_zero x rest = omega (arith, ints)

range-is : (lo hi i : ℕ) (xs : List ℤ) → int_sum (map (λ (e : Entry). e.value) (in_range lo hi i xs)) ≡ total xs (ones_from lo hi i (length xs))
range-is lo hi i [] = refl
range-is lo hi i (x ∷ xs) = elim (cases_Bool (is_within lo hi i)) [
  | inl t ↦ rw t (ap (λ z. x +ℤ z) (range-is lo hi (i + 1) xs) ∙ times_one x (total xs (ones_from lo hi (i + 1) (length xs))))
  | inr t ↦ rw t (range-is lo hi (i + 1) xs ∙ times_zero x (total xs (ones_from lo hi (i + 1) (length xs))))
]

pub answer-is : (depth : ℕ) (stream : List Update) (query : Query) (l : Lists) → lists_of depth stream query ≡ Some l → answer depth stream query ≡ number (total l.first l.second)
answer-is depth stream (F2 side) l e =
    ap number (squares-are (vector depth stream side)) ∙ ap (λ (m : Lists). number (total m.first m.second)) (same_Some _ l e)
answer-is depth stream Inner l e = ap (λ (m : Lists). number (total m.first m.second)) (same_Some _ l e)
answer-is depth stream (Range side lo hi) l e =
    ap number (range-is lo hi 0 (vector depth stream side) ∙ ap (λ n. total (vector depth stream side) (ones_from lo hi 0 n)) (length-vector depth stream side))
    ∙ ap (λ (m : Lists). number (total m.first m.second)) (same_Some _ l e)
answer-is depth stream (Sub lo hi) l e = cc
answer-is depth stream (Heavy side at_least) l e = cc
answer-is depth stream (Share side num den) l e = cc
answer-is depth stream (Above side at_least) l e = cc

-- that sum over a legal stream fits a frame
pub claim-fits : (depth : ℕ) (stream : List Update) (query : Query) (l : Lists) → IsLegal depth stream → lists_of depth stream query ≡ Some l → nat_abs (total l.first l.second) ≤ most_claim
claim-fits depth stream query l legal is = (legal_small depth stream query l legal is).fits
