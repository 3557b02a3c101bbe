-- The vectors of legal streams, and of what can be shown: their entries fit frames.
use Rattle.std.proofs.Common.{ℕ, ◌+◌, ◌^◌, ◌<◌, ◌≤◌, ◌==◌, Bool, true, false, not, List, [], ◌∷◌, length, map, filter, ℤ, nat_abs, sum_by, All, inl, inr, sym, subst, arith}
use Rattle.std.proofs.Math.Nat.{pow-le-pow_right}
use Rattle.std.proofs.lemmas.Bool.{and_parts, cases_Bool}
use Rattle.std.proofs.lemmas.Int.{ints}
use Rattle.std.proofs.lemmas.List.Elements.{All-cons, All-nil, All-head, All-tail, All-map}
use Rattle.std.proofs.lemmas.List.Sums.{sum_by-cons}
use Rattle.sip_vector.proofs.Everywhere.{everywhere}
use Rattle.sip_field.specs.Moduli.{m61_modulus}
use Rattle.sip_vector.specs.declared.query.Query.TheVariants.{Sub}
use Rattle.sip_vector.specs.declared.update.Side.{Side}
use Rattle.sip_vector.specs.declared.update.Side.TheVariants.{First}
use Rattle.sip_vector.specs.declared.update.Update.{Update}
use Rattle.sip_vector.specs.Answers.{is_within, is_zero}
use Rattle.sip_vector.specs.Streams.{int_sum, same_side, of_side, weight, frequency, vector, IsLegal}
use Rattle.sip_vector.specs.Vectors.{is_nonzero_within, nonzero_within}
use Rattle.sip_vector.proofs.Filters.{as_entry}
use Rattle.sip_vector.proofs.Kept.{not_is_zero}
use Rattle.sip_vector.proofs.Sides.{length-vector}
use Rattle.std.specs.List.{range_with_len}
use Rattle.sip_wire.specs.declared.version.Version.{Version}
use Rattle.sip_wire.specs.declared.version.Version.TheVariants.{One, Two}
use Rattle.sip_wire.specs.Versions.{deepest, index_width, Speaks}
use Rattle.sip_wire.specs.Table.{most_claim}
use Rattle.sip_subvec.specs.Honest.{CanBeShown}
use Rattle.sip_subvec.specs.Replies.{most_entries}
use Rattle.sip_subvec.proofs.HonestEntries.{found, found-cons}
use Rattle.sip_subvec.proofs.HonestFrames.{IsRow}

-- ---- entries of small numbers

abbrev IsSmall : ℤ → Type 0
IsSmall a = nat_abs a ≤ most_claim

found_rows : (version : Version) (lo hi k : ℕ) (xs : List ℤ)
    → k + length xs ≤ 256 ^ index_width version → All IsSmall xs
    → All (IsRow version) (found lo hi k xs)
found_rows version lo hi k [] room small = All-nil (IsRow version)
found_rows version lo hi k (x ∷ xs) room small =
    let later = found_rows version lo hi (k + 1) xs (omega arith) (All-tail IsSmall x xs small) in
    elim (cases_Bool (is_nonzero_within lo hi (as_entry (k, x)))) [
      | inl t ↦
          let row : IsRow version (as_entry (k, x)) = record {
            index = omega arith;
            some = not_is_zero x (and_parts (is_within lo hi k) (not (is_zero x)) t).1;
            small = All-head IsSmall x xs small;
          } in
          subst (All (IsRow version)) (sym (found-cons lo hi k x xs true t)) (All-cons (IsRow version) (as_entry (k, x)) (found lo hi (k + 1) xs) row later)
      | inr t ↦ subst (All (IsRow version)) (sym (found-cons lo hi k x xs false t)) later
    ]

-- the indices of a vector that is not too deep have room in a frame
has_room_below : (version : Version) (depth : ℕ) → depth ≤ deepest version
    → 2 ^ depth ≤ 256 ^ index_width version
has_room_below One depth shallow =
    let powers : 2 ^ depth ≤ 2 ^ 32 = pow-le-pow_right {n = 2} (omega arith) shallow in
    omega arith
has_room_below Two depth shallow =
    let powers : 2 ^ depth ≤ 2 ^ 48 = pow-le-pow_right {n = 2} (omega arith) shallow in
    omega arith

pub shown_rows : (version : Version) (p depth lo hi : ℕ) (numbers : List ℤ) → CanBeShown version p depth lo hi numbers → All (IsRow version) (nonzero_within lo hi numbers)
shown_rows version p depth lo hi numbers shown =
    let powers = has_room_below version depth shown.speaks.shallow in
    found_rows version lo hi 0 numbers (omega (arith, shown.size)) shown.small

-- ---- numbers of streams

abbrev delta_size : Update → ℕ
delta_size u = nat_abs u.delta

sum_small : (us : List Update) → nat_abs (int_sum (map (λ (u : Update). u.delta) us)) ≤ sum_by delta_size us
sum_small [] = omega arith
sum_small (u ∷ us) = omega (arith, ints, sum_small us, sum_by-cons delta_size u us)

-- a part of a stream weighs no more
part_light : (p : Update → Bool) (s : List Update) (side : Side) → weight (filter p s) side ≤ weight s side
part_light p [] side = omega arith
part_light p (u ∷ s) side =
    let same = λ (x : Update). same_side x.side side in
    let rest = part_light p s side in
    let one = sum_by-cons delta_size u (filter same s) in
    let other = sum_by-cons delta_size u (filter same (filter p s)) in
    elim (cases_Bool (p u)) [
      | inl a ↦ elim (cases_Bool (same u)) [
        | inl b ↦ rw (a, b) (omega (arith, rest, one, other))
        | inr b ↦ rw (a, b) rest
      ]
      | inr a ↦ elim (cases_Bool (same u)) [
        | inl b ↦ rw (a, b) (omega (arith, rest, one))
        | inr b ↦ rw (a, b) rest
      ]
    ]

-- no entry is heavier than its side
pub frequency_light : (s : List Update) (side : Side) (item : ℕ) → nat_abs (frequency s side item) ≤ weight s side
frequency_light s side item =
    omega (arith, sum_small (of_side (filter (λ (u : Update). u.item == item) s) side), part_light (λ (u : Update). u.item == item) s side)

-- an interval of a legal stream's vector can be shown, where it does not have too many entries
pub legal_shown : (version : Version) (depth lo hi : ℕ) (stream : List Update) → IsLegal depth stream → 1 ≤ depth → Speaks version depth (Sub lo hi) → lo ≤ hi → hi < 2 ^ depth → length (nonzero_within lo hi (vector depth stream First)) ≤ most_entries
    → CanBeShown version m61_modulus depth lo hi (vector depth stream First)
legal_shown version depth lo hi stream legal levels speaks order within few = record {
  some = omega arith;
  elements = omega arith;
  levels = levels;
  speaks = speaks;
  size = length-vector depth stream First;
  order = order;
  within = within;
  small = All-map IsSmall (frequency stream First) (range_with_len 0 (2 ^ depth)) (everywhere (λ (i : ℕ). IsSmall (frequency stream First i)) (range_with_len 0 (2 ^ depth)) (λ i. omega (arith, frequency_light stream First i, legal.first)));
  few = few;
}
