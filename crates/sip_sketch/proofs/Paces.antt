-- Multiples up to a number of records, and to one after it.
use Rattle.std.proofs.Common.{◌≡◌, ℕ, ◌+◌, ◌-◌, ◌*◌, ◌/◌, ◌<◌, ◌≤◌, true, false, List, [], ◌∷◌, ◌++◌, None, Some, refl, sym, ap, ◌∙◌, arith, append-nil, map}
use Rattle.std.specs.Prelude.{IfSome}
use Rattle.std.specs.List.{range_with_len}
use Rattle.std.specs.declared.option.Option.{Option}
use Rattle.std.proofs.lemmas.List.FromFn.{map-range_with_len_more}
use Rattle.std.proofs.lemmas.Nat.{div-mul-add}
use Rattle.sip_sketch.specs.Watching.{multiples}
use Rattle.sip_sketch.specs.inside.Pacing.{IsPace, IsUntil, Paces}
use Rattle.sip_sketch.specs.declared.pace.Pace.{Pace}

-- so many times goes the one into the other
times_in : (every until count times : ℕ) → 1 ≤ until → until ≤ every → count + until ≡ (times + 1) * every → count / every ≡ times
times_in every until count times some most is =
    let split : count ≡ times * every + (every - until) = omega (arith, is) in
    ap (λ n. n / every) split ∙ div-mul-add times every (every - until) (omega (arith, some, most))

abbrev up_to : ℕ → ℕ → List ℕ
up_to every times = map (λ k. (k + 1) * every) (range_with_len 0 times)

-- before the next one there are no more
pub fewer_same : (every : Option ℕ) (until : Option ℕ) (count more : ℕ) → IsUntil every until count → IfSome until (λ n. more < n) → multiples every (count + more) ≡ multiples every count
fewer_same None until count more is few = refl
fewer_same (Some every) None count more is few = absurd is
fewer_same (Some every) (Some until) count more (times, some, most, is) few =
    let one = times_in every until count times some most is in
    let other = times_in every (until - more) (count + more) times (omega (arith, few)) (omega (arith, most)) (omega (arith, is, few)) in
    ap (up_to every) (other ∙ sym one)

-- and fewer are to come
fewer_until : (every until count more times : ℕ) → more < until → until ≤ every → count + until ≡ (times + 1) * every → IsUntil (Some every) (Some (until - more)) (count + more)
fewer_until every until count more times few most is = (times, omega (arith, few), omega (arith, most), omega (arith, is, few))

-- at the next one there is one more
reached : (every until count times : ℕ) → 1 ≤ until → until ≤ every → count + until ≡ (times + 1) * every
    → (multiples (Some every) (count + until) ≡ multiples (Some every) count ++ (count + until) ∷ []) × IsUntil (Some every) (Some every) (count + until)
reached every until count times some most is =
    let one = times_in every until count times some most is in
    let next : (count + until) + every ≡ (times + 1 + 1) * every = omega (arith, is) in
    let other = times_in every every (count + until) (times + 1) (omega (arith, some, most)) (omega arith) next in
    let grown : up_to every (times + 1) ≡ up_to every times ++ (times + 1) * every ∷ [] = map-range_with_len_more (λ k. (k + 1) * every) 0 times times (omega arith) in (
      ap (up_to every) other ∙ grown ∙ ap (λ (l : List ℕ). l ++ (times + 1) * every ∷ []) (ap (up_to every) (sym one)) ∙ ap (λ n. multiples (Some every) count ++ n ∷ []) (sym is),
      (times + 1, omega (arith, some, most), omega arith, next),
    )

pub paces_none : (p : Pace) (before count : ℕ) → p.until ≡ None → IsPace p before → Paces p p before (before + count) false
paces_none p before count none pace = record {
  every = refl;
  pace = without p.every p.until before (before + count) none pace;
  due = same p.every p.until before (before + count) none pace ∙ sym (append-nil (multiples p.every before));
} where
  without : (every until : Option ℕ) (n m : ℕ) → until ≡ None → IsUntil every until n → IsUntil every until m
  without None None n m none is = tt
  without None (Some until) n m none is = absurd is
  without (Some every) None n m none is = absurd is
  without (Some every) (Some until) n m none is = absurd cc

  same : (every until : Option ℕ) (n m : ℕ) → until ≡ None → IsUntil every until n → multiples every m ≡ multiples every n
  same None until n m none is = refl
  same (Some every) None n m none is = absurd is
  same (Some every) (Some until) n m none is = absurd cc

-- with fewer records than there are until the next multiple
pub paces_fewer : (every : Option ℕ) (until before count : ℕ) → count < until → IsUntil every (Some until) before
    → Paces (record { every = every; until = Some until }) (record { every = every; until = Some (until - count) }) before (before + count) false
paces_fewer None until before count few is = absurd is
paces_fewer (Some every) until before count few (times, some, most, is) = record {
  every = refl;
  pace = fewer_until every until before count times few most is;
  due = fewer_same (Some every) (Some until) before count (times, some, most, is) few ∙ sym (append-nil (multiples (Some every) before));
}

-- with as many
pub paces_all : (every : Option ℕ) (until before count : ℕ) → count ≡ until → IsUntil every (Some until) before
    → Paces (record { every = every; until = Some until }) (record { every = every; until = every }) before (before + count) true
paces_all None until before count all is = absurd is
paces_all (Some every) until before count all (times, some, most, is) =
    let r = reached every until before times some most is in
    let same : before + until ≡ before + count = ap (λ n. before + n) (sym all) in
    record {
      every = refl;
      pace = rw same at r.1;
      due = rw same at r.0;
    }
