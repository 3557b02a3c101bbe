-- Seats that are used in any order: the count is at most the sum of their bounds.
use Rattle.std.proofs.Common.{◌≡◌, ℕ, zero, suc, ◌+◌, ◌*◌, ◌-◌, ◌<◌, ◌≤◌, ◌^◌, Bool, true, false, All, List, [], ◌∷◌, ◌++◌, length, take, drop, replicate, map, Option, Some, None, refl, sym, ap, ◌∙◌, arith, pow-add}
use Rattle.std.proofs.Math.Nat.{pow-zero, pow-suc, mul-le-mul_right}
use Rattle.std.proofs.lemmas.List.{length-append, length-replicate, take_at, drop_at}
use Rattle.std.proofs.lemmas.List.Elements.{All-replicate, All-from_recursion, recursion_from_All}
use Rattle.std.proofs.lemmas.List.Sums.{sum_by-cons}
use Rattle.std.proofs.Math.Seq.{take-length}
use Rattle.std.proofs.lemmas.List.Folds.{list_any-from_Any}
use Rattle.std.specs.List.{AllByRecursion, Any}
use Rattle.sip_counts.specs.Strategies.{Strategy, IsOfBytes, all_there, is_wrong, replies, takes_wrong}
use Rattle.sip_counts.specs.Counts.{sum_below}
use Rattle.sip_counts.specs.Late.{Plan, Seat, Use, LedTo, HasTakenWrong, seat_of, seats_at, is_fooled, some_fooled, fooled_late, IsWithin, AreWithin, plan_bounds, unasked}
use Rattle.sip_counts.proofs.Talks.{front_strategy, replies-length, takes_wrong-at}
use Rattle.sip_counts.proofs.Vectors.{by_first, counted-by_first, by_first-none, by_first-or, by_first-others, by_first-back, by_first-grows, over, over-at_most}

-- ---- what happened

-- a use that has a wrong answer accepted fools its seat
fooled_by : (u : Use) (s : Seat) → LedTo u s → HasTakenWrong u s.block → is_fooled s ≡ true
fooled_by u s led took =
    let all : replies s.strategy s.block ≡ map Some u.taken =
    sym (ap (λ n. take n (replies s.strategy s.block))
    (took.all ∙ sym (replies-length s.strategy s.block))
    ∙ take-length (replies s.strategy s.block)) ∙ led.replies in
    rw led.question (takes_wrong-at u.question.accepts u.question.is_right s.strategy s.block
    u.taken all took.accepted took.wrong)

pub happened : (d : ℕ) (plans : List Plan) (v : List ℕ) (u : Use)
    → Any (λ s. LedTo u s × HasTakenWrong u s.block) (seats_at d plans [] v)
    → some_fooled d plans [] v ≡ true
unfolding some_fooled
happened d plans v u (k, s, less, is, both) =
    list_any-from_Any is_fooled (seats_at d plans [] v)
    (k, s, less, is, fooled_by u s both.0 both.1)

-- a plan whose question and replies depend on no other seat
pub plan_of_use : (u : Use) (block : List ℕ) → length u.taken ≤ length block
    → All (λ (reply : List ℕ). All (λ b. b < 256) reply) u.taken
    → (plan : Plan) × ((earlier later : List ℕ) → IsOfBytes (plan.strategy earlier later))
    × ((earlier later : List ℕ) → LedTo u (seat_of plan earlier block later))
plan_of_use u block few bytes =
    let talk = front_strategy block u.taken few bytes in (
      record {
        question = λ earlier later. u.question;
        strategy = λ earlier later. talk.0;
        bound = u.question.bound;
      },
      λ earlier later. talk.1,
      λ earlier later. record { question = refl; replies = talk.2 },
    )

-- ---- a seat that is not used

no_replies : (o : Option (List (List ℕ))) → is_wrong (λ all. false) (λ all. false) o ≡ false
no_replies None = refl
no_replies (Some all) = refl

pub never_fooled : (strategy : Strategy) (block : List ℕ)
    → takes_wrong unasked.accepts unasked.is_right strategy block ≡ false
unfolding takes_wrong
never_fooled strategy block = no_replies (all_there (replies strategy block))

-- ---- numbers

-- a seat before others: at most f * p^e vectors of its block of e + 1 challenges for each vector of
-- the others, which have n challenges
joint_step : (p e n f g a : ℕ) → (n ≡ 0 → g ≡ 0) → a ≤ p ^ n * (f * p ^ e)
    → a + p ^ suc e * (g * p ^ (n - 1)) ≤ (f + g) * p ^ (n + e)
joint_step p e zero f g a h le =
    let z : g ≡ 0 = h refl in
    let one : zero + e ≡ e = omega arith in
    rw (z, one) (let le2 = rw pow-zero at le in omega arith)
joint_step p e (suc m) f g a h le =
    let down : suc m - 1 ≡ m = omega arith in
    rw (down, pow-add) (let one = pow-suc p e in let two = pow-suc p m in
    rw (pow-suc p e, pow-suc p m) (let k = rw (pow-suc p m) at le in omega arith))

no_plans : (plans : List Plan) (e : ℕ) → length plans * suc e ≡ 0 → plan_bounds plans ≡ 0
no_plans [] e h = refl
no_plans (q ∷ plans) e h = absurd (omega arith)

-- ---- the bound

-- each seat is within its plan at each vector, behind these challenges
abbrev Within : ℕ → ℕ → List Plan → List ℕ → Type 0
Within p d plans earlier =
    (v : List ℕ) → length v ≡ length plans * d → AllByRecursion (λ x. x < p) v
    → AllByRecursion (IsWithin p d) (seats_at d plans earlier v)

both_below : (p : ℕ) (u w : List ℕ) → AllByRecursion (λ x. x < p) u
    → AllByRecursion (λ x. x < p) w → AllByRecursion (λ x. x < p) (u ++ w)
both_below p [] w a b = b
both_below p (x ∷ u) w a b = (a.0, both_below p u w a.1 b)

module _ (q e : ℕ) where
  -- the modulus and the depth
  abbrev p : ℕ
  p = suc q

  abbrev d : ℕ
  d = suc e

  -- what is known of the first plan's seat, and of those behind it
  parts : (plan : Plan) (plans : List Plan) (earlier : List ℕ) → Within p d (plan ∷ plans) earlier
      → (u w : List ℕ) → length u ≡ d → length w ≡ length plans * d
      → AllByRecursion (λ x. x < p) u → AllByRecursion (λ x. x < p) w
      → IsWithin p d (seat_of plan earlier u w)
      × AllByRecursion (IsWithin p d) (seats_at d plans (earlier ++ u) w)
  parts plan plans earlier h u w lu lw au aw =
      let all = h (u ++ w) (omega (arith, length-append u w)) (both_below p u w au aw) in
      rw (take_at u w d lu, drop_at u w d lu) at all

  -- some block
  abbrev zeros : List ℕ
  zeros = replicate d 0

  -- the first plan's seat is fooled at few of its blocks, whatever the others are
  few_here : (plan : Plan) (plans : List Plan) (earlier : List ℕ)
      → Within p d (plan ∷ plans) earlier
      → (w : List ℕ) → length w ≡ length plans * d → AllByRecursion (λ x. x < p) w
      → by_first p (λ u. is_fooled (seat_of plan earlier u w)) d ≤ plan.bound * p ^ e
  few_here plan plans earlier h w lw aw =
      let is = (parts plan plans earlier h zeros w (length-replicate d 0) lw
      (recursion_from_All (λ x. x < p) zeros
      (All-replicate (λ x. x < p) d 0 (omega arith))) aw).0 in
      let same : suc e - 1 ≡ e = omega arith in
      let few = rw (counted-by_first p (λ u. is_fooled (seat_of plan earlier u w)) d, same) at
      (is.few (plan.strategy earlier w) is.bytes) in
      let most = mul-le-mul_right (p ^ e) is.most in
      omega arith

  few_by_first : (plans : List Plan) (earlier : List ℕ) → Within p d plans earlier
      → by_first p (some_fooled d plans earlier) (length plans * d)
      ≤ plan_bounds plans * p ^ (length plans * d - 1)
  unfolding some_fooled
  few_by_first [] earlier h = omega (arith, by_first-none p (0 * d) (λ v. false) (λ v _. refl))
  few_by_first (plan ∷ plans) earlier h =
      let here : List ℕ → List ℕ → Bool = λ u w. is_fooled (seat_of plan earlier u w) in
      let later : List ℕ → List ℕ → Bool = λ u. some_fooled d plans (earlier ++ u) in
      let n : ℕ = length plans * d in
      let m : ℕ = plan_bounds plans * p ^ (n - 1) in
      let whole : suc (length plans) * d ≡ n + d = omega arith in
      let less : n + d - 1 ≡ n + e = omega arith in
      let total : plan_bounds (plan ∷ plans) ≡ plan.bound + plan_bounds plans =
      sum_by-cons (λ (x : Plan). x.bound) plan plans in
      let both = by_first-or p (λ v. here (take d v) (drop d v))
      (λ v. later (take d v) (drop d v)) (n + d) in
      let front = by_first-others p d n here in
      let few = over-at_most p (plan.bound * p ^ e) n (λ w. by_first p (λ u. here u w) d)
      (few_here plan plans earlier h) in
      let back = by_first-back p m (λ v. later (take d v) (drop d v)) d n
      (λ u lu au.
      let grows = by_first-grows p (λ v. later (take d (u ++ v)) (drop d (u ++ v))) (later u) n
      (λ v _ _ k. rw (take_at u v d lu, drop_at u v d lu) at k) in
      omega (
        arith,
        few_by_first plans (earlier ++ u)
            (λ w lw aw. (parts plan plans earlier h u w lu lw au aw).1),
      )) in
      let step = joint_step p e n plan.bound (plan_bounds plans)
      (over p (λ w. by_first p (λ u. here u w) d) n) (no_plans plans e) few in
      rw (whole, less, total) (omega arith)

-- there is no challenge below 0
none_at_zero : (n : ℕ) (t : List ℕ → Bool) → 0 < n → by_first 0 t n ≡ 0
unfolding by_first sum_below
none_at_zero zero t pos = absurd (omega arith)
none_at_zero (suc n) t pos = refl

pub few_fooled : (modulus depth : ℕ) (plans : List Plan) → 0 < depth
    → AreWithin modulus depth plans
    → fooled_late modulus depth plans
    ≤ plan_bounds plans * modulus ^ (length plans * depth - 1)
unfolding some_fooled
few_fooled n zero plans pos h = absurd (omega arith)
few_fooled zero (suc e) [] pos h =
    rw counted-by_first (omega (arith, by_first-none 0 (0 * suc e) (λ v. false) (λ v _. refl)))
few_fooled zero (suc e) (plan ∷ plans) pos h =
    rw counted-by_first (omega (
      arith,
      none_at_zero (suc (length plans) * suc e)
          (some_fooled (suc e) (plan ∷ plans) []) (omega arith),
    ))
few_fooled (suc q) (suc e) plans pos h =
    rw counted-by_first (few_by_first q e plans []
    (λ v len all. recursion_from_All (IsWithin (suc q) (suc e)) (seats_at (suc e) plans [] v)
    (h v len (All-from_recursion (λ x. x < suc q) v all))))
