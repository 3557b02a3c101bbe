-- The first so many used seats in the place of the part's.
use Rattle.std.proofs.Common.{◌≡◌, ℕ, zero, suc, ◌+◌, ◌<◌, ◌≤◌, Bool, true, false, cond, List, [], ◌∷◌, length, get_or, set, refl, sym, ap, ◌∙◌, arith}
use Rattle.sip_sketch.specs.Merging.{seats_in_place}
use Rattle.sip_sketch.specs.Sketches.{SeatValues}

-- the first so many are placed, and the others are as they were
abbrev pub placed_to : ℕ → List SeatValues → List SeatValues → List SeatValues
placed_to zero others seats = seats
placed_to (suc k) [] seats = seats
placed_to (suc k) (w ∷ others) [] = []
placed_to (suc k) (w ∷ others) (s ∷ seats) = cond w.is_used w s ∷ placed_to k others seats

-- those behind are left
abbrev pub AreLeft : ℕ → List SeatValues → List SeatValues → Type 0
AreLeft k was now = (i : ℕ) (d : SeatValues) → k ≤ i → get_or now i d ≡ get_or was i d

pub placed-old : (k : ℕ) (others seats : List SeatValues) (d : SeatValues) → get_or (placed_to k others seats) k d ≡ get_or seats k d
placed-old zero others seats d = refl
placed-old (suc k) [] seats d = refl
placed-old (suc k) (w ∷ others) [] d = refl
placed-old (suc k) (w ∷ others) (s ∷ seats) d = placed-old k others seats d

-- one more of them
placed-next : (k : ℕ) (others seats : List SeatValues) (d e : SeatValues) → k < length seats → k < length others
    → set (placed_to k others seats) k (cond (get_or others k e).is_used (get_or others k e) (get_or seats k d)) ≡ placed_to (suc k) others seats
placed-next k [] seats d e lt lt' = absurd (omega (arith, lt'))
placed-next k (w ∷ others) [] d e lt lt' = absurd (omega (arith, lt))
placed-next zero (w ∷ others) (s ∷ seats) d e lt lt' = refl
placed-next (suc k) (w ∷ others) (s ∷ seats) d e lt lt' =
    ap (λ l. cond w.is_used w s ∷ l) (placed-next k others seats d e (omega (arith, lt)) (omega (arith, lt')))

-- the next one is used, and put there
pub placed-used : (k : ℕ) (others seats : List SeatValues) (d e : SeatValues) → k < length seats → k < length others → (get_or others k e).is_used ≡ true
    → set (placed_to k others seats) k (get_or others k e) ≡ placed_to (k + 1) others seats
placed-used k others seats d e lt lt' used =
    ap (λ (b : Bool). set (placed_to k others seats) k (cond b (get_or others k e) (get_or seats k d))) (sym used)
    ∙ placed-next k others seats d e lt lt' ∙ ap (λ n. placed_to n others seats) (let next : suc k ≡ k + 1 = omega arith in next)

-- or it is not, and stays
pub placed-unused : (k : ℕ) (others seats : List SeatValues) (e : SeatValues) → k < length seats → k < length others → (get_or others k e).is_used ≡ false
    → placed_to k others seats ≡ placed_to (k + 1) others seats
placed-unused k others seats e lt lt' unused = same k others seats e lt lt' unused ∙ ap (λ n. placed_to n others seats) (let next : suc k ≡ k + 1 = omega arith in next)
  where
    kept : (w s : SeatValues) (b : Bool) → b ≡ false → s ≡ cond b w s
    kept w s true is = absurd cc
    kept w s false is = refl

    same : (k : ℕ) (others seats : List SeatValues) (e : SeatValues) → k < length seats → k < length others → (get_or others k e).is_used ≡ false
        → placed_to k others seats ≡ placed_to (suc k) others seats
    same k [] seats e lt lt' unused = absurd (omega (arith, lt'))
    same k (w ∷ others) [] e lt lt' unused = absurd (omega (arith, lt))
    same zero (w ∷ others) (s ∷ seats) e lt lt' unused = ap (λ x. x ∷ seats) (kept w s w.is_used unused)
    same (suc k) (w ∷ others) (s ∷ seats) e lt lt' unused = ap (λ l. cond w.is_used w s ∷ l) (same k others seats e (omega (arith, lt)) (omega (arith, lt')) unused)

-- in the end all are
pub placed-all : (k : ℕ) (others seats : List SeatValues) → length others ≡ length seats → length seats ≤ k → placed_to k others seats ≡ seats_in_place others seats
placed-all zero [] seats long le = refl
placed-all (suc k) [] seats long le = refl
placed-all k (w ∷ others) [] long le = absurd (omega (arith, long))
placed-all zero (w ∷ others) (s ∷ seats) long le = absurd (omega (arith, le))
placed-all (suc k) (w ∷ others) (s ∷ seats) long le = ap (λ l. cond w.is_used w s ∷ l) (placed-all k others seats (omega (arith, long)) (omega (arith, le)))
