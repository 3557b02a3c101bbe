-- The polynomial of the round of the folded lists is the sum over all lists of bits.
use Rattle.std.proofs.Common.{◌≡◌, ℕ, zero, suc, ◌+◌, ◌*◌, ◌%◌, ◌^◌, ◌<◌, List, [], ◌∷◌, ◌++◌, length, get_or, map, fold, sum_by, All, ℤ, refl, sym, ◌∙◌, ap, arith}
use Rattle.std.proofs.Math.Nat.{mod-eq_of_lt, pow-succ'}
use Rattle.std.proofs.lemmas.List.{length-append, length-map}
use Rattle.std.proofs.lemmas.List.Elements.{All-cons, All-append}
use Rattle.std.proofs.lemmas.List.Sums.{fold-append, sum_by-append, sum_by-cons}
use Rattle.sip_field.specs.Residue.{residue, difference_mod}
use Rattle.sip_vector.specs.Extensions.{ext, line}
use Rattle.sip_mle.proofs.Folding.{length-line, line_at, line_below, residues_below, fold_is_ext}
use Rattle.sip_counts.specs.Counts.{sum_below}
use Rattle.sip_counts.proofs.Sums.{sum_below-front, sum_below-within}
use Rattle.sip_sums.specs.AcceptsSum.{Coefficients}
use Rattle.sip_sums.specs.Honest.{Proving, begun, learnt, proving, constant, linear, square, cube, over_cube, over_pairs, round_polynomial, its_polynomial}
use Rattle.sip_sums.proofs.RoundSums.{other_end}

abbrev pub Residues : ℕ → List ℕ → Type 0
Residues p = All (λ x. x < p)

-- ---- sums over the numbers below a bound

-- the even numbers, and the odd ones
sum_pairs : (m k : ℕ) (f : ℕ → ℕ) → k ≡ 2 * m → sum_below m (λ i. f (i * 2)) + sum_below m (λ i. f (i * 2 + 1)) ≡ sum_below k f
unfolding sum_below
sum_pairs zero zero f e = refl
sum_pairs zero (suc k) f e = absurd (omega arith)
sum_pairs (suc m) zero f e = absurd (omega arith)
sum_pairs (suc m) (suc zero) f e = absurd (omega arith)
sum_pairs (suc m) (suc (suc k)) f e =
    let even : f (m * 2) ≡ f k = ap f (omega arith) in
    let odd : f (m * 2 + 1) ≡ f (suc k) = ap f (omega arith) in
    omega (arith, sum_pairs m k f (omega arith))

-- ---- sums over pairs of neighbours

abbrev at : List ℕ → ℕ → ℕ
at xs i = get_or xs i 0

-- what `of` gives for the neighbours at an index of both lists
abbrev pair_at : (ℕ → ℕ → ℕ → ℕ → ℕ) → List ℕ → List ℕ → ℕ → ℕ
pair_at of xs ys i = of (at xs (i * 2)) (at xs (i * 2 + 1)) (at ys (i * 2)) (at ys (i * 2 + 1))

behind_pair : (u w : ℕ) (us : List ℕ) (i : ℕ) → (at (u ∷ w ∷ us) (suc i * 2) ≡ at us (i * 2)) × (at (u ∷ w ∷ us) (suc i * 2 + 1) ≡ at us (i * 2 + 1))
behind_pair u w us i =
    let left : suc i * 2 ≡ suc (suc (i * 2)) = omega arith in
    let right : suc i * 2 + 1 ≡ suc (suc (i * 2 + 1)) = omega arith in
    (ap (at (u ∷ w ∷ us)) left, ap (at (u ∷ w ∷ us)) right)

pairs_sum : (of : ℕ → ℕ → ℕ → ℕ → ℕ) (m : ℕ) (xs ys : List ℕ) → length xs ≡ 2 * m → length ys ≡ 2 * m → over_pairs of xs ys ≡ sum_below m (pair_at of xs ys)
unfolding sum_below
pairs_sum of zero [] ys e f = refl
pairs_sum of (suc m) [] ys e f = absurd (omega arith)
pairs_sum of m (u ∷ []) ys e f = absurd (omega arith)
pairs_sum of m (u ∷ w ∷ us) [] e f = absurd (omega arith)
pairs_sum of m (u ∷ w ∷ us) (x ∷ []) e f = absurd (omega arith)
pairs_sum of zero (u ∷ w ∷ us) (x ∷ y ∷ xs) e f = absurd (omega arith)
pairs_sum of (suc m) (u ∷ w ∷ us) (x ∷ y ∷ xs) e f =
    let rest = pairs_sum of m us xs (omega arith) (omega arith) in
    let shifted : sum_below m (λ i. pair_at of (u ∷ w ∷ us) (x ∷ y ∷ xs) (suc i)) ≡ sum_below m (pair_at of us xs) =
    sum_below-within m _ _ (λ i lt. let a = behind_pair u w us i in let b = behind_pair x y xs i in cc) in
    omega (arith, sum_below-front m (pair_at of (u ∷ w ∷ us) (x ∷ y ∷ xs)))

-- ---- folds by bits

module _ (p : ℕ) (above_one : 1 < p) where
  -- a list folded by 0 has the even entries, and by 1 the odd ones
  even_at : (xs : List ℕ) (i : ℕ) → Residues p xs → i * 2 + 1 < length xs → at (line p xs 0) i ≡ at xs (i * 2)
  even_at xs i below lt =
      let u : ℕ = at xs (i * 2) in
      let least : u < p = below (i * 2) 0 (omega arith) in
      let none : u + 0 * difference_mod p (at xs (i * 2 + 1)) u ≡ u = omega arith in
      line_at p 0 xs i lt ∙ ap (λ k. k % p) none ∙ mod-eq_of_lt least

  odd_at : (xs : List ℕ) (i : ℕ) → Residues p xs → i * 2 + 1 < length xs → at (line p xs 1) i ≡ at xs (i * 2 + 1)
  odd_at xs i below lt =
      let u : ℕ = at xs (i * 2) in
      let w : ℕ = at xs (i * 2 + 1) in
      let least : u < p = below (i * 2) 0 (omega arith) in
      let one : u + 1 * difference_mod p w u ≡ u + difference_mod p w u = omega arith in
      line_at p 1 xs i lt ∙ ap (λ k. k % p) one ∙ other_end p u w (omega arith) ∙ mod-eq_of_lt (below (i * 2 + 1) 0 lt)

  -- the entry that a list is folded to
  abbrev folded : List ℕ → List ℕ → ℕ
  folded level b = at (fold (line p) level b) 0

  -- what `of` gives for the entries at an index of four lists
  abbrev four_at : (ℕ → ℕ → ℕ → ℕ → ℕ) → List ℕ → List ℕ → List ℕ → List ℕ → ℕ → ℕ
  four_at of us ws xs ys i = of (at us i) (at ws i) (at xs i) (at ys i)

  map_sum : (f : List ℕ → ℕ) (c : ℕ) (bs : List (List ℕ)) → sum_by f (map (λ b. c ∷ b) bs) ≡ sum_by (λ b. f (c ∷ b)) bs
  map_sum f c [] = refl
  map_sum f c (b ∷ bs) = omega (arith, sum_by-cons f (c ∷ b) (map (λ k. c ∷ k) bs), sum_by-cons (λ k. f (c ∷ k)) b bs, map_sum f c bs)

  cube_sum : (n : ℕ) (f : List ℕ → ℕ) → sum_by f (cube (suc n)) ≡ sum_by (λ b. f (0 ∷ b)) (cube n) + sum_by (λ b. f (1 ∷ b)) (cube n)
  cube_sum n f = omega (arith, sum_by-append f (map (λ b. 0 ∷ b) (cube n)) (map (λ b. 1 ∷ b) (cube n)), map_sum f 0 (cube n), map_sum f 1 (cube n))

  -- a list of 2 ^ n residues
  pub record IsLevel (n : ℕ) (level : List ℕ) : Type 0 where
    pub size : length level ≡ 2 ^ n
    pub below : Residues p level

  level_above : (n r : ℕ) (level : List ℕ) → IsLevel (suc n) level → IsLevel n (line p level r)
  level_above n r level is = record {
    size = length-line p r level (2 ^ n) (is.size ∙ pow-succ' 2 n);
    below = line_below p r level (omega arith);
  }

  inside : (n i : ℕ) (level : List ℕ) → IsLevel (suc n) level → i < 2 ^ n → i * 2 + 1 < length level
  inside n i level is lt = let size = is.size ∙ pow-succ' 2 n in omega arith

  -- the sum over all lists of n bits is that over all entries
  cube_is : (of : ℕ → ℕ → ℕ → ℕ → ℕ) (n : ℕ) (f : List ℕ → ℕ) (us ws xs ys : List ℕ) → IsLevel n us → IsLevel n ws → IsLevel n xs → IsLevel n ys
      → ((b : List ℕ) → length b ≡ n → Residues p b → f b ≡ of (folded us b) (folded ws b) (folded xs b) (folded ys b))
      → sum_by f (cube n) ≡ sum_below (2 ^ n) (four_at of us ws xs ys)
  unfolding sum_below
  cube_is of zero f us ws xs ys a b c d each =
      omega (arith, sum_by-cons f [] [], each [] refl (λ k e lt. absurd (omega arith)))
  cube_is of (suc n) f us ws xs ys a b c d each =
      let F : ℕ → ℕ = four_at of us ws xs ys in
      let low = cube_is of n (λ k. f (0 ∷ k)) (line p us 0) (line p ws 0) (line p xs 0) (line p ys 0) (level_above n 0 us a) (level_above n 0 ws b) (level_above n 0 xs c) (level_above n 0 ys d)
      (λ k len below. each (0 ∷ k) (ap suc len) (All-cons (λ x. x < p) 0 k (omega arith) below)) in
      let high = cube_is of n (λ k. f (1 ∷ k)) (line p us 1) (line p ws 1) (line p xs 1) (line p ys 1) (level_above n 1 us a) (level_above n 1 ws b) (level_above n 1 xs c) (level_above n 1 ys d)
      (λ k len below. each (1 ∷ k) (ap suc len) (All-cons (λ x. x < p) 1 k above_one below)) in
      let even : sum_below (2 ^ n) (four_at of (line p us 0) (line p ws 0) (line p xs 0) (line p ys 0)) ≡ sum_below (2 ^ n) (λ i. F (i * 2)) =
      sum_below-within (2 ^ n) _ _ (λ i lt.
      let s = even_at us i a.below (inside n i us a lt) in let t = even_at ws i b.below (inside n i ws b lt) in
      let u = even_at xs i c.below (inside n i xs c lt) in let v = even_at ys i d.below (inside n i ys d lt) in cc) in
      let odd : sum_below (2 ^ n) (four_at of (line p us 1) (line p ws 1) (line p xs 1) (line p ys 1)) ≡ sum_below (2 ^ n) (λ i. F (i * 2 + 1)) =
      sum_below-within (2 ^ n) _ _ (λ i lt.
      let s = odd_at us i a.below (inside n i us a lt) in let t = odd_at ws i b.below (inside n i ws b lt) in
      let u = odd_at xs i c.below (inside n i xs c lt) in let v = odd_at ys i d.below (inside n i ys d lt) in cc) in
      let whole = sum_pairs (2 ^ n) (2 ^ suc n) F (pow-succ' 2 n) in
      omega (arith, cube_sum n f)

  -- ---- the extensions of the folded lists

  -- a list is halved by each challenge, and stays a list of residues
  pub fold_level : (rs level : List ℕ) (k : ℕ) → length level ≡ 2 ^ (length rs + k) → Residues p level → IsLevel k (fold (line p) level rs)
  fold_level [] level k size below = record { size = size ∙ ap (λ n. 2 ^ n) (let e : 0 + k ≡ k = omega arith in e); below = below }
  fold_level (r ∷ rs) level k size below =
      let more : length (r ∷ rs) + k ≡ suc (length rs + k) = omega arith in
      let twice : length level ≡ 2 * 2 ^ (length rs + k) = size ∙ ap (λ n. 2 ^ n) more ∙ pow-succ' 2 (length rs + k) in
      fold_level rs (line p level r) k (length-line p r level (2 ^ (length rs + k)) twice) (line_below p r level (omega arith))

  module _ (numbers : List ℤ) (revealed : List ℕ) (n : ℕ) (rs : Residues p revealed) (size : length numbers ≡ 2 ^ (length revealed + suc n)) where
    -- the list that the challenges so far lead to
    abbrev pub now : List ℕ
    now = fold (line p) (map (residue p) numbers) revealed

    pub now_level : IsLevel (suc n) now
    now_level = fold_level revealed (map (residue p) numbers) (suc n) (length-map numbers (residue p) ∙ size) (residues_below p numbers (omega arith))

    ext_is : (c : ℕ) (b : List ℕ) → c < p → length b ≡ n → Residues p b → ext p numbers (revealed ++ c ∷ b) ≡ folded (line p now c) b
    ext_is c b least len below =
        let long : length (revealed ++ c ∷ b) ≡ length revealed + suc n = omega (arith, length-append revealed (c ∷ b)) in
        let all : Residues p (revealed ++ c ∷ b) = All-append (λ x. x < p) revealed (c ∷ b) rs (All-cons (λ x. x < p) c b least below) in
        let one = fold_is_ext p numbers (revealed ++ c ∷ b) (omega arith) all (size ∙ ap (λ k. 2 ^ k) (sym long)) in
        ap (λ l. at l 0) (sym one) ∙ ap (λ l. at l 0) (fold-append (line p) (map (residue p) numbers) revealed (c ∷ b))

  module _ (first second : List ℤ) (revealed : List ℕ) (n : ℕ) (rs : Residues p revealed) (one : length first ≡ 2 ^ (length revealed + suc n)) (two : length second ≡ 2 ^ (length revealed + suc n)) where
    abbrev xs : List ℕ
    xs = now first revealed n rs one

    abbrev ys : List ℕ
    ys = now second revealed n rs two

    pub over_cube_is : (of : ℕ → ℕ → ℕ → ℕ → ℕ) → over_cube p of first second revealed n ≡ over_pairs of xs ys
    over_cube_is of =
        let a = now_level first revealed n rs one in
        let b = now_level second revealed n rs two in
        let long : length xs ≡ 2 * 2 ^ n = a.size ∙ pow-succ' 2 n in
        let also : length ys ≡ 2 * 2 ^ n = b.size ∙ pow-succ' 2 n in
        cube_is of n _ (line p xs 0) (line p xs 1) (line p ys 0) (line p ys 1) (level_above n 0 xs a) (level_above n 1 xs a) (level_above n 0 ys b) (level_above n 1 ys b)
        (λ k len below.
        let s = ext_is first revealed n rs one 0 k (omega arith) len below in let t = ext_is first revealed n rs one 1 k above_one len below in
        let u = ext_is second revealed n rs two 0 k (omega arith) len below in let v = ext_is second revealed n rs two 1 k above_one len below in cc)
        ∙ sum_below-within (2 ^ n) _ _ (λ i lt.
        let s = even_at xs i a.below (inside n i xs a lt) in let t = odd_at xs i a.below (inside n i xs a lt) in
        let u = even_at ys i b.below (inside n i ys b lt) in let v = odd_at ys i b.below (inside n i ys b lt) in cc)
        ∙ sym (pairs_sum of (2 ^ n) xs ys long also)

-- ---- what a prover knows

-- both lists, folded by the challenges
pub proving_lists : (p : ℕ) (s : Proving) (rs : List ℕ) → ((fold (learnt p) s rs).first ≡ fold (line p) s.first rs) × ((fold (learnt p) s rs).second ≡ fold (line p) s.second rs)
proving_lists p s [] = (refl, refl)
proving_lists p s (r ∷ rs) = proving_lists p (learnt p s r) rs

-- the polynomial of the round of a prover is the one over the cube
pub cube_lemma : (p : ℕ) (first second : List ℤ) (revealed : List ℕ) (n : ℕ) → 1 < p → Residues p revealed → length first ≡ 2 ^ (length revealed + suc n) → length second ≡ 2 ^ (length revealed + suc n)
    → its_polynomial p (proving p first second revealed) ≡ round_polynomial p first second revealed n
cube_lemma p first second revealed n above rs one two =
    let lists = proving_lists p (begun p first second) revealed in
    let is = over_cube_is p above first second revealed n rs one two in
    let each : (of : ℕ → ℕ → ℕ → ℕ → ℕ) → over_pairs of (proving p first second revealed).first (proving p first second revealed).second ≡ over_cube p of first second revealed n =
    λ of. ap (λ l. over_pairs of l (proving p first second revealed).second) lists.0
    ∙ ap (λ l. over_pairs of (fold (line p) (map (residue p) first) revealed) l) lists.1 ∙ sym (is of) in
    same_polynomial _ _ _ _ _ _ (ap (λ k. k % p) (each (constant p))) (ap (λ k. k % p) (each (linear p))) (ap (λ k. k % p) (each (square p)))
  where
    same_polynomial : (a b c d e f : ℕ) → a ≡ d → b ≡ e → c ≡ f → ◌≡◌ {A = Coefficients} (record { c0 = a; c1 = b; c2 = c }) (record { c0 = d; c1 = e; c2 = f })
    same_polynomial a b c d e f g h k = rw (g, h, k) refl
