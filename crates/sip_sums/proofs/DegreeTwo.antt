-- A sum of products is checked by the rounds of a sum-check of degree 2, whose true polynomials are
-- those of the folded lists.
use Rattle.std.proofs.Common.{◌≡◌, ℕ, suc, ◌+◌, ◌*◌, ◌-◌, ◌%◌, ◌^◌, ◌<◌, eqb, ◌&&◌, List, [], ◌∷◌, ◌++◌, length, map, fold, All, ℤ, refl, ap, sym, ◌∙◌, arith}
use Rattle.std.proofs.Math.Nat.{pow-succ'}
use Rattle.std.proofs.lemmas.List.{length-map}
use Rattle.std.proofs.lemmas.List.Sums.{fold-append}
use Rattle.sip_field.specs.Residue.{residue}
use Rattle.sip_vector.specs.Extensions.{ext, line}
use Rattle.sip_mle.proofs.Folding.{residues_below, fold_is_ext}
use Rattle.sip_counts.specs.Rounds.{AreRounds, adds_up as rounds_add_up, sum_of_ends as ends_of_list}
use Rattle.sip_counts.specs.Strategies.{replies}
use Rattle.sip_counts.proofs.Talks.{replies-more}
use Rattle.sip_sums.specs.AcceptsSum.{Coefficients, adds_up, listed, product_at, sum_of_ends, value_at}
use Rattle.sip_sums.proofs.CubeLemma.{fold_level}
use Rattle.sip_sums.proofs.ResidueProducts.{dot}
use Rattle.sip_sums.proofs.RoundSums.{polynomial_of, value_is, ends_are}

ends-listed : (p : ℕ) (c : Coefficients) → ends_of_list p (listed c) ≡ sum_of_ends p c
ends-listed p c = ap (λ n. n % p) (let e : 2 * c.c0 + (0 + c.c1 + c.c2) ≡ 2 * c.c0 + c.c1 + c.c2 = omega arith in e)

pub adds_up-listed : (p product expected : ℕ) (cs : List Coefficients) (challenges : List ℕ)
    → adds_up p product expected cs challenges ≡ rounds_add_up p 2 product expected (map listed cs) challenges
unfolding adds_up rounds_add_up
adds_up-listed p product expected [] [] = refl
adds_up-listed p product expected [] (r ∷ rs) = refl
adds_up-listed p product expected (c ∷ cs) [] = refl
adds_up-listed p product expected (c ∷ cs) (r ∷ rs) =
    ap (λ n. eqb n expected && adds_up p product (value_at p c r) cs rs) (sym (ends-listed p c))
    ∙ ap (λ b. eqb (ends_of_list p (listed c)) expected && b) (adds_up-listed p product (value_at p c r) cs rs)

pub replies-listed : (polynomials : List ℕ → Coefficients) (r : List ℕ) → map listed (replies polynomials r) ≡ replies (λ v. listed (polynomials v)) r
replies-listed polynomials [] = refl
replies-listed polynomials (x ∷ r) =
    ap (map listed) (replies-more polynomials x r)
    ∙ ap (λ k. listed (polynomials []) ∷ k) (replies-listed (λ v. polynomials (x ∷ v)) r)
    ∙ sym (replies-more (λ v. listed (polynomials v)) x r)

-- ---- the true rounds

-- the list that challenges lead to
abbrev pub level : ℕ → List ℤ → List ℕ → List ℕ
level p numbers v = fold (line p) (map (residue p) numbers) v

abbrev pub rounds : ℕ → List ℤ → List ℤ → List ℕ → List ℕ
rounds p first second v = listed (polynomial_of p (level p first v) (level p second v))

abbrev pub sums : ℕ → List ℤ → List ℤ → List ℕ → ℕ
sums p first second v = dot (level p first v) (level p second v) % p

pub are_rounds : (p d : ℕ) (first second : List ℤ) → 1 < p → length first ≡ 2 ^ d → length second ≡ 2 ^ d → AreRounds p 2 d (rounds p first second) (sums p first second)
are_rounds p d first second above lx ly = record {
  few = λ v lt. omega arith;
  ends = λ v lt.
      let left : length v + suc (d - length v - 1) ≡ d = omega arith in
      let deep : 2 ^ d ≡ 2 ^ (length v + suc (d - length v - 1)) = ap (λ n. 2 ^ n) (sym left) in
      let one = fold_level p above v (map (residue p) first) (suc (d - length v - 1)) (length-map first (residue p) ∙ lx ∙ deep) (residues_below p first (omega arith)) in
      let two = fold_level p above v (map (residue p) second) (suc (d - length v - 1)) (length-map second (residue p) ∙ ly ∙ deep) (residues_below p second (omega arith)) in
      let half = pow-succ' 2 (d - length v - 1) in
      ends-listed p (polynomial_of p (level p first v) (level p second v))
      ∙ ends_are p (2 ^ (d - length v - 1)) (level p first v) (level p second v) (one.size ∙ half) (two.size ∙ half) one.below two.below;
  values = λ v x lt.
      value_is p x (level p first v) (level p second v)
      ∙ ap (λ l. dot l (line p (level p second v) x) % p) (sym (fold-append (line p) (map (residue p) first) v (x ∷ [])))
      ∙ ap (λ l. dot (level p first (v ++ x ∷ [])) l % p) (sym (fold-append (line p) (map (residue p) second) v (x ∷ [])));
}

-- the sum of the products of two lists of one entry
pub alone : (a b : ℕ) (xs ys : List ℕ) → xs ≡ a ∷ [] → ys ≡ b ∷ [] → a * b ≡ dot xs ys
alone a b xs ys e f =
    let one : a * b ≡ dot (a ∷ []) (b ∷ []) = omega arith in
    one ∙ ap (λ l. dot l (b ∷ [])) (sym e) ∙ ap (λ l. dot xs l) (sym f)

-- behind all of them the product of the extensions is left
pub last_sum : (p : ℕ) (first second : List ℤ) (v : List ℕ) → 0 < p → All (λ x. x < p) v → length first ≡ 2 ^ length v → length second ≡ 2 ^ length v
    → sums p first second v ≡ product_at p first second v
last_sum p first second v some below lx ly =
    sym (ap (λ n. n % p) (alone (ext p first v) (ext p second v) (level p first v) (level p second v) (fold_is_ext p first v some below lx) (fold_is_ext p second v some below ly)))
