-- One step of Horner's rule.
use Rattle.std.proofs.Common.{◌≡◌, ℕ, ◌+◌, ◌*◌, ◌^◌, ◌%◌, ap, sym, ◌∙◌, arith, add-one, List, [], ◌∷◌, ◌++◌, length, drop, append_assoc}
use Rattle.std.proofs.Math.Nat.{mod-add-mod, pow-zero, pow-succ'}
use Rattle.std.proofs.Math.Seq.{drop-append_seam}
use Rattle.std.proofs.lemmas.Nat.{mul-mod_first}
use Rattle.sip_field.specs.Residue.{sum_mod, product_mod}
use Rattle.sip_field.specs.Polynomial.{powers_from, polynomial}

-- a power more in each term is a factor
powers_from_shift : (k x : ℕ) (cs : List ℕ) → powers_from (k + 1) x cs ≡ x * powers_from k x cs
powers_from_shift k x [] = omega arith
powers_from_shift k x (c ∷ cs) =
    let e : x ^ (k + 1) ≡ x * x ^ k = rw add-one (pow-succ' x k) in
    omega (arith, powers_from_shift (k + 1) x cs, ap (λ n. c * n) e)

-- one coefficient more, at the front
polynomial_more : (x c : ℕ) (cs : List ℕ) → polynomial x (c ∷ cs) ≡ c + x * polynomial x cs
polynomial_more x c cs = omega (arith, powers_from_shift 0 x cs, ap (λ n. c * n) (pow-zero x))

-- the same modulo p
pub horner_step : (p x c v : ℕ) (cs : List ℕ) → v ≡ polynomial x cs % p →
    sum_mod p (product_mod p v x) c ≡ polynomial x (c ∷ cs) % p
horner_step p x c v cs e =
    rw e (simp (mul-mod_first, mod-add-mod) (ap (λ n. n % p) (let step : polynomial x cs * x + c ≡ polynomial x (c ∷ cs) = omega (arith, polynomial_more x c cs) in step)))

-- what follows the lower part of a list once its last element is taken away
pub drop_shorter : {A : Type 0} (lower : List A) (c : A) (all : List A) →
    (lower ++ c ∷ []) ++ drop (length (lower ++ c ∷ [])) all ≡ all →
    drop (length lower) all ≡ c ∷ drop (length (lower ++ c ∷ [])) all
drop_shorter lower c all whole =
    ap (drop (length lower)) (sym whole ∙ append_assoc lower (c ∷ []) _) ∙ drop-append_seam lower _
