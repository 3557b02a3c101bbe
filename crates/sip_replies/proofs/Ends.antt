-- Lists by their last element.
use Rattle.std.proofs.Common.{◌≡◌, List, [], ◌∷◌, ◌++◌, length, refl, ap, arith, length-append}

-- a list that has an element has a last one
pub last_of : {A : Type 0} (c : A) (cs : List A) → (init : List A) × (last : A) × (c ∷ cs ≡ init ++ last ∷ [])
last_of c [] = ([], c, refl)
last_of c (d ∷ cs) = let rest = last_of d cs in (c ∷ rest.0, rest.1, ap (λ l. c ∷ l) rest.2)

-- it is the only one, and so is what stands before it
pub snoc_same : {A : Type 0} (a b : List A) (x y : A) → a ++ x ∷ [] ≡ b ++ y ∷ [] → (a ≡ b) × (x ≡ y)
snoc_same [] [] x y e = (refl, cc)
snoc_same [] (b ∷ ys) x y e = absurd (omega (arith, ap length e, length-append ys (y ∷ [])))
snoc_same (a ∷ xs) [] x y e = absurd (omega (arith, ap length e, length-append xs (x ∷ [])))
snoc_same (a ∷ xs) (b ∷ ys) x y e =
    let tails : xs ++ x ∷ [] ≡ ys ++ y ∷ [] = cc in
    let same = snoc_same xs ys x y tails in
    let heads : a ≡ b = cc in
    (rw (heads, same.0) refl, same.1)

-- no elements have no last one
pub no_snoc : {A : Type 0} (a : List A) (x : A) → [] ≡ a ++ x ∷ [] → ⊥
no_snoc a x e = omega (arith, ap length e, length-append a (x ∷ []))
