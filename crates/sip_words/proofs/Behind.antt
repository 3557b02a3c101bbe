-- The words behind the one that asks a run to say how far it is.
use Rattle.std.proofs.Common.{◌≡◌, ◌↔◌, ℕ, List, [], ◌∷◌, None, Some, sym, ap, ◌∙◌}
use Rattle.std.specs.List.{slice_get}

-- the first word is this one exactly where the words begin with it
pub leads : (words : List (List ℕ)) (w p : List ℕ) → Some w ≡ slice_get words 0 → (w ≡ p) ↔ ((rest : List (List ℕ)) × (words ≡ p ∷ rest))
leads [] w p is = absurd (let h : Some w ≡ None = is in cc)
leads (x ∷ xs) w p is =
    let one : Some w ≡ Some x = is in
    let same : w ≡ x = cc in
    (λ e. (xs, ap (λ y. y ∷ xs) (sym same ∙ e)), λ (rest, e). let h : x ∷ xs ≡ p ∷ rest = e in let k : x ≡ p = cc in same ∙ k)

-- none is, where there are no words
pub leads_none : (words : List (List ℕ)) (p : List ℕ) → None ≡ slice_get words 0 → ((rest : List (List ℕ)) × (words ≡ p ∷ rest)) → ⊥
leads_none [] p is (rest, e) = let h : [] ≡ p ∷ rest = e in cc
leads_none (x ∷ xs) p is led = let h : None ≡ Some x = is in cc
