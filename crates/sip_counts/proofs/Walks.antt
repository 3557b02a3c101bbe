-- What a function gives at each front of a list of challenges, one after another.
use Rattle.std.proofs.Common.{◌≡◌, ℕ, ◌+◌, List, [], ◌∷◌, ◌++◌, length, take, append-nil, map, refl, sym, ap, ◌∙◌, arith}
use Rattle.std.specs.List.{range_with_len}
use Rattle.std.proofs.lemmas.List.{append_assoc, length-append, take_at}

-- g of each front of front ++ challenges that has front
unfoldable pub walk : {X : Type 0} → (List ℕ → X) → List ℕ → List ℕ → List X
walk g front [] = []
walk g front (r ∷ challenges) = g front ∷ walk g (front ++ r ∷ []) challenges

-- it is what g gives at all fronts from that one on
pub fronts_walk : {X : Type 0} (g : List ℕ → X) (front challenges : List ℕ) → map (λ j. g (take j (front ++ challenges))) (range_with_len (length front) (length challenges)) ≡ walk g front challenges
unfolding walk
fronts_walk g front [] = refl
fronts_walk g front (r ∷ challenges) =
    let here : take (length front) (front ++ r ∷ challenges) ≡ front = take_at front (r ∷ challenges) (length front) refl in
    let same : (front ++ r ∷ []) ++ challenges ≡ front ++ r ∷ challenges = append_assoc front (r ∷ []) challenges in
    let longer : length front + 1 ≡ length (front ++ r ∷ []) = omega (arith, length-append front (r ∷ [])) in
    ap (λ x. g x ∷ map (λ j. g (take j (front ++ r ∷ challenges))) (range_with_len (length front + 1) (length challenges))) here
    ∙ ap (λ xs. g front ∷ map (λ j. g (take j xs)) (range_with_len (length front + 1) (length challenges))) (sym same)
    ∙ ap (λ k. g front ∷ map (λ j. g (take j ((front ++ r ∷ []) ++ challenges))) (range_with_len k (length challenges))) longer
    ∙ ap (λ xs. g front ∷ xs) (fronts_walk g (front ++ r ∷ []) challenges)

-- one challenge more gives one more
pub walk_snoc : {X : Type 0} (g : List ℕ → X) (front challenges : List ℕ) (r : ℕ)
    → walk g front (challenges ++ r ∷ []) ≡ walk g front challenges ++ g (front ++ challenges) ∷ []
unfolding walk
walk_snoc g front [] r = ap (λ xs. g xs ∷ []) (sym (append-nil front))
walk_snoc g front (c ∷ challenges) r =
    ap (λ xs. g front ∷ xs) (walk_snoc g (front ++ c ∷ []) challenges r
    ∙ ap (λ xs. walk g (front ++ c ∷ []) challenges ++ g xs ∷ [])
    (append_assoc front (c ∷ []) challenges))
