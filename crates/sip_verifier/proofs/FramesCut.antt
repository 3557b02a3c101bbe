-- A list that begins with whole pieces is cut there.
use Rattle.std.proofs.Common.{◌≡◌, ℕ, zero, suc, ◌*◌, ◌/◌, ◌%◌, ◌<◌, ◌≤◌, List, [], ◌∷◌, ◌++◌, length, take, drop, sym, ap, ◌∙◌, arith, append_assoc, length-drop, take-append-drop}
use Rattle.std.proofs.lemmas.List.{length-take-le, nil_from_length}
use Rattle.sip_vector.specs.Pieces.{cut}
use Rattle.sip_stream.proofs.Cuts.{cut-nil, cut-cons}

whole : {X : Type 0} (k n : ℕ) (xs ys : List X) → 0 < k → length xs ≡ n * k → cut k (xs ++ ys) ≡ cut k xs ++ cut k ys
whole {X} k zero xs ys some len =
    let none : xs ≡ [] = nil_from_length xs (omega arith) in
    ap (λ l. cut k (l ++ ys)) none ∙ ap (λ l. l ++ cut k ys) (sym (cut-nil k some)) ∙ ap (λ l. cut k l ++ cut k ys) (sym none)
whole {X} k (suc n) xs ys some len =
    let long : k ≤ length xs = omega arith in
    let first : length (take k xs) ≡ k = length-take-le k xs long in
    let rest : length (drop k xs) ≡ n * k = omega (arith, length-drop k xs) in
    let split : xs ≡ take k xs ++ drop k xs = sym (take-append-drop k xs) in
    ap (λ l. cut k (l ++ ys)) split
    ∙ ap (cut k) (append_assoc (take k xs) (drop k xs) ys)
    ∙ cut-cons k (take k xs) (drop k xs ++ ys) some first
    ∙ ap (λ l. take k xs ∷ l) (whole k n (drop k xs) ys some rest)
    ∙ ap (λ l. l ++ cut k ys) (sym (cut-cons k (take k xs) (drop k xs) some first) ∙ ap (cut k) (sym split))

-- whole pieces, and what follows them
pub cut-append : {X : Type 0} (k : ℕ) (xs ys : List X) → 0 < k → length xs % k ≡ 0 → cut k (xs ++ ys) ≡ cut k xs ++ cut k ys
cut-append {X} k xs ys some divides = whole k (length xs / k) xs ys some (omega arith)
