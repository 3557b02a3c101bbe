-- Bytes cut into records of 13: the first one, and what follows it.
use Rattle.std.proofs.Common.{◌≡◌, ℕ, suc, ◌+◌, ◌-◌, ◌/◌, ◌<◌, ◌≤◌, List, [], ◌∷◌, ◌++◌, length, take, drop, sym, ap, ◌∙◌, subst, arith, inl, inr, length-append, length-drop, take_all}
use Rattle.std.proofs.Math.Nat.{add-div_right, div-eq_of_lt}
use Rattle.std.proofs.Math.Seq.{take-length, drop-append_seam}
use Rattle.std.proofs.lemmas.Bool.{cases_lt}
use Rattle.std.proofs.lemmas.List.{take-append-le, nil_from_length}
use Rattle.sip_vector.specs.Pieces.{pieces, cut}

-- nothing has no pieces
pub cut-nil : {X : Type 0} (k : ℕ) → 0 < k → cut {X = X} k [] ≡ []
cut-nil {X} k some =
    let none : (0 + (k - 1)) / k ≡ 0 = div-eq_of_lt (omega arith) in
    ap (λ n. pieces {X = X} k n []) none

-- one more element than whole pieces is one piece more
more_pieces : (k n : ℕ) → 0 < k → 0 < n → (n + (k - 1)) / k ≡ suc (((n - k) + (k - 1)) / k)
more_pieces k n some lt =
    elim (cases_lt n k) [
      | inl below ↦
          let rest : ((n - k) + (k - 1)) / k ≡ 0 = div-eq_of_lt (omega arith) in
          let split : n + (k - 1) ≡ (n - 1) + k = omega arith in
          let few : (n - 1) / k ≡ 0 = div-eq_of_lt (omega arith) in
          let first : (n + (k - 1)) / k ≡ (n - 1) / k + 1 = ap (λ m. m / k) split ∙ add-div_right (n - 1) some in
          omega arith
      | inr above ↦
          let split : n + (k - 1) ≡ ((n - k) + (k - 1)) + k = omega arith in
          let first : (n + (k - 1)) / k ≡ ((n - k) + (k - 1)) / k + 1 = ap (λ m. m / k) split ∙ add-div_right ((n - k) + (k - 1)) some in
          omega arith
    ]

-- the first piece, and the pieces of the rest
cut-step : {X : Type 0} (k : ℕ) (xs : List X) → 0 < k → 0 < length xs → cut k xs ≡ take k xs ∷ cut k (drop k xs)
cut-step {X} k xs some lt =
    let rest : length (drop k xs) ≡ length xs - k = length-drop k xs in
    ap (λ n. pieces k n xs) (more_pieces k (length xs) some lt)
    ∙ ap (λ n. take k xs ∷ pieces k ((n + (k - 1)) / k) (drop k xs)) (sym rest)

-- a piece in front
pub cut-cons : {X : Type 0} (k : ℕ) (xs ys : List X) → 0 < k → length xs ≡ k → cut k (xs ++ ys) ≡ xs ∷ cut k ys
cut-cons {X} k xs ys some len =
    let long : 0 < length (xs ++ ys) = omega (arith, length-append xs ys) in
    let first : take k (xs ++ ys) ≡ xs = subst (λ n. take n (xs ++ ys) ≡ xs) len (take-append-le (length xs) xs ys (omega arith) ∙ take-length xs) in
    let rest : drop k (xs ++ ys) ≡ ys = subst (λ n. drop n (xs ++ ys) ≡ ys) len (drop-append_seam xs ys) in
    cut-step k (xs ++ ys) some long ∙ ap (λ l. l ∷ cut k (drop k (xs ++ ys))) first ∙ ap (λ l. xs ∷ cut k l) rest

-- fewer elements than a piece has, or as many
pub cut-one : {X : Type 0} (k : ℕ) (xs : List X) → 0 < length xs → length xs ≤ k → cut k xs ≡ xs ∷ []
cut-one {X} k xs lt le =
    let all : take k xs ≡ xs = take_all k xs le in
    let none : drop k xs ≡ [] = nil_from_length (drop k xs) (omega (arith, length-drop k xs)) in
    cut-step k xs (omega arith) lt ∙ ap (λ l. l ∷ cut k (drop k xs)) all ∙ ap (λ l. xs ∷ cut k l) none ∙ ap (λ l. xs ∷ l) (cut-nil k (omega arith))
