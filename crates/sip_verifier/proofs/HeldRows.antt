-- Rows that were written behind those that wait.
use Rattle.std.proofs.Common.{◌≡◌, ℕ, suc, ◌+◌, ◌≤◌, List, [], ◌∷◌, ◌++◌, length, take, sym, ap, ◌∙◌, arith}
use Rattle.std.proofs.lemmas.List.{length-take-le, take-append-le}
use borrow.Rule.Slice.PartMut.{put_mid, post_of}

take_over : {X : Type 0} (xs ys : List X) (m : ℕ) → take (length xs + m) (xs ++ ys) ≡ xs ++ take m ys
take_over [] ys m = ap (λ n. take n ys) (let same : 0 + m ≡ m = omega arith in same)
take_over (x ∷ xs) ys m =
    ap (λ n. take n (x ∷ (xs ++ ys))) (let same : suc (length xs) + m ≡ suc (length xs + m) = omega arith in same) ∙ ap (λ l. x ∷ l) (take_over xs ys m)

-- the first m of them stand behind the first a of the others
pub rows_behind : {X : Type 0} (a k m : ℕ) (xs ys : List X) → a ≤ length xs → m ≤ length ys → take (a + m) (put_mid a k xs ys) ≡ take a xs ++ take m ys
rows_behind a k m xs ys within few =
    ap (λ n. take (n + m) (put_mid a k xs ys)) (sym (length-take-le a xs within)) ∙ take_over (take a xs) (ys ++ post_of a k xs) m
    ∙ ap (λ l. take a xs ++ l) (take-append-le m ys (post_of a k xs) few)
