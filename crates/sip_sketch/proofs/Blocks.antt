-- What stands in front of a block.
use Rattle.std.proofs.Common.{◌≡◌, ◌+◌, ◌≤◌, ℕ, List, ◌++◌, length, take, sym, ap, ◌∙◌}
use Rattle.std.proofs.Math.Seq.{take-append-add}
use Rattle.std.proofs.lemmas.List.{length-take-le, take-append-le}
use borrow.Rule.Slice.PartMut.{put_mid, post_of}

-- the first m of them stand behind the first a of the others
pub rows_behind : {X : Type 0} (a k m : ℕ) (xs ys : List X) → a ≤ length xs → m ≤ length ys → take (a + m) (put_mid a k xs ys) ≡ take a xs ++ take m ys
rows_behind a k m xs ys within few =
    ap (λ n. take (n + m) (put_mid a k xs ys)) (sym (length-take-le a xs within)) ∙ take-append-add (take a xs) (ys ++ post_of a k xs) m
    ∙ ap (λ l. take a xs ++ l) (take-append-le m ys (post_of a k xs) few)
