-- A buffer is filled on with a part of a list.
use Rattle.std.proofs.Common.{◌≡◌, ℕ, ◌+◌, ◌-◌, ◌≤◌, List, ◌++◌, length, take, drop, sym, ap, ◌∙◌, append_assoc, arith, length-drop, length-take-le, take-append-drop}
use Rattle.std.proofs.lemmas.List.{drop-drop}
use Rattle.std.proofs.lemmas.Slice.{take-put_mid}
use borrow.Rule.Slice.PartMut.{put_mid}

-- What is in the buffer's front and what is left stay the same list where n bytes from a place moved.
pub filled_more : (filled at n : ℕ) (buf part bytes more : List ℕ) → filled ≤ length buf → at + n ≤ length bytes → part ≡ take n (drop at bytes)
    → take filled buf ++ (drop at bytes ++ more) ≡ take (filled + n) (put_mid filled (filled + n - filled) buf part) ++ (drop (at + n) bytes ++ more)
filled_more filled at n buf part bytes more within room is =
    let enough : n ≤ length (drop at bytes) = omega (arith, length-drop at bytes) in
    let len : length part ≡ n = ap length is ∙ length-take-le n (drop at bytes) enough in
    let front = take-put_mid filled (filled + n - filled) buf part (filled + n) (omega arith) within in
    let split : drop at bytes ≡ part ++ drop (at + n) bytes =
    sym (take-append-drop n (drop at bytes)) ∙ ap (λ l. take n (drop at bytes) ++ l) (drop-drop n at bytes) ∙ ap (λ l. l ++ drop (at + n) bytes) (sym is) in
    ap (λ l. take filled buf ++ (l ++ more)) split
    ∙ ap (λ l. take filled buf ++ l) (append_assoc part (drop (at + n) bytes) more)
    ∙ sym (append_assoc (take filled buf) part (drop (at + n) bytes ++ more))
    ∙ ap (λ l. l ++ (drop (at + n) bytes ++ more)) (sym front)

-- What is left of a list loses its front where the place moves on.
pub dropped_more : (at n : ℕ) (bytes more : List ℕ) → drop at bytes ++ more ≡ take n (drop at bytes) ++ (drop (at + n) bytes ++ more)
dropped_more at n bytes more =
    ap (λ l. l ++ more) (sym (take-append-drop n (drop at bytes)) ∙ ap (λ l. take n (drop at bytes) ++ l) (drop-drop n at bytes))
    ∙ append_assoc (take n (drop at bytes)) (drop (at + n) bytes) more
