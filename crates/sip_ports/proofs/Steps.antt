-- A buffer is filled in steps and sent in steps.
use Rattle.std.proofs.Common.{◌≡◌, ℕ, ◌+◌, ◌-◌, ◌≤◌, List, ◌++◌, sym, ap, ◌∙◌, arith, length, take, drop, slice_range, le_refl, drop_at, length-take-le, map, take-append-drop}
use Rattle.std.proofs.lemmas.List.{map-append, drop-drop}
use Rattle.std.proofs.lemmas.Slice.{take-put_mid_below}
use borrow.Rule.Slice.PartMut.{put_mid, post_of}
use lib.Seq.{take-add, take-append-le}

-- a part of a list, mapped, in two steps
pub take_steps : {B : Type 0} (f : ℕ → B) (a n : ℕ) (buf : List ℕ) → map f (take a buf) ++ map f (take n (drop a buf)) ≡ map f (take (a + n) buf)
take_steps f a n buf = sym (map-append f (take a buf) (take n (drop a buf))) ∙ ap (map f) (sym (take-add a n buf))

take_split : (a b : ℕ) (old new : List ℕ) → a ≤ b → take a new ≡ take a old → take a old ++ slice_range new a b ≡ take b new
take_split a b old new h front =
    let same : a + (b - a) ≡ b = omega arith in
    ap (λ l. l ++ slice_range new a b) (sym front) ∙ sym (take-add a (b - a) new) ∙ ap (λ n. take n new) same

slice_range-put_mid : (a k n : ℕ) (xs ys : List ℕ) → a ≤ length xs → n ≤ length ys → slice_range (put_mid a k xs ys) a (a + n) ≡ take n ys
slice_range-put_mid a k n xs ys within fits =
    let same : (a + n) - a ≡ n = omega arith in
    let after = post_of a k xs in
    ap (take ((a + n) - a)) (drop_at (take a xs) (ys ++ after) a (length-take-le a xs within)) ∙ ap (λ m. take m (ys ++ after)) same ∙ take-append-le n ys after fits

-- the front of the buffer after n more bytes came into the part behind it
pub filled_more : (a k n : ℕ) (xs ys : List ℕ) → a ≤ length xs → n ≤ length ys → take a xs ++ take n ys ≡ take (a + n) (put_mid a k xs ys)
filled_more a k n xs ys within fits =
    ap (λ l. take a xs ++ l) (sym (slice_range-put_mid a k n xs ys within fits)) ∙ take_split a (a + n) xs (put_mid a k xs ys) (omega arith) (take-put_mid_below _ _ _ _ _ (le_refl _) within)

-- the same bytes, mapped
pub filled_more_by : {B : Type 0} (f : ℕ → B) (a k n : ℕ) (xs ys : List ℕ) → a ≤ length xs → n ≤ length ys → map f (take a xs) ++ map f (take n ys) ≡ map f (take (a + n) (put_mid a k xs ys))
filled_more_by f a k n xs ys within fits = sym (map-append f (take a xs) (take n ys)) ∙ ap (map f) (filled_more a k n xs ys within fits)

-- the buffer's front is the part at an index, so the bytes from there are it and the rest
pub parts : (xs ys : List ℕ) (at n : ℕ) → ys ≡ take n (drop at xs) → drop at xs ≡ ys ++ drop (at + n) xs
parts xs ys at n e =
    sym (take-append-drop n (drop at xs)) ∙ ap (λ l. take n (drop at xs) ++ l) (drop-drop n at xs) ∙ ap (λ l. l ++ drop (at + n) xs) (sym e)
