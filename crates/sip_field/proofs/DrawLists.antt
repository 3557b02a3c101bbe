-- Lists of challenges, drawn one after another.
use Rattle.std.proofs.Common.{◌≡◌, ◌∙◌, ◌+◌, ◌++◌, [], ◌∷◌, ℕ, zero, suc, List, Option, Some, None, refl, sym, ap, arith, append_assoc}
use Rattle.std.proofs.lemmas.Option.{none-some}
use Rattle.rand_core.specs.Stream.{Stream}
use Rattle.sip_field.specs.Draw.{DrawsInBlocks, LeavesTheRest, before, draw_list, draw_one, joined, left_behind}
use Rattle.sip_field.specs.Draw.{words_after, words_left}

-- a list begins with the challenge that is drawn first
pub draw_list_more : (n count : ℕ) (words : Stream) (r : ℕ) (rest : Stream) → n ≡ suc count →
    (Some r, rest) ≡ draw_one words → draw_list n words ≡ before (Some r) (draw_list count rest)
unfolding draw_list
draw_list_more n count words r rest more e = rw (more, ← e) refl

-- a spent draw spends the list
pub draw_list_spent : (n count : ℕ) (words rest : Stream) → n ≡ suc count →
    (None, rest) ≡ draw_one words → draw_list n words ≡ None
unfolding draw_list
draw_list_spent n count words rest more e = rw (more, ← e) refl

-- no draw gives the empty list
pub draw_list_none : (n : ℕ) (words : Stream) → n ≡ 0 → draw_list n words ≡ Some []
unfolding draw_list
draw_list_none n words e = rw e refl

-- behind a challenge the words that are left are those of the draws behind it
pub left_more : (n count : ℕ) (words : Stream) (r : ℕ) (rest : Stream) → n ≡ suc count →
    (Some r, rest) ≡ draw_one words → words_left n words ≡ words_left count rest
unfolding words_left
left_more n count words r rest more e = rw (more, ← e) refl

-- a spent draw leaves its own
pub left_spent : (n count : ℕ) (words rest : Stream) → n ≡ suc count →
    (None, rest) ≡ draw_one words → words_left n words ≡ rest
unfolding words_left
left_spent n count words rest more e = rw (more, ← e) refl

-- no draw leaves all
pub left_none : (n : ℕ) (words : Stream) → n ≡ 0 → words_left n words ≡ words
unfolding words_left
left_none n words e = rw e refl

-- nothing before a list is the list
pub joined_none : (q : Option (List ℕ)) → q ≡ joined (Some []) q
joined_none None = refl
joined_none (Some more) = refl

-- the first of the challenges to come is the last of those so far
pub joined_one : (so_far : List ℕ) (r : ℕ) (o : Option (List ℕ)) →
    joined (Some so_far) (before (Some r) o) ≡ joined (Some (so_far ++ r ∷ [])) o
joined_one so_far r (Some rs) = ap Some (sym (append_assoc so_far (r ∷ []) rs))
joined_one so_far r None = refl

-- one challenge before two blocks is one before the first
joined_before : (o : Option ℕ) (p q : Option (List ℕ)) → before o (joined p q) ≡ joined (before o p) q
joined_before None p q = refl
joined_before (Some r) None q = refl
joined_before (Some r) (Some rs) None = refl
joined_before (Some r) (Some rs) (Some more) = refl

pub draws_in_blocks : DrawsInBlocks
unfolding draw_list words_after
draws_in_blocks zero b words = rw (let e : 0 + b ≡ b = omega arith in e) (joined_none _)
draws_in_blocks (suc a) b words =
    rw (let e : suc a + b ≡ suc (a + b) = omega arith in e) (ap (before _) (draws_in_blocks a b _) ∙ joined_before _ _ _)

-- by cases on the first draw, given what holds of the others
left_of : (one : Option ℕ) (others : Option (List ℕ)) (left after first : Stream) (rs : List ℕ) →
    ((more : List ℕ) → others ≡ Some more → left ≡ after) → before one others ≡ Some rs →
    left_behind one left first ≡ after
left_of None others left after first rs ih e = absurd (none-some _ e)
left_of (Some r) None left after first rs ih e = absurd (none-some _ e)
left_of (Some r) (Some more) left after first rs ih e = ih more refl

pub draws_leave_the_rest : LeavesTheRest
unfolding draw_list words_left words_after
draws_leave_the_rest zero words rs e = refl
draws_leave_the_rest (suc count) words rs e =
    left_of (draw_one words).0 (draw_list count (draw_one words).1) _ _ _ rs
    (draws_leave_the_rest count (draw_one words).1) e
