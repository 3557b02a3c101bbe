-- How challenges are drawn from the words of a generator.
use Rattle.std.specs.Prelude.{◌≡◌, ◌+◌, ◌++◌, ℕ, zero, suc, ◌/◌, ◌^◌, ◌==◌, if◌then◌else◌, List, []}
use Rattle.std.specs.Prelude.{◌∷◌, Option, Some, None, Result, Ok, Err, map}
use Rattle.rand_core.specs.Stream.{Stream, next_u64}
use Rattle.rand_core.specs.Steps.{stream_of, steps_u32}
use Rattle.rand_chacha.specs.ChaCha.{next_word, of_seed}
use Rattle.arrayvec.specs.ArrayVec.{ArrayVec}
use Rattle.sip_field.specs.Moduli.{m61_modulus}
use Rattle.sip_field.specs.Elements.{m61_number}
use Rattle.sip_field.specs.declared.mersenne.M61.{M61}
use Rattle.sip_field.specs.declared.drawing.SeedSpent.{SeedSpent}

-- what a word of 64 bits gives: its upper 61 bits, a challenge unless they are 2^61 - 1
abbrev pub candidate : ℕ → ℕ
candidate word = word / 2 ^ 3

-- the first candidate of the next words that isn't 2^61 - 1, with `tries` words at most, and the
-- words that are left
unfoldable pub draw_within : ℕ → Stream → Option ℕ × Stream
draw_within zero words = (None, words)
draw_within (suc tries) words =
    if candidate (next_u64 words).0 == m61_modulus
    then draw_within tries (next_u64 words).1
    else (Some (candidate (next_u64 words).0), (next_u64 words).1)

-- one challenge, or None where the seed is spent, and the words that are left
abbrev pub draw_one : Stream → Option ℕ × Stream
draw_one = draw_within 8

-- none of the next n words gives a challenge
unfoldable pub AllMissed : ℕ → Stream → Type 0
AllMissed zero words = Unit {0}
AllMissed (suc n) words =
    (candidate (next_u64 words).0 ≡ m61_modulus) × AllMissed n (next_u64 words).1

-- a challenge before others, where none of the draws was spent
abbrev pub before : Option ℕ → Option (List ℕ) → Option (List ℕ)
before (Some r) (Some rs) = Some (r ∷ rs)
before (Some r) None = None
before None _ = None

-- `count` challenges, one after another, or None where a draw is spent
unfoldable pub draw_list : ℕ → Stream → Option (List ℕ)
draw_list zero words = Some []
draw_list (suc count) words = before (draw_one words).0 (draw_list count (draw_one words).1)

-- the words of a seed: those that `ChaCha20Rng::from_seed` gives
abbrev pub seed_words : List ℕ → Stream
seed_words seed = stream_of (steps_u32 (next_word 10)) (of_seed seed)

-- what a draw answers: the challenge, or None where the seed is spent
abbrev pub drawn : Result M61 SeedSpent → Option ℕ
drawn (Ok challenge) = Some (m61_number challenge)
drawn (Err _) = None

-- what a draw of several challenges answers
abbrev pub drawn_list : Result (ArrayVec M61) SeedSpent → Option (List ℕ)
drawn_list (Ok challenges) = Some (map m61_number challenges.items)
drawn_list (Err _) = None

-- challenges that were drawn first, and then others
abbrev pub joined : Option (List ℕ) → Option (List ℕ) → Option (List ℕ)
joined (Some rs) (Some more) = Some (rs ++ more)
joined (Some rs) None = None
joined None _ = None

-- the words that are left after `count` draws
unfoldable pub words_after : ℕ → Stream → Stream
words_after zero words = words
words_after (suc count) words = words_after count (draw_one words).1

-- the words that are left behind the other draws where the first gave a challenge, else its own
abbrev pub left_behind : Option ℕ → Stream → Stream → Stream
left_behind (Some _) others first = others
left_behind None others first = first

-- the words that are left where `count` draws end, behind the first that is spent at the latest
unfoldable pub words_left : ℕ → Stream → Stream
words_left zero words = words
words_left (suc count) words =
    left_behind (draw_one words).0 (words_left count (draw_one words).1) (draw_one words).1

-- a list that was drawn leaves the words behind its last draw
abbrev pub LeavesTheRest : Type 0
LeavesTheRest = (count : ℕ) (words : Stream) (rs : List ℕ) → draw_list count words ≡ Some rs →
    words_left count words ≡ words_after count words

-- a list is drawn block by block
abbrev pub DrawsInBlocks : Type 0
DrawsInBlocks =
    (a b : ℕ) (words : Stream) → draw_list (a + b) words
    ≡ joined (draw_list a words) (draw_list b (words_after a words))
