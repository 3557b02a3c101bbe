-- The challenges that a seed gives are below the modulus.
use Rattle.std.proofs.Common.{◌≡◌, ◌≢◌, ℕ, zero, suc, ◌+◌, ◌*◌, ◌/◌, ◌%◌, ◌^◌, ◌<◌, Option, Some, None, List, [], ◌∷◌, All, inl, inr, refl, sym, arith, lit<}
use Rattle.std.proofs.Math.Nat.{mod-lt}
use Rattle.std.proofs.lemmas.Bool.{cases_eq}
use Rattle.std.proofs.lemmas.List.Elements.{All-nil, All-cons}
use Rattle.rand_core.specs.Stream.{Call, u64_call, Stream, next_u64}
use Rattle.rand_core.specs.Steps.{state_after, steps_u32, stream_of}
use Rattle.rand_chacha.specs.Block.{block_word}
use Rattle.rand_chacha.specs.ChaCha.{ChaCha, next_word, of_seed}
use Rattle.sip_field.specs.Moduli.{m61_modulus}
use Rattle.sip_field.specs.Draw.{before, candidate, draw_list, draw_one, draw_within, seed_words}
use Rattle.sip_field.proofs.OneDraw.{draw_hit, draw_miss}

-- ---- words

-- each word of 64 bits fits, however many calls came before
abbrev Fits64 : Stream → Type 0
Fits64 words = (calls : List Call) → words.u64_after calls < 2 ^ 64

block_word-small : (n : ℕ) (key : List ℕ) (counter nonce k : ℕ) → block_word n key counter nonce k < 2 ^ 32
unfolding block_word
block_word-small n key counter nonce k = mod-lt _ (lit< tt)

next-small : (g : ChaCha) → (next_word 10 g).0 < 2 ^ 32
next-small g = block_word-small 10 g.key (g.word_pos / 16) g.stream (g.word_pos % 16)

two_words : (low high : ℕ) → low < 2 ^ 32 → high < 2 ^ 32 → low + high * 2 ^ 32 < 2 ^ 64
two_words low high small large = omega (arith, small, large)

seed-fits : (seed : List ℕ) → Fits64 (seed_words seed)
unfolding stream_of
seed-fits seed calls =
    let g = state_after (steps_u32 (next_word 10)) calls (of_seed seed) in
    two_words (next_word 10 g).0 (next_word 10 (next_word 10 g).1).0 (next-small g) (next-small (next_word 10 g).1)

word-fits : (words : Stream) → Fits64 words → ((next_u64 words).0 < 2 ^ 64) × Fits64 (next_u64 words).1
unfolding next_u64
word-fits words fits = (fits [], λ calls. fits (u64_call ∷ calls))

-- ---- challenges

candidate-small : (word : ℕ) → word < 2 ^ 64 → candidate word ≢ m61_modulus → candidate word < m61_modulus
candidate-small word fits other = omega (arith, fits, other)

-- what was drawn is below the modulus, and the words that are left fit
record IsSmall (drawn : Option ℕ × Stream) : Type 0 where
  below : (r : ℕ) → drawn.0 ≡ Some r → r < m61_modulus
  left : Fits64 drawn.1

within-small : (tries : ℕ) (words : Stream) → Fits64 words → IsSmall (draw_within tries words)
unfolding draw_within
within-small zero words fits = record { below = λ r e. absurd cc; left = fits }
within-small (suc tries) words fits =
    let word = word-fits words fits in
    elim (cases_eq (candidate (next_u64 words).0) m61_modulus) [
      | inl missed ↦ rw (draw_miss (suc tries) tries words _ _ refl refl missed) (within-small tries (next_u64 words).1 word.1)
      | inr other ↦
          let small = candidate-small (next_u64 words).0 word.0 other in
          rw (draw_hit (suc tries) tries words _ _ refl refl other) (record { below = λ r e. (let same : candidate (next_u64 words).0 ≡ r = cc in rw (sym same) small); left = word.1 })
    ]

joined-small : (first : Option ℕ) (rest : Option (List ℕ)) (rs : List ℕ) → before first rest ≡ Some rs
    → ((r : ℕ) → first ≡ Some r → r < m61_modulus) → ((more : List ℕ) → rest ≡ Some more → All (λ r. r < m61_modulus) more)
    → All (λ r. r < m61_modulus) rs
joined-small (Some r) (Some more) rs e one others =
    let same : rs ≡ r ∷ more = cc in
    rw same (All-cons (λ (x : ℕ). x < m61_modulus) r more (one r refl) (others more refl))
joined-small (Some r) None rs e one others = absurd cc
joined-small None rest rs e one others = absurd cc

list-small : (count : ℕ) (words : Stream) (rs : List ℕ) → Fits64 words → draw_list count words ≡ Some rs → All (λ r. r < m61_modulus) rs
unfolding draw_list
list-small zero words rs fits e = let same : rs ≡ [] = cc in rw same (All-nil (λ (x : ℕ). x < m61_modulus))
list-small (suc count) words rs fits e =
    let one = within-small 8 words fits in
    joined-small (draw_one words).0 (draw_list count (draw_one words).1) rs e one.below (λ more is. list-small count (draw_one words).1 more one.left is)

-- those of a seed
pub challenges-small : (count : ℕ) (seed rs : List ℕ) → draw_list count (seed_words seed) ≡ Some rs → All (λ r. r < m61_modulus) rs
challenges-small count seed rs e = list-small count (seed_words seed) rs (seed-fits seed) e
