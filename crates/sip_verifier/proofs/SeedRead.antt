-- The bytes of a seed that were read, and the challenges that they give.
use Rattle.std.proofs.Common.{◌≡◌, ℕ, ◌≤◌, Option, Some, None, List, ◌++◌, length, take, sym, ap, ◌∙◌, arith, length-append, take_all, take_at}
use Rattle.std.specs.Io.KnownBytes.{Consumes}
use Rattle.std.proofs.lemmas.Bool.{le-ltb}
use Rattle.sip_field.specs.Draw.{draw_list, seed_words}
use Rattle.sip_verifier.specs.Draws.{challenges_of}

-- a seed of 32 bytes or more gives the challenges of the 32 that were read
pub long_enough : (count came : ℕ) (seed : List ℕ) (old new : Option (List ℕ)) (buf : List ℕ) → old ≡ Some seed → 32 ≤ came → length buf ≡ 32
    → Consumes old new (take came buf) → (32 ≤ length seed) × (challenges_of count seed ≡ challenges_of count buf)
unfolding challenges_of
long_enough count came seed (Some xs) (Some ys) buf is le size took =
    let same : xs ≡ seed = cc in
    let all : take came buf ≡ buf = take_all came buf (omega arith) in
    let own : take 32 buf ≡ buf = take_all 32 buf (omega arith) in
    let split : seed ≡ buf ++ ys = sym same ∙ took ∙ ap (λ (b : List ℕ). b ++ ys) all in
    let long : 32 ≤ length seed = omega (arith, ap length split, length-append buf ys) in
    let front : take 32 seed ≡ buf = ap (take 32) split ∙ take_at buf ys 32 size in
    (long, rw (le-ltb (length seed) 32 long, le-ltb (length buf) 32 (omega arith)) (ap (λ (b : List ℕ). draw_list count (seed_words b)) (front ∙ sym own)))
long_enough count came seed (Some xs) None buf is le size took = absurd took
long_enough count came seed None new buf is le size took = absurd cc
