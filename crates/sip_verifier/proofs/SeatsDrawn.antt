-- The challenges that a seed of 32 bytes gives.
use Rattle.std.proofs.Common.{◌≡◌, ℕ, zero, suc, false, Option, Some, None, List, [], ◌∷◌, length, take, refl, sym, ap, ◌∙◌, arith, take_all}
use Rattle.std.specs.Prelude.{nat_lt}
use Rattle.std.proofs.lemmas.Bool.Decides.{nat_tests}
use Rattle.rand_core.specs.Stream.{Stream}
use Rattle.sip_field.specs.Draw.{before, draw_list, seed_words}
use Rattle.sip_verifier.specs.Draws.{challenges_of}

-- where some were drawn, there is a first and there are the others
before-some : (a : Option ℕ) (b : Option (List ℕ)) (rs : List ℕ) → before a b ≡ Some rs → (r : ℕ) × (more : List ℕ) × (b ≡ Some more) × (rs ≡ r ∷ more)
before-some (Some r) (Some more) rs e = (r, more, refl, cc)
before-some (Some r) None rs e = absurd cc
before-some None b rs e = absurd cc

-- as many challenges are drawn as were asked for
pub drawn-length : (n : ℕ) (words : Stream) (rs : List ℕ) → Some rs ≡ draw_list n words → length rs ≡ n
unfolding draw_list
drawn-length zero words rs e = let same : rs ≡ [] = cc in ap length same
drawn-length (suc n) words rs e =
    let parts = before-some _ _ rs (sym e) in
    ap length parts.3 ∙ ap suc (drawn-length n _ parts.1 (sym parts.2))

-- a whole seed is long enough
pub drawn-whole : (count : ℕ) (seed : List ℕ) → length seed ≡ 32 → challenges_of count seed ≡ draw_list count (seed_words seed)
unfolding challenges_of
drawn-whole count seed size =
    let long : nat_lt (length seed) 32 ≡ false = grind (arith, nat_tests) in
    let all : take 32 seed ≡ seed = take_all 32 seed (omega arith) in
    rw (long, all) refl
