use Rattle.std.proofs.Common.{◌≡◌, ◌↔◌, ℕ, ◌^◌, ◌<◌, ◌≤◌, List, [], length, get_or, Option, None, Some, IsSome, IfSome, MatchOption, decimal, sym, ◌∙◌, refl, arith}
use Rattle.std.proofs.lemmas.Fmt.{decimal_injective}
use Rattle.sip_words.specs.Shapes.{IsDepth}
use Rattle.sip_vector.specs.Limits.{most_depth}
use Rattle.sip_words.proofs.Getting.{got}
use Rattle.sip_words.proofs.command.read_depth.Goals as goal

-- another number is not the word's
other : (levels : ℕ) (word : List ℕ) → levels < 2 ^ 64 → word ≡ decimal levels → (d : ℕ) → IsDepth d word → levels ≡ d
other levels word small is d also = decimal_injective levels d small (omega (arith, also.1)) (sym is ∙ also.2)

-- the depth of the word, where it is one
depth_of : (words : List (List ℕ)) (number levels : ℕ) (r : Option ℕ) → number < length words → levels ≤ most_depth → get_or words number [] ≡ decimal levels → IsSome r ↔ ((1 ≤ levels) × (levels ≤ most_depth)) → IfSome r (λ d. d ≡ levels)
    → MatchOption r (number < length words → (d : ℕ) → IsDepth d (get_or words number []) → ⊥) (λ d. (number < length words) × IsDepth d (get_or words number []))
depth_of words number levels None within most is fits same =
    λ _ d also. let one = other levels _ (omega arith) is d also in let never = fits.1 (let least = also.0 in omega arith, omega arith) in cc
depth_of words number levels (Some d) within most is fits same =
    let some : 1 ≤ levels = (fits.0 refl).0 in (within, (omega arith, omega arith, rw same is))

pub returns-then-levels : goal.returns-then-levels
returns-then-levels c = λ _ d also.
    let word = got c.args.words.now c.args.number (Some c.in_ok-get.field-0) c.in_ok-get.ensures in
    let one = other c.in_ok-levels.levels _ (omega arith) (word.1 ∙ c.in_ok-levels.ensures) d also in
    let most = also.1 in
    omega arith

pub returns : goal.returns
returns c =
    let word = got c.args.words.now c.args.number (Some c.in_ok-get.field-0) c.in_ok-get.ensures in
    depth_of c.args.words.now c.args.number c.in_ok-levels.levels c.new.result word.0 (omega arith) (word.1 ∙ c.in_ok-levels.ensures) c.new.ensures.fits c.new.ensures.same
