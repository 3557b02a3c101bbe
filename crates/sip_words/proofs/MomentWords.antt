-- The word of a moment: no two moments share one.
use Rattle.std.proofs.Common.{◌≡◌, ℕ, ◌^◌, ◌<◌, ◌≤◌, List, get_or, drop, ap, sym, refl, ◌∙◌, arith}
use Rattle.std.proofs.lemmas.Fmt.{decimal_injective}
use Rattle.sip_vector.specs.declared.update.Side.{Side}
use Rattle.sip_vector.specs.declared.update.Side.TheVariants.{First, Second}
use Rattle.sip_vector.specs.Limits.{most_depth}
use Rattle.sip_moments.specs.declared.moment.Moment.{Moment}
use Rattle.sip_moments.specs.Manner.{moment_word}
use Rattle.sip_words.specs.Shapes.{AsksMoment}

-- the moment of a side and a degree
abbrev pub moment_of : Side → ℕ → Moment
moment_of side degree = record { side = side; degree = degree }

-- a word is that of one side and one degree
word_once : (side other : Side) (k n : ℕ) → k < 2 ^ 64 → n < 2 ^ 64 → moment_word (moment_of side k) ≡ moment_word (moment_of other n) → (side ≡ other) × (k ≡ n)
word_once First First k n small low same = (refl, decimal_injective k n small low (ap (drop 9) same))
word_once First Second k n small low same = let digit : 48 ≡ 49 = ap (λ w. get_or w 7 0) same in absurd (omega (arith, digit))
word_once Second First k n small low same = let digit : 49 ≡ 48 = ap (λ w. get_or w 7 0) same in absurd (omega (arith, digit))
word_once Second Second k n small low same = (refl, decimal_injective k n small low (ap (drop 9) same))

-- a word asks one moment
pub moment_once : (depth : ℕ) (m other : Moment) (word : List ℕ) → depth ≤ most_depth → AsksMoment depth m word → AsksMoment depth other word → m ≡ other
moment_once depth m other word deep (can, is) (also, names) =
    let most = can.most in
    let most' = also.most in
    let one = word_once m.side other.side m.degree other.degree (omega arith) (omega arith) (sym is ∙ names) in
    ap (λ s. moment_of s m.degree) one.0 ∙ ap (λ k. moment_of other.side k) one.1
