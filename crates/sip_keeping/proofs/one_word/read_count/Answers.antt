use Rattle.std.proofs.Common.{◌≡◌, ◌≢◌, ℕ, ◌^◌, ◌<◌, ◌≤◌, List, Option, None, Some, decimal, sym, ◌∙◌, arith}
use Rattle.std.proofs.lemmas.Fmt.{decimal_injective}
use Rattle.sip_keeping.specs.Words.{IsCount}
use Rattle.sip_keeping.proofs.Refused.{no_such}
use Rattle.sip_keeping.proofs.one_word.read_count.Goals as goal
use Rattle.sip_keeping.proofs.one_word.read_count.Goals.{else-least-count-via-then-least-count+else-count-le-MOST_COUNT, else-least-count-via-else-least-count}

-- the word is no count, where its number is not within the bounds
outside : (sign text : List ℕ) (least count : ℕ) → text ≢ sign → text ≡ decimal count → count < 2 ^ 64 → ((least ≤ count) → (count ≤ 2 ^ 31) → ⊥) → (n : Option ℕ) → IsCount sign least n text → ⊥
outside sign text least count differs is small none None also = differs also
outside sign text least count differs is small none (Some n) (low, high, also) =
    let one : count ≡ n = decimal_injective count n small (omega arith) (sym is ∙ also) in
    none (omega arith) (omega arith)

pub returns-else-least-count : goal.returns-else-least-count
returns-else-least-count c =
    outside c.args.sign.now c.args.text.now c.args.least c.in_ok-count.count (no_such _ c.is_sign.ensures c.if-is_sign.false) c.in_ok-count.ensures (omega arith)
    (λ low high.
    elim c.else-least-count.branch [
      | else-least-count-via-then-least-count+else-count-le-MOST_COUNT w ↦ omega (arith, high, w.if-count-le-MOST_COUNT)
      | else-least-count-via-else-least-count w ↦ omega (arith, low, w.if-least-count)
    ])
