-- The answer of a share of a total, as that of the count that it comes to.
use Rattle.std.proofs.Common.{◌≡◌, ℕ, zero, suc, ℤ, pos, negsuc, ◌≤◌, true, List, refl, ap, ◌∙◌}
use Rattle.std.specs.Prelude.{filter, nat_le}
use Rattle.sip_vector.specs.declared.query.Query.TheVariants.{Heavy, Share}
use Rattle.sip_vector.specs.declared.update.Side.{Side}
use Rattle.sip_vector.specs.declared.update.Update.{Update}
use Rattle.sip_vector.specs.Answers.{answer, entries, is_shared, pairs}
use Rattle.sip_vector.specs.Streams.{int_sum, vector, IsLegal, IsStrict}
use Rattle.sip_vector.specs.Thresholds.{share_of}
use Rattle.sip_vector.proofs.Sides.{total-is}
use Rattle.sip_heavy.specs.Honest.{heavy_of}
use Rattle.sip_heavy.specs.Protocol.{count_of}
use Rattle.sip_heavy.proofs.ShareThresholds.{shares_above, shares_heavy}

-- of a strict side, the entries that have a share of the total are those of at least that count
pub share_answer : (depth : ℕ) (stream : List Update) (side : Side) (num den : ℕ) → 1 ≤ den → IsLegal depth stream → IsStrict depth stream side
    → answer depth stream (Share side num den) ≡ answer depth stream (Heavy side (share_of num den (int_sum (vector depth stream side))))
share_answer depth stream side num den some legal strict =
    ap (λ (n : ℤ). pairs (filter (is_shared num den n) (entries (vector depth stream side)))) (total-is depth stream side legal.items)
    ∙ ap pairs (shares_heavy num den (vector depth stream side) some strict)

-- so they are of each side whose total is as much as that count
pub share_reached : (depth : ℕ) (stream : List Update) (side : Side) (num den : ℕ) → 1 ≤ den → IsLegal depth stream
    → nat_le (share_of num den (int_sum (vector depth stream side))) (count_of (int_sum (vector depth stream side))) ≡ true
    → answer depth stream (Share side num den) ≡ answer depth stream (Heavy side (share_of num den (int_sum (vector depth stream side))))
share_reached depth stream side num den some legal reached =
    ap (λ (n : ℤ). pairs (filter (is_shared num den n) (entries (vector depth stream side)))) (total-is depth stream side legal.items)
    ∙ ap pairs (by_total (int_sum (vector depth stream side)) refl reached)
  where
    by_total : (n : ℤ) → int_sum (vector depth stream side) ≡ n → nat_le (share_of num den n) (count_of n) ≡ true
        → filter (is_shared num den (int_sum (vector depth stream side))) (entries (vector depth stream side))
        ≡ heavy_of (share_of num den (int_sum (vector depth stream side))) (vector depth stream side)
    by_total (pos zero) is above = absurd cc
    by_total (pos (suc n)) is above = shares_above num den n (vector depth stream side) some is
    by_total (negsuc n) is above = absurd cc
