-- Numbers that have no room in 32 bits are those of no other ratio.
use Rattle.std.proofs.Common.{◌≡◌, sym, ◌∙◌, arith}
use Rattle.std.proofs.lemmas.List.{append_cancel_left}
use Rattle.sip_words.proofs.QueryWords.{same_ratios}
use Rattle.sip_words.specs.inside.QueryParts.{bounds}
use Rattle.sip_words.proofs.query.ratio_behind.Goals as goal
use Rattle.sip_words.proofs.query.ratio_behind.Goals.{else-num-via-then-num+else-den, else-num-via-else-num}

pub returns-else-num : goal.returns-else-num
returns-else-num c num den small low is =
    let read = c.in_ok-num in
    let spelled : bounds num den ≡ bounds read.num read.den = append_cancel_left c.args.front.now _ _ (sym is ∙ read.ensures) in
    let one = same_ratios num den read.num read.den small low (omega arith) (omega arith) spelled in
    elim c.else-num.branch [
      | else-num-via-then-num+else-den w ↦ absurd (omega (arith, one.1, low, w.if-den))
      | else-num-via-else-num w ↦ absurd (omega (arith, one.0, small, w.if-num))
    ]
