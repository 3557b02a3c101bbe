-- A number that is no threshold is that of no other threshold.
use Rattle.std.proofs.Common.{◌≡◌, sym, ◌∙◌, arith}
use Rattle.std.proofs.lemmas.Fmt.{decimal_injective}
use Rattle.std.proofs.lemmas.List.{append_cancel_left}
use Rattle.sip_words.proofs.large.threshold_behind.Goals as goal
use Rattle.sip_words.proofs.large.threshold_behind.Goals.{else-at_least-ge1-via-then-at_least-ge1+else-at_least, else-at_least-ge1-via-else-at_least-ge1}

pub returns-else-at_least-ge1 : goal.returns-else-at_least-ge1
returns-else-at_least-ge1 c = λ t is same.
    let (least, most) = is in
    let one : c.in_ok-at_least.at_least ≡ t = decimal_injective c.in_ok-at_least.at_least t (omega arith) (omega (arith, most)) (append_cancel_left c.args.front.now _ _ (sym c.in_ok-at_least.ensures ∙ same)) in
    elim c.else-at_least-ge1.branch [
      | else-at_least-ge1-via-then-at_least-ge1+else-at_least w ↦ absurd (omega (arith, one, most, w.if-at_least))
      | else-at_least-ge1-via-else-at_least-ge1 w ↦ absurd (omega (arith, one, least, w.if-at_least-ge1))
    ]
