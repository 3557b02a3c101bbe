-- A number that is no degree is that of no other degree.
use Rattle.std.proofs.Common.{◌≡◌, sym, ◌∙◌, arith}
use Rattle.std.proofs.lemmas.Fmt.{decimal_injective}
use Rattle.std.proofs.lemmas.List.{append_cancel_left}
use Rattle.sip_words.proofs.moment.degree_behind.Goals as goal
use Rattle.sip_words.proofs.moment.degree_behind.Goals.{else-degree-ge-LEAST_DEGREE-via-then-degree-ge-LEAST_DEGREE+else-degree-le-MOST_DEGREE, else-degree-ge-LEAST_DEGREE-via-else-degree-ge-LEAST_DEGREE}

pub returns-else-degree-ge-LEAST_DEGREE : goal.returns-else-degree-ge-LEAST_DEGREE
returns-else-degree-ge-LEAST_DEGREE c = λ k is same.
    let least = is.least in
    let most = is.most in
    let one : c.in_ok-degree.degree ≡ k = decimal_injective c.in_ok-degree.degree k (omega arith) (omega (arith, most)) (append_cancel_left c.args.front.now _ _ (sym c.in_ok-degree.ensures ∙ same)) in
    elim c.else-degree-ge-LEAST_DEGREE.branch [
      | else-degree-ge-LEAST_DEGREE-via-then-degree-ge-LEAST_DEGREE+else-degree-le-MOST_DEGREE w ↦ absurd (omega (arith, one, most, w.if-degree-le-MOST_DEGREE))
      | else-degree-ge-LEAST_DEGREE-via-else-degree-ge-LEAST_DEGREE w ↦ absurd (omega (arith, one, least, w.if-degree-ge-LEAST_DEGREE))
    ]
