use Rattle.std.proofs.Common.{◌≡◌, ℕ, List, Option, None, Some, Bor, refl, sym, ◌∙◌, arith}
use Rattle.std.proofs.lemmas.Fmt.{decimal_injective}
use Rattle.sip_words.proofs.Getting.{got}
use Rattle.sip_words.proofs.plan.Opening.numbers.Goals as goal

pub returns-in_err-get : goal.returns-in_err-get
returns-in_err-get c = λ n k low low' more first second.
    let absent : Option (Bor (List ℕ)) = None in
    let short = got c.args.words.now 1 absent c.in_err-get.ensures in
    absurd (omega arith)

pub returns-in_err-number : goal.returns-in_err-number
returns-in_err-number c = λ n k low low' more first second.
    let found = got c.args.words.now 1 (Some c.in_ok-get.field-0) c.in_ok-get.ensures in
    absurd (c.in_err-number.ensures n low (sym found.1 ∙ first))

pub returns-in_err-get-2 : goal.returns-in_err-get-2
returns-in_err-get-2 c = λ n k low low' more first second.
    let absent : Option (Bor (List ℕ)) = None in
    let short = got c.args.words.now 2 absent c.in_err-get-2.ensures in
    absurd (omega arith)

pub returns-in_err-count : goal.returns-in_err-count
returns-in_err-count c = λ n k low low' more first second.
    let found = got c.args.words.now 2 (Some c.in_ok-get-2.field-0) c.in_ok-get-2.ensures in
    absurd (c.in_err-count.ensures k low' (sym found.1 ∙ second))

pub returns : goal.returns
returns c = λ n k low low' more first second.
    let one = got c.args.words.now 1 (Some c.in_ok-get.field-0) c.in_ok-get.ensures in
    let two = got c.args.words.now 2 (Some c.in_ok-get-2.field-0) c.in_ok-get-2.ensures in
    let number : c.in_ok-number.number ≡ n = decimal_injective c.in_ok-number.number n (omega arith) low (sym c.in_ok-number.ensures ∙ (sym one.1 ∙ first)) in
    let count : c.in_ok-count.count ≡ k = decimal_injective c.in_ok-count.count k (omega arith) low' (sym c.in_ok-count.ensures ∙ (sym two.1 ∙ second)) in
    rw (number, count) refl
