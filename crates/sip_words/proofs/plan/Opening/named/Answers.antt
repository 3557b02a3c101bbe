use Rattle.std.proofs.Common.{ℕ, List, Option, None, Some, Bor, sym, subst, arith}
use Rattle.sip_words.specs.Plan.{IsUnlessDash}
use Rattle.sip_words.proofs.Getting.{got}
use Rattle.sip_words.proofs.plan.Opening.named.Goals as goal

pub returns-in-Some : goal.returns-in-Some
returns-in-Some c = λ more.
    let found = got c.args.words.now c.args.word (Some c.in-Some.name) c.in-Some.ensures in
    subst (λ w. IsUnlessDash c.args.dash w c.args.word c.unless_dash.result) (sym found.1) c.unless_dash.ensures

pub returns-in-None : goal.returns-in-None
returns-in-None c = λ more.
    let absent : Option (Bor (List ℕ)) = None in
    let short = got c.args.words.now c.args.word absent c.in-None.ensures in
    absurd (omega arith)
