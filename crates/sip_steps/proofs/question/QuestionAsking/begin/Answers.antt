-- Nothing was said of a query, a moment, a lookup or large entries.
use Rattle.std.proofs.Common.{◌≤◌, [], List, ℕ, length, sym, ap, subst, ◌∙◌, arith}
use Rattle.sip_verifier.specs.QuerySeats.{root_is}
use Rattle.sip_verifier.specs.Running.{block_of, numbers_of}
use Rattle.sip_questions.specs.declared.question.Question.TheVariants as questions
use Rattle.sip_steps.specs.declared.opening.Opening.TheVariants as openings
use Rattle.sip_steps.specs.Looked.{IsLooked}
use Rattle.sip_steps.specs.Questioned.{about}
use Rattle.sip_steps.proofs.question.QuestionAsking.begin.Goals as goal

pub returns-in_ok-posing-in-Query-default-clause-asked : goal.returns-in_ok-posing-in-Query-default-clause-asked
returns-in_ok-posing-in-Query-default-clause-asked c = record { opening = openings.Query c.in-Query-default.query; is = c.in-Query-default.is-0; talk = c.in_ok-posing-in-Query-default.ensures.posed }

pub returns-in_ok-posing-in-Query-default-clause-begun : goal.returns-in_ok-posing-in-Query-default-clause-begun
returns-in_ok-posing-in-Query-default-clause-begun c = (about c.args.version c.args.depth c.args.question c.args.running, [], returns-in_ok-posing-in-Query-default-clause-asked c)

pub returns-in_ok-posing-in-Moment-default-clause-asked : goal.returns-in_ok-posing-in-Moment-default-clause-asked
returns-in_ok-posing-in-Moment-default-clause-asked c = record { opening = openings.Moment c.in-Moment-default.moment; is = c.in-Moment-default.is-0; talk = c.in_ok-posing-in-Moment-default.ensures.posed }

pub returns-in_ok-posing-in-Moment-default-clause-begun : goal.returns-in_ok-posing-in-Moment-default-clause-begun
returns-in_ok-posing-in-Moment-default-clause-begun c = (about c.args.version c.args.depth c.args.question c.args.running, [], returns-in_ok-posing-in-Moment-default-clause-asked c)

pub returns-in_ok-posing-in-Large-default-clause-asked : goal.returns-in_ok-posing-in-Large-default-clause-asked
returns-in_ok-posing-in-Large-default-clause-asked c = record { opening = openings.Large c.in-Large-default.large; is = c.in-Large-default.is-0; talk = c.in_ok-posing-in-Large-default.ensures.posed }

pub returns-in_ok-posing-in-Large-default-clause-begun : goal.returns-in_ok-posing-in-Large-default-clause-begun
returns-in_ok-posing-in-Large-default-clause-begun c = (about c.args.version c.args.depth c.args.question c.args.running, [], returns-in_ok-posing-in-Large-default-clause-asked c)

pub returns-in_ok-looking-in-Lookup-Root-clause-asked : goal.returns-in_ok-looking-in-Lookup-Root-clause-asked
returns-in_ok-looking-in-Lookup-Root-clause-asked c =
    let root = c.in-Lookup-Root.root in
    let own = c.in_ok-looking-in-Lookup-Root.ensures in
    let new = c.in_ok-looking-in-Lookup-Root.looking in
    let some : 1 ≤ length (block_of c.args.running) = omega (arith, c.requires.levels, c.get-levels.ensures.same, c.get-levels.ensures.some) in
    record {
      version = own.asks.version;
      depth = own.asks.depth;
      is = c.in-Lookup-Root.is-0 ∙ ap questions.Lookup (sym own.asks.lookup);
      block = own.asks.block ∙ ap block_of (sym c.in-Lookup-Root.is-1);
      running = ap numbers_of c.in-Lookup-Root.is-1 ∙ ap root_is (sym own.asks.value);
      some = some;
      talk = subst (λ (v : ℕ). IsLooked new.root.seat v [] new) (sym own.asks.value) (subst (λ (l : List ℕ). IsLooked l root.value [] new) (sym own.asks.block) own.looked);
    }

pub returns-in_ok-looking-in-Lookup-Root-clause-begun : goal.returns-in_ok-looking-in-Lookup-Root-clause-begun
returns-in_ok-looking-in-Lookup-Root-clause-begun c = (about c.args.version c.args.depth c.args.question c.args.running, [], returns-in_ok-looking-in-Lookup-Root-clause-asked c)
