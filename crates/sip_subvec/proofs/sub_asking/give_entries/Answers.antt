use Rattle.std.proofs.Common.{pos, take, ◌++◌, [], ◌∷◌, get_or, ◌+◌, refl, ◌∙◌, arith}
use Rattle.std.proofs.lemmas.List.{length-set}
use Rattle.std.proofs.lemmas.List.Elements.{All-get_or}
use Rattle.sip_vector.specs.declared.update.Entry.{Entry}
use Rattle.sip_subvec.specs.Checking.{AnswersAs}
use Rattle.sip_subvec.specs.Replies.{with_entries}
use Rattle.sip_subvec.specs.Asking.{IsTakenValue, HasEntries}
use Rattle.sip_subvec.proofs.GivenEntries.{Giving-none, Giving-more, Gives-fault, Gives-all, has_place, row_answer}
use Rattle.sip_subvec.proofs.sub_asking.give_entries.Goals as goal
use Rattle.sip_subvec.proofs.sub_asking.give_entries.Goals.{After-entry}

none : Entry
none = record { index = 0; value = pos 0 }

pub loop-index-init : goal.loop-index-init
loop-index-init c = record {
  giving = Giving-none c.args.check.now c.args.rows.now c.args.entries.now c.args.found c.requires.given c.requires.found c.requires.room;
  places = refl;
  revealed = refl;
}

-- what the check answered to the row
answer : (c : After-entry) → AnswersAs (with_entries c.args.check.now.lo c.args.check.now.hi (take c.args.found c.args.entries.now ++ take c.loop-index.index c.args.rows.now) (get_or c.args.rows.now c.loop-index.index none ∷ []))
    (λ all. HasEntries c.args.check.now all c.entry.new.self) c.entry.new.self c.entry.result
unfolding none
answer c =
    let begun = c.args.check.now in
    let so_far = take c.args.found c.args.entries.now ++ take c.loop-index.index c.args.rows.now in
    let row = get_or c.args.rows.now c.loop-index.index none in
    let value = All-get_or IsTakenValue c.args.rows.now c.loop-index.index none c.loop-index-test.true c.requires.values in
    row_answer begun so_far row c.entry.new.self c.entry.result value
    (c.entry.ensures.answers begun.root begun.lo begun.hi begun.challenges (record { entries = so_far; siblings = [] }) c.loop-index.invariant.giving.held)

pub returns-in_err-entry-clause-gives : goal.returns-in_err-entry-clause-gives
returns-in_err-entry-clause-gives c =
    Gives-fault c.args.check.now (take c.args.found c.args.entries.now) c.args.rows.now c.args.found c.loop-index.index c.loop-index.check c.loop-index.entries c.loop-index.invariant.giving none c.loop-index-test.true c.entry.new.self c.entry.result
    (answer (goal.at.returns-in_err-entry-clause-gives c).After-entry) c.in_err-entry.field-0.0 c.loop-index.entries c.from_residual.result c.in_err-entry.was c.from_residual.ensures.1

pub bounds-entries-found : goal.bounds-entries-found
bounds-entries-found c =
    has_place c.args.check.now (take c.args.found c.args.entries.now) c.args.rows.now c.args.found c.loop-index.index c.loop-index.check c.loop-index.entries c.loop-index.invariant.giving none c.loop-index-test.true c.entry.new.self c.entry.result
    (answer (goal.at.bounds-entries-found c).After-entry) c.in_ok-entry.field-0 c.in_ok-entry.was

pub loop-index-preserved : goal.loop-index-preserved
unfolding none
loop-index-preserved c = record {
  giving = Giving-more c.args.check.now (take c.args.found c.args.entries.now) c.args.rows.now c.args.found c.loop-index.index c.loop-index.check c.loop-index.entries c.loop-index.invariant.giving none c.loop-index-test.true c.entry.new.self c.entry.result
      (answer (goal.at.loop-index-preserved c).After-entry) c.in_ok-entry.field-0 c.in_ok-entry.was;
  places = length-set c.loop-index.entries (c.args.found + c.loop-index.index) (get_or c.args.rows.now c.loop-index.index none) ∙ c.loop-index.auto.entries;
  revealed = omega (arith, c.entry.ensures.advances.revealed, c.loop-index.invariant.revealed);
}

pub returns-clause-gives : goal.returns-clause-gives
returns-clause-gives c =
    Gives-all c.args.check.now (take c.args.found c.args.entries.now) c.args.rows.now c.args.found c.loop-index.index c.loop-index.check c.loop-index.entries c.loop-index.invariant.giving (omega arith)
