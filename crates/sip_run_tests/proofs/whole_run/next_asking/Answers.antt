-- The next question can be asked, its numbers are those of the stream, and the others are left.
use Rattle.std.proofs.Common.{◌≡◌, Option, subst, ◌∙◌}
use Rattle.std.specs.Prelude.{IfSome}
use Rattle.sip_runs.specs.declared.seat.RunSeat.{RunSeat}
use Rattle.sip_runs.specs.Runs.{IsFirstOf, behind_first}
use Rattle.sip_run_tests.proofs.whole_run.next_asking.Goals as goal

pub begin-requires : goal.begin-requires
begin-requires c =
    let left = c.requires in
    let asked = c.next.ensures.asked left.0 left.1 left.2 in
    let first = subst (λ (o : Option RunSeat). IfSome o (IsFirstOf left.0 left.1)) c.in-Some.is asked.0 in
    let version : c.version.result ≡ left.0.version = c.version.ensures ∙ asked.1.version in
    let depth : c.depth.result ≡ left.0.depth = c.depth.ensures ∙ asked.1.depth in
    let question = c.question-question.ensures in
    let running = c.into_running.ensures in
    record {
      shallow = rw (version, depth) asked.1.shallow;
      can = rw (version, depth, question) first.seated.can;
      levels = rw (running, depth) first.seated.levels;
      keeps = rw (question, running) first.seated.kept;
    }

pub returns-in_err-begin-clause-left : goal.returns-in_err-begin-clause-left
returns-in_err-begin-clause-left c =
    let left = c.requires in
    (behind_first left.0, left.1, (c.next.ensures.asked left.0 left.1 left.2).1)

pub returns-clause-left : goal.returns-clause-left
returns-clause-left c =
    let left = c.requires in
    (behind_first left.0, left.1, (c.next.ensures.asked left.0 left.1 left.2).1)
