-- What was gathered is a seat of a second moment for each moment.
use Rattle.std.proofs.Common.{ap, ◌∙◌}
use Rattle.std.proofs.lemmas.Result.{IfOk-weaker}
use Rattle.sip_verifier.specs.declared.task.Task.{Task}
use Rattle.sip_verifier.specs.Snapshots.{no_port}
use Rattle.sip_moments.proofs.MomentRuns.{squares_done}
use Rattle.sip_moments.proofs.stream.gather_questions.Goals as goal

pub gather-weights-requires : goal.gather-weights-requires
gather-weights-requires g c = rw c.squares.ensures (squares_done c.args.task.now c.requires)

pub seat_questions-requires-clause-same : goal.seat_questions-requires-clause-same
seat_questions-requires-clause-same g c =
    IfOk-weaker c.gather-weights.new.gathered _ _ (λ seats seated. seated.1 ∙ ap (λ (t : Task). t.queries.items) c.squares.ensures)
    (c.gather-weights.ensures.keeps no_port no_port).seated

pub returns-clause-gathers : goal.returns-clause-gathers
returns-clause-gathers g c = (c.gather-weights.new.gathered, c.gather-weights.result, rw c.squares.ensures at c.gather-weights.ensures.keeps, c.seat_questions.ensures)
