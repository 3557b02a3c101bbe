-- What was said of the stream is what a run of it says.
use Rattle.std.proofs.Common.{◌≡◌, ◌++◌, ℕ, ap, ap₂, sym, ◌∙◌}
use Rattle.std.specs.List.{flat_map}
use Rattle.sip_wire.specs.declared.version.Version.{Version}
use Rattle.sip_verifier.specs.Talks.{stream_sent}
use Rattle.sip_verifier.specs.runs.Runs.{manner, updates}
use Rattle.sip_questions.specs.Questions.{asking}
use Rattle.sip_runs.proofs.Fronts.{all_said, front_said}
use Rattle.sip_runs.proofs.laws.steps_are_run.Goals as goal

pub returns-clause-front : goal.returns-clause-front
returns-clause-front c = front_said

pub returns-clause-all : goal.returns-clause-all
returns-clause-all c = all_said

pub returns-clause-run : goal.returns-clause-run
returns-clause-run c = λ p stream events rest f r x questions is ended version depth same legal are talk.
    let said = all_said p stream events f is ended in
    let own : stream_sent p.version p.depth stream ≡ stream_sent r.version r.depth (updates r x) =
    ap (stream_sent p.version p.depth) (sym same) ∙ sym (ap₂ (λ (v : Version) (d : ℕ). stream_sent v d (updates r x)) version depth) in
    record {
      are_questions = are;
      legal = legal;
      talk = talk ∙ ap (λ l. l ++ flat_map (manner asking r x).said_for questions ++ rest) (said ∙ own);
    }
