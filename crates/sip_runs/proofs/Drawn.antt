-- A run at the challenges that a seed gives.
use Rattle.std.proofs.Common.{◌≡◌, ◌*◌, ℕ, List, [], length, Some, sym, subst}
use Rattle.std.specs.Prelude.{Result, Ok, Err, IfOk, IfErr}
use Rattle.sip_verifier.specs.Draws.{challenges_of}
use Rattle.sip_questions.specs.declared.question.Question.{Question}
use Rattle.sip_runs.specs.declared.following.Following.{Following}
use Rattle.sip_runs.specs.declared.start.RunStart.{RunStart}
use Rattle.sip_runs.specs.declared.start.RunStart.TheVariants as starts
use Rattle.sip_runs.specs.Plans.{CanBegin, plan_of}
use Rattle.sip_runs.specs.Runs.{Begins, IsFollowed}

-- the challenges are there, and the run, or no memory
pub drawn_begins : (depth : ℕ) (questions : List Question) (seed challenges : List ℕ) (result : Result Following RunStart) → CanBegin depth questions
    → challenges_of (depth * length questions) seed ≡ Some challenges → IfOk result (IsFollowed (plan_of depth questions challenges) [] []) → IfErr result (λ start. start ≡ starts.OutOfMemory)
    → Begins depth questions seed result
drawn_begins depth questions seed challenges (Ok f) can drawn given memory = (can, challenges, drawn, given)
drawn_begins depth questions seed challenges (Err start) can drawn given memory =
    subst (λ (s : RunStart). Begins depth questions seed (Err s)) (sym memory) can
