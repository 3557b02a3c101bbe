-- From the question at hand to the next one.
use Rattle.std.proofs.Common.{◌≡◌, ℕ, Some, None, Ok, Err, sym, subst}
use Rattle.std.proofs.lemmas.Option.{none-some}
use Rattle.sip_c.specs.RunAsking.{GoesBehind, TurnsTo}
use Rattle.sip_c.specs.Talks.{IsNextNumber, Verdict, next_number}
use Rattle.sip_c.specs.declared.refusal.Refusal.TheVariants as refusals
use Rattle.sip_c.specs.declared.run_asking.RunAsking.{RunAsking}
use Rattle.sip_c.specs.declared.run_asking.RunStep.TheVariants as at
use Rattle.sip_c.specs.declared.talk.Talk.{Talk}

-- behind an answer the next question has its turn
pub goes : (a b : RunAsking) (talk : Talk) (number : ℕ) (said : Verdict) → IsNextNumber talk.number said (Some number) → TurnsTo number a.left b.left b.step → GoesBehind a talk said (Ok tt) b
goes a b talk number None is turns = absurd (none-some number (sym is))
goes a b talk number (Some (Ok given)) is turns =
    let some : Some number ≡ Some (next_number talk.number) = is in
    let same : number ≡ next_number talk.number = cc in
    subst (λ (n : ℕ). TurnsTo n a.left b.left b.step) same turns
goes a b talk number (Some (Err why)) is turns = absurd (none-some number (sym is))

-- or there is no memory for it
pub stops : (a b : RunAsking) (talk : Talk) (number : ℕ) (said : Verdict) → IsNextNumber talk.number said (Some number) → b.step ≡ at.Stopped → GoesBehind a talk said (Err refusals.NoMemory) b
stops a b talk number None is step = absurd (none-some number (sym is))
stops a b talk number (Some (Ok given)) is step = step
stops a b talk number (Some (Err why)) is step = absurd (none-some number (sym is))
