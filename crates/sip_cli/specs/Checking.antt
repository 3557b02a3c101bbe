-- What a command tells of deltas below 0, where it checks a stream or judges a stored run again.
use Rattle.std.specs.Prelude.{◌≡◌, ℕ, List, Option, Some}
use Rattle.sip_vector.specs.declared.tally.Negatives.{Negatives}
use Rattle.sip_transcript.specs.Credits.{StoredNegatives}
use Rattle.sip_verifier.specs.declared.status.Status.{Status}
use Rattle.sip_verifier.specs.declared.task.Task.{Task}
use Rattle.sip_verifier.specs.Negatives.{NegativesClause}
use Rattle.sip_words.specs.declared.command.Command.{Command}
use Rattle.sip_words.specs.declared.command.Command.TheVariants.{Audit, Verify, Play, Panel}

-- what a run of a task tells, where its first two ports have these to give
abbrev pub TellsOfRun : Task → Option (List ℕ) → Option (List ℕ) → Status → Negatives → Type 0
TellsOfRun task first second status now = (bytes seed : List ℕ) → first ≡ Some bytes
    → second ≡ Some seed → NegativesClause task bytes status now

-- what a command tells that ends so, of what it was told before
abbrev pub TellsNegatives : Command → Option (List ℕ) → Option (List ℕ) → Status → Negatives
    → Negatives → Type 0
TellsNegatives (Verify task) first second status old now =
    TellsOfRun task first second status now
TellsNegatives (Play task name) first second status old now =
    TellsOfRun task first second status now
TellsNegatives (Panel task names) first second status old now =
    TellsOfRun task first second status now
TellsNegatives (Audit form) first second status old now = (bytes stored : List ℕ)
    → first ≡ Some bytes → second ≡ Some stored → StoredNegatives form bytes stored status now
-- the others leave it alone
TellsNegatives _ first second status old now = now ≡ old
