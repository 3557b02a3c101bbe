-- What a call keeps that asks for large entries over places. (For the proofs of `ask_large` alone.)
use Rattle.std.specs.Prelude.{◌≡◌, ℕ, List, length, take, Result, Ok, Err}
use Rattle.sip_field.specs.Moduli.{m61_modulus}
use Rattle.sip_replies.specs.declared.asking.AskStop.{AskStop}
use Rattle.sip_replies.specs.declared.check.Said.{Said}
use Rattle.sip_tree.specs.StandsFor.{SplitRootStandsFor}
use Rattle.sip_vector.specs.declared.update.Entry.{Entry}
use Rattle.sip_vector.specs.declared.update.Update.{Update}
use Rattle.sip_wire.specs.declared.version.Version.{Version}
use Rattle.sip_verifier.specs.declared.asker.Unanswered.{Unanswered}
use Rattle.sip_verifier.specs.AskClause.{AskClause}
use Rattle.sip_verifier.specs.inside.Judging.{found_in}
use Rattle.sip_verifier.specs.Snapshots.{Span}
use Rattle.sip_verifier.specs.runs.Askers.{Asks, unanswered_by}
use Rattle.sip_above.specs.declared.large.Large.{Large}
use Rattle.sip_above.specs.Manner.{asking, values_of, weights_of}

-- what came of a question; it is never answered by a number
abbrev pub verdict_of : Result Said AskStop → Result (Unit {0}) Unanswered
verdict_of (Ok said) = Ok tt
verdict_of (Err stop) = Err (unanswered_by stop)

-- They are asked at these challenges. The answer speaks of each stream for which this hash and this
-- weight stand. The places are `free` before the call and `placed` after it.
pub record AsksOver (version : Version) (large : Large) (block : List ℕ) (hash weight : ℕ)
    (free placed : List Entry) (result : Result Said AskStop) (link keep : Span) : Type 0 where
  -- what was answered, for each such stream
  pub asks : (depth : ℕ) (stream : List Update)
      → SplitRootStandsFor m61_modulus block hash weight (values_of depth stream large)
      (weights_of depth stream large)
      → Asks (asking version depth stream) (large, block) link.before.told link.after.told
      (λ (_ : Unit {0}) (answer : List Entry).
      take (found_in (length placed) result) placed ≡ answer)
      (verdict_of result)
  -- there are as many places as before
  pub places : length placed ≡ length free
  -- what is kept of the talk, and where a fault of a port comes from
  pub keeps : AskClause version link keep (verdict_of result)
