-- What a call keeps that asks a query over places for the pairs of its answer. (For the proofs of
-- `ask_by_kind` and its parts alone.)
use Rattle.std.specs.Prelude.{◌≡◌, ℕ, List, length, take, Result}
use Rattle.sip_vector.specs.declared.query.Query.{Query}
use Rattle.sip_vector.specs.declared.update.Entry.{Entry}
use Rattle.sip_vector.specs.declared.update.Update.{Update}
use Rattle.sip_wire.specs.declared.version.Version.{Version}
use Rattle.sip_replies.specs.declared.asking.AskStop.{AskStop}
use Rattle.sip_replies.specs.declared.check.Said.{Said}
use Rattle.sip_verifier.specs.AskClause.{AskClause, came_of}
use Rattle.sip_verifier.specs.Asking.{Asks}
use Rattle.sip_verifier.specs.Snapshots.{Span}
use Rattle.sip_verifier.specs.inside.Judging.{found_in, verdict_of}

-- The query is asked at these challenges. `Stands` says of which streams, and at which depths, the
-- answer speaks. The places are `free` before the call and `placed` after it.
pub record AsksOver (version : Version) (query : Query) (block : List ℕ)
    (Stands : ℕ → List Update → Type 0) (free placed : List Entry)
    (result : Result Said AskStop) (link keep : Span) : Type 0 where
  -- what was answered, for each such stream
  pub asks : (depth : ℕ) (stream : List Update) → Stands depth stream
      → Asks version depth stream query block link.before.told link.after.told
      (take (found_in (length placed) result) placed) (verdict_of result)
  -- there are as many places as before
  pub places : length placed ≡ length free
  -- what is kept of the talk, and where a fault of a port comes from
  pub keeps : AskClause version link keep (came_of (verdict_of result))
