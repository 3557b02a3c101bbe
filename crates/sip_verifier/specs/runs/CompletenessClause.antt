-- Completeness.
--
-- Take a seed that gives challenges, a legal stream, and queries that an honest helper can answer.
-- Let the link give the bytes of honest replies at the run's blocks, or a front of them, and not
-- end. If no port's count of faults rises, then each query is accepted and the report has the
-- stream's own answers; or memory ran out.
use Rattle.std.specs.Prelude.{◌≡◌, ◌≢◌, ◌⊎◌, ℕ, List, flat_map, Some, All}
use Rattle.std.specs.List.{zip}
use Rattle.sip_ports.specs.declared.port.TalkEvent.TheVariants.{Ended}
use Rattle.sip_ports.specs.Ports.{heard, Rose}
use Rattle.sip_replies.specs.Talks.{IsPrefix}
use Rattle.sip_vector.specs.declared.update.Update.{Update}
use Rattle.sip_vector.specs.Pieces.{cut}
use Rattle.sip_wire.specs.declared.version.Version.{Version}
use Rattle.sip_verifier.specs.declared.status.Status.{Status}
use Rattle.sip_verifier.specs.declared.status.Status.TheVariants as statuses
use Rattle.sip_verifier.specs.Exchanges.{Exchange}
use Rattle.sip_verifier.specs.Snapshots.{Counts}
use Rattle.sip_verifier.specs.runs.Manners.{Asking}
use Rattle.sip_verifier.specs.runs.Runs.{Run, manner, updates, IsLegalToEnd}

-- What an honest helper does, by the version, the depth and the stream.
pub record Honesty (Q A : Type 0) : Type 1 where
  -- it can answer this query
  pub CanAnswer : Version → ℕ → List Update → Q → Type 0
  -- the bytes of all its replies to a query at its block
  pub honest_bytes : Version → ℕ → List Update → Q × List ℕ → List ℕ
  -- the answer that the stream's own vectors give
  pub answer : ℕ → List Update → Q → A

-- no port's count of faults rose
pub record NoneRose (before now : Counts) : Type 0 where
  pub first : ¬ Rose before.first now.first
  pub second : ¬ Rose before.second now.second
  pub peer : ¬ Rose before.peer now.peer
  pub report : ¬ Rose before.report now.report
  pub keep : ¬ Rose before.keep now.keep

module _ {Q A : Type 0} (asking : Asking Q A) (honesty : Honesty Q A) (r : Run Q)
    (x : Exchange) where
  -- the seed and the stream are good, and what was heard is a front of honest replies, which the
  -- link's end did not cut
  pub record IsHonest : Type 0 where
    pub challenges : List ℕ
    pub drawn : r.challenges ≡ Some challenges
    pub legal : IsLegalToEnd r x
    pub can : All (honesty.CanAnswer r.version r.depth (updates r x)) r.queries
    pub heard : IsPrefix (heard x.talk)
        (flat_map (honesty.honest_bytes r.version r.depth (updates r x))
        (zip r.queries (cut r.depth challenges)))
    pub lasts : All (λ e. e ≢ Ended) x.talk

  -- the report of a run whose queries were all accepted, with the stream's own answers
  abbrev pub honest_report : List ℕ
  honest_report = flat_map
      (λ q. (manner asking r x).line q (honesty.answer r.depth (updates r x) q)) r.queries

  abbrev pub CompletenessClause : Counts → Counts → Status → Type 0
  CompletenessClause before now status =
      IsHonest → NoneRose before now
      → ((status ≡ statuses.Accepted) × (x.report ≡ honest_report))
      ⊎ (status ≡ statuses.OutOfMemory)
