-- Queries over one stream, each with a block of challenges of its own, and how many vectors of all
-- their challenges a helper can win by, modulo any prime. A run's own count is modulo 2^61 - 1.
use Rattle.std.specs.Prelude.{ℕ, ◌<◌, ◌≤◌, List, length, map, All}
use Rattle.sip_vector.specs.declared.query.Query.{Query}
use Rattle.sip_vector.specs.declared.update.Update.{Update}
use Rattle.sip_vector.specs.Answers.{Fits}
use Rattle.sip_counts.specs.Joint.{CountedQuestion, misled}
use Rattle.sip_counts.specs.Strategies.{Strategy}
use Rattle.sip_wire.specs.declared.version.Version.{Version}
use Rattle.sip_verifier.specs.JointClause.{asked_by}
use Rattle.sip_verifier.specs.Kinds.{kind_row_over, Holds}
use Rattle.sip_verifier.specs.Questions.{Question}

-- The queries as those of one count, modulo p. The bytes of a number leave room for those that are
-- small modulo 2^61 - 1; over a lesser modulus what replies state has to be small for it.
abbrev pub asked_over : Version → ℕ → ℕ → List Update → List Query → List CountedQuestion
asked_over version p depth stream queries =
    map (λ q. asked_by (λ kind. kind.accepts_small) depth
    (kind_row_over version p depth stream q)) queries

-- At how many of the vectors of a block for each query some query has replies accepted that say
-- another answer than the stream's. The strategy's key for reply j to query k are all challenges of
-- the queries before, and the first j of its own block: it sees whole earlier blocks.
abbrev pub misled_over : Version → ℕ → ℕ → List Update → List Query → Strategy → ℕ
misled_over version p depth stream queries strategy =
    misled p depth strategy (asked_over version p depth stream queries)

-- the query fits the depth, and the stream is as the count of its kind asks, modulo p
abbrev pub CanBeCountedOver : Version → ℕ → ℕ → List Update → Query → Type 0
CanBeCountedOver version p depth stream query =
    Fits depth query
    × Holds (λ kind. kind.CanBeCounted × kind.AreSmall)
    (kind_row_over version p depth stream query)

-- no more replies were taken for the question than it has challenges, and they are made of bytes
pub record HasRoom (q : Question) : Type 0 where
  pub few : length q.replies ≤ length q.block
  pub bytes : All (λ reply. All (λ b. b < 256) reply) q.replies
