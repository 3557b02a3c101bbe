-- Joint counts.
--
-- All queries of a run together. A joint helper may reply by all challenges that were revealed to
-- it so far, those of earlier queries too, and even by the last one of each earlier block, which is
-- never revealed: its key for reply j to query k is the first (k - 1)·d + j challenges of the run,
-- d being the depth. However it replies, it has a wrong answer to some query accepted at no more
-- than B·p^(N - 1) of the p^N vectors of challenges, N being the number of all challenges, p the
-- modulus, and B the sum of what the queries have one by one: d, 2d or 3d. For heavy hitters the
-- side may have no negative entry. Where a line of the report has another answer than the stream's
-- own, the run's challenges are such a vector, for every joint helper that replies at the run's
-- keys as the talk shows.
use Rattle.std.specs.Prelude.{◌≡◌, ◌≢◌, ℕ, ◌*◌, ◌-◌, ◌^◌, ◌<◌, ◌≤◌, Bool, true, false, ⊤, List, []}
use Rattle.std.specs.Prelude.{◌∷◌, ◌++◌, length, map, take, Some, All}
use Rattle.sip_field.specs.Moduli.{m61_modulus}
use Rattle.sip_vector.specs.declared.query.Query.{Query}
use Rattle.sip_vector.specs.declared.update.Update.{Update}
use Rattle.sip_vector.specs.Answers.{answer}
use Rattle.sip_counts.specs.Joint.{CountedQuestion, after, is_misled, misled, bounds}
use Rattle.sip_counts.specs.Strategies.{Strategy, IsOfBytes, replies}
use Rattle.sip_wire.specs.declared.version.Version.{Version}
use Rattle.sip_verifier.specs.CountClause.{accepts_in, bound_of, Written, questions_written}
use Rattle.sip_verifier.specs.Exchanges.{Exchange}
use Rattle.sip_verifier.specs.Inquiries.{Inquiry}
use Rattle.sip_verifier.specs.Kinds.{Kind, KindRow, built, missing, kind_row, OfKind}
use Rattle.sip_verifier.specs.Questions.{Question, updates}

-- ---- queries as those of one count

-- A query, by its row and by when replies to its kind are accepted. Those to a query whose check
-- doesn't stand here never are.
abbrev pub asked_by : (Kind → List ℕ → List (List ℕ) → Bool) → ℕ → KindRow → CountedQuestion
asked_by accepts depth (built kind) =
    record { accepts = accepts kind; is_right = kind.is_right; bound = bound_of depth kind }
asked_by accepts depth missing =
    record { accepts = λ block replies. false; is_right = λ replies. false; bound = 0 }

-- the queries of a run
abbrev pub all_asked : Version → ℕ → List Update → List Query → List CountedQuestion
all_asked version depth stream queries =
    map (λ q. asked_by accepts_in depth (kind_row version depth stream q)) queries

-- The replies of a joint strategy are those that were taken for these questions, behind these
-- challenges. Its key for reply j is all challenges of the questions before, and the first j of the
-- question's own block. Of a question that had fewer replies, those alone are compared.
abbrev pub RepliesSo : Strategy → List ℕ → List Question → Type 0
RepliesSo strategy earlier [] = ⊤
RepliesSo strategy earlier (q ∷ questions) =
    (take (length q.replies) (replies (after earlier strategy) q.block) ≡ map Some q.replies)
    × RepliesSo strategy (earlier ++ q.block) questions

-- ---- a run

module _ (i : Inquiry) (x : Exchange) where
  -- what the count asks of the stream for a query
  abbrev pub CanBeCounted : Query → Type 0
  CanBeCounted query =
      OfKind i.version i.depth (updates i x) query (λ kind. kind.CanBeCounted)

  abbrev pub asked_here : List CountedQuestion
  asked_here = all_asked i.version i.depth (updates i x) i.queries

  -- a vector of challenges, a block for each query, each below the modulus
  pub record IsJointVector (challenges : List ℕ) : Type 0 where
    pub size : length challenges ≡ length i.queries * i.depth
    pub below : All (λ r. r < m61_modulus) challenges

  -- Where the answer that was written is not the right one, the strategy has a wrong answer to some
  -- query accepted at these challenges. Only where nothing was asked is something asked of the
  -- stream: there the answer is the empty one, in which no helper has a part, and it is right on a
  -- side without a negative entry.
  abbrev pub IsMisledBy : Strategy → List ℕ → Written → Type 0
  IsMisledBy strategy challenges w =
      (w.question.replies ≡ [] → CanBeCounted w.question.query)
      → w.answer ≢ answer i.depth (updates i x) w.question.query
      → is_misled i.depth strategy asked_here [] challenges ≡ true

  -- the lines of answers are these
  pub record JointClause (lines : List Written) : Type 0 where
    -- no joint strategy has wrong answers accepted at more vectors than this
    pub few : All CanBeCounted i.queries → (strategy : Strategy) → IsOfBytes strategy
        → misled m61_modulus i.depth strategy asked_here
        ≤ bounds asked_here * m61_modulus ^ (length i.queries * i.depth - 1)
    -- the run's challenges are one of these vectors
    pub vector : (challenges : List ℕ) → i.challenges ≡ Some challenges
        → IsJointVector challenges
    -- and one at which a wrong answer is accepted, where a line has one
    pub counted : (challenges : List ℕ) → i.challenges ≡ Some challenges
        → (strategy : Strategy) → RepliesSo strategy [] (questions_written lines)
        → All (IsMisledBy strategy challenges) lines
