-- The clause of completeness, by those of verdicts and of causes.
use Rattle.std.proofs.Common.{ℕ, ◌≤◌, List, [], ◌∷◌, ◌++◌, All, ap, ◌∙◌}
use Rattle.std.proofs.lemmas.List.Elements.{All-cons, All-head, All-nil, All-tail}
use Rattle.sip_vector.specs.declared.query.Query.{Query}
use Rattle.sip_vector.specs.declared.update.Update.{Update}
use Rattle.sip_vector.specs.Answers.{Fits}
use Rattle.sip_vector.specs.Limits.{most_depth}
use Rattle.sip_vector.specs.Streams.{IsLegal}
use Rattle.sip_wire.specs.declared.version.Version.{Version}
use Rattle.sip_wire.specs.Versions.{Speaks}
use Rattle.sip_wire.proofs.Asking.{needed-speaks}
use Rattle.sip_stream.proofs.LegalRecords.{records_legal}
use Rattle.sip_verifier.specs.declared.status.Status.{Status}
use Rattle.sip_verifier.specs.declared.status.Status.TheVariants as statuses
use Rattle.sip_verifier.specs.declared.task.Task.{Task}
use Rattle.sip_verifier.specs.CauseClause.{CauseClause}
use Rattle.sip_verifier.specs.CompletenessClause.{CompletenessClause, HasFewEntries, honesty}
use Rattle.sip_verifier.specs.Draws.{blocks, challenge_count}
use Rattle.sip_verifier.specs.Exchanges.{Exchange}
use Rattle.sip_verifier.specs.Inquiries.{inquiry_of}
use Rattle.sip_verifier.specs.Kinds.{kind_row}
use Rattle.sip_verifier.specs.Snapshots.{Counts}
use Rattle.sip_verifier.specs.Questions.{asking, is_refused, updates}
use Rattle.sip_verifier.specs.Tasks.{version_of}
use Rattle.sip_verifier.specs.VerdictClause.{VerdictClause}
use Rattle.sip_verifier.proofs.Blocks.{IsBlock, are_blocks, none_drawn}
use Rattle.sip_verifier.proofs.CompleteManners as manners
use Rattle.sip_verifier.proofs.CompleteManners.{Judges, all_zipped}
use Rattle.sip_verifier.proofs.HeardQuestions.{faulty_heard, question_heard}
use Rattle.sip_verifier.proofs.HonestQuestions.{question_done, question_faulty}
use Rattle.sip_verifier.proofs.WideQueries.{none_wide}

module _ (task : Task) (x : Exchange) (some : 1 ≤ task.depth) (most : task.depth ≤ most_depth)
    (all_fit : All (Fits task.depth) task.queries.items) where
  abbrev version : Version
  version = version_of task

  abbrev stream : List Update
  stream = updates (inquiry_of task x) x

  legal : IsLegal task.depth stream
  legal = records_legal task.depth task.form x.stream

  -- the query has a spelling, and its answer has few enough entries
  record CanBeAsked (query : Query) : Type 0 where
    fits : Fits task.depth query
    speaks : Speaks version task.depth query
    few : HasFewEntries version task.depth stream query

  all_can : (queries : List Query) → All (Fits task.depth) queries
      → All (Speaks version task.depth) queries
      → All (HasFewEntries version task.depth stream) queries → All CanBeAsked queries
  all_can [] fit speak few = All-nil CanBeAsked
  all_can (q ∷ queries) fit speak few =
      All-cons CanBeAsked q queries (record {
        fits = All-head (Fits task.depth) q queries fit;
        speaks = All-head (Speaks version task.depth) q queries speak;
        few = All-head (HasFewEntries version task.depth stream) q queries few;
      })
      (all_can queries (All-tail (Fits task.depth) q queries fit)
      (All-tail (Speaks version task.depth) q queries speak)
      (All-tail (HasFewEntries version task.depth stream) q queries few))

  -- such a query at a whole block
  abbrev CanBeJudged : Query × List ℕ → Type 0
  CanBeJudged ask = CanBeAsked ask.0 × IsBlock task.depth ask.1

  judges : Judges asking honesty (inquiry_of task x) x CanBeJudged
  judges = record {
    accepted = λ t written b a can accepts agree.
        question_done version task.depth stream some legal t.query t.block t.replies written b a
        can.0.fits can.0.speaks can.0.few can.1 accepts
        (agree ∙ ap (λ l. l ++ a) (question_heard (kind_row version task.depth stream t.query)
        t.query t.block t.replies written accepts));
    faulty = λ t fault b a can faulty other agree.
        question_faulty version task.depth stream some legal t.query t.block t.replies fault b a
        can.0.fits can.0.speaks can.0.few can.1 faulty other
        (agree ∙ ap (λ l. l ++ a) (faulty_heard version task.depth stream t.query t.block t.replies
        fault faulty));
  }

  -- no answer may be too wide
  not_refused : All (HasFewEntries version task.depth stream) task.queries.items
      → (status : Status) → is_refused stream task.queries.items status → ⊥
  not_refused few (statuses.TooWide query) wide =
      let narrow = none_wide version task.depth stream task.queries.items legal.items few in
      absurd cc
  not_refused few _ refused = refused

  pub completes : (before now : Counts) (status : Status)
      → VerdictClause (inquiry_of task x) x status
      → CauseClause (inquiry_of task x) x before now status
      → CompletenessClause task x before now status
  completes =
      manners.completes asking honesty (inquiry_of task x) x CanBeJudged judges
      (λ h. all_zipped CanBeAsked (IsBlock task.depth) task.queries.items
      (blocks task h.challenges)
      (all_can task.queries.items all_fit (needed-speaks task.depth task.queries.items most) h.can)
      (are_blocks task x.seed h.challenges some h.drawn))
      (λ h. not_refused h.can) (none_drawn (challenge_count task) x.seed)
